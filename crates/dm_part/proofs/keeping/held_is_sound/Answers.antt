use Rattle.dm_part.specs.Laws.{by_test}
use Rattle.dm_part.proofs.Sound.{held_each, short_left}
use Rattle.dm_part.proofs.Standing.{held_stands, part_reads, moving_reads, published_reads}
use Rattle.dm_part.proofs.keeping.held_is_sound.Goals as goal

pub returns-clause-sound : goal.returns-clause-sound
returns-clause-sound c test claim disk held image leaves = held_each (by_test test) claim disk held image leaves

pub returns-clause-short : goal.returns-clause-short
returns-clause-short c part total disk short image leaves = short_left disk.files image.files leaves.files part total short

pub returns-clause-stands : goal.returns-clause-stands
returns-clause-stands c test claim disk held = held_stands (by_test test) claim disk held

pub returns-clause-reads : goal.returns-clause-reads
returns-clause-reads c test claim disk going held bytes reads = part_reads (by_test test) claim disk going held bytes reads

pub returns-clause-moving : goal.returns-clause-moving
returns-clause-moving c test claim disk moving held name bytes either reads = moving_reads (by_test test) claim disk moving held name bytes either reads

pub returns-clause-published : goal.returns-clause-published
returns-clause-published c test claim disk published held bytes reads = published_reads (by_test test) claim disk published held bytes reads
