use Rattle.dm_part.specs.Laws.{by_test}
use Rattle.dm_part.proofs.Beginning.{sound_held}
use Rattle.dm_part.proofs.keeping.sound_is_held.Goals as goal

pub returns : goal.returns
returns c test claim image disk begins sound short = sound_held disk.files image.files begins (by_test test) claim sound short
