use Rattle.dm_item.specs.Lawful.{items_of}
use Rattle.dm_kept.specs.Files.{by_test}
use Rattle.dm_kept.proofs.FilesKept.{facts_sound}
use Rattle.dm_kept.proofs.files.kept_is_sound.Goals as goal

pub returns : goal.returns
returns c test history disk image facts left = facts_sound (by_test test) (items_of history) disk image left facts
