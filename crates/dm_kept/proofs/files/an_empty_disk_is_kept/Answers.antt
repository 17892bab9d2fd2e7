use Rattle.dm_kept.specs.Files.{by_test}
use Rattle.dm_kept.proofs.Resting.{empty_kept}
use Rattle.dm_kept.proofs.files.an_empty_disk_is_kept.Goals as goal

pub returns : goal.returns
returns c good test disk absent = empty_kept good (by_test test) disk absent
