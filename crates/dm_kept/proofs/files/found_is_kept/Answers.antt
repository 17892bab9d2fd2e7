use Rattle.dm_kept.specs.Files.{by_test}
use Rattle.dm_kept.proofs.Resting.{found_facts}
use Rattle.dm_kept.proofs.files.found_is_kept.Goals as goal

pub returns : goal.returns
returns c good test history disk sound was reads = found_facts good (by_test test) history disk sound was reads
