use Rattle.std.proofs.Common.{[]}
use Rattle.dm_kept.specs.Files.{by_test}
use Rattle.dm_kept.proofs.Resting.{sits_kept}
use Rattle.dm_kept.proofs.files.sits_exactly.Goals as goal

pub returns : goal.returns
returns c good test history gate covers disk sits = sits_kept good (by_test test) history [] gate covers disk sits
