use Rattle.std.proofs.Common.{arith}
use Rattle.dm_record.proofs.Lengths.{spelling-at_most}
use Rattle.dm_record.proofs.laws.longest_spelling.Goals as goal

pub returns : goal.returns
returns c = λ entry is. (omega arith, spelling-at_most entry is)
