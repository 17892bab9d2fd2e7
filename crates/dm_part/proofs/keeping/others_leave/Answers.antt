use Rattle.dm_part.specs.Laws.{by_test}
use Rattle.dm_part.proofs.Beside.{claim_left, shortness_left}
use Rattle.dm_part.proofs.keeping.others_leave.Goals as goal

pub returns-clause-claim : goal.returns-clause-claim
returns-clause-claim c test claim = claim_left (by_test test) claim

pub returns-clause-short : goal.returns-clause-short
returns-clause-short c part total = shortness_left part total
