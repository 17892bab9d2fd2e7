use Rattle.dm_reply.proofs.Outcomes.{one_ending, whole_alone}
use Rattle.dm_reply.proofs.laws.one_outcome.Goals as goal

pub returns-clause-ending : goal.returns-clause-ending
returns-clause-ending c = one_ending

pub returns-clause-whole : goal.returns-clause-whole
returns-clause-whole c = whole_alone
