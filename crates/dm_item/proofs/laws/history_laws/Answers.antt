use Rattle.dm_item.proofs.Lasting.{at_most_five, done_once, stays_over}
use Rattle.dm_item.proofs.laws.history_laws.Goals as goal

pub returns-clause-done_once : goal.returns-clause-done_once
returns-clause-done_once c = done_once

pub returns-clause-stays_over : goal.returns-clause-stays_over
returns-clause-stays_over c = stays_over

pub returns-clause-at_most_five : goal.returns-clause-at_most_five
returns-clause-at_most_five c = at_most_five
