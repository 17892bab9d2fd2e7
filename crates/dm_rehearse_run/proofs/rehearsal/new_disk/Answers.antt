use Rattle.std.proofs.Common.{List, None, IfOk, subst}
use Rattle.dm_disk.specs.declared.failing.FailingCall.{FailingCall}
use Rattle.dm_disk.specs.Memory.{IsFresh}
use Rattle.dm_rehearse_run.proofs.Keeping.{empty_if, new_kept_if}
use Rattle.dm_rehearse_run.proofs.rehearsal.new_disk.Goals as goal

pub returns-clause-empty : goal.returns-clause-empty
returns-clause-empty c = empty_if c.new-2.result c.new-2.ensures.empty (subst (λ (failing : List FailingCall). IfOk c.new-2.result (IsFresh failing None)) c.new.ensures c.new-2.ensures.fresh)

pub returns-clause-kept : goal.returns-clause-kept
returns-clause-kept c = new_kept_if c.new-2.result c.new-2.ensures.empty
