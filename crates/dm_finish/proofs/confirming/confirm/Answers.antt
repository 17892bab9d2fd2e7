use Rattle.std.proofs.Common.{sym, subst}
use Rattle.std.specs.Prelude.{IfOk, Result}
use Rattle.dm_types.specs.declared.kinds.DiskKind.{DiskKind}
use Rattle.dm_disk_model.specs.Disk.{now}
use Rattle.dm_finish.specs.declared.confirming.Confirmed.{Confirmed}
use Rattle.dm_finish.specs.Ending.{ConfirmedAs}
use Rattle.dm_finish.proofs.Sums.{confirmed_sum, fault_cause, fault_found, has_sum}
use Rattle.dm_finish.proofs.confirming.confirm.Goals as goal

pub returns-in-Ok-clause-is : goal.returns-in-Ok-clause-is
returns-in-Ok-clause-is g c =
    confirmed_sum g.D.Disk.tells (now (g.D.Disk.history c.args.disk.now)) c.args.part.now c.args.total c.args.stated c.in-Ok.have c.compare.result c.compare.ensures
    (λ told. has_sum (now (g.D.Disk.history c.args.disk.now)) c.args.part.now c.args.total c.in-Ok.have (c.requires told) (c.in-Ok.ensures.is told))

pub returns-in-Err-clause-is : goal.returns-in-Err-clause-is
returns-in-Err-clause-is g c =
    subst (λ (r : Result Confirmed DiskKind). IfOk r (ConfirmedAs g.D.Disk.tells (now (g.D.Disk.history c.args.disk.now)) c.args.part.now c.args.total c.args.stated)) (sym c.ended.ensures)
    (fault_found g.D.Disk.tells (now (g.D.Disk.history c.args.disk.now)) c.args.part.now c.args.total c.args.stated c.in-Err.fault c.requires c.in-Err.ensures.below c.in-Err.ensures.short)

pub returns-in-Err-clause-cause : goal.returns-in-Err-clause-cause
returns-in-Err-clause-cause g c = fault_cause (g.D.Disk.faults c.args.disk.now) (g.D.Disk.faults c.digest.new.disk) c.in-Err.fault c.ended.result c.ended.ensures c.digest.ensures.cause.later c.in-Err.ensures.cause.cause
