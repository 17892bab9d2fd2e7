use Rattle.std.proofs.Common.{Err, subst}
use Rattle.dm_types.specs.declared.reason.Reason.{Reason}
use Rattle.dm_disk_model.specs.Disk.{now}
use Rattle.dm_store.specs.Store.{view_of}
use Rattle.dm_answers.specs.declared.fault.DeskFault.TheVariants as faults
use Rattle.dm_finish.specs.declared.confirming.Confirmed.{Confirmed}
use Rattle.dm_finish.specs.Closing.{StopMakes}
use Rattle.dm_finish.specs.Ending.{ConfirmedAs}
use Rattle.dm_finish.proofs.Begun.{closing_stands}
use Rattle.dm_finish.proofs.Closings.{closes_fault, closes_other, closes_short, closes_sum, sum_ending}
use Rattle.dm_finish.proofs.closing.close.Goals as goal

pub confirm-requires : goal.confirm-requires
confirm-requires g c =
    closing_stands g.D.Disk.tells g.D.Disk.history (view_of c.args.store.now) c.requires.store.desk c.requires.whole c.args.id c.args.total c.args.stated c.args.naming c.requires.closing

pub complete-requires-clause-ending : goal.complete-requires-clause-ending
complete-requires-clause-ending g c =
    sum_ending g.D.Disk.tells g.D.Disk.history g.D.Disk.faults (view_of c.args.store.now) c.confirm.new.disk c.confirm.ensures.stays c.args.id c.args.total c.args.stated c.args.naming c.requires.closing c.in-Ok-Sum.digest (subst (λ (f : Confirmed). ConfirmedAs g.D.Disk.tells (now (g.D.Disk.history c.args.store.now.disk)) c.args.naming.part c.args.total c.args.stated f) c.in-Ok-Sum.field-0-is c.in-Ok-Sum.ensures.is)

pub returns-in-Ok-Sum-clause-makes : goal.returns-in-Ok-Sum-clause-makes
returns-in-Ok-Sum-clause-makes g c =
    closes_sum g.D.Disk.tells g.D.Disk.history g.D.Disk.faults (view_of c.args.store.now) c.confirm.new.disk c.confirm.ensures.stays c.args.id c.args.total c.args.stated c.args.naming c.requires.closing (view_of c.complete.new.store) c.args.at c.in-Ok-Sum.digest (subst (λ (f : Confirmed). ConfirmedAs g.D.Disk.tells (now (g.D.Disk.history c.args.store.now.disk)) c.args.naming.part c.args.total c.args.stated f) c.in-Ok-Sum.field-0-is c.in-Ok-Sum.ensures.is) c.complete.result c.complete.ensures.makes

pub returns-in-Ok-Other-clause-makes : goal.returns-in-Ok-Other-clause-makes
returns-in-Ok-Other-clause-makes g c =
    closes_other g.D.Disk.tells g.D.Disk.history g.D.Disk.faults (view_of c.args.store.now) c.confirm.new.disk c.confirm.ensures.stays c.args.id c.args.total c.args.stated c.args.naming c.requires.closing (view_of c.stop.new.store) c.args.at c.in-Ok-Other.have c.in-Ok-Other.wanted (subst (λ (f : Confirmed). ConfirmedAs g.D.Disk.tells (now (g.D.Disk.history c.args.store.now.disk)) c.args.naming.part c.args.total c.args.stated f) c.in-Ok-Other.field-0-is c.in-Ok-Other.ensures.is) c.stop.result c.stop.ensures.makes

pub returns-in-Ok-Short-clause-makes : goal.returns-in-Ok-Short-clause-makes
returns-in-Ok-Short-clause-makes g c =
    closes_short g.D.Disk.tells g.D.Disk.history g.D.Disk.faults (view_of c.args.store.now) c.confirm.new.disk c.confirm.ensures.stays c.args.id c.args.total c.args.stated c.args.naming c.requires.closing (view_of c.stop-in-Ok-Short.new.store) c.args.at c.in-Ok-Short.have (subst (λ (f : Confirmed). ConfirmedAs g.D.Disk.tells (now (g.D.Disk.history c.args.store.now.disk)) c.args.naming.part c.args.total c.args.stated f) c.in-Ok-Short.field-0-is c.in-Ok-Short.ensures.is) c.stop-in-Ok-Short.result c.stop-in-Ok-Short.ensures.makes

pub returns-in-Err-clause-makes : goal.returns-in-Err-clause-makes
returns-in-Err-clause-makes g c =
    closes_fault g.D.Disk.tells g.D.Disk.history g.D.Disk.faults (view_of c.args.store.now) c.confirm.new.disk c.confirm.ensures.stays c.args.id c.args.total c.args.stated c.args.naming c.requires.closing (view_of c.stop-in-Err.new.store) c.args.at c.in-Err.kind c.in-Err.ensures.cause.cause c.stop-in-Err.ensures.later c.stop-in-Err.result (subst (λ (r : Reason). StopMakes (g.D.Disk.faults c.confirm.new.disk) (g.D.Disk.faults c.stop-in-Err.new.store.disk) (record (view_of c.args.store.now) { disk = c.confirm.new.disk }) (view_of c.stop-in-Err.new.store) c.args.id r (Err (faults.File c.in-Err.kind)) c.stop-in-Err.result) c.reason_of.ensures c.stop-in-Err.ensures.makes)
