use Rattle.std.proofs.Common.{[], subst, arith}
use Rattle.dm_item.specs.Listing.{Listing}
use Rattle.dm_store.specs.Origin.{said_of}
use Rattle.dm_past.specs.Past.{past_of}
use Rattle.dm_past.proofs.Turned.{page_goes}
use Rattle.dm_import.specs.Saying.{SaysSo}
use Rattle.dm_import.proofs.Chains.{none_worked}
use Rattle.dm_import.proofs.working.work.Goals as goal

pub returns-in-Err-clause-worked : goal.returns-in-Err-clause-worked
returns-in-Err-clause-worked g c =
    none_worked g.K.Keeper.tells g.D.Disk.history g.D.Disk.tells g.D.Disk.faults c.args.at c.args.desk.now (past_of g.K.Keeper.rows g.K.Keeper.faults c.args.keeper.now) c.in-Err.verdict c.args.read c.say.result c.requires.desk c.requires.whole c.in-Err.is
    (subst (λ (v : Listing). SaysSo v.items [] c.in-Err.verdict c.say.result) c.items.ensures.items c.say.ensures)

pub returns-in-Err-clause-goes : goal.returns-in-Err-clause-goes
returns-in-Err-clause-goes g c =
    page_goes g.D.Disk.tells g.K.Keeper.tells g.D.Disk.history g.D.Disk.faults g.D.Disk.far (λ o. said_of (g.O.Origin.says o)) c.args.desk.now (past_of g.K.Keeper.rows g.K.Keeper.faults c.args.keeper.now) (past_of g.K.Keeper.rows g.K.Keeper.faults c.args.keeper.now)
    c.requires.desk c.requires.whole (λ kind. omega arith)
