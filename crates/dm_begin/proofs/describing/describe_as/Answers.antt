use Rattle.std.proofs.Common.{◌≡◌, Some, sym, ap, subst}
use Rattle.dm_types.specs.Name.{IsPart}
use Rattle.dm_disk_model.proofs.Beside.{besides_stay}
use Rattle.dm_item.specs.Listing.{item_in}
use Rattle.dm_store.specs.Origin.{said_of}
use Rattle.dm_store.specs.Store.{view_of}
use Rattle.dm_store.specs.View.{View}
use Rattle.dm_store.proofs.Keeping.{keeps_same}
use Rattle.dm_begin.proofs.describing.describe_as.Goals as goal

pub returns-in-Ok-make_described-clause-reads : goal.returns-in-Ok-make_described-clause-reads
returns-in-Ok-make_described-clause-reads g c told item at =
    c.in-Ok-make_described.ensures.reads told item
    (subst (λ (v : View g.row.D.Denot g.row.O.Denot). item_in c.args.pass.now.id.0 v.items.items ≡ Some item) (sym c.ready_described.ensures.same) at)

pub returns-in-Err-clause-keeps : goal.returns-in-Err-clause-keeps
returns-in-Err-clause-keeps g c =
    keeps_same g.D.Disk.tells g.D.Disk.history (λ o. said_of (g.O.Origin.says o)) (view_of c.args.store.now) (view_of c.ready_described.new.store) c.ready_described.ensures.same

pub returns-in-Err-clause-beside : goal.returns-in-Err-clause-beside
returns-in-Err-clause-beside g c told =
    besides_stay IsPart (g.D.Disk.history c.args.store.now.disk) (g.D.Disk.history c.ready_described.new.store.disk) (ap (λ (v : View g.row.D.Denot g.row.O.Denot). g.D.Disk.history v.disk) c.ready_described.ensures.same)
