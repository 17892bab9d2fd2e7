use Rattle.std.proofs.Common.{ap}
use Rattle.dm_types.specs.Name.{IsPart}
use Rattle.dm_disk_model.proofs.Beside.{besides_stay}
use Rattle.dm_store.specs.Origin.{said_of}
use Rattle.dm_store.specs.Store.{view_of}
use Rattle.dm_store.specs.View.{View}
use Rattle.dm_store.proofs.Keeping.{keeps_same}
use Rattle.dm_land.proofs.pausing.pause_item.Goals as goal

-- nothing was done but that room was made
pub returns-in-Err-clause-keeps : goal.returns-in-Err-clause-keeps
returns-in-Err-clause-keeps g c =
    keeps_same g.D.Disk.tells g.D.Disk.history (λ o. said_of (g.O.Origin.says o)) (view_of c.args.store.now) (view_of c.prepare_both.new.store) c.prepare_both.ensures.same

pub returns-in-Err-clause-beside : goal.returns-in-Err-clause-beside
returns-in-Err-clause-beside g c told =
    besides_stay IsPart (g.D.Disk.history c.args.store.now.disk) (g.D.Disk.history c.prepare_both.new.store.disk)
    (ap (λ (v : View g.row.D.Denot g.row.O.Denot). g.D.Disk.history v.disk) c.prepare_both.ensures.same)
