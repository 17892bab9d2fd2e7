use Rattle.dm_disk_model.specs.Disk.{now}
use Rattle.dm_store.specs.Origin.{said_of}
use Rattle.dm_store.specs.Store.{view_of}
use Rattle.dm_sweep.proofs.Stills.{still_keeps}
use Rattle.dm_sweep.proofs.sweeping.sweep.Goals as goal

pub returns-in-Err-NoMemory-clause-keeps : goal.returns-in-Err-NoMemory-clause-keeps
returns-in-Err-NoMemory-clause-keeps g c =
    still_keeps g.D.Disk.tells g.D.Disk.history (λ o. said_of (g.O.Origin.says o)) (view_of c.args.store.now) c.names.new.self
    (λ told. g.met.D.Disk.sound told c.args.store.now.disk (g.D.Disk.history c.args.store.now.disk).moment) c.names.ensures.stays

pub returns-in-Err-Disk-clause-keeps : goal.returns-in-Err-Disk-clause-keeps
returns-in-Err-Disk-clause-keeps g c =
    still_keeps g.D.Disk.tells g.D.Disk.history (λ o. said_of (g.O.Origin.says o)) (view_of c.args.store.now) c.names.new.self
    (λ told. g.met.D.Disk.sound told c.args.store.now.disk (g.D.Disk.history c.args.store.now.disk).moment) c.names.ensures.stays
