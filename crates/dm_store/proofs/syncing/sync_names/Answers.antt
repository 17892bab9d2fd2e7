use Rattle.dm_types.specs.Name.{IsPart}
use Rattle.dm_disk_model.specs.declared.place.Area.TheVariants.{Files}
use Rattle.dm_disk_model.proofs.Beside.{besides_names}
use Rattle.dm_store.specs.Origin.{said_of}
use Rattle.dm_store.specs.Store.{view_of}
use Rattle.dm_store.proofs.Keeping.{files_desk, files_keep, names_over}
use Rattle.dm_store.proofs.syncing.sync_names.Goals as goal

pub returns-in-Ok-clause-store : goal.returns-in-Ok-clause-store
returns-in-Ok-clause-store g c =
    let start = g.D.Disk.history c.args.store.now.disk in
    record {
      desk = files_desk g.D.Disk.tells g.D.Disk.history (λ o. said_of (g.O.Origin.says o)) (view_of c.args.store.now) c.sync_names.new.self (λ told. g.met.D.Disk.sound told c.args.store.now.disk start.moment)
          (λ told said. names_over start (g.D.Disk.history c.sync_names.new.self) c.sync_names.result said (c.sync_names.ensures.done told)) c.requires.desk;
      room = c.requires.room;
    }

pub returns-in-Ok-clause-keeps : goal.returns-in-Ok-clause-keeps
returns-in-Ok-clause-keeps g c =
    let start = g.D.Disk.history c.args.store.now.disk in
    files_keep g.D.Disk.tells g.D.Disk.history (λ o. said_of (g.O.Origin.says o)) (view_of c.args.store.now) c.sync_names.new.self (λ told. g.met.D.Disk.sound told c.args.store.now.disk start.moment)
    (λ told said. names_over start (g.D.Disk.history c.sync_names.new.self) c.sync_names.result said (c.sync_names.ensures.done told))

pub returns-in-Err-clause-store : goal.returns-in-Err-clause-store
returns-in-Err-clause-store g c =
    let start = g.D.Disk.history c.args.store.now.disk in
    record {
      desk = files_desk g.D.Disk.tells g.D.Disk.history (λ o. said_of (g.O.Origin.says o)) (view_of c.args.store.now) c.sync_names.new.self (λ told. g.met.D.Disk.sound told c.args.store.now.disk start.moment)
          (λ told said. names_over start (g.D.Disk.history c.sync_names.new.self) c.sync_names.result said (c.sync_names.ensures.done told)) c.requires.desk;
      room = c.requires.room;
    }

pub returns-in-Err-clause-keeps : goal.returns-in-Err-clause-keeps
returns-in-Err-clause-keeps g c =
    let start = g.D.Disk.history c.args.store.now.disk in
    files_keep g.D.Disk.tells g.D.Disk.history (λ o. said_of (g.O.Origin.says o)) (view_of c.args.store.now) c.sync_names.new.self (λ told. g.met.D.Disk.sound told c.args.store.now.disk start.moment)
    (λ told said. names_over start (g.D.Disk.history c.sync_names.new.self) c.sync_names.result said (c.sync_names.ensures.done told))

pub returns-in-Ok-clause-beside : goal.returns-in-Ok-clause-beside
returns-in-Ok-clause-beside g c told =
    let start = g.D.Disk.history c.args.store.now.disk in
    besides_names IsPart c.sync_names.result start (g.D.Disk.history c.sync_names.new.self) (g.met.D.Disk.sound told c.args.store.now.disk start.moment) Files (c.sync_names.ensures.done told)

pub returns-in-Err-clause-beside : goal.returns-in-Err-clause-beside
returns-in-Err-clause-beside g c told =
    let start = g.D.Disk.history c.args.store.now.disk in
    besides_names IsPart c.sync_names.result start (g.D.Disk.history c.sync_names.new.self) (g.met.D.Disk.sound told c.args.store.now.disk start.moment) Files (c.sync_names.ensures.done told)
