use Rattle.std.proofs.Common.{◌≡◌, List, length, ◌+◌, ◌*◌, Bool, true, false, sym, ◌∙◌, ap, arith}
use Rattle.std.specs.Prelude.{vec_capacity}
use Rattle.dm_types.specs.Name.{IsPart}
use Rattle.dm_types.specs.declared.entry.Entry.{Entry}
use Rattle.dm_disk_model.specs.declared.place.Area.TheVariants.{Files}
use Rattle.dm_disk_model.specs.Disk.{now}
use Rattle.dm_disk_model.proofs.Beside.{besides_names, besides_same, besides_then}
use Rattle.dm_kept.specs.Spelled.{bodies_of}
use Rattle.dm_store.specs.declared.life.Life.{Life}
use Rattle.dm_store.specs.Origin.{said_of}
use Rattle.dm_store.specs.Store.{view_of}
use Rattle.dm_find.proofs.Begun.{begun_done, begun_room, begun_unsynced, hindered_begins, hindered_desk, hindered_goes, hindered_makes, makes_recorded, recorded_store, rest_stands, still_broken}
use Rattle.dm_find.proofs.beginning.begin_list.Goals as goal

pub record_reopened-requires-clause-stands : goal.record_reopened-requires-clause-stands
record_reopened-requires-clause-stands g c told = rest_stands (now (g.D.Disk.history c.args.store.now.disk)) c.args.store.now.journal (bodies_of c.requires.here.found) (c.requires.here.rest told)

pub returns-in-Err-clause-goes : goal.returns-in-Err-clause-goes
returns-in-Err-clause-goes g c =
    hindered_goes g.D.Disk.tells g.D.Disk.history (λ o. said_of (g.O.Origin.says o)) (view_of c.args.store.now) c.args.at c.requires.bare (view_of c.record_reopened.new.store) c.in-Err.fault c.in-Err.ensures.makes c.in-Err.ensures.goes

pub returns-in-Err-clause-makes : goal.returns-in-Err-clause-makes
returns-in-Err-clause-makes g c = hindered_makes (view_of c.args.store.now) c.args.at c.requires.bare (view_of c.record_reopened.new.store) c.in-Err.fault c.in-Err.ensures.makes

pub returns-in-Err-clause-store : goal.returns-in-Err-clause-store
returns-in-Err-clause-store g c =
    let says = view_of c.record_reopened.new.store in
    record {
      desk = hindered_desk g.D.Disk.tells g.D.Disk.history (λ o. said_of (g.O.Origin.says o)) (view_of c.args.store.now) says c.args.at c.requires.bare c.requires.here c.requires.limits c.requires.limit (returns-in-Err-clause-goes g c) c.in-Err.fault c.in-Err.ensures.makes;
      room = begun_room (view_of c.args.store.now) says c.args.at true (vec_capacity c.args.store.now.list) (vec_capacity c.record_reopened.new.store.list) c.in-Err.ensures.room c.requires.room (hindered_begins (view_of c.args.store.now) c.args.at c.requires.bare (view_of c.record_reopened.new.store) c.in-Err.fault c.in-Err.ensures.makes);
    }

pub returns-in-Ok-sync_files-clause-goes : goal.returns-in-Ok-sync_files-clause-goes
returns-in-Ok-sync_files-clause-goes g c =
    begun_done g.D.Disk.tells g.D.Disk.history (λ o. said_of (g.O.Origin.says o)) (view_of c.args.store.now) c.args.at c.requires.bare (view_of c.sync_files.new.store) (view_of c.record_reopened.new.store) c.in-Ok.ensures.makes c.in-Ok.ensures.goes
    c.in-Ok-sync_files.ensures.done c.in-Ok-sync_files.ensures.ok

pub returns-in-Ok-sync_files-clause-store : goal.returns-in-Ok-sync_files-clause-store
returns-in-Ok-sync_files-clause-store g c =
    let new = view_of c.sync_files.new.store in
    record {
      desk = recorded_store g.D.Disk.tells g.D.Disk.history (λ o. said_of (g.O.Origin.says o)) (view_of c.args.store.now) (view_of c.record_reopened.new.store) new c.args.at c.requires.bare c.requires.here c.requires.limits c.requires.limit (returns-in-Ok-sync_files-clause-goes g c)
          c.in-Ok.ensures.entry false c.in-Ok.ensures.makes c.in-Ok-sync_files.ensures.ok;
      room = begun_room (view_of c.args.store.now) new c.args.at false (vec_capacity c.args.store.now.list) (vec_capacity c.sync_files.new.store.list) (c.in-Ok-sync_files.ensures.room ∙ c.in-Ok.ensures.room) c.requires.room
          (makes_recorded (view_of c.args.store.now) c.args.at c.requires.bare new (view_of c.record_reopened.new.store) false c.in-Ok.ensures.makes c.in-Ok-sync_files.ensures.ok);
    }

pub returns-in-Ok-sync_files-clause-beside : goal.returns-in-Ok-sync_files-clause-beside
returns-in-Ok-sync_files-clause-beside g c told =
    let D = g.D.Disk in
    let mid = c.record_reopened.new.store.disk in
    besides_then IsPart (D.history c.args.store.now.disk) (D.history mid) (D.history c.sync_files.new.store.disk)
    (besides_same IsPart (D.history c.args.store.now.disk) (D.history mid) (c.in-Ok.ensures.beside told))
    (besides_names IsPart c.sync_files.result (D.history mid) (D.history c.sync_files.new.store.disk) (g.met.D.Disk.sound told mid (D.history mid).moment) Files (c.sync_files.ensures.done told))

pub returns-in-Err-sync_files-clause-goes : goal.returns-in-Err-sync_files-clause-goes
returns-in-Err-sync_files-clause-goes g c =
    begun_unsynced g.D.Disk.tells g.D.Disk.history (λ o. said_of (g.O.Origin.says o)) (view_of c.args.store.now) c.args.at c.requires.bare (view_of c.sync_files.new.store) (view_of c.record_reopened.new.store) c.sync_files.result c.in-Ok.ensures.makes c.in-Ok.ensures.goes
    c.sync_files.ensures.done c.in-Err-sync_files.ensures.err

pub returns-in-Err-sync_files-clause-store : goal.returns-in-Err-sync_files-clause-store
returns-in-Err-sync_files-clause-store g c =
    let new = view_of c.sync_files.new.store in
    let mid = view_of c.record_reopened.new.store in
    let same = still_broken (view_of c.args.store.now) c.args.at c.requires.bare mid new c.in-Ok.ensures.makes c.in-Err-sync_files.ensures.err in
    record {
      desk = recorded_store g.D.Disk.tells g.D.Disk.history (λ o. said_of (g.O.Origin.says o)) (view_of c.args.store.now) mid new c.args.at c.requires.bare c.requires.here c.requires.limits c.requires.limit (returns-in-Err-sync_files-clause-goes g c)
          c.in-Ok.ensures.entry true c.in-Ok.ensures.makes same;
      room = begun_room (view_of c.args.store.now) new c.args.at true (vec_capacity c.args.store.now.list) (vec_capacity c.sync_files.new.store.list) (c.in-Err-sync_files.ensures.room ∙ c.in-Ok.ensures.room) c.requires.room
          (makes_recorded (view_of c.args.store.now) c.args.at c.requires.bare new mid true c.in-Ok.ensures.makes same);
    }
