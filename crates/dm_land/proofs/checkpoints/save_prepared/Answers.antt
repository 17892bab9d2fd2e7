use Rattle.std.proofs.Common.{ap, ◌∙◌}
use Rattle.dm_types.specs.Name.{IsPart}
use Rattle.dm_disk_model.specs.Disk.{bytes_at, now}
use Rattle.dm_disk_model.proofs.Beside.{besides_stay}
use Rattle.dm_part.specs.Laws.{files_place}
use Rattle.dm_store.specs.Origin.{said_of}
use Rattle.dm_store.specs.Store.{view_of}
use Rattle.dm_store.specs.View.{View}
use Rattle.dm_store.proofs.Keeping.{keeps_same}
use Rattle.dm_land.proofs.Saves.{checkpoint_saved, checkpoint_unsaved}
use Rattle.dm_land.proofs.checkpoints.save_prepared.Goals as goal

pub returns-in-Err-clause-keeps : goal.returns-in-Err-clause-keeps
returns-in-Err-clause-keeps g c = keeps_same g.D.Disk.tells g.D.Disk.history (λ o. said_of (g.O.Origin.says o)) (view_of c.args.store.now) (view_of c.make_room.new.store) c.make_room.ensures.same

pub returns-in-Err-clause-beside : goal.returns-in-Err-clause-beside
returns-in-Err-clause-beside g c told =
    besides_stay IsPart (g.D.Disk.history c.args.store.now.disk) (g.D.Disk.history c.make_room.new.store.disk) (ap (λ (v : View g.row.D.Denot g.row.O.Denot). g.D.Disk.history v.disk) c.make_room.ensures.same)

pub returns-in-Ok-save-clause-answers : goal.returns-in-Ok-save-clause-answers
returns-in-Ok-save-clause-answers g c =
    checkpoint_saved (view_of c.args.store.now) (view_of c.make_room.new.store) (view_of c.save.new.store) c.make_room.ensures.same c.args.pass.now c.requires.live c.args.prepared c.requires.prepared c.in-Ok-save.ensures.makes

pub returns-in-Err-save-clause-answers : goal.returns-in-Err-save-clause-answers
returns-in-Err-save-clause-answers g c =
    checkpoint_unsaved (view_of c.args.store.now) (view_of c.make_room.new.store) (view_of c.save.new.store) c.make_room.ensures.same c.args.pass.now c.requires.live c.args.prepared c.requires.prepared g.D.Disk.faults c.in-Err-save.fault c.unsaved.result c.unsaved.ensures
    c.in-Err-save.ensures.makes

pub returns-in-Ok-save-clause-reads : goal.returns-in-Ok-save-clause-reads
returns-in-Ok-save-clause-reads g c told name =
    c.save.ensures.reads told name ∙ ap (λ (v : View g.row.D.Denot g.row.O.Denot). bytes_at (now (g.D.Disk.history v.disk)) (files_place name)) c.make_room.ensures.same

pub returns-in-Err-save-clause-reads : goal.returns-in-Err-save-clause-reads
returns-in-Err-save-clause-reads g c told name =
    c.save.ensures.reads told name ∙ ap (λ (v : View g.row.D.Denot g.row.O.Denot). bytes_at (now (g.D.Disk.history v.disk)) (files_place name)) c.make_room.ensures.same
