use Rattle.std.proofs.Common.{[], ◌∷◌, ◌∙◌}
use Rattle.dm_types.specs.Name.{IsPart}
use Rattle.dm_types.specs.declared.entry.Entry.TheVariants as entries
use Rattle.dm_disk_model.proofs.Beside.{besides_same, besides_then}
use Rattle.dm_store.specs.Origin.{said_of}
use Rattle.dm_store.specs.Store.{view_of}
use Rattle.dm_store.proofs.Composing.{near_then}
use Rattle.dm_store.proofs.Keeping.{keeps_then}
use Rattle.dm_land.specs.Preparing.{saved_by}
use Rattle.dm_land.proofs.Pauses.{admits_behind, paused_fell, paused_ok, paused_unsaved}
use Rattle.dm_land.proofs.Steps.{reads_stay}
use Rattle.dm_land.proofs.pausing.save_and_pause.Goals as goal

pub record_paused-requires-clause-taken : goal.record_paused-requires-clause-taken
record_paused-requires-clause-taken g c =
    admits_behind (view_of c.args.store.now) (view_of c.save_if.new.store) c.args.id c.args.prepared c.requires.prepared c.in-Ok.ensures.makes c.requires.may

pub record_paused-requires-clause-room : goal.record_paused-requires-clause-room
record_paused-requires-clause-room g c =
    c.in-Ok.ensures.room 1 c.requires.room

pub returns-in-Ok-record_paused-clause-answers : goal.returns-in-Ok-record_paused-clause-answers
returns-in-Ok-record_paused-clause-answers g c =
    paused_ok g.D.Disk.faults (view_of c.args.store.now) c.args.id c.args.prepared c.requires.prepared c.requires.may (view_of c.save_if.new.store) (view_of c.record_paused.new.store) c.in-Ok.ensures.makes c.in-Ok-record_paused.ensures.makes

pub returns-in-Ok-record_paused-clause-keeps : goal.returns-in-Ok-record_paused-clause-keeps
returns-in-Ok-record_paused-clause-keeps g c =
    keeps_then g.D.Disk.tells g.D.Disk.history (λ o. said_of (g.O.Origin.says o)) (view_of c.args.store.now) (view_of c.save_if.new.store) (view_of c.record_paused.new.store) c.save_if.ensures.keeps c.in-Ok.ensures.makes.origin c.in-Ok.ensures.makes.failed_is c.record_paused.ensures.keeps

pub returns-in-Ok-record_paused-clause-beside : goal.returns-in-Ok-record_paused-clause-beside
returns-in-Ok-record_paused-clause-beside g c told =
    besides_then IsPart (g.D.Disk.history c.args.store.now.disk) (g.D.Disk.history c.save_if.new.store.disk) (g.D.Disk.history c.record_paused.new.store.disk) (c.save_if.ensures.beside told) (besides_same IsPart (g.D.Disk.history c.save_if.new.store.disk) (g.D.Disk.history c.record_paused.new.store.disk) (c.record_paused.ensures.beside told))

pub returns-in-Ok-record_paused-clause-reads : goal.returns-in-Ok-record_paused-clause-reads
returns-in-Ok-record_paused-clause-reads g c told name =
    reads_stay (g.D.Disk.history c.save_if.new.store.disk) (g.D.Disk.history c.record_paused.new.store.disk) (c.record_paused.ensures.beside told) name ∙ c.save_if.ensures.reads told name

pub returns-in-Ok-record_paused-clause-far : goal.returns-in-Ok-record_paused-clause-far
returns-in-Ok-record_paused-clause-far g c =
    near_then (view_of c.args.store.now) (view_of c.save_if.new.store) (view_of c.record_paused.new.store) (saved_by c.args.prepared) c.in-Ok.ensures.makes (entries.Paused c.args.id ∷ []) (g.D.Disk.far c.args.store.now.disk) (g.D.Disk.far c.save_if.new.store.disk) (g.D.Disk.far c.record_paused.new.store.disk) c.in-Ok-record_paused.ensures.makes.list_is c.save_if.ensures.far c.record_paused.ensures.far

pub returns-in-Err-record_paused-clause-answers : goal.returns-in-Err-record_paused-clause-answers
returns-in-Err-record_paused-clause-answers g c =
    paused_fell g.D.Disk.faults (view_of c.args.store.now) c.args.id c.args.prepared c.requires.prepared c.requires.may (view_of c.save_if.new.store) (view_of c.record_paused.new.store) c.in-Err-record_paused.kind c.in-Ok.ensures.makes c.in-Err-record_paused.ensures.makes

pub returns-in-Err-record_paused-clause-keeps : goal.returns-in-Err-record_paused-clause-keeps
returns-in-Err-record_paused-clause-keeps g c =
    keeps_then g.D.Disk.tells g.D.Disk.history (λ o. said_of (g.O.Origin.says o)) (view_of c.args.store.now) (view_of c.save_if.new.store) (view_of c.record_paused.new.store) c.save_if.ensures.keeps c.in-Ok.ensures.makes.origin c.in-Ok.ensures.makes.failed_is c.record_paused.ensures.keeps

pub returns-in-Err-record_paused-clause-beside : goal.returns-in-Err-record_paused-clause-beside
returns-in-Err-record_paused-clause-beside g c told =
    besides_then IsPart (g.D.Disk.history c.args.store.now.disk) (g.D.Disk.history c.save_if.new.store.disk) (g.D.Disk.history c.record_paused.new.store.disk) (c.save_if.ensures.beside told) (besides_same IsPart (g.D.Disk.history c.save_if.new.store.disk) (g.D.Disk.history c.record_paused.new.store.disk) (c.record_paused.ensures.beside told))

pub returns-in-Err-record_paused-clause-reads : goal.returns-in-Err-record_paused-clause-reads
returns-in-Err-record_paused-clause-reads g c told name =
    reads_stay (g.D.Disk.history c.save_if.new.store.disk) (g.D.Disk.history c.record_paused.new.store.disk) (c.record_paused.ensures.beside told) name ∙ c.save_if.ensures.reads told name

pub returns-in-Err-record_paused-clause-far : goal.returns-in-Err-record_paused-clause-far
returns-in-Err-record_paused-clause-far g c =
    near_then (view_of c.args.store.now) (view_of c.save_if.new.store) (view_of c.record_paused.new.store) (saved_by c.args.prepared) c.in-Ok.ensures.makes [] (g.D.Disk.far c.args.store.now.disk) (g.D.Disk.far c.save_if.new.store.disk) (g.D.Disk.far c.record_paused.new.store.disk) c.in-Err-record_paused.ensures.makes.list_is c.save_if.ensures.far c.record_paused.ensures.far

pub returns-in-Err-clause-answers : goal.returns-in-Err-clause-answers
returns-in-Err-clause-answers g c =
    paused_unsaved g.D.Disk.faults (view_of c.args.store.now) (view_of c.save_if.new.store) c.args.id c.args.prepared c.requires.prepared c.requires.may c.in-Err.fault c.unsaved.result c.unsaved.ensures c.in-Err.ensures.makes
