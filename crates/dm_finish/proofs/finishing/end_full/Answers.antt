use Rattle.std.proofs.Common.{inl}
use Rattle.dm_types.specs.Name.{IsPart}
use Rattle.dm_disk_model.proofs.Beside.{besides_more, besides_then}
use Rattle.dm_store.specs.Origin.{said_of}
use Rattle.dm_store.specs.Store.{view_of}
use Rattle.dm_store.proofs.Keeping.{keeps_then}
use Rattle.dm_answers.specs.Reads.{IsPartOrNameOf}
use Rattle.dm_land.specs.Preparing.{saved_by}
use Rattle.dm_finish.proofs.Finishes.{finish_closed, finish_moved, finish_unsaved, near_closed}
use Rattle.dm_finish.proofs.Readies.{closing_ready, stated_of}
use Rattle.dm_finish.proofs.finishing.end_full.Goals as goal

pub close-requires-clause-closing : goal.close-requires-clause-closing
close-requires-clause-closing g c =
    closing_ready g.D.Disk.tells g.D.Disk.history (view_of c.args.store.now) c.requires.store.desk c.requires.whole c.args.pass.now.id c.args.pass.now.attempt c.args.total c.requires.full c.args.ending c.requires.ready (view_of c.save_if.new.store) c.in-Ok.ensures.makes

pub returns-in-Ok-clause-answers : goal.returns-in-Ok-clause-answers
returns-in-Ok-clause-answers g c =
    finish_closed g.D.Disk.tells g.D.Disk.history g.D.Disk.faults (view_of c.args.store.now) c.args.pass.now c.args.at c.args.total c.requires.full c.args.ending.saving c.requires.ready.saving (view_of c.save_if.new.store) (view_of c.close.new.store) c.in-Ok.ensures.makes c.save_if.ensures.reads c.save_if.ensures.cause.later c.args.ending.stated (stated_of g.D.Disk.tells g.D.Disk.history (view_of c.args.store.now) c.requires.store.desk c.requires.whole c.args.pass.now.id c.args.pass.now.attempt c.args.total c.requires.full c.args.ending c.requires.ready) c.args.ending.naming c.requires.ready.naming c.close.result c.close.ensures.makes

pub returns-in-Ok-clause-keeps : goal.returns-in-Ok-clause-keeps
returns-in-Ok-clause-keeps g c =
    keeps_then g.D.Disk.tells g.D.Disk.history (λ o. said_of (g.O.Origin.says o)) (view_of c.args.store.now) (view_of c.save_if.new.store) (view_of c.close.new.store) c.save_if.ensures.keeps c.in-Ok.ensures.makes.origin c.in-Ok.ensures.makes.failed_is c.close.ensures.keeps

pub returns-in-Ok-clause-beside : goal.returns-in-Ok-clause-beside
returns-in-Ok-clause-beside g c told =
    besides_then (IsPartOrNameOf (view_of c.close.new.store) c.args.pass.now.id) (g.D.Disk.history c.args.store.now.disk) (g.D.Disk.history c.save_if.new.store.disk) (g.D.Disk.history c.close.new.store.disk) (besides_more IsPart (IsPartOrNameOf (view_of c.close.new.store) c.args.pass.now.id) (g.D.Disk.history c.args.store.now.disk) (g.D.Disk.history c.save_if.new.store.disk) (λ name part. inl part) (c.save_if.ensures.beside told)) (c.close.ensures.beside told)

pub returns-in-Ok-clause-reads : goal.returns-in-Ok-clause-reads
returns-in-Ok-clause-reads g c told is =
    finish_moved g.D.Disk.tells g.D.Disk.history g.D.Disk.faults (view_of c.args.store.now) c.args.pass.now c.args.at c.args.total c.requires.full c.args.ending.saving c.requires.ready.saving (view_of c.save_if.new.store) (view_of c.close.new.store) c.in-Ok.ensures.makes c.save_if.ensures.reads c.save_if.ensures.cause.later c.args.ending.stated (stated_of g.D.Disk.tells g.D.Disk.history (view_of c.args.store.now) c.requires.store.desk c.requires.whole c.args.pass.now.id c.args.pass.now.attempt c.args.total c.requires.full c.args.ending c.requires.ready) c.args.ending.naming c.requires.ready.naming told (c.close.ensures.reads told is)

pub returns-in-Ok-clause-far : goal.returns-in-Ok-clause-far
returns-in-Ok-clause-far g c =
    near_closed g.D.Disk.tells g.D.Disk.history g.D.Disk.faults (view_of c.args.store.now) (view_of c.save_if.new.store) (view_of c.close.new.store) (saved_by c.args.ending.saving) c.in-Ok.ensures.makes c.args.pass.now.id c.args.total c.args.ending.stated c.args.ending.naming c.args.at c.close.result c.close.ensures.makes (g.D.Disk.far c.args.store.now.disk) (g.D.Disk.far c.save_if.new.store.disk) (g.D.Disk.far c.close.new.store.disk) c.save_if.ensures.far c.close.ensures.far

pub returns-in-Err-clause-answers : goal.returns-in-Err-clause-answers
returns-in-Err-clause-answers g c =
    finish_unsaved g.D.Disk.tells g.D.Disk.history g.D.Disk.faults (view_of c.args.store.now) c.args.pass.now c.args.at c.args.total c.requires.full (view_of c.save_if.new.store) c.args.ending.saving c.requires.ready.saving c.in-Err.fault c.unsaved.result c.unsaved.ensures c.in-Err.ensures.makes

pub returns-in-Err-clause-beside : goal.returns-in-Err-clause-beside
returns-in-Err-clause-beside g c told =
    besides_more IsPart (IsPartOrNameOf (view_of c.save_if.new.store) c.args.pass.now.id) (g.D.Disk.history c.args.store.now.disk) (g.D.Disk.history c.save_if.new.store.disk) (λ name part. inl part) (c.save_if.ensures.beside told)
