use Rattle.std.proofs.Common.{◌∙◌, ap, inl}
use Rattle.dm_disk_model.proofs.Beside.{besides_more, besides_then}
use Rattle.dm_types.specs.Name.{IsPart}
use Rattle.dm_item.specs.Lawful.{History}
use Rattle.dm_store.specs.Becomes.{run_of}
use Rattle.dm_store.specs.Origin.{said_of}
use Rattle.dm_store.specs.Store.{view_of}
use Rattle.dm_settle.specs.Settled.{IsPartOrGiven}
use Rattle.dm_open.proofs.Resumed.{desk_broken, given_before, hindered_resumes, near_finished, stopped_resumes, whole_resumes}
use Rattle.dm_open.proofs.resuming.resume.Goals as goal

pub returns-in-Err-clause-makes : goal.returns-in-Err-clause-makes
returns-in-Err-clause-makes g c found is_of =
    hindered_resumes g.D.Disk.tells g.D.Disk.history (λ o. said_of (g.O.Origin.says o)) (view_of c.args.store.now) (view_of c.begin_list.new.store) c.args.at c.begin_list.ensures.goes found is_of c.in-Err.fault c.in-Err.ensures.makes

pub returns-in-Err-clause-beside : goal.returns-in-Err-clause-beside
returns-in-Err-clause-beside g c told =
    let D = g.D.Disk in
    besides_more IsPart (IsPartOrGiven D.history (view_of c.args.store.now)) (D.history c.args.store.now.disk) (D.history c.begin_list.new.store.disk) (λ name part. inl part) (c.begin_list.ensures.beside told)

pub returns-in-Ok-finish_opening-clause-makes : goal.returns-in-Ok-finish_opening-clause-makes
returns-in-Ok-finish_opening-clause-makes g c found is_of =
    whole_resumes g.D.Disk.tells g.D.Disk.history (λ o. said_of (g.O.Origin.says o)) (view_of c.args.store.now) (view_of c.begin_list.new.store) c.args.at c.begin_list.ensures.goes found is_of c.in-Ok.ensures.makes (view_of c.finish_opening.new.store)
    c.in-Ok-finish_opening.ensures.makes c.finish_opening.ensures.keeps c.finish_opening.ensures.never_breaks (λ told. (c.begin_list.ensures.beside told).later) c.begin_list.ensures.names

pub returns-in-Err-finish_opening-clause-makes : goal.returns-in-Err-finish_opening-clause-makes
returns-in-Err-finish_opening-clause-makes g c found is_of =
    stopped_resumes g.D.Disk.tells g.D.Disk.history (λ o. said_of (g.O.Origin.says o)) (view_of c.args.store.now) (view_of c.begin_list.new.store) c.args.at c.begin_list.ensures.goes found is_of c.in-Err-finish_opening.fault c.in-Ok.ensures.makes (view_of c.finish_opening.new.store)
    c.in-Err-finish_opening.ensures.makes c.finish_opening.ensures.keeps (λ told. (c.begin_list.ensures.beside told).later) c.begin_list.ensures.names

pub returns-in-Err-finish_opening-clause-store : goal.returns-in-Err-finish_opening-clause-store
returns-in-Err-finish_opening-clause-store g c = record {
  desk = desk_broken g.D.Disk.tells g.D.Disk.history (view_of c.finish_opening.new.store) c.finish_opening.ensures.store.desk;
  room = c.finish_opening.ensures.store.room;
}

pub returns-in-Ok-finish_opening-clause-beside : goal.returns-in-Ok-finish_opening-clause-beside
returns-in-Ok-finish_opening-clause-beside g c told =
    let D = g.D.Disk in
    let old = view_of c.args.store.now in
    let mid = view_of c.begin_list.new.store in
    besides_then (IsPartOrGiven D.history old) (D.history c.args.store.now.disk) (D.history c.begin_list.new.store.disk) (D.history c.finish_opening.new.store.disk)
    (besides_more IsPart (IsPartOrGiven D.history old) (D.history c.args.store.now.disk) (D.history c.begin_list.new.store.disk) (λ name part. inl part) (c.begin_list.ensures.beside told))
    (besides_more (IsPartOrGiven D.history mid) (IsPartOrGiven D.history old) (D.history c.begin_list.new.store.disk) (D.history c.finish_opening.new.store.disk)
    (given_before D.history old mid c.args.at (c.in-Ok.ensures.makes.0.items_are ∙ ap (λ (h : History). run_of h old.items) c.in-Ok.ensures.makes.1) (c.begin_list.ensures.names told) (c.begin_list.ensures.beside told).later) (c.finish_opening.ensures.beside told))

pub returns-in-Ok-finish_opening-clause-far : goal.returns-in-Ok-finish_opening-clause-far
returns-in-Ok-finish_opening-clause-far g c =
    let D = g.D.Disk in
    near_finished D.tells D.history (view_of c.args.store.now) (view_of c.begin_list.new.store) (view_of c.finish_opening.new.store) c.args.at c.finish_opening.result c.requires.bare.list c.in-Ok.ensures.makes c.finish_opening.ensures.makes
    (D.far c.args.store.now.disk) (D.far c.begin_list.new.store.disk) (D.far c.finish_opening.new.store.disk) c.begin_list.ensures.far c.finish_opening.ensures.far

pub returns-in-Err-finish_opening-clause-beside : goal.returns-in-Err-finish_opening-clause-beside
returns-in-Err-finish_opening-clause-beside g c told =
    let D = g.D.Disk in
    let old = view_of c.args.store.now in
    let mid = view_of c.begin_list.new.store in
    besides_then (IsPartOrGiven D.history old) (D.history c.args.store.now.disk) (D.history c.begin_list.new.store.disk) (D.history c.finish_opening.new.store.disk)
    (besides_more IsPart (IsPartOrGiven D.history old) (D.history c.args.store.now.disk) (D.history c.begin_list.new.store.disk) (λ name part. inl part) (c.begin_list.ensures.beside told))
    (besides_more (IsPartOrGiven D.history mid) (IsPartOrGiven D.history old) (D.history c.begin_list.new.store.disk) (D.history c.finish_opening.new.store.disk)
    (given_before D.history old mid c.args.at (c.in-Ok.ensures.makes.0.items_are ∙ ap (λ (h : History). run_of h old.items) c.in-Ok.ensures.makes.1) (c.begin_list.ensures.names told) (c.begin_list.ensures.beside told).later) (c.finish_opening.ensures.beside told))

pub returns-in-Err-finish_opening-clause-far : goal.returns-in-Err-finish_opening-clause-far
returns-in-Err-finish_opening-clause-far g c =
    let D = g.D.Disk in
    near_finished D.tells D.history (view_of c.args.store.now) (view_of c.begin_list.new.store) (view_of c.finish_opening.new.store) c.args.at c.finish_opening.result c.requires.bare.list c.in-Ok.ensures.makes c.finish_opening.ensures.makes
    (D.far c.args.store.now.disk) (D.far c.begin_list.new.store.disk) (D.far c.finish_opening.new.store.disk) c.begin_list.ensures.far c.finish_opening.ensures.far
