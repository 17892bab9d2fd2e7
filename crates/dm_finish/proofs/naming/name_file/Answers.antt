use Rattle.std.proofs.Common.{inr, ◌∙◌}
use Rattle.dm_disk_model.proofs.Beside.{besides_same, besides_then}
use Rattle.dm_store.specs.Publishing.{IsPartOr}
use Rattle.dm_store.specs.Origin.{said_of}
use Rattle.dm_store.specs.Store.{view_of}
use Rattle.dm_finish.proofs.Givings.{broke_naming, giving_named, mid_keeps, mid_near, mid_whole, names_after, reads_stay, all_ok, cause_then}
use Rattle.dm_finish.proofs.naming.name_file.Goals as goal

pub record_done-requires-clause-whole : goal.record_done-requires-clause-whole
record_done-requires-clause-whole g c =
    mid_whole g.D.Disk.tells g.D.Disk.history (λ o. said_of (g.O.Origin.says o)) (view_of c.args.store.now) (view_of c.publish_item.new.store) c.in-Ok.ensures.ok c.requires.whole

pub record_done-requires-clause-named : goal.record_done-requires-clause-named
record_done-requires-clause-named g c =
    giving_named g.D.Disk.tells g.D.Disk.history (λ o. said_of (g.O.Origin.says o)) (view_of c.args.store.now) (view_of c.publish_item.new.store) c.in-Ok.ensures.ok c.args.id c.args.part.now c.args.target.now c.args.digest c.requires.giving c.in-Ok.ensures.named c.in-Ok.ensures.reads

pub record_done-requires-clause-room : goal.record_done-requires-clause-room
record_done-requires-clause-room g c =
    c.in-Ok.ensures.room 1 c.requires.room

pub returns-in-Ok-clause-makes : goal.returns-in-Ok-clause-makes
returns-in-Ok-clause-makes g c =
    names_after g.D.Disk.tells g.D.Disk.history (λ o. said_of (g.O.Origin.says o)) (view_of c.args.store.now) (view_of c.publish_item.new.store) c.in-Ok.ensures.ok (view_of c.record_done.new.store) c.args.id c.args.digest c.args.at c.record_done.result c.record_done.ensures.makes

pub returns-in-Ok-clause-keeps : goal.returns-in-Ok-clause-keeps
returns-in-Ok-clause-keeps g c =
    mid_keeps g.D.Disk.tells g.D.Disk.history (λ o. said_of (g.O.Origin.says o)) (view_of c.args.store.now) (view_of c.publish_item.new.store) c.in-Ok.ensures.ok (view_of c.record_done.new.store) (c.requires.store.desk.failed c.requires.whole) c.publish_item.ensures.keeps c.record_done.ensures.keeps

pub returns-in-Ok-clause-reads : goal.returns-in-Ok-clause-reads
returns-in-Ok-clause-reads g c told =
    all_ok c.record_done.result (reads_stay (g.D.Disk.history c.publish_item.new.store.disk) (g.D.Disk.history c.record_done.new.store.disk) c.args.target.now c.requires.giving.moving.name c.requires.giving.moving.target_is (c.record_done.ensures.beside told) ∙ c.in-Ok.ensures.reads told)

pub returns-in-Ok-clause-beside : goal.returns-in-Ok-clause-beside
returns-in-Ok-clause-beside g c told =
    besides_then (IsPartOr c.args.target.now.name) (g.D.Disk.history c.args.store.now.disk) (g.D.Disk.history c.publish_item.new.store.disk) (g.D.Disk.history c.record_done.new.store.disk) (c.publish_item.ensures.beside told) (besides_same (IsPartOr c.args.target.now.name) (g.D.Disk.history c.publish_item.new.store.disk) (g.D.Disk.history c.record_done.new.store.disk) (c.record_done.ensures.beside told))

pub returns-in-Ok-clause-cause : goal.returns-in-Ok-clause-cause
returns-in-Ok-clause-cause g c =
    cause_then (g.D.Disk.faults c.args.store.now.disk) (g.D.Disk.faults c.publish_item.new.store.disk) (g.D.Disk.faults c.record_done.new.store.disk) c.record_done.result c.publish_item.ensures.cause.later c.record_done.ensures.cause

pub returns-in-Ok-clause-far : goal.returns-in-Ok-clause-far
returns-in-Ok-clause-far g c =
    mid_near g.D.Disk.tells g.D.Disk.history (λ o. said_of (g.O.Origin.says o)) (view_of c.args.store.now) (view_of c.publish_item.new.store) c.in-Ok.ensures.ok (view_of c.record_done.new.store) (g.D.Disk.far c.args.store.now.disk) (g.D.Disk.far c.publish_item.new.store.disk) (g.D.Disk.far c.record_done.new.store.disk) c.publish_item.ensures.far c.record_done.ensures.far

pub returns-in-Err-clause-makes : goal.returns-in-Err-clause-makes
returns-in-Err-clause-makes g c =
    inr (broke_naming (view_of c.args.store.now) (view_of c.publish_item.new.store) c.in-Err.ensures.err c.requires.whole (c.requires.store.desk.failed c.requires.whole))
