use Rattle.std.proofs.Common.{List, ℕ, Option, sym, subst}
use Rattle.dm_disk_model.specs.Beside.{Besides}
use Rattle.dm_disk_model.specs.Disk.{now}
use Rattle.dm_disk_model.proofs.Beside.{besides_same, besides_then}
use Rattle.dm_store.specs.Publishing.{IsPartOr}
use Rattle.dm_store.specs.Origin.{said_of}
use Rattle.dm_store.specs.Store.{view_of}
use Rattle.dm_settle.specs.Judging.{HasWhole, LiesWhole}
use Rattle.dm_settle.specs.Settled.{IsSparedBy, SettleGoes}
use Rattle.dm_settle.specs.declared.judging.Judged.{Judged}
use Rattle.dm_settle.proofs.Judgements.{moving_in, named_goes, published_goes}
use Rattle.dm_settle.proofs.settling.settle_as.Goals as goal

pub publish_item-requires-clause-moving : goal.publish_item-requires-clause-moving
publish_item-requires-clause-moving g c = moving_in g.D.Disk.tells g.D.Disk.history (view_of c.args.store.now) c.requires.store.desk c.args.moving.now c.requires.finishing

pub record_done-requires-in-Ok-clause-room : goal.record_done-requires-in-Ok-clause-room
record_done-requires-in-Ok-clause-room g c = c.publish_item.ensures.room 1 c.requires.room

pub returns-in-Named-clause-goes : goal.returns-in-Named-clause-goes
returns-in-Named-clause-goes g c =
    subst (λ (j : Judged). SettleGoes g.D.Disk.tells g.D.Disk.history (λ o. said_of (g.O.Origin.says o)) (view_of c.args.store.now) (view_of c.record_done.new.store) j) (sym c.in-Named.is)
    (named_goes g.D.Disk.tells g.D.Disk.history (λ o. said_of (g.O.Origin.says o)) (view_of c.args.store.now) (view_of c.record_done.new.store) c.requires.whole c.args.moving.now c.requires.finishing c.in-Named.sum c.args.at
    (λ told. subst (LiesWhole (now (g.D.Disk.history c.args.store.now.disk)) c.args.moving.now) c.in-Named.is (c.requires.lies told)) c.record_done.ensures.goes)

pub returns-in-Ok-clause-goes : goal.returns-in-Ok-clause-goes
returns-in-Ok-clause-goes g c =
    subst (λ (j : Judged). SettleGoes g.D.Disk.tells g.D.Disk.history (λ o. said_of (g.O.Origin.says o)) (view_of c.args.store.now) (view_of c.record_done-in-Ok.new.store) j) (sym c.in-InPart.is)
    (published_goes g.D.Disk.tells g.D.Disk.history (λ o. said_of (g.O.Origin.says o)) (view_of c.args.store.now) (view_of c.publish_item.new.store) (view_of c.record_done-in-Ok.new.store) c.args.moving.now c.requires.finishing c.in-InPart.sum c.args.at c.requires.whole
    (c.requires.store.desk.failed c.requires.whole) c.in-Ok.ensures.ok
    (λ told. subst (λ (found : Option (List ℕ)). HasWhole found c.args.moving.now.total c.in-InPart.sum) (sym (c.in-Ok.ensures.reads told))
    (subst (LiesWhole (now (g.D.Disk.history c.args.store.now.disk)) c.args.moving.now) c.in-InPart.is (c.requires.lies told)))
    c.publish_item.ensures.keeps c.record_done-in-Ok.ensures.goes)

pub returns-in-Ok-clause-beside : goal.returns-in-Ok-clause-beside
returns-in-Ok-clause-beside g c told =
    let D = g.D.Disk in
    subst (λ (j : Judged). Besides (IsSparedBy c.args.moving.now j) (D.history c.args.store.now.disk) (D.history c.record_done-in-Ok.new.store.disk)) (sym c.in-InPart.is)
    (besides_then (IsPartOr c.args.moving.now.target.name) (D.history c.args.store.now.disk) (D.history c.publish_item.new.store.disk) (D.history c.record_done-in-Ok.new.store.disk) (c.publish_item.ensures.beside told)
    (besides_same (IsPartOr c.args.moving.now.target.name) (D.history c.publish_item.new.store.disk) (D.history c.record_done-in-Ok.new.store.disk) (c.record_done-in-Ok.ensures.beside told)))

pub returns-in-Err-clause-beside : goal.returns-in-Err-clause-beside
returns-in-Err-clause-beside g c told =
    subst (λ (j : Judged). Besides (IsSparedBy c.args.moving.now j) (g.D.Disk.history c.args.store.now.disk) (g.D.Disk.history c.publish_item.new.store.disk)) (sym c.in-InPart.is) (c.publish_item.ensures.beside told)
