use Rattle.std.proofs.Common.{inr, ◌∙◌, ap, subst}
use Rattle.dm_disk_model.specs.Beside.{Besides}
use Rattle.dm_disk_model.specs.Disk.{History, now}
use Rattle.dm_disk_model.proofs.Beside.{besides_stay}
use Rattle.dm_store.specs.Origin.{said_of}
use Rattle.dm_store.specs.Store.{view_of}
use Rattle.dm_store.specs.View.{View}
use Rattle.dm_store.proofs.Keeping.{keeps_same}
use Rattle.dm_settle.specs.Judging.{Judges, entry_of}
use Rattle.dm_settle.specs.Settled.{IsPartOrAlone, IsSparedBy}
use Rattle.dm_settle.proofs.Items.{item_beside, item_goes, item_stopped, read_keeps}
use Rattle.dm_settle.proofs.settling.settle_item.Goals as goal

pub returns-in-Err-clause-goes : goal.returns-in-Err-clause-goes
returns-in-Err-clause-goes g c is told good before holds listed =
    keeps_same g.D.Disk.tells g.D.Disk.history (λ o. said_of (g.O.Origin.says o)) (view_of c.args.store.now) (view_of c.make_room.new.store) c.make_room.ensures.same told good before holds

pub returns-in-Err-clause-beside : goal.returns-in-Err-clause-beside
returns-in-Err-clause-beside g c told =
    besides_stay (IsPartOrAlone c.args.names.now c.args.moving.now) (g.D.Disk.history c.args.store.now.disk) (g.D.Disk.history c.make_room.new.store.disk) (ap (λ (v : View _ _). g.D.Disk.history v.disk) c.make_room.ensures.same)

pub returns-in-Err-judge-clause-goes : goal.returns-in-Err-judge-clause-goes
returns-in-Err-judge-clause-goes g c is told good before holds listed =
    let D = g.D.Disk in
    let start = view_of c.args.store.now in
    let read = record (view_of c.make_room.new.store) { disk = c.judge.new.disk } in
    read_keeps D.tells D.history (λ o. said_of (g.O.Origin.says o)) start read c.requires.whole (c.requires.store.desk.failed c.requires.whole) (ap (λ (v : View _ _). record v { disk = c.judge.new.disk }) c.make_room.ensures.same)
    (λ tells. g.met.D.Disk.sound tells c.args.store.now.disk (D.history c.args.store.now.disk).moment) (c.judge.ensures.still ∙ ap (λ (v : View _ _). D.history v.disk) c.make_room.ensures.same) told good before holds

pub returns-in-Ok-settle_as-clause-goes : goal.returns-in-Ok-settle_as-clause-goes
returns-in-Ok-settle_as-clause-goes g c is =
    let D = g.D.Disk in
    let start = view_of c.args.store.now in
    let read = record (view_of c.make_room.new.store) { disk = c.judge.new.disk } in
    let judges = subst (λ (h : History). Judges D.tells (now h) c.args.names.now c.args.moving.now c.in-Ok-judge.judged) (ap (λ (v : View _ _). D.history v.disk) c.make_room.ensures.same) c.in-Ok-judge.ensures.judges in
    item_goes D.tells D.history (λ o. said_of (g.O.Origin.says o)) start read c.requires.whole (c.requires.store.desk.failed c.requires.whole) (ap (λ (v : View _ _). record v { disk = c.judge.new.disk }) c.make_room.ensures.same)
    (λ tells. g.met.D.Disk.sound tells c.args.store.now.disk (D.history c.args.store.now.disk).moment) (c.judge.ensures.still ∙ ap (λ (v : View _ _). D.history v.disk) c.make_room.ensures.same)
    (view_of c.settle_as.new.store) c.args.names.now c.args.moving.now is c.in-Ok-judge.judged judges c.settle_as.ensures.goes

pub returns-in-Err-settle_as-clause-goes : goal.returns-in-Err-settle_as-clause-goes
returns-in-Err-settle_as-clause-goes g c is =
    let D = g.D.Disk in
    let start = view_of c.args.store.now in
    let read = record (view_of c.make_room.new.store) { disk = c.judge.new.disk } in
    let judges = subst (λ (h : History). Judges D.tells (now h) c.args.names.now c.args.moving.now c.in-Ok-judge.judged) (ap (λ (v : View _ _). D.history v.disk) c.make_room.ensures.same) c.in-Ok-judge.ensures.judges in
    item_goes D.tells D.history (λ o. said_of (g.O.Origin.says o)) start read c.requires.whole (c.requires.store.desk.failed c.requires.whole) (ap (λ (v : View _ _). record v { disk = c.judge.new.disk }) c.make_room.ensures.same)
    (λ tells. g.met.D.Disk.sound tells c.args.store.now.disk (D.history c.args.store.now.disk).moment) (c.judge.ensures.still ∙ ap (λ (v : View _ _). D.history v.disk) c.make_room.ensures.same)
    (view_of c.settle_as.new.store) c.args.names.now c.args.moving.now is c.in-Ok-judge.judged judges c.settle_as.ensures.goes

pub returns-in-Ok-settle_as-clause-beside : goal.returns-in-Ok-settle_as-clause-beside
returns-in-Ok-settle_as-clause-beside g c told =
    let D = g.D.Disk in
    item_beside D.tells (now (D.history c.make_room.new.store.disk)) c.args.names.now c.args.moving.now c.in-Ok-judge.judged c.in-Ok-judge.ensures.judges (D.history c.args.store.now.disk) (D.history c.settle_as.new.store.disk)
    (subst (λ (h : History). Besides (IsSparedBy c.args.moving.now c.in-Ok-judge.judged) h (D.history c.settle_as.new.store.disk)) (c.judge.ensures.still ∙ ap (λ (v : View _ _). D.history v.disk) c.make_room.ensures.same) (c.settle_as.ensures.beside told))

pub returns-in-Err-settle_as-clause-beside : goal.returns-in-Err-settle_as-clause-beside
returns-in-Err-settle_as-clause-beside g c told =
    let D = g.D.Disk in
    item_beside D.tells (now (D.history c.make_room.new.store.disk)) c.args.names.now c.args.moving.now c.in-Ok-judge.judged c.in-Ok-judge.ensures.judges (D.history c.args.store.now.disk) (D.history c.settle_as.new.store.disk)
    (subst (λ (h : History). Besides (IsSparedBy c.args.moving.now c.in-Ok-judge.judged) h (D.history c.settle_as.new.store.disk)) (c.judge.ensures.still ∙ ap (λ (v : View _ _). D.history v.disk) c.make_room.ensures.same) (c.settle_as.ensures.beside told))

pub returns-in-Err-settle_as-clause-makes : goal.returns-in-Err-settle_as-clause-makes
returns-in-Err-settle_as-clause-makes g c =
    let D = g.D.Disk in
    let start = view_of c.args.store.now in
    let read = record (view_of c.make_room.new.store) { disk = c.judge.new.disk } in
    let judges = subst (λ (h : History). Judges D.tells (now h) c.args.names.now c.args.moving.now c.in-Ok-judge.judged) (ap (λ (v : View _ _). D.history v.disk) c.make_room.ensures.same) c.in-Ok-judge.ensures.judges in
    inr (record {
      judged = c.in-Ok-judge.judged;
      judges = judges;
      stops = item_stopped D.tells D.history (λ o. said_of (g.O.Origin.says o)) start read c.requires.whole (c.requires.store.desk.failed c.requires.whole) (ap (λ (v : View _ _). record v { disk = c.judge.new.disk }) c.make_room.ensures.same)
          (view_of c.settle_as.new.store) (entry_of c.args.moving.now.id c.args.at c.in-Ok-judge.judged) c.in-Err-settle_as.ensures.makes;
    })
