use Rattle.dm_disk_model.proofs.Beside.{besides_more, besides_then}
use Rattle.dm_store.specs.Origin.{said_of}
use Rattle.dm_store.specs.Store.{view_of}
use Rattle.dm_store.proofs.Keeping.{keeps_then}
use Rattle.dm_answers.specs.Sweep.{IsLeftover}
use Rattle.dm_settle.specs.Settled.{IsPartOrGiven}
use Rattle.dm_settle.proofs.All.{goes_on}
use Rattle.dm_open.proofs.Finishings.{finish_makes, finish_near, left_part}
use Rattle.dm_open.proofs.finishing.finish_opening.Goals as goal

pub returns-in-Ok-clause-makes : goal.returns-in-Ok-clause-makes
returns-in-Ok-clause-makes g c =
    let D = g.D.Disk in
    finish_makes D.tells D.history (view_of c.args.store.now) (view_of c.settle_listed.new.store) (view_of c.sweep_whole.new.store) c.args.at c.in-Ok.ensures.makes
    (λ told. goes_on (IsLeftover c.settle_listed.new.store.items) (D.history c.settle_listed.new.store.disk) (D.history c.sweep_whole.new.store.disk) (c.sweep_whole.ensures.beside told)) c.sweep_whole.result c.sweep_whole.ensures.makes

pub returns-in-Ok-clause-keeps : goal.returns-in-Ok-clause-keeps
returns-in-Ok-clause-keeps g c =
    let D = g.D.Disk in
    keeps_then D.tells D.history (λ o. said_of (g.O.Origin.says o)) (view_of c.args.store.now) (view_of c.settle_listed.new.store) (view_of c.sweep_whole.new.store) c.settle_listed.ensures.keeps
    c.in-Ok.ensures.makes.becomes.origin c.in-Ok.ensures.makes.becomes.failed_is c.sweep_whole.ensures.keeps

pub returns-in-Ok-clause-beside : goal.returns-in-Ok-clause-beside
returns-in-Ok-clause-beside g c told =
    let D = g.D.Disk in
    besides_then (IsPartOrGiven D.history (view_of c.args.store.now)) (D.history c.args.store.now.disk) (D.history c.settle_listed.new.store.disk) (D.history c.sweep_whole.new.store.disk) (c.settle_listed.ensures.beside told)
    (besides_more (IsLeftover c.settle_listed.new.store.items) (IsPartOrGiven D.history (view_of c.args.store.now)) (D.history c.settle_listed.new.store.disk) (D.history c.sweep_whole.new.store.disk)
    (left_part D.history (view_of c.args.store.now) c.settle_listed.new.store.items) (c.sweep_whole.ensures.beside told))

pub returns-in-Ok-clause-far : goal.returns-in-Ok-clause-far
returns-in-Ok-clause-far g c =
    let D = g.D.Disk in
    finish_near D.tells D.history (view_of c.args.store.now) (view_of c.settle_listed.new.store) (view_of c.sweep_whole.new.store) c.args.at c.in-Ok.ensures.makes
    (λ told. goes_on (IsLeftover c.settle_listed.new.store.items) (D.history c.settle_listed.new.store.disk) (D.history c.sweep_whole.new.store.disk) (c.sweep_whole.ensures.beside told)) c.sweep_whole.result c.sweep_whole.ensures.makes
    (D.far c.args.store.now.disk) (D.far c.settle_listed.new.store.disk) (D.far c.sweep_whole.new.store.disk) c.settle_listed.ensures.far c.sweep_whole.ensures.far
