use Rattle.std.proofs.Common.{refl}
use Rattle.dm_store.specs.Origin.{said_of}
use Rattle.dm_rounds.proofs.Begins.{has_planned, named_asking, named_live, named_trace, not_begun, not_planned}
use Rattle.dm_rounds.proofs.beginning.begin_round.Goals as goal

pub returns-in-Ok-plan_round-clause-goes : goal.returns-in-Ok-plan_round-clause-goes
returns-in-Ok-plan_round-clause-goes g c scene led lost live none =
    let D = g.S.D.Disk in
    let view = g.S.Desk.view in
    let reply = c.args.reply.now in
    let told = c.in-Ok.ensures.goes scene led lost c.args.count live none in
    has_planned D.tells D.history (λ o. said_of (g.S.O.Origin.says o)) D.far D.faults scene c.args.pass.now (view c.args.desk.now) (view c.plan_round.new.desk) led lost c.args.count c.args.wish.now reply.head reply.address reply.key (view c.tell.new.desk) told c.in-Ok-plan_round.passes
    (c.in-Ok-plan_round.ensures.goes scene (named_trace D.tells D.history (λ o. said_of (g.S.O.Origin.says o)) D.far D.faults scene c.args.pass.now (view c.args.desk.now) (view c.plan_round.new.desk) led lost c.args.count c.args.wish.now reply.head reply.address reply.key (view c.tell.new.desk) told) (named_asking D.tells D.history (λ o. said_of (g.S.O.Origin.says o)) D.far D.faults scene c.args.pass.now (view c.args.desk.now) (view c.plan_round.new.desk) led lost c.args.count c.args.wish.now reply.head reply.address reply.key (view c.tell.new.desk) told) (named_live D.tells D.history (λ o. said_of (g.S.O.Origin.says o)) D.far D.faults scene c.args.pass.now (view c.args.desk.now) (view c.plan_round.new.desk) led lost c.args.count c.args.wish.now reply.head reply.address reply.key (view c.tell.new.desk) told) refl refl)

pub returns-in-Ok-plan_round-clause-bare : goal.returns-in-Ok-plan_round-clause-bare
returns-in-Ok-plan_round-clause-bare g c scene led lost live none = c.in-Ok.ensures.bare scene led lost c.args.count live none

pub returns-in-Err-plan_round-clause-goes : goal.returns-in-Err-plan_round-clause-goes
returns-in-Err-plan_round-clause-goes g c scene led lost live none =
    let D = g.S.D.Disk in
    let view = g.S.Desk.view in
    let reply = c.args.reply.now in
    let told = c.in-Ok.ensures.goes scene led lost c.args.count live none in
    not_planned D.tells D.history (λ o. said_of (g.S.O.Origin.says o)) D.far D.faults scene c.args.pass.now (view c.args.desk.now) (view c.plan_round.new.desk) led lost c.args.count c.args.wish.now reply.head reply.address reply.key (view c.tell.new.desk) told c.in-Err-plan_round.stop
    (c.in-Err-plan_round.ensures.goes scene (named_trace D.tells D.history (λ o. said_of (g.S.O.Origin.says o)) D.far D.faults scene c.args.pass.now (view c.args.desk.now) (view c.plan_round.new.desk) led lost c.args.count c.args.wish.now reply.head reply.address reply.key (view c.tell.new.desk) told) (named_asking D.tells D.history (λ o. said_of (g.S.O.Origin.says o)) D.far D.faults scene c.args.pass.now (view c.args.desk.now) (view c.plan_round.new.desk) led lost c.args.count c.args.wish.now reply.head reply.address reply.key (view c.tell.new.desk) told) (named_live D.tells D.history (λ o. said_of (g.S.O.Origin.says o)) D.far D.faults scene c.args.pass.now (view c.args.desk.now) (view c.plan_round.new.desk) led lost c.args.count c.args.wish.now reply.head reply.address reply.key (view c.tell.new.desk) told) refl refl)

pub returns-in-Err-clause-goes : goal.returns-in-Err-clause-goes
returns-in-Err-clause-goes g c scene led lost live none =
    let D = g.S.D.Disk in
    let view = g.S.Desk.view in
    let reply = c.args.reply.now in
    not_begun D.tells D.history (λ o. said_of (g.S.O.Origin.says o)) D.far D.faults scene c.args.pass.now (view c.args.desk.now) (view c.tell.new.desk) led lost c.args.count c.args.wish.now reply.head reply.address reply.key c.in-Err.stop
    (c.in-Err.ensures.goes scene led lost c.args.count live none)
