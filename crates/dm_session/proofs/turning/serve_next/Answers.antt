use Rattle.std.proofs.Common.{◌∙◌, ◌++◌, ◌∷◌, [], List, ap, arith, refl}
use Rattle.dm_types.specs.Faults.{Rose}
use Rattle.dm_edge.specs.Counts.{raised_by}
use Rattle.dm_edge.specs.declared.fault.EdgeFault.TheVariants.{Failed}
use Rattle.dm_conns.specs.Conn.{Over, over_of}
use Rattle.dm_store.specs.Origin.{said_of}
use Rattle.dm_does.specs.Printing.{SameCounts}
use Rattle.dm_works.specs.Requests.{AnswersOn}
use Rattle.dm_works.specs.Serving.{service_of}
use Rattle.dm_works.proofs.Stepping.{steps_same}
use Rattle.dm_session.specs.Serving.{AnswersAt, IsTold}
use Rattle.dm_session.specs.Turning.{stops_behind}
use Rattle.dm_session.proofs.Turned.{as_failed, serves_more, serves_told, turn_served, turned_so}
use Rattle.dm_session.proofs.turning.serve_next.Goals as goal

pub returns-in-Ok-clause-turned : goal.returns-in-Ok-clause-turned
returns-in-Ok-clause-turned g c =
    let X = g.X.Conns in
    let S = g.X.X.Source in
    let tell = g.met.X.Conns.conns_tell in
    let before = c.in-Ok.conn in
    let after = c.serve_one-served.new.conn in
    let K = g.K.Keeper in
    let answered = AnswersOn g.D.Disk.tells K.tells g.D.Disk.history g.D.Disk.faults (λ o. said_of (g.O.Origin.says o)) in
    let answers = AnswersAt (IsTold g.C.Clock.tells g.C.Clock.next) g.D.Disk.tells K.tells g.D.Disk.history g.D.Disk.faults (λ o. said_of (g.O.Origin.says o)) in
    let service = service_of K.rows K.faults c.args.desk.now c.args.keeper.now in
    let then = service_of K.rows K.faults c.serve_one-served.new.desk c.serve_one-served.new.keeper in
    turned_so X.tells answers service then (X.over c.args.conns.now) (X.over c.done.new.self) (X.served c.args.conns.now) (X.served c.done.new.self) (SameCounts (X.faults c.args.conns.now) (X.faults c.done.new.self)) (Rose (X.faults c.args.conns.now Failed) (X.faults c.done.new.self Failed))
    (stops_behind c.serve_one-served.result) c.stops.result c.by_stops.result c.stops.ensures c.by_stops.ensures
    (turn_served X.tells (S.told before) (S.told after) (S.faults before) (S.faults after) (λ told. c.in-Ok.ensures.fresh (tell told)) (c.in-Ok.ensures.unfailed Failed)
    answers service then c.now-at.result c.serve_one-served.result
    (serves_told S.tells X.tells tell (S.told before) (S.told after) (S.faults before) (S.faults after) answers service then c.now-at.result c.serve_one-served.result
    (serves_more answered answers service then S.tells (S.told before) (S.told after) (S.faults before) (S.faults after) c.now-at.result c.serve_one-served.result
    (λ request answer is. (λ told. (c.args.clock.now, c.now-at.ensures told), is)) c.serve_one-served.ensures.served))
    (X.over c.args.conns.now) (X.over c.done.new.self) (X.served c.args.conns.now) (X.served c.done.new.self)
    (λ told. c.done.ensures.over told ∙ ap (λ (o : List Over). o ++ over_of (S.told after) (S.faults after) ∷ []) c.in-Ok.ensures.over)
    (c.done.ensures.served ∙ ap (raised_by 1) c.in-Ok.ensures.served))
    (λ kind. c.done.ensures.faults kind ∙ c.in-Ok.ensures.quiet kind)

pub returns-in-Ok-clause-later : goal.returns-in-Ok-clause-later
returns-in-Ok-clause-later g c = λ kind. let accepted = c.in-Ok.ensures.cause.later kind in let same = c.done.ensures.faults kind in omega (arith, accepted, same)

pub returns-in-Err-Failed-clause-turned : goal.returns-in-Err-Failed-clause-turned
returns-in-Err-Failed-clause-turned g c =
    let X = g.X.Conns in
    record {
      same = refl;
      over_is = c.in-Err-Failed.ensures.over;
      count_is = c.in-Err-Failed.ensures.served;
      failed = as_failed (X.faults c.args.conns.now) (X.faults c.accept.new.self) c.in-Err-Failed.field-0 c.in-Err-Failed.ensures.cause.cause;
    }

pub returns-in-Err-Failed-clause-steps : goal.returns-in-Err-Failed-clause-steps
returns-in-Err-Failed-clause-steps g c = steps_same g.D.Disk.tells g.D.Disk.history g.D.Disk.faults g.D.Disk.far (λ o. said_of (g.O.Origin.says o)) c.args.desk.now
