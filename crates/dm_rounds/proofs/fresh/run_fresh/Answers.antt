use Rattle.std.proofs.Common.{drop, length, Ok, Err}
use Rattle.dm_store.specs.Origin.{said_of}
use Rattle.dm_rounds.specs.Serving.{IsAnswered}
use Rattle.dm_rounds.proofs.Anew.{fresh_longer, has_reply, none_reached}
use Rattle.dm_rounds.proofs.fresh.run_fresh.Goals as goal

pub serve-requires-clause-may : goal.serve-requires-clause-may
serve-requires-clause-may g c =
    let D = g.S.D.Disk in
    let N = g.N.Net in
    let W = g.N.W.Wire in
    let view = g.S.Desk.view in
    let m = c.requires.may in
    let pass = c.args.pass.now in
    let reply = c.in-Ok.reply in
    let mid = c.first_reply.new.net in
    let is : IsAnswered D.tells D.history (λ o. said_of (g.S.O.Origin.says o)) D.far D.faults N.tells W.tells W.purpose W.told W.origin m.scene pass (view c.args.desk.now) (N.closed mid) (N.origin_of mid) c.args.address.now reply (drop (length (N.closed c.args.net.now)) (N.closed mid)) c.args.at = (record {
      has = has_reply N.tells W.tells W.purpose W.told W.origin m.scene pass (N.closed c.args.net.now) (N.closed mid) (N.origin_of c.args.net.now) (N.origin_of mid) c.args.address.now reply c.args.at c.in-Ok.ensures.ready c.requires.read c.in-Ok.ensures.heard c.in-Ok.ensures.origin c.first_reply.ensures.stays
          m.is.origin m.is.still c.in-Ok.ensures.reached m.is.at_is;
      live = m.is.live;
      none = m.is.none;
    }) in
    record { scene = m.scene; first = c.args.address.now; led = drop (length (N.closed c.args.net.now)) (N.closed mid); is = is }

pub returns-in-Ok-serve-clause-goes : goal.returns-in-Ok-serve-clause-goes
returns-in-Ok-serve-clause-goes g c scene start =
    let D = g.S.D.Disk in
    let N = g.N.Net in
    let W = g.N.W.Wire in
    let view = g.S.Desk.view in
    let pass = c.args.pass.now in
    let reply = c.in-Ok.reply in
    let mid = c.first_reply.new.net in
    let is : IsAnswered D.tells D.history (λ o. said_of (g.S.O.Origin.says o)) D.far D.faults N.tells W.tells W.purpose W.told W.origin scene pass (view c.args.desk.now) (N.closed mid) (N.origin_of mid) c.args.address.now reply (drop (length (N.closed c.args.net.now)) (N.closed mid)) c.args.at = (record {
      has = has_reply N.tells W.tells W.purpose W.told W.origin scene pass (N.closed c.args.net.now) (N.closed mid) (N.origin_of c.args.net.now) (N.origin_of mid) c.args.address.now reply c.args.at c.in-Ok.ensures.ready c.requires.read c.in-Ok.ensures.heard c.in-Ok.ensures.origin c.first_reply.ensures.stays
          start.origin start.still c.in-Ok.ensures.reached start.at_is;
      live = start.live;
      none = start.none;
    }) in
    fresh_longer D.tells D.history (λ o. said_of (g.S.O.Origin.says o)) D.far D.faults N.tells scene pass (view c.args.desk.now) (view c.serve.new.desk) (N.closed c.serve.new.net) (N.faults c.args.net.now) (N.faults mid) (N.faults c.serve.new.net) c.args.address.now c.args.wish.now c.args.slices (Ok tt) c.first_reply.ensures.later
    (c.in-Ok-serve.ensures.goes scene c.args.address.now (drop (length (N.closed c.args.net.now)) (N.closed mid)) is)

pub returns-in-Err-serve-clause-goes : goal.returns-in-Err-serve-clause-goes
returns-in-Err-serve-clause-goes g c scene start =
    let D = g.S.D.Disk in
    let N = g.N.Net in
    let W = g.N.W.Wire in
    let view = g.S.Desk.view in
    let pass = c.args.pass.now in
    let reply = c.in-Ok.reply in
    let mid = c.first_reply.new.net in
    let is : IsAnswered D.tells D.history (λ o. said_of (g.S.O.Origin.says o)) D.far D.faults N.tells W.tells W.purpose W.told W.origin scene pass (view c.args.desk.now) (N.closed mid) (N.origin_of mid) c.args.address.now reply (drop (length (N.closed c.args.net.now)) (N.closed mid)) c.args.at = (record {
      has = has_reply N.tells W.tells W.purpose W.told W.origin scene pass (N.closed c.args.net.now) (N.closed mid) (N.origin_of c.args.net.now) (N.origin_of mid) c.args.address.now reply c.args.at c.in-Ok.ensures.ready c.requires.read c.in-Ok.ensures.heard c.in-Ok.ensures.origin c.first_reply.ensures.stays
          start.origin start.still c.in-Ok.ensures.reached start.at_is;
      live = start.live;
      none = start.none;
    }) in
    fresh_longer D.tells D.history (λ o. said_of (g.S.O.Origin.says o)) D.far D.faults N.tells scene pass (view c.args.desk.now) (view c.serve.new.desk) (N.closed c.serve.new.net) (N.faults c.args.net.now) (N.faults mid) (N.faults c.serve.new.net) c.args.address.now c.args.wish.now c.args.slices (Err c.in-Err-serve.stop) c.first_reply.ensures.later
    (c.in-Err-serve.ensures.goes scene c.args.address.now (drop (length (N.closed c.args.net.now)) (N.closed mid)) is)

pub returns-in-Err-clause-goes : goal.returns-in-Err-clause-goes
returns-in-Err-clause-goes g c scene start =
    let D = g.S.D.Disk in
    let N = g.N.Net in
    let W = g.N.W.Wire in
    let view = g.S.Desk.view in
    none_reached D.tells D.history (λ o. said_of (g.S.O.Origin.says o)) D.far D.faults scene c.args.pass.now N.tells (view c.args.desk.now) c.args.address.now c.args.wish.now c.args.slices (N.closed c.args.net.now) (N.closed c.first_reply.new.net) (N.faults c.args.net.now) (N.faults c.first_reply.new.net)
    (view c.args.desk.now) c.in-Err.stop start.live start.still c.in-Err.ensures.own c.in-Err.ensures.counted c.in-Err.ensures.stopped
