use Rattle.std.proofs.Common.{[], refl}
use Rattle.dm_store.specs.Origin.{said_of}
use Rattle.dm_edge.specs.Wire.{closed_of}
use Rattle.dm_rounds.proofs.Taking.{bare_done, bare_live, bare_stopped, bare_trace, lost_own}
use Rattle.dm_rounds.proofs.fresh.finish_bare.Goals as goal

pub returns-in-Ok-clause-goes : goal.returns-in-Ok-clause-goes
returns-in-Ok-clause-goes g c scene old first handed slices led is =
    let D = g.S.D.Disk in
    let N = g.N.Net in
    let W = g.N.W.Wire in
    let view = g.S.Desk.view in
    let lost = closed_of (W.purpose c.args.reply.wire) (W.told c.args.reply.wire) in
    let left = lost_own D.tells D.history (λ o. said_of (g.S.O.Origin.says o)) D.far D.faults N.tells W.tells g.met.N.Net.wires_tell W.purpose W.told W.origin scene c.args.pass.now old (view c.args.desk.now) (N.closed c.args.net.now) (N.origin_of c.args.net.now) first handed slices c.args.reply led c.args.count [] c.args.at is in
    let trace = bare_trace D.tells D.history (λ o. said_of (g.S.O.Origin.says o)) D.far D.faults N.tells W.tells g.met.N.Net.wires_tell W.purpose W.told W.origin scene c.args.pass.now old (view c.args.desk.now) (N.closed c.args.net.now) (N.origin_of c.args.net.now) first handed slices c.args.reply led c.args.count [] c.args.at is refl c.requires.some lost left (N.closed c.close_reply.new.net) c.close_reply.ensures.closed in
    let live = bare_live D.tells D.history (λ o. said_of (g.S.O.Origin.says o)) D.far D.faults N.tells W.tells g.met.N.Net.wires_tell W.purpose W.told W.origin scene c.args.pass.now old (view c.args.desk.now) (N.closed c.args.net.now) (N.origin_of c.args.net.now) first handed slices c.args.reply led c.args.count [] c.args.at is refl c.requires.some lost left (N.closed c.close_reply.new.net) c.close_reply.ensures.closed in
    bare_done D.tells D.history (λ o. said_of (g.S.O.Origin.says o)) D.far D.faults N.tells W.tells g.met.N.Net.wires_tell W.purpose W.told W.origin scene c.args.pass.now old (view c.args.desk.now) (N.closed c.args.net.now) (N.origin_of c.args.net.now) first handed slices c.args.reply led c.args.count [] c.args.at is refl c.requires.some lost left (N.closed c.close_reply.new.net) c.close_reply.ensures.closed (view c.finish.new.desk) c.in-Ok.field-0
    (c.in-Ok.ensures.goes scene trace live refl is.has.at_is)

pub returns-in-Err-clause-goes : goal.returns-in-Err-clause-goes
returns-in-Err-clause-goes g c scene old first handed slices led is =
    let D = g.S.D.Disk in
    let N = g.N.Net in
    let W = g.N.W.Wire in
    let view = g.S.Desk.view in
    let lost = closed_of (W.purpose c.args.reply.wire) (W.told c.args.reply.wire) in
    let left = lost_own D.tells D.history (λ o. said_of (g.S.O.Origin.says o)) D.far D.faults N.tells W.tells g.met.N.Net.wires_tell W.purpose W.told W.origin scene c.args.pass.now old (view c.args.desk.now) (N.closed c.args.net.now) (N.origin_of c.args.net.now) first handed slices c.args.reply led c.args.count [] c.args.at is in
    let trace = bare_trace D.tells D.history (λ o. said_of (g.S.O.Origin.says o)) D.far D.faults N.tells W.tells g.met.N.Net.wires_tell W.purpose W.told W.origin scene c.args.pass.now old (view c.args.desk.now) (N.closed c.args.net.now) (N.origin_of c.args.net.now) first handed slices c.args.reply led c.args.count [] c.args.at is refl c.requires.some lost left (N.closed c.close_reply.new.net) c.close_reply.ensures.closed in
    let live = bare_live D.tells D.history (λ o. said_of (g.S.O.Origin.says o)) D.far D.faults N.tells W.tells g.met.N.Net.wires_tell W.purpose W.told W.origin scene c.args.pass.now old (view c.args.desk.now) (N.closed c.args.net.now) (N.origin_of c.args.net.now) first handed slices c.args.reply led c.args.count [] c.args.at is refl c.requires.some lost left (N.closed c.close_reply.new.net) c.close_reply.ensures.closed in
    bare_stopped D.tells D.history (λ o. said_of (g.S.O.Origin.says o)) D.far D.faults N.tells W.tells g.met.N.Net.wires_tell W.purpose W.told W.origin scene c.args.pass.now old (view c.args.desk.now) (N.closed c.args.net.now) (N.origin_of c.args.net.now) first handed slices c.args.reply led c.args.count [] c.args.at is refl c.requires.some lost left (N.closed c.close_reply.new.net) c.close_reply.ensures.closed (N.faults c.args.net.now) (N.faults c.close_reply.new.net) (view c.finish.new.desk) c.in-Err.stop
    (c.in-Err.ensures.goes scene trace live refl is.has.at_is)
