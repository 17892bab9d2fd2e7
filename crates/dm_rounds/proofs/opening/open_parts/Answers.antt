use Rattle.std.proofs.Common.{◌+◌, ◌∙◌, length, sym, arith}
use Rattle.std.proofs.lemmas.Bool.{false≢true}
use Rattle.dm_rounds.proofs.Lost.{all_opened, lost_round, none_open}
use Rattle.dm_rounds.proofs.opening.open_parts.Goals as goal

pub returns-in-Ok-clause-opened : goal.returns-in-Ok-clause-opened
returns-in-Ok-clause-opened g c asking shares start unserved asked count still =
    let N = g.N.Net in
    let W = g.N.W.Wire in
    let there = N.origin_of c.args.net.now in
    let opening = none_open N.tells W.tells W.purpose W.told W.origin there asking start (N.closed c.args.net.now) shares c.args.lanes.now.items c.requires.none still in
    all_opened N.tells W.tells W.purpose W.told W.origin there asking start (N.closed c.ask_rest.new.net) shares (0 + length c.args.plan.now) c.ask_rest.new.lanes.items (let l = count in omega (arith, l)) (λ served. absurd (false≢true (sym unserved ∙ served)))
    (c.in-Ok.ensures.goes asking shares start 0 asked opening)

pub returns-in-Err-clause-stopped : goal.returns-in-Err-clause-stopped
returns-in-Err-clause-stopped g c asking shares start asked still =
    let N = g.N.Net in
    let W = g.N.W.Wire in
    let there = N.origin_of c.args.net.now in
    let opening = none_open N.tells W.tells W.purpose W.told W.origin there asking start (N.closed c.args.net.now) shares c.args.lanes.now.items c.requires.none still in
    lost_round N.tells W.tells g.met.N.Net.wires_tell W.purpose W.told W.origin there asking c.args.source.now c.args.pass.now start (N.closed c.ask_rest.new.net) (N.closed c.close_all.new.net)
    (N.faults c.args.net.now) (N.faults c.ask_rest.new.net) (N.faults c.close_all.new.net) shares c.ask_rest.new.lanes.items c.in-Err.stop (c.in-Err.ensures.stopped asking shares start 0 asked opening)
    c.close_all.ensures.closed c.close_all.ensures.later
