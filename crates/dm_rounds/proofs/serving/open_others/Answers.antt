use Rattle.std.proofs.Common.{◌<◌, ◌-◌, ℕ, ◌+◌, List, drop, take, get_or, length, sym, ap, subst, arith}
use Rattle.dm_answers.specs.declared.answer.SlicePass.{SlicePass}
use Rattle.dm_rounds.specs.Opening.{AreAsked}
use Rattle.dm_rounds.proofs.Lost.{all_opened, lost_round}
use Rattle.dm_rounds.proofs.Serves.{drop_one, rest_is, rest_ordered}
use Rattle.dm_rounds.proofs.serving.open_others.Goals as goal

pub ask_rest-requires-clause-room : goal.ask_rest-requires-clause-room
ask_rest-requires-clause-room g c = let same = ap (λ (l : List SlicePass). length l) (rest_is c.args.plan.now) in let room = c.requires.room in omega (arith, same, room)

pub ask_rest-requires-clause-ordered : goal.ask_rest-requires-clause-ordered
ask_rest-requires-clause-ordered g c =
    subst (λ (l : List SlicePass). (k : ℕ) (d : SlicePass) → k < length l → (get_or l k d).first < (get_or l k d).end) (sym (rest_is c.args.plan.now)) (rest_ordered c.args.plan.now c.requires.ordered)

pub returns-in-Ok-clause-opened : goal.returns-in-Ok-clause-opened
returns-in-Ok-clause-opened g c asking shares start asked count opening =
    let N = g.N.Net in
    let W = g.N.W.Wire in
    let plan = c.args.plan.now in
    let rest = drop_one plan c.requires.some in
    let same = ap (λ (l : List SlicePass). length l) (rest_is plan) in
    all_opened N.tells W.tells W.purpose W.told W.origin (N.origin_of c.args.net.now) asking start (N.closed c.ask_rest.new.net) shares (1 + length (take (length plan - 1) (drop 1 plan))) c.ask_rest.new.lanes.items
    (let l = count in omega (arith, l, rest, same)) (λ served. omega arith)
    (c.in-Ok.ensures.goes asking shares start 1 (subst (λ (l : List SlicePass). AreAsked asking c.args.source.now c.args.pass.now shares 1 l) (sym (rest_is plan)) asked) opening)

pub returns-in-Err-clause-stopped : goal.returns-in-Err-clause-stopped
returns-in-Err-clause-stopped g c asking shares start asked opening =
    let N = g.N.Net in
    let W = g.N.W.Wire in
    lost_round N.tells W.tells g.met.N.Net.wires_tell W.purpose W.told W.origin (N.origin_of c.args.net.now) asking c.args.source.now c.args.pass.now start (N.closed c.ask_rest.new.net) (N.closed c.close_all.new.net)
    (N.faults c.args.net.now) (N.faults c.ask_rest.new.net) (N.faults c.close_all.new.net) shares c.ask_rest.new.lanes.items c.in-Err.stop
    (c.in-Err.ensures.stopped asking shares start 1 (subst (λ (l : List SlicePass). AreAsked asking c.args.source.now c.args.pass.now shares 1 l) (sym (rest_is c.args.plan.now)) asked) opening)
    c.close_all.ensures.closed c.close_all.ensures.later
