use Rattle.std.proofs.Common.{◌≡◌, ◌∙◌, ◌≤◌, inl, [], refl, sym, ap, subst, arith, vec_len}
use Rattle.std.proofs.lemmas.Bool.{false≢true}
use Rattle.std.proofs.lemmas.List.{append-nil}
use Rattle.dm_types.specs.declared.item.Limits.{Limits}
use Rattle.dm_store.specs.Origin.{said_of}
use Rattle.dm_store.specs.declared.pass.Pass.{Pass}
use Rattle.dm_attempt.specs.declared.stop.Going.{Going}
use Rattle.dm_attempt.specs.Trace.{untold}
use Rattle.dm_rounds.specs.Rounding.{AsksAll, next_shares}
use Rattle.dm_rounds.specs.Running.{MayGoOn}
use Rattle.dm_rounds.specs.Trail.{RunLeaves, kept_asking}
use Rattle.dm_rounds.proofs.Onward.{from_same, leaves_longer, next_runs, opening_stops}
use Rattle.dm_rounds.proofs.Trails.{told_some}
use Rattle.dm_rounds.proofs.running.run_kept.Goals as goal

pub run_rounds-requires-clause-most : goal.run_rounds-requires-clause-most
run_rounds-requires-clause-most g c =
    let D = g.S.D.Disk in
    let N = g.N.Net in
    let W = g.N.W.Wire in
    let view = g.S.Desk.view in
    let scene = c.requires.may.scene in
    let start = c.requires.may.is in
    let pass = c.args.pass.now in
    let asking = kept_asking pass c.args.source.now in
    let asks : AsksAll asking c.args.source.now pass = record { source_is = refl; key_is = refl; purpose_is = refl; own = refl; known_is = refl } in
    let opens = c.in-Ok.ensures.goes scene (untold [] [] c.args.slices) asking start.live (told_some pass asking _ start.keyed) refl asks start.keyed (λ n. start.still n ∙ sym (append-nil scene.closed)) start.origin in
    let limits : (view c.open_round.new.desk).limits ≡ (view c.args.desk.now).limits = (opens.reading (record { pass = pass; round = 1 }) refl refl).has.live.goes.went.limits ∙ sym start.live.goes.went.limits in
    subst (λ (l : Limits). vec_len c.args.tools.now.buffer ≤ l.piece) (sym limits) c.requires.most

pub run_rounds-requires-clause-may : goal.run_rounds-requires-clause-may
run_rounds-requires-clause-may g c =
    let D = g.S.D.Disk in
    let N = g.N.Net in
    let W = g.N.W.Wire in
    let view = g.S.Desk.view in
    let scene = c.requires.may.scene in
    let start = c.requires.may.is in
    let pass = c.args.pass.now in
    let asking = kept_asking pass c.args.source.now in
    let asks : AsksAll asking c.args.source.now pass = record { source_is = refl; key_is = refl; purpose_is = refl; own = refl; known_is = refl } in
    let opens = c.in-Ok.ensures.goes scene (untold [] [] c.args.slices) asking start.live (told_some pass asking _ start.keyed) refl asks start.keyed (λ n. start.still n ∙ sym (append-nil scene.closed)) start.origin in
    let going : Going = record { pass = pass; round = 1 } in
    subst (λ (going : Going). MayGoOn D.tells D.history (λ o. said_of (g.S.O.Origin.says o)) D.far D.faults N.tells W.tells W.purpose W.told W.origin going (view c.open_round.new.desk) (N.closed c.open_round.new.net) (N.origin_of c.open_round.new.net) c.open_round.new.lanes.items c.args.source.now c.args.slices c.args.at) (sym c.first_of.ensures)
    (record {
      run = record {
        scene = scene;
        older = untold [] [] c.args.slices;
        first = asking;
        shares = next_shares scene (untold [] [] c.args.slices);
        is = next_runs D.tells D.history (λ o. said_of (g.S.O.Origin.says o)) D.far D.faults N.tells scene going (untold [] [] c.args.slices) asking asking (untold [] [] c.args.slices) (from_same (untold [] [] c.args.slices)) refl tt refl (inl refl) W.tells W.purpose W.told W.origin
            (view c.open_round.new.desk) (N.closed c.open_round.new.net) (N.origin_of c.open_round.new.net) c.open_round.new.lanes.items c.args.at going refl refl opens (c.open_round.ensures.stays ∙ start.origin) start.at_is;
      };
      count_is = refl;
      asks = asks;
    })

pub returns-in-Ok-clause-goes : goal.returns-in-Ok-clause-goes
returns-in-Ok-clause-goes g c scene start =
    let D = g.S.D.Disk in
    let N = g.N.Net in
    let W = g.N.W.Wire in
    let view = g.S.Desk.view in
    let pass = c.args.pass.now in
    let asking = kept_asking pass c.args.source.now in
    let asks : AsksAll asking c.args.source.now pass = record { source_is = refl; key_is = refl; purpose_is = refl; own = refl; known_is = refl } in
    let opens = c.in-Ok.ensures.goes scene (untold [] [] c.args.slices) asking start.live (told_some pass asking _ start.keyed) refl asks start.keyed (λ n. start.still n ∙ sym (append-nil scene.closed)) start.origin in
    let going = c.first_of.result in
    let same : going ≡ record { pass = pass; round = 1 } = c.first_of.ensures in
    let own : going.pass ≡ pass = ap (λ (x : Going). x.pass) same in
    let turn : going.round ≡ 1 = ap (λ (x : Going). x.round) same in
    let older = untold [] [] c.args.slices in
    let running = next_runs D.tells D.history (λ o. said_of (g.S.O.Origin.says o)) D.far D.faults N.tells scene (record { pass = pass; round = 1 }) older asking asking older (from_same older) refl tt refl (inl refl) W.tells W.purpose W.told W.origin
    (view c.open_round.new.desk) (N.closed c.open_round.new.net) (N.origin_of c.open_round.new.net) c.open_round.new.lanes.items c.args.at going own turn opens (c.open_round.ensures.stays ∙ start.origin) start.at_is in
    subst (λ (p : Pass). RunLeaves D.tells D.history (λ o. said_of (g.S.O.Origin.says o)) D.far D.faults N.tells scene p (view c.run_rounds.new.desk) (N.closed c.run_rounds.new.net) (N.faults c.args.net.now) (N.faults c.run_rounds.new.net) older asking c.run_rounds.result) own
    (leaves_longer D.tells D.history (λ o. said_of (g.S.O.Origin.says o)) D.far D.faults N.tells scene going.pass (view c.run_rounds.new.desk) (N.closed c.run_rounds.new.net) (N.faults c.args.net.now) (N.faults c.open_round.new.net) (N.faults c.run_rounds.new.net) older asking c.run_rounds.result
    c.open_round.ensures.later (c.run_rounds.ensures.goes scene older asking (next_shares scene older) running refl (subst (λ (p : Pass). AsksAll asking c.args.source.now p) (sym own) asks)))

pub returns-in-Err-clause-goes : goal.returns-in-Err-clause-goes
returns-in-Err-clause-goes g c scene start =
    let D = g.S.D.Disk in
    let N = g.N.Net in
    let W = g.N.W.Wire in
    let view = g.S.Desk.view in
    let pass = c.args.pass.now in
    let asking = kept_asking pass c.args.source.now in
    let older = untold [] [] c.args.slices in
    let asks : AsksAll asking c.args.source.now pass = record { source_is = refl; key_is = refl; purpose_is = refl; own = refl; known_is = refl } in
    opening_stops D.tells D.history (λ o. said_of (g.S.O.Origin.says o)) D.far D.faults N.tells scene (record { pass = pass; round = 1 }) older asking asking older (from_same older) refl tt refl (inl refl)
    (N.faults c.args.net.now) (N.faults c.open_round.new.net) (view c.open_round.new.desk) (N.closed c.open_round.new.net) c.in-Err.stop (λ n served. absurd (false≢true served)) c.args.source.now (N.faults c.args.net.now) (λ kind. omega arith)
    (λ cause why. absurd (let e = why.1 in omega (arith, e)))
    (c.in-Err.ensures.goes scene older asking start.live (told_some pass asking _ start.keyed) refl asks start.keyed (λ n. start.still n ∙ sym (append-nil scene.closed)) start.origin)
