use Rattle.std.proofs.Common.{◌≡◌, ◌<◌, ℕ, ◌+◌, List, length, get_or, Some, sym, ◌∙◌, ap, subst, arith}
use Rattle.std.specs.Prelude.{slice_get}
use Rattle.dm_slice.specs.declared.plan.Part.{Part}
use Rattle.dm_edge.specs.Wire.{Closed}
use Rattle.dm_answers.specs.declared.answer.SlicePass.{SlicePass}
use Rattle.dm_attempt.specs.Ends.{empty_share}
use Rattle.dm_rounds.specs.declared.lane.Lane.{Lane}
use Rattle.dm_rounds.specs.Opening.{HasLanes, IsOpening}
use Rattle.dm_rounds.specs.Parts.{AsksOf, StopsAsking}
use Rattle.dm_rounds.specs.Reading.{IsTurn}
use Rattle.dm_rounds.proofs.Opens.{lane_more}
use Rattle.dm_rounds.proofs.opening.ask_rest.Goals as goal

abbrev none : SlicePass
none = record { id = record { 0 = 0 }; attempt = record { 0 = 0 }; round = 0; index = 0; first = 0; end = 0 }

pub ask_part-requires : goal.ask_part-requires
ask_part-requires g c =
    record { some = subst (λ (p : Part). p.first < p.end) (sym c.part_of.ensures) (c.requires.ordered c.loop-slice.slice-index none (omega (arith, c.loop-slice-test.true))) }

pub push_reserved-requires : goal.push_reserved-requires
push_reserved-requires g c = let room = c.loop-slice.invariant.room in omega (arith, room, c.loop-slice-test.true)

pub loop-slice-preserved : goal.loop-slice-preserved
loop-slice-preserved g c =
    let N = g.N.Net in
    let W = g.N.W.Wire in
    let was = c.loop-slice.invariant in
    let k = c.loop-slice.slice-index in
    let lane = c.in-Ok.lane in
    record {
      room = let room = was.room in omega (arith, room, c.push_reserved.ensures.len, c.push_reserved.ensures.capacity);
      goes = λ asking shares start from asked opening.
          let before = was.goes asking shares start from asked opening in
          let at = asked k none (omega (arith, c.loop-slice-test.true)) in
          let part_is = c.part_of.ensures in
          let empty = subst (λ (p : Part). slice_get shares p.index ≡ Some (empty_share p)) (sym part_is)
          (subst (λ (n : ℕ). slice_get shares n ≡ Some (empty_share (record { index = (get_or c.args.plan.now k none).index; first = (get_or c.args.plan.now k none).first; end = (get_or c.args.plan.now k none).end }))) (sym at.number_is) at.empty) in
          let turn = subst (λ (o : g.row.N-O.Denot). IsTurn W.tells W.purpose W.told W.origin o asking shares lane) was.stays
          (c.in-Ok.ensures.turn asking shares (subst (λ (p : Part). AsksOf asking c.args.source.now c.args.pass.now p) (sym part_is) at.asks) empty) in
          let index : lane.part.index ≡ from + k = ap (λ (p : Part). p.index) (c.in-Ok.ensures.fresh.part_is ∙ part_is) ∙ at.number_is in
          let more = lane_more W.tells W.purpose W.told W.origin (N.origin_of c.args.net.now) asking shares (from + k) c.loop-slice.lanes.items lane before.lanes_are turn index in
          record {
            lanes_are = subst (λ (n : ℕ). HasLanes W.tells W.purpose W.told W.origin (N.origin_of c.args.net.now) asking shares n c.push_reserved.new.self.items) (let e : from + k + 1 ≡ from + (k + 1) = omega arith in e)
                (subst (λ (l : List (Lane g.row.N-W.Denot)). HasLanes W.tells W.purpose W.told W.origin (N.origin_of c.args.net.now) asking shares (from + k + 1) l) (sym c.push_reserved.ensures.items) more);
            still = λ t. c.in-Ok.ensures.closed t ∙ before.still t;
          };
      capacity = c.push_reserved.ensures.capacity ∙ was.capacity;
      stays = c.ask_part.ensures.stays ∙ was.stays;
      later = λ kind. let a = was.later kind in let b = c.ask_part.ensures.later kind in omega (arith, a, b);
    }

pub returns-in-Err-clause-stopped : goal.returns-in-Err-clause-stopped
returns-in-Err-clause-stopped g c asking shares start from asked opening =
    let N = g.N.Net in
    let was = c.loop-slice.invariant in
    let k = c.loop-slice.slice-index in
    let before = was.goes asking shares start from asked opening in
    record {
      number = from + k;
      slice = get_or c.args.plan.now k none;
      is = asked k none (omega (arith, c.loop-slice-test.true));
      lanes_are = before.lanes_are;
      since = N.faults c.loop-slice.net;
      later = was.later;
      counted = c.in-Err.ensures.counted;
      lost = λ t. subst (λ (p : Part). StopsAsking c.args.source.now c.args.pass.now p (N.faults c.loop-slice.net) (N.faults c.ask_part.new.net) start (N.closed c.ask_part.new.net) c.in-Err.stop) c.part_of.ensures (subst (λ (l : List Closed). StopsAsking c.args.source.now c.args.pass.now c.part_of.result (N.faults c.loop-slice.net) (N.faults c.ask_part.new.net) l (N.closed c.ask_part.new.net) c.in-Err.stop) (before.still t) (c.in-Err.ensures.stopped t));
    }

pub returns-clause-goes : goal.returns-clause-goes
returns-clause-goes g c asking shares start from asked opening =
    let N = g.N.Net in
    let W = g.N.W.Wire in
    let all : from + c.loop-slice.slice-index ≡ from + length c.args.plan.now = omega arith in
    subst (λ (n : ℕ). IsOpening N.tells W.tells W.purpose W.told W.origin (N.origin_of c.args.net.now) asking start (N.closed c.loop-slice.net) shares n c.loop-slice.lanes.items) all
    (c.loop-slice.invariant.goes asking shares start from asked opening)
