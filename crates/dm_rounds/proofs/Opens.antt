-- One lane more.
use Rattle.std.proofs.Common.{◌≡◌, ◌≢◌, inl, inr, ◌<◌, ◌==◌, ℕ, ◌+◌, cond, List, [], ◌∷◌, ◌++◌, ◌∙◌, ap, arith}
use Rattle.std.proofs.lemmas.Bool.Decides.{eqb_tells}
use Rattle.dm_edge.specs.Wire.{Purpose, Told}
use Rattle.dm_attempt.specs.Asking.{Asking}
use Rattle.dm_attempt.specs.Shares.{Share}
use Rattle.dm_rounds.specs.declared.lane.Lane.{Lane}
use Rattle.dm_rounds.specs.Lanes.{is_at}
use Rattle.dm_rounds.specs.Opening.{HasLanes}
use Rattle.dm_rounds.specs.Reading.{IsTurn}
use Rattle.dm_rounds.proofs.Totals.{one_at, push_each, total_append}

pub zero_at : (a b : ℕ) → a ≢ b → ◌≡◌ {A = ℕ} (cond (a == b) 1 0) 0
zero_at a b other = elim (eqb_tells a b) [ inl same ↦ absurd (other same.1) | inr off ↦ ap {B = ℕ} (λ x. cond x 1 0) off.0 ]

pub lane_more : {W O : Type 0} (wires : Type 0) (made_for : W → Purpose) (told : W → Told) (origin : W → O) (there : O) (asking : Asking) (shares : List Share) (number : ℕ) (lanes : List (Lane W)) (lane : Lane W)
    → HasLanes wires made_for told origin there asking shares number lanes → IsTurn wires made_for told origin there asking shares lane → lane.part.index ≡ number
    → HasLanes wires made_for told origin there asking shares (number + 1) (lanes ++ lane ∷ [])
lane_more wires made_for told origin there asking shares number lanes lane has turn index = record {
  turns = push_each (IsTurn wires made_for told origin there asking shares) lanes lane has.turns turn;
  below = λ n low. elim (eqb_tells lane.part.index n) [
    | inl same ↦ let here = one_at lane.part.index n same.1 in let s = same.1 in omega (arith, total_append (is_at n) lanes (lane ∷ []), has.above n (omega (arith, s, index)), here)
    | inr off ↦ let here = zero_at lane.part.index n off.1 in omega (arith, total_append (is_at n) lanes (lane ∷ []), has.below n (below_other number n low (λ e. off.1 (index ∙ e))), here)
  ];
  above = λ n high. let here = zero_at lane.part.index n (λ e. absurd (omega (arith, e, index, high))) in omega (arith, total_append (is_at n) lanes (lane ∷ []), has.above n (omega (arith, high)), here);
}
  where
    below_other : (number n : ℕ) → n < number + 1 → number ≢ n → n < number
    below_other number n low other = omega (arith, low, other)
