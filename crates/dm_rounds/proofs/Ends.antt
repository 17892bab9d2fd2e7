-- How a round ends.
use Rattle.std.proofs.Common.{◌≡◌, ◌⊎◌, inl, inr, ◌<◌, ◌≤◌, ℕ, ◌+◌, suc, cond, List, [], ◌∷◌, ◌++◌, length, map, Some, refl, sym, ◌∙◌, ap, subst, arith, append_assoc}
use Rattle.std.specs.Prelude.{slice_get}
use Rattle.std.specs.List.{AllByRecursion, Contains}
use Rattle.std.proofs.lemmas.Bool.Decides.{eqb_tells}
use Rattle.std.proofs.lemmas.List.{get_or-map, length-map, map-append}
use Rattle.std.proofs.lemmas.List.Elements.{Contains-append_right}
use Rattle.std.proofs.lemmas.Option.{slice_get_within, get_or_from_slice_get}
use Rattle.dm_edge.specs.Wire.{Purpose, Told, Closed, closed_of}
use Rattle.dm_attempt.specs.Asking.{Asking}
use Rattle.dm_attempt.specs.Ending.{IfBroke}
use Rattle.dm_attempt.specs.declared.stop.Stop.{Stop}
use Rattle.dm_attempt.specs.declared.stop.Stop.TheVariants as stops
use Rattle.dm_edge.specs.Reply.{IsWhole}
use Rattle.dm_attempt.specs.Trace.{Carried}
use Rattle.dm_rounds.specs.declared.lane.Lane.{Lane}
use Rattle.dm_attempt.specs.Shares.{Share, total}
use Rattle.dm_rounds.specs.Lanes.{Brought, IsLeft, IsRead, InRound, IsWholeRound, IsCarried, IsCutRound, Closes, LaneAsks, SomeBroke, StopSays, closed_lanes, is_at, is_of}
use Rattle.dm_rounds.proofs.Heard.{reply_more}
use Rattle.dm_rounds.proofs.Totals.{at_each, total_append, weaker_each, append_each}

-- one of the connections has the number
pub record Found (P : Carried → Type 0) (wires : List Carried) (n : ℕ) : Type 0 where
  pub c : Carried
  pub among : Contains wires c
  pub number : c.part.index ≡ n
  pub holds : P c

found_later : (P : Carried → Type 0) (wires : List Carried) (n : ℕ) (first : Carried) → Found P wires n → Found P (first ∷ wires) n
found_later P wires n first found = record {
  c = found.c;
  among = (suc found.among.0, omega (arith, found.among.1), found.among.2);
  number = found.number;
  holds = found.holds;
}

pub find : (P : Carried → Type 0) (wires : List Carried) (n : ℕ) → 1 ≤ total (is_of n) wires → AllByRecursion P wires → Found P wires n
find P [] n some all = absurd (omega (arith, some))
find P (c ∷ wires) n some all = elim (eqb_tells c.part.index n) [
  | inl same ↦ record { c = c; among = (0, omega arith, refl); number = same.1; holds = all.0 }
  | inr other ↦ found_later P wires n c (find P wires n (omega (arith, some, ap {B = ℕ} (λ b. cond b 1 0) other.0)) all.1)
]

pub same_share : (shares : List Share) (n : ℕ) (a b : Share) → slice_get shares n ≡ Some a → slice_get shares n ≡ Some b → a ≡ b
same_share shares n a b at_a at_b = sym (get_or_from_slice_get shares n a a at_a) ∙ get_or_from_slice_get shares n b a at_b

pub whole_round : {W : Type 0} (net tells : Type 0) (made_for : W → Purpose) (told : W → Told) (asking : Asking) (start now : List Closed) (shares : List Share) (lanes : List (Lane W)) → lanes ≡ []
    → InRound net tells made_for told asking start now shares lanes → IsWholeRound net asking start now shares
whole_round {W} net tells made_for told asking start now shares lanes none round =
    let once : (n : ℕ) → n < length shares → total (is_of n) round.wires ≡ 1 = λ n short. omega (arith, round.once n short, ap (total (is_at n)) none) in
    record {
      wires = round.wires;
      closed = round.closed;
      once = once;
      first = round.first;
      all = round.each;
      each = λ n share at.
          let found = find (IsRead net asking shares) round.wires n (omega (arith, once n (slice_get_within shares n share at))) round.each in
          let same : found.holds.share ≡ share = same_share shares n found.holds.share share (subst (λ (m : ℕ). slice_get shares m ≡ Some found.holds.share) found.number found.holds.share_is) at in
          record {
            c = found.c;
            among = found.among;
            number = found.number;
            asked = found.holds.asked;
            brought = λ t. subst (λ (s : Share). Brought found.c.wanted found.c.connection.stream s.bytes) same (found.holds.brought t);
            whole = subst (λ (s : Share). (s.part.first + length s.bytes ≡ s.part.end) ⊎ (net → IsWhole found.c.wanted found.c.connection.stream s.bytes)) same found.holds.whole;
          };
    }

module _ {W : Type 0} (net tells : Type 0) (by : net → tells) (made_for : W → Purpose) (told : W → Told) (asking : Asking) (shares : List Share) where
  pub carried_of : Lane W → Carried
  carried_of lane = record { part = lane.part; wanted = lane.reader.wanted; connection = closed_of (made_for lane.wire) (told lane.wire) }

  pub connections : (lanes : List (Lane W)) → closed_lanes made_for told lanes ≡ map (λ (c : Carried). c.connection) (map carried_of lanes)
  unfolding carried_of
  connections [] = refl
  connections (lane ∷ lanes) = ap (λ (l : List Closed). closed_of (made_for lane.wire) (told lane.wire) ∷ l) (connections lanes)

  pub counts : (n : ℕ) (lanes : List (Lane W)) → total (is_of n) (map carried_of lanes) ≡ total (is_at n) lanes
  unfolding carried_of
  counts n [] = refl
  counts n (lane ∷ lanes) = ap (λ (m : ℕ). is_at n lane + m) (counts n lanes)

  pub carried_each : (lanes : List (Lane W)) → AllByRecursion (IsLeft tells told shares) lanes → AllByRecursion (LaneAsks tells made_for told asking) lanes
      → AllByRecursion (IsCarried net asking shares) (map carried_of lanes)
  unfolding carried_of
  carried_each [] left for = tt
  carried_each (lane ∷ lanes) left for =
      (record { share = left.0.share; share_is = left.0.share_is; part_is = left.0.part_is; asked = record { wanted_is = for.0.asked.wanted_is; first_is = for.0.asked.first_is; purpose_is = λ n. for.0.asked.purpose_is (by n); sent_is = λ n. for.0.asked.sent_is (by n); replied = λ n whole. reply_more asking.reply (told lane.wire).given (told lane.wire).left (for.0.asked.replied (by n) whole) }; brought = λ n. left.0.brought (by n) }, carried_each lanes left.1 for.1)

  pub cut_round : (start now after : List Closed) (lanes : List (Lane W)) → AllByRecursion (IsLeft tells told shares) lanes → (net → Closes made_for told now after lanes)
      → InRound net tells made_for told asking start now shares lanes → IsCutRound net asking start after shares
  cut_round start now after lanes left closes round =
      let connection : Carried → Closed = λ (c : Carried). c.connection in
      record {
        wires = round.wires ++ map carried_of lanes;
        closed = λ n. closes n ∙ ap (λ (l : List Closed). l ++ closed_lanes made_for told lanes) (round.closed n)
            ∙ append_assoc start (map connection round.wires) (closed_lanes made_for told lanes)
            ∙ ap (λ (l : List Closed). start ++ (map connection round.wires ++ l)) (connections lanes)
            ∙ ap (λ (l : List Closed). start ++ l) (sym (map-append connection round.wires (map carried_of lanes)));
        once = λ n short. omega (arith, round.once n short, total_append (is_of n) round.wires (map carried_of lanes), counts n lanes);
        first = round.first;
        each = append_each (IsCarried net asking shares) round.wires (map carried_of lanes)
            (weaker_each (IsRead net asking shares) (IsCarried net asking shares) (λ c is. record { share = is.share; share_is = is.share_is; part_is = is.part_is; asked = is.asked; brought = is.brought }) round.wires round.each)
            (carried_each lanes left round.asks);
      }

  contains_map : (lanes : List (Lane W)) (lane : Lane W) → Contains lanes lane → Contains (map carried_of lanes) (carried_of lane)
  contains_map lanes lane (k, within, at) = (k, omega (arith, within, length-map lanes carried_of), get_or-map carried_of lanes k lane (carried_of lane) within ∙ ap carried_of at)

  each_at : (lanes : List (Lane W)) (lane : Lane W) → Contains lanes lane → AllByRecursion (LaneAsks tells made_for told asking) lanes → LaneAsks tells made_for told asking lane
  each_at lanes lane (k, within, at) all = subst (LaneAsks tells made_for told asking) at (at_each (LaneAsks tells made_for told asking) lanes k lane within all)

  -- the stream of one of the closed connections shows why the round stopped
  pub cut_shown : (start now after : List Closed) (lanes : List (Lane W)) (left : AllByRecursion (IsLeft tells told shares) lanes) (closes : net → Closes made_for told now after lanes)
      (round : InRound net tells made_for told asking start now shares lanes) (stop : Stop) → net → StopSays told shares lanes stop → IfBroke stop (SomeBroke (cut_round start now after lanes left closes round).wires shares)
  unfolding carried_of cut_round
  cut_shown start now after lanes left closes round (stops.Broke cause) n says = record {
    c = carried_of says.lane;
    among = Contains-append_right round.wires (map carried_of lanes) (carried_of says.lane) (contains_map lanes says.lane says.among);
    share = says.stops.share;
    share_is = says.stops.share_is;
    is = says.stops.is;
    sent = (each_at lanes says.lane says.among round.asks).asked.sent_is (by n);
  }
  cut_shown start now after lanes left closes round stops.NoMemory n says = tt
  cut_shown start now after lanes left closes round (stops.Fault fault) n says = tt
  cut_shown start now after lanes left closes round (stops.Recorded reason) n says = tt
