-- What a turn leaves of a round.
use Rattle.std.proofs.Common.{◌≡◌, ◌⊎◌, inl, inr, ◌<◌, ◌≤◌, ◌==◌, ℕ, ◌+◌, ◌-◌, cond, true, List, [], ◌∷◌, ◌++◌, length, get_or, set, map, refl, sym, ◌∙◌, ap, subst, arith, append_assoc}
use Rattle.std.specs.List.{AllByRecursion, remove}
use Rattle.std.proofs.lemmas.List.{map-append, length-set, get_or-set_same}
use Rattle.std.proofs.lemmas.Option.{slice_get_within}
use Rattle.dm_edge.specs.Wire.{Purpose, Told, Closed, closed_of, stream_of}
use Rattle.dm_edge.specs.declared.wanted.Wanted.{Wanted}
use Rattle.dm_edge.specs.declared.wanted.Wanted.TheVariants.{Whole}
use Rattle.dm_attempt.specs.Asking.{Asking, IsAsked}
use Rattle.dm_edge.specs.Reply.{IsWhole}
use Rattle.dm_slice.specs.declared.plan.Part.{Part}
use Rattle.dm_rounds.specs.declared.lane.Lane.{Lane}
use Rattle.dm_attempt.specs.declared.stop.Stop.{Stop}
use Rattle.dm_attempt.specs.Shares.{Share, Grows, total}
use Rattle.dm_types.specs.declared.item.Key.{Key}
use Rattle.dm_attempt.specs.Trace.{Carried}
use Rattle.dm_rounds.specs.Lanes.{LaneStops, StopSays, IsLeft, IsReady, IsFull, IsRead, InRound, LaneAsks, is_at, is_of, left_of}
use Rattle.dm_reply.specs.Reads.{GoesOn}
use Rattle.dm_rounds.proofs.Heard.{reply_grown, reply_more}
use Rattle.dm_rounds.proofs.Totals.{one_at, none_at, total_append, total_set, total_remove, total_at, set_each, remove_each, push_each, none_each, one_each, rest_each, at_each}
use Rattle.dm_attempt.proofs.Sharing.{keeps_length}

-- those of another number stay
pub left_other : {W : Type 0} (tells : Type 0) (told : W → Told) (k : ℕ) (old new : List Share) → Grows k old new → (lane : Lane W) → is_at k lane ≡ 0 → IsLeft tells told old lane → IsLeft tells told new lane
left_other tells told k old new grows lane none left = record {
  share = left.share;
  share_is = grows.others lane.part.index (none_at lane.part.index k none) ∙ left.share_is;
  part_is = left.part_is;
  brought = left.brought;
}

pub ready_other : {W : Type 0} (tells : Type 0) (made_for : W → Purpose) (told : W → Told) (key : Key) (k : ℕ) (old new : List Share) → Grows k old new → (lane : Lane W) → is_at k lane ≡ 0 → IsReady tells made_for told key old lane → IsReady tells made_for told key new lane
ready_other tells made_for told key k old new grows lane none ready = record {
  left = record {
    share = ready.left.share;
    share_is = grows.others lane.part.index (none_at lane.part.index k none) ∙ ready.left.share_is;
    part_is = ready.left.part_is;
    brought = ready.left.brought;
  };
  at = ready.at;
  within = ready.within;
  on = ready.on;
  open_end = ready.open_end;
  given = ready.given;
  unbroken = ready.unbroken;
  whole = ready.whole;
  reads = ready.reads;
}

pub read_other : (net : Type 0) (asking : Asking) (k : ℕ) (old new : List Share) → Grows k old new → (c : Carried) → is_of k c ≡ 0 → IsRead net asking old c → IsRead net asking new c
read_other net asking k old new grows c none is = record {
  share = is.share;
  share_is = grows.others c.part.index (none_at c.part.index k none) ∙ is.share_is;
  part_is = is.part_is;
  asked = is.asked;
  brought = is.brought;
  whole = is.whole;
  alone = is.alone;
  stands = is.stands;
}

-- the lane at a place
pub ready_at : {W : Type 0} (tells : Type 0) (made_for : W → Purpose) (told : W → Told) (key : Key) (shares : List Share) (lanes : List (Lane W)) (k : ℕ) (was : Lane W) → k < length lanes → was ≡ get_or lanes k was
    → AllByRecursion (IsReady tells made_for told key shares) lanes → IsReady tells made_for told key shares was
ready_at {W} tells made_for told key shares lanes k was within at all =
    let P : Lane W → Type 0 = IsReady tells made_for told key shares in
    subst P (sym at) (at_each P lanes k was within all)

pub known_at : {W : Type 0} (tells : Type 0) (made_for : W → Purpose) (told : W → Told) (key : Key) (shares : List Share) (lanes : List (Lane W)) (k : ℕ) (was : Lane W) → k < length lanes → was ≡ get_or lanes k was
    → AllByRecursion (IsReady tells made_for told key shares) lanes → was.part.index < length shares
known_at tells made_for told key shares lanes k was within at all =
    let ready = ready_at tells made_for told key shares lanes k was within at all in
    slice_get_within shares was.part.index ready.left.share ready.left.share_is

module _ {W : Type 0} (lanes : List (Lane W)) (k : ℕ) (was lane : Lane W) (within : k < length lanes) (at : was ≡ get_or lanes k was) (part : lane.part ≡ was.part) where
  same_at : (n : ℕ) → is_at n lane ≡ is_at n (get_or lanes k was)
  same_at n = ap (λ (p : Part). cond (p.index == n) 1 0) part ∙ ap (is_at n) at

  pub once_set : (n : ℕ) → total (is_at n) (set lanes k lane) ≡ total (is_at n) lanes
  once_set n = omega (arith, total_set (is_at n) lanes k lane was within, same_at n)

  own : is_at was.part.index (get_or lanes k was) ≡ 1
  own = sym (ap (is_at was.part.index) at) ∙ one_at was.part.index was.part.index refl

  pub few_set : ((n : ℕ) → total (is_at n) lanes ≤ 1) → (n : ℕ) → total (is_at n) (set lanes k lane) ≤ 1
  few_set few n = omega (arith, few n, once_set n)

  pub few_rest : ((n : ℕ) → total (is_at n) lanes ≤ 1) → (n : ℕ) → total (is_at n) (remove (set lanes k lane) k) ≤ 1
  few_rest few n = omega (arith, few n, once_set n, total_remove (is_at n) (set lanes k lane) k lane (omega (arith, within, length-set lanes k lane)))

  turns : Lane W → ℕ
  turns l = 1 + (l.part.end - l.at)

  pub smaller_set : was.at < lane.at → lane.at ≤ lane.part.end → left_of (set lanes k lane) < left_of lanes
  unfolding turns
  smaller_set more below =
      let end_is : lane.part.end ≡ was.part.end = ap (λ (p : Part). p.end) part in
      let same : turns was ≡ turns (get_or lanes k was) = ap turns at in
      omega (arith, total_set turns lanes k lane was within, same, more, below, end_is)

  pub smaller_rest : left_of (remove (set lanes k lane) k) < left_of lanes
  unfolding turns
  smaller_rest =
      let same : turns was ≡ turns (get_or lanes k was) = ap turns at in
      let own_is : turns (get_or (set lanes k lane) k lane) ≡ turns lane = ap turns (get_or-set_same lanes k lane lane within) in
      omega (arith, total_set turns lanes k lane was within, same, own_is, total_remove turns (set lanes k lane) k lane (omega (arith, within, length-set lanes k lane)))

  pub stop_set : (told : W → Told) (shares : List Share) (stop : Stop) → LaneStops told shares lane stop → StopSays told shares (set lanes k lane) stop
  stop_set told shares stop stops = record {
    lane = lane;
    among = (k, omega (arith, within, length-set lanes k lane), get_or-set_same lanes k lane lane within);
    stops = stops;
  }

  module _ (tells : Type 0) (made_for : W → Purpose) (told : W → Told) (key : Key) (old new : List Share) (grows : Grows was.part.index old new) (few : (n : ℕ) → total (is_at n) lanes ≤ 1) where
    pub ready_set : AllByRecursion (IsReady tells made_for told key old) lanes → IsReady tells made_for told key new lane → AllByRecursion (IsReady tells made_for told key new) (set lanes k lane)
    ready_set all is = one_each (is_at was.part.index) (IsReady tells made_for told key old) (IsReady tells made_for told key new) (ready_other tells made_for told key was.part.index old new grows) lanes k lane was within (few was.part.index) own is all

    pub left_set : AllByRecursion (IsReady tells made_for told key old) lanes → IsLeft tells told new lane → AllByRecursion (IsLeft tells told new) (set lanes k lane)
    left_set all is = one_each (is_at was.part.index) (IsReady tells made_for told key old) (IsLeft tells told new)
        (λ (l : Lane W) none ready. left_other tells told was.part.index old new grows l none ready.left) lanes k lane was within (few was.part.index) own is all

    -- the others, where it is taken out
    pub ready_rest : AllByRecursion (IsReady tells made_for told key old) lanes → AllByRecursion (IsReady tells made_for told key new) (remove (set lanes k lane) k)
    ready_rest all = rest_each (is_at was.part.index) (IsReady tells made_for told key old) (IsReady tells made_for told key new) (ready_other tells made_for told key was.part.index old new grows) lanes k lane was within (few was.part.index) own all

  -- it asked for the same
  pub asks_same : (tells : Type 0) (made_for : W → Purpose) (told : W → Told) (asking : Asking) → lane.bounded ≡ was.bounded → lane.reader.wanted ≡ was.reader.wanted → made_for lane.wire ≡ made_for was.wire
      → (tells → (told lane.wire).sent ≡ (told was.wire).sent) → (tells → GoesOn (told was.wire) (told lane.wire)) → LaneAsks tells made_for told asking was → LaneAsks tells made_for told asking lane
  asks_same tells made_for told asking bounded wanted stays sent given asks =
      let parted : IsAsked tells asking lane.part was.reader.wanted (made_for was.wire) (told was.wire).sent (told was.wire).given =
      subst (λ (p : Part). IsAsked tells asking p was.reader.wanted (made_for was.wire) (told was.wire).sent (told was.wire).given) (sym part) asks.asked in
      let wants : IsAsked tells asking lane.part lane.reader.wanted (made_for was.wire) (told was.wire).sent (told was.wire).given =
      subst (λ (w : Wanted). IsAsked tells asking lane.part w (made_for was.wire) (told was.wire).sent (told was.wire).given) (sym wanted) parted in
      let made : IsAsked tells asking lane.part lane.reader.wanted (made_for lane.wire) (told was.wire).sent (told was.wire).given =
      subst (λ (p : Purpose). IsAsked tells asking lane.part lane.reader.wanted p (told was.wire).sent (told was.wire).given) (sym stays) wants in
      record { asked = record { wanted_is = made.wanted_is; first_is = made.first_is; purpose_is = made.purpose_is; sent_is = λ n. sent n ∙ made.sent_is n; replied = λ n whole. reply_grown asking.reply (told was.wire) (told lane.wire) (given n) (made.replied n whole) }; bounded_is = bounded ∙ asks.bounded_is }

  -- the wires of the round stay, and the lane has the piece more
  pub round_set : (net tells : Type 0) → (made_for : W → Purpose) (told : W → Told) (asking : Asking) (start now : List Closed) (old new : List Share) → Grows was.part.index old new
      → was.part.index < length old → lane.bounded ≡ was.bounded → lane.reader.wanted ≡ was.reader.wanted → made_for lane.wire ≡ made_for was.wire → (tells → (told lane.wire).sent ≡ (told was.wire).sent) → (tells → GoesOn (told was.wire) (told lane.wire))
      → InRound net tells made_for told asking start now old lanes → InRound net tells made_for told asking start now new (set lanes k lane)
  round_set net tells made_for told asking start now old new grows known bounded wanted stays sent given round =
      let long = keeps_length old new grows.keeps in
      let some = total_at (is_at was.part.index) lanes k was within in
      let none : total (is_of was.part.index) round.wires ≡ 0 = omega (arith, round.once was.part.index known, some, own) in
      let Asks : Lane W → Type 0 = λ (l : Lane W). LaneAsks tells made_for told asking l in
      record {
        wires = round.wires;
        closed = round.closed;
        each = none_each (is_of was.part.index) (IsRead net asking old) (IsRead net asking new) (read_other net asking was.part.index old new grows) round.wires none round.each;
        asks = set_each Asks lanes k lane (asks_same tells made_for told asking bounded wanted stays sent given (subst Asks (sym at) (at_each Asks lanes k was within round.asks))) round.asks;
        once = λ n short. omega (arith, round.once n (omega (arith, short, long)), once_set n);
        first = λ served. let some = round.first served in omega (arith, some, long);
      }

module _ {W : Type 0} (net tells : Type 0) (by : net → tells) (made_for : W → Purpose) (told : W → Told) (key : Key) (shares : List Share) (lane : Lane W) (full : IsFull tells made_for told key shares lane) where
  pub whole_by : (full.left.share.part.first + length full.left.share.bytes ≡ full.left.share.part.end) ⊎ (net → IsWhole lane.reader.wanted (stream_of (told lane.wire)) full.left.share.bytes)
  whole_by = elim full.whole [
    | inl all ↦ inl (subst (λ (p : Part). p.first + length full.left.share.bytes ≡ p.end) (sym full.left.part_is) all)
    | inr ended ↦ inr (λ n. ended (by n))
  ]

  pub alone_by : lane.bounded ≡ true → lane.reader.wanted ≡ Whole → full.left.share.part.first + length full.left.share.bytes ≡ full.left.share.part.end
  alone_by known whole = subst (λ (p : Part). p.first + length full.left.share.bytes ≡ p.end) (sym full.left.part_is) (full.alone known whole)

-- a lane is done, and its wire goes back
pub round_close : {W : Type 0} (net : Type 0) (tells : Type 0) (by : net → tells) (made_for : W → Purpose) (told : W → Told) (asking : Asking) (start now after : List Closed) (shares : List Share) (lanes : List (Lane W)) (k : ℕ) (lane : Lane W)
    → k < length lanes → lane ≡ get_or lanes k lane → IsFull tells made_for told asking.key shares lane → (net → after ≡ now ++ closed_of (made_for lane.wire) (told lane.wire) ∷ [])
    → InRound net tells made_for told asking start now shares lanes → InRound net tells made_for told asking start after shares (remove lanes k)
round_close {W} net tells by made_for told asking start now after shares lanes k lane within at full closes round =
    let own : Carried = record { part = lane.part; wanted = lane.reader.wanted; connection = closed_of (made_for lane.wire) (told lane.wire) } in
    let connection : Carried → Closed = λ (c : Carried). c.connection in
    let Asks : Lane W → Type 0 = λ (l : Lane W). LaneAsks tells made_for told asking l in
    record {
      wires = round.wires ++ own ∷ [];
      closed = λ n. closes n ∙ ap (λ (c : List Closed). c ++ closed_of (made_for lane.wire) (told lane.wire) ∷ []) (round.closed n)
          ∙ append_assoc start (map connection round.wires) (closed_of (made_for lane.wire) (told lane.wire) ∷ [])
          ∙ ap (λ (c : List Closed). start ++ c) (sym (map-append connection round.wires (own ∷ [])));
      each = push_each (IsRead net asking shares) round.wires own round.each (record {
        share = full.left.share;
        share_is = full.left.share_is;
        part_is = full.left.part_is;
        asked = let a = (subst Asks (sym at) (at_each Asks lanes k lane within round.asks)).asked in record { wanted_is = a.wanted_is; first_is = a.first_is; purpose_is = λ n. a.purpose_is (by n); sent_is = λ n. a.sent_is (by n); replied = λ n whole. reply_more asking.reply (told lane.wire).given (told lane.wire).left (a.replied (by n) whole) };
        brought = λ n. full.left.brought (by n);
        whole = whole_by net tells by made_for told asking.key shares lane full;
        alone = λ wanted known. alone_by net tells by made_for told asking.key shares lane full ((subst Asks (sym at) (at_each Asks lanes k lane within round.asks)).bounded_is ∙ known) wanted;
        stands = λ n. full.stands (by n);
      });
      asks = remove_each Asks lanes k round.asks;
      once = λ n short. omega (arith, round.once n short, total_append (is_of n) round.wires (own ∷ []), total_remove (is_at n) lanes k lane within, ap (is_at n) at);
      first = round.first;
    }
