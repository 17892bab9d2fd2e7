-- What asking for the parts of a round leaves: all lanes, or a round that is given up.
use Rattle.std.proofs.Common.{◌≡◌, ◌≢◌, inl, inr, ◌<◌, ◌≤◌, ◌==◌, ℕ, zero, suc, cond, true, List, [], ◌∷◌, ◌++◌, length, map, drop, refl, sym, ◌∙◌, ap, subst, arith, append_assoc}
use Rattle.std.specs.Prelude.{slice_get}
use Rattle.std.specs.List.{AllByRecursion}
use Rattle.std.proofs.lemmas.Bool.{cases_lt, false≢true}
use Rattle.std.proofs.lemmas.Bool.Decides.{eqb_tells}
use Rattle.std.proofs.lemmas.List.{append-nil, map-append}
use Rattle.dm_types.specs.Faults.{NoneFell}
use Rattle.dm_types.specs.declared.address.Address.{Address}
use Rattle.dm_policy.specs.declared.cause.Cause.{Cause}
use Rattle.dm_policy.specs.declared.cause.Cause.TheVariants as causes
use Rattle.dm_edge.specs.declared.fault.NetFault.{NetFault}
use Rattle.dm_edge.specs.Fair.{ask_of}
use Rattle.dm_edge.specs.declared.wanted.Wanted.{Wanted}
use Rattle.dm_edge.specs.Wire.{Purpose, Told, Closed}
use Rattle.dm_request.specs.Request.{request_of}
use Rattle.dm_ask.specs.Following.{IsStopped}
use Rattle.dm_ask.specs.Redirects.{Led, purpose_of}
use Rattle.dm_slice.specs.declared.plan.Part.{Part}
use Rattle.dm_store.specs.declared.pass.Pass.{Pass}
use Rattle.dm_answers.specs.Slices.{part_of}
use Rattle.dm_answers.specs.declared.answer.SlicePass.{SlicePass}
use Rattle.dm_attempt.specs.declared.source.Source.{Source}
use Rattle.dm_attempt.specs.declared.stop.Stop.{Stop}
use Rattle.dm_attempt.specs.declared.stop.Stop.TheVariants as stops
use Rattle.dm_attempt.specs.Asking.{Asking, range_of}
use Rattle.dm_attempt.specs.Ends.{empty_share}
use Rattle.dm_attempt.specs.Shares.{Share, total}
use Rattle.dm_attempt.specs.Trace.{Carried}
use Rattle.dm_rounds.specs.declared.lane.Lane.{Lane}
use Rattle.dm_rounds.specs.Lanes.{Closes, IsCarried, IsCutRound, IsLeft, IsReady, LaneAsks, closed_lanes, is_at, is_of}
use Rattle.dm_rounds.specs.Opened.{IsFrontSent, IsLostRound, IsOpened, LosesRound, WasTried}
use Rattle.dm_rounds.specs.Opening.{IsAskedAt, IsOpening, StopsOpening}
use Rattle.dm_rounds.specs.Parts.{StopsAsking}
use Rattle.dm_rounds.specs.Reading.{IsTurn}
use Rattle.dm_rounds.proofs.Asks.{none_led}
use Rattle.dm_rounds.proofs.Ends.{carried_each, carried_of, connections, counts}
use Rattle.dm_rounds.proofs.Opens.{zero_at}
use Rattle.dm_rounds.proofs.Totals.{append_each, total_append, weaker_each}

pub drop_all : (xs ys : List Closed) → drop (length xs) (xs ++ ys) ≡ ys
drop_all [] ys = refl
drop_all (x ∷ xs) ys = drop_all xs ys

one_most : (a b : ℕ) → ◌≤◌ (cond {A = ℕ} (a == b) 1 0) 1
one_most a b = elim (eqb_tells a b) [
  | inl same ↦ let on = ap {B = ℕ} (λ x. cond x 1 0) same.0 in omega (arith, on)
  | inr off ↦ let is = ap {B = ℕ} (λ x. cond x 1 0) off.0 in omega (arith, is)
]

above_none : (n : ℕ) → n ≢ 0 → 0 < n
above_none zero other = absurd (other refl)
above_none (suc n) other = omega arith

module _ {W O : Type 0} (net wires : Type 0) (made_for : W → Purpose) (told : W → Told) (origin : W → O) (there : O) (asking : Asking) (start closed : List Closed) (shares : List Share) where
  -- before the first part is asked for
  pub none_open : (lanes : List (Lane W)) → lanes ≡ [] → (net → closed ≡ start) → IsOpening net wires made_for told origin there asking start closed shares 0 lanes
  none_open lanes none still = subst (λ (l : List (Lane W)). IsOpening net wires made_for told origin there asking start closed shares 0 l) (sym none)
      (record { lanes_are = record { turns = tt; below = λ n low. absurd (omega (arith, low)); above = λ n high. refl }; still = still })

  -- each part was asked for
  pub all_opened : (number : ℕ) (lanes : List (Lane W)) → length shares ≡ number → (asking.served ≡ true → 0 < number) → IsOpening net wires made_for told origin there asking start closed shares number lanes
      → IsOpened net wires made_for told origin there asking start closed shares lanes
  all_opened number lanes count some opening =
      let has = opening.lanes_are in
      record {
        ready = weaker_each (IsTurn wires made_for told origin there asking shares) (IsReady wires made_for told asking.key shares) (λ lane turn. turn.ready) lanes has.turns;
        origins = weaker_each (IsTurn wires made_for told origin there asking shares) (λ (lane : Lane W). origin lane.wire ≡ there) (λ lane turn. turn.origin_is) lanes has.turns;
        few = λ n. elim (cases_lt n number) [ inl low ↦ let b = has.below n low in omega (arith, b) | inr high ↦ let a = has.above n high in omega (arith, a) ];
        round = record {
          wires = [];
          closed = λ t. opening.still t ∙ sym (append-nil start);
          each = tt;
          asks = weaker_each (IsTurn wires made_for told origin there asking shares) (LaneAsks wires made_for told asking) (λ lane turn. turn.asks) lanes has.turns;
          once = λ n short. let b = has.below n (subst (λ (m : ℕ). n < m) count short) in omega (arith, b);
          first = λ served. subst (λ (m : ℕ). 0 < m) (sym count) (some served);
        };
      }

-- a connection of a part for which no lane came
carry : Source → Part → Closed → Carried
carry source part connection = record { part = part; wanted = range_of source part; connection = connection }

abbrev carry_all : Source → Part → List Closed → List Closed → List Carried
carry_all source part start between = map (carry source part) (drop (length start) between)

-- what was closed for one part
record Lost (asking : Asking) (shares : List Share) (number : ℕ) (start between : List Closed) (lost : List Carried) : Type 0 where
  closed : between ≡ start ++ map (λ (c : Carried). c.connection) lost
  others : (n : ℕ) → number ≢ n → total (is_of n) lost ≡ 0
  few : (n : ℕ) → total (is_of n) lost ≤ 1
  each : AllByRecursion (WasTried asking shares) lost

module _ (asking : Asking) (source : Source) (pass : Pass) (shares : List Share) (number : ℕ) (slice : SlicePass) (is : IsAskedAt asking source pass shares number slice) (start between : List Closed) where
  abbrev Loses : List Closed → Type 0
  Loses lost = Lost asking shares number start between (map (carry source (part_of slice)) lost)

  drops : (lost : List Closed) → between ≡ start ++ lost → drop (length start) between ≡ lost
  drops lost is = ap (λ (l : List Closed). drop (length start) l) is ∙ drop_all start lost

  lost_none : between ≡ start → Loses (drop (length start) between)
  lost_none same =
      let all : between ≡ start ++ [] = same ∙ sym (append-nil start) in
      subst Loses (sym (drops [] all)) (record { closed = all; others = λ n other. refl; few = λ n. omega arith; each = tt })

  lost_one : (c : Closed) → between ≡ start ++ c ∷ [] → WasTried asking shares (carry source (part_of slice) c) → Loses (drop (length start) between)
  unfolding carry
  lost_one c last tried = subst Loses (sym (drops (c ∷ []) last)) (record {
    closed = last;
    others = λ n other. let none = zero_at slice.index n (λ e. other (sym is.number_is ∙ e)) in omega (arith, none);
    few = λ n. let most = one_most slice.index n in omega (arith, most);
    each = (tried, tt);
  })

  lost_stopped : (since until : NetFault → ℕ) (cause : Cause) → IsStopped (range_of source (part_of slice)) (purpose_of pass.id pass.attempt) source.address since until start between cause → Loses (drop (length start) between)
  unfolding carry
  lost_stopped since until cause stopped =
      let wanted = range_of source (part_of slice) in
      let none = none_led wanted source (part_of slice) stopped.led stopped.direct in
      let at : stopped.at ≡ source.address = subst (λ (led : List Closed). Led (purpose_of pass.id pass.attempt) source.address led stopped.at) none stopped.leads in
      let base : start ++ stopped.led ≡ start = ap (λ (l : List Closed). start ++ l) none ∙ append-nil start in
      elim stopped.ended [
        | inl un ↦ lost_none (un.0 ∙ base)
        | inr off ↦ lost_one off.connection (off.last ∙ ap (λ (l : List Closed). l ++ off.connection ∷ []) base) (record {
          share = empty_share (part_of slice);
          share_is = ap (λ (n : ℕ). slice_get shares n) is.number_is ∙ is.empty;
          part_is = refl;
          wanted_is = inr (is.asks.own, record { of = source; source_is = is.asks.source_is; asked_is = refl });
          first_is = refl;
          purpose_is = off.purpose_is ∙ ap (purpose_of pass.id pass.attempt) at ∙ sym is.asks.purpose_is;
          sent = subst (λ (a : Address). IsFrontSent (request_of a (ask_of wanted)) off.connection.sent) (sym (ap (λ (p : Purpose). p.address) off.purpose_is)) (elim off.sent [ inl all ↦ inl all | inr cut ↦ inr cut.1 ]);
          brought = inl refl;
          replied = λ whole. absurd (let e = whole in cc);
        })
      ]

  lost_by : (since until : NetFault → ℕ) (stop : Stop) → StopsAsking source pass (part_of slice) since until start between stop → Loses (drop (length start) between)
  lost_by since until (stops.Broke cause) stopped = lost_stopped since until cause stopped
  lost_by since until stops.NoMemory (inl same) = lost_none same
  lost_by since until stops.NoMemory (inr stopped) = lost_stopped since until causes.Memory stopped
  lost_by since until (stops.Fault fault) stopped = absurd stopped
  lost_by since until (stops.Recorded reason) stopped = absurd stopped

-- a connection that brought what was landed was tried
pub tried_of : (net : Type 0) (t : net) (asking : Asking) (shares : List Share) (c : Carried) → IsCarried net asking shares c → WasTried asking shares c
tried_of net t asking shares c is = record {
  share = is.share;
  share_is = is.share_is;
  part_is = is.part_is;
  wanted_is = is.asked.wanted_is;
  first_is = is.asked.first_is;
  purpose_is = is.asked.purpose_is t;
  sent = inl (is.asked.sent_is t);
  brought = inr (is.brought t);
  replied = λ whole. (is.asked.sent_is t ∙ ap (λ (w : Wanted). request_of c.connection.purpose.address (ask_of w)) whole, is.asked.replied t whole);
}

-- a round that stopped while it was read
pub lost_of : (net : Type 0) (asking : Asking) (start now : List Closed) (shares : List Share) → IsCutRound net asking start now shares → IsLostRound net asking start now shares
lost_of net asking start now shares cut = record {
  wires = cut.wires;
  closed = cut.closed;
  once = λ t n short. let one = cut.once n short in omega (arith, one);
  first = λ t served. cut.once 0 (cut.first served);
  each = λ t. weaker_each (IsCarried net asking shares) (WasTried asking shares) (tried_of net t asking shares) cut.wires cut.each;
}

module _ {W O : Type 0} (net wires : Type 0) (by : net → wires) (made_for : W → Purpose) (told : W → Told) (origin : W → O) (there : O) (asking : Asking) (source : Source) (pass : Pass) (start between now : List Closed) (before until after : NetFault → ℕ)
    (shares : List Share) (lanes : List (Lane W)) (stop : Stop) (stopped : StopsOpening net wires made_for told origin there asking source pass start between before until shares lanes stop) where
  abbrev carried : List Carried
  carried = map (carried_of net wires by made_for told asking shares) lanes

  abbrev lost : List Carried
  lost = carry_all source (part_of stopped.slice) start between

  found : net → Lost asking shares stopped.number start between lost
  found t = lost_by asking source pass shares stopped.number stopped.slice stopped.is start between stopped.since until stop (stopped.lost t)

  left : AllByRecursion (IsLeft wires told shares) lanes
  left = weaker_each (IsTurn wires made_for told origin there asking shares) (IsLeft wires told shares) (λ lane turn. turn.ready.left) lanes stopped.lanes_are.turns

  asks : AllByRecursion (LaneAsks wires made_for told asking) lanes
  asks = weaker_each (IsTurn wires made_for told origin there asking shares) (LaneAsks wires made_for told asking) (λ lane turn. turn.asks) lanes stopped.lanes_are.turns

  most_lanes : (n : ℕ) → total (is_at n) lanes ≤ 1
  most_lanes n = elim (cases_lt n stopped.number) [ inl low ↦ let b = stopped.lanes_are.below n low in omega (arith, b) | inr high ↦ let a = stopped.lanes_are.above n high in omega (arith, a) ]

  once : net → (n : ℕ) → total (is_of n) (lost ++ carried) ≤ 1
  once t n =
      let sum = total_append (is_of n) lost carried in
      let same = counts net wires by made_for told asking shares n lanes in
      elim (eqb_tells stopped.number n) [
        | inl here ↦ let a = stopped.lanes_are.above n (let e = here.1 in omega (arith, e)) in let f = (found t).few n in omega (arith, sum, same, a, f)
        | inr off ↦ let o = (found t).others n off.1 in let m = most_lanes n in omega (arith, sum, same, o, m)
      ]

  -- the first reply's lane is one of those that were open
  apart : asking.served ≡ true → stopped.number ≢ 0
  apart served = elim stopped.is.asks.own [
    | inl unserved ↦ absurd (false≢true (sym unserved ∙ served))
    | inr other ↦ λ e. other (stopped.is.number_is ∙ e)
  ]

  first : net → asking.served ≡ true → total (is_of 0) (lost ++ carried) ≡ 1
  first t served =
      let sum = total_append (is_of 0) lost carried in
      let same = counts net wires by made_for told asking shares 0 lanes in
      let none = (found t).others 0 (apart served) in
      let one = stopped.lanes_are.below 0 (above_none stopped.number (apart served)) in
      omega (arith, sum, same, none, one)

  pub lost_round : (net → Closes made_for told between now lanes) → NoneFell until after → LosesRound net asking source pass start now before after shares stop
  lost_round closes later =
      let connection : Carried → Closed = λ (c : Carried). c.connection in
      record {
        round = record {
          wires = lost ++ carried;
          closed = λ t. closes t ∙ ap (λ (l : List Closed). l ++ closed_lanes made_for told lanes) (found t).closed
              ∙ append_assoc start (map connection lost) (closed_lanes made_for told lanes)
              ∙ ap (λ (l : List Closed). start ++ (map connection lost ++ l)) (connections net wires by made_for told asking shares lanes)
              ∙ ap (λ (l : List Closed). start ++ l) (sym (map-append connection lost carried));
          once = λ t n short. once t n;
          first = first;
          each = λ t. append_each (WasTried asking shares) lost carried (found t).each
              (weaker_each (IsCarried net asking shares) (WasTried asking shares) (tried_of net t asking shares) carried (carried_each net wires by made_for told asking shares lanes left asks));
        };
        number = stopped.number;
        slice = stopped.slice;
        is = stopped.is;
        since = stopped.since;
        until = until;
        earlier = stopped.later;
        later = later;
        between = between;
        rest = closed_lanes made_for told lanes;
        behind = closes;
        counted = stopped.counted;
        lost = stopped.lost;
      }
