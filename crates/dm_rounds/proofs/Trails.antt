-- What a round makes of an attempt, with its connections.
use Rattle.std.proofs.Common.{◌≡◌, ◌⊎◌, inr, ◌<◌, ℕ, ◌+◌, List, [], ◌∷◌, ◌++◌, length, map, Bool, true, false, Result, Ok, Err, refl, sym, ◌∙◌, ap, subst, arith, append_assoc}
use Rattle.std.proofs.lemmas.Bool.{false≢true}
use Rattle.std.specs.Prelude.{IsSome}
use Rattle.std.specs.List.{AllByRecursion}
use Rattle.std.proofs.lemmas.List.{append-nil}
use Rattle.std.proofs.lemmas.Option.{slice_get_within}
use Rattle.dm_types.specs.declared.item.Item.{Item}
use Rattle.dm_types.specs.declared.kinds.DiskKind.{DiskKind}
use Rattle.dm_types.specs.declared.slices.Slice.{Slice}
use Rattle.dm_disk_model.specs.Disk.{History as Clock}
use Rattle.dm_edge.specs.declared.fault.NetFault.{NetFault}
use Rattle.dm_edge.specs.Wire.{Closed}
use Rattle.dm_kept.specs.Files.{Says}
use Rattle.dm_store.specs.declared.pass.Pass.{Pass}
use Rattle.dm_store.specs.View.{View}
use Rattle.dm_attempt.specs.declared.stop.Going.{Going}
use Rattle.dm_attempt.specs.declared.stop.Stop.{Stop}
use Rattle.dm_attempt.specs.declared.stop.Stop.TheVariants as stops
use Rattle.dm_attempt.specs.Asking.{Asking}
use Rattle.dm_attempt.specs.Ending.{IfBroke, StopHolds}
use Rattle.dm_attempt.specs.Finishes.{FinishLeaves}
use Rattle.dm_attempt.specs.Live.{LiveDesk}
use Rattle.dm_attempt.specs.Scene.{Scene, cover_by}
use Rattle.dm_attempt.specs.Shares.{Share, total}
use Rattle.dm_attempt.specs.Trace.{Carried, Round, Trace, wires_of, with_saves}
use Rattle.dm_rounds.specs.Lanes.{IsCarried, IsRead, NetCounts, SomeBroke, is_of}
use Rattle.dm_rounds.specs.Opened.{WasTried}
use Rattle.dm_rounds.specs.Reading.{IsKeyed, RoundGoes, RoundStops, closed_before, live_round}
use Rattle.dm_rounds.specs.Running.{ReadsOne}
use Rattle.dm_rounds.specs.Trail.{AreCut, AreRead, ContentShows, GoesFrom, HasFirst, IsServedIn, IsShown, RunStops, WasCut, asking_behind}
use Rattle.dm_rounds.proofs.Lost.{tried_of}
use Rattle.dm_rounds.proofs.Replies.{served_more, tried_first}
use Rattle.dm_rounds.proofs.Totals.{weaker_each}
use Rattle.dm_rounds.proofs.Wired.{holds_wired, live_wired, opened_with, wired}

-- an item with such a key has one
pub told_some : (pass : Pass) (asking : Asking) (item : Item) → IsKeyed pass asking item → IsSome item.key
told_some pass asking item keyed = subst IsSome (sym keyed.key_is) refl

pub closed_more : (a b c w lost : List Closed) → lost ≡ [] → (a ++ (b ++ (c ++ lost))) ++ w ≡ a ++ (b ++ ((c ++ w) ++ lost))
closed_more a b c w lost none =
    subst (λ (l : List Closed). (a ++ (b ++ (c ++ l))) ++ w ≡ a ++ (b ++ ((c ++ w) ++ l))) (sym none) (simp (append-nil, append_assoc))

carried_read : (net : Type 0) (asking : Asking) (shares : List Share) (c : Carried) → IsRead net asking shares c → IsCarried net asking shares c
carried_read net asking shares c is = record { share = is.share; share_is = is.share_is; part_is = is.part_is; asked = is.asked; brought = is.brought }

-- a round whose parts all have one connection
cut_of : (net : Type 0) (round : Round) → ((n : ℕ) → n < length round.shares → total (is_of n) round.wires ≡ 1) → AllByRecursion (IsCarried net round.asking round.shares) round.wires → WasCut net round
cut_of net round once each = record {
  once = λ t n short. let one = once n short in omega (arith, one);
  each = λ t. weaker_each (IsCarried net round.asking round.shares) (WasTried round.asking round.shares) (tried_of net t round.asking round.shares) round.wires each;
  landed = λ t n share at. inr (once n (slice_get_within round.shares n share at));
}

pub read_cut : (net : Type 0) (first : Asking) (rounds : List Round) → AreRead net first rounds → AreCut net first rounds
read_cut net first [] are = tt
read_cut net first (round ∷ older) are =
    (are.0, cut_of net round are.1.once (weaker_each (IsRead net round.asking round.shares) (IsCarried net round.asking round.shares) (carried_read net round.asking round.shares) round.wires are.1.all), are.2)

-- from one moment to a later one, with one round more
pub from_one : (older later : Trace) (saves : List (List Slice)) (round : Round) → later ≡ opened_with (with_saves older saves) round round.wires → GoesFrom older later
from_one older later saves round is = subst (GoesFrom older) (sym is) (record { led_is = refl; lost_is = refl; wish_is = refl; told_is = refl; count_is = refl; newer = round ∷ []; rounds_are = refl })

-- and later still
pub from_then : (a b c : Trace) → GoesFrom a b → GoesFrom b c → GoesFrom a c
from_then a b c early late = record {
  led_is = late.led_is ∙ early.led_is;
  lost_is = late.lost_is ∙ early.lost_is;
  wish_is = late.wish_is ∙ early.wish_is;
  told_is = late.told_is ∙ early.told_is;
  count_is = late.count_is ∙ early.count_is;
  newer = late.newer ++ early.newer;
  rounds_are = late.rounds_are ∙ ap (λ (l : List Round). late.newer ++ l) early.rounds_are ∙ sym (append_assoc late.newer early.newer a.rounds);
}

module _ {D O : Type 0} (tells : Type 0) (clock : D → Clock) (says : O → Says) (far : D → ℕ) (counts : D → DiskKind → ℕ) (net : Type 0) (scene : Scene D O) (going : Going) (older : Trace) (first : Asking) (shares : List Share)
    (none_lost : older.lost ≡ []) (rounds : AreRead net first older.rounds) (begun : (older.rounds ≡ []) ⊎ IsServedIn net first older.rounds) (turn : going.round ≡ length older.rounds + 1) where
  abbrev pub asking : Asking
  asking = asking_behind first older.rounds

  abbrev pub cover : List Slice
  cover = cover_by scene older

  -- the trace behind a round with these shares and connections
  abbrev pub trace_of : List (List Slice) → List Share → List Carried → Trace
  trace_of saves after wires = opened_with (with_saves older saves) (live_round asking cover after) wires

  closed_of_trace : (saves : List (List Slice)) (after : List Share) (wires : List Carried) (closed : List Closed) → (net → closed ≡ closed_before scene older ++ map (λ (c : Carried). c.connection) wires)
      → net → closed ≡ closed_before scene (trace_of saves after wires)
  closed_of_trace saves after wires closed is n =
      is n ∙ closed_more scene.closed older.led (wires_of older.rounds) (map (λ (c : Carried). c.connection) wires) older.lost none_lost

  -- where the first reply serves the first part, its connection is one of the rounds' then
  served_by : (after : List Share) (wires : List Carried) → ((n : ℕ) → n < length after → total (is_of n) wires ≡ 1) → (asking.served ≡ true → 0 < length after) → AllByRecursion (IsCarried net asking after) wires
      → IsServedIn net first (wired (live_round asking cover after) wires ∷ older.rounds)
  served_by after wires once some each =
      let round : Round = wired (live_round asking cover after) wires in
      served_more net first round older.rounds begun (λ none n served.
      let same : asking ≡ first = ap (asking_behind first) none in
      let own : asking.served ≡ true = ap (λ (a : Asking). a.served) same ∙ served in
      subst (λ (a : Asking). HasFirst a (round ∷ older.rounds)) same
      (tried_first asking after round older.rounds own (let one = once 0 (some own) in omega (arith, one)) (weaker_each (IsCarried net asking after) (WasTried asking after) (tried_of net n asking after) wires each)))

  module _ (desk : View D O) (closed : List Closed) (goes : RoundGoes tells clock says far counts net scene going desk closed older asking cover shares) where
    abbrev pub read_trace : Trace
    read_trace = trace_of goes.saves goes.after goes.round.wires

    pub read_from : GoesFrom older read_trace
    read_from = from_one older read_trace goes.saves (wired (live_round asking cover goes.after) goes.round.wires) refl

    pub read_rounds : AreRead net first read_trace.rounds
    read_rounds = (refl, record { once = goes.round.once; all = goes.round.all }, rounds)

    read_served : IsServedIn net first read_trace.rounds
    read_served = served_by goes.after goes.round.wires goes.round.once goes.round.first
        (weaker_each (IsRead net asking goes.after) (IsCarried net asking goes.after) (carried_read net asking goes.after) goes.round.wires goes.round.all)

    pub read_closed : net → closed ≡ closed_before scene read_trace
    read_closed = closed_of_trace goes.saves goes.after goes.round.wires closed goes.round.closed

    pub read_live : LiveDesk tells clock says far counts scene going.pass desk read_trace
    read_live = live_wired tells clock says far counts scene (live_round asking cover goes.after) goes.round.wires (with_saves older goes.saves) going.pass desk goes.live

    stop_held : (after : View D O) (stop : Stop) → FinishLeaves tells clock says far counts scene going.pass desk after read_trace (Err stop) → StopHolds true tells clock says far counts scene going.pass after read_trace stop
    stop_held after (stops.Broke cause) left = absurd left
    stop_held after stops.NoMemory left = left
    stop_held after (stops.Fault fault) left = left
    stop_held after (stops.Recorded reason) left = left

    none_shown : (before now : NetFault → ℕ) (after : View D O) (stop : Stop) → FinishLeaves tells clock says far counts scene going.pass desk after read_trace (Err stop) → IfBroke stop (IsShown net before now scene read_trace)
    none_shown before now after (stops.Broke cause) left = absurd left
    none_shown before now after stops.NoMemory left = tt
    none_shown before now after (stops.Fault fault) left = tt
    none_shown before now after (stops.Recorded reason) left = tt

    -- the attempt is finished, or a place is left
    pub reads_one : (before now : NetFault → ℕ) (after : View D O) (result : Result Bool Stop) → FinishLeaves tells clock says far counts scene going.pass desk after read_trace result
        → ReadsOne tells clock says far counts net scene going after closed before now older first result
    reads_one before now after (Ok true) left = record {
      trace = read_trace;
      from = read_from;
      rounds = read_rounds;
      served = read_served;
      ended = record {
        some = λ none. absurd (let e = none in cc);
        closed_is = read_closed;
        digest = left.digest;
        done = record { desk = desk; live = read_live; full = left.full; stated = left.stated; sum = left.sum };
        saves = left.saves;
        over = left.over;
      };
    }
    reads_one before now after (Ok false) left =
        record { trace = read_trace; from = read_from; turn_is = omega (arith, turn); asking_is = refl; rounds = read_rounds; served = read_served; closed_is = read_closed; live = left.1; place = left.0.0; missing = left.0.1 }
    reads_one before now after (Err stop) left = record {
      trace = read_trace;
      from = read_from;
      rounds = read_cut net first read_trace.rounds read_rounds;
      served = read_served;
      stopped = record { closed_is = read_closed; came = true; some = λ came none. absurd (let e = none in cc); holds = stop_held after stop left; shown = none_shown before now after stop left };
      all = λ came. read_rounds;
    }

  content_shown : (before now : NetFault → ℕ) (trace : Trace) (wires : List Carried) (after : List Share) (stop : Stop) → NetCounts before now stop → (net → IfBroke stop (SomeBroke wires after))
      → trace.rounds ≡ wired (live_round asking cover after) wires ∷ older.rounds → IfBroke stop (IsShown net before now scene trace)
  content_shown before now trace wires after (stops.Broke cause) counted shown is =
      inr (counted.0, counted.1, λ n. inr (inr (subst (λ (l : List Round). ContentShows l cause) (sym is) (shown n))))
  content_shown before now trace wires after stops.NoMemory counted shown is = tt
  content_shown before now trace wires after (stops.Fault fault) counted shown is = tt
  content_shown before now trace wires after (stops.Recorded reason) counted shown is = tt

  -- the round stopped the attempt
  pub round_stopped : (before now : NetFault → ℕ) (desk : View D O) (closed : List Closed) (stop : Stop) → NetCounts before now stop → RoundStops tells clock says far counts net scene going desk closed older asking cover shares stop
      → RunStops tells clock says far counts net scene going.pass desk closed before now older first stop
  round_stopped before now desk closed stop counted stopped =
      let trace = trace_of stopped.saves stopped.after stopped.round.wires in
      let round = wired (live_round asking cover stopped.after) stopped.round.wires in
      record {
        trace = trace;
        from = from_one older trace stopped.saves round refl;
        rounds = (refl, cut_of net round stopped.round.once stopped.round.each, rounds);
        served = served_by stopped.after stopped.round.wires stopped.round.once stopped.round.first stopped.round.each;
        stopped = record {
          closed_is = closed_of_trace stopped.saves stopped.after stopped.round.wires closed stopped.round.closed;
          came = false;
          some = λ never. absurd (false≢true never);
          holds = holds_wired tells clock says far counts scene false (live_round asking cover stopped.after) stopped.round.wires (with_saves older stopped.saves) going.pass desk stop stopped.holds;
          shown = content_shown before now trace stopped.round.wires stopped.after stop counted stopped.shown refl;
        };
        all = λ never. absurd (false≢true never);
      }
