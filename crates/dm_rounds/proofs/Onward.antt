-- The next round of an attempt behind those that were read: it is opened, or given up.
use Rattle.std.proofs.Common.{◌≡◌, ◌⊎◌, inl, inr, ℕ, ◌+◌, List, [], ◌∷◌, ◌++◌, length, map, Option, true, Result, Ok, Err, refl, sym, ◌∙◌, ap, subst, arith, append_assoc, false}
use Rattle.std.proofs.lemmas.Bool.{false≢true}
use Rattle.std.specs.List.{Contains}
use Rattle.std.proofs.lemmas.List.Elements.{Contains-append_left, Contains-append_right}
use Rattle.dm_types.specs.Faults.{NoneFell}
use Rattle.dm_types.specs.declared.item.Item.{Item}
use Rattle.dm_types.specs.declared.kinds.DiskKind.{DiskKind}
use Rattle.dm_disk_model.specs.Disk.{History as Clock}
use Rattle.dm_policy.specs.declared.cause.Cause.{Cause}
use Rattle.dm_policy.specs.declared.cause.Cause.TheVariants as causes
use Rattle.dm_edge.specs.declared.fault.NetFault.{NetFault}
use Rattle.dm_edge.specs.Wire.{Purpose, Told, Closed}
use Rattle.dm_ask.specs.Following.{IsStopped}
use Rattle.dm_ask.specs.Redirects.{Led, purpose_of}
use Rattle.dm_kept.specs.Files.{Says}
use Rattle.dm_store.specs.declared.pass.Pass.{Pass}
use Rattle.dm_store.specs.View.{View}
use Rattle.dm_answers.specs.Plan.{last_round}
use Rattle.dm_answers.specs.Slices.{part_of}
use Rattle.dm_attempt.specs.declared.source.Source.{Source}
use Rattle.dm_attempt.specs.declared.stop.Going.{Going}
use Rattle.dm_attempt.specs.declared.stop.Stop.{Stop}
use Rattle.dm_attempt.specs.declared.stop.Stop.TheVariants as stops
use Rattle.dm_attempt.specs.Asking.{Asking, range_of}
use Rattle.dm_attempt.specs.Ending.{IfBroke}
use Rattle.dm_attempt.specs.Ends.{next_parts, next_round}
use Rattle.dm_attempt.specs.Scene.{Scene, cover_by, told_by}
use Rattle.dm_attempt.specs.Trace.{Carried, Round, Tale, Trace, connections_of, wires_of}
use Rattle.dm_rounds.specs.declared.lane.Lane.{Lane}
use Rattle.dm_rounds.specs.Lanes.{NetCounts}
use Rattle.dm_rounds.specs.Opened.{LosesRound}
use Rattle.dm_rounds.specs.Parts.{StopsAsking}
use Rattle.dm_rounds.specs.Reading.{IsKeyed, IsReading, closed_before}
use Rattle.dm_rounds.specs.Rounding.{LostOpens, NoneOpens, RoundOpens, next_shares}
use Rattle.dm_rounds.specs.Running.{IsRunning, later_asking}
use Rattle.dm_rounds.specs.Trail.{AreRead, AreUsedUp, GoesFrom, HasFirst, IsServedIn, IsShown, RunEnds, RunLeaves, RunStops, WasCut, asking_behind}
use Rattle.dm_rounds.proofs.Asks.{none_led}
use Rattle.dm_rounds.proofs.Causes.{counts_longer, net_apart}
use Rattle.dm_rounds.proofs.Losing.{asking_shown, contains_here, empty_at, same_behind, shows_longer}
use Rattle.dm_rounds.proofs.Replies.{served_more, tried_first}
use Rattle.dm_rounds.proofs.Trails.{closed_more, from_one, from_then, read_cut}
use Rattle.dm_rounds.proofs.Wired.{holds_wired, opened_with, wired}

-- a later round asks of the same content
pub keyed_later : (pass : Pass) (first : Asking) (rounds : List Round) (item : Item) → IsKeyed pass (asking_behind first rounds) item → IsKeyed pass (later_asking first) item
keyed_later pass first [] item keyed =
    record { key_is = keyed.key_is; address_is = keyed.address_is; reads = keyed.reads; purpose_is = keyed.purpose_is; source_is = keyed.source_is; known_is = keyed.known_is }
keyed_later pass first (round ∷ older) item keyed = keyed

-- a round that was given up had these connections
pub lost_cut : {D O : Type 0} (net : Type 0) (scene : Scene D O) (trace : Trace) (asking : Asking) (source : Source) (pass : Pass) (start now : List Closed) (before after : NetFault → ℕ) (stop : Stop)
    → (loses : LosesRound net asking source pass start now before after (next_shares scene trace) stop) → WasCut net (wired (next_round scene trace asking) loses.round.wires)
lost_cut net scene trace asking source pass start now before after stop loses = record {
  once = loses.round.once;
  each = loses.round.each;
  landed = λ t n share at. inl (empty_at (next_parts scene trace) n share at);
}

-- the connection that was made last is one of these
pub lost_among : (start led between now rest wires front back : List Closed) (c : Closed) → between ≡ (start ++ led) ++ c ∷ [] → now ≡ between ++ rest → now ≡ start ++ wires → Contains (front ++ (wires ++ back)) c
lost_among start led between now rest wires front back c last behind closed =
    let tail : (start ++ (led ++ c ∷ [])) ++ rest ≡ start ++ (led ++ c ∷ rest) = simp append_assoc in
    let same : start ++ wires ≡ start ++ (led ++ c ∷ rest) = sym closed ∙ behind ∙ ap (λ (l : List Closed). l ++ rest) (last ∙ append_assoc start led (c ∷ [])) ∙ tail in
    let are : wires ≡ led ++ c ∷ rest = same_behind start wires (led ++ c ∷ rest) same in
    Contains-append_right front (wires ++ back) c (Contains-append_left wires back c (subst (λ (l : List Closed). Contains l c) (sym are) (contains_here led rest c)))

module _ {D O : Type 0} (tells : Type 0) (clock : D → Clock) (says : O → Says) (far : D → ℕ) (counts : D → DiskKind → ℕ) (net : Type 0) (scene : Scene D O) (going : Going) (older : Trace) (first asking : Asking) (trace : Trace) (from : GoesFrom older trace) (asking_is : asking_behind first trace.rounds ≡ asking)
    (rounds : AreRead net first trace.rounds) (lost_none : trace.lost ≡ []) (begun : (trace.rounds ≡ []) ⊎ IsServedIn net first trace.rounds) where
  -- it is read
  pub next_runs : {W : Type 0} (wires : Type 0) (made_for : W → Purpose) (told : W → Told) (origin : W → O) (desk : View D O) (closed : List Closed) (there : O) (lanes : List (Lane W)) (at : ℕ) (next : Going) → next.pass ≡ going.pass → next.round ≡ length trace.rounds + 1
      → RoundOpens tells clock says far counts net wires made_for told origin scene going.pass desk closed trace asking lanes → there ≡ scene.start.origin → at ≡ scene.at
      → IsRunning tells clock says far counts net wires made_for told origin scene next desk closed there trace first (next_shares scene trace) lanes at
  next_runs {W} wires made_for told origin desk closed there lanes at next pass_is turn opens there_is at_is = record {
    reading = subst (λ (a : Asking). IsReading tells clock says far counts net wires made_for told origin scene next desk closed trace a (cover_by scene trace) (next_shares scene trace) lanes) (sym asking_is) (opens.reading next pass_is turn);
    rounds = rounds;
    served = begun;
    none_lost = lost_none;
    there_is = there_is;
    at_is = at_is;
  }

  module _ (before now : NetFault → ℕ) (desk : View D O) (closed : List Closed) (stop : Stop) where
    used_up : ((cause : Cause) → (cause ≡ causes.RangeRefused 206) × (length trace.rounds ≡ last_round) → AreUsedUp scene trace cause) → (s : Stop) → IfBroke s (λ cause. (cause ≡ causes.RangeRefused 206) × (length trace.rounds ≡ last_round))
        → IfBroke s (IsShown net before now scene trace)
    used_up used (stops.Broke cause) why = inl (used cause why)
    used_up used stops.NoMemory why = tt
    used_up used (stops.Fault fault) why = tt
    used_up used (stops.Recorded reason) why = tt

    -- none was planned
    pub none_stops : IsServedIn net first trace.rounds → ((cause : Cause) → (cause ≡ causes.RangeRefused 206) × (length trace.rounds ≡ last_round) → AreUsedUp scene trace cause) → NoneOpens tells clock says far counts net scene going.pass desk closed trace stop
        → RunStops tells clock says far counts net scene going.pass desk closed before now older first stop
    none_stops served used none = record {
      trace = trace;
      from = from;
      rounds = read_cut net first trace.rounds rounds;
      served = served;
      stopped = record { closed_is = none.still; came = false; some = λ never. absurd (false≢true never); holds = none.holds; shown = used_up used stop none.why };
      all = λ never. absurd (false≢true never);
    }

    module _ (source : Source) (between : NetFault → ℕ) (earlier : NoneFell before between) (lost : LostOpens tells clock says far counts net scene going.pass desk closed between now trace asking source stop) where
      abbrev lost_wires : List Carried
      lost_wires = lost.round.round.wires

      abbrev lost_trace : Trace
      lost_trace = opened_with trace (next_round scene trace asking) lost_wires

      since : NoneFell before lost.round.since
      since kind = let a = earlier kind in let b = lost.round.earlier kind in omega (arith, a, b)

      connection_among : net → (led : List Closed) (c : Closed) → lost.round.between ≡ (closed_before scene trace ++ led) ++ c ∷ [] → Contains (connections_of lost_trace) c
      connection_among n led c last =
          subst (λ (l : List Closed). Contains l c) (append_assoc trace.led (wires_of trace.rounds) (map (λ (w : Carried). w.connection) lost_wires ++ trace.lost)
          ∙ ap (λ (l : List Closed). trace.led ++ l) (sym (append_assoc (wires_of trace.rounds) (map (λ (w : Carried). w.connection) lost_wires) trace.lost)))
          (lost_among (closed_before scene trace) led lost.round.between closed lost.round.rest (map (λ (w : Carried). w.connection) lost_wires) (trace.led ++ wires_of trace.rounds) trace.lost c last
          (lost.round.behind n) (lost.round.round.closed n))

      -- a range is asked for at its own address
      own_address : (cause : Cause) (stopped : IsStopped (range_of source (part_of lost.round.slice)) (purpose_of going.pass.id going.pass.attempt) source.address lost.round.since lost.round.until (closed_before scene trace) lost.round.between cause) → stopped.at ≡ source.address
      own_address cause stopped =
          subst (λ (led : List Closed). Led (purpose_of going.pass.id going.pass.attempt) source.address led stopped.at) (none_led (range_of source (part_of lost.round.slice)) source (part_of lost.round.slice) stopped.led stopped.direct) stopped.leads

      lost_shown : (s : Stop) → s ≡ stop → IfBroke s (IsShown net before now scene lost_trace)
      lost_shown (stops.Broke cause) is =
          let counted = subst (λ (x : Stop). NetCounts before now x) (sym is) (counts_longer before lost.round.since lost.round.until now stop since lost.round.later lost.round.counted) in
          inr (
            counted.0,
            counted.1,
            λ n.
                let stopped = subst (λ (x : Stop). StopsAsking source going.pass (part_of lost.round.slice) lost.round.since lost.round.until (closed_before scene trace) lost.round.between x) (sym is) (lost.round.lost n) in
                asking_shown (range_of source (part_of lost.round.slice)) going.pass source.address before lost.round.since lost.round.until now since lost.round.later (closed_before scene trace) lost.round.between cause (net_apart cause counted.0) stopped lost_trace
                (λ c for. inr (for ∙ ap (purpose_of going.pass.id going.pass.attempt) (own_address cause stopped) ∙ sym lost.round.is.asks.purpose_is, part_of lost.round.slice, record { of = source; source_is = lost.round.is.asks.source_is; asked_is = refl })) (λ c last. connection_among n stopped.led c last) (λ c last whole. absurd (let e = whole in cc)),
          )
      lost_shown stops.NoMemory is = tt
      lost_shown (stops.Fault fault) is = tt
      lost_shown (stops.Recorded reason) is = tt

      -- where the first reply serves the first part, its connection is one of the rounds'
      lost_served : IsServedIn net first lost_trace.rounds
      lost_served =
          let round : Round = wired (next_round scene trace asking) lost_wires in
          served_more net first round trace.rounds begun (λ none n served.
          let same : asking ≡ first = sym asking_is ∙ ap (asking_behind first) none in
          let own : asking.served ≡ true = ap (λ (a : Asking). a.served) same ∙ served in
          subst (λ (a : Asking). HasFirst a (round ∷ trace.rounds)) same
          (tried_first asking (next_shares scene trace) round trace.rounds own (let one = lost.round.round.first n own in omega (arith, one)) (lost.round.round.each n)))

      -- it was planned, and given up
      pub lost_stops : RunStops tells clock says far counts net scene going.pass desk closed before now older first stop
      lost_stops = record {
        trace = lost_trace;
        from = from_then older trace lost_trace from (from_one trace lost_trace trace.saves (wired (next_round scene trace asking) lost_wires) refl);
        rounds = (sym asking_is, lost_cut net scene trace asking source going.pass (closed_before scene trace) closed between now stop lost.round, rounds);
        served = lost_served;
        stopped = record {
          closed_is = λ n. lost.round.round.closed n ∙ closed_more scene.closed trace.led (wires_of trace.rounds) (map (λ (c : Carried). c.connection) lost_wires) trace.lost lost_none;
          came = false;
          some = λ never. absurd (false≢true never);
          holds = holds_wired tells clock says far counts scene false (next_round scene trace asking) lost_wires trace going.pass desk stop lost.holds;
          shown = lost_shown stop refl;
        };
        all = λ never. absurd (false≢true never);
      }

    -- whichever
    pub opening_stops : IsServedIn net first trace.rounds → (source : Source) (between : NetFault → ℕ) → NoneFell before between → ((cause : Cause) → (cause ≡ causes.RangeRefused 206) × (length trace.rounds ≡ last_round) → AreUsedUp scene trace cause)
        → NoneOpens tells clock says far counts net scene going.pass desk closed trace stop ⊎ LostOpens tells clock says far counts net scene going.pass desk closed between now trace asking source stop
        → RunStops tells clock says far counts net scene going.pass desk closed before now older first stop
    opening_stops served source between earlier used (inl none) = none_stops served used none
    opening_stops served source between earlier used (inr lost) = lost_stops source between earlier lost

-- the next round asks of the same content
pub keyed_next : {D O : Type 0} (scene : Scene D O) (pass : Pass) (first : Asking) (older trace : Trace) → GoesFrom older trace → IsKeyed pass (asking_behind first older.rounds) (told_by scene older.told) → IsKeyed pass (later_asking first) (told_by scene trace.told)
keyed_next scene pass first older trace from keyed =
    subst (λ (t : Option Tale). IsKeyed pass (later_asking first) (told_by scene t)) (sym from.told_is) (keyed_later pass first older.rounds (told_by scene older.told) keyed)

-- a cause that shows since some moment shows since an earlier one
pub shown_longer : {D O : Type 0} (net : Type 0) (a b c : NetFault → ℕ) (scene : Scene D O) (trace : Trace) (stop : Stop) → NoneFell a b → IfBroke stop (IsShown net b c scene trace) → IfBroke stop (IsShown net a c scene trace)
shown_longer net a b c scene trace (stops.Broke cause) earlier (inl used) = inl used
shown_longer net a b c scene trace (stops.Broke cause) earlier (inr shown) =
    let late : NoneFell c c = λ kind. omega arith in
    let counted = counts_longer a b c c (stops.Broke cause) earlier late (shown.0, shown.1) in
    inr (counted.0, counted.1, λ n. shows_longer a b c c trace cause earlier late (shown.2 n))
shown_longer net a b c scene trace stops.NoMemory earlier shown = tt
shown_longer net a b c scene trace (stops.Fault fault) earlier shown = tt
shown_longer net a b c scene trace (stops.Recorded reason) earlier shown = tt

module _ {D O : Type 0} (tells : Type 0) (clock : D → Clock) (says : O → Says) (far : D → ℕ) (counts : D → DiskKind → ℕ) (net : Type 0) (scene : Scene D O) (pass : Pass) (desk : View D O) (closed : List Closed) (older mid : Trace) (first : Asking) (from : GoesFrom older mid) where
  pub ends_from : RunEnds tells clock says far counts net scene pass desk closed mid first → RunEnds tells clock says far counts net scene pass desk closed older first
  ends_from ends = record { trace = ends.trace; from = from_then older mid ends.trace from ends.from; rounds = ends.rounds; served = ends.served; ended = ends.ended }

  pub stops_from : (before between now : NetFault → ℕ) → NoneFell before between → (stop : Stop) → RunStops tells clock says far counts net scene pass desk closed between now mid first stop
      → RunStops tells clock says far counts net scene pass desk closed before now older first stop
  stops_from before between now earlier stop stopped = record {
    trace = stopped.trace;
    from = from_then older mid stopped.trace from stopped.from;
    rounds = stopped.rounds;
    served = stopped.served;
    stopped = record { closed_is = stopped.stopped.closed_is; came = stopped.stopped.came; some = stopped.stopped.some; holds = stopped.stopped.holds; shown = shown_longer net before between now scene stopped.trace stop earlier stopped.stopped.shown };
    all = stopped.all;
  }

-- an attempt is from itself
pub from_same : (trace : Trace) → GoesFrom trace trace
from_same trace = record { led_is = refl; lost_is = refl; wish_is = refl; told_is = refl; count_is = refl; newer = []; rounds_are = refl }

-- what is left since some moment is left since an earlier one
pub leaves_longer : {D O : Type 0} (tells : Type 0) (clock : D → Clock) (says : O → Says) (far : D → ℕ) (counts : D → DiskKind → ℕ) (net : Type 0) (scene : Scene D O) (pass : Pass) (desk : View D O) (closed : List Closed) (before between now : NetFault → ℕ) (older : Trace) (first : Asking) (result : Result (Unit {0}) Stop) → NoneFell before between
    → RunLeaves tells clock says far counts net scene pass desk closed between now older first result → RunLeaves tells clock says far counts net scene pass desk closed before now older first result
leaves_longer tells clock says far counts net scene pass desk closed before between now older first (Ok done) earlier leaves = leaves
leaves_longer tells clock says far counts net scene pass desk closed before between now older first (Err stop) earlier leaves =
    stops_from tells clock says far counts net scene pass desk closed older older first (from_same older) before between now earlier stop leaves
