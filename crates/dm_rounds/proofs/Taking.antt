-- The first reply is taken: its lane is the first, or nothing is to be brought.
use Rattle.std.proofs.Common.{◌≡◌, inl, ◌<◌, ℕ, Bool, true, false, List, [], ◌∷◌, ◌++◌, length, map, Option, Some, Result, Ok, Err, refl, sym, ◌∙◌, ap, subst, arith, append_assoc}
use Rattle.std.specs.Prelude.{IfSome, slice_get}
use Rattle.std.proofs.lemmas.List.{append-nil}
use Rattle.dm_types.specs.declared.address.Address.{Address}
use Rattle.dm_types.specs.declared.item.Key.{Key}
use Rattle.dm_types.specs.declared.kinds.DiskKind.{DiskKind}
use Rattle.dm_types.specs.declared.slices.Slice.{Slice}
use Rattle.dm_disk_model.specs.Disk.{History as Clock}
use Rattle.dm_edge.specs.declared.fault.NetFault.{NetFault}
use Rattle.dm_edge.specs.Wire.{Purpose, Told, Closed, closed_of}
use Rattle.dm_item.specs.Fields.{no_bytes}
use Rattle.dm_kept.specs.Files.{Says}
use Rattle.dm_slice.specs.Plan.{opened_by, parts_by}
use Rattle.dm_slice.specs.declared.plan.Part.{Part}
use Rattle.dm_store.specs.declared.pass.Pass.{Pass}
use Rattle.dm_store.specs.View.{View}
use Rattle.dm_answers.specs.Plan.{slice_pass}
use Rattle.dm_answers.specs.Slices.{part_of}
use Rattle.dm_answers.specs.declared.answer.SlicePass.{SlicePass}
use Rattle.dm_attempt.specs.declared.stop.Stop.{Stop}
use Rattle.dm_attempt.specs.declared.stop.Stop.TheVariants as stops
use Rattle.dm_attempt.specs.Asking.{source_by}
use Rattle.dm_attempt.specs.Ending.{IfBroke, StopHolds}
use Rattle.dm_attempt.specs.Ends.{PlanLeaves, empty_share, next_parts, next_round, tale_of}
use Rattle.dm_attempt.specs.Finishes.{FinishLeaves}
use Rattle.dm_attempt.specs.Live.{LiveDesk}
use Rattle.dm_attempt.specs.Scene.{Scene, cover_by, told_by}
use Rattle.dm_attempt.specs.Shares.{Share}
use Rattle.dm_attempt.specs.Trace.{AreAtEnds, AreNumbered, Tale, Trace, opened, told_with}
use Rattle.dm_attempt.proofs.Rounds.{empty_parts}
use Rattle.dm_rounds.specs.declared.first.Reply.{Reply}
use Rattle.dm_rounds.specs.declared.lane.Lane.{Lane}
use Rattle.dm_rounds.specs.Beginning.{HasPlanned}
use Rattle.dm_rounds.specs.First.{FreshEnds, FreshLeaves, FreshStops, IsFreshTrace, IsLostAt, IsReplyOf, first_asking}
use Rattle.dm_rounds.specs.Opening.{IsOpening}
use Rattle.dm_rounds.specs.Reading.{closed_before}
use Rattle.dm_rounds.specs.Rounding.{next_shares}
use Rattle.dm_rounds.specs.Serving.{IsFirstOpen, IsServing, first_lane}
use Rattle.dm_rounds.specs.Trail.{AreRead, IsShown, RunLeaves}
use Rattle.dm_rounds.proofs.Heard.{IsOwn, lost_replied, own_reply}
use Rattle.dm_rounds.proofs.Firsts.{none_planned}
use Rattle.dm_rounds.proofs.Anew.{fresh_ends, fresh_later, fresh_stops, told_fresh}
use Rattle.dm_rounds.proofs.Nexts.{numbers}
use Rattle.dm_rounds.proofs.Serves.{IsFirstPart, first_of_plan, first_open, first_part}
use Rattle.dm_rounds.proofs.Trails.{read_cut}

module _ {D O W : Type 0} (tells : Type 0) (clock : D → Clock) (says : O → Says) (far : D → ℕ) (counts : D → DiskKind → ℕ) (net wires : Type 0) (by : net → wires) (made_for : W → Purpose) (told : W → Told) (origin : W → O) (scene : Scene D O) (pass : Pass) (old desk : View D O) (closed : List Closed) (there : O) (first : Address) (handed : List ℕ) (slices : ℕ) (reply : Reply W)
    (led : List Closed) (count : ℕ) (passes : List SlicePass) (at : ℕ) (is : IsServing tells clock says far counts net wires made_for told origin scene pass old desk closed there first handed slices reply led count passes at) where
  -- the reply's own connection was made for its address, was sent the whole request, and begins with the head
  pub lost_own : net → IsOwn pass reply.address reply.head (closed_of (made_for reply.wire) (told reply.wire))
  lost_own n = own_reply made_for told pass first reply is.has.replied (is.has.heard (by n))

  module _ (lost : List Closed) where
    abbrev plan : HasPlanned tells clock says far counts scene pass old desk led lost count handed reply.head reply.address reply.key passes
    plan = is.planned lost

    abbrev pub tale : Tale
    tale = tale_of reply.head reply.address plan.told plan.named.is.name

    -- what was told, with these connections left over
    abbrev pub trace : Trace
    trace = told_with led lost count plan.told.wish tale

    pub trace_fresh : (net → IsLostAt pass reply.address lost) → IsFreshTrace tells clock net old pass first handed slices trace
    trace_fresh left =
        told_fresh tells clock says far counts scene pass net old first handed slices wires made_for told origin closed there reply led at count is.has lost left plan.told plan.named.is.name plan.is
        (record { listed = plan.named.listed; lists = plan.named.lists; is = plan.named.is.free }) is.count_is

    abbrev planned : PlanLeaves tells clock says far counts scene pass desk trace (first_asking pass tale) (Ok passes)
    planned = plan.named.is.planned

    abbrev total : Option ℕ
    total = (told_by scene trace.told).total

    abbrev least : ℕ
    least = scene.start.limits.min_slice

    parts_are : next_parts scene trace ≡ parts_by total count least no_bytes
    parts_are = ap (parts_by total count least) is.bare

    ends : AreAtEnds (next_parts scene trace) (opened_by total count least no_bytes)
    ends = subst (λ (c : List Slice). AreAtEnds (next_parts scene trace) (opened_by total count least c)) is.bare
        (subst (λ (p : List Part). AreAtEnds p (opened_by total count least (cover_by scene trace))) (empty_parts (next_parts scene trace)) planned.2.planned.placed.1)

  -- the first lane
  module _ (slice : SlicePass) (rest : List SlicePass) (plan_is : passes ≡ slice ∷ rest) (some : 0 < count) (ordered : slice.first < slice.end) where
    abbrev part : Part
    part = part_of slice

    parts : (more : List Part) × (next_parts scene (trace []) ≡ part ∷ more)
    parts = first_of_plan pass.id pass.attempt 1 (next_parts scene (trace [])) slice rest (sym plan_is ∙ (planned []).1)

    is_first : IsFirstPart (total []) part
    is_first =
        first_part (total []) count (least []) part parts.0 some (sym (parts_are []) ∙ parts.1)
        (subst (AreNumbered 0) parts.1 (numbers tells clock says far counts scene pass desk (trace []) (first_asking pass (tale [])) passes (planned [])))
        (subst (λ (p : List Part). AreAtEnds p (opened_by (total []) count (least []) no_bytes)) parts.1 (ends []))

    empty : slice_get (next_shares scene (trace [])) part.index ≡ Some (empty_share part)
    empty = ap (λ (n : ℕ). slice_get (next_shares scene (trace [])) n) is_first.number ∙ ap (λ (p : List Part). slice_get (map empty_share p) 0) parts.1

    pub is_open : (lanes : List (Lane W)) → lanes ≡ first_lane reply part ∷ [] → IsFirstOpen tells clock says far counts net wires made_for told origin scene pass desk closed there (trace []) (tale []) passes lanes at
    is_open lanes lanes_are = record {
      planned = planned [];
      opening = subst (λ (l : List (Lane W)). IsOpening net wires made_for told origin there (first_asking pass (tale [])) (closed_before scene (trace [])) closed (next_shares scene (trace [])) 1 l) (sym lanes_are)
          (first_open wires made_for told origin there pass first reply (tale []) part (next_shares scene (trace [])) is.has.replied is.has.heard is.has.origin_is refl (plan []).is.key_is (plan []).is.total_is refl is_first ordered empty
          net (closed_before scene (trace [])) closed (λ n. is.has.closed_is n ∙ ap (λ (l : List Closed). scene.closed ++ l) (sym (append-nil led))));
      keyed = record { key_is = refl; address_is = refl; reads = is.has.reads; purpose_is = refl; source_is = refl; known_is = refl };
      told_is = refl;
      none = refl;
      none_lost = refl;
      there_is = is.has.there_is;
      at_is = is.has.at_is;
    }

    -- what the rounds leave is what the attempt leaves
    pub run_leaves : (present : View D O) (after : List Closed) (before now : NetFault → ℕ) (result : Result (Unit {0}) Stop) → RunLeaves tells clock says far counts net scene pass present after before now (trace []) (first_asking pass (tale [])) result
        → FreshLeaves tells clock says far counts net scene pass old present after before now first handed slices result
    run_leaves present after before now (Ok done) leaves = fresh_ends tells clock says far counts scene pass net old first handed slices present after (trace []) (tale []) refl refl (trace_fresh [] (λ n. tt)) leaves
    run_leaves present after before now (Err stop) leaves = fresh_stops tells clock says far counts scene pass net old first handed slices present after (trace []) (tale []) refl refl (trace_fresh [] (λ n. tt)) before now stop leaves

    pub source_same : source_by (tale []).address (tale []).key (tale []).total ≡ source_by reply.address reply.key reply.head.total
    source_same = ap (λ (k : Key). source_by reply.address k (plan []).told.total) (plan []).is.key_is ∙ ap (source_by reply.address reply.key) (plan []).is.total_is

  -- nothing is to be brought, and the reply's wire went back
  module _ (none : passes ≡ []) (some : 0 < count) (c : Closed) (own : net → IsOwn pass reply.address reply.head c) (after : List Closed) (closes : net → after ≡ closed ++ c ∷ []) where
    abbrev pub bare_trace : Trace
    bare_trace = opened (trace (c ∷ [])) (next_round scene (trace (c ∷ [])) (first_asking pass (tale (c ∷ []))))

    no_parts : next_parts scene (trace (c ∷ [])) ≡ []
    no_parts = none_mapped (next_parts scene (trace (c ∷ []))) (sym none ∙ (planned (c ∷ [])).1)
      where
        none_mapped : (parts : List Part) → [] ≡ map (slice_pass pass.id pass.attempt 1) parts → parts ≡ []
        none_mapped [] same = refl
        none_mapped (part ∷ rest) same = absurd (let e = same in cc)

    no_shares : next_shares scene (trace (c ∷ [])) ≡ []
    no_shares = ap (map empty_share) no_parts

    bare_read : AreRead net (first_asking pass (tale (c ∷ []))) bare_trace.rounds
    bare_read = (refl, record { once = λ n short. absurd (let e = ap (λ (l : List Share). length l) no_shares in omega (arith, e, short)); all = tt }, tt)

    bare_fresh : IsFreshTrace tells clock net old pass first handed slices bare_trace
    bare_fresh = fresh_later tells clock says far counts scene pass net old first handed slices (trace (c ∷ [])) bare_trace
        (record { led_is = refl; lost_is = refl; wish_is = refl; told_is = refl; count_is = refl; newer = next_round scene (trace (c ∷ [])) (first_asking pass (tale (c ∷ []))) ∷ []; rounds_are = refl }) (inl refl) (trace_fresh (c ∷ []) (λ n. ((own n).purpose_is, inl (own n).sent)))

    -- its head was told
    bare_replied : net → IfSome bare_trace.wish (IsReplyOf pass handed bare_trace)
    bare_replied n = record {
      head = reply.head;
      address = reply.address;
      has = lost_replied pass reply.address reply.head c bare_trace (own n) refl;
      wish_is = (plan (c ∷ [])).is.wish_is;
      told = record { head_is = refl; address_is = refl };
    }

    bare_closed : net → after ≡ closed_before scene bare_trace
    bare_closed n = closes n ∙ ap (λ (l : List Closed). l ++ c ∷ []) (is.has.closed_is n) ∙ append_assoc scene.closed led (c ∷ [])

    pub bare_live : LiveDesk tells clock says far counts scene pass desk bare_trace
    bare_live = (planned (c ∷ [])).2

    stop_held : (present : View D O) (stop : Stop) → FinishLeaves tells clock says far counts scene pass desk present bare_trace (Err stop) → StopHolds true tells clock says far counts scene pass present bare_trace stop
    stop_held present (stops.Broke cause) left = absurd left
    stop_held present stops.NoMemory left = left
    stop_held present (stops.Fault fault) left = left
    stop_held present (stops.Recorded reason) left = left

    none_shown : (before now : NetFault → ℕ) (present : View D O) (stop : Stop) → FinishLeaves tells clock says far counts scene pass desk present bare_trace (Err stop) → IfBroke stop (IsShown net before now scene bare_trace)
    none_shown before now present (stops.Broke cause) left = absurd left
    none_shown before now present stops.NoMemory left = tt
    none_shown before now present (stops.Fault fault) left = tt
    none_shown before now present (stops.Recorded reason) left = tt

    pub bare_done : (present : View D O) (done : Bool) → FinishLeaves tells clock says far counts scene pass desk present bare_trace (Ok done) → FreshEnds tells clock says far counts net scene pass old present after first handed slices
    bare_done present true left = record {
      trace = bare_trace;
      fresh = bare_fresh;
      replied = bare_replied;
      rounds = bare_read;
      ended = record { some = λ none. absurd (let e = none in cc); closed_is = bare_closed; digest = left.digest; done = record { desk = desk; live = bare_live; full = left.full; stated = left.stated; sum = left.sum }; saves = left.saves; over = left.over };
    }
    bare_done present false left = absurd (none_planned (total (c ∷ [])) count (least (c ∷ [])) left.0.0 (cover_by scene bare_trace) some (sym (parts_are (c ∷ [])) ∙ no_parts) left.0.1)

    pub bare_stopped : (before now : NetFault → ℕ) (present : View D O) (stop : Stop) → FinishLeaves tells clock says far counts scene pass desk present bare_trace (Err stop)
        → FreshStops tells clock says far counts net scene pass old present after before now first handed slices stop
    bare_stopped before now present stop left = record {
      trace = bare_trace;
      fresh = bare_fresh;
      replied = bare_replied;
      rounds = read_cut net (first_asking pass (tale (c ∷ []))) bare_trace.rounds bare_read;
      stopped = record { closed_is = bare_closed; came = true; some = λ came none. absurd (let e = none in cc); holds = stop_held present stop left; shown = none_shown before now present stop left };
      all = λ came. bare_read;
    }
