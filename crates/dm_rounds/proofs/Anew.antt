-- An attempt that brings its content anew, as its trace tells it.
use Rattle.std.proofs.Common.{◌≡◌, ◌⊎◌, inl, inr, ◌≤◌, ◌^◌, ℕ, List, [], ◌∷◌, ◌++◌, length, drop, Option, Some, None, Result, Ok, Err, IsTrue, refl, sym, ◌∙◌, ap, subst, arith, append_assoc, false}
use Rattle.std.proofs.lemmas.Bool.{false≢true}
use Rattle.std.specs.Prelude.{IfSome}
use Rattle.std.specs.List.{Contains}
use Rattle.std.proofs.lemmas.List.{append-nil}
use Rattle.std.proofs.lemmas.Option.{IfSome_then}
use Rattle.dm_types.specs.Faults.{NoneFell}
use Rattle.dm_types.specs.declared.address.Address.{Address}
use Rattle.dm_types.specs.declared.kinds.DiskKind.{DiskKind}
use Rattle.dm_disk_model.specs.Disk.{History as Clock}
use Rattle.dm_policy.specs.declared.cause.Cause.{Cause}
use Rattle.dm_policy.specs.declared.cause.Cause.TheVariants as causes
use Rattle.dm_name.specs.Forms.{IsFirstFree}
use Rattle.dm_edge.specs.declared.fault.NetFault.{NetFault}
use Rattle.dm_edge.specs.declared.wanted.Wanted.TheVariants.{Whole}
use Rattle.dm_edge.specs.Causes.{CutsNet}
use Rattle.dm_edge.specs.Wire.{Purpose, Told, Closed}
use Rattle.dm_request.specs.Fault.{IsRead}
use Rattle.dm_request.specs.Request.{request_of}
use Rattle.dm_ask.specs.Following.{IsStopped, SentUntil}
use Rattle.dm_ask.specs.Redirects.{Led, most_redirects, purpose_of}
use Rattle.dm_kept.specs.Files.{Says}
use Rattle.dm_store.specs.declared.pass.Pass.{Pass}
use Rattle.dm_store.specs.View.{View}
use Rattle.dm_answers.specs.Describe.{WithNames}
use Rattle.dm_answers.specs.declared.answer.Told.{Told as Tells}
use Rattle.dm_attempt.specs.declared.stop.Stop.{Stop}
use Rattle.dm_attempt.specs.declared.stop.Stop.TheVariants as stops
use Rattle.dm_attempt.specs.Asking.{Asking, count_by}
use Rattle.dm_attempt.specs.Ending.{IfBroke, IsOfDesk, StopHolds}
use Rattle.dm_attempt.specs.Ends.{tale_of}
use Rattle.dm_attempt.specs.Live.{LiveDesk}
use Rattle.dm_attempt.specs.Scene.{Scene}
use Rattle.dm_attempt.specs.Trace.{Round, Tale, Trace, told_with, untold, wires_of, wished}
use Rattle.dm_rounds.specs.declared.first.Reply.{Reply}
use Rattle.dm_rounds.specs.Beginning.{IsBefore, IsNamedAs, NotPlanned}
use Rattle.dm_rounds.specs.First.{FreshEnds, FreshLeaves, FreshStops, IsHeard, IsFreshTrace, IsLedAndLost, IsLedTo, IsLostAt, IsReplied, IsReplyOf, IsTaleOf, IsTold, IsWished, StopsFirst, ToldRounds, first_asking}
use Rattle.dm_rounds.specs.Lanes.{NetCounts, is_net_cause}
use Rattle.dm_rounds.specs.Opened.{IsFrontSent}
use Rattle.dm_rounds.specs.Parts.{IsOfNet}
use Rattle.dm_rounds.specs.Reading.{closed_before}
use Rattle.dm_rounds.specs.Serving.{HasReply}
use Rattle.dm_rounds.specs.Telling.{IsToldOf}
use Rattle.dm_rounds.specs.Trail.{AreCut, AreRead, GoesFrom, IsServedIn, IsShown, NetShowsIt, RunEnds, RunStops}
use Rattle.dm_rounds.proofs.Causes.{net_apart}
use Rattle.dm_rounds.proofs.Heard.{IsOwn, first_replied, lost_replied}
use Rattle.dm_rounds.proofs.Losing.{asking_shown, contains_here}
use Rattle.dm_rounds.proofs.Lost.{drop_all}
use Rattle.dm_rounds.proofs.Onward.{shown_longer}

module _ {D O : Type 0} (tells : Type 0) (clock : D → Clock) (says : O → Says) (far : D → ℕ) (counts : D → DiskKind → ℕ) (scene : Scene D O) (pass : Pass) where
  -- before anything was told it doesn't matter which connections led on, and how many parts will be asked for
  pub untold_any : (desk : View D O) (led lost : List Closed) (count : ℕ) → LiveDesk tells clock says far counts scene pass desk (untold [] [] 0) → LiveDesk tells clock says far counts scene pass desk (untold led lost count)
  untold_any desk led lost count live = record {
    goes = live.goes;
    pass_is = live.pass_is;
    runs = record {
      item = live.runs.item;
      there = live.runs.there;
      runs = live.runs.runs;
      attempt_is = live.runs.attempt_is;
      life = live.runs.life;
      lives = live.runs.lives;
      is = record { item_is = live.runs.is.item_is; cover_is = live.runs.is.cover_is; round_is = live.runs.is.round_is; plan_is = live.runs.is.plan_is };
    };
    planned = record { saves = tt; rounds = tt; placed = tt };
    brought = live.brought;
  }

  untold_holds : (desk : View D O) (lost : List Closed) (stop : Stop) → IsOfNet stop → LiveDesk tells clock says far counts scene pass desk (untold [] [] 0) → StopHolds false tells clock says far counts scene pass desk (untold [] lost 0) stop
  untold_holds desk lost (stops.Broke cause) own live = untold_any desk [] lost 0 live
  untold_holds desk lost stops.NoMemory own live = untold_any desk [] lost 0 live
  untold_holds desk lost (stops.Fault fault) own live = absurd own
  untold_holds desk lost (stops.Recorded reason) own live = absurd own

  module _ (net : Type 0) (old : View D O) (first : Address) (handed : List ℕ) (slices : ℕ) where
    abbrev Fresh : Trace → Type 0
    Fresh trace = IsFreshTrace tells clock net old pass first handed slices trace

    told_later : (older trace : Trace) → GoesFrom older trace → (tale : Tale) → IsTold tells clock net old pass first handed slices older tale → IsTold tells clock net old pass first handed slices trace tale
    told_later older trace from tale is = record {
      wish = is.wish;
      wish_is = from.wish_is ∙ is.wish_is;
      by = is.by;
      named = is.named;
      key_is = is.key_is;
      total_is = is.total_is;
      small = is.small;
      modified_is = is.modified_is;
      count_is = from.count_is ∙ is.count_is;
      reads = is.reads;
      leads = λ n. subst (λ (l : List Closed). Led (purpose_of pass.id pass.attempt) first l tale.address) (sym from.led_is) (is.leads n);
    }

    -- what the trace tells of the first reply stays
    pub fresh_later : (older trace : Trace) → GoesFrom older trace → (wires_of trace.rounds ≡ []) ⊎ (trace.lost ≡ []) → Fresh older → Fresh trace
    fresh_later older trace from alone is = record {
      led = λ n. subst (λ (l : List Closed). IsLedAndLost pass first (l ++ trace.lost)) (sym from.led_is) (subst (λ (l : List Closed). IsLedAndLost pass first (older.led ++ l)) (sym from.lost_is) (is.led n));
      alone = alone;
      wished = subst (λ (w : Option (List ℕ)). IfSome w (IsWished handed)) (sym from.wish_is) is.wished;
      told = subst (λ (t : Option Tale). IfSome t (IsTold tells clock net old pass first handed slices trace)) (sym from.told_is) (IfSome_then older.told is.told (told_later older trace from));
    }

    module _ (present : View D O) (closed : List Closed) (older : Trace) (tale : Tale) (told_is : older.told ≡ Some tale) (none_lost : older.lost ≡ []) (fresh : Fresh older) where
      -- the head that was told is that of the first part's own connection
      run_replied : (trace : Trace) → GoesFrom older trace → IsServedIn net (first_asking pass tale) trace.rounds → net → IfSome trace.wish (IsReplyOf pass handed trace)
      run_replied trace from served n =
          let is : IsTold tells clock net old pass first handed slices older tale = subst (λ (t : Option Tale). IfSome t (IsTold tells clock net old pass first handed slices older)) told_is fresh.told in
          subst (λ (w : Option (List ℕ)). IfSome w (IsReplyOf pass handed trace)) (sym (from.wish_is ∙ is.wish_is)) (record {
            head = tale.head;
            address = tale.address;
            has = first_replied pass tale trace (served n refl);
            wish_is = is.by;
            told = subst (λ (t : Option Tale). IfSome t (IsTaleOf tale.head tale.address)) (sym (from.told_is ∙ told_is)) (record { head_is = refl; address_is = refl });
          })

      told_rounds : (P : Asking → List Round → Type 0) (trace : Trace) → GoesFrom older trace → P (first_asking pass tale) trace.rounds → ToldRounds P pass trace.told trace.rounds
      told_rounds P trace from are = subst (λ (t : Option Tale). ToldRounds P pass t trace.rounds) (sym (from.told_is ∙ told_is)) are

      pub fresh_ends : RunEnds tells clock says far counts net scene pass present closed older (first_asking pass tale) → FreshEnds tells clock says far counts net scene pass old present closed first handed slices
      fresh_ends ends = record { trace = ends.trace; fresh = fresh_later older ends.trace ends.from (inr (ends.from.lost_is ∙ none_lost)) fresh; replied = run_replied ends.trace ends.from ends.served; rounds = told_rounds (AreRead net) ends.trace ends.from ends.rounds; ended = ends.ended }

      pub fresh_stops : (before now : NetFault → ℕ) (stop : Stop) → RunStops tells clock says far counts net scene pass present closed before now older (first_asking pass tale) stop
          → FreshStops tells clock says far counts net scene pass old present closed before now first handed slices stop
      fresh_stops before now stop stopped =
          record { trace = stopped.trace; fresh = fresh_later older stopped.trace stopped.from (inr (stopped.from.lost_is ∙ none_lost)) fresh; replied = run_replied stopped.trace stopped.from stopped.served; rounds = told_rounds (AreCut net) stopped.trace stopped.from stopped.rounds; stopped = stopped.stopped; all = λ came. told_rounds (AreRead net) stopped.trace stopped.from (stopped.all came) }

    -- ---- no content was reached
    front_sent : (Cuts : Cause → Type 0) (request sent : List ℕ) (cause : Cause) → SentUntil Cuts request sent cause → IsFrontSent request sent
    front_sent Cuts request sent cause (inl all) = inl all
    front_sent Cuts request sent cause (inr cut) = inr cut.1

    module _ (start after : List Closed) (before now : NetFault → ℕ) where
      abbrev pub since : List Closed
      since = drop (length start) after

      since_is : (more : List Closed) → after ≡ start ++ more → since ≡ more
      since_is more is = ap (λ (l : List Closed). drop (length start) l) is ∙ drop_all start more

      module _ (cause : Cause) (stopped : IsStopped Whole (purpose_of pass.id pass.attempt) first before now start after cause) where
        all_since : after ≡ start ++ since
        all_since = elim stopped.ended [
          | inl un ↦ un.0 ∙ ap (λ (l : List Closed). start ++ l) (sym (since_is stopped.led un.0))
          | inr off ↦ let is : after ≡ start ++ (stopped.led ++ off.connection ∷ []) = off.last ∙ append_assoc start stopped.led (off.connection ∷ []) in
              is ∙ ap (λ (l : List Closed). start ++ l) (sym (since_is (stopped.led ++ off.connection ∷ []) is))
        ]

        led_since : IsLedAndLost pass first since
        led_since = elim stopped.ended [
          | inl un ↦ record { at = stopped.at; led = stopped.led; last = []; are = since_is stopped.led un.0 ∙ sym (append-nil stopped.led); leads = stopped.leads; few = stopped.few; last_is = tt }
          | inr off ↦ record {
            at = stopped.at;
            led = stopped.led;
            last = off.connection ∷ [];
            are = since_is (stopped.led ++ off.connection ∷ []) (off.last ∙ append_assoc start stopped.led (off.connection ∷ []));
            leads = stopped.leads;
            few = stopped.few;
            last_is = (off.purpose_is, front_sent (CutsNet before now) (request_of stopped.at None) off.connection.sent cause off.sent);
          }
        ]

        shown_since : IsTrue (is_net_cause cause) → NetShowsIt before now (untold [] since 0) cause
        shown_since own =
            let same : NoneFell before before = λ kind. omega arith in
            let still : NoneFell now now = λ kind. omega arith in
            asking_shown Whole pass first before before now now same still start after cause (net_apart cause own) stopped (untold [] since 0) (λ c for. inl refl) (λ c last.
            let is : since ≡ stopped.led ++ c ∷ [] = since_is (stopped.led ++ c ∷ []) (last ∙ append_assoc start stopped.led (c ∷ [])) in
            subst (λ (l : List Closed). Contains l c) (sym is) (contains_here stopped.led [] c)) (λ c last whole. since_is (stopped.led ++ c ∷ []) (last ∙ append_assoc start stopped.led (c ∷ [])))

      by_stop : (P : Type 0) → ((cause : Cause) → IsStopped Whole (purpose_of pass.id pass.attempt) first before now start after cause → P) → (stop : Stop) → StopsFirst pass first before now start after stop → P
      by_stop P by (stops.Broke cause) stopped = by cause stopped
      by_stop P by stops.NoMemory stopped = by causes.Memory stopped
      by_stop P by (stops.Fault fault) stopped = absurd stopped
      by_stop P by (stops.Recorded reason) stopped = absurd stopped

      none_shown : (stop : Stop) → NetCounts before now stop → (net → StopsFirst pass first before now start after stop) → IfBroke stop (IsShown net before now scene (untold [] since 0))
      none_shown (stops.Broke cause) counted stopped = inr (counted.0, counted.1, λ n. shown_since cause (stopped n) counted.0)
      none_shown stops.NoMemory counted stopped = tt
      none_shown (stops.Fault fault) counted stopped = tt
      none_shown (stops.Recorded reason) counted stopped = tt

      pub none_reached : (desk : View D O) (stop : Stop) → LiveDesk tells clock says far counts scene pass desk (untold [] [] 0) → (net → start ≡ scene.closed) → IsOfNet stop → NetCounts before now stop → (net → StopsFirst pass first before now start after stop)
          → FreshStops tells clock says far counts net scene pass old desk after before now first handed slices stop
      none_reached desk stop live still own counted stopped = record {
        trace = untold [] since 0;
        fresh = record { led = λ n. by_stop (IsLedAndLost pass first since) led_since stop (stopped n); alone = inl refl; wished = tt; told = tt };
        replied = λ n. tt;
        rounds = refl;
        stopped = record {
          closed_is = λ n. by_stop (after ≡ start ++ since) all_since stop (stopped n) ∙ ap (λ (l : List Closed). l ++ since) (still n);
          came = false;
          some = λ never. absurd (false≢true never);
          holds = untold_holds desk since stop own live;
          shown = none_shown stop counted stopped;
        };
        all = λ never. absurd (false≢true never);
      }

    -- ---- the first reply is there
    module _ {W : Type 0} (wires : Type 0) (made_for : W → Purpose) (told_on : W → Told) (origin : W → O) (closed : List Closed) (there : O) (reply : Reply W) (led : List Closed) (at count : ℕ) (has : HasReply net wires made_for told_on origin scene pass closed there first reply led at) where
      -- nothing was left over, or the reply's own connection
      abbrev IsLeft : List Closed → Type 0
      IsLeft lost = net → IsLostAt pass reply.address lost

      led_and : (lost : List Closed) → IsLeft lost → net → IsLedAndLost pass first (led ++ lost)
      led_and lost left n = record { at = reply.address; led = led; last = lost; are = refl; leads = has.leads n; few = has.few n; last_is = left n }

      wished_by : (told : Tells) → IsToldOf handed reply.head reply.address reply.key told → IsWished handed told.wish
      wished_by told is = record { head = reply.head; address = reply.address; is = is.wish_is }

      before_fresh : (lost : List Closed) → IsLeft lost → (trace : Trace) → IsBefore led lost count handed reply.head reply.address reply.key trace → Fresh trace
      before_fresh lost left trace (inl is) = subst Fresh (sym is) (record { led = led_and lost left; alone = inl refl; wished = tt; told = tt })
      before_fresh lost left trace (inr by) = subst Fresh (sym by.2) (record { led = led_and lost left; alone = inl refl; wished = wished_by by.0 by.1; told = tt })

      pub told_fresh : (lost : List Closed) → IsLeft lost → (told : Tells) (name : List ℕ) → IsToldOf handed reply.head reply.address reply.key told → WithNames tells clock old (λ taken. IsFirstFree told.wish taken name) → count ≡ count_by slices reply.head.strong reply.head.total reply.head.ranges
          → Fresh (told_with led lost count told.wish (tale_of reply.head reply.address told name))
      told_fresh lost left told name is named count_is = record {
        led = led_and lost left;
        alone = inl refl;
        wished = wished_by told is;
        told = record {
          wish = told.wish;
          wish_is = refl;
          by = is.wish_is;
          named = named;
          key_is = is.key_is ∙ has.replied.key_is;
          total_is = is.total_is;
          small = subst (λ (t : Option ℕ). IfSome t (λ n. n ≤ 2 ^ 40)) (sym is.total_is) has.replied.plain.limit.total;
          modified_is = is.modified_is;
          count_is = count_is;
          reads = has.reads;
          leads = has.leads;
        };
      }

      none_rounds : (P : Asking → List Round → Type 0) → ((first : Asking) → P first []) → (lost : List Closed) (trace : Trace)
          → IsBefore led lost count handed reply.head reply.address reply.key trace ⊎ ((told : Tells) × IsToldOf handed reply.head reply.address reply.key told × WithNames tells clock old (IsNamedAs led lost count reply.head told reply.address trace))
          → ToldRounds P pass trace.told trace.rounds
      none_rounds P empty lost trace (inl (inl is)) = subst (λ (t : Trace). ToldRounds P pass t.told t.rounds) (sym is) refl
      none_rounds P empty lost trace (inl (inr by)) = subst (λ (t : Trace). ToldRounds P pass t.told t.rounds) (sym by.2) refl
      none_rounds P empty lost trace (inr by) = subst (λ (t : Trace). ToldRounds P pass t.told t.rounds) (sym by.2.is.trace_is) (empty (first_asking pass (tale_of reply.head reply.address by.0 by.2.is.name)))

      any_fresh : (lost : List Closed) → IsLeft lost → count ≡ count_by slices reply.head.strong reply.head.total reply.head.ranges → (trace : Trace)
          → IsBefore led lost count handed reply.head reply.address reply.key trace ⊎ ((told : Tells) × IsToldOf handed reply.head reply.address reply.key told × WithNames tells clock old (IsNamedAs led lost count reply.head told reply.address trace))
          → Fresh trace
      any_fresh lost left count_is trace (inl before) = before_fresh lost left trace before
      any_fresh lost left count_is trace (inr by) =
          subst Fresh (sym by.2.is.trace_is) (told_fresh lost left by.0 by.2.is.name by.1 (record { listed = by.2.listed; lists = by.2.lists; is = by.2.is.free }) count_is)

      any_replied : (c : Closed) → IsOwn pass reply.address reply.head c → (trace : Trace)
          → IsBefore led (c ∷ []) count handed reply.head reply.address reply.key trace ⊎ ((told : Tells) × IsToldOf handed reply.head reply.address reply.key told × WithNames tells clock old (IsNamedAs led (c ∷ []) count reply.head told reply.address trace))
          → IfSome trace.wish (IsReplyOf pass handed trace)
      any_replied c own trace (inl (inl is)) = subst (λ (t : Trace). IfSome t.wish (IsReplyOf pass handed t)) (sym is) tt
      any_replied c own trace (inl (inr by)) = subst (λ (t : Trace). IfSome t.wish (IsReplyOf pass handed t)) (sym by.2)
          (record { head = reply.head; address = reply.address; has = lost_replied pass reply.address reply.head c (wished led (c ∷ []) count by.0.wish) own refl; wish_is = by.1.wish_is; told = tt })
      any_replied c own trace (inr by) = subst (λ (t : Trace). IfSome t.wish (IsReplyOf pass handed t)) (sym by.2.is.trace_is) (record {
        head = reply.head;
        address = reply.address;
        has = lost_replied pass reply.address reply.head c (told_with led (c ∷ []) count by.0.wish (tale_of reply.head reply.address by.0 by.2.is.name)) own refl;
        wish_is = by.1.wish_is;
        told = record { head_is = refl; address_is = refl };
      })

      any_closed : (lost : List Closed) (trace : Trace)
          → IsBefore led lost count handed reply.head reply.address reply.key trace ⊎ ((told : Tells) × IsToldOf handed reply.head reply.address reply.key told × WithNames tells clock old (IsNamedAs led lost count reply.head told reply.address trace))
          → closed_before scene trace ≡ scene.closed ++ (led ++ lost)
      any_closed lost trace (inl (inl is)) = ap (closed_before scene) is
      any_closed lost trace (inl (inr by)) = ap (closed_before scene) by.2
      any_closed lost trace (inr by) = ap (closed_before scene) by.2.is.trace_is

      -- no round was planned, and the reply's wire goes back
      pub none_begun : (desk : View D O) (after : List Closed) (before now : NetFault → ℕ) (c : Closed) (stop : Stop) → count ≡ count_by slices reply.head.strong reply.head.total reply.head.ranges → (net → after ≡ closed ++ c ∷ []) → (net → IsOwn pass reply.address reply.head c)
          → NotPlanned tells clock says far counts scene pass old desk led (c ∷ []) count handed reply.head reply.address reply.key stop
          → FreshStops tells clock says far counts net scene pass old desk after before now first handed slices stop
      none_begun desk after before now c stop count_is closes own none = record {
        trace = none.trace;
        fresh = any_fresh (c ∷ []) (λ n. ((own n).purpose_is, inl (own n).sent)) count_is none.trace none.before;
        replied = λ n. any_replied c (own n) none.trace none.before;
        rounds = none_rounds (AreCut net) (λ first. tt) (c ∷ []) none.trace none.before;
        stopped = record {
          closed_is = λ n. closes n ∙ ap (λ (l : List Closed). l ++ c ∷ []) (has.closed_is n) ∙ append_assoc scene.closed led (c ∷ []) ∙ sym (any_closed (c ∷ []) none.trace none.before);
          came = false;
          some = λ never. absurd (false≢true never);
          holds = none.holds;
          shown = no_shown stop none.apart;
        };
        all = λ never. absurd (false≢true never);
      }
        where
          no_shown : (s : Stop) → IsOfDesk s → IfBroke s (IsShown net before now scene none.trace)
          no_shown (stops.Broke cause) apart = absurd apart
          no_shown stops.NoMemory apart = tt
          no_shown (stops.Fault fault) apart = tt
          no_shown (stops.Recorded reason) apart = tt

-- what is left since some moment is left since an earlier one
pub fresh_longer : {D O : Type 0} (tells : Type 0) (clock : D → Clock) (says : O → Says) (far : D → ℕ) (counts : D → DiskKind → ℕ) (net : Type 0) (scene : Scene D O) (pass : Pass) (old present : View D O) (closed : List Closed) (before between now : NetFault → ℕ) (first : Address) (handed : List ℕ) (slices : ℕ) (result : Result (Unit {0}) Stop)
    → NoneFell before between → FreshLeaves tells clock says far counts net scene pass old present closed between now first handed slices result → FreshLeaves tells clock says far counts net scene pass old present closed before now first handed slices result
fresh_longer tells clock says far counts net scene pass old present closed before between now first handed slices (Ok done) earlier leaves = leaves
fresh_longer tells clock says far counts net scene pass old present closed before between now first handed slices (Err stop) earlier leaves = record {
  trace = leaves.trace;
  fresh = leaves.fresh;
  replied = leaves.replied;
  rounds = leaves.rounds;
  stopped = record { closed_is = leaves.stopped.closed_is; came = leaves.stopped.came; some = leaves.stopped.some; holds = leaves.stopped.holds; shown = shown_longer net before between now scene leaves.trace stop earlier leaves.stopped.shown };
  all = leaves.all;
}

-- the first reply came
pub has_reply : {D O W : Type 0} (net wires : Type 0) (made_for : W → Purpose) (told : W → Told) (origin : W → O) (scene : Scene D O) (pass : Pass) (start closed : List Closed) (was there : O) (first : Address) (reply : Reply W) (at : ℕ) → IsReplied pass first reply → IsRead first.text first → (wires → IsHeard made_for told pass reply)
    → origin reply.wire ≡ was → there ≡ was → was ≡ scene.start.origin → (net → start ≡ scene.closed) → (net → (led : List Closed) × IsLedTo pass first reply.address start closed led) → at ≡ scene.at
    → HasReply net wires made_for told origin scene pass closed there first reply (drop (length start) closed) at
has_reply net wires made_for told origin scene pass start closed was there first reply at replied read heard same stays there_is still reached at_is =
    let led_is : (n : net) → drop (length start) closed ≡ (reached n).0 = λ n. ap (λ (l : List Closed). drop (length start) l) (reached n).1.closed ∙ drop_all start (reached n).0 in
    record {
      replied = replied;
      reads = replied.reads read;
      heard = heard;
      origin_is = same ∙ sym stays;
      there_is = stays ∙ there_is;
      closed_is = λ n. (reached n).1.closed ∙ ap (λ (l : List Closed). l ++ (reached n).0) (still n) ∙ ap (λ (l : List Closed). scene.closed ++ l) (sym (led_is n));
      leads = λ n. subst (λ (l : List Closed). Led (purpose_of pass.id pass.attempt) first l reply.address) (sym (led_is n)) (reached n).1.leads;
      few = λ n. subst (λ (l : List Closed). length l ≤ most_redirects) (sym (led_is n)) (reached n).1.few;
      at_is = at_is;
    }
