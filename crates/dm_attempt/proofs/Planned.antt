-- What a plan, and what was told, make of an attempt that runs.
use Rattle.std.proofs.Common.{◌≡◌, ◌≢◌, ◌⊎◌, inl, inr, ℕ, ◌+◌, ◌<◌, ◌≤◌, suc, true, false, List, [], ◌∷◌, ◌++◌, length, map, Option, Some, None, Result, Ok, Err, refl, sym, ◌∙◌, ap, subst, arith, append_assoc}
use Rattle.std.specs.Prelude.{IfErr, IfSome, IsSome}
use Rattle.std.proofs.lemmas.List.{append-nil}
use Rattle.dm_types.specs.Faults.{Rose}
use Rattle.dm_types.specs.Name.{IsPart}
use Rattle.dm_types.specs.declared.address.Address.{Address}
use Rattle.dm_types.specs.declared.entry.Entry.{Entry}
use Rattle.dm_types.specs.declared.entry.Entry.TheVariants as entries
use Rattle.dm_types.specs.declared.item.Item.{Item}
use Rattle.dm_types.specs.declared.item.ItemId.{ItemId}
use Rattle.dm_types.specs.declared.item.Key.{Key}
use Rattle.dm_types.specs.declared.item.Limits.{Limits}
use Rattle.dm_types.specs.declared.item.Phase.{Phase}
use Rattle.dm_types.specs.declared.kinds.DiskKind.{DiskKind}
use Rattle.dm_types.specs.declared.reason.Reason.TheVariants as reasons
use Rattle.dm_types.specs.declared.slices.Slice.{Slice}
use Rattle.dm_disk_model.specs.Disk.{History as Clock, bytes_at, now}
use Rattle.dm_policy.specs.declared.cause.Cause.TheVariants as causes
use Rattle.dm_name.specs.Forms.{AreAllTaken}
use Rattle.dm_slice.specs.Cover.{IsCover}
use Rattle.dm_slice.specs.Plan.{opened_by, parts_by}
use Rattle.dm_slice.specs.Words.{HasByte}
use Rattle.dm_slice.specs.declared.plan.Part.{Part}
use Rattle.dm_edge.specs.Wire.{Closed}
use Rattle.dm_item.specs.Fields.{no_bytes}
use Rattle.dm_item.specs.Lawful.{History, IsOf}
use Rattle.dm_item.specs.Listing.{Listing, changed_at, item_in}
use Rattle.dm_item.specs.Row.{changed}
use Rattle.dm_reply.specs.declared.head.Head.{Head}
use Rattle.dm_kept.specs.Files.{Says}
use Rattle.dm_store.specs.Becomes.{Fell, Recorded}
use Rattle.dm_store.specs.Keeps.{IsDesk}
use Rattle.dm_store.specs.Lives.{life_in, part_place}
use Rattle.dm_store.specs.View.{View}
use Rattle.dm_store.specs.declared.life.Life.{Life}
use Rattle.dm_store.specs.declared.pass.Gone.TheVariants as gones
use Rattle.dm_store.specs.declared.pass.Pass.{Pass}
use Rattle.dm_answers.proofs.Hard.{hard_describe}
use Rattle.dm_answers.proofs.Live.{both, not_broken, not_declined, one_item, one_life, told_untold, weaker}
use Rattle.dm_answers.proofs.Steps.{life_went}
use Rattle.dm_answers.specs.Describe.{DescribeAnswers, DescribeTries, GivesName, GivesNone, IsSilent, Names, RecordedOne, WithNames, described_by}
use Rattle.dm_answers.specs.Faults.{IsOutside, desk_kind}
use Rattle.dm_answers.specs.Frame.{FellWith, FileBroke, IsOne, Went}
use Rattle.dm_answers.specs.Plan.{IsRound, MayNotPlan, PlanAnswers, last_round, planned_life, slice_pass}
use Rattle.dm_answers.specs.Running.{RunsWith, part_bytes}
use Rattle.dm_answers.specs.declared.answer.Named.TheVariants as named
use Rattle.dm_answers.specs.declared.answer.SlicePass.{SlicePass}
use Rattle.dm_answers.specs.declared.answer.Told.{Told}
use Rattle.dm_answers.specs.declared.fault.DeskFault.{DeskFault}
use Rattle.dm_answers.specs.declared.fault.DeskFault.TheVariants as faults
use Rattle.dm_attempt.specs.declared.stop.Stop.{Stop}
use Rattle.dm_attempt.specs.declared.stop.Stop.TheVariants as stops
use Rattle.dm_attempt.specs.Asking.{Asking}
use Rattle.dm_attempt.specs.Brought.{HasAt}
use Rattle.dm_attempt.specs.Ends.{DescribeLeaves, IsNamedBy, PlanLeaves, empty_share, next_parts, next_round, plan_stop, tale_of}
use Rattle.dm_attempt.specs.Goes.{CallGoes, DeskGoes}
use Rattle.dm_attempt.specs.Live.{IsTraced, LiveDesk}
use Rattle.dm_attempt.specs.Scene.{Scene, begun_by, cover_by, item_by, told_by}
use Rattle.dm_attempt.specs.Shows.{DeskFell, DeskMet, NoCause}
use Rattle.dm_attempt.specs.Stops.{FaultLeaves, Refused, stop_by}
use Rattle.dm_attempt.specs.Trace.{AreAtEnds, AreNumbered, Broken, Trace, close_entries, opened, so_far, told_with, untold, wished}
use Rattle.dm_attempt.proofs.Answers.{by_outside}
use Rattle.dm_attempt.proofs.Brought.{none_there, opened_back}
use Rattle.dm_attempt.proofs.Goes.{goes_then}
use Rattle.dm_attempt.proofs.Items.{all_saves, item_then, life_then}
use Rattle.dm_attempt.proofs.Rounds.{empty_filled, empty_parts, life_is, placed_by, small_total}
use Rattle.dm_attempt.proofs.Saves.{saves_round}
use Rattle.dm_attempt.proofs.Steps.{Call, Live, fell_at, fell_file, file_leaves, goes_on, journal_leaves, over_by, own_id}

module _ {D O : Type 0} (tells : Type 0) (clock : D → Clock) (says : O → Says) (far : D → ℕ) (counts : D → DiskKind → ℕ) (scene : Scene D O) (pass : Pass) (old new : View D O) (call : CallGoes tells clock says far counts IsPart old new) where
  abbrev Lives : View D O → Trace → Type 0
  Lives present trace = LiveDesk tells clock says far counts scene pass present trace

  abbrev Raises : DeskFault → Type 0
  Raises fault = IfSome (desk_kind fault) (λ kind. Rose (counts old.disk kind) (counts new.disk kind))

  module _ (trace : Trace) (live : Lives old trace) where
    abbrev total : Option ℕ
    total = (told_by scene trace.told).total

    abbrev least : ℕ
    least = scene.start.limits.min_slice

    total_is : (P : Item → Life → Type 0) (found : RunsWith old pass.id pass.attempt P) → found.item.total ≡ total
    total_is P found =
        ap (λ (i : Item). i.total) (sym (one_item old pass.id pass.attempt (IsTraced scene trace) P live.runs found)) ∙ ap (λ (i : Item). i.total) live.runs.is.item_is
        ∙ ap (λ (i : Item). i.total) (all_saves scene.item.id trace.saves (told_by scene trace.told))

    key_is : (P : Item → Life → Type 0) (found : RunsWith old pass.id pass.attempt P) → found.item.key ≡ (told_by scene trace.told).key
    key_is P found =
        ap (λ (i : Item). i.key) (sym (one_item old pass.id pass.attempt (IsTraced scene trace) P live.runs found)) ∙ ap (λ (i : Item). i.key) live.runs.is.item_is
        ∙ ap (λ (i : Item). i.key) (all_saves scene.item.id trace.saves (told_by scene trace.told))

    life_same : (P : Item → Life → Type 0) (found : RunsWith old pass.id pass.attempt P) → found.life ≡ live.runs.life
    life_same P found = sym (one_life old pass.id pass.attempt (IsTraced scene trace) P live.runs found)

    module _ (asking : Asking) (desk : IsDesk tells clock old) (n : ℕ) (count : trace.count ≡ n) (told : IsSome (told_by scene trace.told).key) where
      parts_is : (P : Item → Life → Type 0) (found : RunsWith old pass.id pass.attempt P) → parts_by found.item.total n old.limits.min_slice found.life.cover ≡ next_parts scene trace
      parts_is P found =
          ap (λ (t : Option ℕ). parts_by t n old.limits.min_slice found.life.cover) (total_is P found)
          ∙ ap (λ (m : ℕ). parts_by total m old.limits.min_slice found.life.cover) (sym count)
          ∙ ap (λ (l : Limits). parts_by total trace.count l.min_slice found.life.cover) live.goes.went.limits
          ∙ ap (λ (c : List Slice). parts_by total trace.count least c) (ap (λ (l : Life). l.cover) (life_same P found) ∙ live.runs.is.cover_is)

      opened_is : (P : Item → Life → Type 0) (found : RunsWith old pass.id pass.attempt P) → opened_by found.item.total n old.limits.min_slice found.life.cover ≡ opened_by total trace.count least (cover_by scene trace)
      opened_is P found =
          ap (λ (t : Option ℕ). opened_by t n old.limits.min_slice found.life.cover) (total_is P found)
          ∙ ap (λ (m : ℕ). opened_by total m old.limits.min_slice found.life.cover) (sym count)
          ∙ ap (λ (l : Limits). opened_by total trace.count l.min_slice found.life.cover) live.goes.went.limits
          ∙ ap (λ (c : List Slice). opened_by total trace.count least c) (ap (λ (l : Life). l.cover) (life_same P found) ∙ live.runs.is.cover_is)

      placed : AreNumbered 0 (next_parts scene trace) × AreAtEnds (next_parts scene trace) (opened_by total trace.count least (cover_by scene trace))
      placed =
          let is = life_is tells clock old pass (IsTraced scene trace) desk live.goes.went.broken_is live.runs in
          let own = total_is (IsTraced scene trace) live.runs in
          let found = placed_by live.runs.item.total n old.limits.min_slice live.runs.life.cover is.cover (small_total tells clock old pass (IsTraced scene trace) desk live.runs) is.one desk.limits_are.min_slice.0 in
          subst (λ (s : List Slice). AreNumbered 0 (next_parts scene trace) × AreAtEnds (next_parts scene trace) s) (opened_is (IsTraced scene trace) live.runs)
          (subst (λ (p : List Part). AreNumbered 0 p × AreAtEnds p (opened_by live.runs.item.total n old.limits.min_slice live.runs.life.cover)) (parts_is (IsTraced scene trace) live.runs) found)

      covers : IsCover (cover_by scene trace)
      covers = subst IsCover live.runs.is.cover_is (life_is tells clock old pass (IsTraced scene trace) desk live.goes.went.broken_is live.runs).cover

      pub round_opened : (passes : List SlicePass) → PlanAnswers old new pass n (Ok passes) → PlanLeaves tells clock says far counts scene pass new trace asking (Ok passes)
      round_opened passes answer =
          let P = IsRound old new pass n passes in
          let f = planned_life answer.item.total n old.limits.min_slice in
          let after = opened trace (next_round scene trace asking) in
          let round_is : answer.life.round ≡ length trace.rounds = ap (λ (l : Life). l.round) (life_same P answer) ∙ live.runs.is.round_is in (
            λ used. answer.is.may.more (round_is ∙ used),
            answer.is.passes_are ∙ ap (λ (r : ℕ). map (slice_pass pass.id pass.attempt (r + 1)) (parts_by answer.item.total n old.limits.min_slice answer.life.cover)) round_is
                ∙ ap (λ (p : List Part). map (slice_pass pass.id pass.attempt (length trace.rounds + 1)) p) (parts_is P answer),
            record {
              goes = subst (λ (h : History). DeskGoes tells clock says far counts IsPart scene.start new h [] false) (append-nil _)
                  (goes_then tells clock says far counts IsPart scene.start old new _ [] [] false live.goes (life_went old new pass.id.0 f live.goes.went.failed_is answer.is.planned) call);
              pass_is = live.pass_is;
              runs = subst (λ (view : View D O). RunsWith view pass.id pass.attempt (IsTraced scene after)) (sym answer.is.planned.same) (record {
                item = answer.item;
                there = answer.there;
                runs = answer.runs;
                attempt_is = answer.attempt_is;
                life = f answer.life;
                lives = life_then pass.id.0 f (λ (l : Life). refl) old.lives answer.life answer.lives;
                is = record {
                  item_is = sym (one_item old pass.id pass.attempt (IsTraced scene trace) P live.runs answer) ∙ live.runs.is.item_is;
                  cover_is = opened_is P answer ∙ sym (empty_filled (opened_by total trace.count least (cover_by scene trace)) (next_parts scene trace));
                  round_is = let r = round_is in omega (arith, r);
                  plan_is = parts_is P answer ∙ sym (empty_parts (next_parts scene trace));
                };
              });
              planned = record {
                saves = saves_round (begun_by scene).slices total trace.count least (next_round scene trace asking) trace.rounds trace.saves live.planned.saves;
                rounds = (record { cover_is = refl; parts_are = empty_parts (next_parts scene trace) }, live.planned.rounds);
                placed = subst (λ (p : List Part). AreNumbered 0 p × AreAtEnds p (opened_by total trace.count least (cover_by scene trace))) (sym (empty_parts (next_parts scene trace))) placed;
              };
              brought = λ told content start rounds place has.
                  let back = subst (λ (cover : List Slice). HasByte cover place) (empty_filled (opened_by total trace.count least (cover_by scene trace)) (next_parts scene trace)) has in
                  subst (λ (disk : D). HasAt content (part_bytes clock disk (told_by scene trace.told)) place) (sym answer.is.still)
                  (live.brought told content start rounds.1 place (opened_back total trace.count least (cover_by scene trace) covers place back));
            },
          )

      used_up : (phase : Phase) (item : Item) (life : Life) → IsTraced scene trace item life → MayNotPlan phase item life → length trace.rounds ≡ last_round
      used_up phase item life traced may = elim may.why [
        | inl none ↦ absurd (told_untold item (subst IsSome (sym (ap (λ (i : Item). i.key) traced.item_is ∙ ap (λ (i : Item). i.key) (all_saves scene.item.id trace.saves (told_by scene trace.told)))) told) none)
        | inr last ↦ sym traced.round_is ∙ last
      ]

      still : new ≡ old → Lives new trace
      still same = subst (λ (view : View D O). Lives view trace) (sym same) live

      pub round_refused : (fault : DeskFault) → PlanAnswers old new pass n (Err fault) → PlanLeaves tells clock says far counts scene pass new trace asking (Err (plan_stop fault))
      round_refused faults.Broken answer = absurd (not_broken old.broken live.goes.went.broken_is answer.broken)
      round_refused (faults.NoItem id) answer = absurd (not_declined old pass.id pass.attempt (IsTraced scene trace) (gones.NoItem id) live.runs answer.cause)
      round_refused (faults.Stale attempt round) answer = absurd (not_declined old pass.id pass.attempt (IsTraced scene trace) (gones.Stale attempt round) live.runs answer.cause)
      round_refused (faults.WrongState phase) answer =
          (refl, both old pass.id pass.attempt (IsTraced scene trace) (MayNotPlan phase) (length trace.rounds ≡ last_round) live.runs answer.cause (used_up phase), still answer.same)
      round_refused faults.NoMemory answer = still answer.same
      round_refused (faults.File kind) answer = absurd answer
      round_refused (faults.Journal kind) answer = absurd answer
      round_refused (faults.NotNext place) answer = absurd answer
      round_refused (faults.PastEnd end) answer = absurd answer
      round_refused (faults.CheckpointDue bytes) answer = absurd answer
      round_refused (faults.ItemsFull count) answer = absurd answer
      round_refused (faults.WordTaken id) answer = absurd answer
      round_refused (faults.Damaged place) answer = absurd answer

  -- before the first reply was told nothing is covered
  pub bare_start : (led lost : List Closed) (count : ℕ) → (begun_by scene).key ≡ None → Lives old (untold led lost count) → IsDesk tells clock old → (begun_by scene).slices ≡ no_bytes
  bare_start led lost count none live desk =
      let is = life_is tells clock old pass (IsTraced scene (untold led lost count)) desk live.goes.went.broken_is live.runs in
      sym live.runs.is.cover_is ∙ (is.untold (ap (λ (i : Item). i.key) live.runs.is.item_is ∙ none)).0

  module _ (led lost : List Closed) (count : ℕ) (head : Head) (told : Told) (address : Address) (none : (begun_by scene).key ≡ None) (at : told.last_address ≡ address.text) (bare : Lives old (untold led lost count)) where
    -- the trace with the wish
    abbrev mine : Trace
    mine = wished led lost count told.wish

    live : Lives old mine
    live = record {
      goes = bare.goes;
      pass_is = bare.pass_is;
      runs = record {
        item = bare.runs.item;
        there = bare.runs.there;
        runs = bare.runs.runs;
        attempt_is = bare.runs.attempt_is;
        life = bare.runs.life;
        lives = bare.runs.lives;
        is = record { item_is = bare.runs.is.item_is; cover_is = bare.runs.is.cover_is; round_is = bare.runs.is.round_is; plan_is = bare.runs.is.plan_is };
      };
      planned = record { saves = tt; rounds = tt; placed = tt };
      brought = bare.brought;
    }

    entry_is : (name : List ℕ) → described_by pass told name ≡ entries.Described scene.item.id told.key address.text told.total name told.modified
    entry_is name =
        ap (λ (i : ItemId). entries.Described i told.key told.last_address told.total name told.modified) (own_id tells clock says far counts scene pass old mine live)
        ∙ ap (λ (t : List ℕ). entries.Described scene.item.id told.key t told.total name told.modified) at

    named_live : IsDesk tells clock old → (name : List ℕ) → Recorded old new (described_by pass told name ∷ []) → Lives new (told_with led lost count told.wish (tale_of head address told name))
    named_live desk name recorded =
        let entry = entries.Described scene.item.id told.key address.text told.total name told.modified in
        let own : Recorded old new (entry ∷ []) = subst (λ (e : Entry). Recorded old new (e ∷ [])) (entry_is name) recorded in
        let same = own_id tells clock says far counts scene pass old mine live in
        record {
          goes = subst (λ (h : History). DeskGoes tells clock says far counts IsPart scene.start new h [] false) (simp (append-nil, append_assoc))
              (goes_on tells clock says far counts scene pass old new call mine (entry ∷ []) live own);
          pass_is = live.pass_is;
          runs = record {
            item = changed entry live.runs.item;
            there = ap (λ (v : Listing). item_in pass.id.0 v.items) own.items_are
                ∙ subst (λ (i : ItemId). item_in pass.id.0 (changed_at entry i.0 old.items.items) ≡ Some (changed entry live.runs.item)) same (item_then entry pass.id.0 old.items.items live.runs.item live.runs.there);
            runs = live.runs.runs;
            attempt_is = live.runs.attempt_is;
            life = live.runs.life;
            lives = ap (λ (l : List Life). life_in pass.id.0 l) own.lives_are ∙ live.runs.lives;
            is = record {
              item_is = ap (changed entry) live.runs.is.item_is;
              cover_is = live.runs.is.cover_is;
              round_is = live.runs.is.round_is;
              plan_is = live.runs.is.plan_is;
            };
          };
          planned = record { saves = tt; rounds = tt; placed = tt };
          brought = λ told_it content start rounds place has. absurd (none_there (begun_by scene).slices (bare_start led lost count none bare desk) place has);
        }

    pub was_named : IsDesk tells clock old → RecordedOne old new (Names tells clock old pass told named.Named) → WithNames tells clock old (IsNamedBy tells clock says far counts scene pass new led lost count head told address)
    was_named desk one = record {
      listed = one.is.listed;
      lists = one.is.lists;
      is = record { name = one.is.is.name; free = one.is.is.free; live = named_live desk one.is.is.name (subst (λ (e : Entry). Recorded old new (e ∷ [])) one.is.is.is one.recorded) };
    }

    none_met : WithNames tells clock old (AreAllTaken told.wish) → DeskMet tells clock says far counts scene pass mine causes.NamesTaken
    none_met all = record { desk = old; live = live; is = (told.wish, refl, refl, all) }

    pub none_named : RecordedOne old new (Names tells clock old pass told named.AllTaken) → DescribeLeaves tells clock says far counts scene pass old new led lost count head told address (Err (stops.Recorded reasons.FileFailed))
    none_named one = (
      refl,
      record {
        cause = causes.NamesTaken;
        reason_is = refl;
        met = inl (none_met (record { listed = one.is.listed; lists = one.is.lists; is = one.is.is.all }));
        asked = tt;
        saves = [];
        over = over_by tells clock says far counts scene pass old new call mine causes.NamesTaken live (subst (λ (e : Entry). Recorded old new (e ∷ [])) one.is.is.is one.recorded);
      },
    )

    fell_naming : FellWith old new [] (DescribeTries tells clock counts old new pass told) → DeskFell false tells clock says far counts scene new mine NoCause
    fell_naming fell = by fell.is
      where
        by : DescribeTries tells clock counts old new pass told fell.behind → DeskFell false tells clock says far counts scene new mine NoCause
        by (inl gives) =
            let name = gives.is.is.name in
            let entry = entries.Described scene.item.id told.key address.text told.total name told.modified in
            let tries : fell.behind ≡ entry ∷ [] = gives.one ∙ ap (λ (e : Entry). e ∷ []) (gives.is.is.is ∙ entry_is name) in
            fell_at tells clock says far counts scene pass old new call false NoCause mine (told_with led lost count told.wish (tale_of head address told name)) (Broken causes.Memory) (entry ∷ []) (close_entries scene.item.id scene.at (Broken causes.Memory)) refl refl refl (inl refl) live
            (record { saves = tt; rounds = tt; placed = tt }) (subst (Fell old new) tries fell.fell) refl (inl refl)
        by (inr (inl none)) =
            let same = own_id tells clock says far counts scene pass old mine live in
            let entry = entries.Broke scene.item.id reasons.FileFailed in
            let tries : fell.behind ≡ entry ∷ [] = none.one ∙ ap (λ (e : Entry). e ∷ []) (none.is.is.is ∙ ap (λ (i : ItemId). entries.Broke i reasons.FileFailed) same) in
            fell_at tells clock says far counts scene pass old new call false NoCause mine mine (Broken causes.NamesTaken) (entry ∷ []) [] refl refl refl (inr refl) live live.planned (subst (Fell old new) tries fell.fell) refl
            (inr (inr (inr (inl (subst (λ (p : Pass). DeskMet tells clock says far counts scene p mine causes.NamesTaken) live.pass_is (none_met (record { listed = none.is.listed; lists = none.is.lists; is = none.is.is.all })))))))
        by (inr (inr file)) = fell_file tells clock says far counts scene pass old new call mine live (record { behind = fell.behind; is = file; fell = fell.fell })

    still_went : new ≡ record old { disk = new.disk } → Went old new [] [] false
    still_went same = subst (λ (view : View D O). Went old view [] [] false) (sym same) (record {
      whole = live.goes.went.broken_is;
      items_are = refl;
      list_is = sym (append-nil old.list);
      lawful = λ history is. subst (λ (h : History). IsOf h old.items) (sym (append-nil history)) is;
      gate_is = omega arith;
      failed_is = live.goes.went.failed_is;
      may = tt;
      broken_is = live.goes.went.broken_is;
      origin = refl;
      limits = refl;
    })

    still_live : new ≡ record old { disk = new.disk } → clock new.disk ≡ clock old.disk → Lives new mine
    still_live same still = record {
      goes = subst (λ (h : History). DeskGoes tells clock says far counts IsPart scene.start new h [] false) (append-nil _) (goes_then tells clock says far counts IsPart scene.start old new _ [] [] false live.goes (still_went same) call);
      pass_is = live.pass_is;
      runs = subst (λ (view : View D O). RunsWith view pass.id pass.attempt (IsTraced scene mine)) (sym same)
          (record { item = live.runs.item; there = live.runs.there; runs = live.runs.runs; attempt_is = live.runs.attempt_is; life = live.runs.life; lives = live.runs.lives; is = live.runs.is });
      planned = live.planned;
      brought = λ told_it content start rounds place has.
          let item = begun_by scene in
          subst (λ (t : Clock). HasAt content (bytes_at (now t) (part_place item.id.0 item.epoch.0)) place) (sym still) (live.brought told_it content start rounds place has);
    }

    pub describe_stops : (fault : DeskFault) → DescribeAnswers tells clock counts old new pass told (Err fault) → Raises fault → Refused tells clock says far counts scene pass new mine (stop_by fault)
    describe_stops fault answer rose =
        by_outside (λ (f : DeskFault). DescribeAnswers tells clock counts old new pass told (Err f) → Raises f → Refused tells clock says far counts scene pass new mine (stop_by f))
        (λ kind found up. file_leaves tells clock says far counts scene pass old new call mine kind live found.1 up)
        (λ kind found up. journal_leaves tells clock says far counts scene pass old new call mine kind live (fell_naming found.1) up)
        (λ found up. still_live found.same found.still)
        fault (hard_describe tells clock counts old new pass told fault live.goes.went.broken_is
        (weaker old pass.id pass.attempt (IsTraced scene mine) IsSilent (λ item life traced. ap (λ (i : Item). i.key) traced.item_is ∙ none) live.runs) answer) answer rose

    left_by : (stop : Stop) → Refused tells clock says far counts scene pass new mine stop → DescribeLeaves tells clock says far counts scene pass old new led lost count head told address (Err stop)
    left_by (stops.Broke cause) refused = absurd refused
    left_by stops.NoMemory refused = refused
    left_by (stops.Fault fault) refused = refused
    left_by (stops.Recorded reason) refused = absurd refused

    pub describe_left : (fault : DeskFault) → DescribeAnswers tells clock counts old new pass told (Err fault) → Raises fault → DescribeLeaves tells clock says far counts scene pass old new led lost count head told address (Err (stop_by fault))
    describe_left fault answer rose = left_by (stop_by fault) (describe_stops fault answer rose)
