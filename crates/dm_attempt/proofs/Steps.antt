-- What each call of a desk makes of an attempt that runs.
use Rattle.std.proofs.Common.{◌≡◌, ◌≢◌, ◌⊎◌, inl, inr, ℕ, ◌+◌, ◌<◌, ◌≤◌, ◌==◌, cond, suc, Bool, true, false, List, [], ◌∷◌, ◌++◌, length, map, Option, Some, None, Result, Ok, Err, IsTrue, refl, sym, ◌∙◌, ap, subst, arith, append_assoc}
use Rattle.std.specs.Prelude.{IfErr, IfSome, IsSome, OnOk, slice_get}
use Rattle.std.specs.Option.{option_map}
use Rattle.std.specs.List.{AllByRecursion}
use Rattle.std.proofs.lemmas.Bool.Decides.{eqb_tells}
use Rattle.std.proofs.lemmas.List.{append-nil, map-append}
use Rattle.std.proofs.lemmas.Option.{none-some, same_Some, slice_get-map, slice_get_within}
use Rattle.dm_types.specs.Faults.{HasCause, NoneFell, Rose}
use Rattle.dm_types.specs.Name.{IsPart, part_name}
use Rattle.dm_types.specs.declared.entry.Entry.{Entry}
use Rattle.dm_types.specs.declared.entry.Entry.TheVariants as entries
use Rattle.dm_types.specs.declared.item.Item.{Item}
use Rattle.dm_types.specs.declared.item.ItemId.{ItemId}
use Rattle.dm_types.specs.declared.item.Key.{Key}
use Rattle.dm_types.specs.declared.kinds.DiskKind.{DiskKind}
use Rattle.dm_types.specs.declared.slices.Slice.{Slice}
use Rattle.dm_disk_model.specs.Disk.{History as Clock}
use Rattle.dm_policy.specs.Cause.{reason_of_cause, reason_of_file}
use Rattle.dm_policy.specs.declared.cause.Cause.{Cause}
use Rattle.dm_policy.specs.declared.cause.Cause.TheVariants as causes
use Rattle.dm_slice.specs.Cover.{grown, next_of, normal_of}
use Rattle.dm_slice.specs.Plan.{opened_by}
use Rattle.dm_slice.specs.declared.plan.Part.{Part}
use Rattle.dm_item.specs.Lawful.{History}
use Rattle.dm_item.specs.Listing.{Listing, changed_at, item_in}
use Rattle.dm_kept.specs.Files.{Says}
use Rattle.dm_store.specs.Becomes.{Becomes, Fell, Recorded}
use Rattle.dm_store.specs.Keeps.{IsDesk}
use Rattle.dm_store.specs.Lives.{changed_life, life_in}
use Rattle.dm_store.specs.View.{View}
use Rattle.dm_store.specs.declared.life.Life.{Life}
use Rattle.dm_store.specs.declared.pass.Pass.{Pass}
use Rattle.dm_answers.proofs.Hard.{hard_checkpoint}
use Rattle.dm_answers.proofs.Live.{both, one_item, one_life, weaker}
use Rattle.dm_answers.proofs.Steps.{becomes_went, life_went}
use Rattle.dm_answers.specs.Begin.{beginning}
use Rattle.dm_answers.specs.Broke.{IsUnderWay}
use Rattle.dm_answers.specs.Checkpoint.{CheckpointAnswers, FallsSaving, IsSaved}
use Rattle.dm_answers.specs.Faults.{IsOutside, desk_kind}
use Rattle.dm_answers.specs.Frame.{FellWith, FileBroke, KeepsReads, LifeOnly}
use Rattle.dm_answers.specs.Land.{Fits, IsDue, LandAnswers, SaysPiece, grown_life}
use Rattle.dm_answers.specs.Plan.{slice_pass}
use Rattle.dm_answers.specs.Reads.{HasPiece, PartReads}
use Rattle.dm_answers.specs.Running.{RunsWith, part_bytes, saving}
use Rattle.dm_answers.specs.declared.answer.SlicePass.{SlicePass}
use Rattle.dm_answers.specs.declared.fault.DeskFault.{DeskFault}
use Rattle.dm_answers.specs.declared.fault.DeskFault.TheVariants as faults
use Rattle.dm_attempt.specs.declared.stop.Stop.{Stop}
use Rattle.dm_attempt.specs.declared.stop.Stop.TheVariants as stops
use Rattle.dm_attempt.specs.Brought.{HasAt, HasCover}
use Rattle.dm_attempt.specs.Goes.{CallGoes, DeskGoes}
use Rattle.dm_attempt.specs.Live.{ArePlaced, DeskOver, IsPlanned, IsSpared, IsTraced, LiveDesk, NothingUnsaved, all_entries}
use Rattle.dm_attempt.specs.Scene.{Scene, begun_by, changed_all, cover_by, item_by, told_by}
use Rattle.dm_attempt.specs.Shares.{IsNext, Share, added}
use Rattle.dm_attempt.specs.Shows.{DeskFell, NoCause, ShowsClose}
use Rattle.dm_attempt.specs.Stops.{FaultLeaves, LandLeaves, Refused, SaveLeaves, due_by, stop_by}
use Rattle.dm_attempt.specs.Trace.{AreAtEnds, AreNumbered, Broken, Close, Round, Trace, close_entries, entries_behind, opened, so_far, told_entries, with_piece, with_saves}
use Rattle.dm_attempt.proofs.Answers.{LandFault, by_outside, due, land_fault, outside}
use Rattle.dm_attempt.proofs.Brought.{has_landed, part_there, piece_of, shares_front}
use Rattle.dm_attempt.proofs.Filling.{filled_grown, filled_next}
use Rattle.dm_attempt.proofs.Goes.{call_more, goes_more, goes_then}
use Rattle.dm_attempt.proofs.Items.{all_id, all_saves, all_then, bare, found_id, item_then, life_then}
use Rattle.dm_attempt.proofs.Rounds.{life_is}
use Rattle.dm_attempt.proofs.Saves.{planned_piece, save_now, saves_piece, saves_push}
use Rattle.dm_attempt.proofs.Sharing.{added_keeps}

abbrev pub stopped : {T : Type 0} → Result T DeskFault → Result T Stop
stopped (Ok value) = Ok value
stopped (Err fault) = Err (stop_by fault)

pub rose_later : (a b c : ℕ) → a ≤ b → Rose b c → Rose a c
rose_later a b c less rose = omega (arith, less, rose)

pub so_saved : (id : ItemId) (trace : Trace) (slices : List Slice) → so_far id (with_saves trace (trace.saves ++ slices ∷ [])) ≡ so_far id trace ++ entries.Progress id slices ∷ []
so_saved id trace slices =
    ap (λ (h : History). told_entries id trace.told ++ h) (map-append (entries.Progress id) trace.saves (slices ∷ []))
    ∙ sym (append_assoc (told_entries id trace.told) (map (entries.Progress id) trace.saves) (entries.Progress id slices ∷ []))

pub so_closed : (id : ItemId) (at : ℕ) (trace : Trace) (close : Close) → so_far id trace ++ close_entries id at close ≡ entries_behind id at trace close
so_closed id at trace close = append_assoc (told_entries id trace.told) (map (entries.Progress id) trace.saves) (close_entries id at close)

saved_item : {D O : Type 0} (scene : Scene D O) (trace : Trace) (slices : List Slice)
    → record (item_by scene trace) { slices = slices } ≡ item_by scene (with_saves trace (trace.saves ++ slices ∷ []))
saved_item scene trace slices =
    let id = scene.item.id in
    let base = told_by scene trace.told in
    sym (ap (λ (h : History). changed_all h base) (map-append (entries.Progress id) trace.saves (slices ∷ [])) ∙ all_then (map (entries.Progress id) trace.saves) (entries.Progress id slices ∷ []) base)

module _ {D O : Type 0} (tells : Type 0) (clock : D → Clock) (says : O → Says) (far : D → ℕ) (counts : D → DiskKind → ℕ) (scene : Scene D O) (pass : Pass) where
  abbrev pub Live : View D O → Trace → Type 0
  Live present trace = LiveDesk tells clock says far counts scene pass present trace

  abbrev pub Call : View D O → View D O → Type 0
  Call old new = CallGoes tells clock says far counts IsPart old new

  abbrev head : History
  head = beginning scene.item scene.by scene.at

  abbrev id : ItemId
  id = scene.item.id

  pub own_id : (present : View D O) (trace : Trace) → Live present trace → pass.id ≡ id
  own_id present trace live = ap (λ (p : Pass). p.id) live.pass_is

  module _ (old : View D O) where
    -- what is saved
    abbrev pub kept_now : (trace : Trace) → Live old trace → List Slice
    kept_now trace live = normal_of live.runs.item.total live.runs.life.cover

    abbrev pub longer : (trace : Trace) → Live old trace → Trace
    longer trace live = with_saves trace (trace.saves ++ kept_now trace live ∷ [])

    item_id : (trace : Trace) (live : Live old trace) → live.runs.item.id ≡ id
    item_id trace live =
        ap (λ (i : Item). i.id) live.runs.is.item_is ∙ all_id (map (entries.Progress id) trace.saves) (told_by scene trace.told) ∙ all_id (told_entries id trace.told) (begun_by scene) ∙ all_id head scene.item

    kept_is : (trace : Trace) (live : Live old trace) → kept_now trace live ≡ normal_of (told_by scene trace.told).total (cover_by scene trace)
    kept_is trace live =
        ap (λ (c : List Slice). normal_of live.runs.item.total c) live.runs.is.cover_is
        ∙ ap (λ (i : Item). normal_of i.total (cover_by scene trace)) live.runs.is.item_is
        ∙ ap (λ (i : Item). normal_of i.total (cover_by scene trace)) (all_saves id trace.saves (told_by scene trace.told))

    pub kept_planned : (trace : Trace) (live : Live old trace) → IsPlanned scene (longer trace live)
    kept_planned trace live = record {
      saves = saves_push (begun_by scene).slices (told_by scene trace.told).total trace.count scene.start.limits.min_slice trace.rounds trace.saves (kept_now trace live) live.planned.saves
          (save_now (begun_by scene).slices (told_by scene trace.told).total trace.count scene.start.limits.min_slice trace.rounds (kept_now trace live) (kept_is trace live));
      rounds = live.planned.rounds;
      placed = live.planned.placed;
    }

    -- the entry of a save, of the item and the life that a call found
    pub saved_entry : (trace : Trace) (live : Live old trace) (P : Item → Life → Type 0) (found : RunsWith old pass.id pass.attempt P) → (found.life.unsaved == 0) ≡ false
        → saving found.item found.life ≡ entries.Progress id (kept_now trace live) ∷ []
    saved_entry trace live P found some =
        let item_same = one_item old pass.id pass.attempt (IsTraced scene trace) P live.runs found in
        let life_same = one_life old pass.id pass.attempt (IsTraced scene trace) P live.runs found in
        ap (λ (b : Bool). cond b [] (entries.Progress found.item.id (normal_of found.item.total found.life.cover) ∷ [])) some
        ∙ ap (λ (i : Item). entries.Progress i.id (normal_of i.total found.life.cover) ∷ []) (sym item_same)
        ∙ ap (λ (l : Life). entries.Progress live.runs.item.id (normal_of live.runs.item.total l.cover) ∷ []) (sym life_same)
        ∙ ap (λ (i : ItemId). entries.Progress i (kept_now trace live) ∷ []) (item_id trace live)

  module _ (old new : View D O) (call : Call old new) where
    -- one more entry or some were recorded
    pub goes_on : (trace : Trace) (more : History) → Live old trace → Recorded old new more → DeskGoes tells clock says far counts IsPart scene.start new ((head ++ so_far id trace) ++ more) [] false
    goes_on trace more live recorded =
        goes_then tells clock says far counts IsPart scene.start old new (head ++ so_far id trace) more [] false live.goes (becomes_went old new more [] false recorded) call

    -- the desk recorded why the attempt ends
    pub over_by : (trace : Trace) (cause : Cause) → Live old trace → Recorded old new (entries.Broke pass.id (reason_of_cause cause) ∷ []) → DeskOver tells clock says far counts scene new trace (Broken cause)
    over_by trace cause live recorded =
        let same = own_id old trace live in
        let own : Recorded old new (entries.Broke id (reason_of_cause cause) ∷ []) = subst (λ (i : ItemId). Recorded old new (entries.Broke i (reason_of_cause cause) ∷ [])) same recorded in
        let is : (head ++ so_far id trace) ++ entries.Broke id (reason_of_cause cause) ∷ [] ≡ head ++ entries_behind id scene.at trace (Broken cause) =
        append_assoc head (so_far id trace) (entries.Broke id (reason_of_cause cause) ∷ []) ∙ ap (λ (h : History). head ++ h) (so_closed id scene.at trace (Broken cause)) in
        record {
          goes = goes_more tells clock says far counts IsPart (IsSpared scene (all_entries scene trace (Broken cause))) (λ name part. inl part) scene.start new (head ++ entries_behind id scene.at trace (Broken cause)) [] false
              (subst (λ (h : History). DeskGoes tells clock says far counts IsPart scene.start new h [] false) is (goes_on trace (entries.Broke id (reason_of_cause cause) ∷ []) live own));
          planned = live.planned;
        }

    -- the journal failed at one of these entries, which an attempt that goes on and closes so has
    pub fell_at : (came : Bool) (P : Cause → Type 0) (trace after : Trace) (close : Close) (tries more : History) → after.led ≡ trace.led → after.lost ≡ trace.lost → after.rounds ≡ trace.rounds → (trace.told ≡ None) ⊎ (after.told ≡ trace.told) → Live old trace → IsPlanned scene after → Fell old new tries
        → (so_far id trace ++ tries) ++ more ≡ entries_behind id scene.at after close → ShowsClose came tells clock says far counts scene new trace P close → DeskFell came tells clock says far counts scene new trace P
    fell_at came P trace after close tries more led lost rounds told live planned fell is shows =
        let before = so_far id trace in
        let parts : head ++ ((before ++ (fell.recorded ++ fell.entry ∷ fell.rest)) ++ more) ≡ (((head ++ before) ++ fell.recorded) ++ fell.entry ∷ []) ++ (fell.rest ++ more) =
        simp append_assoc in
        record {
          after = after;
          led_is = led;
          lost_is = lost;
          rounds_are = rounds;
          told_is = told;
          close = close;
          seen = trace.saves;
          shows = shows;
          recorded = (head ++ before) ++ fell.recorded;
          failed = fell.entry ∷ [];
          rest = fell.rest ++ more;
          unpublished = λ none. absurd (let e = none in cc);
          is = ap (λ (h : History). head ++ h) (sym is) ∙ ap (λ (h : History). head ++ ((before ++ h) ++ more)) fell.tries_are ∙ parts;
          goes = goes_more tells clock says far counts IsPart (IsSpared scene ((head ++ before) ++ fell.recorded)) (λ name part. inl part) scene.start new ((head ++ before) ++ fell.recorded) (fell.entry ∷ []) true
              (goes_then tells clock says far counts IsPart scene.start old new (head ++ before) fell.recorded (fell.entry ∷ []) true live.goes (becomes_went old new fell.recorded (fell.entry ∷ []) true fell.becomes) call);
          planned = planned;
        }

    -- a call on the files failed
    pub file_shows : (trace : Trace) → Live old trace → (kind : DiskKind) → Rose (counts old.disk kind) (counts new.disk kind) → ShowsClose false tells clock says far counts scene new trace NoCause (Broken (causes.File kind))
    file_shows trace live kind rose = inr (inr (inl (record { kind = kind; is = refl; rose = rose_later (counts scene.start.disk kind) (counts old.disk kind) (counts new.disk kind) (live.goes.later kind) rose })))

    -- the same, of the interruption by a call on the files that failed
    pub fell_file : (trace : Trace) → Live old trace → FellWith old new [] (FileBroke (counts old.disk) (counts new.disk) pass.id) → DeskFell false tells clock says far counts scene new trace NoCause
    fell_file trace live fell =
        let same = own_id old trace live in
        let cause = causes.File fell.is.is.kind in
        let entry : fell.is.entry ≡ entries.Broke id (reason_of_file fell.is.is.kind) = fell.is.is.is ∙ ap (λ (i : ItemId). entries.Broke i (reason_of_file fell.is.is.kind)) same in
        let tries : fell.behind ≡ entries.Broke id (reason_of_file fell.is.is.kind) ∷ [] = fell.is.one ∙ ap (λ (e : Entry). e ∷ []) entry in
        fell_at false NoCause trace trace (Broken cause) (entries.Broke id (reason_of_file fell.is.is.kind) ∷ []) [] refl refl refl (inr refl) live live.planned (subst (Fell old new) tries fell.fell)
        (append-nil (so_far id trace ++ entries.Broke id (reason_of_file fell.is.is.kind) ∷ []) ∙ so_closed id scene.at trace (Broken cause)) (file_shows trace live fell.is.is.kind fell.is.is.rose)

    pub file_leaves : (trace : Trace) (kind : DiskKind) → Live old trace → Recorded old new (entries.Broke pass.id (reason_of_file kind) ∷ []) → Rose (counts old.disk kind) (counts new.disk kind)
        → FaultLeaves false tells clock says far counts scene new trace (faults.File kind)
    file_leaves trace kind live recorded rose = (rose_later (counts scene.start.disk kind) (counts old.disk kind) (counts new.disk kind) (live.goes.later kind) rose, (trace.saves, over_by trace (causes.File kind) live recorded))

    pub journal_leaves : (trace : Trace) (kind : DiskKind) → Live old trace → DeskFell false tells clock says far counts scene new trace NoCause → Rose (counts old.disk kind) (counts new.disk kind)
        → FaultLeaves false tells clock says far counts scene new trace (faults.Journal kind)
    journal_leaves trace kind live fell rose = (rose_later (counts scene.start.disk kind) (counts old.disk kind) (counts new.disk kind) (live.goes.later kind) rose, fell)

    saved_runs : (trace : Trace) (live : Live old trace) → Recorded old new (entries.Progress id (kept_now old trace live) ∷ []) → RunsWith new pass.id pass.attempt (IsTraced scene (longer old trace live))
    saved_runs trace live recorded =
        let slices = kept_now old trace live in
        let entry = entries.Progress id slices in
        let same = own_id old trace live in
        let emptied : Life → Life = λ (l : Life). record l { unsaved = 0 } in
        record {
          item = record live.runs.item { slices = slices };
          there = ap (λ (v : Listing). item_in pass.id.0 v.items) recorded.items_are
              ∙ subst (λ (i : ItemId). item_in pass.id.0 (changed_at entry i.0 old.items.items) ≡ Some (record live.runs.item { slices = slices })) same (item_then entry pass.id.0 old.items.items live.runs.item live.runs.there);
          runs = live.runs.runs;
          attempt_is = live.runs.attempt_is;
          life = emptied live.runs.life;
          lives = ap (λ (l : List Life). life_in pass.id.0 l) recorded.lives_are
              ∙ subst (λ (i : ItemId). life_in pass.id.0 (changed_life i.0 emptied old.lives) ≡ Some (emptied live.runs.life)) same (life_then pass.id.0 emptied (λ (l : Life). refl) old.lives live.runs.life live.runs.lives);
          is = record {
            item_is = ap (λ (i : Item). record i { slices = slices }) live.runs.is.item_is ∙ saved_item scene trace slices;
            cover_is = live.runs.is.cover_is;
            round_is = live.runs.is.round_is;
            plan_is = live.runs.is.plan_is;
          };
        }

    saved_on : (trace : Trace) (live : Live old trace) → Recorded old new (entries.Progress id (kept_now old trace live) ∷ []) → (tells → KeepsReads clock old.disk new.disk) → Live new (longer old trace live)
    saved_on trace live recorded reads = record {
      goes = subst (λ (h : History). DeskGoes tells clock says far counts IsPart scene.start new h [] false)
          (append_assoc head (so_far id trace) (entries.Progress id (kept_now old trace live) ∷ []) ∙ ap (λ (h : History). head ++ h) (sym (so_saved id trace (kept_now old trace live))))
          (goes_on trace (entries.Progress id (kept_now old trace live) ∷ []) live recorded);
      pass_is = live.pass_is;
      runs = saved_runs trace live recorded;
      planned = kept_planned old trace live;
      brought = λ told content start rounds place has.
          let item = told_by scene trace.told in
          subst (λ (file : Option (List ℕ)). HasAt content file place) (sym (reads told (part_name item.id.0 item.epoch.0))) (live.brought told content start rounds place has);
    }

    -- what was landed was saved
    pub live_saved : (trace : Trace) → Live old trace → RunsWith old pass.id pass.attempt (IsSaved old new) → (tells → KeepsReads clock old.disk new.disk) → (saves : List (List Slice)) × Live new (with_saves trace saves)
    live_saved trace live found reads =
        elim (eqb_tells found.life.unsaved 0) [
          | inl none ↦ (trace.saves, subst (λ (desk : View D O). Live desk trace) (sym (found.is.still none.1)) live)
          | inr some ↦ (trace.saves ++ kept_now old trace live ∷ [], saved_on trace live (subst (Recorded old new) (saved_entry old trace live (IsSaved old new) found some.0) found.is.saved) reads)
        ]

    -- the journal failed while something was saved
    pub fell_saving : (trace : Trace) → Live old trace → RunsWith old pass.id pass.attempt (FallsSaving (counts old.disk) (counts new.disk) old new) → DeskFell false tells clock says far counts scene new trace NoCause
    fell_saving trace live found = by found.is.fell
      where
        test : (found.life.unsaved == 0) ≡ false
        test = elim (eqb_tells found.life.unsaved 0) [ inl none ↦ absurd (let some = found.is.unsaved in omega (arith, some, none.1)) | inr some ↦ some.0 ]

        by : Fell old new (saving found.item found.life) ⊎ FellWith old new [] (FileBroke (counts old.disk) (counts new.disk) found.item.id) → DeskFell false tells clock says far counts scene new trace NoCause
        by (inl fell) =
            fell_at false NoCause trace (longer old trace live) (Broken causes.Memory) (entries.Progress id (kept_now old trace live) ∷ []) (close_entries id scene.at (Broken causes.Memory)) refl refl refl (inr refl) live (kept_planned old trace live)
            (subst (Fell old new) (saved_entry old trace live (FallsSaving (counts old.disk) (counts new.disk) old new) found test) fell)
            (ap (λ (h : History). h ++ close_entries id scene.at (Broken causes.Memory)) (sym (so_saved id trace (kept_now old trace live))) ∙ so_closed id scene.at (longer old trace live) (Broken causes.Memory)) (inl refl)
        by (inr fell) =
            let same : found.item.id ≡ pass.id =
            ap (λ (i : Item). i.id) (sym (one_item old pass.id pass.attempt (IsTraced scene trace) (FallsSaving (counts old.disk) (counts new.disk) old new) live.runs found)) ∙ item_id old trace live ∙ sym (own_id old trace live) in
            fell_file trace live (subst (λ (i : ItemId). FellWith old new [] (FileBroke (counts old.disk) (counts new.disk) i)) same fell)

    -- a call that leaves a checkpoint's answer
    abbrev Rises : DeskFault → Type 0
    Rises fault = IfSome (desk_kind fault) (λ kind. Rose (counts old.disk kind) (counts new.disk kind))

    pub save_stops : (trace : Trace) → Live old trace → (fault : DeskFault) → IsOutside fault → CheckpointAnswers counts old new pass (Err fault) → Rises fault → Refused tells clock says far counts scene pass new trace (stop_by fault)
    save_stops trace live =
        by_outside (λ (fault : DeskFault). CheckpointAnswers counts old new pass (Err fault) → Rises fault → Refused tells clock says far counts scene pass new trace (stop_by fault))
        (λ kind answer rose. file_leaves trace kind live answer.1 rose)
        (λ kind answer rose. journal_leaves trace kind live (fell_saving trace live answer) rose)
        (λ answer rose. subst (λ (desk : View D O). Live desk trace) (sym answer.same) live)

    pub save_leaves : (trace : Trace) (result : Result (Unit {0}) DeskFault) → Live old trace → CheckpointAnswers counts old new pass result → IfErr result Rises → (tells → KeepsReads clock old.disk new.disk)
        → SaveLeaves tells clock says far counts scene pass new trace (stopped result)
    save_leaves trace (Ok done) live answer rose reads = live_saved trace live answer reads
    save_leaves trace (Err fault) live answer rose reads =
        save_stops trace live fault (hard_checkpoint counts old new pass fault live.goes.went.broken_is (weaker old pass.id pass.attempt (IsTraced scene trace) IsUnderWay (λ item life is. tt) live.runs) answer) answer rose

    -- the part of the item is that of the item as it was told
    part_told : (trace : Trace) (live : Live old trace) (disk : D) → part_bytes clock disk live.runs.item ≡ part_bytes clock disk (told_by scene trace.told)
    part_told trace live disk = ap (λ (i : Item). part_bytes clock disk i) live.runs.is.item_is ∙ ap (λ (i : Item). part_bytes clock disk i) (all_saves id trace.saves (told_by scene trace.told))

    told_of : (key found : Option Key) → key ≡ found → (key ≡ None → ⊥) → IsSome key
    told_of key None is some = absurd (some is)
    told_of key (Some found) is some = subst IsSome (sym is) refl

    -- a piece was landed
    pub live_landed : IsDesk tells clock old → (older : Trace) (round : Round) (part : Part) (at : ℕ) (piece : List ℕ) → Live old (opened older round) → IsNext round.shares part at piece → LifeOnly old new pass.id.0 (grown_life part.index (length piece))
        → (tells → PartReads clock old new pass.id (HasPiece at piece)) → Live new (opened older (with_piece round part.index piece))
    live_landed was older round part at piece live next only reads =
        let trace = opened older round in
        let after = opened older (with_piece round part.index piece) in
        let f = grown_life part.index (length piece) in
        let total = (told_by scene older.told).total in
        let least = scene.start.limits.min_slice in
        let start = (begun_by scene).slices in
        record {
          goes = subst (λ (h : History). DeskGoes tells clock says far counts IsPart scene.start new h [] false) (append-nil (head ++ so_far id older))
              (goes_then tells clock says far counts IsPart scene.start old new (head ++ so_far id older) [] [] false live.goes (life_went old new pass.id.0 f live.goes.went.failed_is only) call);
          pass_is = live.pass_is;
          runs = subst (λ (desk : View D O). RunsWith desk pass.id pass.attempt (IsTraced scene after)) (sym only.same) (record {
            item = live.runs.item;
            there = live.runs.there;
            runs = live.runs.runs;
            attempt_is = live.runs.attempt_is;
            life = f live.runs.life;
            lives = life_then pass.id.0 f (λ (l : Life). refl) old.lives live.runs.life live.runs.lives;
            is = record {
              item_is = live.runs.is.item_is;
              cover_is = ap (λ (c : List Slice). grown c part.index (length piece)) live.runs.is.cover_is
                  ∙ sym (filled_grown (opened_by total older.count least round.cover) round.shares part.index piece (slice_get_within round.shares part.index next.share next.is));
              round_is = live.runs.is.round_is;
              plan_is = live.runs.is.plan_is ∙ sym (added_keeps round.shares part.index piece);
            };
          });
          planned = record {
            saves = saves_piece start total older.count least round older.rounds part.index piece older.saves live.planned.saves;
            rounds = planned_piece start total older.count least round older.rounds part.index piece live.planned.rounds;
            placed = subst (λ (l : List Part). AreNumbered 0 l × AreAtEnds l (opened_by total older.count least round.cover)) (sym (added_keeps round.shares part.index piece)) live.planned.placed;
          };
          brought = λ told content before rounds.
              let is = life_is tells clock old pass (IsTraced scene trace) was live.goes.went.broken_is live.runs in
              let there = part_there tells clock old pass.id pass.attempt (IsTraced scene trace) was live.goes.went.broken_is live.runs (told_of live.runs.item.key live.runs.item.key refl (λ none. let one = live.runs.is.round_is in let two = (is.untold none).1 in omega (arith, one, two))) told in
              let at_is : at ≡ next.share.part.first + length next.share.bytes = let first = ap (λ (p : Part). p.first) next.part_is in let place = next.at_is in omega (arith, first, place) in
              let had = subst (HasCover content (cover_by scene trace)) (sym (part_told trace live old.disk) ∙ there.1) (live.brought told content before (shares_front content round.shares part.index piece rounds.0, rounds.1)) in
              subst (HasCover content (cover_by scene after)) (sym (reads told live.runs.item live.runs.there there.0 there.1) ∙ part_told trace live new.disk)
              (has_landed content there.0 at piece (piece_of content round.shares part.index piece next.share at next.is at_is rounds.0) (opened_by total older.count least round.cover) round.shares part.index next.share live.planned.placed.1 next.is at_is had);
        }

  -- the next piece of a part has its place
  pub has_place : (present : View D O) (older : Trace) (round : Round) (part : Part) (at : ℕ) (piece : List ℕ) (turn : ℕ) → Live present (opened older round) → IsNext round.shares part at piece → turn ≡ length older.rounds + 1
      → RunsWith present pass.id pass.attempt (Fits (slice_pass pass.id pass.attempt turn part) at (length piece))
  has_place present older round part at piece turn live next turn_is =
      let first_is = ap (λ (p : Part). p.first) next.part_is in
      let own : Share → Part = λ (s : Share). s.part in
      let place : next.share.part.first + length next.share.bytes ≡ at = let e = next.at_is in omega (arith, e, first_is) in
      let round_is : suc (length older.rounds) ≡ turn = omega (arith, turn_is) in
      record {
        item = live.runs.item;
        there = live.runs.there;
        runs = live.runs.runs;
        attempt_is = live.runs.attempt_is;
        life = live.runs.life;
        lives = live.runs.lives;
        is = record {
          next = record {
            has = record {
              round = live.runs.is.round_is ∙ round_is;
              part = ap (λ (l : List Part). slice_get l part.index) live.runs.is.plan_is ∙ slice_get-map own round.shares part.index ∙ ap (option_map own) next.is ∙ ap Some next.part_is;
            };
            next = ap (λ (c : List Slice). next_of c part.index) live.runs.is.cover_is
                ∙ filled_next (opened_by (told_by scene older.told).total older.count scene.start.limits.min_slice round.cover) round.shares part.index next.share live.planned.placed.1 next.is ∙ ap Some place;
          };
          fits = next.fits;
        };
      }

  module _ (old new : View D O) (call : Call old new) (older : Trace) (round : Round) (part : Part) (at : ℕ) (piece : List ℕ) (turn : ℕ) (live : Live old (opened older round)) (next : IsNext round.shares part at piece)
      (turn_is : turn ≡ length older.rounds + 1) where
    abbrev slice : SlicePass
    slice = slice_pass pass.id pass.attempt turn part

    abbrev Raised : DeskFault → Type 0
    Raised fault = IfSome (desk_kind fault) (λ kind. Rose (counts old.disk kind) (counts new.disk kind))

    pub piece_stops : (fault : DeskFault) → IsOutside fault → LandAnswers counts old new slice at piece (Err fault) → Raised fault
        → (saves : List (List Slice)) × Refused tells clock says far counts scene pass new (opened (with_saves older saves) round) (stop_by fault)
    piece_stops =
        by_outside (λ (fault : DeskFault). LandAnswers counts old new slice at piece (Err fault) → Raised fault → (saves : List (List Slice)) × Refused tells clock says far counts scene pass new (opened (with_saves older saves) round) (stop_by fault))
        (λ kind answer rose. (older.saves, file_leaves old new call (opened older round) kind live answer.1 rose))
        (λ kind answer rose. (older.saves, journal_leaves old new call (opened older round) kind live (fell_file old new call (opened older round) live answer.1) rose))
        (λ answer rose. absurd answer)

    -- behind a save
    pub piece_leaves : (result : Result (Unit {0}) DeskFault) → NothingUnsaved old pass → IsDesk tells clock old → LandAnswers counts old new slice at piece result → IfErr result Raised → (tells → OnOk result (PartReads clock old new pass.id (HasPiece at piece)))
        → LandLeaves tells clock says far counts scene pass new older round part.index piece (stopped result)
    piece_leaves (Ok done) none was answer rose reads = (older.saves, live_landed old new call was older round part at piece live next answer.1 reads)
    piece_leaves (Err fault) none was answer rose reads =
        elim (land_fault counts old new slice at piece live.goes.went.broken_is (has_place old older round part at piece turn live next turn_is) fault answer) [
          | outside is ↦ piece_stops fault is answer rose
          | due bytes is runs same ↦ absurd (both old pass.id pass.attempt (λ item life. life.unsaved ≡ 0) (IsDue slice at (length piece) old.limits.checkpoint bytes) ⊥ none runs
              (λ item life empty is_due. let low = is_due.due in let some = was.limits_are.checkpoint.0 in omega (arith, low, empty, some)))
        ]

    -- unless a save is due
    pub piece_refused : (fault : DeskFault) (stop : Stop) → due_by fault ≡ Some stop → LandAnswers counts old new slice at piece (Err fault) → Raised fault
        → LandLeaves tells clock says far counts scene pass new older round part.index piece (Err stop)
    piece_refused fault stop is answer rose =
        elim (land_fault counts old new slice at piece live.goes.went.broken_is (has_place old older round part at piece turn live next turn_is) fault answer) [
          | outside comes ↦ let found = piece_stops fault comes answer rose in
              (found.0, subst (λ (s : Stop). Refused tells clock says far counts scene pass new (opened (with_saves older found.0) round) s) (not_due fault comes stop is) found.1)
          | due bytes due_is runs same ↦ absurd (none-some stop (sym (ap due_by due_is) ∙ is))
        ]
      where
        not_due : (f : DeskFault) → IsOutside f → (s : Stop) → due_by f ≡ Some s → stop_by f ≡ s
        not_due = by_outside (λ (f : DeskFault). (s : Stop) → due_by f ≡ Some s → stop_by f ≡ s) (λ kind s same. same_Some (stops.Fault (faults.File kind)) s same) (λ kind s same. same_Some (stops.Fault (faults.Journal kind)) s same) (λ s same. same_Some stops.NoMemory s same)

  -- what was saved before counts too
  pub later_leaves : (present : View D O) (older : Trace) (saves : List (List Slice)) (round : Round) (k : ℕ) (piece : List ℕ) (result : Result (Unit {0}) Stop)
      → LandLeaves tells clock says far counts scene pass present (with_saves older saves) round k piece result → LandLeaves tells clock says far counts scene pass present older round k piece result
  later_leaves present older saves round k piece (Ok done) leaves = leaves
  later_leaves present older saves round k piece (Err stop) leaves = leaves
