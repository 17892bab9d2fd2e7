-- What finishing makes of an attempt that runs.
use Rattle.std.proofs.Common.{◌≡◌, ◌≢◌, ◌⊎◌, inl, inr, ℕ, ◌+◌, ◌<◌, ◌≤◌, ◌==◌, cond, Bool, true, false, List, [], ◌∷◌, ◌++◌, length, map, Option, Some, None, Result, Ok, Err, IsTrue, refl, sym, ◌∙◌, ap, subst, arith, append_assoc}
use Rattle.std.specs.Prelude.{IfSome, IsSome}
use Rattle.std.specs.List.{AllByRecursion}
use Rattle.std.proofs.lemmas.Bool.Decides.{eqb_tells}
use Rattle.std.proofs.lemmas.List.{append-nil}
use Rattle.std.proofs.lemmas.Option.{none-some, same_Some}
use Rattle.dm_types.specs.Faults.{Rose}
use Rattle.dm_types.specs.Name.{IsPart}
use Rattle.dm_types.specs.declared.entry.Entry.{Entry}
use Rattle.dm_types.specs.declared.entry.Entry.TheVariants as entries
use Rattle.dm_types.specs.declared.item.Item.{Item}
use Rattle.dm_types.specs.declared.item.ItemId.{ItemId}
use Rattle.dm_types.specs.declared.kinds.DiskKind.{DiskKind}
use Rattle.dm_types.specs.declared.reason.Reason.TheVariants as reasons
use Rattle.dm_types.specs.declared.slices.Slice.{Slice}
use Rattle.dm_disk_model.specs.Disk.{History as Clock}
use Rattle.dm_policy.specs.Cause.{reason_of_cause, reason_of_file}
use Rattle.dm_policy.specs.declared.cause.Cause.{Cause}
use Rattle.dm_policy.specs.declared.cause.Cause.TheVariants as causes
use Rattle.dm_slice.specs.Cover.{normal_of}
use Rattle.dm_slice.specs.Words.{IsFirstMissing, IsFull, cover_end}
use Rattle.dm_item.specs.History.{get}
use Rattle.dm_item.specs.Lawful.{History}
use Rattle.dm_item.specs.Listing.{Listing, applied, changed_at, item_in}
use Rattle.dm_item.specs.Row.{changed}
use Rattle.dm_kept.specs.Files.{Says}
use Rattle.dm_store.specs.Becomes.{Fell, Recorded, run_of}
use Rattle.dm_store.specs.View.{View}
use Rattle.dm_store.specs.declared.life.Life.{Life}
use Rattle.dm_store.specs.declared.pass.Gone.TheVariants as gones
use Rattle.dm_store.specs.declared.pass.Pass.{Pass}
use Rattle.dm_answers.proofs.Hard.{hard_finish}
use Rattle.dm_answers.proofs.Live.{both, not_broken, not_declined, one_item, one_life, told_untold, weaker}
use Rattle.dm_answers.proofs.Steps.{becomes_went}
use Rattle.dm_answers.specs.Begin.{beginning}
use Rattle.dm_answers.specs.Faults.{desk_kind}
use Rattle.dm_answers.specs.Finish.{Differs, EndsEarly, FellNaming, FinishAnswers, FinishBroke, FinishFell, FinishTail, HasHole, HasSum, IsConfirmed, IsFinished, MayFinish, finishing_entries, total_of}
use Rattle.dm_answers.specs.Frame.{FellWith, FileBroke, Went}
use Rattle.dm_answers.specs.Reads.{IsPartOrNameOf}
use Rattle.dm_answers.specs.Running.{IsUntold, RunsWith, length_of, part_bytes, saving}
use Rattle.dm_answers.specs.declared.answer.Finished.{Finished}
use Rattle.dm_answers.specs.declared.answer.Finished.TheVariants as finished
use Rattle.dm_answers.specs.declared.fault.DeskFault.{DeskFault}
use Rattle.dm_answers.specs.declared.fault.DeskFault.TheVariants as faults
use Rattle.dm_attempt.specs.declared.stop.Stop.{Stop}
use Rattle.dm_attempt.specs.declared.stop.Stop.TheVariants as stops
use Rattle.dm_attempt.specs.Ending.{RecordedBy, StopHolds}
use Rattle.dm_attempt.specs.Finishes.{FinishLeaves, IsDone, finish_stop, finished_by}
use Rattle.dm_attempt.specs.Goes.{CallGoes, DeskGoes}
use Rattle.dm_attempt.specs.Live.{DeskOver, IsGivenBy, IsPlanned, IsSpared, IsTraced, LiveDesk, all_entries}
use Rattle.dm_attempt.specs.Scene.{Scene, begun_by, changed_all, cover_by, item_by, told_by}
use Rattle.dm_attempt.specs.Shows.{DeskDone, DeskFell, DeskMet, NoCause, ShowsClose, total_by}
use Rattle.dm_attempt.specs.Stops.{FaultLeaves, stop_by}
use Rattle.dm_attempt.specs.Trace.{Broken, Close, Done, Trace, close_entries, entries_behind, so_far, told_entries, with_saves}
use Rattle.dm_attempt.proofs.Goes.{call_more, goes_more, goes_then}
use Rattle.dm_attempt.proofs.Items.{all_id, all_saves, all_then, item_then}
use Rattle.dm_attempt.proofs.Steps.{kept_now, kept_planned, longer, own_id, rose_later, saved_entry, so_closed, so_saved}

-- the entry changes the item with this number, and nothing else of the list's items
abbrev Own : ℕ → Entry → Type 0
Own k e = (v : Listing) → (applied e v).items ≡ changed_at e k v.items

run_item : (k : ℕ) (es : History) (v : Listing) (item : Item) → AllByRecursion (Own k) es → item_in k v.items ≡ Some item → item_in k (run_of es v).items ≡ Some (changed_all es item)
run_item k [] v item own there = there
run_item k (e ∷ es) v item own there = run_item k es (applied e v) (changed e item) own.1 (ap (item_in k) (own.0 v) ∙ item_then e k v.items item there)

own_front : (k : ℕ) (xs ys : History) → AllByRecursion (Own k) (xs ++ ys) → AllByRecursion (Own k) xs
own_front k [] ys own = tt
own_front k (x ∷ xs) ys own = (own.0, own_front k xs ys own.1)

own_both : (k : ℕ) (xs ys : History) → AllByRecursion (Own k) xs → AllByRecursion (Own k) ys → AllByRecursion (Own k) (xs ++ ys)
own_both k [] ys own more = more
own_both k (x ∷ xs) ys own more = (own.0, own_both k xs ys own.1 more)

module _ {D O : Type 0} (tells : Type 0) (clock : D → Clock) (says : O → Says) (far : D → ℕ) (counts : D → DiskKind → ℕ) (scene : Scene D O) (pass : Pass) (old new : View D O) (call : CallGoes tells clock says far counts (IsPartOrNameOf new pass.id) old new) (trace : Trace)
    (live : LiveDesk tells clock says far counts scene pass old trace) where
  abbrev id : ItemId
  id = scene.item.id

  abbrev head : History
  head = beginning scene.item scene.by scene.at

  abbrev before : History
  before = head ++ so_far id trace

  abbrev Owned : History → Type 0
  Owned es = AllByRecursion (Own id.0) es

  same_id : pass.id ≡ id
  same_id = own_id tells clock says far counts scene pass old trace live

  item_is : live.runs.item ≡ changed_all before scene.item
  item_is =
      live.runs.is.item_is
      ∙ sym (all_then head (so_far id trace) scene.item ∙ all_then (told_entries id trace.told) (map (entries.Progress id) trace.saves) (begun_by scene))

  -- what was recorded, with the item's own name spared where it was given
  finish_goes : (es failed : History) (broken : Bool) → Went old new es failed broken → Owned es → DeskGoes tells clock says far counts (IsSpared scene (before ++ es)) scene.start new (before ++ es) failed broken
  finish_goes es failed broken went own =
      let there : item_in pass.id.0 new.items.items ≡ Some (changed_all es live.runs.item) =
      ap (λ (v : Listing). item_in pass.id.0 v.items) went.items_are
      ∙ subst (λ (i : ItemId). item_in i.0 (run_of es old.items).items ≡ Some (changed_all es live.runs.item)) (sym same_id)
      (run_item id.0 es old.items live.runs.item own (subst (λ (i : ItemId). item_in i.0 old.items.items ≡ Some live.runs.item) same_id live.runs.there)) in
      let now_is : changed_all es live.runs.item ≡ changed_all (before ++ es) scene.item = ap (changed_all es) item_is ∙ sym (all_then before es scene.item) in
      goes_then tells clock says far counts (IsSpared scene (before ++ es)) scene.start old new before es failed broken
      (goes_more tells clock says far counts IsPart (IsSpared scene (before ++ es)) (λ name part. inl part) scene.start old before [] false live.goes) went
      (call_more tells clock says far counts (IsPartOrNameOf new pass.id) (IsSpared scene (before ++ es)) (λ name. elim [
        | inl part ↦ inl part
        | inr given ↦ inr (subst (λ (i : Item). IsGivenBy i name) (same_Some given.item (changed_all es live.runs.item) (sym given.there ∙ there) ∙ now_is) (given.given, given.named))
      ]) old new call)

  -- what a call of the attempt finds is what the trace makes of it
  module _ (P : Item → Life → Type 0) (found : RunsWith old pass.id pass.attempt P) where
    item_same : found.item ≡ item_by scene trace
    item_same = sym (one_item old pass.id pass.attempt (IsTraced scene trace) P live.runs found) ∙ live.runs.is.item_is

    cover_same : found.life.cover ≡ cover_by scene trace
    cover_same = ap (λ (l : Life). l.cover) (sym (one_life old pass.id pass.attempt (IsTraced scene trace) P live.runs found)) ∙ live.runs.is.cover_is

    of_told : {X : Type 0} (f : Item → X) → f (item_by scene trace) ≡ f (told_by scene trace.told) → f found.item ≡ f (told_by scene trace.told)
    of_told f same = ap f item_same ∙ same

    total_same : total_of found.item found.life ≡ total_by scene trace
    total_same =
        ap (λ (c : List Slice). get found.item.total (cover_end c)) cover_same
        ∙ ap (λ (t : Option ℕ). get t (cover_end (cover_by scene trace))) (of_told (λ i. i.total) (ap (λ (i : Item). i.total) (all_saves id trace.saves (told_by scene trace.told))))

    id_same : found.item.id ≡ id
    id_same = ap (λ (i : Item). i.id) (sym (one_item old pass.id pass.attempt (IsTraced scene trace) P live.runs found)) ∙ ap (λ (i : Item). i.id) item_is ∙ all_id before scene.item

    digest_same : found.item.digest ≡ (told_by scene trace.told).digest
    digest_same = of_told (λ i. i.digest) (ap (λ (i : Item). i.digest) (all_saves id trace.saves (told_by scene trace.told)))

    part_same : part_bytes clock old.disk found.item ≡ part_bytes clock old.disk (told_by scene trace.told)
    part_same = of_told (part_bytes clock old.disk) (ap (λ (i : Item). part_bytes clock old.disk i) (all_saves id trace.saves (told_by scene trace.told)))

    full_same : MayFinish found.item found.life → IsFull (total_by scene trace) (cover_by scene trace)
    full_same may = subst (λ (t : ℕ). IsFull t (cover_by scene trace)) total_same (subst (λ (c : List Slice). IsFull (total_of found.item found.life) c) cover_same may.full)

  -- what was recorded in this call before the end: a save, or nothing
  data Saved (front : History) : Type 0 where
    saved : (saves : List (List Slice)) → so_far id trace ++ front ≡ so_far id (with_saves trace saves) → IsPlanned scene (with_saves trace saves) → Owned front → Saved front

  bare_saved : Saved []
  bare_saved = saved trace.saves (append-nil (so_far id trace)) live.planned tt

  saves_of : (P : Item → Life → Type 0) (found : RunsWith old pass.id pass.attempt P) → Saved (saving found.item found.life)
  saves_of P found = elim (eqb_tells found.life.unsaved 0) [
    | inl none ↦ let empty : saving found.item found.life ≡ [] = ap (λ (b : Bool). cond b [] (entries.Progress found.item.id (normal_of found.item.total found.life.cover) ∷ [])) none.0 in
        subst Saved (sym empty) bare_saved
    | inr some ↦ subst Saved (sym (saved_entry tells clock says far counts scene pass old trace live P found some.0))
        (saved (trace.saves ++ kept_now tells clock says far counts scene pass old trace live ∷ []) (sym (so_saved id trace (kept_now tells clock says far counts scene pass old trace live)))
        (kept_planned tells clock says far counts scene pass old trace live) (λ v. refl, tt))
  ]

  -- an end behind it was recorded
  over_closing : (front : History) → Saved front → (close : Close) (closing : History) → closing ≡ close_entries id scene.at close → Owned closing → Recorded old new (front ++ closing)
      → (saves : List (List Slice)) × DeskOver tells clock says far counts scene new (with_saves trace saves) close
  over_closing front (saved saves is planned front_own) close closing closes own recorded =
      let es = front ++ closing in
      let whole : before ++ es ≡ all_entries scene (with_saves trace saves) close =
      append_assoc head (so_far id trace) es
      ∙ ap (λ (h : History). head ++ h) (sym (append_assoc (so_far id trace) front closing) ∙ ap (λ (h : History). h ++ closing) is ∙ ap (λ (h : History). so_far id (with_saves trace saves) ++ h) closes ∙ so_closed id scene.at (with_saves trace saves) close) in (
        saves,
        record {
          goes = subst (λ (h : History). DeskGoes tells clock says far counts (IsSpared scene h) scene.start new h [] false) whole (finish_goes es [] false (becomes_went old new es [] false recorded) (own_both id.0 front closing front_own own));
          planned = planned;
        },
      )

  -- the journal failed at one of these entries
  fell_closing : (front : History) → Saved front → (behind more : History) (close : Close) → behind ++ more ≡ close_entries id scene.at close → Owned behind → Fell old new (front ++ behind)
      → ShowsClose true tells clock says far counts scene new trace NoCause close → DeskFell true tells clock says far counts scene new trace NoCause
  fell_closing front (saved saves is planned front_own) behind more close closes own fell shows =
      let after = with_saves trace saves in
      let owned : Owned fell.recorded = own_front id.0 fell.recorded (fell.entry ∷ fell.rest) (subst Owned fell.tries_are (own_both id.0 front behind front_own own)) in
      let parts : head ++ ((so_far id trace ++ (fell.recorded ++ fell.entry ∷ fell.rest)) ++ more) ≡ ((before ++ fell.recorded) ++ fell.entry ∷ []) ++ (fell.rest ++ more) = simp append_assoc in
      let whole : (so_far id trace ++ (front ++ behind)) ++ more ≡ entries_behind id scene.at after close =
      ap (λ (h : History). h ++ more) (sym (append_assoc (so_far id trace) front behind) ∙ ap (λ (h : History). h ++ behind) is)
      ∙ append_assoc (so_far id after) behind more ∙ ap (λ (h : History). so_far id after ++ h) closes ∙ so_closed id scene.at after close in
      record {
        after = after;
        led_is = refl;
        lost_is = refl;
        rounds_are = refl;
        told_is = inr refl;
        close = close;
        seen = trace.saves;
        shows = shows;
        recorded = before ++ fell.recorded;
        failed = fell.entry ∷ [];
        rest = fell.rest ++ more;
        unpublished = λ none. absurd (let e = none in cc);
        is = ap (λ (h : History). head ++ h) (sym whole) ∙ ap (λ (h : History). head ++ ((so_far id trace ++ h) ++ more)) fell.tries_are ∙ parts;
        goes = finish_goes fell.recorded (fell.entry ∷ []) true (becomes_went old new fell.recorded (fell.entry ∷ []) true fell.becomes) owned;
        planned = planned;
      }

  abbrev Raises : DeskFault → Type 0
  Raises fault = IfSome (desk_kind fault) (λ kind. Rose (counts old.disk kind) (counts new.disk kind))

  module _ (P : Item → Life → Type 0) (found : RunsWith old pass.id pass.attempt P) (at : ℕ) (at_is : at ≡ scene.at) where
    broke_is : (cause : Cause) → entries.Broke found.item.id (reason_of_cause cause) ∷ [] ≡ close_entries id scene.at (Broken cause)
    broke_is cause = ap (λ (i : ItemId). entries.Broke i (reason_of_cause cause) ∷ []) (id_same P found)

    broke_own : (cause : Cause) → Owned (entries.Broke found.item.id (reason_of_cause cause) ∷ [])
    broke_own cause = subst Owned (sym (broke_is cause)) (λ v. refl, tt)

    done_is : (digest : List ℕ) → finishing_entries found.item found.life digest at ≡ close_entries id scene.at (Done (total_by scene trace) digest)
    done_is digest =
        ap (λ (i : ItemId). entries.Finishing i (total_of found.item found.life) ∷ entries.Done i digest at ∷ []) (id_same P found)
        ∙ ap (λ (t : ℕ). entries.Finishing id t ∷ entries.Done id digest at ∷ []) (total_same P found)
        ∙ ap (λ (a : ℕ). entries.Finishing id (total_by scene trace) ∷ entries.Done id digest a ∷ []) at_is

    done_own : (digest : List ℕ) → Owned (finishing_entries found.item found.life digest at)
    done_own digest = subst Owned (sym (done_is digest)) (λ v. refl, (λ v. refl, tt))

    abbrev Shows : Close → Type 0
    Shows close = ShowsClose true tells clock says far counts scene new trace NoCause close

    abbrev Met : Cause → Type 0
    Met cause = DeskMet tells clock says far counts scene pass trace cause

    -- what the part reads confirms the sum
    done_met : MayFinish found.item found.life → (digest : List ℕ) → IsConfirmed tells clock old.disk found.item found.life digest → DeskDone tells clock says far counts scene pass trace digest
    done_met may digest confirmed = record {
      desk = old;
      live = live;
      full = full_same P found may;
      stated = subst (λ (d : Option (List ℕ)). IfSome d (λ x. x ≡ digest)) (digest_same P found) confirmed.stated;
      sum = λ t. subst (λ (n : ℕ). HasSum (part_bytes clock old.disk (told_by scene trace.told)) n digest) (total_same P found)
          (subst (λ (b : Option (List ℕ)). HasSum b (total_of found.item found.life) digest) (part_same P found) (confirmed.sum t));
    }

    differs_met : MayFinish found.item found.life → (have wanted : List ℕ) → Differs tells clock old.disk found.item found.life have wanted → Met (causes.DigestDiffers have wanted)
    differs_met may have wanted differs = record {
      desk = old;
      live = live;
      is = (
        full_same P found may,
        sym (digest_same P found) ∙ differs.stated,
        differs.other,
        λ t. subst (λ (n : ℕ). HasSum (part_bytes clock old.disk (told_by scene trace.told)) n have) (total_same P found)
            (subst (λ (b : Option (List ℕ)). HasSum b (total_of found.item found.life) have) (part_same P found) (differs.sum t)),
      );
    }

    early_met : MayFinish found.item found.life → (have wanted : ℕ) → EndsEarly tells clock old.disk found.item found.life have wanted → Met (causes.PartShort have wanted)
    early_met may have wanted early = record {
      desk = old;
      live = live;
      is = (full_same P found may, early.wanted_is ∙ total_same P found, early.short, λ t. early.have_is t ∙ ap length_of (part_same P found));
    }

    shows_met : (cause : Cause) → Met cause → Shows (Broken cause)
    shows_met cause met = inr (inr (inr (inl (subst (λ (p : Pass). DeskMet tells clock says far counts scene p trace cause) live.pass_is met))))

    shows_done : (digest : List ℕ) → DeskDone tells clock says far counts scene pass trace digest → Shows (Done (total_by scene trace) digest)
    shows_done digest met = (refl, refl, subst (λ (p : Pass). DeskDone tells clock says far counts scene p trace digest) live.pass_is met)

    fell_broke : (front : History) → Saved front → (behind : History) (cause : Cause) → behind ≡ entries.Broke found.item.id (reason_of_cause cause) ∷ [] → Fell old new (front ++ behind) → Shows (Broken cause)
        → DeskFell true tells clock says far counts scene new trace NoCause
    fell_broke front front_saved behind cause is fell shows =
        fell_closing front front_saved behind [] (Broken cause) (append-nil behind ∙ is ∙ broke_is cause) (subst Owned (sym is) (broke_own cause)) fell shows

    fell_file : (front : History) → Saved front → (behind : History) → FileBroke (counts old.disk) (counts new.disk) found.item.id behind → Fell old new (front ++ behind) → DeskFell true tells clock says far counts scene new trace NoCause
    fell_file front front_saved behind file fell =
        fell_broke front front_saved behind (causes.File file.is.kind) (file.one ∙ ap (λ (e : Entry). e ∷ []) file.is.is) fell
        (inr (inr (inl (record { kind = file.is.kind; is = refl; rose = rose_later (counts scene.start.disk file.is.kind) (counts old.disk file.is.kind) (counts new.disk file.is.kind) (live.goes.later file.is.kind) file.is.rose }))))

    module _ (may : MayFinish found.item found.life) where
      tail_fell : (behind : History) → FinishTail tells clock counts old.disk new.disk at found.item found.life behind → Fell old new (saving found.item found.life ++ behind) → DeskFell true tells clock says far counts scene new trace NoCause
      tail_fell behind (inl done) fell =
          fell_closing (saving found.item found.life) (saves_of P found) behind [] (Done (total_by scene trace) done.digest) (append-nil behind ∙ done.is ∙ done_is done.digest) (subst Owned (sym done.is) (done_own done.digest)) fell
          (shows_done done.digest (done_met may done.digest done.confirmed))
      tail_fell behind (inr (inl other)) fell =
          fell_broke (saving found.item found.life) (saves_of P found) behind (causes.DigestDiffers other.have other.wanted) other.is fell
          (shows_met (causes.DigestDiffers other.have other.wanted) (differs_met may other.have other.wanted other.differs))
      tail_fell behind (inr (inr (inl early))) fell =
          fell_broke (saving found.item found.life) (saves_of P found) behind (causes.PartShort early.have early.wanted) early.is fell
          (shows_met (causes.PartShort early.have early.wanted) (early_met may early.have early.wanted early.early))
      tail_fell behind (inr (inr (inr file))) fell = fell_file (saving found.item found.life) (saves_of P found) behind file fell

      naming_fell : FellNaming tells clock old new found.item found.life → DeskFell true tells clock says far counts scene new trace NoCause
      naming_fell naming = by (saves_of P found)
        where
          first : History
          first = entries.Finishing found.item.id (total_of found.item found.life) ∷ []

          by : Saved (saving found.item found.life) → DeskFell true tells clock says far counts scene new trace NoCause
          by (saved saves is planned front_own) =
              let after = with_saves trace saves in
              let front = saving found.item found.life in
              let es = front ++ entries.Finishing found.item.id (total_of found.item found.life) ∷ [] in
              let rest = entries.Done found.item.id naming.digest at ∷ [] in
              let own : Owned es = own_both id.0 front (entries.Finishing found.item.id (total_of found.item found.life) ∷ []) front_own ((done_own naming.digest).0, tt) in
              let whole : (before ++ es) ++ rest ≡ all_entries scene after (Done (total_by scene trace) naming.digest) =
              ap (λ (h : History). h ++ rest) (append_assoc head (so_far id trace) es) ∙ append_assoc head (so_far id trace ++ es) rest
              ∙ ap (λ (h : History). head ++ h)
              (ap (λ (h : History). h ++ rest) (sym (append_assoc (so_far id trace) front (entries.Finishing found.item.id (total_of found.item found.life) ∷ [])) ∙ ap (λ (h : History). h ++ entries.Finishing found.item.id (total_of found.item found.life) ∷ []) is)
              ∙ append_assoc (so_far id after) (entries.Finishing found.item.id (total_of found.item found.life) ∷ []) rest
              ∙ ap (λ (h : History). so_far id after ++ h) (done_is naming.digest) ∙ so_closed id scene.at after (Done (total_by scene trace) naming.digest)) in
              record {
                after = after;
                led_is = refl;
                lost_is = refl;
                rounds_are = refl;
                told_is = inr refl;
                close = Done (total_by scene trace) naming.digest;
                seen = trace.saves;
                shows = shows_done naming.digest (done_met may naming.digest naming.confirmed);
                recorded = before ++ es;
                failed = [];
                rest = rest;
                unpublished = λ none. ap (λ (i : ItemId). entries.Done i naming.digest at ∷ []) (id_same P found) ∙ ap (λ (a : ℕ). entries.Done id naming.digest a ∷ []) at_is;
                is = sym whole ∙ ap (λ (h : History). h ++ rest) (sym (append-nil (before ++ es)));
                goes = finish_goes es [] true (becomes_went old new es [] true naming.becomes) own;
                planned = planned;
              }

      journal_fell : FinishFell tells clock counts old new at found.item found.life → DeskFell true tells clock says far counts scene new trace NoCause
      journal_fell (inl fell) =
          fell_closing (saving found.item found.life) (saves_of P found) [] (close_entries id scene.at (Broken causes.Memory)) (Broken causes.Memory) refl tt (subst (Fell old new) (sym (append-nil (saving found.item found.life))) fell) (inl refl)
      journal_fell (inr (inl file)) = fell_file [] bare_saved file.1.behind file.1.is file.1.fell
      journal_fell (inr (inr (inl tail))) = tail_fell tail.behind tail.is tail.fell
      journal_fell (inr (inr (inr naming))) = naming_fell naming

    file_over : (kind : DiskKind) → FinishBroke old new kind found.item found.life → (saves : List (List Slice)) × DeskOver tells clock says far counts scene new (with_saves trace saves) (Broken (causes.File kind))
    file_over kind (inl bare) = over_closing [] bare_saved (Broken (causes.File kind)) (entries.Broke found.item.id (reason_of_file kind) ∷ []) (broke_is (causes.File kind)) (broke_own (causes.File kind)) bare.1
    file_over kind (inr behind) =
        over_closing (saving found.item found.life) (saves_of P found) (Broken (causes.File kind)) (entries.Broke found.item.id (reason_of_file kind) ∷ []) (broke_is (causes.File kind)) (broke_own (causes.File kind)) behind

  module _ (told : IsSome (told_by scene trace.told).key) (at : ℕ) (at_is : at ≡ scene.at) where
    still : new ≡ old → LiveDesk tells clock says far counts scene pass new trace
    still same = subst (λ (view : View D O). LiveDesk tells clock says far counts scene pass view trace) (sym same) live

    pub finish_done : FinishAnswers tells clock counts old new pass at (Ok finished.Complete) → FinishLeaves tells clock says far counts scene pass old new trace (Ok true)
    unfolding done_met
    finish_done found =
        let P = IsFinished tells clock old new at in
        let over = over_closing (saving found.item found.life) (saves_of P found) (Done (total_by scene trace) found.is.digest) (finishing_entries found.item found.life found.is.digest at) (done_is P found at at_is found.is.digest)
        (done_own P found at at_is found.is.digest) found.is.recorded in
        let met = done_met P found at at_is found.is.may found.is.digest found.is.confirmed in
        record { digest = found.is.digest; full = met.full; stated = met.stated; sum = met.sum; saves = over.0; over = over.1 }

    pub finish_differs : (have wanted : List ℕ) → FinishAnswers tells clock counts old new pass at (Ok (finished.Mismatch have wanted)) → FinishLeaves tells clock says far counts scene pass old new trace (Err (stops.Recorded reasons.FileHashMismatch))
    finish_differs have wanted found =
        let P : Item → Life → Type 0 = λ item life. MayFinish item life × Differs tells clock old.disk item life have wanted × Recorded old new (saving item life ++ entries.Broke item.id reasons.FileHashMismatch ∷ []) in
        let cause = causes.DigestDiffers have wanted in
        let over = over_closing (saving found.item found.life) (saves_of P found) (Broken cause) (entries.Broke found.item.id reasons.FileHashMismatch ∷ []) (broke_is P found at at_is cause) (broke_own P found at at_is cause) found.is.2 in
        record { cause = cause; reason_is = refl; met = inl (differs_met P found at at_is found.is.0 have wanted found.is.1); asked = refl; saves = over.0; over = over.1 }

    pub finish_short : (have wanted : ℕ) → FinishAnswers tells clock counts old new pass at (Ok (finished.Short have wanted)) → FinishLeaves tells clock says far counts scene pass old new trace (Err (stops.Recorded reasons.FileTooShort))
    finish_short have wanted found =
        let P : Item → Life → Type 0 = λ item life. MayFinish item life × EndsEarly tells clock old.disk item life have wanted × Recorded old new (saving item life ++ entries.Broke item.id reasons.FileTooShort ∷ []) in
        let cause = causes.PartShort have wanted in
        let over = over_closing (saving found.item found.life) (saves_of P found) (Broken cause) (entries.Broke found.item.id reasons.FileTooShort ∷ []) (broke_is P found at at_is cause) (broke_own P found at at_is cause) found.is.2 in
        record { cause = cause; reason_is = refl; met = inl (early_met P found at at_is found.is.0 have wanted found.is.1); asked = tt; saves = over.0; over = over.1 }

    pub finish_ok : (f : Finished) → FinishAnswers tells clock counts old new pass at (Ok f) → FinishLeaves tells clock says far counts scene pass old new trace (finished_by f)
    finish_ok finished.Complete found = finish_done found
    finish_ok (finished.Mismatch have wanted) found = finish_differs have wanted found
    finish_ok (finished.Short have wanted) found = finish_short have wanted found

    pub finish_hole : (fault : DeskFault) → finish_stop fault ≡ None → FinishAnswers tells clock counts old new pass at (Err fault) → FinishLeaves tells clock says far counts scene pass old new trace (Ok false)
    finish_hole (faults.NotNext place) is answer =
        let P = HasHole place in
        let found = answer.cause in
        ((place, subst (λ (t : ℕ). IsFirstMissing t (cover_by scene trace) place) (total_same P found) (subst (λ (c : List Slice). IsFirstMissing (total_of found.item found.life) c place) (cover_same P found) found.is.first)), still answer.same)
    finish_hole faults.NoMemory is answer = absurd (none-some stops.NoMemory (sym is))
    finish_hole faults.Broken is answer = absurd (none-some (stops.Fault faults.Broken) (sym is))
    finish_hole (faults.NoItem id) is answer = absurd (none-some (stops.Fault (faults.NoItem id)) (sym is))
    finish_hole (faults.Stale attempt round) is answer = absurd (none-some (stops.Fault (faults.Stale attempt round)) (sym is))
    finish_hole (faults.WrongState phase) is answer = absurd (none-some (stops.Fault (faults.WrongState phase)) (sym is))
    finish_hole (faults.PastEnd end) is answer = absurd (none-some (stops.Fault (faults.PastEnd end)) (sym is))
    finish_hole (faults.CheckpointDue bytes) is answer = absurd (none-some (stops.Fault (faults.CheckpointDue bytes)) (sym is))
    finish_hole (faults.ItemsFull count) is answer = absurd (none-some (stops.Fault (faults.ItemsFull count)) (sym is))
    finish_hole (faults.WordTaken id) is answer = absurd (none-some (stops.Fault (faults.WordTaken id)) (sym is))
    finish_hole (faults.File kind) is answer = absurd (none-some (stops.Fault (faults.File kind)) (sym is))
    finish_hole (faults.Journal kind) is answer = absurd (none-some (stops.Fault (faults.Journal kind)) (sym is))
    finish_hole (faults.Damaged place) is answer = absurd (none-some (stops.Fault (faults.Damaged place)) (sym is))

    left : (fault : DeskFault) (leaves : FaultLeaves true tells clock says far counts scene new trace fault) (stop : Stop) → Some (stops.Fault fault) ≡ Some stop → FinishLeaves tells clock says far counts scene pass old new trace (Err stop)
    left fault leaves stop is = subst (λ (s : Stop). FinishLeaves tells clock says far counts scene pass old new trace (Err s)) (same_Some (stops.Fault fault) stop is) leaves

    since : (kind : DiskKind) → Rose (counts old.disk kind) (counts new.disk kind) → Rose (counts scene.start.disk kind) (counts new.disk kind)
    since kind rose = rose_later (counts scene.start.disk kind) (counts old.disk kind) (counts new.disk kind) (live.goes.later kind) rose

    pub finish_left : (fault : DeskFault) (stop : Stop) → finish_stop fault ≡ Some stop → FinishAnswers tells clock counts old new pass at (Err fault) → Raises fault → FinishLeaves tells clock says far counts scene pass old new trace (Err stop)
    finish_left faults.Broken stop is answer rose = absurd (not_broken old.broken live.goes.went.broken_is answer.broken)
    finish_left (faults.NoItem i) stop is answer rose = absurd (not_declined old pass.id pass.attempt (IsTraced scene trace) (gones.NoItem i) live.runs answer.cause)
    finish_left (faults.Stale attempt round) stop is answer rose = absurd (not_declined old pass.id pass.attempt (IsTraced scene trace) (gones.Stale attempt round) live.runs answer.cause)
    finish_left (faults.WrongState phase) stop is answer rose =
        let found = answer.cause in
        absurd (told_untold found.item (subst IsSome (sym (of_told (IsUntold phase) found (λ i. i.key) (ap (λ (i : Item). i.key) (all_saves id trace.saves (told_by scene trace.told))))) told) found.is.untold)
    finish_left (faults.NotNext place) stop is answer rose = absurd (none-some stop is)
    finish_left faults.NoMemory stop is answer rose = subst (λ (s : Stop). FinishLeaves tells clock says far counts scene pass old new trace (Err s)) (same_Some stops.NoMemory stop is) (still answer.same)
    finish_left (faults.File kind) stop is answer rose =
        left (faults.File kind) (since kind rose, file_over (λ item life. MayFinish item life × FinishBroke old new kind item life) answer at at_is kind answer.is.1) stop is
    finish_left (faults.Journal kind) stop is answer rose =
        left (faults.Journal kind) (since kind rose, journal_fell (λ item life. MayFinish item life × FinishFell tells clock counts old new at item life) answer at at_is answer.is.0 answer.is.1) stop is
    finish_left (faults.PastEnd end) stop is answer rose = absurd answer
    finish_left (faults.CheckpointDue bytes) stop is answer rose = absurd answer
    finish_left (faults.ItemsFull count) stop is answer rose = absurd answer
    finish_left (faults.WordTaken i) stop is answer rose = absurd answer
    finish_left (faults.Damaged place) stop is answer rose = absurd answer
