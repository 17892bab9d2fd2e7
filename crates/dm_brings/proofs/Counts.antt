-- The entries of an attempt are those of its item, and its interruption was counted where it is one by a kind of fault.
use Rattle.std.proofs.Common.{◌≡◌, inl, inr, ℕ, Bool, true, false, cond, List, [], ◌∷◌, ◌++◌, map, Option, Some, None, refl, sym, subst, ◌+◌}
use Rattle.std.specs.List.{AllByRecursion}
use Rattle.dm_types.specs.Faults.{Rose}
use Rattle.dm_types.specs.declared.entry.Entry.{Entry}
use Rattle.dm_types.specs.declared.entry.Entry.TheVariants as entries
use Rattle.dm_types.specs.declared.item.ItemId.{ItemId}
use Rattle.dm_types.specs.declared.kinds.DiskKind.{DiskKind}
use Rattle.dm_types.specs.declared.kinds.DiskKind.TheVariants as kinds
use Rattle.dm_types.specs.declared.slices.Slice.{Slice}
use Rattle.dm_disk_model.specs.Disk.{History as Clock}
use Rattle.dm_item.specs.Lawful.{History}
use Rattle.dm_kept.specs.Files.{Says}
use Rattle.dm_policy.specs.Cause.{reason_of_cause, reason_of_file}
use Rattle.dm_policy.specs.declared.cause.Cause.{Cause}
use Rattle.dm_policy.specs.declared.cause.Cause.TheVariants as causes
use Rattle.dm_store.specs.View.{View}
use Rattle.dm_answers.specs.Begin.{because_of, beginning, begins_anew, epoch_behind, pass_of}
use Rattle.dm_attempt.specs.Ending.{IsDeskCause}
use Rattle.dm_attempt.specs.Scene.{Scene}
use Rattle.dm_attempt.specs.Live.{all_entries}
use Rattle.dm_attempt.specs.Shows.{BeginMet, FileMet, ShowsClose, ShowsEnd}
use Rattle.dm_attempt.specs.Trace.{Broken, Close, Done, Tale, Trace, close_entries, entries_behind, told_entries}
use Rattle.dm_store.specs.declared.pass.Pass.{Pass}
use Rattle.dm_does.specs.Answering.{IsCounted, IsOfAttempt}
use Rattle.dm_does.specs.World.{World}

-- an entry behind others
pub all_append : {X : Type 0} (P : X → Type 0) (a b : List X) → AllByRecursion P a → AllByRecursion P b → AllByRecursion P (a ++ b)
all_append P [] b first second = second
all_append P (x ∷ a) b first second = (first.0, all_append P a b first.1 second)

-- and the first of them
pub all_front : {X : Type 0} (P : X → Type 0) (a b : List X) → AllByRecursion P (a ++ b) → AllByRecursion P a
all_front P [] b all = tt
all_front P (x ∷ a) b all = (all.0, all_front P a b all.1)

pub all_wider : {X : Type 0} (P Q : X → Type 0) (a : List X) → ((x : X) → P x → Q x) → AllByRecursion P a → AllByRecursion Q a
all_wider P Q [] wider all = tt
all_wider P Q (x ∷ a) wider all = (wider x all.0, all_wider P Q a wider all.1)

module _ (from to : World) where
  -- a call on the files
  pub file_counted : (kind : DiskKind) → Rose (from.disk_faults kind) (to.disk_faults kind) → IsCounted from to (reason_of_file kind)
  file_counted kinds.Failed rose = tt
  file_counted kinds.Denied rose = rose
  file_counted kinds.NoSpace rose = rose
  file_counted kinds.NameTooLong rose = rose

  file_met : (cause : Cause) → FileMet from.disk_faults to.disk_faults cause → IsCounted from to (reason_of_cause cause)
  file_met cause met = subst (λ (c : Cause). IsCounted from to (reason_of_cause c)) (sym met.is) (file_counted met.kind met.rose)

  -- what the desk shows has no kind
  module _ {D O : Type 0} (tells : Type 0) (clock : D → Clock) (says : O → Says) (far : D → ℕ) (counts : D → DiskKind → ℕ) (scene : Scene D O) (pass : Pass) (trace : Trace) where
    shows_counted : (desk : View D O) (cause : Cause) → ShowsEnd tells clock scene desk trace cause → IsCounted from to (reason_of_cause cause)
    shows_counted desk causes.NamesTaken shows = tt
    shows_counted desk (causes.DigestDiffers have wanted) shows = tt
    shows_counted desk (causes.PartShort have wanted) shows = tt
    shows_counted desk cause shows = absurd shows

    begin_counted : (cause : Cause) → BeginMet tells clock scene trace cause → IsCounted from to (reason_of_cause cause)
    begin_counted cause met = subst (λ (c : Cause). IsCounted from to (reason_of_cause c)) (sym met.is) tt

    pub desk_counted : (cause : Cause) → IsDeskCause tells clock says far counts scene pass trace cause → IsCounted from to (reason_of_cause cause)
    desk_counted cause (inl met) = shows_counted met.desk cause met.is
    desk_counted cause (inr met) = begin_counted cause met

  -- an attempt closes with a file, or by a cause that was counted
  abbrev pub ClosesCounted : Close → Type 0
  ClosesCounted (Broken cause) = IsCounted from to (reason_of_cause cause)
  ClosesCounted (Done total digest) = Unit {0}

  -- what was to close an attempt where the journal failed
  pub close_counted : {D O : Type 0} (came : Bool) (tells : Type 0) (clock : D → Clock) (says : O → Says) (far : D → ℕ) (counts : D → DiskKind → ℕ) (scene : Scene D O) (present : View D O) (trace : Trace) (P : Cause → Type 0) (close : Close)
      → counts scene.start.disk ≡ from.disk_faults → counts present.disk ≡ to.disk_faults → ((cause : Cause) → P cause → IsCounted from to (reason_of_cause cause)) → ShowsClose came tells clock says far counts scene present trace P close
      → ClosesCounted close
  close_counted came tells clock says far counts scene present trace P (Done total digest) start end each shows = tt
  close_counted came tells clock says far counts scene present trace P (Broken cause) start end each (inl memory) = subst (λ (c : Cause). IsCounted from to (reason_of_cause c)) (sym memory) tt
  close_counted came tells clock says far counts scene present trace P (Broken cause) start end each (inr (inl met)) = each cause met
  close_counted came tells clock says far counts scene present trace P (Broken cause) start end each (inr (inr (inl met))) =
      file_met cause (subst (λ (before : DiskKind → ℕ). FileMet before to.disk_faults cause) start (subst (λ (after : DiskKind → ℕ). FileMet (counts scene.start.disk) after cause) end met))
  close_counted came tells clock says far counts scene present trace P (Broken cause) start end each (inr (inr (inr (inl met)))) = shows_counted tells clock says far counts scene (pass_of scene.item) trace met.desk cause met.is
  close_counted came tells clock says far counts scene present trace P (Broken cause) start end each (inr (inr (inr (inr met)))) = begin_counted tells clock says far counts scene (pass_of scene.item) trace cause met

  module _ (id : ItemId) (at : ℕ) where
    abbrev Of : Entry → Type 0
    Of = IsOfAttempt from to id at

    begins_of : (test : Bool) (e : Entry) (rest : History) → Of e → AllByRecursion Of rest → AllByRecursion Of (cond test (e ∷ []) [] ++ rest)
    begins_of true e rest of all = (of, all)
    begins_of false e rest of all = all

    told_of : (told : Option Tale) → AllByRecursion Of (told_entries id told)
    told_of None = tt
    told_of (Some tale) = (refl, tt)

    saves_of : (saves : List (List Slice)) → AllByRecursion Of (map (entries.Progress id) saves)
    saves_of [] = tt
    saves_of (slices ∷ saves) = (refl, saves_of saves)

    closes_of : (close : Close) → ClosesCounted close → AllByRecursion Of (close_entries id at close)
    closes_of (Broken cause) counted = ((refl, counted), tt)
    closes_of (Done total digest) counted = (refl, ((refl, refl), tt))

    -- all entries of an attempt on the item, for this moment
    pub entries_of : {D O : Type 0} (scene : Scene D O) (trace : Trace) (close : Close) → scene.item.id ≡ id → scene.at ≡ at → ClosesCounted close → AllByRecursion Of (all_entries scene trace close)
    entries_of scene trace close same moment counted =
        subst (λ (n : ℕ). AllByRecursion Of (beginning scene.item scene.by n ++ entries_behind scene.item.id n trace close)) (sym moment)
        (all_append Of (beginning scene.item scene.by at) (entries_behind scene.item.id at trace close)
        (begins_of (begins_anew scene.item) (entries.Restarted scene.item.id (record { 0 = epoch_behind scene.item }) (because_of scene.item)) (entries.Began scene.item.id (record { 0 = scene.item.attempt.0 + 1 }) scene.by at ∷ []) same ((same, refl), tt))
        (subst (λ (i : ItemId). AllByRecursion Of (entries_behind i at trace close)) (sym same)
        (all_append Of (told_entries id trace.told) (map (entries.Progress id) trace.saves ++ close_entries id at close) (told_of trace.told)
        (all_append Of (map (entries.Progress id) trace.saves) (close_entries id at close) (saves_of trace.saves) (closes_of close counted)))))
