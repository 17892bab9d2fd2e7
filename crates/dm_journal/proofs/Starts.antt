-- The calls by which a journal is started, over the disk's moments.
use Rattle.std.proofs.Common.{◌≡◌, inl, inr, ℕ, List, [], ◌++◌, length, drop, Some, None, Result, Ok, Err, OnOk, refl, sym, ◌∙◌, ap, subst, arith, length-drop}
use Rattle.std.proofs.lemmas.List.{append-nil}
use Rattle.std.specs.Result.{IsErr}
use Rattle.dm_disk_model.specs.declared.place.Area.TheVariants.{State}
use Rattle.dm_disk_model.specs.declared.place.DiskFault.{DiskFault}
use Rattle.dm_disk_model.specs.File.{File, IsWritten, IsTorn, IsSynced, empty_file, overwrite, settled_file}
use Rattle.dm_disk_model.specs.Folder.{Names, Removed, Renamed, with_name, names_of}
use Rattle.dm_disk_model.specs.Firm.{HasFile}
use Rattle.dm_disk_model.specs.Names.{NeverStands}
use Rattle.dm_disk_model.specs.Moments.{Throughout, Reached, LeavesOnly, KeepsFiles}
use Rattle.dm_disk_model.specs.Disk.{DiskState, Image, History, Next, MayLeave, IsSoundDisk, StandsNot, CreateStep, WriteStep, SyncStep, RenameStep, RemoveStep, SyncNamesStep, now}
use Rattle.dm_disk_model.proofs.PendingNames.{names_more, with_name_same}
use Rattle.dm_disk_model.proofs.FirmNames.{has_after_sync, none_left}
use Rattle.dm_disk_model.proofs.Reaching.{at_start, over_call, joined, weaker, at_end, reach, started}
use Rattle.dm_journal.specs.Text.{IsJournalText, front}
use Rattle.dm_journal.specs.AtRest.{journal_name, journal_place, AtRest}
use Rattle.dm_journal.proofs.Leaving.{overwrite_at_seam}
use Rattle.dm_journal.proofs.Fronts.{empty_of}
use Rattle.dm_journal.specs.Starting.{spare_name, spare_place, OldOr, NoneOrBlank, LeavesOldOr, IsAsBefore, HasSpare, IsTextFile, EndsIn}
use Rattle.dm_journal.proofs.Beginning.{GivesText, before_shows, spare_shows, given_shows, rest_shows, removed_before, created_spare, stepped_spare, renamed_given}

-- the spare file has its name, as it reads
pub record IsNamed (text : List ℕ) (start disk : DiskState) : Type 0 where
  pub given : GivesText text start disk
  pub named : names_of disk.state journal_name ≡ Some given.number

pub is_empty : File → Type 0
is_empty file = file ≡ empty_file

pub is_filled : List ℕ → File → Type 0
is_filled text file = file.bytes ≡ text

-- what is written into an empty file is all of it
overwrite_empty : (text : List ℕ) → overwrite [] 0 text ≡ text
overwrite_empty text =
    let none : drop {A = ℕ} (length text) [] ≡ [] = empty_of (drop {A = ℕ} (length text) []) (let cut = length-drop {A = ℕ} (length text) [] in omega (arith, cut)) in
    overwrite_at_seam [] [] text ∙ ap (λ (xs : List ℕ). text ++ xs) none ∙ append-nil text

-- a torn write keeps the file apart
anything : File → Type 0
anything file = Unit {0}

module _ (bodies : List (List ℕ)) (text : List ℕ) (is_text : IsJournalText bodies text) (start : History) (sound : IsSoundDisk (now start)) where
  -- a call that fails: what shows after it is enough
  fails : (S : DiskState → Type 0) (step : DiskState → DiskState → Type 0) (old new : History) → Reached start old (LeavesOldOr bodies (now start)) S → Next old new step → LeavesOldOr bodies (now start) (now new)
      → Throughout start new (LeavesOldOr bodies (now start))
  fails S step old new so_far next shows =
      joined start old new (LeavesOldOr bodies (now start)) so_far.through (over_call old new (LeavesOldOr bodies (now start)) step next (at_end start old (LeavesOldOr bodies (now start)) so_far.through) shows)

  -- where nothing was done, all shows as it did
  same_shows : (S : DiskState → Type 0) (old : History) (disk : DiskState) → Reached start old (LeavesOldOr bodies (now start)) S → disk ≡ now old → LeavesOldOr bodies (now start) disk
  same_shows S old disk so_far same = subst (LeavesOldOr bodies (now start)) (sym same) (at_end start old (LeavesOldOr bodies (now start)) so_far.through)

  pub removes : (result : Result (Unit {0}) DiskFault) (old new : History) → Reached start old (LeavesOldOr bodies (now start)) (IsAsBefore (now start)) → Next old new (RemoveStep spare_place result)
      → EndsIn bodies start new (IsAsBefore (now start)) result
  removes (Ok done) old new so_far next =
      reach start old new (LeavesOldOr bodies (now start)) (IsAsBefore (now start)) (IsAsBefore (now start)) (RemoveStep spare_place (Ok done)) so_far next
      (λ before after was step. removed_before (now start) before after step.0 step.1 was) (λ disk is. before_shows bodies (now start) disk sound is)
  removes (Err fault) old new so_far next = fails (IsAsBefore (now start)) (RemoveStep spare_place (Err fault)) old new so_far next (by (now new) next.stepped)
    where
      by : (disk : DiskState) → RemoveStep spare_place (Err fault) (now old) disk → LeavesOldOr bodies (now start) disk
      by disk (inl step) = before_shows bodies (now start) disk sound (removed_before (now start) (now old) disk step.0 step.1 so_far.here)
      by disk (inr same) = same_shows (IsAsBefore (now start)) old disk so_far same

  pub creates : (result : Result (Unit {0}) DiskFault) (old new : History) → Reached start old (LeavesOldOr bodies (now start)) (IsAsBefore (now start)) → Next old new (CreateStep spare_place result)
      → EndsIn bodies start new (HasSpare (now start) is_empty) result
  unfolding is_empty
  creates (Ok done) old new so_far next =
      reach start old new (LeavesOldOr bodies (now start)) (IsAsBefore (now start)) (HasSpare (now start) is_empty) (CreateStep spare_place (Ok done)) so_far next
      (λ before after was step. created_spare (now start) before after step.0 step.1 was) (λ disk is. spare_shows bodies (now start) is_empty disk sound is)
  creates (Err fault) old new so_far next = fails (IsAsBefore (now start)) (CreateStep spare_place (Err fault)) old new so_far next (by (now new) next.stepped)
    where
      by : (disk : DiskState) → CreateStep spare_place (Err fault) (now old) disk → LeavesOldOr bodies (now start) disk
      by disk (inl step) = spare_shows bodies (now start) (λ file. file ≡ empty_file) disk sound (created_spare (now start) (now old) disk step.0 step.1 so_far.here)
      by disk (inr same) = same_shows (IsAsBefore (now start)) old disk so_far same

  fills : (old new : File) → is_empty old → IsWritten 0 text old new → is_filled text new
  unfolding is_empty is_filled
  fills old new empty written = written.bytes ∙ ap (λ (file : File). overwrite file.bytes 0 text) empty ∙ overwrite_empty text

  pub writes : (result : Result (Unit {0}) DiskFault) (old new : History) → Reached start old (LeavesOldOr bodies (now start)) (HasSpare (now start) is_empty) → Next old new (WriteStep spare_place 0 text result)
      → EndsIn bodies start new (HasSpare (now start) (is_filled text)) result
  unfolding anything
  writes (Ok done) old new so_far next =
      reach start old new (LeavesOldOr bodies (now start)) (HasSpare (now start) is_empty) (HasSpare (now start) (is_filled text)) (WriteStep spare_place 0 text (Ok done)) so_far next
      (λ before after was step. stepped_spare (now start) before after is_empty (is_filled text) (IsWritten 0 text) fills step.0 step.1 was) (λ disk is. spare_shows bodies (now start) (is_filled text) disk sound is)
  writes (Err fault) old new so_far next = fails (HasSpare (now start) is_empty) (WriteStep spare_place 0 text (Err fault)) old new so_far next (by (now new) next.stepped)
    where
      by : (disk : DiskState) → WriteStep spare_place 0 text (Err fault) (now old) disk → LeavesOldOr bodies (now start) disk
      by disk (inl step) =
          spare_shows bodies (now start) anything disk sound (stepped_spare (now start) (now old) disk is_empty anything (IsTorn 0 (length text)) (λ f g was torn. tt) step.0 step.1 so_far.here)
      by disk (inr same) = same_shows (HasSpare (now start) is_empty) old disk so_far same

  settles : (old new : File) → is_filled text old → IsSynced old new → IsTextFile text new
  unfolding is_filled
  settles old new filled synced = synced ∙ ap settled_file filled

  pub syncs : (result : Result (Unit {0}) DiskFault) (old new : History) → Reached start old (LeavesOldOr bodies (now start)) (HasSpare (now start) (is_filled text)) → Next old new (SyncStep spare_place result)
      → EndsIn bodies start new (HasSpare (now start) (IsTextFile text)) result
  syncs (Ok done) old new so_far next =
      reach start old new (LeavesOldOr bodies (now start)) (HasSpare (now start) (is_filled text)) (HasSpare (now start) (IsTextFile text)) (SyncStep spare_place (Ok done)) so_far next
      (λ before after was step. stepped_spare (now start) before after (is_filled text) (IsTextFile text) IsSynced settles step.0 step.1 was) (λ disk is. spare_shows bodies (now start) (IsTextFile text) disk sound is)
  syncs (Err fault) old new so_far next = fails (HasSpare (now start) (is_filled text)) (SyncStep spare_place (Err fault)) old new so_far next (by (now new) next.stepped)
    where
      by : (disk : DiskState) → SyncStep spare_place (Err fault) (now old) disk → LeavesOldOr bodies (now start) disk
      by disk same = same_shows (HasSpare (now start) (is_filled text)) old disk so_far same

  pub renames : (result : Result (Unit {0}) DiskFault) (old new : History) → Reached start old (LeavesOldOr bodies (now start)) (HasSpare (now start) (IsTextFile text)) → Next old new (RenameStep spare_place journal_place result)
      → EndsIn bodies start new (IsNamed text (now start)) result
  renames (Ok done) old new so_far next =
      reach start old new (LeavesOldOr bodies (now start)) (HasSpare (now start) (IsTextFile text)) (IsNamed text (now start)) (RenameStep spare_place journal_place (Ok done)) so_far next
      (λ before after was step. record {
        given = renamed_given (now start) before after text step.0 step.1 was;
        named = ap (λ (names : Names). names journal_name) (names_more before.state after.state (Renamed spare_name journal_name) step.0.synced step.0.changes)
            ∙ with_name_same (with_name (names_of before.state) spare_name None) journal_name (names_of before.state spare_name) ∙ was.named;
      })
      (λ disk is. given_shows bodies text is_text (now start) disk sound is.given)
  renames (Err fault) old new so_far next = fails (HasSpare (now start) (IsTextFile text)) (RenameStep spare_place journal_place (Err fault)) old new so_far next (by (now new) next.stepped)
    where
      by : (disk : DiskState) → RenameStep spare_place journal_place (Err fault) (now old) disk → LeavesOldOr bodies (now start) disk
      by disk (inl step) = given_shows bodies text is_text (now start) disk sound (renamed_given (now start) (now old) disk text step.0 step.1 so_far.here)
      by disk (inr same) = same_shows (HasSpare (now start) (IsTextFile text)) old disk so_far same

  -- with the names synced, the journal of no bodies rests
  rests : (old new : DiskState) → IsNamed text (now start) old → SyncNamesStep State (Ok tt) old new → AtRest new (length (front bodies)) bodies × (new.files ≡ (now start).files)
  rests old new named step = (
    record {
      bytes = text;
      file = subst (λ (f : File). HasFile new.state journal_name f) named.given.holds (has_after_sync old.state new.state journal_name named.given.number named.named step.0);
      text = is_text;
      at = refl;
    },
    step.1 ∙ named.given.files,
  )

  pub names : (result : Result (Unit {0}) DiskFault) (old new : History) → Reached start old (LeavesOldOr bodies (now start)) (IsNamed text (now start)) → Next old new (SyncNamesStep State result)
      → EndsIn bodies start new (λ disk. AtRest disk (length (front bodies)) bodies) result
  names (Ok done) old new so_far next =
      let here = rests (now old) (now new) so_far.here next.stepped in
      record { through = fails (IsNamed text (now start)) (SyncNamesStep State (Ok done)) old new so_far next (rest_shows bodies (length (front bodies)) (now start) (now new) here.1 here.0); here = here.0 }
  names (Err fault) old new so_far next = fails (IsNamed text (now start)) (SyncNamesStep State (Err fault)) old new so_far next (by (now new) next.stepped)
    where
      by : (disk : DiskState) → SyncNamesStep State (Err fault) (now old) disk → LeavesOldOr bodies (now start) disk
      by disk same = same_shows (IsNamed text (now start)) old disk so_far same

-- what was removed doesn't stand
pub removed_stands_not : (result : Result (Unit {0}) DiskFault) (old new : DiskState) → RemoveStep spare_place result old new → OnOk result (StandsNot new spare_place)
removed_stands_not (Ok done) old new step =
    ap (λ (n : Names). n spare_name) (names_more old.state new.state (Removed spare_name) step.0.synced step.0.changes) ∙ with_name_same (names_of old.state) spare_name None
removed_stands_not (Err fault) old new step = tt

-- an answer that is a fault
pub ends_failed : (bodies : List (List ℕ)) (start new : History) (P : DiskState → Type 0) (result : Result (Unit {0}) DiskFault) → IsErr result → Throughout start new (LeavesOldOr bodies (now start)) → EndsIn bodies start new P result
ends_failed bodies start new P (Ok done) failed through = absurd (let never = failed in cc)
ends_failed bodies start new P (Err fault) failed through = through

-- before anything was done
pub start_before : (bodies : List (List ℕ)) (start : History) → IsSoundDisk (now start) → Reached start start (LeavesOldOr bodies (now start)) (IsAsBefore (now start))
start_before bodies start sound =
    let before : IsAsBefore (now start) (now start) = record { journal = λ count. record { survive = count; named = refl; same = λ k is. refl }; files = refl } in
    started start (LeavesOldOr bodies (now start)) (IsAsBefore (now start)) (before_shows bodies (now start) (now start) sound before) before

-- what shows at each moment, for the crates above
pub shown_moments : (bodies : List (List ℕ)) (start new : History) → Throughout start new (LeavesOldOr bodies (now start)) → LeavesOnly start new (OldOr bodies (now start))
shown_moments bodies start new through = weaker start new (LeavesOldOr bodies (now start)) (λ disk. (image : Image) → MayLeave disk image → OldOr bodies (now start) image) (λ disk shows. shows.1) through

pub shown_files : (bodies : List (List ℕ)) (start new : History) → Throughout start new (LeavesOldOr bodies (now start)) → KeepsFiles start new
shown_files bodies start new through = weaker start new (LeavesOldOr bodies (now start)) (λ disk. disk.files ≡ (now start).files) (λ disk shows. shows.0) through

-- where no crash left a journal before
old_or_blank : (disk : DiskState) (image : Image) → NeverStands journal_place disk → OldOr [] disk image → NoneOrBlank image
old_or_blank disk image never (inl old) = inl (old.journal ∙ none_left disk.state journal_name old.before.state never old.left.state)
old_or_blank disk image never (inr blank) = inr blank

pub shown_fresh : (start new : History) → NeverStands journal_place (now start) → Throughout start new (LeavesOldOr [] (now start)) → LeavesOnly start new NoneOrBlank
shown_fresh start new never through =
    weaker start new (LeavesOldOr [] (now start)) (λ disk. (image : Image) → MayLeave disk image → NoneOrBlank image) (λ disk shows image left. old_or_blank (now start) image never (shows.1 image left)) through

-- where nothing was done, each image is one that the start may leave
pub same_moments : (bodies : List (List ℕ)) (start : History) → LeavesOnly start start (OldOr bodies (now start))
same_moments bodies start =
    at_start start (λ disk. (image : Image) → MayLeave disk image → OldOr bodies (now start) image) (λ image left. inl (record { before = image; left = left; journal = refl; files = refl }))
