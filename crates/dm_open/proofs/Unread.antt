-- Where no journal was read.
use Rattle.std.proofs.Common.{◌≡◌, ◌⊎◌, inl, inr, ℕ, Bool, true, false, List, [], ◌++◌, Option, Some, None, refl, sym, ◌∙◌, ap, subst}
use Rattle.std.specs.Option.{option_map}
use Rattle.dm_types.specs.declared.kinds.DiskKind.{DiskKind}
use Rattle.dm_disk_model.specs.Disk.{DiskState, Image, History as Clock, IsSoundDisk, MayLeave, StandsNot, bytes_at, folder_in, now, reading}
use Rattle.dm_disk_model.specs.Folder.{Folder}
use Rattle.dm_disk_model.specs.Moments.{KeepsFiles, LeavesOnly, Throughout}
use Rattle.dm_disk_model.proofs.Reaching.{at_end, at_start, both, weaker}
use Rattle.dm_item.specs.Lawful.{History, items_of}
use Rattle.dm_journal.specs.AtRest.{journal_place}
use Rattle.dm_journal.specs.Starting.{NoneOrBlank, WasLeft}
use Rattle.dm_journal.specs.declared.fault.JournalFault.TheVariants as journals
use Rattle.dm_kept.specs.Files.{Says, says_all}
use Rattle.dm_kept.specs.Kept.{Kept, Recovers}
use Rattle.dm_kept.specs.Recovery.{Through, recovered}
use Rattle.dm_kept.specs.Spelled.{Records}
use Rattle.dm_kept.proofs.Histories.{records_one}
use Rattle.dm_kept.proofs.Resting as resting
use Rattle.dm_store.specs.Keeps.{HoldsOf, IsDesk}
use Rattle.dm_store.specs.Lives.{covers_of}
use Rattle.dm_store.specs.View.{View}
use Rattle.dm_answers.specs.Opening.{IsRead, IsUntried, LeavesSome, OnlyBefore, OpenFails, StaysUnread, reopening}
use Rattle.dm_answers.specs.Settling.{finishing}
use Rattle.dm_answers.specs.declared.fault.OpenFault.TheVariants as opens
use Rattle.dm_find.specs.Finding.{FindFails, FindLeaves, IsUnread}
use Rattle.dm_open.specs.Refused.{KeepsUnread, NoneRead, StaysDamaged}
use Rattle.dm_open.proofs.Opened.{RunsOr, blank_recovers, stays_kept, through_none}
use Rattle.dm_open.proofs.Resumed.{rests_broken}
use Rattle.dm_find.proofs.Founds.{was_left}
use Rattle.dm_disk_model.proofs.Images.{as_read}
use Rattle.std.proofs.lemmas.Bool.{false≢true}

none_reads : (start : DiskState) → bytes_at start journal_place ≡ None → Records (bytes_at start journal_place) []
none_reads start none = subst (λ (found : Option (List ℕ)). Records found []) (sym none) refl

module _ {D : Type 0} (tells : Type 0) (clock : D → Clock) (far : D → ℕ) (says : Says) (start new : D) (limit at : ℕ) (near : far new ≡ far start) (moments : LeavesOnly (clock start) (clock new) (FindLeaves (now (clock start)))) (files : KeepsFiles (clock start) (clock new)) where
  none_left : (disk : DiskState) (image : Image) → FindLeaves (now (clock start)) image → WasLeft (now (clock start)) image ⊎ Recovers false says_all (Through [] (reopening [] at)) disk.files image
  none_left disk image (inl left) = inl (was_left (now (clock start)) image left)
  none_left disk image (inr nothing) = inr (blank_recovers false says_all (Through [] (reopening [] at)) (through_none [] (reopening [] at)) disk.files image nothing.1)

  none_kept : (kept rest : History) → Kept true says (Through kept rest) (now (clock start)) → (disk : DiskState) → disk.files ≡ (now (clock start)).files → (image : Image) → FindLeaves (now (clock start)) image
      → Recovers true says (RunsOr kept rest [] (reopening [] at)) disk.files image
  none_kept kept rest is disk same image (inl left) =
      subst (λ (f : Folder). Recovers true says (RunsOr kept rest [] (reopening [] at)) f image) (sym same)
      (resting.recovers_weaker true says (Through kept rest) (RunsOr kept rest [] (reopening [] at)) (now (clock start)).files image (λ f through. inl through) (is image left))
  none_kept kept rest is disk same image (inr nothing) = blank_recovers true says (RunsOr kept rest [] (reopening [] at)) (inr (through_none [] (reopening [] at))) disk.files image nothing.1

  unread : IsUnread (clock start) (clock new) → IsUntried clock far start new ⊎ IsRead tells clock far says start new at
  unread (inl only) = inl (record { images = only; near = near })
  unread (inr nothing) = inr (record {
    found = [];
    recorded = [];
    failed = [];
    rest = reopening [] at;
    left = finishing (items_of ([] ++ reopening [] at));
    is = record { reads = λ told. none_reads (now (clock start)) nothing.0; settled = []; tried_is = refl; settles = refl };
    runs = record {
      leaves = weaker (clock start) (clock new) (λ disk. (image : Image) → MayLeave disk image → FindLeaves (now (clock start)) image) (LeavesSome (now (clock start)) [] (reopening [] at)) (λ disk each image left. none_left disk image (each image left)) moments;
      keeps = λ kept rest is.
          weaker (clock start) (clock new) (λ disk. ((image : Image) → MayLeave disk image → FindLeaves (now (clock start)) image) × (disk.files ≡ (now (clock start)).files)) (Kept true says (RunsOr kept rest [] (reopening [] at)))
          (λ disk here image left. none_kept kept rest is disk here.1 image (here.0 image left))
          (both (clock start) (clock new) (λ disk. (image : Image) → MayLeave disk image → FindLeaves (now (clock start)) image) (λ disk. disk.files ≡ (now (clock start)).files) moments files);
    };
    kept = λ good was image left. blank_recovers good says (Through [] []) refl (now (clock new)).files image (nothing.1 image left);
    near = λ short. near;
  })

  pub damaged_fails : (place : ℕ) → FindFails (clock start) (clock new) limit (journals.Damaged place) → OpenFails tells clock far says start limit at (opens.Damaged place new)
  damaged_fails place fails = record { damage = fails.0; unchanged = fails.1; near = near }

  pub disk_fails : (kind : DiskKind) → FindFails (clock start) (clock new) limit (journals.Disk kind) → OpenFails tells clock far says start limit at (opens.Disk kind new)
  disk_fails kind fails = unread fails

  pub memory_fails : FindFails (clock start) (clock new) limit journals.NoMemory → OpenFails tells clock far says start limit at (opens.NoMemory new)
  memory_fails fails = unread fails

-- A journal that reads stands at the start, so that none was started.
stands_left : (start : DiskState) (bytes : List ℕ) → bytes_at start journal_place ≡ Some bytes → (image : Image) → FindLeaves start image → MayLeave start image
stands_left start bytes reads image (inl left) = left
stands_left start bytes reads image (inr nothing) = absurd (none_some bytes (sym (ap (option_map (λ number. ((folder_in journal_place.area start).file number).bytes)) nothing.0) ∙ reads))
  where
    none_some : (found : List ℕ) → None ≡ Some found → ⊥
    none_some found same = absurd cc

-- The same as a clause of a refused opening.
module _ {D : Type 0} (tells : Type 0) (clock : D → Clock) (far : D → ℕ) (start new : D) (near : far new ≡ far start) (moments : tells → LeavesOnly (clock start) (clock new) (FindLeaves (now (clock start)))) where
  pub none_read : (says : Says) → (tells → KeepsFiles (clock start) (clock new)) → (tells → IsSoundDisk (now (clock start))) → NoneRead tells clock far says start new
  none_read says files sound = record {
    moments = moments;
    files = files;
    kept = λ told good earlier more was. stays_kept (clock start) (clock new) (moments told) (files told) (sound told) good says earlier more was;
    near = near;
  }

  pub stays_damaged : (limit place : ℕ) → (tells → FindFails (clock start) (clock new) limit (journals.Damaged place)) → tells → StaysDamaged clock far start new limit place
  stays_damaged limit place fails told =
      let failed = fails told in
      record {
        damaged = record { damage = failed.0; unchanged = failed.1; near = near };
        moments = weaker (clock start) (clock new) (λ disk. (image : Image) → MayLeave disk image → FindLeaves (now (clock start)) image) (λ disk. (image : Image) → MayLeave disk image → MayLeave (now (clock start)) image)
            (λ disk each image left. stands_left (now (clock start)) failed.0.bytes failed.0.reads image (each image left)) (moments told);
      }

-- For the journal and the user's files a crash leaves what one at the start might have, or none or one of no entries where nothing stood.
pub none_read_leaves : {D : Type 0} (tells : Type 0) (clock : D → Clock) (far : D → ℕ) (says : Says) (start end : D) → NoneRead tells clock far says start end → tells
    → LeavesOnly (clock start) (clock end) (λ image. WasLeft (now (clock start)) image ⊎ (StandsNot (now (clock start)) journal_place × NoneOrBlank image))
none_read_leaves tells clock far says start end none told =
    weaker (clock start) (clock end) (λ disk. (image : Image) → MayLeave disk image → FindLeaves (now (clock start)) image)
    (λ disk. (image : Image) → MayLeave disk image → WasLeft (now (clock start)) image ⊎ (StandsNot (now (clock start)) journal_place × NoneOrBlank image)) (λ disk each image left. by image (each image left)) (none.moments told)
  where
    by : (image : Image) → FindLeaves (now (clock start)) image → WasLeft (now (clock start)) image ⊎ (StandsNot (now (clock start)) journal_place × NoneOrBlank image)
    by image (inl left) = inl (was_left (now (clock start)) image left)
    by image (inr nothing) = inr nothing

-- A desk that stays as it was, broken.
module _ {D O : Type 0} (tells : Type 0) (clock : D → Clock) (far : D → ℕ) (old new : View D O) (same : new ≡ record old { disk = new.disk; broken = true }) (moments : tells → LeavesOnly (clock old.disk) (clock new.disk) (FindLeaves (now (clock old.disk))))
    (files : tells → KeepsFiles (clock old.disk) (clock new.disk)) (sound : tells → IsSoundDisk (now (clock old.disk))) where
  pub keeps_unread : (says : Says) → far new.disk ≡ far old.disk → KeepsUnread tells clock far says old new
  keeps_unread says near = record { same = same; none = none_read tells clock far old.disk new.disk near moments says files sound }

  pub holds_unread : (says : Says) → tells → (good : Bool) (history : History) → HoldsOf good says clock old history → HoldsOf good says clock new history
  holds_unread says told good history holds =
      subst (λ (v : View D O). HoldsOf good says clock v history) (sym same) (record {
        items = holds.items;
        rests = at_end (clock old.disk) (clock new.disk) (Kept good says (Through history old.failed))
            (stays_kept (clock old.disk) (clock new.disk) (moments told) (files told) (sound told) good says history old.failed
            (rests_broken old.broken good says history old.failed old.gate (covers_of old.lives) (now (clock old.disk)) holds.rests));
      })

  pub desk_unread : IsDesk tells clock old → IsDesk tells clock new
  desk_unread is = subst (IsDesk tells clock) (sym same) (record {
    limits_are = is.limits_are;
    limit = is.limit;
    founded = record {
      before = is.founded.before;
      entries = is.founded.entries;
      items = is.founded.items;
      holds = λ told. subst (λ (v : View D O). HoldsOf false says_all clock v (is.founded.before ++ old.list)) same (holds_unread says_all told false (is.founded.before ++ old.list) (is.founded.holds told));
    };
    failed = λ whole. absurd (false≢true (sym whole));
    lives = λ whole. absurd (false≢true (sym whole));
    bounded = is.bounded;
  })

  pub stays_unread : (says : Says) → (tells → IsUnread (clock old.disk) (clock new.disk)) → far new.disk ≡ far old.disk → StaysUnread tells clock far says old new
  stays_unread says unread near = record {
    same = same;
    holds = holds_unread says;
    images = λ told. by (unread told);
  } where
    by : IsUnread (clock old.disk) (clock new.disk) → IsUntried clock far old.disk new.disk ⊎ ((bytes_at (now (clock old.disk)) journal_place ≡ None) × (far new.disk ≡ far old.disk))
    by (inl only) = inl (record { images = only; near = near })
    by (inr nothing) = inr (nothing.0, near)

-- nothing was done
pub unmoved_leaves : (start : Clock) → LeavesOnly start start (FindLeaves (now start))
unmoved_leaves start = at_start start (λ disk. (image : Image) → MayLeave disk image → FindLeaves (now start) image) (λ image left. inl left)

pub unmoved_files : (start : Clock) → KeepsFiles start start
unmoved_files start = at_start start (λ disk. disk.files ≡ (now start).files) refl

pub unmoved_only : (start : Clock) → OnlyBefore start start
unmoved_only start image left = was_left (now start) image left
