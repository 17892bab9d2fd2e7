-- Under the names that calls don't name, a crash leaves what it might have left before, call by call and call after call.
use Rattle.std.proofs.Common.{◌≡◌, ◌≢◌, ℕ, List, ◌∷◌, [], ◌++◌, length, Bool, true, false, cond, Option, Some, None, Result, refl, sym, ◌∙◌, ap, subst, arith}
use Rattle.std.specs.Bool.{Decides}
use Rattle.std.specs.Option.{option_map}
use Rattle.std.specs.Str.{bytes_eq}
use Rattle.std.proofs.lemmas.List.{take_all}
use Rattle.std.proofs.lemmas.Slice.Eq.{bytes_eq-Decides}
use Rattle.dm_disk_model.specs.declared.place.Area.{Area}
use Rattle.dm_disk_model.specs.declared.place.Place.{Place}
use Rattle.dm_disk_model.specs.declared.place.DiskFault.{DiskFault}
use Rattle.dm_disk_model.specs.File.{File, FileLeaves, IsWritten, IsTorn, IsSynced}
use Rattle.dm_disk_model.specs.Folder.{Folder, Names, Contents, Change, Created, Renamed, Removed, NameLeaves, FileSteps, Creates, Changes, SyncsNames, EachPrefix, AreApart, IsSoundFolder, with_name, after_change, after_changes, names_of, names_after}
use Rattle.dm_disk_model.specs.Disk.{DiskState, History, Next, now, IsSoundDisk, CreateStep, WriteStep, SyncStep, RenameStep, RemoveStep, SyncNamesStep}
use Rattle.dm_disk_model.specs.Moments.{KeepsFiles}
use Rattle.dm_disk_model.specs.Beside.{WasUnder, LeftAsBefore, Besides, IsFirm, IsFirmBut, NeverShares}
use Rattle.dm_disk_model.proofs.PendingNames.{with_name_other, each_now, each_more, each_synced}
use Rattle.dm_disk_model.proofs.FirmNames.{each_same}
use Rattle.dm_disk_model.proofs.Images.{name_as_read}
use Rattle.dm_disk_model.proofs.Places.{after_done, after_whole}
use Rattle.dm_disk_model.proofs.Reaching.{at_start, at_end, over_call, joined, weaker}

-- It is the file that the name had at the start after some of the changes of names, and holds what it held.
pub record HadUnder (name : List ℕ) (start folder : Folder) (number : Option ℕ) : Type 0 where
  pub survive : ℕ
  pub named : names_after start survive name ≡ number
  pub same : (k : ℕ) → number ≡ Some k → folder.file k ≡ start.file k

-- contents with other bytes under one name
with_bytes : Contents → List ℕ → Option (List ℕ) → Contents
with_bytes contents name found other = cond (bytes_eq other name) found (contents other)

-- a property of each name, where one is set apart
set_apart : (contents : Contents) (name : List ℕ) (found : Option (List ℕ)) (P : List ℕ → Option (List ℕ) → Type 0) → P name found → ((other : List ℕ) → P other (contents other))
    → (other : List ℕ) → P other (with_bytes contents name found other)
unfolding with_bytes
set_apart contents name found P here others other = by (bytes_eq other name) (bytes_eq-Decides other name)
  where
    by : (b : Bool) → Decides b (other ≡ name) → P other (cond b found (contents other))
    by true same = subst (λ (n : List ℕ). P n found) (sym (same.0 refl)) here
    by false differs = others other

with_bytes_same : (contents : Contents) (name : List ℕ) (found : Option (List ℕ)) → found ≡ with_bytes contents name found name
unfolding with_bytes
with_bytes_same contents name found = ap (λ b. cond b found (contents name)) (sym ((bytes_eq-Decides name name).1 refl))

-- files that are the same leave the same
same_file_leaves : (new old : ℕ → File) (number : Option ℕ) (found : Option (List ℕ)) → ((k : ℕ) → number ≡ Some k → new k ≡ old k) → NameLeaves new number found → NameLeaves old number found
same_file_leaves new old None None same left = left
same_file_leaves new old None (Some bytes) same left = left
same_file_leaves new old (Some k) None same left = left
same_file_leaves new old (Some k) (Some bytes) same left = subst (λ (f : File). FileLeaves f bytes) (same k refl) left

-- what is left of such a file might have been left at the start
pub had_leaves : (start folder : Folder) (name : List ℕ) (number : Option ℕ) (found : Option (List ℕ)) → IsSoundFolder start → HadUnder name start folder number
    → NameLeaves folder.file number found → WasUnder start name found
had_leaves start folder name number found sound had here =
    let base : Contents = λ other. option_map (λ k. (start.file k).bytes) (names_after start had.survive other) in
    record {
      before = with_bytes base name found;
      left = record {
        survive = had.survive;
        each = set_apart base name found (λ other bytes. NameLeaves start.file (names_after start had.survive other) bytes)
            (subst (λ (n : Option ℕ). NameLeaves start.file n found) (sym had.named) (same_file_leaves folder.file start.file number found had.same here))
            (λ other. name_as_read start.file (names_after start had.survive other) sound.within);
      };
      same = with_bytes_same base name found;
    }

-- so too, whichever changes of names survive
each_had : (start folder : Folder) (name : List ℕ) → IsSoundFolder start → EachPrefix folder (λ names. HadUnder name start folder (names name)) → LeftAsBefore name start folder
each_had start folder name sound had contents left = had_leaves start folder name (names_after folder left.survive name) (contents name) sound (had left.survive) (left.each name)

pub left_same : (name : List ℕ) (folder : Folder) → LeftAsBefore name folder folder
left_same name folder contents left = record { before = contents; left = left; same = refl }

pub left_then : (name : List ℕ) (first middle last : Folder) → LeftAsBefore name first middle → LeftAsBefore name middle last → LeftAsBefore name first last
left_then name first middle last earlier later contents left =
    let there = later contents left in
    let here = earlier there.before there.left in
    record { before = here.before; left = here.left; same = there.same ∙ here.same }

-- A firm name, and a file that stands under another: no crash joins them.
module _ (name other : List ℕ) (apart : other ≢ name) (folder : Folder) (sound : IsSoundFolder folder) where
  pub never_by_name : IsFirm name folder → NeverShares name other folder
  never_by_name firm count number stands has =
      let read = each_now folder (λ names. names name ≡ firm.found) firm.named in
      apart (each_now folder AreApart sound.apart other name number stands (read ∙ sym (firm.named count) ∙ has))

  pub never_by_other : IsFirm other folder → NeverShares name other folder
  never_by_other firm count number stands has =
      let read = each_now folder (λ names. names other ≡ firm.found) firm.named in
      apart (sound.apart count other name number (firm.named count ∙ sym read ∙ stands) has)

-- The steps of a folder.
module _ (name : List ℕ) (old new : Folder) where
  -- the file of another name takes a step
  pub stepped_left : (other : List ℕ) (step : File → File → Type 0) → IsSoundFolder old → NeverShares name other old → FileSteps other step old new → LeftAsBefore name old new
  stepped_left other step sound never taken =
      each_had old new name sound
      (each_same old new (λ names. HadUnder name old new (names name)) taken.synced taken.changes
      (λ count. record { survive = count; named = refl; same = λ k has. taken.others k (λ (e : k ≡ taken.number). never count taken.number taken.stands (has ∙ ap Some e)) }))

  -- the names change elsewhere, and no file that this name may have changes
  changed_left : (change : Change) → IsSoundFolder old → after_change (names_of old) change name ≡ names_of old name → new.synced ≡ old.synced → new.changes ≡ old.changes ++ change ∷ []
      → ((count k : ℕ) → names_after old count name ≡ Some k → new.file k ≡ old.file k) → LeftAsBefore name old new
  changed_left change sound stays synced changes files =
      let P : Names → Type 0 = λ names. HadUnder name old new (names name) in
      let before : EachPrefix old P = λ count. record { survive = count; named = refl; same = files count } in
      each_had old new name sound (each_more old new change P synced changes before (subst (HadUnder name old new) (sym stays) (each_now old P before)))

  pub created_left : (other : List ℕ) → IsSoundFolder old → other ≢ name → Creates other old new → LeftAsBefore name old new
  created_left other sound apart made =
      changed_left (Created other made.number) sound (with_name_other (names_of old) other (Some made.number) name (λ e. apart (sym e))) made.synced made.changes
      (λ count k has. made.others k (λ (e : k ≡ made.number). made.unused count name (has ∙ ap Some e)))

  pub removed_left : (other : List ℕ) → IsSoundFolder old → other ≢ name → Changes (Removed other) old new → LeftAsBefore name old new
  removed_left other sound apart taken =
      changed_left (Removed other) sound (with_name_other (names_of old) other None name (λ e. apart (sym e))) taken.synced taken.changes
      (λ count k has. ap (λ (files : ℕ → File). files k) taken.files)

  pub renamed_left : (from to : List ℕ) → IsSoundFolder old → from ≢ name → to ≢ name → Changes (Renamed from to) old new → LeftAsBefore name old new
  renamed_left from to sound not_from not_to taken =
      changed_left (Renamed from to) sound
      (with_name_other (with_name (names_of old) from None) to (names_of old from) name (λ e. not_to (sym e)) ∙ with_name_other (names_of old) from None name (λ e. not_from (sym e)))
      taken.synced taken.changes
      (λ count k has. ap (λ (files : ℕ → File). files k) taken.files)

  pub synced_left : IsSoundFolder old → SyncsNames old new → LeftAsBefore name old new
  synced_left sound taken =
      each_had old new name sound
      (each_synced new (λ names. HadUnder name old new (names name)) taken.changes
      (record {
        survive = length old.changes;
        named = ap (λ (changes : List Change). after_changes old.synced changes name) (take_all (length old.changes) old.changes (omega arith)) ∙ ap (λ (names : Names). names name) (sym taken.synced);
        same = λ k has. ap (λ (files : ℕ → File). files k) taken.files;
      }))

-- The calls of a disk, whatever they answer.
module _ (name : List ℕ) (result : Result (Unit {0}) DiskFault) (old new : DiskState) (sound : IsSoundDisk old) where
  left_on : Folder → Type 0
  left_on folder = LeftAsBefore name old.files folder

  pub left_by_write : (place : Place) (at : ℕ) (bytes : List ℕ) → NeverShares name place.name old.files → WriteStep place at bytes result old new → LeftAsBefore name old.files new.files
  unfolding left_on
  left_by_write place at bytes never taken =
      after_done left_on place.area (FileSteps place.name (IsWritten at bytes)) (FileSteps place.name (IsTorn at (length bytes))) result old new
      (λ folder step. stepped_left name old.files folder place.name (IsWritten at bytes) sound.files never step)
      (λ folder step. stepped_left name old.files folder place.name (IsTorn at (length bytes)) sound.files never step)
      (left_same name old.files) taken

  pub left_by_sync : (place : Place) → NeverShares name place.name old.files → SyncStep place result old new → LeftAsBefore name old.files new.files
  unfolding left_on
  left_by_sync place never taken =
      after_whole left_on place.area (FileSteps place.name IsSynced) result old new
      (λ folder step. stepped_left name old.files folder place.name IsSynced sound.files never step)
      (left_same name old.files) taken

  pub left_by_create : (place : Place) → place.name ≢ name → CreateStep place result old new → LeftAsBefore name old.files new.files
  unfolding left_on
  left_by_create place apart taken =
      let keeps = λ (folder : Folder) (step : Creates place.name old.files folder). created_left name old.files folder place.name sound.files apart step in
      after_done left_on place.area (Creates place.name) (Creates place.name) result old new keeps keeps (left_same name old.files) taken

  pub left_by_rename : (from to : Place) → from.name ≢ name → to.name ≢ name → RenameStep from to result old new → LeftAsBefore name old.files new.files
  unfolding left_on
  left_by_rename from to not_from not_to taken =
      let keeps = λ (folder : Folder) (step : Changes (Renamed from.name to.name) old.files folder). renamed_left name old.files folder from.name to.name sound.files not_from not_to step in
      after_done left_on from.area (Changes (Renamed from.name to.name)) (Changes (Renamed from.name to.name)) result old new keeps keeps (left_same name old.files) taken

  pub left_by_remove : (place : Place) → place.name ≢ name → RemoveStep place result old new → LeftAsBefore name old.files new.files
  unfolding left_on
  left_by_remove place apart taken =
      let keeps = λ (folder : Folder) (step : Changes (Removed place.name) old.files folder). removed_left name old.files folder place.name sound.files apart step in
      after_done left_on place.area (Changes (Removed place.name)) (Changes (Removed place.name)) result old new keeps keeps (left_same name old.files) taken

  pub left_by_names : (area : Area) → SyncNamesStep area result old new → LeftAsBefore name old.files new.files
  unfolding left_on
  left_by_names area taken =
      after_whole left_on area SyncsNames result old new (λ folder step. synced_left name old.files folder sound.files step) (left_same name old.files) taken

-- At each moment.
other_than : (spared : List ℕ → Type 0) (name other : List ℕ) → (spared name → ⊥) → spared other → other ≢ name
other_than spared name other not here same = not (subst spared same here)

pub besides_step : (spared : List ℕ → Type 0) (old new : History) (step : DiskState → DiskState → Type 0) → Next old new step
    → ((name : List ℕ) → (spared name → ⊥) → LeftAsBefore name (now old).files (now new).files) → Besides spared old new
besides_step spared old new step next left =
    over_call old new (λ disk. (name : List ℕ) → (spared name → ⊥) → LeftAsBefore name (now old).files disk.files) step next (λ name not. left_same name (now old).files) left

-- A call on a spared name, where the others are firm.
module _ (spared : List ℕ → Type 0) (result : Result (Unit {0}) DiskFault) (old new : History) (sound : IsSoundDisk (now old)) where
  never : IsFirmBut spared (now old).files → (other : List ℕ) → spared other → (name : List ℕ) → (spared name → ⊥) → NeverShares name other (now old).files
  never quiet other here name not = never_by_name name other (other_than spared name other not here) (now old).files sound.files (quiet name not)

  pub besides_write : (place : Place) (at : ℕ) (bytes : List ℕ) → spared place.name → IsFirmBut spared (now old).files → Next old new (WriteStep place at bytes result) → Besides spared old new
  besides_write place at bytes here quiet next =
      besides_step spared old new (WriteStep place at bytes result) next
      (λ name not. left_by_write name result (now old) (now new) sound place at bytes (never quiet place.name here name not) next.stepped)

  pub besides_sync : (place : Place) → spared place.name → IsFirmBut spared (now old).files → Next old new (SyncStep place result) → Besides spared old new
  besides_sync place here quiet next =
      besides_step spared old new (SyncStep place result) next
      (λ name not. left_by_sync name result (now old) (now new) sound place (never quiet place.name here name not) next.stepped)

  pub besides_create : (place : Place) → spared place.name → Next old new (CreateStep place result) → Besides spared old new
  besides_create place here next =
      besides_step spared old new (CreateStep place result) next
      (λ name not. left_by_create name result (now old) (now new) sound place (other_than spared name place.name not here) next.stepped)

  pub besides_rename : (from to : Place) → spared from.name → spared to.name → Next old new (RenameStep from to result) → Besides spared old new
  besides_rename from to here there next =
      besides_step spared old new (RenameStep from to result) next
      (λ name not. left_by_rename name result (now old) (now new) sound from to (other_than spared name from.name not here) (other_than spared name to.name not there) next.stepped)

  pub besides_remove : (place : Place) → spared place.name → Next old new (RemoveStep place result) → Besides spared old new
  besides_remove place here next =
      besides_step spared old new (RemoveStep place result) next
      (λ name not. left_by_remove name result (now old) (now new) sound place (other_than spared name place.name not here) next.stepped)

  pub besides_names : (area : Area) → Next old new (SyncNamesStep area result) → Besides spared old new
  besides_names area next =
      besides_step spared old new (SyncNamesStep area result) next (λ name not. left_by_names name result (now old) (now new) sound area next.stepped)

-- the user's files stay
pub besides_same : (spared : List ℕ → Type 0) (old new : History) → KeepsFiles old new → Besides spared old new
besides_same spared old new keeps =
    weaker old new (λ disk. disk.files ≡ (now old).files) (λ disk. (name : List ℕ) → (spared name → ⊥) → LeftAsBefore name (now old).files disk.files)
    (λ disk same name not. subst (LeftAsBefore name (now old).files) (sym same) (left_same name (now old).files)) keeps

-- nothing was done
pub besides_stay : (spared : List ℕ → Type 0) (old new : History) → new ≡ old → Besides spared old new
besides_stay spared old new same =
    subst (Besides spared old) (sym same) (at_start old (λ disk. (name : List ℕ) → (spared name → ⊥) → LeftAsBefore name (now old).files disk.files) (λ name not. left_same name (now old).files))

-- one run after another
pub besides_then : (spared : List ℕ → Type 0) (first middle last : History) → Besides spared first middle → Besides spared middle last → Besides spared first last
besides_then spared first middle last earlier later =
    let P : DiskState → Type 0 = λ disk. (name : List ℕ) → (spared name → ⊥) → LeftAsBefore name (now first).files disk.files in
    let here : P (now middle) = at_end first middle P earlier in
    joined first middle last P earlier
    (weaker middle last (λ disk. (name : List ℕ) → (spared name → ⊥) → LeftAsBefore name (now middle).files disk.files) P
    (λ disk left name not. left_then name (now first).files (now middle).files disk.files (here name not) (left name not)) later)

-- more names are spared
pub besides_more : (spared more : List ℕ → Type 0) (old new : History) → ((name : List ℕ) → spared name → more name) → Besides spared old new → Besides more old new
besides_more spared more old new wider besides =
    weaker old new (λ disk. (name : List ℕ) → (spared name → ⊥) → LeftAsBefore name (now old).files disk.files) (λ disk. (name : List ℕ) → (more name → ⊥) → LeftAsBefore name (now old).files disk.files)
    (λ disk left name not. left name (λ (here : spared name). not (wider name here))) besides
