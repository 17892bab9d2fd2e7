-- The steps by which a journal is started: what each leaves under `journal`, and that no file of it changes before.
use Rattle.std.proofs.Common.{◌≡◌, ◌≢◌, ◌⊎◌, inl, inr, ⊎_elim, ℕ, List, [], Option, Some, None, refl, sym, ◌∙◌, ap, subst}
use Rattle.std.proofs.lemmas.Option.{same_Some}
use Rattle.dm_disk_model.specs.File.{File, FileLeaves, empty_file, settled_file}
use Rattle.dm_disk_model.specs.Folder.{Folder, Names, Created, Renamed, Removed, FolderLeaves, NameLeaves, FileSteps, Creates, Changes, EachPrefix, after_changes, with_name, names_of, names_after}
use Rattle.dm_disk_model.specs.Disk.{DiskState, Image, MayLeave, IsSoundDisk}
use Rattle.dm_disk_model.proofs.Beside.{HadUnder, had_leaves}
use Rattle.dm_disk_model.proofs.PendingNames.{each_now, each_more, names_more, with_name_same, with_name_other}
use Rattle.dm_disk_model.proofs.FirmNames.{each_same}
use Rattle.dm_journal.specs.Text.{IsJournalText}
use Rattle.dm_journal.specs.AtRest.{journal_name, AtRest, HasJournal}
use Rattle.dm_journal.specs.Starting.{spare_name, blank, WasLeft, LeavesOldOr, IsAsBefore, HasSpare, IsTextFile}
use Rattle.dm_journal.proofs.Leaving.{front_settled, front_left}
use Rattle.dm_journal.proofs.Resting.{rest_image}

pub apart : journal_name ≢ spare_name
apart same = cc

-- `journal` is the spare file in some of the images, and as at the start in the others
pub record GivesText (text : List ℕ) (start disk : DiskState) : Type 0 where
  pub number : ℕ
  pub holds : IsTextFile text (disk.state.file number)
  pub journal : EachPrefix disk.state (λ names. HadUnder journal_name start.state disk.state (names journal_name) ⊎ (names journal_name ≡ Some number))
  pub files : disk.files ≡ start.files

-- an image in which `journal` is as at the start
was_left : (start disk : DiskState) (image : Image) (number : Option ℕ) → IsSoundDisk start → disk.files ≡ start.files → MayLeave disk image → HadUnder journal_name start.state disk.state number
    → NameLeaves disk.state.file number (image.state journal_name) → WasLeft start image
was_left start disk image number sound files left had here =
    let was = had_leaves start.state disk.state journal_name number (image.state journal_name) sound.state had here in
    record {
      before = record { state = was.before; files = image.files };
      left = record { state = was.left; files = subst (λ (f : Folder). FolderLeaves f image.files) files left.files };
      journal = was.same;
      files = refl;
    }

pub blank_text : IsJournalText [] blank
blank_text = record { sizes = tt; gate = 0; rest = []; shut = λ e. cc; is = refl }

-- so each moment shows
module _ (bodies : List (List ℕ)) where
  pub before_shows : (start disk : DiskState) → IsSoundDisk start → IsAsBefore start disk → LeavesOldOr bodies start disk
  before_shows start disk sound before = (
    before.files,
    λ image left.
        inl (was_left start disk image (names_after disk.state left.state.survive journal_name) sound before.files left (before.journal left.state.survive) (left.state.each journal_name)),
  )

  pub spare_shows : (start : DiskState) (P : File → Type 0) (disk : DiskState) → IsSoundDisk start → HasSpare start P disk → LeavesOldOr bodies start disk
  spare_shows start P disk sound spare = before_shows start disk sound (record { journal = λ count. (spare.journal count).0; files = spare.files })

  pub rest_shows : (gate : ℕ) (start disk : DiskState) → disk.files ≡ start.files → AtRest disk gate bodies → LeavesOldOr bodies start disk
  rest_shows gate start disk files rest = (files, λ image left. inr (rest_image disk gate bodies image rest left))

  -- the settled spare file is left as the journal of the bodies
  text_left : (text : List ℕ) → IsJournalText bodies text → (files : ℕ → File) (number : ℕ) (image : Image) → IsTextFile text (files number) → NameLeaves files (Some number) (image.state journal_name) → HasJournal bodies image
  text_left text is_text files number image holds left = by (image.state journal_name) refl left
    where
      by : (found : Option (List ℕ)) → image.state journal_name ≡ found → NameLeaves files (Some number) found → HasJournal bodies image
      by None is leaves = absurd leaves
      by (Some bytes) is leaves = record {
        bytes = bytes;
        found = is;
        text = front_left bodies (settled_file text) bytes (front_settled bodies text is_text) (subst (λ (f : File). FileLeaves f bytes) holds leaves);
      }

  pub given_shows : (text : List ℕ) → IsJournalText bodies text → (start disk : DiskState) → IsSoundDisk start → GivesText text start disk → LeavesOldOr bodies start disk
  given_shows text is_text start disk sound given = (
    given.files,
    λ image left.
        let names = names_after disk.state left.state.survive in
        ⊎_elim
        (λ (had : HadUnder journal_name start.state disk.state (names journal_name)). inl (was_left start disk image (names journal_name) sound given.files left had (left.state.each journal_name)))
        (λ (is : names journal_name ≡ Some given.number).
        inr (text_left text is_text disk.state.file given.number image given.holds (subst (λ (n : Option ℕ). NameLeaves disk.state.file n (image.state journal_name)) is (left.state.each journal_name))))
        (given.journal left.state.survive),
  )

-- a number stays one that `journal` had where its file stays
pub had_same : (start old new : Folder) (number : Option ℕ) → ((k : ℕ) → number ≡ Some k → new.file k ≡ old.file k) → HadUnder journal_name start old number → HadUnder journal_name start new number
had_same start old new number same had = record { survive = had.survive; named = had.named; same = λ k is. same k is ∙ had.same k is }

names_stay_of : (old new : Folder) → new.synced ≡ old.synced → new.changes ≡ old.changes → names_of new ≡ names_of old
names_stay_of old new synced changes = ap (λ (s : Names). after_changes s new.changes) synced ∙ ap (after_changes old.synced) changes

module _ (start old new : DiskState) where
  -- what was left is removed
  pub removed_before : Changes (Removed spare_name) old.state new.state → new.files ≡ old.files → IsAsBefore start old → IsAsBefore start new
  removed_before taken files before =
      let kept : EachPrefix old.state (λ names. HadUnder journal_name start.state new.state (names journal_name)) =
      λ count. had_same start.state old.state new.state (names_after old.state count journal_name) (λ k is. ap (λ (f : ℕ → File). f k) taken.files) (before.journal count) in
      record {
        journal = each_more old.state new.state (Removed spare_name) (λ names. HadUnder journal_name start.state new.state (names journal_name)) taken.synced taken.changes kept
            (subst (HadUnder journal_name start.state new.state) (sym (with_name_other (names_of old.state) spare_name None journal_name apart)) (each_now old.state (λ names. HadUnder journal_name start.state new.state (names journal_name)) kept));
        files = files ∙ before.files;
      }

  -- the spare file is made
  pub created_spare : Creates spare_name old.state new.state → new.files ≡ old.files → IsAsBefore start old → HasSpare start (λ f. f ≡ empty_file) new
  created_spare taken files before =
      let n = taken.number in
      let P : Names → Type 0 = λ names. HadUnder journal_name start.state new.state (names journal_name) × (names journal_name ≢ Some n) in
      let kept : EachPrefix old.state P =
      λ count. (
        had_same start.state old.state new.state (names_after old.state count journal_name) (λ k is. taken.others k (λ (e : k ≡ n). taken.unused count journal_name (is ∙ ap Some e))) (before.journal count),
        taken.unused count journal_name,
      ) in
      let there = names_more old.state new.state (Created spare_name n) taken.synced taken.changes in
      record {
        number = n;
        named = ap (λ (names : Names). names spare_name) there ∙ with_name_same (names_of old.state) spare_name (Some n);
        holds = taken.empty;
        journal = each_more old.state new.state (Created spare_name n) P taken.synced taken.changes kept
            (subst (λ (found : Option ℕ). HadUnder journal_name start.state new.state found × (found ≢ Some n)) (sym (with_name_other (names_of old.state) spare_name (Some n) journal_name apart)) (each_now old.state P kept));
        files = files ∙ before.files;
      }

  -- the spare file takes a step
  pub stepped_spare : (P Q : File → Type 0) (step : File → File → Type 0) → ((f g : File) → P f → step f g → Q g) → FileSteps spare_name step old.state new.state → new.files ≡ old.files
      → HasSpare start P old → HasSpare start Q new
  stepped_spare P Q step leads taken files spare =
      let same : taken.number ≡ spare.number = same_Some taken.number spare.number (sym taken.stands ∙ spare.named) in
      let R : Names → Type 0 = λ names. HadUnder journal_name start.state new.state (names journal_name) × (names journal_name ≢ Some spare.number) in
      let kept : EachPrefix old.state R =
      λ count. (
        had_same start.state old.state new.state (names_after old.state count journal_name) (λ k is. taken.others k (λ (e : k ≡ taken.number). (spare.journal count).1 (is ∙ ap Some (e ∙ same)))) (spare.journal count).0,
        (spare.journal count).1,
      ) in
      record {
        number = spare.number;
        named = ap (λ (names : Names). names spare_name) (names_stay_of old.state new.state taken.synced taken.changes) ∙ spare.named;
        holds = leads (old.state.file spare.number) (new.state.file spare.number) spare.holds (subst (λ (n : ℕ). step (old.state.file n) (new.state.file n)) same taken.stepped);
        journal = each_same old.state new.state R taken.synced taken.changes kept;
        files = files ∙ spare.files;
      }

  -- it gets the name
  abbrev pub renamed_given : (text : List ℕ) → Changes (Renamed spare_name journal_name) old.state new.state → new.files ≡ old.files → HasSpare start (IsTextFile text) old → GivesText text start new
  renamed_given text taken files spare =
      let P : Names → Type 0 = λ names. HadUnder journal_name start.state new.state (names journal_name) ⊎ (names journal_name ≡ Some spare.number) in
      record {
        number = spare.number;
        holds = ap (λ (f : ℕ → File). f spare.number) taken.files ∙ spare.holds;
        journal = each_more old.state new.state (Renamed spare_name journal_name) P taken.synced taken.changes
            (λ count. inl (had_same start.state old.state new.state (names_after old.state count journal_name) (λ k is. ap (λ (f : ℕ → File). f k) taken.files) (spare.journal count).0))
            (inr (with_name_same (with_name (names_of old.state) spare_name None) journal_name (names_of old.state spare_name) ∙ spare.named));
        files = files ∙ spare.files;
      }
