-- What the steps of a folder do to its contents as they read.
use Rattle.std.proofs.Common.{◌≡◌, ℕ, List, [], Option, Some, None, refl, ◌∙◌, ap}
use Rattle.std.specs.Prelude.{◌≢◌}
use Rattle.std.specs.Option.{option_map}
use Rattle.dm_disk_model.specs.File.{File}
use Rattle.dm_disk_model.specs.Folder.{Names, with_name, Change, Created, Renamed, Removed, after_change, after_changes, Folder, names_of, contents_of, AreApart, IsSoundFolder, FileSteps, Creates, Changes, SyncsNames}
use Rattle.dm_disk_model.proofs.PendingNames.{with_name_same, with_name_other, names_more, each_now}

-- Which file a name has, and what that holds, give what reads under the name.
contents_by : (folder : Folder) (name : List ℕ) (number : Option ℕ) → names_of folder name ≡ number → contents_of folder name ≡ option_map (λ k. (folder.file k).bytes) number
contents_by folder name number is = ap (option_map (λ k. (folder.file k).bytes)) is

-- A name whose number stays, and the file of that number, reads the same.
same_contents : (old new : Folder) (name : List ℕ) → names_of new name ≡ names_of old name → ((k : ℕ) → names_of old name ≡ Some k → new.file k ≡ old.file k) → contents_of new name ≡ contents_of old name
same_contents old new name same files =
    contents_by new name (names_of old name) same ∙ by_number (names_of old name) files where
      by_number : (number : Option ℕ) → ((k : ℕ) → number ≡ Some k → new.file k ≡ old.file k) → option_map (λ k. (new.file k).bytes) number ≡ option_map (λ k. (old.file k).bytes) number
      by_number None h = refl
      by_number (Some k) h = ap (λ (f : File). Some f.bytes) (h k refl)

-- a new file is empty
pub created_reads : (name : List ℕ) (old new : Folder) → Creates name old new → contents_of new name ≡ Some []
created_reads name old new step =
    contents_by new name (Some step.number) (ap (λ (ns : Names). ns name) (names_more old new (Created name step.number) step.synced step.changes) ∙ with_name_same (names_of old) name (Some step.number))
    ∙ ap (λ (f : File). Some f.bytes) step.empty

pub created_others : (name : List ℕ) (old new : Folder) → Creates name old new → (other : List ℕ) → other ≢ name → contents_of new other ≡ contents_of old other
created_others name old new step other differ =
    same_contents old new other
    (ap (λ (ns : Names). ns other) (names_more old new (Created name step.number) step.synced step.changes) ∙ with_name_other (names_of old) name (Some step.number) other differ)
    (λ k has. step.others k (λ e. each_now old (λ names. (n : List ℕ) → names n ≢ Some step.number) step.unused other (has ∙ ap Some e)))

-- a change of names leaves every file
changed_contents : (change : Change) (old new : Folder) → Changes change old new → (name : List ℕ) → contents_of new name ≡ option_map (λ k. (old.file k).bytes) (after_change (names_of old) change name)
changed_contents change old new step name =
    contents_by new name (after_change (names_of old) change name) (ap (λ (ns : Names). ns name) (names_more old new change step.synced step.changes))
    ∙ ap (λ (files : ℕ → File). option_map (λ k. (files k).bytes) (after_change (names_of old) change name)) step.files

-- the new name has what the old one had
pub renamed_to : (from to : List ℕ) (old new : Folder) → Changes (Renamed from to) old new → contents_of new to ≡ contents_of old from
renamed_to from to old new step =
    changed_contents (Renamed from to) old new step to ∙ ap (option_map (λ k. (old.file k).bytes)) (with_name_same (with_name (names_of old) from None) to (names_of old from))

-- the old name has nothing
pub renamed_from : (from to : List ℕ) (old new : Folder) → from ≢ to → Changes (Renamed from to) old new → contents_of new from ≡ None
renamed_from from to old new differ step =
    changed_contents (Renamed from to) old new step from
    ∙ ap (option_map (λ k. (old.file k).bytes)) (with_name_other (with_name (names_of old) from None) to (names_of old from) from differ ∙ with_name_same (names_of old) from None)

pub renamed_others : (from to : List ℕ) (old new : Folder) → Changes (Renamed from to) old new → (other : List ℕ) → other ≢ from → other ≢ to → contents_of new other ≡ contents_of old other
renamed_others from to old new step other not_from not_to =
    changed_contents (Renamed from to) old new step other
    ∙ ap (option_map (λ k. (old.file k).bytes)) (with_name_other (with_name (names_of old) from None) to (names_of old from) other not_to ∙ with_name_other (names_of old) from None other not_from)

pub removed_reads : (name : List ℕ) (old new : Folder) → Changes (Removed name) old new → contents_of new name ≡ None
removed_reads name old new step =
    changed_contents (Removed name) old new step name ∙ ap (option_map (λ k. (old.file k).bytes)) (with_name_same (names_of old) name None)

pub removed_others : (name : List ℕ) (old new : Folder) → Changes (Removed name) old new → (other : List ℕ) → other ≢ name → contents_of new other ≡ contents_of old other
removed_others name old new step other differ =
    changed_contents (Removed name) old new step other ∙ ap (option_map (λ k. (old.file k).bytes)) (with_name_other (names_of old) name None other differ)

-- a sync of the names changes nothing that reads
pub names_synced_reads : (old new : Folder) → SyncsNames old new → (name : List ℕ) → contents_of new name ≡ contents_of old name
names_synced_reads old new step name =
    same_contents old new name (ap (λ (ns : Names). ns name) (ap (λ (s : Names). after_changes s new.changes) step.synced ∙ ap (after_changes (names_of old)) step.changes)) (λ k has. ap (λ (files : ℕ → File). files k) step.files)

-- a step of one file leaves what reads under every other name
module _ (name : List ℕ) (step : File → File → Type 0) (old new : Folder) (steps : FileSteps name step old new) where
  stepped_names : names_of new ≡ names_of old
  stepped_names = ap (λ (s : Names). after_changes s new.changes) steps.synced ∙ ap (after_changes old.synced) steps.changes

  pub stepped_others : AreApart (names_of old) → (other : List ℕ) → other ≢ name → contents_of new other ≡ contents_of old other
  stepped_others apart other differ =
      same_contents old new other (ap (λ (ns : Names). ns other) stepped_names)
      (λ k has. steps.others k (λ e. differ (apart other name steps.number (has ∙ ap Some e) steps.stands)))

  pub stepped_reads : contents_of new name ≡ Some (new.file steps.number).bytes
  stepped_reads = contents_by new name (Some steps.number) (ap (λ (ns : Names). ns name) stepped_names ∙ steps.stands)

  pub stepped_read : contents_of old name ≡ Some (old.file steps.number).bytes
  stepped_read = contents_by old name (Some steps.number) steps.stands

-- in a sound folder the names that read are apart
pub apart_now : (folder : Folder) → IsSoundFolder folder → AreApart (names_of folder)
apart_now folder sound = each_now folder AreApart sound.apart
