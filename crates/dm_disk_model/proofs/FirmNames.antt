-- A name's one file through the steps of its folder.
use Rattle.std.proofs.Common.{◌≡◌, ◌≢◌, ℕ, List, Option, Some, None, refl, sym, ◌∙◌, ap, subst}
use Rattle.std.specs.Option.{option_map}
use Rattle.std.proofs.lemmas.Option.{same_Some}
use Rattle.dm_disk_model.specs.File.{File, FileLeaves}
use Rattle.dm_disk_model.specs.Folder.{Names, Folder, Contents, FolderLeaves, NameLeaves, Change, Created, FileSteps, Creates, Changes, SyncsNames, EachPrefix, AreApart, IsSoundFolder, names_of, names_after, contents_of, after_change}
use Rattle.dm_disk_model.specs.Firm.{IsAbsent, HasFile, LeftOf}
use Rattle.dm_disk_model.proofs.PendingNames.{each_now, each_more, each_synced, with_name_other}

-- what holds of each prefix stays where neither the synced names nor the changes change
pub each_same : (old new : Folder) (P : Names → Type 0) → new.synced ≡ old.synced → new.changes ≡ old.changes → EachPrefix old P → EachPrefix new P
each_same old new P synced changes each count =
    let same : names_after new count ≡ names_after old count = cc in subst P (sym same) (each count)

-- as it reads
pub named_now : (folder : Folder) (name : List ℕ) (file : File) → (has : HasFile folder name file) → names_of folder name ≡ Some has.number
named_now folder name file has = each_now folder (λ names. names name ≡ Some has.number) has.named

pub has_now : (folder : Folder) (name : List ℕ) (file : File) → HasFile folder name file → contents_of folder name ≡ Some file.bytes
has_now folder name file has =
    ap (option_map (λ number. (folder.file number).bytes)) (named_now folder name file has) ∙ ap (λ (f : File). Some f.bytes) has.is

-- whatever a crash leaves under the name is what it leaves of the file
pub left_by : (files : ℕ → File) (number : ℕ) (file : File) (found : Option (List ℕ)) → files number ≡ file → NameLeaves files (Some number) found → LeftOf file found
left_by files number file (Some bytes) is left = record { bytes = bytes; is = refl; left = subst (λ (f : File). FileLeaves f bytes) is left }
left_by files number file None is left = absurd left

pub has_left : (folder : Folder) (name : List ℕ) (file : File) (contents : Contents) → HasFile folder name file → FolderLeaves folder contents → LeftOf file (contents name)
has_left folder name file contents has leaves =
    left_by folder.file has.number file (contents name) has.is
    (subst (λ (found : Option ℕ). NameLeaves folder.file found (contents name)) (has.named leaves.survive) (leaves.each name))

-- nothing is left under a name that has no file
pub nothing_left : (files : ℕ → File) (found : Option (List ℕ)) → NameLeaves files None found → found ≡ None
nothing_left files (Some bytes) left = absurd left
nothing_left files None left = refl

pub none_left : (folder : Folder) (name : List ℕ) (contents : Contents) → IsAbsent name folder → FolderLeaves folder contents → contents name ≡ None
none_left folder name contents none leaves =
    nothing_left folder.file (contents name) (subst (λ (found : Option ℕ). NameLeaves folder.file found (contents name)) (none leaves.survive) (leaves.each name))

-- the file takes a step
pub record Stepped (folder : Folder) (name : List ℕ) (step : File → File → Type 0) (file : File) : Type 0 where
  pub after : File
  pub has : HasFile folder name after
  pub stepped : step file after

pub steps : (old new : Folder) (name : List ℕ) (step : File → File → Type 0) (file : File) → HasFile old name file → FileSteps name step old new → Stepped new name step file
steps old new name step file has taken =
    let same : taken.number ≡ has.number = same_Some taken.number has.number (sym taken.stands ∙ named_now old name file has) in
    record {
      after = new.file has.number;
      has = record { number = has.number; named = each_same old new (λ names. names name ≡ Some has.number) taken.synced taken.changes has.named; is = refl };
      stepped = subst (λ (f : File). step f (new.file has.number)) has.is (subst (λ (n : ℕ). step (old.file n) (new.file n)) same taken.stepped);
    }

-- the file of another name takes a step
pub steps_beside : (old new : Folder) (name other : List ℕ) (step : File → File → Type 0) (file : File) → IsSoundFolder old → other ≢ name → HasFile old name file → FileSteps other step old new → HasFile new name file
steps_beside old new name other step file sound apart has taken = record {
  number = has.number;
  named = each_same old new (λ names. names name ≡ Some has.number) taken.synced taken.changes has.named;
  is = taken.others has.number
      (λ (same : has.number ≡ taken.number).
      apart (each_now old AreApart sound.apart other name taken.number taken.stands (named_now old name file has ∙ ap Some same)))
      ∙ has.is;
}

-- a change of other names
pub changes_beside : (old new : Folder) (name : List ℕ) (change : Change) (file : File) → after_change (names_of old) change name ≡ names_of old name
    → HasFile old name file → Changes change old new → HasFile new name file
changes_beside old new name change file same has taken = record {
  number = has.number;
  named = each_more old new change (λ names. names name ≡ Some has.number) taken.synced taken.changes has.named (same ∙ named_now old name file has);
  is = ap (λ (files : ℕ → File). files has.number) taken.files ∙ has.is;
}

-- a new file under another name
pub creates_beside : (old new : Folder) (name other : List ℕ) (file : File) → other ≢ name → HasFile old name file → Creates other old new → HasFile new name file
creates_beside old new name other file apart has made =
    let now = named_now old name file has in
    let change : Change = Created other made.number in
    record {
      number = has.number;
      named = each_more old new change (λ names. names name ≡ Some has.number) made.synced made.changes has.named
          (with_name_other (names_of old) other (Some made.number) name (λ (e : name ≡ other). apart (sym e)) ∙ now);
      is = made.others has.number (λ (same : has.number ≡ made.number). each_now old (λ names. (n : List ℕ) → names n ≢ Some made.number) made.unused name (now ∙ ap Some same)) ∙ has.is;
    }

-- the names are synced
pub has_after_sync : (old new : Folder) (name : List ℕ) (number : ℕ) → names_of old name ≡ Some number → SyncsNames old new → HasFile new name (old.file number)
has_after_sync old new name number named taken = record {
  number = number;
  named = each_synced new (λ names. names name ≡ Some number) taken.changes (ap (λ (names : Names). names name) taken.synced ∙ named);
  is = ap (λ (files : ℕ → File). files number) taken.files;
}

pub names_sync_keeps : (old new : Folder) (name : List ℕ) (file : File) → HasFile old name file → SyncsNames old new → HasFile new name file
names_sync_keeps old new name file has taken =
    subst (λ (f : File). HasFile new name f) has.is (has_after_sync old new name has.number (named_now old name file has) taken)
