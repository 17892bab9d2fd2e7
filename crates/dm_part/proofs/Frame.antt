-- What is done at other names leaves a claim, and the shortness of a part.
use Rattle.std.proofs.Common.{◌≡◌, ◌≢◌, ◌⊎◌, inl, inr, ℕ, List, [], ◌∷◌, ◌++◌, Option, Some, None, sym, ◌∙◌, ap, subst}
use Rattle.std.proofs.lemmas.Option.{same_Some}
use Rattle.dm_disk_model.specs.File.{File}
use Rattle.dm_disk_model.specs.Folder.{Names, Folder, Change, Created, Renamed, Removed, after_change, FileSteps, Creates, Changes, SyncsNames, EachPrefix, IsSoundFolder, names_of, names_after, with_name}
use Rattle.dm_disk_model.specs.Firm.{HasFile}
use Rattle.dm_disk_model.proofs.PendingNames.{each_now, each_more, each_synced, with_name_other}
use Rattle.dm_disk_model.proofs.FirmNames.{each_same, named_now}
use Rattle.dm_part.specs.Keeping.{Stage, Going, Moving, Published, Claim, LiesAt, IsAtMost, Filed, IsShort, Held}

-- the same names at both of its names: it lies there too
pub lies_same : (stage : Stage) (part name : List ℕ) (number : ℕ) (old new : Names) → new part ≡ old part → new name ≡ old name → LiesAt stage part name number old → LiesAt stage part name number new
lies_same Going part name number old new same_part same_name lies = (same_part ∙ lies.0, same_name ∙ lies.1)
lies_same Moving part name number old new same_part same_name (inl lies) = inl (same_part ∙ lies.0, same_name ∙ lies.1)
lies_same Moving part name number old new same_part same_name (inr lies) = inr (same_name ∙ lies.0, same_part ∙ lies.1)
lies_same Published part name number old new same_part same_name lies = same_name ∙ lies

-- the file lies under one of the two names
pub lies_under : (stage : Stage) (part name : List ℕ) (number : ℕ) (names : Names) → LiesAt stage part name number names → (names part ≡ Some number) ⊎ (names name ≡ Some number)
lies_under Going part name number names lies = inl lies.0
lies_under Moving part name number names (inl lies) = inl lies.0
lies_under Moving part name number names (inr lies) = inr lies.0
lies_under Published part name number names lies = inr lies

-- the file of another name takes a step
module _ (old new : Folder) (other : List ℕ) (step : File → File → Type 0) (file : File) (sound : IsSoundFolder old) (has : HasFile old other file) (taken : FileSteps other step old new) where
  its_number : taken.number ≡ has.number
  its_number = same_Some taken.number has.number (sym taken.stands ∙ named_now old other file has)

  -- the file of a name, under which changes so ever, is not that one
  beside : (count number : ℕ) (name : List ℕ) → other ≢ name → names_after old count name ≡ Some number → new.file number ≡ old.file number
  beside count number name apart is =
      taken.others number (λ (same : number ≡ taken.number).
      apart (sound.apart count other name has.number (has.named count) (is ∙ ap Some (same ∙ its_number))))

  pub short_step : (part : List ℕ) (total : Option ℕ) → other ≢ part → IsShort part total old → IsShort part total new
  short_step part total apart short =
      each_same old new (λ names. (number : ℕ) → names part ≡ Some number → IsAtMost total (new.file number).bytes) taken.synced taken.changes
      (λ count number is. subst (λ (f : File). IsAtMost total f.bytes) (sym (beside count number part apart is)) (short count number is))

  pub held_step : (says : ℕ → ℕ → Type 0) (claim : Claim) → other ≢ claim.part → other ≢ claim.name → Held says old claim → Held says new claim
  held_step says claim not_part not_name held = record {
    number = held.number;
    lies = each_same old new (LiesAt claim.stage claim.part claim.name held.number) taken.synced taken.changes held.lies;
    filed = subst (Filed says claim) (sym (same (lies_under claim.stage claim.part claim.name held.number (names_after old 0) (held.lies 0)))) held.filed;
    short = short_step claim.part claim.total not_part held.short;
  }
    where
      same : (names_after old 0 claim.part ≡ Some held.number) ⊎ (names_after old 0 claim.name ≡ Some held.number) → new.file held.number ≡ old.file held.number
      same (inl under) = beside 0 held.number claim.part not_part under
      same (inr under) = beside 0 held.number claim.name not_name under

-- a change of the names that leaves these names, with every file as it was
module _ (old new : Folder) (change : Change) (synced : new.synced ≡ old.synced) (changes : new.changes ≡ old.changes ++ change ∷ []) where
  pub short_changed : (part : List ℕ) (total : Option ℕ) → ((number : ℕ) → after_change (names_of old) change part ≡ Some number → IsAtMost total (new.file number).bytes)
      → ((count number : ℕ) → names_after old count part ≡ Some number → new.file number ≡ old.file number) → IsShort part total old → IsShort part total new
  short_changed part total last files short =
      each_more old new change (λ names. (number : ℕ) → names part ≡ Some number → IsAtMost total (new.file number).bytes) synced changes
      (λ count number is. subst (λ (f : File). IsAtMost total f.bytes) (sym (files count number is)) (short count number is)) last

-- what holds of the part's file as it reads
pub short_now : (folder : Folder) (part : List ℕ) (total : Option ℕ) → IsShort part total folder → (number : ℕ) → names_of folder part ≡ Some number → IsAtMost total (folder.file number).bytes
short_now folder part total short = each_now folder (λ names. (number : ℕ) → names part ≡ Some number → IsAtMost total (folder.file number).bytes) short

-- a change of other names
module _ (old new : Folder) (change : Change) (taken : Changes change old new) where
  file_stays : (number : ℕ) → new.file number ≡ old.file number
  file_stays number = ap (λ (files : ℕ → File). files number) taken.files

  pub short_change : (part : List ℕ) (total : Option ℕ) → after_change (names_of old) change part ≡ names_of old part → IsShort part total old → IsShort part total new
  short_change part total same short =
      short_changed old new change taken.synced taken.changes part total
      (λ number is. subst (λ (f : File). IsAtMost total f.bytes) (sym (file_stays number)) (short_now old part total short number (sym same ∙ is)))
      (λ count number is. file_stays number) short

  pub held_change : (says : ℕ → ℕ → Type 0) (claim : Claim) → after_change (names_of old) change claim.part ≡ names_of old claim.part → after_change (names_of old) change claim.name ≡ names_of old claim.name
      → Held says old claim → Held says new claim
  held_change says claim same_part same_name held =
      let lies = LiesAt claim.stage claim.part claim.name held.number in
      record {
        number = held.number;
        lies = each_more old new change lies taken.synced taken.changes held.lies
            (lies_same claim.stage claim.part claim.name held.number (names_of old) (after_change (names_of old) change) same_part same_name (each_now old lies held.lies));
        filed = subst (Filed says claim) (sym (file_stays held.number)) held.filed;
        short = short_change claim.part claim.total same_part held.short;
      }

-- the changes that leave a name
pub removed_beside : (names : Names) (name other : List ℕ) → other ≢ name → after_change names (Removed name) other ≡ names other
removed_beside names name other apart = with_name_other names name None other apart

pub renamed_beside : (names : Names) (from to other : List ℕ) → other ≢ from → other ≢ to → after_change names (Renamed from to) other ≡ names other
renamed_beside names from to other not_from not_to = with_name_other (with_name names from None) to (names from) other not_to ∙ with_name_other names from None other not_from

-- a new file under another name
module _ (old new : Folder) (other : List ℕ) (made : Creates other old new) where
  fresh : (count number : ℕ) (name : List ℕ) → names_after old count name ≡ Some number → new.file number ≡ old.file number
  fresh count number name is = made.others number (λ (same : number ≡ made.number). made.unused count name (is ∙ ap Some same))

  fresh_now : (number : ℕ) (name : List ℕ) → names_of old name ≡ Some number → new.file number ≡ old.file number
  fresh_now number name is = made.others number (λ (same : number ≡ made.number). each_now old (λ names. (n : List ℕ) → names n ≢ Some made.number) made.unused name (is ∙ ap Some same))

  pub short_create : (part : List ℕ) (total : Option ℕ) → part ≢ other → IsShort part total old → IsShort part total new
  short_create part total apart short =
      let same = with_name_other (names_of old) other (Some made.number) part apart in
      short_changed old new (Created other made.number) made.synced made.changes part total
      (λ number is. subst (λ (f : File). IsAtMost total f.bytes) (sym (fresh_now number part (sym same ∙ is))) (short_now old part total short number (sym same ∙ is)))
      (λ count number is. fresh count number part is) short

  pub held_create : (says : ℕ → ℕ → Type 0) (claim : Claim) → claim.part ≢ other → claim.name ≢ other → Held says old claim → Held says new claim
  held_create says claim not_part not_name held =
      let lies = LiesAt claim.stage claim.part claim.name held.number in
      let here = each_now old lies held.lies in
      record {
        number = held.number;
        lies = each_more old new (Created other made.number) lies made.synced made.changes held.lies
            (lies_same claim.stage claim.part claim.name held.number (names_of old) (after_change (names_of old) (Created other made.number))
            (with_name_other (names_of old) other (Some made.number) claim.part not_part) (with_name_other (names_of old) other (Some made.number) claim.name not_name) here);
        filed = subst (Filed says claim) (sym (same (lies_under claim.stage claim.part claim.name held.number (names_of old) here))) held.filed;
        short = short_create claim.part claim.total not_part held.short;
      }
    where
      same : (names_of old claim.part ≡ Some held.number) ⊎ (names_of old claim.name ≡ Some held.number) → new.file held.number ≡ old.file held.number
      same (inl under) = fresh_now held.number claim.part under
      same (inr under) = fresh_now held.number claim.name under

-- the names are synced
module _ (old new : Folder) (taken : SyncsNames old new) where
  synced_each : (P : Names → Type 0) → P (names_of old) → EachPrefix new P
  synced_each P here = each_synced new P taken.changes (subst P (sym taken.synced) here)

  pub short_synced : (part : List ℕ) (total : Option ℕ) → IsShort part total old → IsShort part total new
  short_synced part total short =
      synced_each (λ names. (number : ℕ) → names part ≡ Some number → IsAtMost total (new.file number).bytes)
      (λ number is. subst (λ (files : ℕ → File). IsAtMost total (files number).bytes) (sym taken.files) (short_now old part total short number is))

  pub held_synced : (says : ℕ → ℕ → Type 0) (claim : Claim) → Held says old claim → Held says new claim
  held_synced says claim held =
      let lies = LiesAt claim.stage claim.part claim.name held.number in
      record {
        number = held.number;
        lies = synced_each lies (each_now old lies held.lies);
        filed = subst (λ (files : ℕ → File). Filed says claim (files held.number)) (sym taken.files) held.filed;
        short = short_synced claim.part claim.total held.short;
      }
