-- A file that somebody adds or takes away, under a name that is no item's and no part's, leaves what is kept.
use Rattle.std.proofs.Common.{◌≡◌, ◌≢◌, ◌⊎◌, inl, inr, ℕ, true, List, Option, Some, None, sym, ◌∙◌, ap, subst}
use Rattle.dm_types.specs.Name.{IsPart, part_name}
use Rattle.dm_types.specs.declared.item.Item.{Item}
use Rattle.dm_disk_model.specs.Disk.{DiskState, Image, MayLeave}
use Rattle.dm_disk_model.specs.File.{File}
use Rattle.dm_disk_model.specs.Folder.{Changes, Created, Folder, FolderLeaves, IsSoundFolder, Removed, after_change, contents_of, names_after, names_of}
use Rattle.dm_disk_model.proofs.Images.{folder_as_read}
use Rattle.dm_disk_model.proofs.PendingNames.{each_more, each_now, with_name_other}
use Rattle.dm_item.specs.Lawful.{History, items_of}
use Rattle.dm_journal.specs.AtRest.{journal_name}
use Rattle.dm_kept.specs.Files.{EachItem, Facts, FileKept, IsSmall, Says, claim_of, no_covers, stage_of}
use Rattle.dm_kept.specs.Kept.{Kept}
use Rattle.dm_kept.specs.Recovery.{Found}
use Rattle.dm_kept.specs.Spelled.{AllEntries, Records}
use Rattle.dm_kept.proofs.FilesKept.{facts_sound}
use Rattle.dm_kept.proofs.Ranges.{small_items}
use Rattle.dm_part.specs.Keeping.{Claim, Filed, Held, IsAtMost, IsShort, LiesAt, Stage}
use Rattle.dm_part.proofs.Frame.{held_change, lies_same, lies_under, removed_beside, short_change, short_changed, short_now}
use Rattle.dm_does.specs.Headline.{IsAddedTo, IsNoItems}

module _ (added : List ℕ) (old new : Folder) (is : IsAddedTo added old new) where
  -- each file that has a name stays
  stays : (count number : ℕ) (name : List ℕ) → names_after old count name ≡ Some number → new.file number ≡ old.file number
  stays count number name under = is.others number (λ (same : number ≡ is.number). is.unused count name (under ∙ ap Some same))

  stays_now : (number : ℕ) (name : List ℕ) → names_of old name ≡ Some number → new.file number ≡ old.file number
  stays_now number name under = is.others number (λ (same : number ≡ is.number). each_now old (λ names. (n : List ℕ) → names n ≢ Some is.number) is.unused name (under ∙ ap Some same))

  short_beside : (part : List ℕ) (total : Option ℕ) → part ≢ added → IsShort part total old → IsShort part total new
  short_beside part total apart short =
      let same = with_name_other (names_of old) added (Some is.number) part apart in
      short_changed old new (Created added is.number) is.synced is.changes part total
      (λ number under. subst (λ (f : File). IsAtMost total f.bytes) (sym (stays_now number part (sym same ∙ under))) (short_now old part total short number (sym same ∙ under)))
      (λ count number under. stays count number part under) short

  held_beside : (says : ℕ → ℕ → Type 0) (claim : Claim) → claim.part ≢ added → claim.name ≢ added → Held says old claim → Held says new claim
  held_beside says claim not_part not_name held =
      let lies = LiesAt claim.stage claim.part claim.name held.number in
      let here = each_now old lies held.lies in
      record {
        number = held.number;
        lies = each_more old new (Created added is.number) lies is.synced is.changes held.lies
            (lies_same claim.stage claim.part claim.name held.number (names_of old) (after_change (names_of old) (Created added is.number))
            (with_name_other (names_of old) added (Some is.number) claim.part not_part) (with_name_other (names_of old) added (Some is.number) claim.name not_name) here);
        filed = subst (Filed says claim) (sym (same (lies_under claim.stage claim.part claim.name held.number (names_of old) here))) held.filed;
        short = short_beside claim.part claim.total not_part held.short;
      }
    where
      same : (names_of old claim.part ≡ Some held.number) ⊎ (names_of old claim.name ≡ Some held.number) → new.file held.number ≡ old.file held.number
      same (inl under) = stays_now held.number claim.part under
      same (inr under) = stays_now held.number claim.name under

-- What leaves each claim on other names leaves what is kept of all items, none of which has this name.
module _ (name : List ℕ) (old new : Folder) (short : (part : List ℕ) (total : Option ℕ) → part ≢ name → IsShort part total old → IsShort part total new)
    (held : (says : ℕ → ℕ → Type 0) (claim : Claim) → claim.part ≢ name → claim.name ≢ name → Held says old claim → Held says new claim) where
  file_left : (says : ℕ → ℕ → Type 0) (stage : Option Stage) (claim : Claim) → claim.part ≢ name → claim.name ≢ name → FileKept says old stage claim → FileKept says new stage claim
  file_left says None claim not_part not_name kept = short claim.part claim.total not_part kept
  file_left says (Some stage) claim not_part not_name kept = (held says (record claim { stage = stage }) not_part not_name kept.0, kept.1)

  facts_left : (says : Says) (items : List Item) → (IsPart name → ⊥) → EachItem IsSmall items → EachItem (λ item. item.name ≢ Some name) items → Facts says no_covers items old → Facts says no_covers items new
  facts_left says items no_part small others facts id item there key address own key_is address_is name_is =
      let smallness = small id item there in
      file_left (says address key) (stage_of item.phase) (claim_of own item.slices item)
      (λ (same : part_name item.id.0 item.epoch.0 ≡ name). no_part (record { id = item.id.0; epoch = item.epoch.0; small = (smallness.id, smallness.epoch); is = sym same }))
      (λ (same : own ≡ name). others id item there (name_is ∙ ap Some same))
      (facts id item there key address own key_is address_is name_is)

entries_of : (found : Option (List ℕ)) (history : History) → Records found history → AllEntries history
entries_of None history records = subst AllEntries (sym records) tt
entries_of (Some bytes) history records = records.entries

kept_left : (says : Says) (P : Found → Type 0) (before after : DiskState) (name : List ℕ) → IsSoundFolder before.files → after.state ≡ before.state → (IsPart name → ⊥) → IsNoItems name before
    → ((part : List ℕ) (total : Option ℕ) → part ≢ name → IsShort part total before.files → IsShort part total after.files)
    → ((says : ℕ → ℕ → Type 0) (claim : Claim) → claim.part ≢ name → claim.name ≢ name → Held says before.files claim → Held says after.files claim)
    → Kept true says P before → Kept true says P after
kept_left says P before after name sound same no_part no_item short held kept image left =
    let earlier : Image = record { state = image.state; files = contents_of before.files } in
    let was : MayLeave before earlier = record { state = subst (λ (f : Folder). FolderLeaves f image.state) same left.state; files = folder_as_read before.files sound } in
    let found = kept earlier was in
    let facts : Facts says no_covers (items_of found.history) after.files =
    facts_left name before.files after.files short held says (items_of found.history) no_part (small_items found.history found.taken.lawful (entries_of (image.state journal_name) found.history found.recorded))
    (no_item earlier was found.history found.recorded) found.facts in
    record {
      history = found.history;
      recorded = found.recorded;
      taken = found.taken;
      items = found.items;
      facts = facts;
      sound = facts_sound says (items_of found.history) after image left facts;
    }

pub added_kept : (says : Says) (P : Found → Type 0) (before after : DiskState) (added : List ℕ) → IsSoundFolder before.files → after.state ≡ before.state → IsAddedTo added before.files after.files → (IsPart added → ⊥) → IsNoItems added before
    → Kept true says P before → Kept true says P after
added_kept says P before after added sound same is no_part no_item =
    kept_left says P before after added sound same no_part no_item (short_beside added before.files after.files is) (held_beside added before.files after.files is)

pub taken_kept : (says : Says) (P : Found → Type 0) (before after : DiskState) (taken : List ℕ) → IsSoundFolder before.files → after.state ≡ before.state → Changes (Removed taken) before.files after.files → (IsPart taken → ⊥) → IsNoItems taken before
    → Kept true says P before → Kept true says P after
taken_kept says P before after taken sound same is no_part no_item =
    let gone = Removed taken in
    kept_left says P before after taken sound same no_part no_item
    (λ part total apart. short_change before.files after.files gone is part total (removed_beside (names_of before.files) taken part apart))
    (λ by claim not_part not_name. held_change before.files after.files gone is by claim (removed_beside (names_of before.files) taken claim.part not_part) (removed_beside (names_of before.files) taken claim.name not_name))
