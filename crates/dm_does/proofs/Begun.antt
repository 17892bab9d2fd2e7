-- A disk that begins with what a crash left keeps what the crash left.
use Rattle.std.proofs.Common.{◌≡◌, ℕ, true, List, Option, Some, None, refl, sym, ◌∙◌, ap, subst}
use Rattle.std.specs.Option.{option_map}
use Rattle.dm_types.specs.declared.item.Item.{Item}
use Rattle.dm_disk_model.specs.Disk.{DiskState, Image, MayLeave}
use Rattle.dm_disk_model.specs.File.{File, FileLeaves, settled_file}
use Rattle.dm_disk_model.specs.Folder.{Change, Contents, Folder, FolderLeaves, NameLeaves, EachPrefix, after_changes, names_of}
use Rattle.dm_disk_model.proofs.FirmNames.{nothing_left}
use Rattle.dm_disk_model.proofs.Images.{settled_leaves}
use Rattle.dm_disk_model.proofs.PendingNames.{each_synced}
use Rattle.dm_item.specs.Lawful.{History, items_of}
use Rattle.dm_journal.specs.AtRest.{journal_name}
use Rattle.dm_kept.specs.Files.{Facts, FileKept, FileSound, Says, SoundItem, claim_of, no_covers, stage_of}
use Rattle.dm_item.specs.Listing.{item_in}
use Rattle.dm_kept.specs.Kept.{Kept, Recovers}
use Rattle.dm_kept.specs.Recovery.{Found, recovered}
use Rattle.dm_kept.specs.Spelled.{Records}
use Rattle.dm_kept.proofs.FilesKept.{facts_sound}
use Rattle.dm_part.specs.Keeping.{Begins, IsAtMost, IsShort, IsShortIn, Stage}
use Rattle.dm_part.proofs.Beginning.{sound_held}
use Rattle.dm_part.proofs.Sound.{short_left}
use Rattle.dm_does.specs.Headline.{BeginsWith}

-- no change of a name is pending
names_now : (folder : Folder) (contents : Contents) (name : List ℕ) → Begins folder contents → EachPrefix folder (λ names. names name ≡ names_of folder name)
names_now folder contents name begins =
    each_synced folder (λ names. names name ≡ names_of folder name) begins.none_pending (sym (ap (λ (changes : List Change). after_changes folder.synced changes name) begins.none_pending))

name_left : (folder : Folder) (name : List ℕ) (named : Option ℕ) (found : Option (List ℕ)) → names_of folder name ≡ named → ((number : ℕ) → named ≡ Some number → folder.file number ≡ settled_file (folder.file number).bytes)
    → NameLeaves folder.file named found → found ≡ option_map (λ number. (folder.file number).bytes) named
name_left folder name None found is settled left = nothing_left folder.file found left
name_left folder name (Some number) None is settled left = absurd left
name_left folder name (Some number) (Some bytes) is settled left =
    ap Some (settled_leaves (folder.file number).bytes bytes (subst (λ (f : File). FileLeaves f bytes) (settled number refl) left))

-- a crash leaves just what the folder began with
begun_left : (folder : Folder) (contents left : Contents) → Begins folder contents → FolderLeaves folder left → (name : List ℕ) → left name ≡ contents name
begun_left folder contents left begins leaves name =
    let now : NameLeaves folder.file (names_of folder name) (left name) = subst (λ (named : Option ℕ). NameLeaves folder.file named (left name)) (names_now folder contents name begins leaves.survive) (leaves.each name) in
    name_left folder name (names_of folder name) (left name) refl (λ number is. begins.settled name number is) now ∙ begins.reads name

synced_now : (folder : Folder) (contents : Contents) (name : List ℕ) → Begins folder contents → folder.synced name ≡ names_of folder name
synced_now folder contents name begins = sym (ap (λ (changes : List Change). after_changes folder.synced changes name) begins.none_pending)

begun_short : (folder : Folder) (contents : Contents) → Begins folder contents → (part : List ℕ) (total : Option ℕ) → IsShortIn part total contents → IsShort part total folder
begun_short folder contents begins part total short =
    each_synced folder (λ names. (number : ℕ) → names part ≡ Some number → IsAtMost total (folder.file number).bytes) begins.none_pending
    (λ number named. short (folder.file number).bytes
    (sym (begins.reads part) ∙ ap (option_map (λ (n : ℕ). (folder.file n).bytes)) (sym (synced_now folder contents part begins) ∙ named)))

file_begun : (says : ℕ → ℕ → Type 0) (old new : DiskState) (image : Image) (stage : Option Stage) (name : List ℕ) (item : Item) → MayLeave old image → Begins new.files image.files
    → FileKept says old.files stage (claim_of name item.slices item) → FileSound says image.files stage (claim_of name item.slices item) → FileKept says new.files stage (claim_of name item.slices item)
file_begun says old new image None name item left begins kept sound =
    begun_short new.files image.files begins (claim_of name item.slices item).part item.total (short_left old.files image.files left.files (claim_of name item.slices item).part item.total kept)
file_begun says old new image (Some stage) name item left begins kept sound = (
  sound_held new.files image.files begins says (record (claim_of name item.slices item) { stage = stage }) sound
      (short_left old.files image.files left.files (claim_of name item.slices item).part item.total kept.0.short),
  kept.1,
)

facts_begun : (says : Says) (old new : DiskState) (image : Image) (history : History) → MayLeave old image → Begins new.files image.files → Facts says no_covers (items_of history) old.files
    → ((id : ℕ) (item : Item) → item_in id (items_of history) ≡ Some item → SoundItem says image.files item) → Facts says no_covers (items_of history) new.files
facts_begun says old new image history left begins facts sound id item there key address name key_is address_is name_is =
    file_begun (says address key) old new image (stage_of item.phase) name item left begins (facts id item there key address name key_is address_is name_is) (sound id item there key address name key_is address_is name_is)

pub begins_kept : (says : Says) (P : Found → Type 0) (old new : DiskState) (image : Image) → MayLeave old image → BeginsWith new image → (is : Recovers true says P old.files image) → Kept true says (λ found. found ≡ recovered is.history) new
begins_kept says P old new image left begins is later leaves =
    let facts : Facts says no_covers (items_of is.history) new.files = facts_begun says old new image is.history left begins.files is.facts is.sound in
    record {
      history = is.history;
      recorded = subst (λ (found : Option (List ℕ)). Records found is.history) (sym (begun_left new.state image.state later.state begins.state leaves.state journal_name)) is.recorded;
      taken = is.taken;
      items = refl;
      facts = facts;
      sound = facts_sound says (items_of is.history) new later leaves facts;
    }
