-- Facts of items, and what they leave in images.
use Rattle.std.proofs.Common.{◌≡◌, inl, inr, ℕ, Bool, true, false, List, [], ◌∷◌, Option, Some, None, Result, refl, sym, ◌∙◌, ap, subst}
use Rattle.dm_types.specs.declared.item.Item.{Item}
use Rattle.dm_types.specs.declared.item.Key.{Key}
use Rattle.dm_types.specs.declared.slices.Slice.{Slice}
use Rattle.dm_disk_model.specs.declared.place.Area.{Area}
use Rattle.dm_disk_model.specs.declared.place.DiskFault.{DiskFault}
use Rattle.dm_disk_model.specs.Disk.{DiskState, Image, MayLeave, SyncNamesStep}
use Rattle.dm_disk_model.specs.Folder.{Folder}
use Rattle.dm_part.specs.Keeping.{Claim, Stage}
use Rattle.dm_part.proofs.Sound.{held_each, short_left}
use Rattle.dm_part.proofs.Beside.{names_beside, names_short}
use Rattle.dm_part.proofs.Own.{held_fewer}
use Rattle.dm_kept.specs.Files.{Covers, EachItem, Fact, Facts, FileKept, IfDescribed, Says, Sound, FileSound, SoundItem, claim_of, live_of, no_covers, stage_of}

file_sound : (says : ℕ → ℕ → Type 0) (disk : DiskState) (image : Image) (stage : Option Stage) (claim : Claim) → MayLeave disk image → FileKept says disk.files stage claim → FileSound says image.files stage claim
file_sound says disk image None claim left kept = short_left disk.files image.files left.files claim.part claim.total kept
file_sound says disk image (Some stage) claim left kept = held_each says (record claim { stage = stage }) disk kept.0 image left

-- what is kept is sound in each image
pub facts_sound : (says : Says) (items : List Item) (disk : DiskState) (image : Image) → MayLeave disk image → Facts says no_covers items disk.files → Sound says items image
facts_sound says items disk image left facts id item is key address name key_is address_is name_is =
    file_sound (says address key) disk image (stage_of item.phase) (claim_of name item.slices item) left (facts id item is key address name key_is address_is name_is)

pub file_saved : (says : ℕ → ℕ → Type 0) (folder : Folder) (stage : Option Stage) (name : List ℕ) (live : List Slice) (item : Item) → FileKept says folder stage (claim_of name live item) → FileKept says folder stage (claim_of name item.slices item)
file_saved says folder None name live item kept = kept
file_saved says folder (Some stage) name live item kept =
    (held_fewer says folder (record (claim_of name live item) { stage = stage }) item.slices kept.0.filed.holds (λ place has. has) kept.0, kept.1)

-- facts of the live covers are facts of the saved ones
pub facts_saved : (says : Says) (covers : Covers) (items : List Item) (folder : Folder) → Facts says covers items folder → Facts says no_covers items folder
facts_saved says covers items folder facts id item is key address name key_is address_is name_is =
    file_saved (says address key) folder (stage_of item.phase) name (live_of covers item) item (facts id item is key address name key_is address_is name_is)

file_names : (says : ℕ → ℕ → Type 0) (stage : Option Stage) (claim : Claim) (area : Area) (result : Result (Unit {0}) DiskFault) (old new : DiskState) → SyncNamesStep area result old new → FileKept says old.files stage claim → FileKept says new.files stage claim
file_names says None claim area result old new taken kept = names_short claim.part claim.total result old new kept area taken
file_names says (Some stage) claim area result old new taken kept = (names_beside says (record claim { stage = stage }) result old new kept.0 area taken, kept.1)

-- a sync of names leaves the facts of all items
pub facts_names : (says : Says) (covers : Covers) (items : List Item) (area : Area) (result : Result (Unit {0}) DiskFault) (old new : DiskState) → SyncNamesStep area result old new → Facts says covers items old.files → Facts says covers items new.files
facts_names says covers items area result old new taken facts id item is key address name key_is address_is name_is =
    file_names (says address key) (stage_of item.phase) (claim_of name (live_of covers item) item) area result old new taken (facts id item is key address name key_is address_is name_is)
