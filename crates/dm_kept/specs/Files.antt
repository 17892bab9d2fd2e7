-- What is kept of the files of all items. Nothing is known here of desks: `covers` gives the live cover of an id, where one lives.
use Rattle.std.specs.Prelude.{◌≡◌, ◌<◌, ◌^◌, ◌&&◌, ℕ, Bool, true, false, List, Option, Some, None, IsSome, IsTrue, is_some, length}
use Rattle.dm_types.specs.Name.{IsPart, part_name}
use Rattle.dm_types.specs.declared.item.Item.{Item}
use Rattle.dm_types.specs.declared.item.Key.{Key}
use Rattle.dm_types.specs.declared.item.Phase.{Phase}
use Rattle.dm_types.specs.declared.item.Phase.TheVariants as phases
use Rattle.dm_types.specs.declared.slices.Slice.{Slice}
use Rattle.dm_slice.specs.Words.{cover_end}
use Rattle.dm_disk_model.specs.Disk.{Image}
use Rattle.dm_disk_model.specs.Folder.{Folder, Contents, contents_of, names_of}
use Rattle.dm_item.specs.Fields.{is_running}
use Rattle.dm_item.specs.History.{first_some, get}
use Rattle.dm_item.specs.Listing.{item_in}
use Rattle.dm_part.specs.Keeping.{Claim, Held, IsShort, IsShortIn, SoundOf, Stage, Going, Moving, Published}

-- what an origin says: of a kept address's text, under a key, the byte at a place
abbrev pub Says : Type 1
Says = List ℕ → Key → ℕ → ℕ → Type 0

-- it says every byte
abbrev pub says_all : Says
says_all text key place byte = Unit {0}

-- what a test passes is said
abbrev pub by_test : (List ℕ → Key → ℕ → ℕ → Bool) → Says
by_test test text key place byte = IsTrue (test text key place byte)

-- the live cover of an id
abbrev pub Covers : Type 0
Covers = ℕ → Option (List Slice)

abbrev pub no_covers : Covers
no_covers id = None

-- asked for only where the disk was good at the opening
abbrev pub IfGood : Bool → Type 0 → Type 0
IfGood true P = P
IfGood false P = Unit {0}

-- the stage of an item's file, and none for a cancelled item
abbrev pub stage_of : Phase → Option Stage
stage_of phases.Finishing = Some Moving
stage_of phases.Complete = Some Published
stage_of phases.Cancelled = None
stage_of phases.Waiting = Some Going
stage_of phases.Running = Some Going
stage_of phases.Paused = Some Going
stage_of (phases.Interrupted reason) = Some Going

-- the live places of an item: those of its live cover, or else the saved ones
abbrev pub live_of : Covers → Item → List Slice
live_of covers item = get (covers item.id.0) item.slices

-- what is claimed of an item's file, with its stage left to be said
abbrev pub claim_of : List ℕ → List Slice → Item → Claim
claim_of name live item = record {
  part = part_name item.id.0 item.epoch.0;
  name = name;
  stage = Going;
  saved = item.slices;
  live = live;
  total = item.total;
  digest = first_some item.have item.digest;
}

-- the claim holds at this stage, and the file's name is no part's; of a cancelled item the part is short, and no more
abbrev pub FileKept : (ℕ → ℕ → Type 0) → Folder → Option Stage → Claim → Type 0
FileKept says folder None claim = IsShort claim.part claim.total folder
FileKept says folder (Some stage) claim = Held says folder (record claim { stage = stage }) × (IsPart claim.name → ⊥)

-- the same of what a crash left
abbrev pub FileSound : (ℕ → ℕ → Type 0) → Contents → Option Stage → Claim → Type 0
FileSound says contents None claim = IsShortIn claim.part claim.total contents
FileSound says contents (Some stage) claim = SoundOf says (record claim { stage = stage }) contents

-- where the first reply was told, P holds of the key, the address and the name
abbrev pub IfDescribed : Item → (Key → List ℕ → List ℕ → Type 0) → Type 0
IfDescribed item P = (key : Key) (address name : List ℕ) → item.key ≡ Some key → item.last_address ≡ Some address → item.name ≡ Some name → P key address name

-- P holds of the item of each id
abbrev pub EachItem : (Item → Type 0) → List Item → Type 0
EachItem P items = (id : ℕ) (item : Item) → item_in id items ≡ Some item → P item

-- what is kept of an item's file
abbrev pub Fact : Says → Covers → Folder → Item → Type 0
Fact says covers folder item = IfDescribed item (λ key address name. FileKept (says address key) folder (stage_of item.phase) (claim_of name (live_of covers item) item))

abbrev pub Facts : Says → Covers → List Item → Folder → Type 0
Facts says covers items folder = EachItem (Fact says covers folder) items

-- what is sound of an item's file
abbrev pub SoundItem : Says → Contents → Item → Type 0
SoundItem says contents item = IfDescribed item (λ key address name. FileSound (says address key) contents (stage_of item.phase) (claim_of name item.slices item))

-- An image is sound for these items: each saved place of a part, or of the file that it became, has a byte that the origin says
-- under the item's address and key; a file that is moved or published is whole; the part of a cancelled item is short.
abbrev pub Sound : Says → List Item → Image → Type 0
Sound says items image = EachItem (SoundItem says image.files) items

-- an attempt runs, and its first reply was told
abbrev pub brings : Item → Bool
brings item = is_running item.phase && is_some item.key

-- the part of each such item stands
abbrev pub PartsStand : List Item → Folder → Type 0
PartsStand items folder = EachItem (λ item. IsTrue (brings item) → IsSome (names_of folder (part_name item.id.0 item.epoch.0))) items

-- where its total isn't known, the part ends where the live cover does
abbrev pub EndsLive : Covers → List Item → Folder → Type 0
EndsLive covers items folder =
    EachItem (λ item. IsTrue (brings item) → item.total ≡ None → (bytes : List ℕ) → contents_of folder (part_name item.id.0 item.epoch.0) ≡ Some bytes → length bytes ≡ cover_end (live_of covers item)) items

-- the id and the epoch fit 32 bits
pub record IsSmall (item : Item) : Type 0 where
  pub id : item.id.0 < 2 ^ 32
  pub epoch : item.epoch.0 < 2 ^ 32

-- the item's content comes into its part
pub record Comes (item : Item) (key : Key) (address name : List ℕ) : Type 0 where
  pub key_is : item.key ≡ Some key
  pub address_is : item.last_address ≡ Some address
  pub name_is : item.name ≡ Some name
  pub stage : stage_of item.phase ≡ Some Going
