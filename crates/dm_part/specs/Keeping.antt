-- What is kept of one item's file, on a disk and in an image. Neither items nor origins are known here: `says place byte`
-- stands for what the origin says under the item's address and key.
use Rattle.std.specs.Prelude.{◌≡◌, ◌⊎◌, ℕ, ◌+◌, ◌<◌, ◌≤◌, List, [], length, slice_index, Option, Some, None, IfSome}
use Rattle.sha2.specs.Sha256.{sha256}
use Rattle.dm_types.specs.declared.slices.Slice.{Slice}
use Rattle.dm_slice.specs.Words.{HasByte, Holds, IsFull}
use Rattle.dm_disk_model.specs.File.{File, IsClean}
use Rattle.dm_disk_model.specs.Folder.{Names, Folder, Contents, EachPrefix, AreSettled, contents_of}

-- how far an item is: its content comes into the part; all of it is there, and the part is given its name; it stands under its name
pub data Stage : Type 0 where
  Going : Stage
  Moving : Stage
  Published : Stage

-- what is claimed of one item's file
pub record Claim : Type 0 where
  -- the part's name, and the name that the file gets
  pub part : List ℕ
  pub name : List ℕ
  pub stage : Stage
  -- the places that are recorded as received, and those that were received so far
  pub saved : List Slice
  pub live : List Slice
  -- the content's length, and the digest that it must have, where they are known
  pub total : Option ℕ
  pub digest : Option (List ℕ)

-- Where the file lies under these names, by its number: in the part, and the name is free; while it is moved, under one of the
-- two names alone; once it is published, under its name.
abbrev pub LiesAt : Stage → List ℕ → List ℕ → ℕ → Names → Type 0
LiesAt Going part name number names = (names part ≡ Some number) × (names name ≡ None)
LiesAt Moving part name number names = ((names part ≡ Some number) × (names name ≡ None)) ⊎ ((names name ≡ Some number) × (names part ≡ None))
LiesAt Published part name number names = names name ≡ Some number

-- the bytes are the whole content: the total is their length, all of them were received, and the digest is theirs
pub record IsContent (total : Option ℕ) (digest : Option (List ℕ)) (saved : List Slice) (bytes : List ℕ) : Type 0 where
  pub ends : total ≡ Some (length bytes)
  pub full : IsFull (length bytes) saved
  pub sum : IfSome digest (λ d. d ≡ sha256 bytes)

-- what is moved or published is the whole content
abbrev pub IsWhole : Stage → Option ℕ → Option (List ℕ) → List Slice → List ℕ → Type 0
IsWhole Going total digest saved bytes = Unit {0}
IsWhole Moving total digest saved bytes = IsContent total digest saved bytes
IsWhole Published total digest saved bytes = IsContent total digest saved bytes

-- no more bytes than the total, where that is known
abbrev pub IsAtMost : Option ℕ → List ℕ → Type 0
IsAtMost total bytes = IfSome total (λ t. length bytes ≤ t)

-- Each of these places has a byte that the origin says there.
abbrev pub IsSaid : (ℕ → ℕ → Type 0) → List Slice → List ℕ → Type 0
IsSaid says cover bytes = (place : ℕ) → HasByte cover place → (place < length bytes) × says place (slice_index bytes place)

-- What is kept of the file: each saved place is clean, each live place has a byte that the origin says, and the live places hold the saved ones.
pub record Filed (says : ℕ → ℕ → Type 0) (claim : Claim) (file : File) : Type 0 where
  pub clean : (place : ℕ) → HasByte claim.saved place → IsClean file place
  pub said : IsSaid says claim.live file.bytes
  pub holds : Holds claim.live claim.saved
  pub short : IsAtMost claim.total file.bytes
  pub within : file.synced ≤ length file.bytes
  pub whole : IsWhole claim.stage claim.total claim.digest claim.saved file.bytes

-- Whichever changes of names survive, the part has no more bytes than the total. Of a cancelled item this alone is kept.
abbrev pub IsShort : List ℕ → Option ℕ → Folder → Type 0
IsShort part total folder = EachPrefix folder (λ names. (number : ℕ) → names part ≡ Some number → IsAtMost total (folder.file number).bytes)

-- the same of what a crash left
abbrev pub IsShortIn : List ℕ → Option ℕ → Contents → Type 0
IsShortIn part total contents = (bytes : List ℕ) → contents part ≡ Some bytes → IsAtMost total bytes

-- The claim holds in the folder: whichever changes of names survive, one file lies where its stage says, and is kept.
pub record Held (says : ℕ → ℕ → Type 0) (folder : Folder) (claim : Claim) : Type 0 where
  pub number : ℕ
  pub lies : EachPrefix folder (LiesAt claim.stage claim.part claim.name number)
  pub filed : Filed says claim (folder.file number)
  pub short : IsShort claim.part claim.total folder

-- where these bytes are found in what a crash left
abbrev pub FoundAt : Stage → List ℕ → List ℕ → List ℕ → Contents → Type 0
FoundAt Going part name bytes contents = (contents part ≡ Some bytes) × (contents name ≡ None)
FoundAt Moving part name bytes contents = ((contents part ≡ Some bytes) × (contents name ≡ None)) ⊎ ((contents name ≡ Some bytes) × (contents part ≡ None))
FoundAt Published part name bytes contents = contents name ≡ Some bytes

-- The claim is sound in what a crash left: the file is found where its stage says, each saved place has a byte that the origin
-- says, and what is moved or published is whole.
pub record SoundOf (says : ℕ → ℕ → Type 0) (claim : Claim) (contents : Contents) : Type 0 where
  pub bytes : List ℕ
  pub found : FoundAt claim.stage claim.part claim.name bytes contents
  pub said : IsSaid says claim.saved bytes
  pub short : IsAtMost claim.total bytes
  pub whole : IsWhole claim.stage claim.total claim.digest claim.saved bytes

-- A write of so many bytes at this place touches no live place, and ends within the total.
pub record IsFree (claim : Claim) (at count : ℕ) : Type 0 where
  pub beside : (place : ℕ) → HasByte claim.live place → (place < at) ⊎ (at + count ≤ place)
  pub within : IfSome claim.total (λ t. at + count ≤ t)

-- A piece is landed at a free place: the origin says each of its bytes, and the live places grow by its places at most.
pub record Lands (says : ℕ → ℕ → Type 0) (claim : Claim) (at : ℕ) (piece : List ℕ) (live : List Slice) : Type 0 where
  pub free : IsFree claim at (length piece)
  pub said : (i : ℕ) → i < length piece → says (at + i) (slice_index piece i)
  pub grown : (place : ℕ) → HasByte live place → HasByte claim.live place ⊎ ((at ≤ place) × (place < at + length piece))
  pub holds : Holds live claim.saved

-- no place was received
abbrev pub IsEmpty : List Slice → Type 0
IsEmpty cover = (place : ℕ) → HasByte cover place → ⊥

-- The folder begins with what a crash left: each file that has a name is clean as it reads, and no change of names is pending.
pub record Begins (folder : Folder) (contents : Contents) : Type 0 where
  pub reads : (name : List ℕ) → contents_of folder name ≡ contents name
  pub settled : AreSettled folder
  pub none_pending : folder.changes ≡ []
