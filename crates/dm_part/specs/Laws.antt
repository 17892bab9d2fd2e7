-- What the calls on parts keep, at each moment. `test place byte` is any test of what an origin says.
use Rattle.std.specs.Prelude.{◌≡◌, ◌≢◌, ◌⊎◌, ℕ, ◌+◌, ◌≤◌, max, Bool, IsTrue, List, length, take, Option, Some, IfSome, Result, Ok, Err, OnOk}
use Rattle.sha2.specs.Sha256.{sha256}
use Rattle.dm_types.specs.declared.slices.Slice.{Slice}
use Rattle.dm_slice.specs.Words.{Holds, IsNormal, IsFull, cover_end}
use Rattle.dm_disk_model.specs.declared.place.Area.{Area}
use Rattle.dm_disk_model.specs.declared.place.Area.TheVariants.{Files}
use Rattle.dm_disk_model.specs.declared.place.Place.{Place}
use Rattle.dm_disk_model.specs.declared.place.DiskFault.{DiskFault}
use Rattle.dm_disk_model.specs.File.{File}
use Rattle.dm_disk_model.specs.Firm.{HasFile}
use Rattle.dm_disk_model.specs.Beside.{IsFirm}
use Rattle.dm_disk_model.specs.Disk.{DiskState, Image, History, Next, MayLeave, IsSoundDisk, Stands, StandsNot, bytes_at, now, CreateStep, WriteStep, SyncStep, RenameStep, RemoveStep, SyncNamesStep}
use Rattle.dm_disk_model.specs.Moments.{Throughout, KeepsFiles}
use Rattle.dm_part.specs.Keeping.{Stage, Going, Moving, Published, Claim, Held, SoundOf, Begins, IsShort, IsShortIn, IsSaid, IsAtMost, IsContent, Lands, IsEmpty}
use Rattle.dm_part.specs.Runs.{InTurn}

-- what the test passes is said
abbrev pub by_test : (ℕ → ℕ → Bool) → ℕ → ℕ → Type 0
by_test test place byte = IsTrue (test place byte)

-- the place of a name among the user's files
abbrev pub files_place : List ℕ → Place
files_place name = record { area = Files; name = name }

-- the claim is held among the user's files
abbrev pub HeldOn : (ℕ → ℕ → Type 0) → Claim → DiskState → Type 0
HeldOn says claim disk = Held says disk.files claim

-- the same of the shortness of a part
abbrev pub ShortOn : List ℕ → Option ℕ → DiskState → Type 0
ShortOn part total disk = IsShort part total disk.files

-- the name is neither the claim's part nor its name
pub record IsOther (claim : Claim) (other : List ℕ) : Type 0 where
  pub part : other ≢ claim.part
  pub name : other ≢ claim.name

-- A claim that holds is sound in each image.
abbrev pub HeldIsSound : Type 0
HeldIsSound = (test : ℕ → ℕ → Bool) (claim : Claim) (disk : DiskState) → HeldOn (by_test test) claim disk → (image : Image) → MayLeave disk image → SoundOf (by_test test) claim image.files

-- A part that is short is short in each image.
abbrev pub ShortIsLeft : Type 0
ShortIsLeft = (part : List ℕ) (total : Option ℕ) (disk : DiskState) → ShortOn part total disk → (image : Image) → MayLeave disk image → IsShortIn part total image.files

-- where the file stands as the disk reads, by its stage: at one of its two names alone, but for a published one, of which the part isn't asked
abbrev pub StandsAs : Stage → List ℕ → List ℕ → DiskState → Type 0
StandsAs Going part name disk = Stands disk (files_place part) × StandsNot disk (files_place name)
StandsAs Moving part name disk = (Stands disk (files_place part) × StandsNot disk (files_place name)) ⊎ (Stands disk (files_place name) × StandsNot disk (files_place part))
StandsAs Published part name disk = Stands disk (files_place name)

-- A claim that holds says what stands.
abbrev pub HeldStands : Type 0
HeldStands = (test : ℕ → ℕ → Bool) (claim : Claim) (disk : DiskState) → HeldOn (by_test test) claim disk → StandsAs claim.stage claim.part claim.name disk

-- The part of an item whose content comes reads as bytes that hold each place received, up to the end of the recorded ones, and are no more than the total.
abbrev pub PartReads : Type 0
PartReads = (test : ℕ → ℕ → Bool) (claim : Claim) (disk : DiskState) → claim.stage ≡ Going → HeldOn (by_test test) claim disk → (bytes : List ℕ) → bytes_at disk (files_place claim.part) ≡ Some bytes
    → IsSaid (by_test test) claim.live bytes × IsAtMost claim.total bytes × (IsNormal claim.total claim.saved → cover_end claim.saved ≤ length bytes)

-- While a file is moved, what reads under either of its two names is the whole content.
abbrev pub MovingReads : Type 0
MovingReads = (test : ℕ → ℕ → Bool) (claim : Claim) (disk : DiskState) → claim.stage ≡ Moving → HeldOn (by_test test) claim disk
    → (name bytes : List ℕ) → (name ≡ claim.part) ⊎ (name ≡ claim.name) → bytes_at disk (files_place name) ≡ Some bytes → IsContent claim.total claim.digest claim.saved bytes

-- Once it is published, what reads under its name is.
abbrev pub PublishedReads : Type 0
PublishedReads = (test : ℕ → ℕ → Bool) (claim : Claim) (disk : DiskState) → claim.stage ≡ Published → HeldOn (by_test test) claim disk
    → (bytes : List ℕ) → bytes_at disk (files_place claim.name) ≡ Some bytes → IsContent claim.total claim.digest claim.saved bytes

-- Where a digest was taken of as many bytes as the file has at most, with all of them recorded, the file is whole, and each digest that is the same may be claimed.
abbrev pub DigestTells : Type 0
DigestTells = (total : ℕ) (saved : List Slice) (file sum : List ℕ) (stated : Option (List ℕ)) → length file ≤ total → total ≤ length file → sum ≡ sha256 (take total file) → IsFull total saved
    → IfSome stated (λ d. d ≡ sum) → IsContent (Some total) stated saved file

-- Calls at other names leave this at each moment: a write or a sync of the one file that a name has, whichever changes of names survive; the
-- making, the renaming and the removal of files; a sync of names; and whatever is done in the journal's folder.
pub record LeftByOthers (is_other : List ℕ → Type 0) (P : DiskState → Type 0) : Type 0 where
  pub write : (other : List ℕ) (file : File) (at : ℕ) (piece : List ℕ) (result : Result (Unit {0}) DiskFault) (old new : History) → is_other other → IsSoundDisk (now old) → HasFile (now old).files other file
      → Next old new (WriteStep (files_place other) at piece result) → P (now old) → Throughout old new P
  pub sync : (other : List ℕ) (file : File) (result : Result (Unit {0}) DiskFault) (old new : History) → is_other other → IsSoundDisk (now old) → HasFile (now old).files other file
      → Next old new (SyncStep (files_place other) result) → P (now old) → Throughout old new P
  pub create : (other : List ℕ) (result : Result (Unit {0}) DiskFault) (old new : History) → is_other other → Next old new (CreateStep (files_place other) result) → P (now old) → Throughout old new P
  pub rename : (from to : List ℕ) (result : Result (Unit {0}) DiskFault) (old new : History) → is_other from → is_other to → Next old new (RenameStep (files_place from) (files_place to) result)
      → P (now old) → Throughout old new P
  pub remove : (other : List ℕ) (result : Result (Unit {0}) DiskFault) (old new : History) → is_other other → Next old new (RemoveStep (files_place other) result) → P (now old) → Throughout old new P
  pub names : (area : Area) (result : Result (Unit {0}) DiskFault) (old new : History) → Next old new (SyncNamesStep area result) → P (now old) → Throughout old new P
  pub files : (old new : History) → KeepsFiles old new → P (now old) → Throughout old new P

-- A claim is left by calls at names that are neither its part nor its name.
abbrev pub ClaimIsLeft : Type 0
ClaimIsLeft = (test : ℕ → ℕ → Bool) (claim : Claim) → LeftByOthers (IsOther claim) (HeldOn (by_test test) claim)

-- The shortness of a part is left by calls at other names.
abbrev pub ShortnessIsLeft : Type 0
ShortnessIsLeft = (part : List ℕ) (total : Option ℕ) → LeftByOthers (λ other. other ≢ part) (ShortOn part total)

-- the claim after a piece was landed: where the write failed no place is live that wasn't
abbrev pub landed : Result (Unit {0}) DiskFault → List Slice → Claim → Claim
landed (Ok done) live claim = record claim { live = live }
landed (Err fault) live claim = claim

-- the claim after the part was synced, and more places may be saved
abbrev pub settled : Result (Unit {0}) DiskFault → List Slice → Claim → Claim
settled (Ok done) saved claim = record claim { saved = saved }
settled (Err fault) saved claim = claim

-- A piece that is landed leaves the claim at each moment; after Ok its places are live.
abbrev pub PutKeeps : Type 0
PutKeeps = (test : ℕ → ℕ → Bool) (claim : Claim) (live : List Slice) (at : ℕ) (piece : List ℕ) (result : Result (Unit {0}) DiskFault) (old new : History)
    → claim.stage ≡ Going → Lands (by_test test) claim at piece live → Next old new (WriteStep (files_place claim.part) at piece result) → HeldOn (by_test test) claim (now old)
    → Throughout old new (HeldOn (by_test test) claim) × HeldOn (by_test test) (landed result live claim) (now new)

-- how long a file is after a write up to this end, by the answer: what a failed write leaves is no longer
abbrev pub IsLong : Result (Unit {0}) DiskFault → ℕ → ℕ → ℕ → Type 0
IsLong (Ok done) end before after = after ≡ max before end
IsLong (Err fault) end before after = (before ≤ after) × (after ≤ max before end)

-- A write makes a part as long as its end, or leaves its length.
abbrev pub PutLength : Type 0
PutLength = (part : List ℕ) (at : ℕ) (piece before after : List ℕ) (result : Result (Unit {0}) DiskFault) (old new : DiskState) → WriteStep (files_place part) at piece result old new
    → bytes_at old (files_place part) ≡ Some before → bytes_at new (files_place part) ≡ Some after → IsLong result (at + length piece) (length before) (length after)

-- A sync of the part leaves the claim at each moment; after Ok each live place may be saved.
abbrev pub SettleKeeps : Type 0
SettleKeeps = (test : ℕ → ℕ → Bool) (claim : Claim) (saved : List Slice) (result : Result (Unit {0}) DiskFault) (old new : History)
    → claim.stage ≡ Going → Holds claim.live saved → Next old new (SyncStep (files_place claim.part) result) → HeldOn (by_test test) claim (now old)
    → Throughout old new (HeldOn (by_test test) claim) × HeldOn (by_test test) (settled result saved claim) (now new)

-- Where all of the content was saved, and the digest is its own, the file may be moved.
abbrev pub MayMove : Type 0
MayMove = (test : ℕ → ℕ → Bool) (claim : Claim) (total : Option ℕ) (digest : Option (List ℕ)) (bytes : List ℕ) (disk : DiskState)
    → claim.stage ≡ Going → bytes_at disk (files_place claim.part) ≡ Some bytes → IsContent total digest claim.saved bytes → HeldOn (by_test test) claim disk
    → HeldOn (by_test test) (record claim { stage = Moving; total = total; digest = digest }) disk

-- Fewer places may be live, as after an interruption.
abbrev pub MayLose : Type 0
MayLose = (test : ℕ → ℕ → Bool) (claim : Claim) (live : List Slice) (disk : DiskState) → Holds claim.live live → Holds live claim.saved → HeldOn (by_test test) claim disk → HeldOn (by_test test) (record claim { live = live }) disk

-- A digest that was taken of the published file may be claimed.
abbrev pub MayTell : Type 0
MayTell = (test : ℕ → ℕ → Bool) (claim : Claim) (digest : Option (List ℕ)) (bytes : List ℕ) (disk : DiskState)
    → claim.stage ≡ Published → bytes_at disk (files_place claim.name) ≡ Some bytes → IfSome digest (λ d. d ≡ sha256 bytes) → HeldOn (by_test test) claim disk
    → HeldOn (by_test test) (record claim { digest = digest }) disk

-- A claim that is sound in an image, with nothing live that isn't saved and its part short, holds on a disk that begins with this image.
abbrev pub SoundHolds : Type 0
SoundHolds = (test : ℕ → ℕ → Bool) (claim : Claim) (image : Image) (disk : DiskState) → Begins disk.files image.files
    → SoundOf (by_test test) claim image.files → IsShortIn claim.part claim.total image.files → HeldOn (by_test test) (record claim { live = claim.saved }) disk

-- A publication leaves the claim of a file that is moved at each moment; after Ok the file is published.
abbrev pub PublishKeeps : Type 0
PublishKeeps = (test : ℕ → ℕ → Bool) (claim : Claim) (result : Result (Unit {0}) DiskFault) (old new : History)
    → claim.stage ≡ Moving → Stands (now old) (files_place claim.part)
    → InTurn (RenameStep (files_place claim.part) (files_place claim.name)) (SyncNamesStep Files) result old new → HeldOn (by_test test) claim (now old)
    → Throughout old new (HeldOn (by_test test) claim) × OnOk result (HeldOn (by_test test) (record claim { stage = Published }) (now new))

-- Where a file that is moved stands under its name, a sync of names publishes it.
abbrev pub SyncPublishes : Type 0
SyncPublishes = (test : ℕ → ℕ → Bool) (claim : Claim) (old new : DiskState) → claim.stage ≡ Moving → Stands old (files_place claim.name)
    → SyncNamesStep Files (Ok tt) old new → HeldOn (by_test test) claim old → HeldOn (by_test test) (record claim { stage = Published }) new

-- So is one that stands under its name, where that has one file or none whichever changes of names survive.
abbrev pub FirmPublishes : Type 0
FirmPublishes = (test : ℕ → ℕ → Bool) (claim : Claim) (disk : DiskState) → claim.stage ≡ Moving → Stands disk (files_place claim.name) → IsFirm claim.name disk.files
    → HeldOn (by_test test) claim disk → HeldOn (by_test test) (record claim { stage = Published }) disk

-- A part that is removed is short at each moment, as before.
abbrev pub DiscardKeeps : Type 0
DiscardKeeps = (part : List ℕ) (total : Option ℕ) (result : Result (Unit {0}) DiskFault) (old new : History)
    → Next old new (RemoveStep (files_place part) result) → ShortOn part total (now old) → Throughout old new (ShortOn part total)

-- A part that was left beside a published file may be removed.
abbrev pub SweepKeeps : Type 0
SweepKeeps = (test : ℕ → ℕ → Bool) (claim : Claim) (result : Result (Unit {0}) DiskFault) (old new : History)
    → claim.stage ≡ Published → claim.name ≢ claim.part → Next old new (RemoveStep (files_place claim.part) result) → HeldOn (by_test test) claim (now old) → Throughout old new (HeldOn (by_test test) claim)

-- A part that is made for a free name, with no place received, holds its claim after Ok.
abbrev pub MakeHolds : Type 0
MakeHolds = (test : ℕ → ℕ → Bool) (claim : Claim) (old new : History)
    → claim.stage ≡ Going → IsEmpty claim.saved → IsEmpty claim.live → claim.name ≢ claim.part → StandsNot (now old) (files_place claim.name)
    → InTurn (CreateStep (files_place claim.part)) (SyncNamesStep Files) (Ok tt) old new → HeldOn (by_test test) claim (now new)
