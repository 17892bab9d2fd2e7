-- One file: what a read returns, and what a crash may leave of it.
use Rattle.std.specs.Prelude.{◌≡◌, ◌⊎◌, ℕ, ◌+◌, ◌-◌, ◌<◌, ◌≤◌, max, List, [], ◌∷◌, ◌++◌, length, take, drop, replicate, slice_index}

pub record File : Type 0 where
  -- as it reads
  pub bytes : List ℕ
  -- its length at the last sync
  pub synced : ℕ
  -- the ranges that were written since, each from a place up to another, the last first
  pub touched : List (ℕ × ℕ)

-- no write since the last sync touched this place
abbrev pub IsUntouched : List (ℕ × ℕ) → ℕ → Type 0
IsUntouched [] i = Unit {0}
IsUntouched (range ∷ earlier) i = ((i < range.0) ⊎ (range.1 ≤ i)) × IsUntouched earlier i

-- the place is below the synced length, and nothing was written there since
pub record IsClean (file : File) (i : ℕ) : Type 0 where
  pub below : i < file.synced
  pub untouched : IsUntouched file.touched i

-- After a crash a clean place holds its byte and every other place any byte. The length is between the synced one and the present one.
pub record FileLeaves (file : File) (bytes : List ℕ) : Type 0 where
  pub clean : (i : ℕ) → IsClean file i → slice_index bytes i ≡ slice_index file.bytes i
  pub no_shorter : file.synced ≤ length bytes
  pub no_longer : length bytes ≤ length file.bytes

-- the bytes after a write at a place: past the end it leaves zeros between
abbrev pub overwrite : List ℕ → ℕ → List ℕ → List ℕ
overwrite old at bytes = take at (old ++ replicate (at - length old) 0) ++ bytes ++ drop (at + length bytes) old

-- Outside the range every byte is the same, where 0 stands for a byte past the end. The length is between the old one and the range's end.
pub record SameOutside (from to : ℕ) (old new : List ℕ) : Type 0 where
  pub others : (i : ℕ) → (i < from) ⊎ (to ≤ i) → slice_index new i ≡ slice_index old i
  pub no_shorter : length old ≤ length new
  pub no_longer : length new ≤ max (length old) to

-- a file with nothing in it, that was never synced
abbrev pub empty_file : File
empty_file = record { bytes = []; synced = 0; touched = [] }

-- a file that holds these bytes, all of them clean
abbrev pub settled_file : List ℕ → File
settled_file bytes = record { bytes = bytes; synced = length bytes; touched = [] }

-- all of the file is clean
abbrev pub IsAllClean : File → Type 0
IsAllClean file = file ≡ settled_file file.bytes

-- the file after a sync: all of it is clean
abbrev pub synced_file : File → File
synced_file file = settled_file file.bytes

-- the bytes were written at this place
pub record IsWritten (at : ℕ) (piece : List ℕ) (old new : File) : Type 0 where
  pub bytes : new.bytes ≡ overwrite old.bytes at piece
  pub synced : new.synced ≡ old.synced
  pub touched : new.touched ≡ (at, at + length piece) ∷ old.touched

-- a write of so many bytes at this place was begun: any bytes may stand in its range
pub record IsTorn (at count : ℕ) (old new : File) : Type 0 where
  pub bytes : SameOutside at (at + count) old.bytes new.bytes
  pub synced : new.synced ≡ old.synced
  pub touched : new.touched ≡ (at, at + count) ∷ old.touched

-- the file was synced
abbrev pub IsSynced : File → File → Type 0
IsSynced old new = new ≡ synced_file old
