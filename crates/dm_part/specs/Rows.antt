-- Worked rows: what the origin says is `abc`, the part is `p`, and the name is `n`.
use Rattle.std.specs.Prelude.{◌≢◌, ℕ, Bool, nat_eq, List, [], ◌∷◌, slice_index, codes, Some, None, false, if◌then◌else◌, bytes_eq}
use Rattle.sha2.specs.Sha256.{sha256}
use Rattle.dm_types.specs.declared.slices.Slice.{Slice}
use Rattle.dm_disk_model.specs.File.{File, settled_file}
use Rattle.dm_disk_model.specs.Folder.{Folder, Contents, Renamed, no_names, with_name}
use Rattle.dm_part.specs.Keeping.{Stage, Going, Moving, Published, Claim, Held, SoundOf, IsShort}
use Rattle.dm_part.specs.Laws.{by_test}

-- the origin says `abc`
abbrev pub says_abc : ℕ → ℕ → Bool
says_abc place byte = nat_eq byte (slice_index (codes "abc") place)

-- so many places from the first one on
abbrev pub from_start : ℕ → List Slice
from_start count = record { first = 0; got = count; finished = false } ∷ []

-- the claim of an item of three bytes, of which so many are saved and so many live
abbrev pub claim_abc : Stage → ℕ → ℕ → Claim
claim_abc stage saved live = record { part = codes "p"; name = codes "n"; stage = stage; saved = from_start saved; live = from_start live; total = Some 3; digest = None }

-- a folder in which a file stands under this name alone
abbrev pub folder_with : List ℕ → File → Folder
folder_with name file = record { file = λ number. file; synced = with_name no_names name (Some 0); changes = [] }

-- a folder in which the part stands with these bytes, all of them clean
abbrev pub part_with : List ℕ → Folder
part_with bytes = folder_with (codes "p") (settled_file bytes)

-- `abc`, of which so many bytes were synced and these ranges written since
abbrev pub part_since : ℕ → List (ℕ × ℕ) → Folder
part_since synced touched = folder_with (codes "p") (record { bytes = codes "abc"; synced = synced; touched = touched })

-- the part stands, and another file under the name
abbrev pub both_stand : Folder
both_stand = record { file = λ number. settled_file (codes "abc"); synced = with_name (with_name no_names (codes "p") (Some 0)) (codes "n") (Some 1); changes = [] }

-- the same, with the rename to the name pending
abbrev pub moved_with : List ℕ → Folder
moved_with bytes = record { file = λ number. settled_file bytes; synced = with_name no_names (codes "p") (Some 0); changes = Renamed (codes "p") (codes "n") ∷ [] }

-- an image that has these bytes under one name, and nothing else
abbrev pub found_under : List ℕ → List ℕ → Contents
found_under found bytes name = if bytes_eq name found then Some bytes else None

pub record RowsHold : Type 0 where
  -- two bytes are saved and a third is live
  pub going : Held (by_test says_abc) (part_with (codes "abc")) (claim_abc Going 2 3)
  -- a byte that isn't what the origin says may stand where nothing was received, and nowhere else
  pub other_live : Held (by_test says_abc) (part_with (codes "abX")) (claim_abc Going 2 3) → ⊥
  pub other_left : SoundOf (by_test says_abc) (claim_abc Going 2 3) (found_under (codes "p") (codes "abX"))
  pub other_saved : SoundOf (by_test says_abc) (claim_abc Going 2 3) (found_under (codes "p") (codes "aXc")) → ⊥
  -- a saved byte is missing
  pub missing : SoundOf (by_test says_abc) (claim_abc Going 2 3) (found_under (codes "p") (codes "a")) → ⊥
  -- a saved byte was written since the last sync, or was never synced
  pub touched : Held (by_test says_abc) (part_since 3 ((1, 2) ∷ [])) (claim_abc Going 2 3) → ⊥
  pub unsynced : Held (by_test says_abc) (part_since 1 []) (claim_abc Going 2 3) → ⊥
  -- the file stands under its name too early
  pub early : SoundOf (by_test says_abc) (claim_abc Going 2 3) (found_under (codes "n") (codes "abc")) → ⊥
  pub both : Held (by_test says_abc) both_stand (claim_abc Going 2 3) → ⊥
  -- while it is moved it stands under either name, and whole
  pub moving : Held (by_test says_abc) (moved_with (codes "abc")) (claim_abc Moving 3 3)
  pub moved : SoundOf (by_test says_abc) (claim_abc Moving 3 3) (found_under (codes "n") (codes "abc"))
  pub half_moved : SoundOf (by_test says_abc) (claim_abc Moving 2 2) (found_under (codes "n") (codes "ab")) → ⊥
  -- a digest is claimed that isn't the content's
  pub other_digest : (digest : List ℕ) → digest ≢ sha256 (codes "abc") → Held (by_test says_abc) (moved_with (codes "abc")) (record (claim_abc Moving 3 3) { digest = Some digest }) → ⊥
  -- once it is published it stands under its name, and a part alone isn't enough
  pub published : Held (by_test says_abc) (folder_with (codes "n") (settled_file (codes "abc"))) (claim_abc Published 3 3)
  pub unpublished : Held (by_test says_abc) (part_with (codes "abc")) (claim_abc Published 3 3) → ⊥
  -- a part of four bytes is no part of three
  pub long : IsShort (codes "p") (Some 3) (part_with (codes "abcd")) → ⊥
