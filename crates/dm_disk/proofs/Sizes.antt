-- No file is longer than the furthest write ends.
use Rattle.std.proofs.Common.{◌≡◌, ℕ, ◌+◌, ◌≤◌, max, Bool, true, false, cond, eqb, List, [], ◌∷◌, length, Option, Some, None, sym, ◌∙◌, ap, arith}
use Rattle.std.specs.Option.{option_map}
use Rattle.std.proofs.lemmas.Option.{none-some, same_Some}
use Rattle.dm_disk_model.specs.File.{File, empty_file, synced_file}
use Rattle.dm_disk_model.specs.Folder.{Folder, names_of}
use Rattle.dm_disk_model.specs.Disk.{DiskState, folder_in}
use Rattle.dm_disk_model.specs.declared.place.Area.{Area}
use Rattle.dm_disk_model.specs.declared.place.Area.TheVariants.{State, Files}
use Rattle.dm_disk_model.proofs.FileBytes.{length-overwrite}
use Rattle.dm_disk.specs.declared.call.Call.{Call}
use Rattle.dm_disk.specs.declared.call.Act.{Act}
use Rattle.dm_disk.specs.declared.call.Act.TheVariants.{Create, Write, Sync, Rename, Remove, SyncNames}
use Rattle.dm_disk.specs.Calls.{folder_after, in_folder, written_file, disk_from, disk_after, empty_disk, end_of, most_end}
use Rattle.dm_disk.specs.declared.index.Named.{Named}
use Rattle.dm_disk.specs.declared.index.Standing.{Standing}
use Rattle.dm_disk.specs.Index.{look, standing_at, IsIndexOf}
use Rattle.dm_disk.specs.Look.{file_in}
use Rattle.dm_disk.proofs.Replay.{file_after_act}

-- no file of the folder is longer
abbrev AreWithin : ℕ → Folder → Type 0
AreWithin bound folder = (file : ℕ) → length (folder.file file).bytes ≤ bound

within_more : (bound more : ℕ) (folder : Folder) → AreWithin bound folder → AreWithin (max bound more) folder
within_more bound more folder within file = let low = within file in omega (arith, low)

within_after : (number : ℕ) (act : Act) (bound : ℕ) (folder : Folder) → AreWithin bound folder → AreWithin (max bound (end_of act)) (folder_after number act folder)
within_after number (Create name) bound folder within file = by (eqb file number)
  where
    by : (test : Bool) → length (cond test empty_file (folder.file file)).bytes ≤ max bound 0
    by true = omega arith
    by false = let low = within file in omega (arith, low)
within_after number (Write other at bytes) bound folder within file =
    let after = ap (λ (f : File). length f.bytes) (file_after_act number (Write other at bytes) folder file) in
    let low = by (eqb file other) in
    omega (arith, after, low)
  where
    by : (test : Bool) → length (cond test (written_file at bytes (folder.file file)) (folder.file file)).bytes ≤ max bound (at + length bytes)
    by true = let was = within file in omega (arith, was, length-overwrite (folder.file file).bytes at bytes)
    by false = let was = within file in omega (arith, was)
within_after number (Sync other) bound folder within file =
    let after = ap (λ (f : File). length f.bytes) (file_after_act number (Sync other) folder file) in
    let low = by (eqb file other) in
    omega (arith, after, low)
  where
    by : (test : Bool) → length (cond test (synced_file (folder.file file)) (folder.file file)).bytes ≤ max bound 0
    by true = let was = within file in omega (arith, was)
    by false = let was = within file in omega (arith, was)
within_after number (Rename from to) bound folder within file = within_more bound 0 folder within file
within_after number (Remove name) bound folder within file = within_more bound 0 folder within file
within_after number SyncNames bound folder within file = within_more bound 0 folder within file

record BothWithin (bound : ℕ) (disk : DiskState) : Type 0 where
  state : AreWithin bound disk.state
  files : AreWithin bound disk.files

both_after : (number : ℕ) (area : Area) (act : Act) (bound : ℕ) (disk : DiskState) → BothWithin bound disk → BothWithin (max bound (end_of act)) (in_folder area (folder_after number act) disk)
both_after number State act bound disk within = record { state = within_after number act bound disk.state within.state; files = within_more bound (end_of act) disk.files within.files }
both_after number Files act bound disk within = record { state = within_more bound (end_of act) disk.state within.state; files = within_after number act bound disk.files within.files }

within_from : (number : ℕ) (calls : List Call) (bound : ℕ) (disk : DiskState) → BothWithin bound disk → (area : Area) (file : ℕ) → length (file_in area file (disk_from number calls disk)).bytes ≤ max bound (most_end calls)
within_from number [] bound disk within State file = within_more bound 0 disk.state within.state file
within_from number [] bound disk within Files file = within_more bound 0 disk.files within.files file
within_from number (call ∷ later) bound disk within area file =
    let low = within_from (number + 1) later (max bound (end_of call.act)) (in_folder call.area (folder_after number call.act) disk) (both_after number call.area call.act bound disk within) area file in
    omega (arith, low)

pub size_within : (calls : List Call) (area : Area) (file : ℕ) → length (file_in area file (disk_after calls)).bytes ≤ most_end calls
size_within calls area file =
    let low = within_from 0 calls 0 empty_disk (record { state = λ number. omega arith; files = λ number. omega arith }) area file in
    omega (arith, low)

-- what the index has is no longer
pub size_near : (calls : List Call) (entries : List Named) (area : Area) (name : List ℕ) (standing : Standing) → IsIndexOf (disk_after calls) entries → look area name entries ≡ Some standing
    → standing.size ≤ most_end calls
size_near calls entries area name standing told found = by (names_of (folder_in area (disk_after calls)) name) (sym (told.each area name) ∙ found)
  where
    by : (number : Option ℕ) → option_map (standing_at (folder_in area (disk_after calls))) number ≡ Some standing → standing.size ≤ most_end calls
    by None is = absurd (none-some standing is)
    by (Some number) is =
        let same = ap (λ (s : Standing). s.size) (same_Some (standing_at (folder_in area (disk_after calls)) number) standing is) in
        omega (arith, same, size_within calls area number)
