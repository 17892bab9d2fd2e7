-- What one call more leaves of a disk, of its names and of one file.
use Rattle.std.proofs.Common.{◌≡◌, ◌≢◌, ◌⊎◌, inl, inr, ℕ, ◌+◌, ◌<◌, ◌≤◌, max, true, false, cond, eqb, List, [], ◌∷◌, ◌++◌, length, take, get_or, zero, suc, refl, sym, ◌∙◌, ap, arith, zero-add}
use Rattle.std.proofs.lemmas.Bool.{eqb-true, eq-eqb, ne_eqb, cond-true, cond-false, cases_Bool}
use Rattle.std.proofs.lemmas.List.{take_more, length-take-le}
use Rattle.dm_disk_model.specs.File.{File, empty_file, synced_file}
use Rattle.dm_disk_model.specs.Folder.{Names, Created, Renamed, Removed, Folder, names_of, after_change}
use Rattle.dm_disk_model.specs.Disk.{DiskState, InArea, folder_in}
use Rattle.dm_disk_model.specs.declared.place.Area.{Area}
use Rattle.dm_disk_model.specs.declared.place.Area.TheVariants.{State, Files}
use Rattle.dm_disk_model.proofs.PendingNames.{names_more}
use Rattle.dm_disk.specs.declared.call.Call.{Call}
use Rattle.dm_disk.specs.declared.call.Act.{Act}
use Rattle.dm_disk.specs.declared.call.Act.TheVariants.{Create, Write, Sync, Rename, Remove, SyncNames}
use Rattle.dm_disk.specs.Calls.{with_file, written_file, folder_after, in_folder, disk_from, disk_after, empty_disk, end_of, most_end}

pub with_file_same : (files : ℕ → File) (number : ℕ) (file : File) → with_file files number file number ≡ file
with_file_same files number file = cond-true (eqb number number) file (files number) (eq-eqb number number refl)

pub with_file_other : (files : ℕ → File) (number : ℕ) (file : File) (other : ℕ) → other ≢ number → with_file files number file other ≡ files other
with_file_other files number file other apart = cond-false (eqb other number) file (files other) (ne_eqb other number apart)

disk_from_push : (number : ℕ) (calls : List Call) (call : Call) (disk : DiskState)
    → disk_from number (calls ++ call ∷ []) disk ≡ in_folder call.area (folder_after (number + length calls) call.act) (disk_from number calls disk)
disk_from_push number [] call disk =
    let same : number ≡ number + 0 = omega arith in
    ap (λ (n : ℕ). in_folder call.area (folder_after n call.act) disk) same
disk_from_push number (first ∷ calls) call disk =
    let next : DiskState = in_folder first.area (folder_after number first.act) disk in
    let same : (number + 1) + length calls ≡ number + length (first ∷ calls) = omega arith in
    disk_from_push (number + 1) calls call next
    ∙ ap (λ (n : ℕ). in_folder call.area (folder_after n call.act) (disk_from (number + 1) calls next)) same

-- one call more
pub disk_after_push : (calls : List Call) (call : Call) → disk_after (calls ++ call ∷ []) ≡ in_folder call.area (folder_after (length calls) call.act) (disk_after calls)
disk_after_push calls call =
    disk_from_push 0 calls call empty_disk
    ∙ ap (λ (n : ℕ). in_folder call.area (folder_after n call.act) (disk_after calls)) (zero-add (length calls))

-- the call at a place, after those before it
pub disk_after_more : (calls : List Call) (i : ℕ) (call : Call) → i < length calls → call ≡ get_or calls i call
    → disk_after (take (i + 1) calls) ≡ in_folder call.area (folder_after i call.act) (disk_after (take i calls))
disk_after_more calls i call lt is =
    ap disk_after (take_more calls i call lt)
    ∙ ap (λ (c : Call). disk_after (take i calls ++ c ∷ [])) (sym is)
    ∙ disk_after_push (take i calls) call
    ∙ ap (λ (n : ℕ). in_folder call.area (folder_after n call.act) (disk_after (take i calls))) (length-take-le i calls (omega arith))

pub folder_in_same : (area : Area) (step : Folder → Folder) (disk : DiskState) → folder_in area (in_folder area step disk) ≡ step (folder_in area disk)
folder_in_same State step disk = refl
folder_in_same Files step disk = refl

pub folder_in_other : (area other : Area) (step : Folder → Folder) (disk : DiskState) → area ≢ other → folder_in area (in_folder other step disk) ≡ folder_in area disk
folder_in_other State State step disk apart = absurd (apart refl)
folder_in_other State Files step disk apart = refl
folder_in_other Files State step disk apart = refl
folder_in_other Files Files step disk apart = absurd (apart refl)

-- a step of one folder is one in its area
pub in_area : (area : Area) (R : Folder → Folder → Type 0) (step : Folder → Folder) (disk : DiskState) → R (folder_in area disk) (step (folder_in area disk)) → InArea area R disk (in_folder area step disk)
in_area State R step disk stepped = (stepped, refl)
in_area Files R step disk stepped = (stepped, refl)

-- the names after a call
abbrev pub names_acted : ℕ → Act → Names → Names
names_acted number (Create name) names = after_change names (Created name number)
names_acted number (Write file at bytes) names = names
names_acted number (Sync file) names = names
names_acted number (Rename from to) names = after_change names (Renamed from to)
names_acted number (Remove name) names = after_change names (Removed name)
names_acted number SyncNames names = names

pub names_after_act : (number : ℕ) (act : Act) (folder : Folder) → names_of (folder_after number act folder) ≡ names_acted number act (names_of folder)
names_after_act number (Create name) folder = names_more folder (folder_after number (Create name) folder) (Created name number) refl refl
names_after_act number (Write file at bytes) folder = refl
names_after_act number (Sync file) folder = refl
names_after_act number (Rename from to) folder = names_more folder (folder_after number (Rename from to) folder) (Renamed from to) refl refl
names_after_act number (Remove name) folder = names_more folder (folder_after number (Remove name) folder) (Removed name) refl refl
names_after_act number SyncNames folder = refl

-- one file after a call
abbrev pub file_acted : ℕ → Act → ℕ → File → File
file_acted number (Create name) file was = cond (eqb file number) empty_file was
file_acted number (Write other at bytes) file was = cond (eqb file other) (written_file at bytes was) was
file_acted number (Sync other) file was = cond (eqb file other) (synced_file was) was
file_acted number (Rename from to) file was = was
file_acted number (Remove name) file was = was
file_acted number SyncNames file was = was

-- where a file is set to what it becomes
set_own : (files : ℕ → File) (number file : ℕ) (step : File → File) → with_file files number (step (files number)) file ≡ cond (eqb file number) (step (files file)) (files file)
set_own files number file step = by (cases_Bool (eqb file number))
  where
    by : (eqb file number ≡ true) ⊎ (eqb file number ≡ false) → cond (eqb file number) (step (files number)) (files file) ≡ cond (eqb file number) (step (files file)) (files file)
    by (inl same) = let e : file ≡ number = eqb-true file number same in ap (λ (n : ℕ). cond (eqb file number) (step (files n)) (files file)) (sym e)
    by (inr apart) = cond-false (eqb file number) (step (files number)) (files file) apart ∙ sym (cond-false (eqb file number) (step (files file)) (files file) apart)

pub file_after_act : (number : ℕ) (act : Act) (folder : Folder) (file : ℕ) → (folder_after number act folder).file file ≡ file_acted number act file (folder.file file)
file_after_act number (Create name) folder file = refl
file_after_act number (Write other at bytes) folder file = set_own folder.file other file (written_file at bytes)
file_after_act number (Sync other) folder file = set_own folder.file other file synced_file
file_after_act number (Rename from to) folder file = refl
file_after_act number (Remove name) folder file = refl
file_after_act number SyncNames folder file = refl

-- the furthest end, of one call more and of each call
pub most_end_push : (calls : List Call) (call : Call) → most_end (calls ++ call ∷ []) ≡ max (most_end calls) (end_of call.act)
most_end_push [] call = omega arith
most_end_push (first ∷ calls) call = let more = most_end_push calls call in omega (arith, more)

pub most_end_at : (calls : List Call) (i : ℕ) (call : Call) → i < length calls → call ≡ get_or calls i call → end_of call.act ≤ most_end calls
most_end_at [] i call lt is = absurd (omega arith)
most_end_at (first ∷ calls) zero call lt is = let same : end_of call.act ≡ end_of first.act = ap (λ (c : Call). end_of c.act) is in omega (arith, same)
most_end_at (first ∷ calls) (suc i) call lt is = let later = most_end_at calls i call (omega arith) is in omega (arith, later)
