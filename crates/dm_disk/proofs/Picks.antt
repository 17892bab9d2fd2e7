-- The picked names, and the least bytes of a file, call by call.
use Rattle.std.proofs.Common.{◌≡◌, ◌≢◌, ◌⊎◌, inl, inr, ⊎_elim, ℕ, zero, suc, ◌+◌, ◌-◌, ◌<◌, ◌≤◌, true, false, cond, ◌&&◌, List, [], ◌∷◌, length, take, get_or, refl, sym, ◌∙◌, ap, subst, arith}
use Rattle.std.proofs.lemmas.Bool.{cases_lt, false≢true, cond-false}
use Rattle.std.proofs.lemmas.Option.{get_or_from_slice_get}
use Rattle.dm_disk_model.specs.File.{File, synced_file, empty_file}
use Rattle.dm_disk_model.specs.Folder.{Names, Folder, names_of}
use Rattle.dm_disk_model.specs.Disk.{DiskState, folder_in}
use Rattle.dm_disk_model.specs.declared.place.Area.{Area}
use Rattle.dm_disk_model.specs.declared.place.Area.TheVariants.{State, Files}
use Rattle.dm_disk_model.proofs.FileBytes.{overwrite_before, overwrite_after}
use Rattle.dm_disk.specs.declared.call.Call.{Call}
use Rattle.dm_disk.specs.declared.call.Act.{Act}
use Rattle.dm_disk.specs.declared.call.Act.TheVariants.{Create, Write, Sync, Rename, Remove, SyncNames}
use Rattle.dm_disk.specs.Calls.{folder_after, in_folder, disk_after, most_end, empty_disk}
use Rattle.dm_disk.specs.Look.{file_in}
use Rattle.dm_disk.specs.Image.{IsLeastOf, LeastGoesOn, IsSyncAt, syncs, syncs_names, same_area}
use Rattle.dm_disk.proofs.Contents.{written_is}
use Rattle.dm_disk.proofs.Replay.{disk_after_more, folder_in_same, folder_in_other, with_file_same}

pub most_end_take : (n : ℕ) (calls : List Call) → most_end (take n calls) ≤ most_end calls
most_end_take zero calls = omega arith
most_end_take (suc n) [] = omega arith
most_end_take (suc n) (call ∷ calls) = let later = most_end_take n calls in omega (arith, later)

synced_act : (number : ℕ) (act : Act) (folder : Folder) → (folder_after number act folder).synced ≡ cond (syncs act) (names_of folder) folder.synced
synced_act number (Create name) folder = refl
synced_act number (Write file at bytes) folder = refl
synced_act number (Sync file) folder = refl
synced_act number (Rename from to) folder = refl
synced_act number (Remove name) folder = refl
synced_act number SyncNames folder = refl

synced_call : (number : ℕ) (area own : Area) (act : Act) (disk : DiskState)
    → (folder_in area (in_folder own (folder_after number act) disk)).synced ≡ cond (same_area area own && syncs act) (names_of (folder_in area disk)) (folder_in area disk).synced
synced_call number State State act disk = synced_act number act disk.state
synced_call number Files Files act disk = synced_act number act disk.files
synced_call number State Files act disk = refl
synced_call number Files State act disk = refl

-- after a sync of the names, they read as they were synced
read_as_synced : (number : ℕ) (act : Act) (folder : Folder) → syncs act ≡ true → names_of (folder_after number act folder) ≡ (folder_after number act folder).synced
read_as_synced number SyncNames folder is = refl
read_as_synced number (Create name) folder is = absurd (false≢true is)
read_as_synced number (Write file at bytes) folder is = absurd (false≢true is)
read_as_synced number (Sync file) folder is = absurd (false≢true is)
read_as_synced number (Rename from to) folder is = absurd (false≢true is)
read_as_synced number (Remove name) folder is = absurd (false≢true is)

read_as_synced_in : (number : ℕ) (area own : Area) (act : Act) (disk : DiskState) → (same_area area own && syncs act) ≡ true
    → names_of (folder_in area (in_folder own (folder_after number act) disk)) ≡ (folder_in area (in_folder own (folder_after number act) disk)).synced
read_as_synced_in number State State act disk is = read_as_synced number act disk.state is
read_as_synced_in number Files Files act disk is = read_as_synced number act disk.files is
read_as_synced_in number State Files act disk is = absurd (false≢true is)
read_as_synced_in number Files State act disk is = absurd (false≢true is)

-- the call synced the names
pub names_synced_here : (calls : List Call) (i : ℕ) (call : Call) (area : Area) → i < length calls → call ≡ get_or calls i call → syncs_names area call ≡ true
    → names_of (folder_in area (disk_after (take (i + 1) calls))) ≡ (folder_in area (disk_after (take (i + 1) calls))).synced
names_synced_here calls i call area lt is syncing =
    subst (λ (disk : DiskState). names_of (folder_in area disk) ≡ (folder_in area disk).synced) (sym (disk_after_more calls i call lt is))
    (read_as_synced_in i area call.area call.act (disk_after (take i calls)) syncing)

-- it didn't
pub names_synced_before : (calls : List Call) (i : ℕ) (call : Call) (area : Area) (names : Names) → i < length calls → call ≡ get_or calls i call → syncs_names area call ≡ false
    → names ≡ (folder_in area (disk_after (take i calls))).synced → names ≡ (folder_in area (disk_after (take (i + 1) calls))).synced
names_synced_before calls i call area names lt is not so_far =
    let was : Folder = folder_in area (disk_after (take i calls)) in
    so_far
    ∙ sym (ap (λ (disk : DiskState). (folder_in area disk).synced) (disk_after_more calls i call lt is)
    ∙ synced_call i area call.area call.act (disk_after (take i calls))
    ∙ cond-false (syncs_names area call) (names_of was) was.synced not)

-- a write on a file whose least bytes are known
pub least_written : (act : Act) (number file written at : ℕ) (piece old new : List ℕ) → act ≡ Write written at piece → file ≡ written → length new ≡ length old
    → ((k : ℕ) → k < length old → at ≤ k → k < at + length piece → get_or new k 0 ≡ 0)
    → ((k : ℕ) → k < length old → ((k < at) ⊎ (at + length piece ≤ k)) → get_or new k 0 ≡ get_or old k 0)
    → LeastGoesOn act number file old new
least_written act number file written at piece old new is same long inside outside folder least =
    subst (λ (after : File). IsLeastOf after new) (sym (written_is act number file written at piece folder is same)) (record {
      long = long ∙ least.long;
      clean = λ i clean.
          let lt : i < length old = let below = clean.below in let l = least.long in omega (arith, below, l) in
          let kept = least.clean i (record { below = clean.below; untouched = clean.untouched.1 }) in
          ⊎_elim
          (λ (front : i < at). outside i lt (inl front) ∙ kept ∙ sym (overwrite_before was.bytes at piece i front))
          (λ (back : at + length piece ≤ i). outside i lt (inr back) ∙ kept ∙ sym (overwrite_after was.bytes at piece i back))
          clean.untouched.0;
      zeros = λ i below not.
          let lt : i < length old = let l = least.long in omega (arith, below, l) in
          ⊎_elim
          (λ (front : i < at). outside i lt (inl front) ∙ least.zeros i below (λ clean. not (record { below = clean.below; untouched = (inl front, clean.untouched) })))
          (λ (up : at ≤ i).
          ⊎_elim
          (λ (here : i < at + length piece). inside i lt up here)
          (λ (back : at + length piece ≤ i). outside i lt (inr back) ∙ least.zeros i below (λ clean. not (record { below = clean.below; untouched = (inr back, clean.untouched) })))
          (cases_lt i (at + length piece)))
          (cases_lt i at);
    })
  where
    was : File
    was = folder.file file

-- just behind a sync everything is clean
least_of_synced : (file : File) → IsLeastOf (synced_file file) file.bytes
least_of_synced file = record { long = refl; clean = λ i clean. refl; zeros = λ i below not. absurd (not (record { below = below; untouched = tt })) }

pub least_empty : (area : Area) (file : ℕ) (bytes : List ℕ) → bytes ≡ [] → IsLeastOf (file_in area file empty_disk) bytes
least_empty area file bytes none = subst (λ (xs : List ℕ). IsLeastOf (file_in area file empty_disk) xs) (sym none) (by area)
  where
    empty : IsLeastOf empty_file []
    empty = record { long = refl; clean = λ i clean. refl; zeros = λ i below not. refl }

    by : (a : Area) → IsLeastOf (file_in a file empty_disk) []
    by State = empty
    by Files = empty

-- a call in the other folder
pub least_beside : (calls : List Call) (i : ℕ) (call : Call) (area : Area) (file : ℕ) (bytes : List ℕ) → i < length calls → call ≡ get_or calls i call → area ≢ call.area
    → IsLeastOf (file_in area file (disk_after (take i calls))) bytes → IsLeastOf (file_in area file (disk_after (take (i + 1) calls))) bytes
least_beside calls i call area file bytes lt is apart least =
    subst (λ (disk : DiskState). IsLeastOf (file_in area file disk) bytes) (sym (disk_after_more calls i call lt is))
    (subst (λ (folder : Folder). IsLeastOf (folder.file file) bytes) (sym (folder_in_other area call.area (folder_after i call.act) (disk_after (take i calls)) apart)) least)

-- a call in this folder
pub least_more : (calls : List Call) (i : ℕ) (call : Call) (area : Area) (file : ℕ) (old new : List ℕ) → i < length calls → call ≡ get_or calls i call → area ≡ call.area
    → LeastGoesOn call.act i file old new
    → IsLeastOf (file_in area file (disk_after (take i calls))) old → IsLeastOf (file_in area file (disk_after (take (i + 1) calls))) new
least_more calls i call area file old new lt is own goes_on least =
    subst (λ (disk : DiskState). IsLeastOf (file_in area file disk) new) (sym (disk_after_more calls i call lt is))
    (subst (λ (a : Area). IsLeastOf (file_in area file (in_folder a (folder_after i call.act) (disk_after (take i calls)))) new) own
    (subst (λ (folder : Folder). IsLeastOf (folder.file file) new) (sym (folder_in_same area (folder_after i call.act) (disk_after (take i calls))))
    (goes_on (folder_in area (disk_after (take i calls))) least)))

-- a sync of the file
pub least_synced : (calls : List Call) (i : ℕ) (call : Call) (area : Area) (file : ℕ) (bytes : List ℕ) → i < length calls → call ≡ get_or calls i call
    → call ≡ record { area = area; act = Sync file } → bytes ≡ (file_in area file (disk_after (take i calls))).bytes
    → IsLeastOf (file_in area file (disk_after (take (i + 1) calls))) bytes
least_synced calls i call area file bytes lt is sync read =
    let was : Folder = folder_in area (disk_after (take i calls)) in
    subst (λ (disk : DiskState). IsLeastOf (file_in area file disk) bytes) (sym (disk_after_more calls i call lt is))
    (subst (λ (c : Call). IsLeastOf (file_in area file (in_folder c.area (folder_after i c.act) (disk_after (take i calls)))) bytes) (sym sync)
    (subst (λ (folder : Folder). IsLeastOf (folder.file file) bytes) (sym (folder_in_same area (folder_after i (Sync file)) (disk_after (take i calls))))
    (subst (λ (after : File). IsLeastOf after bytes) (sym (with_file_same was.file file (synced_file (was.file file))))
    (subst (λ (xs : List ℕ). IsLeastOf (synced_file (was.file file)) xs) (sym read) (least_of_synced (was.file file))))))

pub least_synced_at : (calls : List Call) (count : ℕ) (area : Area) (file : ℕ) (bytes : List ℕ) → 0 < count → count ≤ length calls → IsSyncAt calls area file (count - 1)
    → bytes ≡ (file_in area file (disk_after (take (count - 1) calls))).bytes
    → IsLeastOf (file_in area file (disk_after (take count calls))) bytes
least_synced_at calls count area file bytes some le sync read =
    let one : (count - 1) + 1 ≡ count = omega arith in
    let call : Call = record { area = area; act = Sync file } in
    let is : call ≡ get_or calls (count - 1) call = sym (get_or_from_slice_get calls (count - 1) call call sync) in
    subst (λ (n : ℕ). IsLeastOf (file_in area file (disk_after (take n calls))) bytes) one
    (least_synced calls (count - 1) call area file bytes (omega arith) is refl read)

abbrev call_of : Area → Act → Call
call_of area act = record { area = area; act = act }

pub made_of_parts : (call : Call) (area : Area) (file : ℕ) → area ≡ call.area → call.act ≡ Sync file → call ≡ record { area = area; act = Sync file }
made_of_parts call area file own act =
    let moved : call ≡ call_of area call.act = ap (λ (a : Area). call_of a call.act) (sym own) in
    moved ∙ ap (call_of area) act

-- from the start on
pub least_start : (calls : List Call) (count : ℕ) (area : Area) (file : ℕ) (bytes : List ℕ) → count ≡ 0 → bytes ≡ [] → IsLeastOf (file_in area file (disk_after (take count calls))) bytes
least_start calls count area file bytes none empty =
    subst (λ (n : ℕ). IsLeastOf (file_in area file (disk_after (take n calls))) bytes) (sym none) (least_empty area file bytes empty)
