-- A folder that is filled file by file.
use Rattle.std.proofs.Common.{◌≡◌, ◌≢◌, ⊎_elim, ℕ, ◌+◌, List, [], ◌∷◌, ◌++◌, length, Option, Some, None, refl, sym, ◌∙◌, ap, subst, arith}
use Rattle.std.specs.Option.{option_map}
use Rattle.std.proofs.lemmas.List.{drop_all, append-nil}
use Rattle.dm_disk_model.specs.File.{File, IsAllClean, empty_file, synced_file, overwrite}
use Rattle.dm_disk_model.specs.Folder.{Names, Folder, AreSettled, Created, names_of, contents_of, after_change}
use Rattle.dm_disk_model.specs.Disk.{DiskState, folder_in}
use Rattle.dm_disk_model.specs.Laws.{other_area}
use Rattle.dm_disk_model.specs.declared.place.Area.{Area}
use Rattle.dm_disk_model.specs.declared.place.Area.TheVariants.{State, Files}
use Rattle.dm_disk_model.proofs.PendingNames.{each_now, names_more, with_name_same, with_name_other, had_created}
use Rattle.dm_disk.specs.declared.call.Call.{Call}
use Rattle.dm_disk.specs.declared.call.Act.TheVariants.{Create, Write, Sync}
use Rattle.dm_disk.specs.Calls.{written_file, folder_after, in_folder, disk_after}
use Rattle.dm_disk.specs.Made.{AreBelow, IsMade}
use Rattle.dm_disk.specs.SoundCalls.{made_after}
use Rattle.dm_disk.specs.Image.{Puts}
use Rattle.dm_disk.proofs.Replay.{with_file_same, with_file_other, disk_after_push, folder_in_same}

-- a folder after a new file was made, written and synced
filled : ℕ → List ℕ → List ℕ → Folder → Folder
filled number name bytes folder = folder_after (number + 2) (Sync number) (folder_after (number + 1) (Write number 0 bytes) (folder_after number (Create name) folder))

overwrite_all : (bytes : List ℕ) → overwrite [] 0 bytes ≡ bytes
overwrite_all bytes = ap (λ (xs : List ℕ). bytes ++ xs) (drop_all (0 + length bytes) [] (omega arith)) ∙ append-nil bytes

filled_file : (number : ℕ) (name bytes : List ℕ) (folder : Folder) → ((filled number name bytes folder).file number).bytes ≡ bytes × IsAllClean ((filled number name bytes folder).file number)
unfolding filled
filled_file number name bytes folder =
    let made : Folder = folder_after number (Create name) folder in
    let wrote : Folder = folder_after (number + 1) (Write number 0 bytes) made in
    let new : made.file number ≡ empty_file = with_file_same folder.file number empty_file in
    let is_wrote : wrote.file number ≡ written_file 0 bytes empty_file = with_file_same made.file number (written_file 0 bytes (made.file number)) ∙ ap (written_file 0 bytes) new in
    let is : (filled number name bytes folder).file number ≡ synced_file (written_file 0 bytes empty_file) = with_file_same wrote.file number (synced_file (wrote.file number)) ∙ ap synced_file is_wrote in
    (ap (λ (f : File). f.bytes) is ∙ overwrite_all bytes, subst IsAllClean (sym is) refl)

filled_other : (number : ℕ) (name bytes : List ℕ) (folder : Folder) (other : ℕ) → other ≢ number → (filled number name bytes folder).file other ≡ folder.file other
unfolding filled
filled_other number name bytes folder other apart =
    let made : Folder = folder_after number (Create name) folder in
    let wrote : Folder = folder_after (number + 1) (Write number 0 bytes) made in
    with_file_other wrote.file number (synced_file (wrote.file number)) other apart
    ∙ with_file_other made.file number (written_file 0 bytes (made.file number)) other apart
    ∙ with_file_other folder.file number empty_file other apart

filled_names : (number : ℕ) (name bytes : List ℕ) (folder : Folder) → names_of (filled number name bytes folder) ≡ after_change (names_of folder) (Created name number)
unfolding filled
filled_names number name bytes folder = names_more folder (folder_after number (Create name) folder) (Created name number) refl refl

contents_by : Folder → Option ℕ → Option (List ℕ)
contents_by folder = option_map (λ number. (folder.file number).bytes)

filled_here : (number : ℕ) (name bytes : List ℕ) (folder : Folder) → contents_of (filled number name bytes folder) name ≡ Some bytes
unfolding contents_by
filled_here number name bytes folder =
    let new : Folder = filled number name bytes folder in
    ap (contents_by new) (ap (λ (names : Names). names name) (filled_names number name bytes folder) ∙ with_name_same (names_of folder) name (Some number))
    ∙ ap Some (filled_file number name bytes folder).0

by_number : (new old : Folder) (found : Option ℕ) → ((number : ℕ) → found ≡ Some number → new.file number ≡ old.file number) → contents_by new found ≡ contents_by old found
unfolding contents_by
by_number new old None same = refl
by_number new old (Some number) same = ap (λ (f : File). Some f.bytes) (same number refl)

filled_others : (number : ℕ) (name bytes : List ℕ) (folder : Folder) → AreBelow number (names_of folder) → (other : List ℕ) → other ≢ name
    → contents_of (filled number name bytes folder) other ≡ contents_of folder other
unfolding filled contents_by
filled_others number name bytes folder below other apart =
    let new : Folder = filled number name bytes folder in
    ap (contents_by new) (ap (λ (names : Names). names other) (filled_names number name bytes folder) ∙ with_name_other (names_of folder) name (Some number) other apart)
    ∙ by_number new folder (names_of folder other) (λ n has. filled_other number name bytes folder n (λ (same : n ≡ number). let low = below other n has in omega (arith, low, same)))

filled_settled : (number : ℕ) (name bytes : List ℕ) (folder : Folder) → AreBelow number (names_of folder) → AreSettled folder → AreSettled (filled number name bytes folder)
filled_settled number name bytes folder below settled other n has =
    let new : Folder = filled number name bytes folder in
    ⊎_elim
    (λ made. subst (λ (k : ℕ). IsAllClean (new.file k)) made.1 (filled_file number name bytes folder).1)
    (λ old. subst IsAllClean (sym (filled_other number name bytes folder n (λ (same : n ≡ number). let low = below other n old.1 in omega (arith, low, same)))) (settled other n old.1))
    (had_created (names_of folder) name number other n (ap (λ (names : Names). names other) (sym (filled_names number name bytes folder)) ∙ has))

thrice : (area : Area) (first second third : Folder → Folder) (disk : DiskState)
    → in_folder area third (in_folder area second (in_folder area first disk)) ≡ in_folder area (λ folder. third (second (first folder))) disk
thrice State first second third disk = refl
thrice Files first second third disk = refl

filled_disk : (calls made wrote synced : List Call) (area : Area) (name bytes : List ℕ) → made ≡ calls ++ record { area = area; act = Create name } ∷ []
    → wrote ≡ made ++ record { area = area; act = Write (length calls) 0 bytes } ∷ [] → synced ≡ wrote ++ record { area = area; act = Sync (length calls) } ∷ []
    → disk_after synced ≡ in_folder area (filled (length calls) name bytes) (disk_after calls)
unfolding filled
filled_disk calls made wrote synced area name bytes is_made is_wrote is_synced =
    let number : ℕ = length calls in
    let first = ap disk_after is_made ∙ disk_after_push calls (record { area = area; act = Create name }) in
    let second = ap disk_after is_wrote ∙ disk_after_push made (record { area = area; act = Write number 0 bytes }) in
    let third = ap disk_after is_synced ∙ disk_after_push wrote (record { area = area; act = Sync number }) in
    third
    ∙ ap (in_folder area (folder_after (length wrote) (Sync number))) second
    ∙ ap (λ (disk : DiskState). in_folder area (folder_after (length wrote) (Sync number)) (in_folder area (folder_after (length made) (Write number 0 bytes)) disk)) first
    ∙ thrice area (folder_after number (Create name)) (folder_after (length made) (Write number 0 bytes)) (folder_after (length wrote) (Sync number)) (disk_after calls)

beside : (area : Area) (step : Folder → Folder) (disk : DiskState) → folder_in (other_area area) (in_folder area step disk) ≡ folder_in (other_area area) disk
beside State step disk = refl
beside Files step disk = refl

made_in : (area : Area) (calls : List Call) → IsMade (length calls) (folder_in area (disk_after calls))
made_in State calls = (made_after calls).state
made_in Files calls = (made_after calls).files

pub puts : (calls made wrote synced : List Call) (area : Area) (name bytes : List ℕ) → made ≡ calls ++ record { area = area; act = Create name } ∷ []
    → wrote ≡ made ++ record { area = area; act = Write (length calls) 0 bytes } ∷ [] → synced ≡ wrote ++ record { area = area; act = Sync (length calls) } ∷ []
    → Puts area name bytes (disk_after calls) (disk_after synced)
puts calls made wrote synced area name bytes is_made is_wrote is_synced =
    let number : ℕ = length calls in
    let was : Folder = folder_in area (disk_after calls) in
    let fill : Folder → Folder = filled number name bytes in
    let below = each_now was (AreBelow number) (made_in area calls).below in
    subst (λ (disk : DiskState). Puts area name bytes (disk_after calls) disk) (sym (filled_disk calls made wrote synced area name bytes is_made is_wrote is_synced))
    (record {
      here = subst (λ (f : Folder). contents_of f name ≡ Some bytes) (sym (folder_in_same area fill (disk_after calls))) (filled_here number name bytes was);
      others = λ other apart. subst (λ (f : Folder). contents_of f other ≡ contents_of was other) (sym (folder_in_same area fill (disk_after calls))) (filled_others number name bytes was below other apart);
      settled = λ settled. subst AreSettled (sym (folder_in_same area fill (disk_after calls))) (filled_settled number name bytes was below settled);
      beside = beside area fill (disk_after calls);
    })
