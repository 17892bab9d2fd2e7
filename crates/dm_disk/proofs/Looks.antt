-- Where the file of a name was before a call, by kind of call.
use Rattle.std.proofs.Common.{◌≡◌, ◌≢◌, ℕ, ◌+◌, ◌-◌, ◌<◌, ◌≤◌, List, length, take, get_or, Option, Some, None, sym, ◌∙◌, ap, arith}
use Rattle.dm_disk_model.specs.Folder.{Names, Folder, names_of, with_name}
use Rattle.dm_disk_model.specs.Disk.{folder_in}
use Rattle.dm_disk_model.specs.declared.place.Area.{Area}
use Rattle.dm_disk_model.proofs.PendingNames.{with_name_same, with_name_other}
use Rattle.dm_disk.specs.declared.call.Call.{Call}
use Rattle.dm_disk.specs.declared.call.Act.{Act}
use Rattle.dm_disk.specs.declared.call.Act.TheVariants.{Create, Rename, Remove}
use Rattle.dm_disk.specs.declared.find.Back.{Back}
use Rattle.dm_disk.specs.Calls.{folder_after, disk_after}
use Rattle.dm_disk.specs.Look.{file_at, LooksBack}
use Rattle.dm_disk.proofs.Replay.{names_after_act, names_acted, disk_after_more}

-- a fact on the names after the call, in every folder
found : (act plain : Act) (name : List ℕ) (F : ℕ → Names → Option ℕ) → act ≡ plain → ((number : ℕ) (names : Names) → names_acted number plain names name ≡ F number names)
    → (number : ℕ) (folder : Folder) → names_of (folder_after number act folder) name ≡ F number (names_of folder)
found act plain name F is fact number folder =
    ap (λ (a : Act). names_of (folder_after number a folder) name) is
    ∙ ap (λ (names : Names). names name) (names_after_act number plain folder)
    ∙ fact number (names_of folder)

pub created_here : (act : Act) (made name : List ℕ) → act ≡ Create made → made ≡ name → (number : ℕ) (folder : Folder) → names_of (folder_after number act folder) name ≡ Some number
created_here act made name is same =
    found act (Create made) name (λ number names. Some number) is (λ number names. ap (with_name names made (Some number)) (sym same) ∙ with_name_same names made (Some number))

pub created_other : (act : Act) (made name : List ℕ) → act ≡ Create made → made ≢ name → (number : ℕ) (folder : Folder) → names_of (folder_after number act folder) name ≡ names_of folder name
created_other act made name is apart =
    found act (Create made) name (λ number names. names name) is (λ number names. with_name_other names made (Some number) name (λ e. apart (sym e)))

pub renamed_to : (act : Act) (from to name : List ℕ) → act ≡ Rename from to → to ≡ name → (number : ℕ) (folder : Folder) → names_of (folder_after number act folder) name ≡ names_of folder from
renamed_to act from to name is same =
    found act (Rename from to) name (λ number names. names from) is
    (λ number names. ap (with_name (with_name names from None) to (names from)) (sym same) ∙ with_name_same (with_name names from None) to (names from))

pub renamed_from : (act : Act) (from to name : List ℕ) → act ≡ Rename from to → to ≢ name → from ≡ name → (number : ℕ) (folder : Folder) → names_of (folder_after number act folder) name ≡ None
renamed_from act from to name is apart same =
    found act (Rename from to) name (λ number names. None) is
    (λ number names. with_name_other (with_name names from None) to (names from) name (λ e. apart (sym e)) ∙ ap (with_name names from None) (sym same) ∙ with_name_same names from None)

pub renamed_other : (act : Act) (from to name : List ℕ) → act ≡ Rename from to → to ≢ name → from ≢ name → (number : ℕ) (folder : Folder) → names_of (folder_after number act folder) name ≡ names_of folder name
renamed_other act from to name is not_to not_from =
    found act (Rename from to) name (λ number names. names name) is
    (λ number names. with_name_other (with_name names from None) to (names from) name (λ e. not_to (sym e)) ∙ with_name_other names from None name (λ e. not_from (sym e)))

pub removed_here : (act : Act) (gone name : List ℕ) → act ≡ Remove gone → gone ≡ name → (number : ℕ) (folder : Folder) → names_of (folder_after number act folder) name ≡ None
removed_here act gone name is same =
    found act (Remove gone) name (λ number names. None) is (λ number names. ap (with_name names gone None) (sym same) ∙ with_name_same names gone None)

pub removed_other : (act : Act) (gone name : List ℕ) → act ≡ Remove gone → gone ≢ name → (number : ℕ) (folder : Folder) → names_of (folder_after number act folder) name ≡ names_of folder name
removed_other act gone name is apart =
    found act (Remove gone) name (λ number names. names name) is (λ number names. with_name_other names gone None name (λ e. apart (sym e)))

-- what a name had after the first so many calls and one more
pub step_back : (calls : List Call) (i : ℕ) (call : Call) (area : Area) (name : List ℕ) (back : Back) → i < length calls → call ≡ get_or calls i call → LooksBack call area name back
    → names_of (folder_in area (disk_after (take (i + 1) calls))) name ≡ file_at back i (names_of (folder_in area (disk_after (take i calls))))
step_back calls i call area name back lt is looks =
    ap (λ disk. names_of (folder_in area disk) name) (disk_after_more calls i call lt is) ∙ looks i (disk_after (take i calls))

-- one call back from the last of those that are left
pub stepped : (calls : List Call) (left : ℕ) (call : Call) (area : Area) (first name : List ℕ) (back : Back) → 0 < left → left ≤ length calls → call ≡ get_or calls (left - 1) call
    → LooksBack call area name back → names_of (folder_in area (disk_after calls)) first ≡ names_of (folder_in area (disk_after (take left calls))) name
    → names_of (folder_in area (disk_after calls)) first ≡ file_at back (left - 1) (names_of (folder_in area (disk_after (take (left - 1) calls))))
stepped calls left call area first name back some le is looks so_far =
    let one : (left - 1) + 1 ≡ left = omega arith in
    so_far
    ∙ ap (λ (n : ℕ). names_of (folder_in area (disk_after (take n calls))) name) (sym one)
    ∙ step_back calls (left - 1) call area name back (omega arith) is looks
