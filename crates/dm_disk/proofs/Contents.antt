-- What a call does to the bytes that are shown of one file.
use Rattle.std.proofs.Common.{◌≡◌, ◌⊎◌, inl, inr, ⊎_elim, ℕ, ◌+◌, ◌-◌, ◌<◌, ◌≤◌, List, length, take, get_or, sym, ◌∙◌, ap, subst, arith}
use Rattle.std.proofs.lemmas.Bool.{cases_lt, eq-eqb, cond-true}
use Rattle.dm_disk_model.specs.File.{File}
use Rattle.dm_disk_model.specs.Folder.{Folder}
use Rattle.dm_disk_model.specs.Disk.{DiskState}
use Rattle.dm_disk_model.specs.declared.place.Area.{Area}
use Rattle.dm_disk_model.proofs.FileBytes.{overwrite_before, overwrite_within, overwrite_after}
use Rattle.dm_disk.specs.declared.call.Call.{Call}
use Rattle.dm_disk.specs.declared.call.Act.{Act}
use Rattle.dm_disk.specs.declared.call.Act.TheVariants.{Write}
use Rattle.dm_disk.specs.Calls.{folder_after, disk_after, written_file}
use Rattle.dm_disk.specs.Look.{file_in, Shows, LaysIn, GrowsIn}
use Rattle.dm_disk.proofs.Replay.{file_after_act, disk_after_more}

pub written_is : (act : Act) (number file written at : ℕ) (bytes : List ℕ) (folder : Folder) → act ≡ Write written at bytes → file ≡ written
    → (folder_after number act folder).file file ≡ written_file at bytes (folder.file file)
written_is act number file written at bytes folder is same =
    ap (λ (a : Act). (folder_after number a folder).file file) is
    ∙ file_after_act number (Write written at bytes) folder file
    ∙ cond-true _ (written_file at bytes (folder.file file)) (folder.file file) (eq-eqb file written same)

-- a write on a file that is shown
pub laid : (act : Act) (number file written at : ℕ) (bytes : List ℕ) (from : ℕ) (old new : List ℕ) → act ≡ Write written at bytes → file ≡ written → length new ≡ length old
    → ((k : ℕ) → k < length old → at ≤ from + k → from + k < at + length bytes → get_or new k 0 ≡ get_or bytes ((from + k) - at) 0)
    → ((k : ℕ) → k < length old → ((from + k < at) ⊎ (at + length bytes ≤ from + k)) → get_or new k 0 ≡ get_or old k 0)
    → (folder : Folder) → Shows (folder.file file).bytes from old → Shows ((folder_after number act folder).file file).bytes from new
laid act number file written at bytes from old new is same long inside outside folder shows k lt =
    let was : List ℕ = (folder.file file).bytes in
    let low : k < length old = omega (arith, long, lt) in
    let end = ap (λ (f : File). get_or f.bytes (from + k) 0) (written_is act number file written at bytes folder is same) in
    ⊎_elim
    (λ (front : from + k < at). outside k low (inl front) ∙ shows k low ∙ sym (end ∙ overwrite_before was at bytes (from + k) front))
    (λ (back : at ≤ from + k).
    ⊎_elim
    (λ (here : from + k < at + length bytes). inside k low back here ∙ sym (end ∙ overwrite_within was at bytes (from + k) back here))
    (λ (past : at + length bytes ≤ from + k). outside k low (inr past) ∙ shows k low ∙ sym (end ∙ overwrite_after was at bytes (from + k) past))
    (cases_lt (from + k) (at + length bytes)))
    (cases_lt (from + k) at)

-- the same over the calls so far
pub shown_more : (calls : List Call) (i : ℕ) (call : Call) (area : Area) (file from : ℕ) (old new : List ℕ) → i < length calls → call ≡ get_or calls i call
    → LaysIn call i area file from old new → Shows (file_in area file (disk_after (take i calls))).bytes from old
    → Shows (file_in area file (disk_after (take (i + 1) calls))).bytes from new
shown_more calls i call area file from old new lt is lays shows =
    subst (λ (disk : DiskState). Shows (file_in area file disk).bytes from new) (sym (disk_after_more calls i call lt is)) (lays (disk_after (take i calls)) shows)

pub grown_more : (calls : List Call) (i : ℕ) (call : Call) (area : Area) (file before now : ℕ) → i < length calls → call ≡ get_or calls i call
    → GrowsIn call i area file before now → before ≡ length (file_in area file (disk_after (take i calls))).bytes
    → now ≡ length (file_in area file (disk_after (take (i + 1) calls))).bytes
grown_more calls i call area file before now lt is grows so_far =
    sym (ap (λ (disk : DiskState). length (file_in area file disk).bytes) (disk_after_more calls i call lt is) ∙ grows (disk_after (take i calls)) (sym so_far))
