-- How long a part is after a write.
use Rattle.std.proofs.Common.{◌≡◌, inl, inr, ℕ, ◌+◌, ◌≤◌, max, List, length, Some, Result, Ok, Err, sym, ◌∙◌, ap, arith}
use Rattle.std.proofs.lemmas.Option.{same_Some}
use Rattle.dm_disk_model.specs.declared.place.DiskFault.{DiskFault}
use Rattle.dm_disk_model.specs.File.{IsTorn, overwrite}
use Rattle.dm_disk_model.specs.Folder.{Folder, Names, FileSteps, after_changes, names_of, contents_of}
use Rattle.dm_disk_model.specs.Disk.{DiskState, WriteStep, bytes_at}
use Rattle.dm_disk_model.proofs.FileBytes.{length-overwrite}
use Rattle.dm_disk_model.proofs.Places.{write_reads}
use Rattle.dm_part.specs.Laws.{files_place, IsLong}
use Rattle.dm_part.proofs.Own.{reads_number}

-- what a write that was begun may leave
torn_length : (old new : Folder) (part : List ℕ) (at count : ℕ) (before after : List ℕ) → FileSteps part (IsTorn at count) old new → contents_of old part ≡ Some before → contents_of new part ≡ Some after
    → (length before ≤ length after) × (length after ≤ max (length before) (at + count))
torn_length old new part at count before after taken was is =
    let number = taken.number in
    let names : names_of new ≡ names_of old = ap (λ (s : Names). after_changes s new.changes) taken.synced ∙ ap (after_changes old.synced) taken.changes in
    let first : (old.file number).bytes ≡ before = reads_number old part number before taken.stands was in
    let last : (new.file number).bytes ≡ after = reads_number new part number after (ap (λ (n : Names). n part) names ∙ taken.stands) is in
    let torn = taken.stepped.bytes in
    let least = torn.no_shorter in
    let most = torn.no_longer in
    (omega (arith, ap length first, ap length last, least), omega (arith, ap length first, ap length last, most))

pub put_length : (part : List ℕ) (at : ℕ) (piece before after : List ℕ) (result : Result (Unit {0}) DiskFault) (old new : DiskState) → WriteStep (files_place part) at piece result old new
    → bytes_at old (files_place part) ≡ Some before → bytes_at new (files_place part) ≡ Some after → IsLong result (at + length piece) (length before) (length after)
put_length part at piece before after (Ok done) old new taken was is =
    let same : after ≡ overwrite before at piece = same_Some after (overwrite before at piece) (sym is ∙ write_reads (files_place part) at piece before old new was taken) in
    ap length same ∙ length-overwrite before at piece
put_length part at piece before after (Err fault) old new (inl taken) was is = torn_length old.files new.files part at (length piece) before after taken.0 was is
put_length part at piece before after (Err fault) old new (inr same) was is =
    let stays : before ≡ after = same_Some before after (sym was ∙ ap (λ (disk : DiskState). bytes_at disk (files_place part)) (sym same) ∙ is) in
    (omega (arith, ap length stays), omega (arith, ap length stays))
