-- What is recovered from the images of a disk.
use Rattle.std.proofs.Common.{inl, inr, ℕ, List, [], ◌∷◌, ◌++◌, Option, refl, sym, subst}
use Rattle.dm_types.specs.declared.entry.Entry.{Entry}
use Rattle.dm_disk_model.specs.Disk.{DiskState, Image, MayLeave}
use Rattle.dm_disk_model.specs.File.{settled_file}
use Rattle.dm_disk_model.proofs.FirmNames.{has_left}
use Rattle.dm_item.specs.Lawful.{History}
use Rattle.dm_journal.specs.AtRest.{AtRest, HasJournal, journal_name}
use Rattle.dm_journal.proofs.Leaving.{front_left, front_settled}
use Rattle.dm_kept.specs.Recovery.{Through, recovered}
use Rattle.dm_kept.specs.Spelled.{AllEntries, Records, bodies_of}

-- what the first history leaves is through it
pub at_first : (before more : History) → Through before more (recovered before)
at_first before [] = refl
at_first before (entry ∷ more) = inl refl

-- and so is what the first and one more entry leave
pub at_second : (before : History) (entry : Entry) → Through before (entry ∷ []) (recovered (before ++ entry ∷ []))
at_second before entry = inr refl

-- an image with the journal of a history
pub journal_recorded : (history : History) (image : Image) → AllEntries history → HasJournal (bodies_of history) image → Records (image.state journal_name) history
journal_recorded history image entries has =
    subst (λ (found : Option (List ℕ)). Records found history) (sym has.found) (record { entries = entries; text = has.text })

-- each image of a journal at rest has it
pub rest_image : (bodies : List (List ℕ)) (gate : ℕ) (disk : DiskState) (image : Image) → AtRest disk gate bodies → MayLeave disk image → HasJournal bodies image
rest_image bodies gate disk image rest left =
    let found = has_left disk.state journal_name (settled_file rest.bytes) image.state rest.file left.state in
    record { bytes = found.bytes; found = found.is; text = front_left bodies (settled_file rest.bytes) found.bytes (front_settled bodies rest.bytes rest.text) found.left }
