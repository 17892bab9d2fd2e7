-- What a journal at rest gives to the crates above: what it reads, and what each crash leaves of it.
use Rattle.std.proofs.Common.{◌≡◌, ℕ, List, length, None, refl, sym, ◌∙◌, subst}
use Rattle.std.proofs.lemmas.Option.{same_Some}
use Rattle.dm_disk_model.specs.Folder.{Folder}
use Rattle.dm_disk_model.specs.Firm.{HasFile}
use Rattle.dm_disk_model.specs.Names.{NeverStands}
use Rattle.dm_disk_model.specs.File.{settled_file}
use Rattle.dm_disk_model.specs.Disk.{DiskState, Image, MayLeave, Stands, StandsNot, IsSoundDisk, reading}
use Rattle.dm_disk_model.proofs.PendingNames.{each_now}
use Rattle.dm_disk_model.proofs.FirmNames.{has_left, has_now}
use Rattle.dm_disk_model.proofs.Images.{as_read}
use Rattle.dm_disk_model.proofs.Places.{stands_from}
use Rattle.dm_journal.specs.Text.{front, IsJournalText}
use Rattle.dm_journal.specs.AtRest.{journal_name, journal_place, AtRest, HasJournal, ReadsJournal}
use Rattle.dm_journal.specs.Finding.{ReadsDamaged}
use Rattle.dm_journal.proofs.Texts.{journal_unique, never_both}
use Rattle.dm_journal.proofs.Leaving.{front_settled, front_left}

-- an image has the bodies of one journal at most
pub image_unique : (a b : List (List ℕ)) (image : Image) → HasJournal a image → HasJournal b image → a ≡ b
image_unique a b image one other =
    let same : one.bytes ≡ other.bytes = same_Some one.bytes other.bytes (sym one.found ∙ other.found) in
    journal_unique a b one.bytes one.text (subst (λ (bytes : List ℕ). IsJournalText b bytes) (sym same) other.text)

-- each crash leaves a journal at rest with its bodies
pub rest_image : (disk : DiskState) (gate : ℕ) (bodies : List (List ℕ)) (image : Image) → AtRest disk gate bodies → MayLeave disk image → HasJournal bodies image
rest_image disk gate bodies image rest left =
    let found = has_left disk.state journal_name (settled_file rest.bytes) image.state rest.file left.state in
    record { bytes = found.bytes; found = found.is; text = front_left bodies (settled_file rest.bytes) found.bytes (front_settled bodies rest.bytes rest.text) found.left }

-- it reads so
pub rest_reads : (disk : DiskState) (gate : ℕ) (bodies : List (List ℕ)) → AtRest disk gate bodies → ReadsJournal disk gate bodies
rest_reads disk gate bodies rest = record { bytes = rest.bytes; reads = has_now disk.state journal_name (settled_file rest.bytes) rest.file; text = rest.text; at = rest.at }

pub reads_stands : (disk : DiskState) (gate : ℕ) (bodies : List (List ℕ)) → ReadsJournal disk gate bodies → Stands disk journal_place
reads_stands disk gate bodies reads = stands_from disk journal_place reads.bytes reads.reads

pub rest_stands : (disk : DiskState) (gate : ℕ) (bodies : List (List ℕ)) → AtRest disk gate bodies → Stands disk journal_place
rest_stands disk gate bodies rest = reads_stands disk gate bodies (rest_reads disk gate bodies rest)

-- where no crash puts a journal, none stands
pub never_stands_not : (disk : DiskState) → NeverStands journal_place disk → StandsNot disk journal_place
never_stands_not disk never = each_now disk.state (λ names. names journal_name ≡ None) never

-- it rests whatever is done to the user's files
pub rest_beside : (old new : DiskState) (gate : ℕ) (bodies : List (List ℕ)) → new.state ≡ old.state → AtRest old gate bodies → AtRest new gate bodies
rest_beside old new gate bodies same rest =
    record { bytes = rest.bytes; file = subst (λ (folder : Folder). HasFile folder journal_name (settled_file rest.bytes)) (sym same) rest.file; text = rest.text; at = rest.at }

-- the bodies that read are those of the disk as it reads
pub reading_has : (disk : DiskState) (gate : ℕ) (bodies : List (List ℕ)) → ReadsJournal disk gate bodies → HasJournal bodies (reading disk)
reading_has disk gate bodies reads = record { bytes = reads.bytes; found = reads.reads; text = reads.text }

pub reading_reads : (disk : DiskState) (bodies : List (List ℕ)) → HasJournal bodies (reading disk) → ReadsJournal disk (length (front bodies)) bodies
reading_reads disk bodies has = record { bytes = has.bytes; reads = has.found; text = has.text; at = refl }

-- a sound disk as it reads is one of its images: where each image has a journal, what reads isn't damaged
pub never_damaged : (disk : DiskState) (bodies : List (List ℕ)) (place : ℕ) → HasJournal bodies (reading disk) → ReadsDamaged disk place → ⊥
never_damaged disk bodies place has damaged =
    let same : has.bytes ≡ damaged.bytes = same_Some has.bytes damaged.bytes (sym has.found ∙ damaged.reads) in
    never_both bodies damaged.bytes place (subst (λ (bytes : List ℕ). IsJournalText bodies bytes) same has.text) damaged.damaged

pub image_as_read : (disk : DiskState) (P : Image → Type 0) → IsSoundDisk disk → ((image : Image) → MayLeave disk image → P image) → P (reading disk)
image_as_read disk P sound each = each (reading disk) (as_read disk sound)
