-- What was found is all that the disk reads.
use Rattle.std.proofs.Common.{◌≡◌, inl, inr, ℕ, List, length, Some, None, Result, Ok, Err, refl, sym, ◌∙◌, ap, subst}
use Rattle.std.specs.Option.{option_map}
use Rattle.std.proofs.lemmas.Option.{same_Some, none-some}
use Rattle.dm_disk_model.specs.Disk.{DiskState, StandsNot, bytes_at}
use Rattle.dm_journal.specs.Text.{IsJournalText, IsDamagedAt, front}
use Rattle.dm_journal.specs.AtRest.{journal_place, AtRest, ReadsJournal}
use Rattle.dm_journal.specs.Finding.{Found, Finds, IsAsRead, ReadsDamaged}
use Rattle.dm_journal.specs.Reading.{FindsText, HoldsText, IsDurable, FileIsRead}
use Rattle.dm_journal.specs.declared.text.WholeText.{WholeText}
use Rattle.dm_journal.specs.declared.fault.JournalFault.{JournalFault}
use Rattle.dm_journal.specs.declared.fault.JournalFault.TheVariants.{Disk, Damaged, NoMemory}
use Rattle.dm_journal.proofs.Texts.{journal_unique, never_both, damage_unique}

-- nothing is read where nothing stands
none_reads : (disk : DiskState) (bytes : List ℕ) → StandsNot disk journal_place → bytes_at disk journal_place ≡ Some bytes → ⊥
none_reads disk bytes none reads = none-some bytes (sym (ap (option_map (λ number. (disk.state.file number).bytes)) none) ∙ reads)

pub reads_unique : (disk : DiskState) (a b : ℕ) (x y : List (List ℕ)) → ReadsJournal disk a x → ReadsJournal disk b y → (a ≡ b) × (x ≡ y)
reads_unique disk a b x y one other =
    let same : other.bytes ≡ one.bytes = same_Some other.bytes one.bytes (sym other.reads ∙ one.reads) in
    let bodies : x ≡ y = journal_unique x y one.bytes one.text (subst (IsJournalText y) same other.text) in
    (one.at ∙ ap (λ (bs : List (List ℕ)). length (front bs)) bodies ∙ sym other.at, bodies)

reads_whole : (disk : DiskState) (gate place : ℕ) (bodies : List (List ℕ)) → ReadsJournal disk gate bodies → ReadsDamaged disk place → ⊥
reads_whole disk gate place bodies whole damaged =
    let same : damaged.bytes ≡ whole.bytes = same_Some damaged.bytes whole.bytes (sym damaged.reads ∙ whole.reads) in
    never_both bodies whole.bytes place whole.text (subst (λ (bytes : List ℕ). IsDamagedAt bytes place) same damaged.damaged)

damaged_unique : (disk : DiskState) (a b : ℕ) → ReadsDamaged disk a → ReadsDamaged disk b → a ≡ b
damaged_unique disk a b one other =
    let same : other.bytes ≡ one.bytes = same_Some other.bytes one.bytes (sym other.reads ∙ one.reads) in
    damage_unique one.bytes a b one.damaged (subst (λ (bytes : List ℕ). IsDamagedAt bytes b) same other.damaged)

pair_same : (found : ℕ × List (List ℕ)) (gate : ℕ) (bodies : List (List ℕ)) → found.0 ≡ gate → found.1 ≡ bodies → found ≡ (gate, bodies)
pair_same found gate bodies first second = ap (λ (g : ℕ). (g, found.1)) first ∙ ap (λ (bs : List (List ℕ)). (gate, bs)) second

pub found_told : (old new : DiskState) (result : Result Found JournalFault) → Finds old new result → IsAsRead old result
found_told old new (Ok None) finds = record {
  none = λ nothing. inl refl;
  some = λ gate bodies reads. absurd (none_reads old reads.bytes finds.0 reads.reads);
  damaged = λ place reads. absurd (none_reads old reads.bytes finds.0 reads.reads);
}
found_told old new (Ok (Some found)) finds = record {
  none = λ nothing. absurd (none_reads old finds.0.bytes nothing finds.0.reads);
  some = λ gate bodies reads.
      let same = reads_unique old found.0 gate found.1 bodies finds.0 reads in
      inl (ap (λ (f : ℕ × List (List ℕ)). Ok (Some f)) (pair_same found gate bodies same.0 same.1));
  damaged = λ place reads. absurd (reads_whole old found.0 place found.1 finds.0 reads);
}
found_told old new (Err (Disk kind)) finds = record { none = λ nothing. inr tt; some = λ gate bodies reads. inr tt; damaged = λ place reads. inr tt }
found_told old new (Err (Damaged place)) finds = record {
  none = λ nothing. absurd (none_reads old finds.bytes nothing finds.reads);
  some = λ gate bodies reads. absurd (reads_whole old gate place bodies reads finds);
  damaged = λ other reads. inl (ap (λ (p : ℕ). Err (Damaged p)) (damaged_unique old place other finds reads));
}
found_told old new (Err NoMemory) finds = record { none = λ nothing. inr tt; some = λ gate bodies reads. inr tt; damaged = λ place reads. inr tt }

-- what is found of a text is found of the disk
pub text_faults : (old new : DiskState) (fault : JournalFault) → FindsText old new (Err fault) → Finds old new (Err fault)
text_faults old new (Disk kind) found = tt
text_faults old new (Damaged place) found = found
text_faults old new NoMemory found = tt

pub text_holds : (old new : DiskState) (gate : ℕ) (bodies : List (List ℕ)) → HoldsText old new bodies → gate ≡ length (front bodies) → ReadsJournal old gate bodies × AtRest new gate bodies
text_holds old new gate bodies holds at = (
  record { bytes = holds.bytes; reads = holds.durable.reads; text = holds.text; at = at },
  record { bytes = holds.bytes; file = holds.durable.file; text = holds.text; at = at },
)

-- what was read of the file is what is found
pub found_text : (old new : DiskState) (bytes : List ℕ) (found : WholeText) → IsDurable old new bytes → FileIsRead bytes (Ok found) → FindsText old new (Ok (Some found))
found_text old new bytes found durable read = record { bytes = bytes; durable = durable; text = read }

pub fault_text : (old new : DiskState) (bytes : List ℕ) (fault : JournalFault) → IsDurable old new bytes → FileIsRead bytes (Err fault) → FindsText old new (Err fault)
fault_text old new bytes (Disk kind) durable read = tt
fault_text old new bytes (Damaged place) durable read = record { bytes = bytes; reads = durable.reads; damaged = read }
fault_text old new bytes NoMemory durable read = tt
