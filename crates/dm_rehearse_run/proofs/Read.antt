-- What is read of a disk: the counts of its journal, and the sum of a file.
use Rattle.std.proofs.Common.{◌≡◌, ℕ, ◌+◌, ◌<◌, List, length, take, get_or, Option, Some, None, IfSome, sym, ◌∙◌, ap, subst, arith}
use Rattle.std.specs.Option.{option_map}
use Rattle.std.specs.Bool.{IsTrue, ◌==◌}
use Rattle.std.proofs.lemmas.Bool.{eqb-true}
use Rattle.std.proofs.lemmas.List.{take_all}
use Rattle.std.specs.Prelude.{slice_get}
use Rattle.sha2.specs.Sha256.{sha256}
use Rattle.std.proofs.lemmas.Option.{same_Some, slice_get-get_or}
use Rattle.dm_disk_model.specs.Disk.{DiskState, bytes_at}
use Rattle.dm_disk_model.specs.declared.place.Place.{Place}
use Rattle.dm_journal.specs.AtRest.{ReadsJournal}
use Rattle.dm_journal.specs.Text.{IsJournalText}
use Rattle.dm_edge.specs.Origin.{generated_byte}
use Rattle.dm_generated.specs.Content.{bytes_from, content_of, size_of}
use Rattle.dm_generated.proofs.Bytes.{bytes_all}
use Rattle.dm_rehearse.specs.declared.counting.Counts.{Counts}
use Rattle.dm_rehearse.specs.Counting.{AreCounted}
use Rattle.dm_rehearse_run.specs.Kept.{IsGenerated, file_place}
use Rattle.dm_rehearse_run.specs.Reading.{IsContentSum, IsCountedOn, IsLong, IsSumOf}

found_at : (bytes : List ℕ) (k : ℕ) → k < length bytes → slice_get bytes k ≡ Some (get_or bytes k 0)
found_at bytes k below = slice_get-get_or bytes k 0 below

all_of : (number : ℕ) (bytes : List ℕ) → ((place byte : ℕ) → slice_get bytes place ≡ Some byte → byte ≡ generated_byte number place) → bytes ≡ bytes_from number 0 (length bytes)
all_of number bytes each = bytes_all number 0 bytes (λ k below.
    let place : k ≡ 0 + k = omega arith in
    each k (get_or bytes k 0) (found_at bytes k below) ∙ ap (generated_byte number) place)

pub content_summed : (disk : DiskState) (name : List ℕ) (number : ℕ) (sum : List ℕ) → IsGenerated disk name number → IsSumOf disk (file_place name) number sum → IsContentSum disk (file_place name) number sum
content_summed disk name number sum generated of_file =
    let same : generated.file ≡ of_file.file = same_Some generated.file of_file.file (sym generated.reads ∙ of_file.reads) in
    let whole : of_file.file ≡ content_of number =
    sym same ∙ all_of number generated.file generated.generated ∙ ap (bytes_from number 0) (ap length same ∙ of_file.long) in
    record { of_file = of_file; of_content = of_file.sum_is ∙ ap sha256 whole }

-- the bodies that the journal reads as are those of a history
pub counted_on : (disk : DiskState) (gate : ℕ) (bodies : List (List ℕ)) (counts : Option Counts) → ReadsJournal disk gate bodies → IfSome counts (AreCounted bodies) → IfSome counts (IsCountedOn disk)
counted_on disk gate bodies None reads counted = tt
counted_on disk gate bodies (Some counts) reads counted = record {
  bytes = reads.bytes;
  reads = reads.reads;
  history = counted.history;
  is = record { entries = counted.entries; text = subst (λ (bs : List (List ℕ)). IsJournalText bs reads.bytes) (sym counted.is) reads.text };
  counts_are = counted.counts_are;
}

-- a file of this length
pub long_of : (disk : DiskState) (place : Place) (found : Option (List ℕ)) (count size : ℕ) → bytes_at disk place ≡ found → Some count ≡ option_map length found → IsTrue (count == size) → IsLong disk place size
long_of disk place None count size reads is same = absurd cc
long_of disk place (Some file) count size reads is same = record { file = file; reads = reads; long = sym (same_Some count (length file) is) ∙ eqb-true count size same }

-- the sum of the front of a file that is no longer
pub sum_is : (disk : DiskState) (place : Place) (number size : ℕ) (sum : List ℕ) → size ≡ size_of number → (is : IsLong disk place size) → sum ≡ sha256 (take size is.file) → IsSumOf disk place number sum
sum_is disk place number size sum size_is is summed = record {
  file = is.file;
  reads = is.reads;
  long = is.long ∙ size_is;
  sum_is = summed ∙ ap sha256 (take_all size is.file (omega (arith, is.long)));
}
