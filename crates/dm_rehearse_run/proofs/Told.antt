-- What a rehearsal says, by what it tells of its disk.
use Rattle.std.proofs.Common.{◌≡◌, ℕ, List, Result, Ok, Err, IfOk, inl, inr, ◌∙◌, ap}
use Rattle.dm_types.specs.declared.memory.NoMemory.{NoMemory}
use Rattle.dm_disk_model.specs.Disk.{DiskState}
use Rattle.dm_disk.specs.declared.memory.MemoryDisk.{MemoryDisk}
use Rattle.dm_disk.specs.Memory.{held_in}
use Rattle.dm_report.specs.Said.{EndsAs, Said}
use Rattle.dm_report.specs.declared.verdict.Verdict.TheVariants.{Done}
use Rattle.dm_rehearse.specs.declared.counting.Counts.{Counts}
use Rattle.dm_rehearse.specs.Lines.{lines_of}
use Rattle.dm_rehearse.specs.Rehearsal.{Rehearses}
use Rattle.dm_rehearse_run.specs.Printing.{ComesOf}
use Rattle.dm_rehearse_run.specs.Running.{IsCounted, IsPrinted, IsPublished, IsTold}
use Rattle.dm_rehearse_run.specs.Sessions.{AreSessions}

-- the ending with a text that is printed, or for want of memory
pub rehearsed : (number : ℕ) (text : List ℕ) (ending : Said) → IsPrinted number text → EndsAs (record { verdict = Done; out = text }) ending → Rehearses number ending
rehearsed number text ending printed (inl is) =
    let told = printed.told in
    inl (record {
      counts = told.counts;
      add_up = told.counted.add_up;
      said_is = is ∙ ap (λ (out : List ℕ). (let said : Said = record { verdict = Done; out = out } in said)) (told.text_is ∙ ap (lines_of number told.counts.attempts told.counts.broke) told.published.of_content);
    })
rehearsed number text ending printed (inr is) = inr is

-- the text of a disk
pub told_if : (disk : DiskState) (name : List ℕ) (number : ℕ) (counts : Counts) (sum : List ℕ) (result : Result (List ℕ) NoMemory) → IsCounted disk counts → IsPublished disk name number sum
    → IfOk result (λ text. text ≡ lines_of number counts.attempts counts.broke sum) → IfOk result (IsTold disk name number)
told_if disk name number counts sum (Ok text) counted published is = record { counts = counts; counted = counted; sum = sum; published = published; text_is = is }
told_if disk name number counts sum (Err fault) counted published is = tt

pub printed_if : (disk : MemoryDisk) (name : List ℕ) (number : ℕ) (result : Result (List ℕ) NoMemory) → AreSessions number disk name → IfOk result (IsTold (held_in disk) name number) → IfOk result (IsPrinted number)
printed_if disk name number (Ok text) ran told = record { disk = disk; name = name; ran = ran; told = told }
printed_if disk name number (Err fault) ran told = tt

-- what is said comes of the sessions, or memory was wanting
pub comes_of : (number : ℕ) (text : List ℕ) (ending : Said) → IsPrinted number text → EndsAs (record { verdict = Done; out = text }) ending → ComesOf number ending
comes_of number text ending printed (inl is) = inl (record { text = text; printed = printed; said_is = is })
comes_of number text ending printed (inr is) = inr is
