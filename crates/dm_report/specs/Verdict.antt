-- How a command ended: the status, and the line on standard error.
use Rattle.std.specs.Prelude.{ℕ, List, []}
use Rattle.dm_report.specs.Lines.{bad_address_line, bad_words_line, disk_line, history_failed_line, import_line, interrupted_line, items_full_line, journal_damaged_line, no_item_line, no_memory_line, not_accepted_line, state_line, word_taken_line}
use Rattle.dm_report.specs.declared.verdict.Verdict.{Verdict}
use Rattle.dm_report.specs.declared.verdict.Verdict.TheVariants.{Done, Interrupted, BadWords, BadAddress, NoItem, WrongState, Damaged, DiskFailed, ItemsFull, NoMemory, OtherWord, BadImport, NotAccepted, HistoryFailed}

-- what the program ends with, unless a write fails
abbrev pub status_of : Verdict → ℕ
status_of Done = 0
status_of (Interrupted reason) = 1
status_of BadWords = 2
status_of BadAddress = 2
status_of (NoItem id) = 3
status_of (WrongState phase) = 4
status_of (Damaged place) = 5
status_of (DiskFailed kind) = 6
status_of (ItemsFull count) = 8
status_of NoMemory = 9
status_of (OtherWord id) = 10
status_of (BadImport number) = 11
status_of NotAccepted = 12
status_of HistoryFailed = 13

-- the line on standard error, or nothing
abbrev pub errs_of : Verdict → List ℕ
errs_of Done = []
errs_of (Interrupted reason) = interrupted_line reason
errs_of BadWords = bad_words_line
errs_of BadAddress = bad_address_line
errs_of (NoItem id) = no_item_line id.0
errs_of (WrongState phase) = state_line phase
errs_of (Damaged place) = journal_damaged_line place
errs_of (DiskFailed kind) = disk_line kind
errs_of (ItemsFull count) = items_full_line count
errs_of NoMemory = no_memory_line
errs_of (OtherWord id) = word_taken_line id.0
errs_of (BadImport number) = import_line number
errs_of NotAccepted = not_accepted_line
errs_of HistoryFailed = history_failed_line

-- the line has something that is told with the verdict, so it takes memory
abbrev pub IsMade : Verdict → Type 0
IsMade Done = ⊥
IsMade (Interrupted reason) = Unit {0}
IsMade BadWords = ⊥
IsMade BadAddress = ⊥
IsMade (NoItem id) = Unit {0}
IsMade (WrongState phase) = Unit {0}
IsMade (Damaged place) = Unit {0}
IsMade (DiskFailed kind) = ⊥
IsMade (ItemsFull count) = Unit {0}
IsMade NoMemory = ⊥
IsMade (OtherWord id) = Unit {0}
IsMade (BadImport number) = Unit {0}
IsMade NotAccepted = ⊥
IsMade HistoryFailed = ⊥
