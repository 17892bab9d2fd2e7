-- How a row answers a command that names its word.
use Rattle.std.specs.Prelude.{ℕ, List, bytes_eq, if◌then◌else◌}
use Rattle.dm_types.specs.declared.item.Phase.TheVariants.{Cancelled}
use Rattle.dm_report.specs.declared.verdict.Verdict.{Verdict}
use Rattle.dm_report.specs.declared.verdict.Verdict.TheVariants as verdicts
use Rattle.dm_hist.specs.declared.row.Row.{Row}

-- where the row has this address, this is the verdict; else the word is of another item
abbrev pub same_or_other : List ℕ → Verdict → Row → Verdict
same_or_other address verdict row = if bytes_eq row.address address then verdict else verdicts.OtherWord row.id

-- what the user gets of a row: it is complete, or it was cancelled
abbrev pub gets : Row → Verdict
gets row = if row.complete then verdicts.Done else verdicts.WrongState Cancelled

-- A command that brings an item, and names the word of a row.
abbrev pub get_by_row : List ℕ → Row → Verdict
get_by_row address row = same_or_other address (gets row) row

-- A command that adds an item, and names the word of a row: nothing is added, and the row is shown.
abbrev pub add_by_row : List ℕ → Row → Verdict
add_by_row address row = same_or_other address verdicts.Done row
