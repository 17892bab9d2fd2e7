-- How far a doing came: which of its entries were recorded, which rows were changed, and what is said.
use Rattle.std.specs.Prelude.{◌≡◌, ◌⊎◌, ◌+◌, ℕ, Bool, true, false, List, [], ◌∷◌, ◌++◌, cond, length, nat_lt, take}
use Rattle.dm_types.specs.Faults.{Rose}
use Rattle.dm_types.specs.declared.entry.Entry.{Entry}
use Rattle.dm_types.specs.declared.kinds.DiskKind.{DiskKind}
use Rattle.dm_item.specs.Lawful.{History}
use Rattle.dm_report.specs.Said.{Said, only}
use Rattle.dm_report.specs.declared.verdict.Verdict.TheVariants.{DiskFailed, HistoryFailed, NoMemory}
use Rattle.dm_hist.specs.declared.row.Row.{Row}
use Rattle.dm_archive.specs.Doing.{Change, Doing, stay, puts, drops, changed_rows}
use Rattle.dm_past.specs.Past.{HasFailed, Past}
use Rattle.dm_past.specs.Saying.{said_by}

-- the first so many steps of a change: each row that is put is one, and so is a row that is dropped
abbrev pub first_of : ℕ → Change → Change
first_of steps stay = stay
first_of steps (puts rows) = puts (take steps rows)
first_of steps (drops id) = cond (nat_lt 0 steps) (drops id) stay

-- So many steps of the change were made as entries were recorded, or one more, since a row is put before its item leaves the list.
pub record IsBegun (rows rows' : List Row) (change : Change) (recorded : History) : Type 0 where
  pub steps : ℕ
  pub steps_are : (steps ≡ length recorded) ⊎ (steps ≡ length recorded + 1)
  pub rows_are : rows' ≡ changed_rows (first_of steps change) rows

-- Only the first of its entries were tried: these were recorded, and then this one failed, where one did. The change was made as far.
pub record WasCut (told : Type 0) (rows rows' : List Row) (doing : Doing) (recorded failed : History) : Type 0 where
  pub rest : History
  pub entries_are : doing.entries ≡ recorded ++ (failed ++ rest)
  pub begun : told → IsBegun rows rows' doing.change recorded

pub data Came (told : Type 0) (counts counts' : DiskKind → ℕ) (past past' : Past) (doing : Doing) (recorded failed : History) (broken : Bool) (said : Said) : Type 0 where
  -- all of it was done, and it says what that is
  all : broken ≡ false → failed ≡ [] → recorded ≡ doing.entries → (told → past'.rows ≡ changed_rows doing.change past.rows) → said ≡ said_by doing → Came told counts counts' past past' doing recorded failed broken said
  -- an entry failed, which shows in a count of the disk
  fell : (kind : DiskKind) (entry : Entry) → broken ≡ true → failed ≡ entry ∷ [] → WasCut told past.rows past'.rows doing recorded failed → Rose (counts kind) (counts' kind) → said ≡ only (DiskFailed kind)
      → Came told counts counts' past past' doing recorded failed broken said
  -- the history failed, which shows in its count
  lost : broken ≡ false → failed ≡ [] → WasCut told past.rows past'.rows doing recorded failed → HasFailed past past' → said ≡ only HistoryFailed → Came told counts counts' past past' doing recorded failed broken said
  -- memory was wanting for some of it, or for what it says
  stopped : broken ≡ false → failed ≡ [] → WasCut told past.rows past'.rows doing recorded failed → said ≡ only NoMemory → Came told counts counts' past past' doing recorded failed broken said
