-- What the commands make of the list and of the history: functions of both, as they were. A program's clause is to be made of them.
use Rattle.std.specs.Prelude.{ℕ, if◌then◌else◌, List, [], ◌∷◌, length, map, Option, Some, None, bytes_eq}
use Rattle.dm_types.specs.declared.entry.Entry.TheVariants as entries
use Rattle.dm_types.specs.declared.item.Item.{Item}
use Rattle.dm_types.specs.declared.item.ItemId.{ItemId}
use Rattle.dm_item.specs.Lawful.{History}
use Rattle.dm_item.specs.Listing.{item_in}
use Rattle.dm_item.specs.Row.{allows}
use Rattle.dm_report.specs.declared.verdict.Verdict.{Verdict}
use Rattle.dm_report.specs.declared.verdict.Verdict.TheVariants as verdicts
use Rattle.dm_hist.specs.declared.row.Row.{Row}
use Rattle.dm_hist.specs.Rows.{is_there, row_with, with_row, without_row}
use Rattle.dm_hist.specs.Shown.{row_of_item}
use Rattle.dm_shown.specs.Answering.{add_by_row, get_by_row}
use Rattle.dm_shown.specs.Pages.{shown_page}
use Rattle.dm_archive.specs.Moving.{archives, overs}

-- what a command is given: the items of the list, and the rows of the history
pub record Given : Type 0 where
  pub items : List Item
  pub rows : List Row

-- what becomes of the rows: they stay, or these are put, or the one of an id is dropped
pub data Change : Type 0 where
  stay : Change
  puts : List Row → Change
  drops : ℕ → Change

-- the rows with these ones put, one after another
abbrev pub with_rows : List Row → List Row → List Row
with_rows [] rows = rows
with_rows (row ∷ more) rows = with_rows more (with_row row rows)

abbrev pub changed_rows : Change → List Row → List Row
changed_rows stay rows = rows
changed_rows (puts more) rows = with_rows more rows
changed_rows (drops id) rows = without_row id rows

-- what goes to standard output: nothing, how many items were moved, or the lines of rows
pub data Tells : Type 0 where
  nothing : Tells
  moved : ℕ → Tells
  lines : List Row → Tells

-- the entries that it records, what becomes of the rows, how it ends, and what it tells
pub record Doing : Type 0 where
  pub entries : History
  pub change : Change
  pub verdict : Verdict
  pub tells : Tells

-- it only says this
abbrev pub says : Verdict → Tells → Doing
says verdict tells = record { entries = []; change = stay; verdict = verdict; tells = tells }

-- `archive`: the rows of all items that are complete or cancelled are put, and the items leave the list
abbrev pub archives_all : Given → Doing
archives_all given = record {
  entries = archives (overs given.items);
  change = puts (map row_of_item (overs given.items));
  verdict = verdicts.Done;
  tells = moved (length (overs given.items));
}

-- `history`: a page of the rows whose id is no item's
abbrev pub shows_page : ℕ → ℕ → Given → Doing
shows_page after limit given = says verdicts.Done (lines (shown_page given.items after limit given.rows))

-- a row is dropped
abbrev pub drops_row : ItemId → Doing
drops_row id = record { entries = []; change = drops id.0; verdict = verdicts.Done; tells = nothing }

-- `remove`: the item with the id, or else its row
abbrev pub removes_of : ItemId → List Row → Option Item → Doing
removes_of id rows (Some item) =
    if allows (entries.Removed item.id) item.phase
    then record { entries = entries.Removed item.id ∷ []; change = stay; verdict = verdicts.Done; tells = nothing }
    else says (verdicts.WrongState item.phase) nothing
removes_of id rows None =
    if is_there id.0 rows then drops_row id else says (verdicts.NoItem id) nothing

abbrev pub removes : ItemId → Given → Doing
removes id given = removes_of id given.rows (item_in id.0 given.items)

-- the row's line, where it has the address
abbrev pub line_of : List ℕ → Row → Tells
line_of address row = if bytes_eq row.address address then lines (row ∷ []) else nothing

-- `get` and `wide`, where no item but a row has the word
abbrev pub gets_row : List ℕ → Row → Doing
gets_row address row = says (get_by_row address row) (line_of address row)

-- `add` and `import`, where no item but a row has the word
abbrev pub adds_row : List ℕ → Row → Doing
adds_row address row = says (add_by_row address row) (line_of address row)

-- A word that no item has: a row of it answers so, or else the command goes on.
abbrev pub row_or : (Row → Doing) → Doing → Option Row → Doing
row_or by_row else_so None = else_so
row_or by_row else_so (Some row) = by_row row

abbrev pub by_row_of : List ℕ → (Row → Doing) → Doing → Given → Doing
by_row_of [] by_row else_so given = else_so
by_row_of (byte ∷ rest) by_row else_so given = row_or by_row else_so (row_with (byte ∷ rest) given.rows)
