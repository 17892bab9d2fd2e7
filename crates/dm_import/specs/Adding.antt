-- What a record of the file does to the list, and how all of them are added, one after another.
use Rattle.std.specs.Prelude.{◌≡◌, ℕ, Bool, true, false, List, [], ◌∷◌, ◌++◌, Some, Result, Ok, Err}
use Rattle.dm_types.specs.Faults.{Rose}
use Rattle.dm_types.specs.declared.entry.Entry.{Entry}
use Rattle.dm_types.specs.declared.kinds.DiskKind.{DiskKind}
use Rattle.dm_item.specs.Lawful.{History}
use Rattle.dm_item.specs.Listing.{Listing}
use Rattle.dm_store.specs.Becomes.{run_of}
use Rattle.dm_answers.specs.declared.order.Order.{Order}
use Rattle.dm_report.specs.declared.verdict.Verdict.{Verdict}
use Rattle.dm_report.specs.declared.verdict.Verdict.TheVariants as verdicts
use Rattle.dm_hist.specs.declared.row.Row.{Row}
use Rattle.dm_hist.specs.Rows.{row_with}
use Rattle.dm_shown.specs.Answering.{add_by_row}
use Rattle.dm_shown.specs.declared.named.Named.{Named}
use Rattle.dm_shown.specs.declared.named.Named.TheVariants as names
use Rattle.dm_archive.specs.Doing.{Given}
use Rattle.dm_csv.specs.declared.row.ImportRow.{ImportRow}
use Rattle.dm_does.specs.declared.course.Course.{Course}
use Rattle.dm_does.specs.declared.course.Course.TheVariants.{Ends, Brings}
use Rattle.dm_does.specs.declared.course.Show.TheVariants.{Line}
use Rattle.dm_does.specs.declared.job.Job.TheVariants as jobs
use Rattle.dm_does.specs.Doing.{Doing, does}
use Rattle.dm_past.specs.ByRows.{IsFree, NoRow}
use Rattle.dm_past.specs.Past.{HasFailed, Past}

-- what a record orders
abbrev pub order_of : ImportRow → Order
order_of row = record { word = row.word; address = row.address; wish = row.wish; digest = row.digest }

-- What comes of a record: the item of the list or the row of the history whose line is printed for it, or why it is refused.
abbrev pub Answer : Type 0
Answer = Result Named Verdict

-- what `add` does to the list with such an order, at this moment
abbrev pub adds : Order → Listing → ℕ → Doing
adds order list at = does (jobs.Add order) (record { list = list; at = at })

-- what comes of that
abbrev pub answer_of : Course → Answer
answer_of (Ends verdicts.Done (Line id)) = Ok (names.Item id)
answer_of (Ends verdict show) = Err verdict
answer_of (Brings id slices) = Err verdicts.NoMemory

-- what comes of a row of the history that has the word: it has the address too, or the word is another item's
abbrev pub by_verdict : Row → Verdict → Answer
by_verdict row verdicts.Done = Ok (names.Row row)
by_verdict row verdict = Err verdict

abbrev pub answer_by : List ℕ → Row → Answer
answer_by address row = by_verdict row (add_by_row address row)

-- the items of a list, and the rows
abbrev pub given_by : Listing → List Row → Given
given_by list rows = record { items = list.items; rows = rows }

-- What a record does: where no row of the history answers it is what `add` does; else the row answers, and nothing is recorded. Where the history tells its
-- rows it is the one of least id that has the word.
pub data RecordDoes (told : Type 0) (rows : List Row) (at : ℕ) (list : Listing) (order : Order) (entries : History) (answer : Answer) : Type 0 where
  by_list : (told → NoRow (jobs.Add order) (given_by list rows)) → entries ≡ (adds order list at).entries → answer ≡ answer_of (adds order list at).course → RecordDoes told rows at list order entries answer
  by_past : (row : Row) → IsFree order.word (given_by list rows) → (told → row_with order.word rows ≡ Some row) → entries ≡ [] → answer ≡ answer_by order.address.text row → RecordDoes told rows at list order entries answer

-- These records were added to the list, one after another, each to the list that those before it left: with these entries, and for each this is printed.
pub data AreAdded (told : Type 0) (rows : List Row) (at : ℕ) (list : Listing) : List ImportRow → History → List Named → Type 0 where
  none_yet : AreAdded told rows at list [] [] []
  one_more : (records : List ImportRow) (entries : History) (all : List Named) (row : ImportRow) (more : History) (one : Named) → AreAdded told rows at list records entries all
      → RecordDoes told rows at (run_of entries list) (order_of row) more (Ok one) → AreAdded told rows at list (records ++ row ∷ []) (entries ++ more) (all ++ one ∷ [])

-- How it ended behind these entries, with the records that were left.
pub data EndsSo (told : Type 0) (counts counts' : DiskKind → ℕ) (past past' : Past) (at : ℕ) (list : Listing) (rest : List ImportRow) (failed : History) (broken : Bool) (verdict : Verdict) : Type 0 where
  -- none was left
  all_added : rest ≡ [] → failed ≡ [] → broken ≡ false → verdict ≡ verdicts.Done → EndsSo told counts counts' past past' at list rest failed broken verdict
  -- the next one is refused, and those behind it aren't looked at
  refused : (row : ImportRow) (more : List ImportRow) → rest ≡ row ∷ more → RecordDoes told past.rows at list (order_of row) [] (Err verdict) → failed ≡ [] → broken ≡ false
      → EndsSo told counts counts' past past' at list rest failed broken verdict
  -- the entry of the next one failed, which shows in a count of the disk
  fell : (row : ImportRow) (more : List ImportRow) (entry : Entry) (one : Named) (kind : DiskKind) → rest ≡ row ∷ more → RecordDoes told past.rows at list (order_of row) (entry ∷ []) (Ok one) → failed ≡ entry ∷ [] → broken ≡ true
      → Rose (counts kind) (counts' kind) → verdict ≡ verdicts.DiskFailed kind → EndsSo told counts counts' past past' at list rest failed broken verdict
  -- no item has the word of the next one, and the history failed, which shows in its count
  lost : (row : ImportRow) (more : List ImportRow) → rest ≡ row ∷ more → IsFree row.word (given_by list past.rows) → HasFailed past past' → failed ≡ [] → broken ≡ false → verdict ≡ verdicts.HistoryFailed
      → EndsSo told counts counts' past past' at list rest failed broken verdict
  -- memory was wanting
  wanted : failed ≡ [] → broken ≡ false → verdict ≡ verdicts.NoMemory → EndsSo told counts counts' past past' at list rest failed broken verdict

-- The first of the rows were added, and then it ended so. What was added stays.
pub record AddsRows (told : Type 0) (counts counts' : DiskKind → ℕ) (past past' : Past) (at : ℕ) (list : Listing) (rows : List ImportRow) (all : List Named) (recorded failed : History) (broken : Bool) (verdict : Verdict) : Type 0 where
  pub first : List ImportRow
  pub rest : List ImportRow
  pub rows_are : rows ≡ first ++ rest
  pub are : AreAdded told past.rows at list first recorded all
  pub ends : EndsSo told counts counts' past past' at (run_of recorded list) rest failed broken verdict

-- no row was read: nothing was recorded, and it ended so
pub record AddsNone (why : Verdict) (all : List Named) (recorded failed : History) (broken : Bool) (verdict : Verdict) : Type 0 where
  pub none : all ≡ []
  pub nothing : recorded ≡ []
  pub none_failed : failed ≡ []
  pub whole : broken ≡ false
  pub is : verdict ≡ why

-- how far an import came, by the rows that were read, or why none were
abbrev pub Comes : Type 0 → (DiskKind → ℕ) → (DiskKind → ℕ) → Past → Past → ℕ → Listing → Result (List ImportRow) Verdict → List Named → History → History → Bool → Verdict → Type 0
Comes told counts counts' past past' at list (Ok rows) all recorded failed broken verdict = AddsRows told counts counts' past past' at list rows all recorded failed broken verdict
Comes told counts counts' past past' at list (Err why) all recorded failed broken verdict = AddsNone why all recorded failed broken verdict
