-- What is done on a desk that was opened.
use Rattle.std.specs.Prelude.{◌≡◌, ◌⊎◌, ℕ, Bool, true, List, [], ◌∷◌, ◌++◌, Result, Ok, Err}
use Rattle.dm_types.specs.Faults.{Rose}
use Rattle.dm_types.specs.declared.entry.Entry.{Entry}
use Rattle.dm_types.specs.declared.kinds.DiskKind.{DiskKind}
use Rattle.dm_item.specs.Lawful.{History}
use Rattle.dm_store.specs.Becomes.{Becomes, Recorded}
use Rattle.dm_store.specs.View.{View}
use Rattle.dm_answers.specs.Add.{IsOrder}
use Rattle.dm_answers.specs.declared.fault.DeskFault.{DeskFault}
use Rattle.dm_answers.specs.declared.fault.DeskFault.TheVariants as desks
use Rattle.dm_answers.specs.declared.order.Order.{Order}
use Rattle.dm_answers.specs.declared.order.Taken.{Taken}
use Rattle.dm_answers.specs.declared.order.Taken.TheVariants.{New, Same}
use Rattle.dm_report.specs.Said.{Said}
use Rattle.dm_report.specs.declared.verdict.Verdict.{Verdict}
use Rattle.dm_report.specs.declared.verdict.Verdict.TheVariants as verdicts
use Rattle.dm_shown.specs.declared.named.Named.{Named}
use Rattle.dm_shown.specs.declared.named.Named.TheVariants as names
use Rattle.dm_csv.specs.declared.row.ImportRow.{ImportRow}
use Rattle.dm_does.specs.Log.{ArePlain}
use Rattle.dm_past.specs.ByRows.{IsFree}
use Rattle.dm_past.specs.Past.{HasFailed, Past}
use Rattle.dm_import.specs.Adding.{AddsRows, Answer, Comes, RecordDoes, given_by, order_of}
use Rattle.dm_import.specs.Saying.{SaysSo}

-- a record's word, address and wish keep the limits of an order
abbrev pub IsGoodRow : ImportRow → Type 0
IsGoodRow row = IsOrder (order_of row)

-- why an order is refused
abbrev pub refusal_of : DeskFault → Verdict
refusal_of (desks.WordTaken id) = verdicts.OtherWord id
refusal_of (desks.ItemsFull count) = verdicts.ItemsFull count
refusal_of (desks.Journal kind) = verdicts.DiskFailed kind
refusal_of fault = verdicts.NoMemory

-- what comes of an order
abbrev pub added_as : Result Taken DeskFault → Answer
added_as (Ok (New id)) = Ok (names.Item id)
added_as (Ok (Same id)) = Ok (names.Item id)
added_as (Err fault) = Err (refusal_of fault)

-- A record was added with these entries, and this is printed for it.
pub record WasAdded {D O : Type 0} (told : Type 0) (at : ℕ) (order : Order) (old new : View D O) (past : Past) (one : Named) : Type 0 where
  pub entries : History
  pub does : RecordDoes told past.rows at old.items order entries (Ok one)
  pub recorded : Recorded old new entries
  pub plain : ArePlain entries

-- A record was added, or is refused; or its entry failed, or the history did, or memory was wanting.
pub data RowTried {D O : Type 0} (told : Type 0) (counts : D → DiskKind → ℕ) (at : ℕ) (order : Order) (old new : View D O) (past past' : Past) (answer : Answer) : Type 0 where
  was_added : (one : Named) → WasAdded told at order old new past one → answer ≡ Ok one → RowTried told counts at order old new past past' answer
  was_refused : (verdict : Verdict) → RecordDoes told past.rows at old.items order [] (Err verdict) → Recorded old new [] → answer ≡ Err verdict → RowTried told counts at order old new past past' answer
  has_fallen : (entry : Entry) (one : Named) (kind : DiskKind) → RecordDoes told past.rows at old.items order (entry ∷ []) (Ok one) → Becomes old new [] (entry ∷ []) true → ArePlain (entry ∷ []) → Rose (counts old.disk kind) (counts new.disk kind)
      → answer ≡ Err (verdicts.DiskFailed kind) → RowTried told counts at order old new past past' answer
  was_lost : IsFree order.word (given_by old.items past.rows) → HasFailed past past' → Recorded old new [] → answer ≡ Err verdicts.HistoryFailed → RowTried told counts at order old new past past' answer
  was_wanting : Recorded old new [] → answer ≡ Err verdicts.NoMemory → RowTried told counts at order old new past past' answer

-- It was added, and what is printed for it is kept.
pub record NextAdded {D O : Type 0} (told : Type 0) (at : ℕ) (order : Order) (old new : View D O) (past : Past) (all all' : List Named) : Type 0 where
  pub one : Named
  pub was : WasAdded told at order old new past one
  pub all_are : all' ≡ all ++ one ∷ []

-- It was added, and memory was wanting to keep what is printed for it.
pub record NextUnsaid {D O : Type 0} (told : Type 0) (at : ℕ) (order : Order) (old new : View D O) (past : Past) (verdict : Verdict) : Type 0 where
  pub one : Named
  pub was : WasAdded told at order old new past one
  pub is : verdict ≡ verdicts.NoMemory

-- one of both; or it wasn't added, and nothing more is kept
abbrev pub NextTried : {D O : Type 0} → Type 0 → (D → DiskKind → ℕ) → ℕ → Order → View D O → View D O → Past → Past → List Named → List Named → Result (Unit {0}) Verdict → Type 0
NextTried told counts at order old new past past' all all' (Ok done) = NextAdded told at order old new past all all'
NextTried told counts at order old new past past' all all' (Err verdict) = NextUnsaid told at order old new past verdict ⊎ (RowTried told counts at order old new past past' (Err verdict) × (all' ≡ all))

-- The rows were added, as far as it came. What is printed was kept, unless memory was wanting.
pub record RowsTried {D O : Type 0} (told : Type 0) (counts : D → DiskKind → ℕ) (at : ℕ) (rows : List ImportRow) (old new : View D O) (past past' : Past) (all : List Named) (verdict : Verdict) : Type 0 where
  pub named : List Named
  pub recorded : History
  pub failed : History
  pub broken : Bool
  pub becomes : Becomes old new recorded failed broken
  pub plain : ArePlain (recorded ++ failed)
  pub adds : AddsRows told (counts old.disk) (counts new.disk) past past' at old.items rows named recorded failed broken verdict
  pub all_are : (verdict ≡ verdicts.NoMemory) ⊎ (all ≡ named)

-- What an import does on a desk that was opened, by the rows that were read or why none were, and what it says.
pub record Worked {D O : Type 0} (told : Type 0) (counts : D → DiskKind → ℕ) (at : ℕ) (read : Result (List ImportRow) Verdict) (old new : View D O) (past past' : Past) (said : Said) : Type 0 where
  pub named : List Named
  pub verdict : Verdict
  pub recorded : History
  pub failed : History
  pub broken : Bool
  pub becomes : Becomes old new recorded failed broken
  pub plain : ArePlain (recorded ++ failed)
  pub comes : Comes told (counts old.disk) (counts new.disk) past past' at old.items read named recorded failed broken verdict
  pub says : SaysSo new.items.items named verdict said
