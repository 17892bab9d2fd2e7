-- How a row of the history answers a command of the list: by the word or by the id that it names, where no item has it.
use Rattle.std.specs.Prelude.{◌≡◌, ◌≢◌, ◌⊎◌, ℕ, true, false, List, [], Option, Some, None, Result, Ok, Err}
use Rattle.dm_types.specs.Faults.{NoneFell}
use Rattle.dm_types.specs.declared.item.ItemId.{ItemId}
use Rattle.dm_types.specs.declared.kinds.DiskKind.{DiskKind}
use Rattle.dm_item.specs.Listing.{item_in}
use Rattle.dm_report.specs.Said.{Said}
use Rattle.dm_report.specs.declared.verdict.Verdict.TheVariants as verdicts
use Rattle.dm_hist.specs.declared.keeper.KeeperFault.{KeeperFault}
use Rattle.dm_hist.specs.declared.row.Row.{Row}
use Rattle.dm_hist.specs.Rows.{is_there, row_with}
use Rattle.dm_shown.specs.Words.{item_with}
use Rattle.dm_archive.specs.Doing.{Doing, Given, adds_row, drops_row, gets_row, nothing, says}
use Rattle.dm_does.specs.declared.job.Job.{Job}
use Rattle.dm_does.specs.declared.job.Job.TheVariants as jobs
use Rattle.dm_past.specs.Coming.{Came}
use Rattle.dm_past.specs.Past.{Past}
use Rattle.dm_past.specs.Tasks.{DoingFor, DropsNone}

-- there is a word, and no item has it
pub record IsFree (word : List ℕ) (given : Given) : Type 0 where
  pub some : word ≢ []
  pub none : item_with word given.items ≡ None

-- A row answers so. Where the history tells its rows it is the one of least id that has the word.
pub record RowSays (told : Type 0) (word : List ℕ) (by_row : Row → Doing) (given : Given) (doing : Doing) : Type 0 where
  pub row : Row
  pub is : told → row_with word given.rows ≡ Some row
  pub doing_is : doing ≡ by_row row

-- the history was asked, and gave no answer
abbrev pub unanswered : Doing
unanswered = says verdicts.NoMemory nothing

-- the word is no item's: a row says what is done, or the history gave no answer
pub record WordDoes (told : Type 0) (word : List ℕ) (by_row : Row → Doing) (given : Given) (doing : Doing) : Type 0 where
  pub free : IsFree word given
  pub does : RowSays told word by_row given doing ⊎ (doing ≡ unanswered)

-- the id is no item's: its row is dropped, or the history gave no answer
pub record IdDoes (told : Type 0) (id : ItemId) (given : Given) (doing : Doing) : Type 0 where
  pub none : item_in id.0 given.items ≡ None
  pub does : ((told → is_there id.0 given.rows ≡ true) × (doing ≡ drops_row id)) ⊎ (doing ≡ unanswered)

-- what a row makes of a job that is about to be done
abbrev pub RowDoes : Type 0 → Job → DoingFor
RowDoes told (jobs.Get order slices) given doing = WordDoes told order.word (gets_row order.address.text) given doing
RowDoes told (jobs.Add order) given doing = WordDoes told order.word (adds_row order.address.text) given doing
RowDoes told (jobs.Remove id) given doing = IdDoes told id given doing
RowDoes told job given doing = ⊥

-- no row answers the job
abbrev pub NoRow : Job → Given → Type 0
NoRow (jobs.Get order slices) given = IsFree order.word given → row_with order.word given.rows ≡ None
NoRow (jobs.Add order) given = IsFree order.word given → row_with order.word given.rows ≡ None
NoRow (jobs.Remove id) given = item_in id.0 given.items ≡ None → is_there id.0 given.rows ≡ false
NoRow job given = Unit {0}

-- the rows rest, and no count of the history fell
pub record RowsRest (told : Type 0) (past past' : Past) : Type 0 where
  pub same : told → past'.rows ≡ past.rows
  pub later : NoneFell past.faults past'.faults

-- what was said is what was done, and nothing was recorded
pub record IsAnswered (told : Type 0) (does : DoingFor) (given : Given) (past past' : Past) (said : Said) : Type 0 where
  pub doing : Doing
  pub is : does given doing
  pub came : (counts : DiskKind → ℕ) → Came told counts counts past past' doing [] [] false said
  pub same : DropsNone doing.change → told → past'.rows ≡ past.rows
  pub later : NoneFell past.faults past'.faults

-- a row answered, or the history gave none; or no row answers
abbrev pub RowAnswers : Type 0 → Job → Given → Past → Past → Option Said → Type 0
RowAnswers told job given past past' (Some said) = IsAnswered told (RowDoes told job) given past past' said
RowAnswers told job given past past' None = RowsRest told past past' × (told → NoRow job given)

-- the same of a word alone
abbrev pub WordAnswers : Type 0 → List ℕ → (Row → Doing) → Given → Past → Past → Option Said → Type 0
WordAnswers told word by_row given past past' (Some said) = IsAnswered told (WordDoes told word by_row) given past past' said
WordAnswers told word by_row given past past' None = RowsRest told past past' × (told → IsFree word given → row_with word given.rows ≡ None)

-- and of an id
abbrev pub IdAnswers : Type 0 → ItemId → Given → Past → Past → Option Said → Type 0
IdAnswers told id given past past' (Some said) = IsAnswered told (IdDoes told id) given past past' said
IdAnswers told id given past past' None = RowsRest told past past' × (told → item_in id.0 given.items ≡ None → is_there id.0 given.rows ≡ false)

-- a row of a word that is no item's, where there is one
abbrev pub FindsFree : Type 0 → List ℕ → Given → Result (Option Row) KeeperFault → Type 0
FindsFree told word given (Ok (Some row)) = IsFree word given × (told → row_with word given.rows ≡ Some row)
FindsFree told word given (Ok None) = told → IsFree word given → row_with word given.rows ≡ None
FindsFree told word given (Err fault) = IsFree word given
