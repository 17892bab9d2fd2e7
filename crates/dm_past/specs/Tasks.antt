-- What is asked of the list and of the history together, and what it makes of both.
use Rattle.std.specs.Prelude.{◌≡◌, ℕ, false, List}
use Rattle.std.specs.List.{All}
use Rattle.dm_report.specs.declared.verdict.Verdict.TheVariants.{Done}
use Rattle.dm_hist.specs.declared.row.Row.{Row}
use Rattle.dm_hist.specs.Shown.{is_listed}
use Rattle.dm_shown.specs.Pages.{shown_page}
use Rattle.dm_archive.specs.Doing.{Change, Doing, Given, stay, puts, drops, archives_all, lines, says}
use Rattle.dm_past.specs.declared.task.Task.{Task}
use Rattle.dm_past.specs.declared.task.Task.TheVariants as tasks

-- No row of these is one whose id an item has. Where the history tells its rows they are the page that is asked for.
pub record IsPage (told : Type 0) (after limit : ℕ) (given : Given) (page : List Row) : Type 0 where
  pub unlisted : All (λ row. is_listed row.id.0 given.items ≡ false) page
  pub is : told → page ≡ shown_page given.items after limit given.rows

-- the lines of such a page are told, and nothing is changed
pub record TellsPage (told : Type 0) (after limit : ℕ) (given : Given) (doing : Doing) : Type 0 where
  pub page : List Row
  pub is_page : IsPage told after limit given page
  pub doing_is : doing ≡ says Done (lines page)

-- What is done to a list and to rows: of which doings it is one.
abbrev pub DoingFor : Type 1
DoingFor = Given → Doing → Type 0

-- no row is dropped
abbrev pub DropsNone : Change → Type 0
DropsNone stay = Unit {0}
DropsNone (puts rows) = Unit {0}
DropsNone (drops id) = ⊥

-- none of these doings drops a row
abbrev pub NeverDrops : DoingFor → Type 0
NeverDrops does = (given : Given) (doing : Doing) → does given doing → DropsNone doing.change

-- What each task does to the list and to the rows that it is given. Over a history that tells its rows it is one thing alone.
abbrev pub Does : Type 0 → Task → DoingFor
Does told tasks.Archive given doing = doing ≡ archives_all given
Does told (tasks.Page after limit) given doing = TellsPage told after limit given doing
