-- What a run says, by how far it came: over every disk and history, also those that tell nothing of what they hold.
use Rattle.std.specs.Prelude.{◌≡◌, ◌≤◌, ℕ, List, [], ◌++◌, length}
use Rattle.dm_types.specs.Limits.{most_items}
use Rattle.dm_types.specs.declared.item.Item.{Item}
use Rattle.dm_item.specs.Lawful.{History, IsLawful, items_of}
use Rattle.dm_kept.specs.Room.{IsTaken}
use Rattle.dm_report.specs.Said.{Said}
use Rattle.dm_answers.specs.Opening.{IsTried}
use Rattle.dm_hist.specs.declared.row.Row.{Row}
use Rattle.dm_archive.specs.Doing.{Doing, Given}
use Rattle.dm_does.specs.Answering.{SaysFault, SaysUnread}
use Rattle.dm_does.specs.Log.{ArePlain, Log, Run, Untouched, Unread, Unopened, Opened, opened_of, tried_of}
use Rattle.dm_does.specs.World.{NoneClosed, World}
use Rattle.dm_past.specs.Coming.{Came}
use Rattle.dm_past.specs.Past.{Past}
use Rattle.dm_past.specs.Tasks.{DoingFor}

-- the items that a history leaves, and the rows
abbrev pub given_by : History → List Row → Given
given_by history rows = record { items = items_of history; rows = rows }

-- Something was done on a list that was opened. All that was tried is lawful behind what was found, the opening did what openings do, and no later
-- entry opens the list again. What was done is what is to be done to the list behind the opening and to the rows, as far as it came.
pub record Works (tells told : Type 0) (before after : World) (past past' : Past) (does : DoingFor) (at : ℕ) (log : Log) (said : Said) : Type 0 where
  pub taken : IsTaken most_items log.found
  pub lawful : IsLawful (log.found ++ tried_of log)
  pub opened : IsTried tells before.disk after.disk at log.found log.opening []
  pub once : ArePlain (log.more ++ log.failed)
  pub none_closed : NoneClosed before after
  pub doing : Doing
  pub is : does (given_by (opened_of log) past.rows) doing
  pub came : Came told before.disk_faults after.disk_faults past past' doing log.more log.failed log.broken said

-- no journal was read, and the history wasn't asked
pub record WasUnread (before after : World) (past past' : Past) (said : Said) : Type 0 where
  pub none_closed : NoneClosed before after
  pub says : SaysUnread before after said
  pub same : past' ≡ past

-- The opening was refused behind what it read, and the history wasn't asked. What it tried is lawful there: these entries were recorded, then
-- one failed at most, and the rest wasn't tried.
pub record WasUnopened (tells : Type 0) (at : ℕ) (before after : World) (past past' : Past) (found recorded failed rest : History) (said : Said) : Type 0 where
  pub none_closed : NoneClosed before after
  pub says : SaysFault before after said
  pub same : past' ≡ past
  pub taken : IsTaken most_items found
  pub lawful : IsLawful (found ++ (recorded ++ (failed ++ rest)))
  pub one : length failed ≤ 1
  pub left : List Item
  pub tried : IsTried tells before.disk after.disk at found (recorded ++ (failed ++ rest)) left

abbrev pub Answers : Type 0 → Type 0 → DoingFor → ℕ → World → World → Past → Past → Said → Run → Type 0
Answers tells told does at before after past past' said Untouched = ⊥
Answers tells told does at before after past past' said Unread = WasUnread before after past past' said
Answers tells told does at before after past past' said (Unopened found recorded failed rest) = WasUnopened tells at before after past past' found recorded failed rest said
Answers tells told does at before after past past' said (Opened log) = Works tells told before after past past' does at log said
