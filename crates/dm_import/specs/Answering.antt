-- What an import says, by how far it came: over every disk and history, also those that tell nothing of what they hold.
use Rattle.std.specs.Prelude.{ℕ, List, [], ◌++◌, Result, reverse}
use Rattle.dm_types.specs.Limits.{most_items}
use Rattle.dm_disk_model.specs.Disk.{now}
use Rattle.dm_item.specs.Lawful.{History, IsLawful, items_of, left_by}
use Rattle.dm_item.specs.Listing.{Listing}
use Rattle.dm_kept.specs.Room.{IsTaken}
use Rattle.dm_part.specs.Laws.{files_place}
use Rattle.dm_report.specs.Said.{Said}
use Rattle.dm_report.specs.declared.verdict.Verdict.{Verdict}
use Rattle.dm_answers.specs.Opening.{IsTried}
use Rattle.dm_csv.specs.declared.row.ImportRow.{ImportRow}
use Rattle.dm_shown.specs.declared.named.Named.{Named}
use Rattle.dm_does.specs.Log.{ArePlain, Log, Run, Untouched, Unread, Unopened, Opened, kept_of, opened_of, tried_of}
use Rattle.dm_does.specs.World.{NoneClosed, World}
use Rattle.dm_past.specs.Answering.{WasUnopened, WasUnread}
use Rattle.dm_past.specs.Past.{Past}
use Rattle.dm_import.specs.Adding.{Comes}
use Rattle.dm_import.specs.Reading.{ReadsFile}
use Rattle.dm_import.specs.Saying.{SaysSo}

-- the list that a history leaves
abbrev pub list_by : History → Listing
list_by history = left_by most_items (reverse history)

-- The list was opened. All that was tried is lawful behind what was found, the opening did what openings do, and no later entry opens the list again. The file
-- was read as it stood before the opening; its rows were added to the list behind the opening, as far as it came; and it is said how it ended, with the items
-- as they are at the end.
pub record Works (tells told : Type 0) (name : List ℕ) (before after : World) (past past' : Past) (at : ℕ) (log : Log) (said : Said) : Type 0 where
  pub taken : IsTaken most_items log.found
  pub lawful : IsLawful (log.found ++ tried_of log)
  pub opened : IsTried tells before.disk after.disk at log.found log.opening []
  pub once : ArePlain (log.more ++ log.failed)
  pub none_closed : NoneClosed before after
  pub read : Result (List ImportRow) Verdict
  pub reads : ReadsFile tells (now before.disk) (files_place name) before.disk_faults after.disk_faults read
  pub named : List Named
  pub verdict : Verdict
  pub comes : Comes told before.disk_faults after.disk_faults past past' at (list_by (opened_of log)) read named log.more log.failed log.broken verdict
  pub says : SaysSo (items_of (kept_of log)) named verdict said

-- Where the list couldn't be opened that is said, and nothing was added.
abbrev pub Answers : Type 0 → Type 0 → List ℕ → ℕ → World → World → Past → Past → Said → Run → Type 0
Answers tells told name at before after past past' said Untouched = ⊥
Answers tells told name at before after past past' said Unread = WasUnread before after past past' said
Answers tells told name at before after past past' said (Unopened found recorded failed rest) = WasUnopened tells at before after past past' found recorded failed rest said
Answers tells told name at before after past past' said (Opened log) = Works tells told name before after past past' at log said
