-- What the list and the history show at every stop of a run.
use Rattle.std.specs.Prelude.{◌≡◌, Bool, List}
use Rattle.dm_disk_model.specs.Disk.{History as Clock, now}
use Rattle.dm_disk_model.specs.Moments.{Throughout}
use Rattle.dm_item.specs.Lawful.{items_of}
use Rattle.dm_kept.specs.Files.{Says}
use Rattle.dm_kept.specs.Kept.{WasKept}
use Rattle.dm_hist.specs.declared.row.Row.{Row}
use Rattle.dm_archive.specs.Stops.{EachStop, ShowsEachOnce}
use Rattle.dm_does.specs.Log.{Log, Run, Opened, opened_of}

-- The list was opened at some moment, and until then the rows rested. At every stop since then each item of the opened list, and each row that was shown
-- beside it, is shown exactly once, and nothing else is, whatever a crash leaves there.
pub record ShowsOnce (says : Says) (start end : Clock) (rows rows' : List Row) (log : Log) : Type 0 where
  pub opened : Clock
  pub moments : Throughout start opened (λ disk. Unit {0})
  pub each : (good : Bool) → WasKept good says (now start) → EachStop (ShowsEachOnce good says (items_of (opened_of log)) rows) opened rows end rows'

-- Where the list wasn't opened the rows rest.
abbrev pub Shows : Says → Clock → Clock → List Row → List Row → Run → Type 0
Shows says start end rows rows' (Opened log) = ShowsOnce says start end rows rows' log
Shows says start end rows rows' _ = rows' ≡ rows
