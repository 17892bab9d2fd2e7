-- A desk that was opened, and calls on it: what the desk's own clauses say of both, from which what a run leaves is put together.
use Rattle.std.specs.Prelude.{◌≡◌, ◌⊎◌, Bool, true, false, ◌++◌}
use Rattle.dm_disk_model.specs.Disk.{History as Clock, now}
use Rattle.dm_disk_model.specs.Moments.{Throughout}
use Rattle.dm_item.specs.Lawful.{History}
use Rattle.dm_kept.specs.Files.{Says}
use Rattle.dm_kept.specs.Kept.{Kept, WasKept}
use Rattle.dm_kept.specs.Recovery.{Through}
use Rattle.dm_store.specs.Keeps.{Goes, HoldsOf, added}
use Rattle.dm_store.specs.View.{View}
use Rattle.dm_answers.specs.Opening.{OpenRuns}
use Rattle.dm_does.specs.Leaving.{NoneBroke}
use Rattle.dm_does.specs.Log.{Log}

-- The desk was opened on what was found, and then only calls of the desk were made.
pub record IsSession {D O : Type 0} (clock : D → Clock) (says : Says) (start : Clock) (found : History) (opened ended : View D O) : Type 0 where
  pub whole : opened.broken ≡ false
  pub opens : OpenRuns says start (clock opened.disk) found opened.list
  pub holds : (good : Bool) → WasKept good says (now start) → HoldsOf good says clock opened (found ++ opened.list)
  -- at each moment of the opening one of the two is kept, where the start was
  pub on : (kept rest : History) → Kept true says (Through kept rest) (now start) → Throughout start (clock opened.disk) (λ disk. Kept true says (Through kept rest) disk ⊎ Kept true says (Through found opened.list) disk)
  -- each item that was being finished is complete, where this program left the disk
  pub done : WasKept true says (now start) → NoneBroke opened.list
  pub goes : (good : Bool) (before : History) → HoldsOf good says clock opened before → Goes good says clock opened ended before (added opened ended)

-- what it comes to
abbrev pub log_of : {D O : Type 0} → History → View D O → View D O → Log
log_of found opened ended = record { found = found; opening = opened.list; more = added opened ended; failed = ended.failed; broken = ended.broken }
