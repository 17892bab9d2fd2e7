-- A session of the service is one over which the promise over all runs goes on.
use Rattle.std.proofs.Common.{ℕ, ◌++◌}
use Rattle.dm_types.specs.declared.kinds.DiskKind.{DiskKind}
use Rattle.dm_disk_model.specs.Disk.{History as Clock, IsSoundDisk, now}
use Rattle.dm_kept.specs.Files.{Says}
use Rattle.dm_report.specs.Said.{Said}
use Rattle.dm_does.specs.Headline.{IsRun, OpensOnce}
use Rattle.dm_does.specs.Log.{Run, Untouched, Unread, Unopened, Opened}
use Rattle.dm_does.specs.World.{World}
use Rattle.dm_does.proofs.Explained.{behind_opened, behind_opening}
use Rattle.dm_past.specs.Past.{Past}
use Rattle.dm_session.specs.Explaining.{Outside, ServeRuns}
use Rattle.dm_session.specs.Serving.{Line, ServesSo}

module _ {D O : Type 0} (outside : Outside) (clock : D → Clock) (counts : D → DiskKind → ℕ) (says : O → Says) (origin : O) (at : ℕ) (before after : World) (past past' : Past) (far far' : ℕ) (line line' : Line) (requests : ℕ) (said : Said) (told : outside.disk) where
  -- it opened the list once, and recorded what it tried behind what it found
  session_opens : (run : Run) → ServesSo outside.disk outside.conns outside.past outside.moment outside.accepts outside.accept_failed clock counts says origin at before after past past' line line' requests said run → OpensOnce (now before.disk) run
  session_opens Untouched serves = absurd serves
  session_opens Unread serves = tt
  session_opens (Unopened found recorded failed rest) serves = behind_opening outside.disk before.disk after.disk at found (recorded ++ (failed ++ rest)) serves.left told serves.lawful serves.tried
  session_opens (Opened log) serves = behind_opened outside.disk before.disk after.disk at log told serves.lawful serves.tried serves.once

  pub session_promised : IsSoundDisk (now before.disk) → (is : ServeRuns outside clock counts says origin at before after past past' far far' line line' requests said) → IsRun (says origin) before.disk after.disk is.run
  session_promised sound is = record {
    sound = sound;
    opens = session_opens is.run is.serves;
    keeps = is.keeps told;
  }
