-- The whole clause of a session of the service.
use Rattle.std.specs.Prelude.{ℕ, true, []}
use Rattle.dm_types.specs.declared.kinds.DiskKind.{DiskKind}
use Rattle.dm_disk_model.specs.Disk.{History as Clock, now}
use Rattle.dm_item.specs.Lawful.{History}
use Rattle.dm_kept.specs.Files.{Says}
use Rattle.dm_kept.specs.Kept.{Kept}
use Rattle.dm_kept.specs.Recovery.{Through}
use Rattle.dm_report.specs.Said.{Said}
use Rattle.dm_does.specs.Leaving.{KeepsAll, Leaves}
use Rattle.dm_does.specs.Log.{Run}
use Rattle.dm_does.specs.World.{IsLater, World}
use Rattle.dm_past.specs.Past.{Past}
use Rattle.dm_session.specs.Serving.{Line, ServesSo}

-- what the session meets: it makes no connection
abbrev pub world_of : {D : Type 0} → (D → Clock) → (D → DiskKind → ℕ) → D → World
world_of clock counts disk = record { disk = clock disk; disk_faults = counts disk; net_faults = λ kind. 0; closed = [] }

-- which of the outside's objects tell what they hold, which moments the clock told, that no accept failed, and that one did
pub record Outside : Type 1 where
  pub disk : Type 0
  pub conns : Type 0
  pub past : Type 0
  pub moment : ℕ → Type 0
  pub accepts : Type 0
  pub accept_failed : Type 0

-- A session over a disk: how far it came explains how it ended, what each moment leaves, and what the next run begins with.
pub record ServeRuns {D O : Type 0} (outside : Outside) (clock : D → Clock) (counts : D → DiskKind → ℕ) (says : O → Says) (origin : O) (at : ℕ) (before after : World) (past past' : Past) (far far' : ℕ) (line line' : Line) (requests : ℕ) (said : Said) : Type 0 where
  pub run : Run
  pub serves : ServesSo outside.disk outside.conns outside.past outside.moment outside.accepts outside.accept_failed clock counts says origin at before after past past' line line' requests said run
  pub later : IsLater outside.disk before after
  pub leaves : outside.disk → Leaves before.disk after.disk far far' said.verdict run
  pub keeps : outside.disk → (kept rest : History) → Kept true (says origin) (Through kept rest) (now before.disk) → KeepsAll (says origin) before.disk after.disk kept rest run
