-- What a run leaves whose list couldn't be opened.
use Rattle.std.proofs.Common.{◌≡◌, ℕ, true, List, ap}
use Rattle.dm_types.specs.Faults.{NoneFell}
use Rattle.dm_types.specs.declared.kinds.DiskKind.{DiskKind}
use Rattle.dm_disk_model.specs.Disk.{History as Clock, now}
use Rattle.dm_edge.specs.declared.fault.NetFault.{NetFault}
use Rattle.dm_edge.specs.Wire.{Closed}
use Rattle.dm_item.specs.Lawful.{History}
use Rattle.dm_kept.specs.Files.{Says}
use Rattle.dm_kept.specs.Kept.{Kept}
use Rattle.dm_kept.specs.Recovery.{Through}
use Rattle.dm_report.specs.Said.{Said}
use Rattle.dm_does.specs.Leaving.{KeepsAll, Leaves}
use Rattle.dm_does.specs.Log.{Run, Untouched, Unread, Unopened, Opened}
use Rattle.dm_does.specs.World.{World}
use Rattle.dm_list.specs.Running.{JobRefused, world_of}
use Rattle.dm_past.specs.Answering.{Answers}
use Rattle.dm_past.specs.ByRows.{RowsRest}
use Rattle.dm_past.specs.Past.{Past}
use Rattle.dm_past.specs.Running.{RunsTask}
use Rattle.dm_past.specs.Tasks.{DoingFor}
use Rattle.dm_past.proofs.Closed.{closed_runs}
use Rattle.dm_import.specs.Explaining.{RunsImport}
use Rattle.dm_import.proofs.Sooner.{later_sooner, later_world, sooner_world, unopened_sooner, unread_sooner}

-- nothing is to be done
abbrev no_doing : DoingFor
no_doing given doing = ⊥

module _ (tells told : Type 0) (says : Says) (name : List ℕ) (at : ℕ) (clock : Clock) (first counts : DiskKind → ℕ) (net_faults : NetFault → ℕ) (closed : List Closed) (earlier : NoneFell first counts) (after : World) (past past' : Past) (far far' : ℕ) (said : Said)
    (ran : RunsTask tells told says no_doing at (later_world clock first counts net_faults closed earlier after) after past past' far far' said) (rest : RowsRest told past past') where
  abbrev before : World
  before = sooner_world clock first counts net_faults closed earlier after

  abbrev Shut : Type 0
  Shut = RunsImport tells told says name at before after past past' far far' said

  shut_at : (run : Run) → Answers tells told no_doing at (later_world clock first counts net_faults closed earlier after) after past past' said run → (tells → Leaves clock after.disk far far' said.verdict run)
      → (tells → (kept more : History) → Kept true says (Through kept more) (now clock) → KeepsAll says clock after.disk kept more run) → Shut
  shut_at Untouched answers leaves keeps = absurd answers
  shut_at Unread answers leaves keeps = record {
    run = Unread;
    answers = unread_sooner clock first counts net_faults closed earlier after past past' said answers;
    later = later_sooner clock first counts net_faults closed earlier after tells ran.later;
    rest = rest;
    leaves = leaves;
    keeps = keeps;
  }
  shut_at (Unopened found recorded failed others) answers leaves keeps = record {
    run = Unopened found recorded failed others;
    answers = unopened_sooner clock first counts net_faults closed earlier after tells at past past' found recorded failed others said answers;
    later = later_sooner clock first counts net_faults closed earlier after tells ran.later;
    rest = rest;
    leaves = leaves;
    keeps = keeps;
  }
  shut_at (Opened log) answers leaves keeps = absurd answers.is

  pub shut : Shut
  shut = shut_at ran.run ran.answers ran.leaves ran.keeps

module _ {D : Type 0} (tells told : Type 0) (clock : D → Clock) (counts : D → DiskKind → ℕ) (far : D → ℕ) (says : Says) (name : List ℕ) (at : ℕ) (start end : D) (past past' : Past) (said : Said) (first : DiskKind → ℕ) (earlier : NoneFell first (counts start)) (net_faults : NetFault → ℕ) (closed : List Closed)
    (r : JobRefused tells clock counts far says at start end said) (same : past' ≡ past) where
  abbrev after : World
  after = world_of clock counts net_faults closed end

  ran : RunsTask tells told says no_doing at (world_of clock counts net_faults closed start) after past past' (far start) (far end) said
  ran = closed_runs tells told clock counts far says no_doing at start past said net_faults closed end past' r same

  rests : RowsRest told past past'
  rests = record { same = λ knows. ap (λ (p : Past). p.rows) same; later = ran.past_later }

  pub refused_runs : RunsImport tells told says name at (sooner_world (clock start) first (counts start) net_faults closed earlier after) after past past' (far start) (far end) said
  refused_runs = shut tells told says name at (clock start) first (counts start) net_faults closed earlier after past past' (far start) (far end) said ran rests
