-- What `fetch` does, as what a run's clause says of its driver.
use Rattle.std.specs.Prelude.{◌≡◌, ℕ, List, ◌++◌, Option, Some, None, is_some}
use Rattle.dm_types.specs.Limits.{most_items, most_min_slice, most_piece, most_unsaved}
use Rattle.dm_types.specs.declared.item.ItemId.{ItemId}
use Rattle.dm_types.specs.declared.item.Limits.{Limits}
use Rattle.dm_types.specs.declared.kinds.DiskKind.{DiskKind}
use Rattle.dm_edge.specs.Wire.{Closed}
use Rattle.dm_edge.specs.declared.fault.NetFault.{NetFault}
use Rattle.dm_disk_model.specs.Disk.{History as Clock}
use Rattle.dm_item.specs.Lawful.{History, IsOf}
use Rattle.dm_kept.specs.Files.{Says}
use Rattle.dm_store.specs.View.{View}
use Rattle.dm_answers.specs.declared.fault.DeskFault.TheVariants as desks
use Rattle.dm_attempt.specs.Ending.{journal_kind_of}
use Rattle.dm_attempt.specs.declared.ended.Ended.{Ended}
use Rattle.dm_attempt.specs.declared.ended.Ended.TheVariants as ended
use Rattle.dm_fetch.specs.Fetches.{Fetched}
use Rattle.dm_report.specs.declared.verdict.Verdict.TheVariants as verdicts
use Rattle.dm_does.specs.declared.course.Course.{Course}
use Rattle.dm_does.specs.declared.course.Course.TheVariants.{Brings, Ends}
use Rattle.dm_does.specs.declared.course.Show.TheVariants.{Nothing}
use Rattle.dm_does.specs.Answering.{Bringing, IsBrought, Rests}
use Rattle.dm_does.specs.Laws.{Waits}
use Rattle.dm_does.specs.World.{World}

-- a desk's disk, and the net that it asks over
abbrev pub world_of : {D O : Type 0} → (D → Clock) → (D → DiskKind → ℕ) → View D O → List Closed → (NetFault → ℕ) → World
world_of clock counts desk closed faults = record { disk = clock desk.disk; disk_faults = counts desk.disk; net_faults = faults; closed = closed }

-- how much a desk takes on with which the program brings an item: the greatest number of each limit
abbrev pub program_limits : Limits
program_limits = record { items = most_items; checkpoint = most_unsaved; piece = most_piece; min_slice = most_min_slice; journal = 16777216 }

-- Some desk with the program's limits held this history, and `fetch` brought the item there between these worlds: these entries were recorded, this one failed, and so ended what the journal's failure ended.
pub record FetchedBy {D O : Type 0} (tells : Type 0) (clock : D → Clock) (says : O → Says) (far : D → ℕ) (counts : D → DiskKind → ℕ) (net : Type 0) (at : ℕ) (from to : World) (id : ItemId) (slices : ℕ) (history fetched failed : History) (broke : Option DiskKind) : Type 0 where
  pub old : View D O
  pub new : View D O
  pub end : Ended
  pub held : IsOf history old.items
  pub limits_are : old.limits ≡ program_limits
  pub from_is : from ≡ world_of clock counts old from.closed from.net_faults
  pub to_is : to ≡ world_of clock counts new to.closed to.net_faults
  pub did : Fetched tells clock says far counts net old new from.closed to.closed from.net_faults to.net_faults id slices at end
  pub list : new.list ≡ old.list ++ fetched
  pub failed_is : new.failed ≡ failed
  pub broke_is : broke ≡ journal_kind_of end

-- the driver's words
abbrev pub brings_of : {D O : Type 0} → Type 0 → (D → Clock) → (O → Says) → (D → ℕ) → (D → DiskKind → ℕ) → Type 0 → ℕ → Bringing
brings_of tells clock says far counts net at from to id slices history fetched failed broke = FetchedBy tells clock says far counts net at from to id slices history fetched failed broke

-- the course behind what was brought: where the journal or a publication failed, or memory was wanting, that is told
abbrev pub course_behind : Ended → Course → Course
course_behind (ended.Fault (desks.Journal kind)) course = Ends (verdicts.DiskFailed kind) Nothing
course_behind (ended.Fault desks.NoMemory) course = Ends verdicts.NoMemory Nothing
course_behind end course = course

-- What `fetch` did at a desk that wasn't broken is what a run's clause says of its driver, behind each history that the desk held, where it works with the program's limits. The desk is broken behind it just where the journal or a
-- publication failed. An item that waited rests then, unless one of the two is told: that, or that memory was wanting.
pub record Brought {D O : Type 0} (tells : Type 0) (clock : D → Clock) (says : O → Says) (far : D → ℕ) (counts : D → DiskKind → ℕ) (net : Type 0) (old new : View D O) (was now : List Closed) (before after : NetFault → ℕ) (id : ItemId) (slices at : ℕ) (end : Ended) : Type 0 where
  pub fetched : History
  pub list : new.list ≡ old.list ++ fetched
  pub broken : new.broken ≡ is_some (journal_kind_of end)
  pub brought : (history : History) → IsOf history old.items → old.limits ≡ program_limits
      → IsBrought (brings_of tells clock says far counts net at) tells at (world_of clock counts old was before) (world_of clock counts new now after) id slices history fetched new.failed (journal_kind_of end)
  pub rests : Waits id old.items.items → Rests new.items.items (course_behind end (Brings id slices))
