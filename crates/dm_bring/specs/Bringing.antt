-- What the step between a command's own part and what it says does: an item is brought, or nothing is done.
use Rattle.std.specs.Prelude.{◌≡◌, ◌⊎◌, ◌≤◌, ℕ, Bool, false, List, ◌++◌}
use Rattle.dm_types.specs.Faults.{NoneFell}
use Rattle.dm_types.specs.Name.{IsPart}
use Rattle.dm_types.specs.declared.item.ItemId.{ItemId}
use Rattle.dm_types.specs.declared.kinds.By.TheVariants.{User}
use Rattle.dm_types.specs.declared.kinds.DiskKind.{DiskKind}
use Rattle.dm_disk_model.specs.Beside.{Besides}
use Rattle.dm_disk_model.specs.Disk.{History as Clock}
use Rattle.dm_edge.specs.Wire.{Closed}
use Rattle.dm_edge.specs.declared.fault.NetFault.{NetFault}
use Rattle.dm_item.specs.Lawful.{History, IsOf}
use Rattle.dm_kept.specs.Files.{Says}
use Rattle.dm_store.specs.Keeps.{Keeps, StaysNear}
use Rattle.dm_store.specs.View.{View}
use Rattle.dm_answers.specs.Frame.{Went}
use Rattle.dm_attempt.specs.declared.ended.Ended.{Ended}
use Rattle.dm_does.specs.declared.course.Course.{Course}
use Rattle.dm_does.specs.declared.course.Course.TheVariants.{Ends, Brings}
use Rattle.dm_does.specs.Laws.{Waits}
use Rattle.dm_does.specs.Leaving.{IsFinished}
use Rattle.dm_does.specs.Saying.{said_by}
use Rattle.dm_fetch.specs.Completes.{IsSmooth}
use Rattle.dm_brings.specs.Bringing.{Brought, course_behind}
use Rattle.dm_brings.specs.Completed.{EndsWell}

-- a part's name, or that of an item of which these entries say that it has its whole content, behind this history; where they gave it the name themselves, that was free at the start
abbrev pub MayName : Clock → History → History → Bool → List ℕ → Type 0
MayName start history tried broken name = IsPart name ⊎ IsFinished IsPart start history tried broken name

-- What the calls on the desk kept while the item was brought. Where it waited at the start, no name is touched but parts and the name of a file that was finished.
pub record BringGoes {D O : Type 0} (tells : Type 0) (clock : D → Clock) (counts : D → DiskKind → ℕ) (far : D → ℕ) (says : O → Says) (old new : View D O) (id : ItemId) (fetched : History) : Type 0 where
  pub went : Went old new fetched new.failed new.broken
  pub keeps : Keeps tells clock says old new
  pub near : StaysNear (far old.disk) (far new.disk) old new
  pub later : NoneFell (counts old.disk) (counts new.disk)
  pub beside : Waits id old.items.items → tells → (history : History) → IsOf history old.items → Besides (MayName (clock old.disk) history (fetched ++ new.failed) new.broken) (clock old.disk) (clock new.disk)

-- The item was brought, and so the course goes on: where memory was wanting, also for an attempt that the item would have made by itself, it ends by that. Where the item waited and nothing stood in
-- the way, it is complete, or memory was wanting, and that is said of it.
pub record WasBrought {D O : Type 0} (tells : Type 0) (clock : D → Clock) (counts : D → DiskKind → ℕ) (far : D → ℕ) (says : O → Says) (net : Type 0) (old new : View D O) (was now : List Closed) (before after : NetFault → ℕ) (id : ItemId) (slices at : ℕ) (course : Course) : Type 0 where
  pub end : Ended
  pub course_is : course ≡ course_behind end (Brings id slices)
  pub brought : Brought tells clock says far counts net old new was now before after id slices at end
  pub goes : BringGoes tells clock counts far says old new id brought.fetched
  pub ends : Waits id old.items.items → IsSmooth tells clock says counts net old new was now before after id User at → EndsWell old new id (said_by new.items.items (Brings id slices))

-- nothing was done
pub record NoneBrought {D O : Type 0} (old new : View D O) (was now : List Closed) (before after : NetFault → ℕ) : Type 0 where
  pub same : new ≡ old
  pub closed : now ≡ was
  pub faults : after ≡ before

-- by the course that it is given
abbrev pub BringsOn : {D O : Type 0} → Type 0 → (D → Clock) → (D → DiskKind → ℕ) → (D → ℕ) → (O → Says) → Type 0 → View D O → View D O → List Closed → List Closed → (NetFault → ℕ) → (NetFault → ℕ) → ℕ → Course → Course → Type 0
BringsOn tells clock counts far says net old new was now before after at (Ends verdict show) course = NoneBrought old new was now before after × (course ≡ Ends verdict show)
BringsOn tells clock counts far says net old new was now before after at (Brings id slices) course = WasBrought tells clock counts far says net old new was now before after id slices at course

-- what is asked: the desk isn't broken where an item is to be brought, and the slices are 1 to 16
abbrev pub MayBring : {D O : Type 0} → View D O → Course → Type 0
MayBring desk (Ends verdict show) = Unit {0}
MayBring desk (Brings id slices) = (desk.broken ≡ false) × (1 ≤ slices) × (slices ≤ 16)
