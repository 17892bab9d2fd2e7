-- How an attempt begins at a desk.
use Rattle.std.specs.Prelude.{◌≡◌, ◌≤◌, ℕ, List, [], length, None, Some, Result, Ok, Err, false}
use Rattle.dm_types.specs.declared.item.Item.{Item}
use Rattle.dm_types.specs.declared.item.ItemId.{ItemId}
use Rattle.dm_types.specs.declared.item.Key.TheVariants.{Strong}
use Rattle.dm_types.specs.declared.kinds.By.{By}
use Rattle.dm_types.specs.declared.kinds.DiskKind.{DiskKind}
use Rattle.dm_types.specs.declared.reason.Reason.TheVariants as reasons
use Rattle.dm_disk_model.specs.Disk.{History as Clock}
use Rattle.dm_edge.specs.Wire.{Closed}
use Rattle.dm_edge.specs.declared.fault.NetFault.{NetFault}
use Rattle.dm_kept.specs.Files.{Says}
use Rattle.dm_policy.specs.declared.cause.Cause.TheVariants as causes
use Rattle.dm_store.specs.declared.pass.Pass.{Pass}
use Rattle.dm_store.specs.View.{View}
use Rattle.dm_answers.specs.Begin.{BeginAnswers, FallsShort, key_behind, pass_of}
use Rattle.dm_answers.specs.Running.{ItemWith}
use Rattle.dm_answers.specs.declared.fault.DeskFault.{DeskFault}
use Rattle.dm_answers.specs.declared.fault.DeskFault.TheVariants as faults
use Rattle.dm_attempt.specs.declared.ended.Ended.{Ended}
use Rattle.dm_attempt.specs.declared.ended.Ended.TheVariants as ended
use Rattle.dm_attempt.specs.Live.{DeskOver, LiveDesk}
use Rattle.dm_attempt.specs.Scene.{Scene, begun_by}
use Rattle.dm_attempt.specs.Stops.{FaultLeaves}
use Rattle.dm_attempt.specs.Trace.{Broken, untold}
use Rattle.dm_fetch.specs.declared.starting.Started.{Started}
use Rattle.dm_fetch.specs.declared.starting.Started.TheVariants as started

-- what an attempt on this item begins with
abbrev pub scene_of : {D O : Type 0} → View D O → Item → By → ℕ → List Closed → (NetFault → ℕ) → Scene D O
scene_of desk item by at closed counts = record { start = desk; item = item; by = by; at = at; closed = closed; counts = counts }

-- The attempt on this item runs, and nothing was told yet, whatever the net had closed and counted.
abbrev pub BeginsLive : {D O : Type 0} → Type 0 → (D → Clock) → (O → Says) → (D → ℕ) → (D → DiskKind → ℕ) → View D O → View D O → By → ℕ → Pass → Item → Type 0
BeginsLive tells clock says far counts old new by at pass item =
    (closed : List Closed) (before : NetFault → ℕ) (n : ℕ) → LiveDesk tells clock says far counts (scene_of old item by at closed before) pass new (untold [] [] n)

-- what ranges are asked for by: a strong tag, a known total, and the last address; and as many slices at most as are saved
pub record IsKept (item : Item) : Type 0 where
  pub few : length item.slices ≤ 64
  pub tag : List ℕ
  pub key_is : item.key ≡ Some (Strong tag)
  pub total : ℕ
  pub total_is : item.total ≡ Some total
  pub address : List ℕ
  pub address_is : item.last_address ≡ Some address

-- the content is asked for from the start
pub record StartsFresh {D O : Type 0} (tells : Type 0) (clock : D → Clock) (says : O → Says) (far : D → ℕ) (counts : D → DiskKind → ℕ) (old new : View D O) (by : By) (at : ℕ) (pass : Pass) (item : Item) : Type 0 where
  pub pass_is : pass ≡ pass_of item
  pub none : key_behind item ≡ None
  pub live : BeginsLive tells clock says far counts old new by at pass item

-- what is missing of the content is asked for
pub record StartsKept {D O : Type 0} (tells : Type 0) (clock : D → Clock) (says : O → Says) (far : D → ℕ) (counts : D → DiskKind → ℕ) (old new : View D O) (by : By) (at : ℕ) (pass : Pass) (item : Item) : Type 0 where
  pub pass_is : pass ≡ pass_of item
  pub kept : IsKept (begun_by (scene_of old item by at [] (λ kind. 0)))
  pub live : BeginsLive tells clock says far counts old new by at pass item

-- an attempt isn't begun for one of these causes, and nothing changed
abbrev pub BeginRefuses : {D O : Type 0} → Type 0 → (D → Clock) → (D → DiskKind → ℕ) → View D O → View D O → ItemId → By → ℕ → DeskFault → Type 0
BeginRefuses tells clock counts old new id by at faults.Broken = BeginAnswers tells clock counts old new id by at (Err faults.Broken)
BeginRefuses tells clock counts old new id by at (faults.NoItem other) = BeginAnswers tells clock counts old new id by at (Err (faults.NoItem other))
BeginRefuses tells clock counts old new id by at (faults.WrongState phase) = BeginAnswers tells clock counts old new id by at (Err (faults.WrongState phase))
BeginRefuses tells clock counts old new id by at faults.NoMemory = BeginAnswers tells clock counts old new id by at (Err faults.NoMemory)
BeginRefuses tells clock counts old new id by at _ = ⊥

-- the part is shorter than what was saved, and the attempt is over by that
pub record StartsShort {D O : Type 0} (tells : Type 0) (clock : D → Clock) (says : O → Says) (far : D → ℕ) (counts : D → DiskKind → ℕ) (old new : View D O) (by : By) (at have wanted : ℕ) (item : Item) : Type 0 where
  pub short : FallsShort tells clock old.disk have wanted item
  pub over : (closed : List Closed) (before : NetFault → ℕ) → DeskOver tells clock says far counts (scene_of old item by at closed before) new (untold [] [] 0) (Broken (causes.PartShort have wanted))

-- a call on the disk failed, and the attempt is over by that
pub record StartsFailing {D O : Type 0} (tells : Type 0) (clock : D → Clock) (says : O → Says) (far : D → ℕ) (counts : D → DiskKind → ℕ) (old new : View D O) (by : By) (at : ℕ) (fault : DeskFault) (item : Item) : Type 0 where
  pub ends : (closed : List Closed) (before : NetFault → ℕ) → FaultLeaves false tells clock says far counts (scene_of old item by at closed before) new (untold [] [] 0) fault

-- Why no attempt runs.
pub data StartEnds {D O : Type 0} (tells : Type 0) (clock : D → Clock) (says : O → Says) (far : D → ℕ) (counts : D → DiskKind → ℕ) (old new : View D O) (id : ItemId) (by : By) (at : ℕ) (end : Ended) : Type 0 where
  not_begun : (fault : DeskFault) → end ≡ ended.Fault fault → BeginRefuses tells clock counts old new id by at fault → StartEnds tells clock says far counts old new id by at end
  short : (have wanted : ℕ) → end ≡ ended.Stopped reasons.FileTooShort → ItemWith old id (StartsShort tells clock says far counts old new by at have wanted) → StartEnds tells clock says far counts old new id by at end
  failed : (fault : DeskFault) → end ≡ ended.Fault fault → ItemWith old id (StartsFailing tells clock says far counts old new by at fault) → StartEnds tells clock says far counts old new id by at end

abbrev pub StartLeaves : {D O : Type 0} → Type 0 → (D → Clock) → (O → Says) → (D → ℕ) → (D → DiskKind → ℕ) → View D O → View D O → ItemId → By → ℕ → Result Started Ended → Type 0
StartLeaves tells clock says far counts old new id by at (Ok (started.Fresh pass)) = ItemWith old id (StartsFresh tells clock says far counts old new by at pass)
StartLeaves tells clock says far counts old new id by at (Ok (started.Continue pass)) = ItemWith old id (StartsKept tells clock says far counts old new by at pass)
StartLeaves tells clock says far counts old new id by at (Err end) = StartEnds tells clock says far counts old new id by at end
