-- One round of an attempt behind another.
use Rattle.std.specs.Prelude.{◌≡◌, ◌≢◌, ◌⊎◌, ℕ, ◌+◌, Bool, true, false, List, [], length, Result, Ok, Err}
use Rattle.dm_types.specs.declared.kinds.DiskKind.{DiskKind}
use Rattle.dm_disk_model.specs.Disk.{History as Clock}
use Rattle.dm_edge.specs.declared.fault.NetFault.{NetFault}
use Rattle.dm_edge.specs.Wire.{Purpose, Told, Closed}
use Rattle.dm_slice.specs.Words.{IsFirstMissing}
use Rattle.dm_kept.specs.Files.{Says}
use Rattle.dm_store.specs.View.{View}
use Rattle.dm_answers.specs.Plan.{last_round}
use Rattle.dm_attempt.specs.declared.source.Source.{Source}
use Rattle.dm_attempt.specs.declared.stop.Going.{Going}
use Rattle.dm_attempt.specs.declared.stop.Stop.{Stop}
use Rattle.dm_attempt.specs.Asking.{Asking}
use Rattle.dm_attempt.specs.Live.{LiveDesk}
use Rattle.dm_attempt.specs.Scene.{Scene, cover_by}
use Rattle.dm_attempt.specs.Shares.{Share}
use Rattle.dm_attempt.specs.Shows.{total_by}
use Rattle.dm_attempt.specs.Trace.{Trace}
use Rattle.dm_rounds.specs.declared.lane.Lane.{Lane}
use Rattle.dm_rounds.specs.Reading.{IsReading, closed_before}
use Rattle.dm_rounds.specs.Rounding.{AsksAll}
use Rattle.dm_rounds.specs.Trail.{AreRead, GoesFrom, IsServedIn, RunEnds, RunStops, asking_behind}

-- how the rounds ask behind the oldest one
abbrev pub later_asking : Asking → Asking
later_asking first = record first { served = false }

-- A round is read behind others, which were all read whole, and asks as it is to behind them. No connection of the attempt belongs to no round. Where there are others,
-- the first reply's connection is one of theirs, if it serves a part.
pub record IsRunning {D O W : Type 0} (tells : Type 0) (clock : D → Clock) (says : O → Says) (far : D → ℕ) (counts : D → DiskKind → ℕ) (net wires : Type 0) (made_for : W → Purpose) (told : W → Told) (origin : W → O) (scene : Scene D O) (going : Going) (desk : View D O) (closed : List Closed) (there : O)
    (older : Trace) (first : Asking) (shares : List Share) (lanes : List (Lane W)) (at : ℕ) : Type 0 where
  pub reading : IsReading tells clock says far counts net wires made_for told origin scene going desk closed older (asking_behind first older.rounds) (cover_by scene older) shares lanes
  pub rounds : AreRead net first older.rounds
  pub served : (older.rounds ≡ []) ⊎ IsServedIn net first older.rounds
  pub none_lost : older.lost ≡ []
  pub there_is : there ≡ scene.start.origin
  pub at_is : at ≡ scene.at

-- so it is in some scene
pub record MayRun {D O W : Type 0} (tells : Type 0) (clock : D → Clock) (says : O → Says) (far : D → ℕ) (counts : D → DiskKind → ℕ) (net wires : Type 0) (made_for : W → Purpose) (told : W → Told) (origin : W → O) (going : Going) (desk : View D O) (closed : List Closed) (there : O) (lanes : List (Lane W)) (at : ℕ) : Type 0 where
  pub scene : Scene D O
  pub older : Trace
  pub first : Asking
  pub shares : List Share
  pub is : IsRunning tells clock says far counts net wires made_for told origin scene going desk closed there older first shares lanes at

-- All rounds were read whole, and this is the first place below the total that hasn't come.
pub record IsShort {D O : Type 0} (tells : Type 0) (clock : D → Clock) (says : O → Says) (far : D → ℕ) (counts : D → DiskKind → ℕ) (net : Type 0) (scene : Scene D O) (going : Going) (desk : View D O) (closed : List Closed) (older : Trace) (first : Asking) : Type 0 where
  pub trace : Trace
  pub from : GoesFrom older trace
  pub turn_is : length trace.rounds ≡ going.round
  pub asking_is : asking_behind first trace.rounds ≡ later_asking first
  pub rounds : AreRead net first trace.rounds
  pub served : IsServedIn net first trace.rounds
  pub closed_is : net → closed ≡ closed_before scene trace
  pub live : LiveDesk tells clock says far counts scene going.pass desk trace
  pub place : ℕ
  pub missing : IsFirstMissing (total_by scene trace) (cover_by scene trace) place

-- a round was read: all came, or a place is left, or it stopped
abbrev pub ReadsOne : {D O : Type 0} → Type 0 → (D → Clock) → (O → Says) → (D → ℕ) → (D → DiskKind → ℕ) → Type 0 → Scene D O → Going → View D O → List Closed → (NetFault → ℕ) → (NetFault → ℕ) → Trace → Asking → Result Bool Stop → Type 0
ReadsOne tells clock says far counts net scene going desk closed before after older first (Ok true) = RunEnds tells clock says far counts net scene going.pass desk closed older first
ReadsOne tells clock says far counts net scene going desk closed before after older first (Ok false) = IsShort tells clock says far counts net scene going desk closed older first
ReadsOne tells clock says far counts net scene going desk closed before after older first (Err stop) =
    RunStops tells clock says far counts net scene going.pass desk closed before after older first stop

-- the attempt, later, reads a round again
pub record RunsOn {D O W : Type 0} (tells : Type 0) (clock : D → Clock) (says : O → Says) (far : D → ℕ) (counts : D → DiskKind → ℕ) (net wires : Type 0) (made_for : W → Purpose) (told : W → Told) (origin : W → O) (scene : Scene D O) (going : Going) (desk : View D O) (closed : List Closed) (there : O)
    (older : Trace) (first : Asking) (lanes : List (Lane W)) (at : ℕ) : Type 0 where
  pub trace : Trace
  pub from : GoesFrom older trace
  pub shares : List Share
  pub is : IsRunning tells clock says far counts net wires made_for told origin scene going desk closed there trace first shares lanes at

-- one round was read, and the next one opened where a place is left
abbrev pub RunsOnce : {D O W : Type 0} → Type 0 → (D → Clock) → (O → Says) → (D → ℕ) → (D → DiskKind → ℕ) → Type 0 → Type 0 → (W → Purpose) → (W → Told) → (W → O) → Scene D O → Going → View D O → List Closed → O → (NetFault → ℕ) → (NetFault → ℕ) → Trace → Asking → List (Lane W) → ℕ
    → Result Bool Stop → Type 0
RunsOnce tells clock says far counts net wires made_for told origin scene going desk closed there before after older first lanes at (Ok true) =
    RunEnds tells clock says far counts net scene going.pass desk closed older first
RunsOnce tells clock says far counts net wires made_for told origin scene going desk closed there before after older first lanes at (Ok false) =
    (on : RunsOn tells clock says far counts net wires made_for told origin scene (record going { round = going.round + 1 }) desk closed there older first lanes at) × (length on.trace.rounds ≢ last_round)
RunsOnce tells clock says far counts net wires made_for told origin scene going desk closed there before after older first lanes at (Err stop) =
    RunStops tells clock says far counts net scene going.pass desk closed before after older first stop

-- it is, and the further rounds ask for all parts by their ranges, of this source, so many at once
pub record MayGoOn {D O W : Type 0} (tells : Type 0) (clock : D → Clock) (says : O → Says) (far : D → ℕ) (counts : D → DiskKind → ℕ) (net wires : Type 0) (made_for : W → Purpose) (told : W → Told) (origin : W → O) (going : Going) (desk : View D O) (closed : List Closed) (there : O) (lanes : List (Lane W)) (source : Source) (n at : ℕ) : Type 0 where
  pub run : MayRun tells clock says far counts net wires made_for told origin going desk closed there lanes at
  pub count_is : run.older.count ≡ n
  pub asks : AsksAll (later_asking run.first) source going.pass
