-- The asking for the parts of a round, one behind another.
use Rattle.std.specs.Prelude.{◌≡◌, ◌<◌, ◌≤◌, ℕ, ◌+◌, List, length, Some, slice_get, slice_index_or}
use Rattle.std.specs.List.{AllByRecursion}
use Rattle.dm_types.specs.Faults.{NoneFell}
use Rattle.dm_edge.specs.declared.fault.NetFault.{NetFault}
use Rattle.dm_edge.specs.Wire.{Purpose, Told, Closed}
use Rattle.dm_store.specs.declared.pass.Pass.{Pass}
use Rattle.dm_answers.specs.Slices.{part_of}
use Rattle.dm_answers.specs.declared.answer.SlicePass.{SlicePass}
use Rattle.dm_attempt.specs.declared.source.Source.{Source}
use Rattle.dm_attempt.specs.declared.stop.Stop.{Stop}
use Rattle.dm_attempt.specs.Asking.{Asking}
use Rattle.dm_attempt.specs.Ends.{empty_share}
use Rattle.dm_attempt.specs.Shares.{Share, total}
use Rattle.dm_rounds.specs.declared.lane.Lane.{Lane}
use Rattle.dm_rounds.specs.Lanes.{NetCounts, is_at}
use Rattle.dm_rounds.specs.Parts.{AsksOf, StopsAsking}
use Rattle.dm_rounds.specs.Reading.{IsTurn}

-- the round asks for this part by its range, it has this number, and nothing was landed of it
pub record IsAskedAt (asking : Asking) (source : Source) (pass : Pass) (shares : List Share) (number : ℕ) (slice : SlicePass) : Type 0 where
  pub asks : AsksOf asking source pass (part_of slice)
  pub number_is : slice.index ≡ number
  pub empty : slice_get shares number ≡ Some (empty_share (part_of slice))

-- these parts are numbered from a number on, and are asked for so
abbrev pub AreAsked : Asking → Source → Pass → List Share → ℕ → List SlicePass → Type 0
AreAsked asking source pass shares from plan = (k : ℕ) (d : SlicePass) → k < length plan → IsAskedAt asking source pass shares (from + k) (slice_index_or plan k d)

-- each part below a number has one lane, which may be read on, and the others have none
pub record HasLanes {W O : Type 0} (wires : Type 0) (made_for : W → Purpose) (told : W → Told) (origin : W → O) (there : O) (asking : Asking) (shares : List Share) (number : ℕ) (lanes : List (Lane W)) : Type 0 where
  pub turns : AllByRecursion (IsTurn wires made_for told origin there asking shares) lanes
  pub below : (n : ℕ) → n < number → total (is_at n) lanes ≡ 1
  pub above : (n : ℕ) → number ≤ n → total (is_at n) lanes ≡ 0

-- so far nothing was closed
pub record IsOpening {W O : Type 0} (net wires : Type 0) (made_for : W → Purpose) (told : W → Told) (origin : W → O) (there : O) (asking : Asking) (start closed : List Closed) (shares : List Share) (number : ℕ) (lanes : List (Lane W)) : Type 0 where
  pub lanes_are : HasLanes wires made_for told origin there asking shares number lanes
  pub still : net → closed ≡ start

-- For one part no lane came, and none was asked for behind it.
pub record StopsOpening {W O : Type 0} (net wires : Type 0) (made_for : W → Purpose) (told : W → Told) (origin : W → O) (there : O) (asking : Asking) (source : Source) (pass : Pass) (start closed : List Closed) (before after : NetFault → ℕ) (shares : List Share) (lanes : List (Lane W)) (stop : Stop) : Type 0 where
  pub number : ℕ
  pub slice : SlicePass
  pub is : IsAskedAt asking source pass shares number slice
  pub lanes_are : HasLanes wires made_for told origin there asking shares number lanes
  pub since : NetFault → ℕ
  pub later : NoneFell before since
  pub counted : NetCounts since after stop
  pub lost : net → StopsAsking source pass (part_of slice) since after start closed stop
