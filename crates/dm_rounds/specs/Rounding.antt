-- The opening of a round of an attempt that runs.
use Rattle.std.specs.Prelude.{◌≡◌, ◌≢◌, ◌⊎◌, ℕ, ◌+◌, true, false, List, length, map, Some, Result, Ok, Err}
use Rattle.dm_types.specs.declared.item.Key.TheVariants.{Strong}
use Rattle.dm_types.specs.declared.kinds.DiskKind.{DiskKind}
use Rattle.dm_disk_model.specs.Disk.{History as Clock}
use Rattle.dm_policy.specs.declared.cause.Cause.TheVariants as causes
use Rattle.dm_edge.specs.declared.fault.NetFault.{NetFault}
use Rattle.dm_edge.specs.Wire.{Purpose, Told, Closed}
use Rattle.dm_ask.specs.Redirects.{purpose_of}
use Rattle.dm_kept.specs.Files.{Says}
use Rattle.dm_store.specs.declared.pass.Pass.{Pass}
use Rattle.dm_store.specs.View.{View}
use Rattle.dm_answers.specs.Plan.{last_round}
use Rattle.dm_attempt.specs.declared.source.Source.{Source}
use Rattle.dm_attempt.specs.declared.stop.Going.{Going}
use Rattle.dm_attempt.specs.declared.stop.Stop.{Stop}
use Rattle.dm_attempt.specs.Asking.{Asking}
use Rattle.dm_attempt.specs.Ending.{IfBroke, StopHolds}
use Rattle.dm_attempt.specs.Ends.{empty_share, next_parts, next_round}
use Rattle.dm_attempt.specs.Scene.{Scene, cover_by}
use Rattle.dm_attempt.specs.Shares.{Share}
use Rattle.dm_attempt.specs.Trace.{Trace, opened}
use Rattle.dm_rounds.specs.declared.lane.Lane.{Lane}
use Rattle.dm_rounds.specs.Opened.{LosesRound}
use Rattle.dm_rounds.specs.Reading.{IsReading, closed_before}

-- all parts of the round are asked for by their ranges, of this source and in this attempt
pub record AsksAll (asking : Asking) (source : Source) (pass : Pass) : Type 0 where
  pub source_is : asking.source ≡ Some source
  pub key_is : asking.key ≡ Strong source.tag
  pub purpose_is : asking.purpose ≡ purpose_of pass.id pass.attempt source.address
  pub own : asking.served ≡ false
  pub known_is : asking.known ≡ true

-- of the parts of the next round nothing was landed
abbrev pub next_shares : {D O : Type 0} → Scene D O → Trace → List Share
next_shares scene trace = map empty_share (next_parts scene trace)

-- the next round is read
pub record RoundOpens {D O W : Type 0} (tells : Type 0) (clock : D → Clock) (says : O → Says) (far : D → ℕ) (counts : D → DiskKind → ℕ) (net wires : Type 0) (made_for : W → Purpose) (told : W → Told) (origin : W → O) (scene : Scene D O) (pass : Pass) (present : View D O) (closed : List Closed) (trace : Trace) (asking : Asking) (lanes : List (Lane W)) : Type 0 where
  pub more : length trace.rounds ≢ last_round
  pub reading : (going : Going) → going.pass ≡ pass → going.round ≡ length trace.rounds + 1
      → IsReading tells clock says far counts net wires made_for told origin scene going present closed trace asking (cover_by scene trace) (next_shares scene trace) lanes

-- no round was planned, and no connection was made: where that is a cause, the rounds are used up
pub record NoneOpens {D O : Type 0} (tells : Type 0) (clock : D → Clock) (says : O → Says) (far : D → ℕ) (counts : D → DiskKind → ℕ) (net : Type 0) (scene : Scene D O) (pass : Pass) (present : View D O) (closed : List Closed) (trace : Trace) (stop : Stop) : Type 0 where
  pub holds : StopHolds false tells clock says far counts scene pass present trace stop
  pub still : net → closed ≡ closed_before scene trace
  pub why : IfBroke stop (λ cause. (cause ≡ causes.RangeRefused 206) × (length trace.rounds ≡ last_round))

-- a round was planned, and for one of its parts no lane came
pub record LostOpens {D O : Type 0} (tells : Type 0) (clock : D → Clock) (says : O → Says) (far : D → ℕ) (counts : D → DiskKind → ℕ) (net : Type 0) (scene : Scene D O) (pass : Pass) (present : View D O) (closed : List Closed) (before after : NetFault → ℕ) (trace : Trace) (asking : Asking) (source : Source) (stop : Stop) : Type 0 where
  pub holds : StopHolds false tells clock says far counts scene pass present (opened trace (next_round scene trace asking)) stop
  pub round : LosesRound net asking source pass (closed_before scene trace) closed before after (next_shares scene trace) stop

abbrev pub OpenLeaves : {D O W : Type 0} → Type 0 → (D → Clock) → (O → Says) → (D → ℕ) → (D → DiskKind → ℕ) → Type 0 → Type 0 → (W → Purpose) → (W → Told) → (W → O) → Scene D O → Pass → View D O → List Closed → (NetFault → ℕ) → (NetFault → ℕ) → Trace → Asking → Source → List (Lane W)
    → Result (Unit {0}) Stop → Type 0
OpenLeaves tells clock says far counts net wires made_for told origin scene pass present closed before after trace asking source lanes (Ok done) =
    RoundOpens tells clock says far counts net wires made_for told origin scene pass present closed trace asking lanes
OpenLeaves tells clock says far counts net wires made_for told origin scene pass present closed before after trace asking source lanes (Err stop) =
    NoneOpens tells clock says far counts net scene pass present closed trace stop ⊎ LostOpens tells clock says far counts net scene pass present closed before after trace asking source stop
