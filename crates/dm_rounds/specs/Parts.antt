-- The asking for a part of a content by its range.
use Rattle.std.specs.Prelude.{◌≡◌, ◌≢◌, ◌⊎◌, ℕ, List, [], Some, None, true, false}
use Rattle.dm_types.specs.declared.item.Key.TheVariants.{Strong}
use Rattle.dm_policy.specs.declared.cause.Cause.TheVariants as causes
use Rattle.dm_edge.specs.declared.fault.NetFault.{NetFault}
use Rattle.dm_edge.specs.Fair.{ask_of}
use Rattle.dm_edge.specs.Wire.{Purpose, Told, Closed}
use Rattle.dm_request.specs.Request.{request_of}
use Rattle.dm_slice.specs.declared.plan.Part.{Part}
use Rattle.dm_ask.specs.Following.{IsStopped}
use Rattle.dm_ask.specs.Redirects.{purpose_of}
use Rattle.dm_store.specs.declared.pass.Pass.{Pass}
use Rattle.dm_attempt.specs.declared.source.Source.{Source}
use Rattle.dm_attempt.specs.declared.stop.Stop.{Stop}
use Rattle.dm_attempt.specs.declared.stop.Stop.TheVariants as stops
use Rattle.dm_attempt.specs.Asking.{Asking, range_of}
use Rattle.dm_rounds.specs.declared.lane.Lane.{Lane}
use Rattle.dm_rounds.specs.Lanes.{HasGiven}

-- the lane is of this part, asked for it, and has brought nothing
pub record IsNewLane {W : Type 0} (source : Source) (part : Part) (lane : Lane W) : Type 0 where
  pub part_is : lane.part ≡ part
  pub at_is : lane.at ≡ part.first
  pub bounded_is : lane.bounded ≡ true
  pub wanted_is : lane.reader.wanted ≡ range_of source part
  pub given : lane.reader.reading.given ≡ 0
  pub unbroken : lane.reader.reading.broke ≡ None

-- its connection was made for the source's address, was sent the whole range request, and its head was read: the content stands under the source's tag
pub record IsHeardLane {W : Type 0} (made_for : W → Purpose) (told : W → Told) (source : Source) (pass : Pass) (part : Part) (lane : Lane W) : Type 0 where
  pub purpose_is : made_for lane.wire ≡ purpose_of pass.id pass.attempt source.address
  pub sent_is : (told lane.wire).sent ≡ request_of source.address (ask_of (range_of source part))
  pub given : HasGiven (Strong source.tag) (made_for lane.wire) lane.reader.wanted (told lane.wire).given lane.reader []

-- no lane came: by a cause of the asking, or memory was wanting, perhaps before any connection was made
abbrev pub StopsAsking : Source → Pass → Part → (NetFault → ℕ) → (NetFault → ℕ) → List Closed → List Closed → Stop → Type 0
StopsAsking source pass part net_before net_after before after (stops.Broke cause) =
    IsStopped (range_of source part) (purpose_of pass.id pass.attempt) source.address net_before net_after before after cause
StopsAsking source pass part net_before net_after before after stops.NoMemory =
    (after ≡ before) ⊎ IsStopped (range_of source part) (purpose_of pass.id pass.attempt) source.address net_before net_after before after causes.Memory
StopsAsking source pass part net_before net_after before after (stops.Fault fault) = ⊥
StopsAsking source pass part net_before net_after before after (stops.Recorded reason) = ⊥

-- the round asks for parts of this source in this attempt, and not by its first reply for this part
pub record AsksOf (asking : Asking) (source : Source) (pass : Pass) (part : Part) : Type 0 where
  pub source_is : asking.source ≡ Some source
  pub key_is : asking.key ≡ Strong source.tag
  pub purpose_is : asking.purpose ≡ purpose_of pass.id pass.attempt source.address
  pub own : (asking.served ≡ false) ⊎ (part.index ≢ 0)
  pub known_is : asking.known ≡ true

-- no desk brought it about
abbrev pub IsOfNet : Stop → Type 0
IsOfNet (stops.Broke cause) = Unit {0}
IsOfNet stops.NoMemory = Unit {0}
IsOfNet (stops.Fault fault) = ⊥
IsOfNet (stops.Recorded reason) = ⊥
