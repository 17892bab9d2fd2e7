-- A round whose parts were asked for, and one that was given up meanwhile.
use Rattle.std.specs.Prelude.{◌≡◌, ◌⊎◌, ◌<◌, ◌≤◌, ℕ, List, [], ◌++◌, length, map, take, slice_get, Some, None, true}
use Rattle.std.specs.List.{AllByRecursion}
use Rattle.dm_types.specs.Faults.{NoneFell}
use Rattle.dm_edge.specs.declared.fault.NetFault.{NetFault}
use Rattle.dm_edge.specs.Fair.{ask_of, first_of}
use Rattle.dm_edge.specs.declared.wanted.Wanted.TheVariants.{Whole}
use Rattle.dm_edge.specs.Wire.{Purpose, Told, Closed}
use Rattle.dm_request.specs.Request.{request_of}
use Rattle.dm_store.specs.declared.pass.Pass.{Pass}
use Rattle.dm_answers.specs.Slices.{part_of}
use Rattle.dm_answers.specs.declared.answer.SlicePass.{SlicePass}
use Rattle.dm_attempt.specs.declared.source.Source.{Source}
use Rattle.dm_attempt.specs.declared.stop.Stop.{Stop}
use Rattle.dm_attempt.specs.Asking.{Asking, WantedBy}
use Rattle.dm_attempt.specs.Heads.{SaysReply}
use Rattle.dm_attempt.specs.Shares.{Share, total}
use Rattle.dm_attempt.specs.Trace.{Carried}
use Rattle.dm_rounds.specs.declared.lane.Lane.{Lane}
use Rattle.dm_rounds.specs.Lanes.{Brought, InRound, IsReady, NetCounts, is_at, is_of}
use Rattle.dm_rounds.specs.Opening.{IsAskedAt}
use Rattle.dm_rounds.specs.Parts.{StopsAsking}

-- each part has one lane, which may be read on, and nothing was closed
pub record IsOpened {W O : Type 0} (net wires : Type 0) (made_for : W → Purpose) (told : W → Told) (origin : W → O) (there : O) (asking : Asking) (start closed : List Closed) (shares : List Share) (lanes : List (Lane W)) : Type 0 where
  pub ready : AllByRecursion (IsReady wires made_for told asking.key shares) lanes
  pub origins : AllByRecursion (λ lane. origin lane.wire ≡ there) lanes
  pub few : (n : ℕ) → total (is_at n) lanes ≤ 1
  pub round : InRound net wires made_for told asking start closed shares lanes

-- the whole request was sent, or a front of it
abbrev pub IsFrontSent : List ℕ → List ℕ → Type 0
IsFrontSent request sent = (sent ≡ request) ⊎ ((n : ℕ) × (sent ≡ take n request))

-- A connection was made for the round and asked for its part. Nothing was landed of the part, or what the stream brought. Where the whole content was asked for, with
-- the whole request, the stream begins with the head of the first reply.
pub record WasTried (asking : Asking) (shares : List Share) (c : Carried) : Type 0 where
  pub share : Share
  pub share_is : slice_get shares c.part.index ≡ Some share
  pub part_is : share.part ≡ c.part
  pub wanted_is : WantedBy asking c.part c.wanted
  pub first_is : first_of c.wanted ≡ c.part.first
  pub purpose_is : c.connection.purpose ≡ asking.purpose
  pub sent : IsFrontSent (request_of c.connection.purpose.address (ask_of c.wanted)) c.connection.sent
  pub brought : (share.bytes ≡ []) ⊎ Brought c.wanted c.connection.stream share.bytes
  pub replied : c.wanted ≡ Whole → (c.connection.sent ≡ request_of c.connection.purpose.address None) × SaysReply asking.reply c.connection.stream

-- Each part was asked for on one connection at most, and these are all that were closed. Where the first reply serves the first part, its connection is one of them.
pub record IsLostRound (net : Type 0) (asking : Asking) (start now : List Closed) (shares : List Share) : Type 0 where
  pub wires : List Carried
  pub closed : net → now ≡ start ++ map (λ (c : Carried). c.connection) wires
  pub once : net → (n : ℕ) → n < length shares → total (is_of n) wires ≤ 1
  pub first : net → asking.served ≡ true → total (is_of 0) wires ≡ 1
  pub each : net → AllByRecursion (WasTried asking shares) wires

-- For one part no lane came, by this stop. None was asked for behind it, and all wires are closed.
pub record LosesRound (net : Type 0) (asking : Asking) (source : Source) (pass : Pass) (start now : List Closed) (before after : NetFault → ℕ) (shares : List Share) (stop : Stop) : Type 0 where
  pub round : IsLostRound net asking start now shares
  pub number : ℕ
  pub slice : SlicePass
  pub is : IsAskedAt asking source pass shares number slice
  pub since : NetFault → ℕ
  pub until : NetFault → ℕ
  pub earlier : NoneFell before since
  pub later : NoneFell until after
  pub between : List Closed
  pub rest : List Closed
  pub behind : net → now ≡ between ++ rest
  pub counted : NetCounts since until stop
  pub lost : net → StopsAsking source pass (part_of slice) since until start between stop
