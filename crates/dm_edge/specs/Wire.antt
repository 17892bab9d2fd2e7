-- What a wire tells: the bytes that it gave and has left, and those that were sent on it.
use Rattle.std.specs.Prelude.{◌≡◌, ℕ, ◌<◌, ◌≤◌, List, [], ◌++◌, length, take, Result, MatchResult, IfErr}
use Rattle.dm_types.specs.Faults.{Rose}
use Rattle.dm_types.specs.declared.address.Address.{Address}
use Rattle.dm_types.specs.declared.item.ItemId.{ItemId}
use Rattle.dm_types.specs.declared.item.Attempt.{Attempt}
use Rattle.dm_edge.specs.declared.fault.WireFault.{WireFault}
use Rattle.dm_edge.specs.declared.fault.WireFault.TheVariants as fault

-- what a connection was made for
pub record Purpose : Type 0 where
  pub address : Address
  pub id : ItemId
  pub attempt : Attempt

pub record Told : Type 0 where
  -- what was received so far
  pub given : List ℕ
  -- what is to come
  pub left : List ℕ
  -- what was sent so far
  pub sent : List ℕ

-- the stream as it stands: what was given and what is left
abbrev pub stream_of : Told → List ℕ
stream_of told = told.given ++ told.left

-- nothing was given, and nothing was sent
pub record IsFresh (told : Told) : Type 0 where
  pub given : told.given ≡ []
  pub sent : told.sent ≡ []

-- A send gives nothing. The whole piece was sent, or after a fault some front of it. What is left may change.
pub record Sends (before now : Told) (result : Result (Unit {0}) WireFault) (piece : List ℕ) : Type 0 where
  pub given : now.given ≡ before.given
  pub sent : MatchResult result (λ _. now.sent ≡ before.sent ++ piece) (λ _. (n : ℕ) × (now.sent ≡ before.sent ++ take n piece))

-- n bytes came from the front of what is left, or, of a buffer with room, none since it is the end
abbrev pub Gives : Told → Told → List ℕ → ℕ → Type 0
Gives before now buffer n =
    (now.given ≡ before.given ++ take n buffer)
    × (0 < n → before.left ≡ take n buffer ++ now.left)
    × (n ≡ 0 → 0 < length buffer → now.left ≡ [])
    × (n ≡ 0 → length buffer ≡ 0 → now.left ≡ before.left)

-- A receive sends nothing, and where it fails it gives nothing. The buffer is the one at the return.
pub record Receives (before now : Told) (result : Result ℕ WireFault) (buffer : List ℕ) : Type 0 where
  pub sent : now.sent ≡ before.sent
  pub given : MatchResult result (Gives before now buffer) (λ _. (now.given ≡ before.given) × (now.left ≡ before.left))

-- How often the wire wanted memory never falls, and want of memory is answered only where that rose.
pub record WantsBy {T : Type 0} (before now : ℕ) (result : Result T WireFault) : Type 0 where
  pub later : before ≤ now
  pub rose : IfErr result (λ broke. broke ≡ fault.NoMemory → Rose before now)

-- what a wire shows: what it was made for, what it tells, and how often its calls failed, by kind
pub record Seen : Type 0 where
  pub purpose : Purpose
  pub told : Told
  pub counts : WireFault → ℕ

-- a connection that is over: what it was made for, what was sent on it, and its stream as it stood at last
pub record Closed : Type 0 where
  pub purpose : Purpose
  pub sent : List ℕ
  pub stream : List ℕ

abbrev pub closed_of : Purpose → Told → Closed
closed_of purpose told = record { purpose = purpose; sent = told.sent; stream = stream_of told }
