-- What a connection gives and is given.
use Rattle.std.specs.Prelude.{◌≡◌, ℕ, ◌<◌, Bool, nat_lt, List, [], ◌++◌, length, take, Result, MatchResult}
use Rattle.dm_edge.specs.declared.fault.EdgeFault.{EdgeFault}
use Rattle.dm_edge.specs.declared.fault.EdgeFault.TheVariants.{Failed}
use Rattle.dm_edge.specs.Wire.{Told, stream_of}

-- The next n bytes came. None of a buffer with room are the end.
pub record Brings (before now : Told) (buffer : List ℕ) (n : ℕ) : Type 0 where
  pub given : now.given ≡ before.given ++ take n buffer
  pub left : before.left ≡ take n buffer ++ now.left
  pub end : n ≡ 0 → 0 < length buffer → before.left ≡ []

-- A read writes nothing, and where it fails it gives nothing. The buffer is the one at the return.
pub record Reads (before now : Told) (result : Result ℕ EdgeFault) (buffer : List ℕ) : Type 0 where
  pub sent : now.sent ≡ before.sent
  pub bytes : MatchResult result (Brings before now buffer) (λ _. (now.given ≡ before.given) × (now.left ≡ before.left))

-- A write gives nothing. The first bytes of the piece were written: as many as were answered, and after a fault some front of it.
pub record Puts (before now : Told) (result : Result ℕ EdgeFault) (piece : List ℕ) : Type 0 where
  pub given : now.given ≡ before.given
  pub left : now.left ≡ before.left
  pub sent : MatchResult result (λ n. now.sent ≡ before.sent ++ take n piece) (λ _. (n : ℕ) × (now.sent ≡ before.sent ++ take n piece))

-- a connection that is over: all that it gives, also what was never read, what was written to it, and whether a call on it failed
pub record Over : Type 0 where
  pub stream : List ℕ
  pub sent : List ℕ
  pub failed : Bool

abbrev pub over_of : Told → (EdgeFault → ℕ) → Over
over_of told faults = record { stream = stream_of told; sent = told.sent; failed = nat_lt 0 (faults Failed) }
