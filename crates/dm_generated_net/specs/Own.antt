-- Connections that are those of a net's own wires.
use Rattle.std.specs.Prelude.{◌≡◌, ◌≢◌, ◌<◌, ℕ, true, Bool, List, [], ◌∷◌, length, slice_get, Some}
use Rattle.std.specs.List.{AllByRecursion}
use Rattle.dm_edge.specs.Wire.{Closed}
use Rattle.dm_generated.specs.Replies.{stream_with}
use Rattle.dm_generated.specs.declared.reply.Reply.{Reply}
use Rattle.dm_generated_net.specs.Wired.{NetState}
use Rattle.dm_generated_net.specs.declared.chain.Connection.{Connection}

-- all that came, or was to come, is what this wire of the number's net says with some reply
pub record IsOfWire (number wire : ℕ) (connection : Closed) : Type 0 where
  pub reply : Reply
  pub stream_is : connection.stream ≡ stream_with number wire reply

-- so each of these connections, by the wires beside them
abbrev pub AreOfWires : ℕ → List ℕ → List Closed → Type 0
AreOfWires number [] [] = Unit {0}
AreOfWires number [] (connection ∷ more) = ⊥
AreOfWires number (wire ∷ wires) [] = ⊥
AreOfWires number (wire ∷ wires) (connection ∷ more) = IsOfWire number wire connection × AreOfWires number wires more

-- none of them stands twice
abbrev pub AreDistinct : List ℕ → Type 0
AreDistinct [] = Unit {0}
AreDistinct (wire ∷ wires) = AllByRecursion (λ other. wire ≢ other) wires × AreDistinct wires

-- The connections that are over are those of all wires that the net made, each once.
pub record AreItsOwn (net : NetState) : Type 0 where
  pub wires : List ℕ
  pub streams : AreOfWires net.number wires net.closed
  pub below : AllByRecursion (λ wire. wire < net.wires) wires
  pub distinct : AreDistinct wires
  pub all : length wires ≡ net.wires

-- the connection's wire is one of the number's net, below the bound
pub record IsBelow (number bound : ℕ) (connection : Connection) : Type 0 where
  pub number_is : connection.number ≡ number
  pub below : connection.wire < bound

-- the wires of connections
abbrev pub wires_of : List Connection → List ℕ
wires_of [] = []
wires_of (connection ∷ more) = connection.wire ∷ wires_of more

-- they are such wires, no two the same, and each of them is marked
pub record AreMarked (number bound : ℕ) (connections : List Connection) (marks : List Bool) : Type 0 where
  pub each : AllByRecursion (IsBelow number bound) connections
  pub distinct : AreDistinct (wires_of connections)
  pub marked : AllByRecursion (λ wire. slice_get marks wire ≡ Some true) (wires_of connections)

-- The wire is such a one, and wasn't marked. Now it is, and so is each that was.
pub record IsMarked (number bound : ℕ) (connection : Connection) (old new : List Bool) : Type 0 where
  pub is : IsBelow number bound connection
  pub fresh : slice_get old connection.wire ≡ Some true → ⊥
  pub now : slice_get new connection.wire ≡ Some true
  pub stay : (wire : ℕ) → slice_get old wire ≡ Some true → slice_get new wire ≡ Some true
