-- What a receive brings behind the bytes that lie ahead.
use Rattle.std.specs.Prelude.{◌≡◌, ℕ, List, [], ◌++◌, length, IfSome}
use Rattle.dm_types.specs.Faults.{Rose}
use Rattle.dm_edge.specs.declared.fault.WireFault.{WireFault}
use Rattle.dm_edge.specs.Faults.{wire_kind}
use Rattle.dm_edge.specs.Wire.{Told}
use Rattle.dm_reply.specs.Faults.{head_kind}
use Rattle.dm_reply.specs.declared.head.HeadFault.{HeadFault}
use Rattle.dm_reply.specs.declared.receiving.Came.{Came}
use Rattle.dm_reply.specs.declared.receiving.Came.TheVariants as came

-- so many bytes came from the wire, and lie ahead now, too; where none came it is the end
pub record Grows (before now : Told) (old new : List ℕ) (n : ℕ) : Type 0 where
  pub piece : List ℕ
  pub size : length piece ≡ n
  pub ahead : new ≡ old ++ piece
  pub given : now.given ≡ before.given ++ piece
  pub ended : n ≡ 0 → now.left ≡ []

-- nothing came
pub record Stays (before now : Told) : Type 0 where
  pub given : now.given ≡ before.given
  pub left : now.left ≡ before.left

-- whatever came lies ahead now, too
pub record Continues (before now : Told) (old new : List ℕ) : Type 0 where
  pub piece : List ℕ
  pub ahead : new ≡ old ++ piece
  pub given : now.given ≡ before.given ++ piece

-- at the end nothing is left
abbrev pub LeftBy : Told → Came → Type 0
LeftBy now came.Bytes = Unit {0}
LeftBy now came.End = now.left ≡ []
LeftBy now (came.Fault fault) = Unit {0}

-- a fault of a kind that is counted shows in the count
abbrev pub ShownBy : (WireFault → ℕ) → (WireFault → ℕ) → Came → Type 0
ShownBy before now came.Bytes = Unit {0}
ShownBy before now came.End = Unit {0}
ShownBy before now (came.Fault fault) = IfSome (wire_kind fault) (λ kind. Rose (before kind) (now kind))

-- a refusal of a head whose kind is counted shows in the count
abbrev pub HeadShows : (WireFault → ℕ) → (WireFault → ℕ) → HeadFault → Type 0
HeadShows before now fault = IfSome (head_kind fault) (λ kind. Rose (before kind) (now kind))
