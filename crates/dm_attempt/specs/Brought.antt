-- Where all that was landed is of one content, so is what the part reads.
use Rattle.std.specs.Prelude.{◌≡◌, ℕ, ◌+◌, List, Option, Some, slice_get}
use Rattle.std.specs.List.{AllByRecursion}
use Rattle.dm_types.specs.declared.slices.Slice.{Slice}
use Rattle.dm_slice.specs.Words.{HasByte}
use Rattle.dm_attempt.specs.Shares.{Share}
use Rattle.dm_attempt.specs.Trace.{Round}

-- the bytes are the content's, from this place of it on
abbrev pub AreOf : List ℕ → ℕ → List ℕ → Type 0
AreOf content first bytes = (k byte : ℕ) → slice_get bytes k ≡ Some byte → slice_get content (first + k) ≡ Some byte

-- what was landed of each part is the content's
abbrev pub SharesOf : List ℕ → List Share → Type 0
SharesOf content shares = AllByRecursion (λ (share : Share). AreOf content share.part.first share.bytes) shares

abbrev pub RoundsOf : List ℕ → List Round → Type 0
RoundsOf content rounds = AllByRecursion (λ (round : Round). SharesOf content round.shares) rounds

-- the file has the content's byte at this place
pub record HasAt (content : List ℕ) (file : Option (List ℕ)) (place : ℕ) : Type 0 where
  pub bytes : List ℕ
  pub reads : file ≡ Some bytes
  pub byte : ℕ
  pub there : slice_get bytes place ≡ Some byte
  pub is : slice_get content place ≡ Some byte

-- it has the content's byte at each place of the cover
abbrev pub HasCover : List ℕ → List Slice → Option (List ℕ) → Type 0
HasCover content cover file = (place : ℕ) → HasByte cover place → HasAt content file place
