-- Fronts of chunked texts, and texts with which none begins.
use Rattle.std.specs.Prelude.{◌≡◌, ℕ, List, [], ◌∷◌, ◌++◌}
use Rattle.dm_chunk.specs.Grammar.{IsChunked}

-- some chunked text begins so
pub record GoesOn (text : List ℕ) : Type 0 where
  pub more : List ℕ
  pub content : List ℕ
  pub after : List ℕ
  pub chunked : IsChunked (text ++ more) content after

-- the whole begins with the front
pub record Begins (whole front : List ℕ) : Type 0 where
  pub rest : List ℕ
  pub parts : whole ≡ front ++ rest

-- the content of each chunked text that begins with the text begins with the front
abbrev pub Brings : List ℕ → List ℕ → Type 0
Brings text front = (more content after : List ℕ) → IsChunked (text ++ more) content after → Begins content front

-- The text is a front of a chunked text, and not whole. What it has brought of the content is what all chunked
-- texts that begin so have in common.
pub record IsFrontOf (text content : List ℕ) : Type 0 where
  pub goes_on : GoesOn text
  pub unfinished : (whole after : List ℕ) → IsChunked text whole after → ⊥
  pub brought : Brings text content
  pub all : (front : List ℕ) → Brings text front → Begins content front

-- No chunked text begins so. There is a first byte with which none goes on, and the content is what was brought before it.
pub record IsBadChunked (text content : List ℕ) : Type 0 where
  pub front : List ℕ
  pub byte : ℕ
  pub rest : List ℕ
  pub parts : text ≡ front ++ byte ∷ rest
  pub before : IsFrontOf front content
  pub stops : GoesOn (front ++ byte ∷ []) → ⊥
