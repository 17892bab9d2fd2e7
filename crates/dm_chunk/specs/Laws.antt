-- Each text is of one of three kinds, in one way.
use Rattle.std.specs.Prelude.{◌≡◌, ℕ, List, ◌++◌}
use Rattle.dm_chunk.specs.Grammar.{IsChunked}
use Rattle.dm_chunk.specs.Fronts.{Brings, IsFrontOf, IsBadChunked}
use Rattle.dm_chunk.specs.Decoded.{HasDecoded}
use Rattle.dm_chunk.specs.declared.Chunks.{Chunks}

-- what a text is
pub data Reading : List ℕ → Type 0 where
  is_chunked : (text content after : List ℕ) → IsChunked text content after → Reading text
  is_front : (text content : List ℕ) → IsFrontOf text content → Reading text
  is_bad : (text content : List ℕ) → IsBadChunked text content → Reading text

-- each text is chunked, a front of one that is, or one with which none begins
abbrev pub SomeReading : Type 0
SomeReading = (text : List ℕ) → Reading text

-- a chunked text has one content, and one end
abbrev pub OneChunked : Type 0
OneChunked = (text content after other later : List ℕ) → IsChunked text content after → IsChunked text other later → (content ≡ other) × (after ≡ later)

-- a front has brought one content
abbrev pub OneFront : Type 0
OneFront = (text content other : List ℕ) → IsFrontOf text content → IsFrontOf text other → content ≡ other

-- and so has a text that goes wrong
abbrev pub OneBad : Type 0
OneBad = (text content other : List ℕ) → IsBadChunked text content → IsBadChunked text other → content ≡ other

-- a chunked text is no front of one
abbrev pub ChunkedNoFront : Type 0
ChunkedNoFront = (text content after other : List ℕ) → IsChunked text content after → IsFrontOf text other → ⊥

-- none goes wrong
abbrev pub ChunkedNotBad : Type 0
ChunkedNotBad = (text content after other : List ℕ) → IsChunked text content after → IsBadChunked text other → ⊥

-- and no front does
abbrev pub FrontNotBad : Type 0
FrontNotBad = (text content other : List ℕ) → IsFrontOf text content → IsBadChunked text other → ⊥

-- a chunked text stays one, whatever follows it
abbrev pub ChunkedStays : Type 0
ChunkedStays = (text content after more : List ℕ) → IsChunked text content after → IsChunked (text ++ more) content (after ++ more)

-- and a bad one stays bad, with what it had brought
abbrev pub BadStays : Type 0
BadStays = (text content more : List ℕ) → IsBadChunked text content → IsBadChunked (text ++ more) content

-- the content of each chunked text that begins as a decoder was fed begins as it has told
abbrev pub ToldIsBrought : Type 0
ToldIsBrought = (read content : List ℕ) (chunks : Chunks) → HasDecoded read content chunks → Brings read content
