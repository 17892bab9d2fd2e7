-- What a decoder has read, and what its answers say.
use Rattle.std.specs.Prelude.{◌≡◌, ℕ, ◌+◌, ◌<◌, ◌≤◌, List, [], ◌++◌, take, drop, slice_range}
use Rattle.dm_chunk.specs.Grammar.{IsChunked}
use Rattle.dm_chunk.specs.Fronts.{IsFrontOf, IsBadChunked}
use Rattle.dm_chunk.specs.Machine.{run, data_in}
use Rattle.dm_chunk.specs.declared.place.Place.{Place}
use Rattle.dm_chunk.specs.declared.place.Place.TheVariants.{Digits, Blanks, Extension, LineEnd, Data, DataEnd, TrailerStart, Trailer, TrailerEnd, LastEnd, Done, Broken}
use Rattle.dm_chunk.specs.declared.Chunks.{Chunks}
use Rattle.dm_chunk.specs.declared.Step.{Step}
use Rattle.dm_chunk.specs.declared.Step.TheVariants as steps

-- under way, the place is the one to which the text leads
pub record Leads (read content : List ℕ) (place : Place) : Type 0 where
  pub here : place ≡ run (Digits 0 0) read
  pub brought : content ≡ data_in (Digits 0 0) read

-- the decoder stands here behind the text
abbrev pub Stands : List ℕ → List ℕ → Place → Type 0
Stands read content (Digits count size) = Leads read content (Digits count size)
Stands read content (Blanks size spare) = Leads read content (Blanks size spare)
Stands read content (Extension size spare) = Leads read content (Extension size spare)
Stands read content (LineEnd size) = Leads read content (LineEnd size)
Stands read content (Data left) = Leads read content (Data left)
Stands read content DataEnd = Leads read content DataEnd
Stands read content (TrailerStart spare) = Leads read content (TrailerStart spare)
Stands read content (Trailer spare) = Leads read content (Trailer spare)
Stands read content (TrailerEnd spare) = Leads read content (TrailerEnd spare)
Stands read content (LastEnd spare) = Leads read content (LastEnd spare)
Stands read content Done = IsChunked read content []
Stands read content Broken = IsBadChunked read content

-- the decoder was fed this text, however it was cut, and has told this content
pub record HasDecoded (read content : List ℕ) (chunks : Chunks) : Type 0 where
  pub stands : Stands read content chunks.place

-- What an answer says, where this text was fed before and this content told: of the text with what is ahead, and of
-- the decoder after it.
abbrev pub Decodes : List ℕ → List ℕ → List ℕ → Step → Chunks → Type 0
Decodes read content ahead steps.More new =
    IsFrontOf (read ++ ahead) content × HasDecoded (read ++ ahead) content new
Decodes read content ahead (steps.Data from count) new =
    IsFrontOf (read ++ take (from + count) ahead) (content ++ slice_range ahead from (from + count))
    × HasDecoded (read ++ take (from + count) ahead) (content ++ slice_range ahead from (from + count)) new
Decodes read content ahead (steps.End count) new =
    IsChunked (read ++ ahead) content (drop count ahead) × HasDecoded (read ++ take count ahead) content new
Decodes read content ahead steps.Broken new =
    IsBadChunked (read ++ ahead) content × HasDecoded (read ++ ahead) content new

-- data lies within what is ahead, is some, and not more than asked for
abbrev pub IsWithin : Step → ℕ → ℕ → Type 0
IsWithin steps.More ahead room = Unit {0}
IsWithin (steps.Data from count) ahead room = (0 < count) × (count ≤ room) × (from + count ≤ ahead)
IsWithin (steps.End count) ahead room = count ≤ ahead
IsWithin steps.Broken ahead room = Unit {0}
