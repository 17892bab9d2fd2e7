-- A sink in memory, as contracts see it.
use Rattle.std.specs.Prelude.{ℕ, ◌+◌, ◌<◌, ◌⊎◌, List, ◌++◌, length, Contains}
use Rattle.dm_edge.specs.Counts.{raised_by}

pub record Held : Type 0 where
  pub written : List ℕ
  -- how many bytes fit in all
  pub room : ℕ
  -- the numbers of the writes that fail
  pub failing : List ℕ
  -- the number of the next write, from 0
  pub calls : ℕ
  pub failed : ℕ

-- the next write is listed, or its piece doesn't fit into the room that is left
abbrev pub MustFail : Held → List ℕ → Type 0
MustFail sink piece = Contains sink.failing sink.calls ⊎ (sink.room < length sink.written + length piece)

-- after a write of the whole piece
abbrev pub with_piece : Held → List ℕ → Held
with_piece sink piece = record sink { written = sink.written ++ piece; calls = raised_by 1 sink.calls }

-- after a write that failed: nothing was added
abbrev pub failed_once : Held → Held
failed_once sink = record sink { calls = raised_by 1 sink.calls; failed = raised_by 1 sink.failed }
