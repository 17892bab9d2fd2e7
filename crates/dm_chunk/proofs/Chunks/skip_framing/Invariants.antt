use Rattle.std.proofs.Common.{ℕ, ◌+◌, ◌≤◌, List, ◌++◌, take}
use Rattle.dm_chunk.specs.Decoded.{HasDecoded}
use Rattle.dm_chunk.specs.Waits.{framing_left}
use Rattle.dm_chunk.proofs.Chunks.skip_framing.Given as goal

-- what lies before the place was read
abbrev pub invariant-loop-at : goal.invariant-loop-at
invariant-loop-at l = record {
  reads : (read content : List ℕ) → HasDecoded read content l.fn.self → HasDecoded (read ++ take l.at l.ahead) content l.self;
  waits : framing_left l.self + l.at ≤ framing_left l.fn.self;
}
