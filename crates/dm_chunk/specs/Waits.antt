-- A bound on the framing that may still come before data or an end: the limits on chunk lines and trailers end it.
use Rattle.std.specs.Prelude.{ℕ, zero, suc, ◌≡◌, ◌+◌, ◌-◌, ◌*◌, ◌≤◌}
use Rattle.dm_chunk.specs.declared.place.Place.{Place}
use Rattle.dm_chunk.specs.declared.place.Place.TheVariants.{Digits, Blanks, Extension, LineEnd, Data, DataEnd, TrailerStart, Trailer, TrailerEnd, LastEnd, Done, Broken}
use Rattle.dm_chunk.specs.declared.Chunks.{Chunks}
use Rattle.dm_chunk.specs.declared.Step.{Step}
use Rattle.dm_chunk.specs.declared.Step.TheVariants as steps

-- where data is left it is the next
abbrev pub framing_behind : ℕ → ℕ
framing_behind zero = 81931
framing_behind (suc left) = 0

-- no place is followed by more bytes of framing than this
abbrev pub framing_from : Place → ℕ
framing_from (Digits count size) = 81914 + (15 - count)
framing_from (Blanks size spare) = 65532 + spare
framing_from (Extension size spare) = 65532 + spare
framing_from (LineEnd size) = 65531
framing_from (Data left) = framing_behind left
framing_from DataEnd = 81930
framing_from (TrailerStart spare) = 4 * spare + 2
framing_from (Trailer spare) = 4 * spare + 4
framing_from (TrailerEnd spare) = 4 * spare + 3
framing_from (LastEnd spare) = 4 * spare + 1
framing_from Done = 0
framing_from Broken = 0

abbrev pub framing_left : Chunks → ℕ
framing_left chunks = framing_from chunks.place

-- each byte that was taken as framing leaves one less
abbrev pub Waits : Step → Chunks → Chunks → ℕ → Type 0
Waits steps.More old new ahead = framing_left new + ahead ≤ framing_left old
Waits (steps.Data from count) old new ahead = Unit {0}
Waits (steps.End count) old new ahead = Unit {0}
Waits steps.Broken old new ahead = Unit {0}

-- where no data is taken, the decoder stands as it stood, behind all that is ahead
abbrev pub Rests : Step → Chunks → Chunks → ℕ → ℕ → Type 0
Rests steps.More old new from ahead = (new ≡ old) × (from ≡ ahead)
Rests (steps.Data at count) old new from ahead = Unit {0}
Rests (steps.End count) old new from ahead = ⊥
Rests steps.Broken old new from ahead = ⊥
