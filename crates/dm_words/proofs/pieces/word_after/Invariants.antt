use Rattle.std.proofs.Common.{◌≡◌, length}
use Rattle.dm_words.specs.Reading.{word_after}
use Rattle.dm_words.proofs.pieces.word_after.Given as goal

abbrev pub invariant-loop-rest : goal.invariant-loop-rest
invariant-loop-rest l = word_after l.option l.rest ≡ word_after l.option l.words

abbrev pub decreases-loop-rest : goal.decreases-loop-rest
decreases-loop-rest l = length l.rest
