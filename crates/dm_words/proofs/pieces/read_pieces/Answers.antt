use Rattle.std.proofs.Common.{refl}
use Rattle.std.specs.Option.{option_copied}
use Rattle.dm_words.proofs.OneCommand.{told_from, told_says}
use Rattle.dm_words.proofs.pieces.read_pieces.Goals as goal

pub returns-clause-some : goal.returns-clause-some
returns-clause-some c =
    told_from c.args.name c.args.words.now (option_copied c.in-Some.operand) _ c.in-Some.ensures.some c.word_after-word.ensures c.word_after-wish.ensures c.word_after-sha256.ensures c.word_after-slices.ensures
    c.word_after-after.ensures c.word_after-limit.ensures c.word_after-port.ensures c.word_after-workers.ensures refl

pub returns-in-None-clause-none : goal.returns-in-None-clause-none
returns-in-None-clause-none c = λ told is. let found = told_says c.args.name c.args.words.now told is in c.in-None.ensures.none found.0 found.1
