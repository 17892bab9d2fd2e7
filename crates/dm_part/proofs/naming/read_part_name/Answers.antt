use Rattle.std.proofs.Common.{◌++◌, ◌∷◌, sym, ◌∙◌}
use Rattle.std.specs.Fmt.{decimal}
use Rattle.dm_part.proofs.Names.{part_pieces, same_numbers_text}
use Rattle.dm_part.proofs.naming.read_part_name.Goals as goal

pub returns-in-None-read_numbers-clause-none : goal.returns-in-None-read_numbers-clause-none
returns-in-None-read_numbers-clause-none c part =
    c.in-None-read_numbers.ensures.none part.id part.epoch part.small.0 part.small.1 (same_numbers_text c.in-Some.numbers.now part.id part.epoch (sym c.in-Some.ensures ∙ part.is))

pub returns-in-None-clause-none : goal.returns-in-None-clause-none
returns-in-None-clause-none c part = c.in-None.ensures (decimal part.id ++ 45 ∷ decimal part.epoch) (part.is ∙ part_pieces part.id part.epoch)
