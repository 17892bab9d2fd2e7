use Rattle.std.proofs.Common.{◌∷◌}
use Rattle.dm_words.specs.Table.{name_of}
use Rattle.dm_words.specs.Reading.{told_of}
use Rattle.dm_words.proofs.OneCommand.{made_of, untold}
use Rattle.dm_words.proofs.Texts.{on_err}
use Rattle.dm_words.proofs.command.read_named.Goals as goal

pub returns-in-Some-clause-err : goal.returns-in-Some-clause-err
returns-in-Some-clause-err c =
    on_err c.make.result _ _ c.make.ensures.err (λ none other asks.
    none other (made_of c.args.name (name_of c.args.name ∷ c.args.words.now) (told_of c.in-Some.pieces) c.in-Some.ensures.some other asks))

pub returns-in-None-clause-err : goal.returns-in-None-clause-err
returns-in-None-clause-err c = untold c.args.name c.args.words.now c.in-None.ensures.none
