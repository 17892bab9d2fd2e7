use Rattle.std.proofs.Common.{map}
use Rattle.dm_disposition.specs.Views.{named}
use Rattle.dm_disposition.proofs.FieldLemmas.{extended_told}
use Rattle.dm_disposition.proofs.told.told_extended.Goals as goal

pub returns-in-Some : goal.returns-in-Some
returns-in-Some c = extended_told (map named c.args.parameters.now) c.in-Some.text.now c.extended_of.result c.in-Some.ensures.some c.extended_of.ensures

pub returns-in-None : goal.returns-in-None
returns-in-None c = λ apart text chars h x. c.in-None.ensures.none text h
