use Rattle.dm_name.proofs.LawLemmas.{bounds_are, no_part_is}
use Rattle.dm_name.proofs.PlainLemmas.{plain_is, short_is}
use Rattle.dm_name.proofs.TextLemmas.{text_is}
use Rattle.dm_name.proofs.laws.name_laws.Goals as goal

pub returns-clause-bounds : goal.returns-clause-bounds
returns-clause-bounds c = bounds_are

pub returns-clause-short : goal.returns-clause-short
returns-clause-short c = short_is

pub returns-clause-part : goal.returns-clause-part
returns-clause-part c = no_part_is

pub returns-clause-plain : goal.returns-clause-plain
returns-clause-plain c = plain_is

pub returns-clause-text : goal.returns-clause-text
returns-clause-text c = text_is
