use Rattle.std.proofs.Common.{ap, ◌∙◌}
use Rattle.dm_record.specs.Reading.{reason_of}
use Rattle.dm_record.proofs.ExactValues.{reason_is}
use Rattle.dm_record.proofs.fields.reason_with.Goals as goal

pub returns : goal.returns
returns c = reason_is c.from.result c.from_code.result c.from_code.ensures.some c.from_code.ensures.none ∙ ap reason_of c.from.ensures
