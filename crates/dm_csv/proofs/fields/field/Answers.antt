use Rattle.std.proofs.Common.{List, ℕ, Option, [], ◌∙◌, ap}
use Rattle.std.specs.Option.{unwrap_or}
use Rattle.csv.specs.Records.{fields_of}
use Rattle.dm_csv.proofs.Listed.{field_or}
use Rattle.dm_csv.proofs.fields.field.Goals as goal

pub returns-in-Some : goal.returns-in-Some
returns-in-Some c = ap (λ (o : Option (List ℕ)). unwrap_or o []) c.in-Some.ensures.value ∙ field_or (fields_of c.args.row.now) c.args.place

pub returns-in-None : goal.returns-in-None
returns-in-None c = ap (λ (o : Option (List ℕ)). unwrap_or o []) c.in-None.ensures.value ∙ field_or (fields_of c.args.row.now) c.args.place
