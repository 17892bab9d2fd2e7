use Rattle.std.proofs.Common.{sym, ◌∙◌}
use Rattle.dm_head.proofs.FieldLemmas.{coded_at}
use Rattle.dm_head.proofs.fields.is_plain.Goals as goal

pub returns-then-is_coded : goal.returns-then-is_coded
returns-then-is_coded c =
    sym (coded_at c.args.head.now c.args.fields.now c.loop-field.field-index _ c.loop-field-test.true (sym c.is_coded.ensures ∙ c.if-is_coded.true))
