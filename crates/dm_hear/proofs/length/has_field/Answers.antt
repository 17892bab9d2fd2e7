use Rattle.std.proofs.Common.{sym, ◌∙◌}
use Rattle.dm_hear.proofs.Lengths.{named_at}
use Rattle.dm_hear.proofs.length.has_field.Goals as goal

pub returns-then-is_named-clause-some : goal.returns-then-is_named-clause-some
returns-then-is_named-clause-some c =
    λ _. named_at c.args.name.now c.args.head.now c.args.fields.now c.loop-field.field-index _ c.loop-field-test.true (sym c.is_named.ensures ∙ c.if-is_named.true)
