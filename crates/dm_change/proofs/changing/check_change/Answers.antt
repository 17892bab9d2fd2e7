use Rattle.std.proofs.Common.{sym, subst, ◌∙◌}
use Rattle.dm_types.specs.declared.entry.Entry.{Entry}
use Rattle.dm_item.specs.Declines.{Declines}
use Rattle.dm_change.proofs.Changings.{wrong_state}
use Rattle.dm_change.proofs.changing.check_change.Goals as goal

pub returns-in-Err : goal.returns-in-Err
returns-in-Err c =
    wrong_state c.args.change c.args.id c.args.items.now c.in-Some.phase c.in-Err.field-0 (sym c.phase_of.ensures ∙ c.in-Some.is) (sym c.leaves.ensures ∙ c.if-leaves.false)
    (subst (λ (e : Entry). Declines c.args.items.now e c.in-Err.field-0) c.entry_of-entry.ensures c.in-Err.ensures.err) c.in-Err.ensures.light
