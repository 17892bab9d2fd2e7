use Rattle.std.proofs.Common.{rules, ◌<◌}
use Rattle.dm_types.specs.declared.item.Item.{Item}
use Rattle.dm_item.specs.Restored.{IsAbove}
use Rattle.dm_item.proofs.Each.{tests}
use Rattle.dm_item.proofs.names.is_above.Goals as goal

pub returns : goal.returns
returns c =
    let each = λ (item : Item). item.id.0 < c.args.id.0 in
    tests each (IsAbove c.args.id.0) c.all.result c.args.items.now tt (λ item rest here others. (here, others)) (λ item rest both. both) (search rules)
