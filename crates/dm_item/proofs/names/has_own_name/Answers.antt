use Rattle.std.proofs.Common.{rules}
use Rattle.dm_types.specs.declared.item.Item.{Item}
use Rattle.dm_item.specs.Restored.{HasOwnName, IsApartFrom}
use Rattle.dm_item.proofs.Each.{tests}
use Rattle.dm_item.proofs.names.has_own_name.Goals as goal

pub returns : goal.returns
returns c =
    let each = λ (item : Item). IsApartFrom c.args.item.now item in
    tests each (HasOwnName c.args.item.now) c.all.result c.args.items.now tt (λ item rest here others. (here, others)) (λ item rest both. both) (search rules)
