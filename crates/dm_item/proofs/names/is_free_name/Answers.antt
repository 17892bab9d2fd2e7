use Rattle.std.proofs.Common.{rules, ◌≡◌, ◌≢◌, false}
use Rattle.dm_types.specs.declared.item.Item.{Item}
use Rattle.dm_item.specs.Row.{HasName, IsFreeName, is_cancelled}
use Rattle.dm_item.proofs.Each.{tests}
use Rattle.dm_item.proofs.names.is_free_name.Goals as goal

pub returns : goal.returns
returns c =
    let each = λ (item : Item). item.id.0 ≢ c.args.id.0 → is_cancelled item.phase ≡ false → ¬ HasName item c.args.name.now in
    tests each (IsFreeName c.args.id.0 c.args.name.now) c.all.result c.args.items.now tt (λ item rest here others. (here, others)) (λ item rest both. both) (search rules)
