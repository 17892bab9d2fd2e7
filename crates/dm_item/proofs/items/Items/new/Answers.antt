use Rattle.std.proofs.Common.{List, [], true, subst, sym}
use Rattle.dm_types.specs.declared.item.Item.{Item}
use Rattle.dm_item.specs.Lawful.{IsOf}
use Rattle.dm_item.proofs.Histories.{empty_is}
use Rattle.dm_item.proofs.items.Items.new.Goals as goal

pub returns-clause-history : goal.returns-clause-history
returns-clause-history c =
    subst (λ (items : List Item). IsOf [] (record { limit = c.args.limit; next = 1; is_first = true; is_early = true; items = items }))
    (sym c.in_ok-with_capacity.ensures.items) (empty_is c.args.limit)
