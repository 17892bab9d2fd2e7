use Rattle.dm_item.proofs.Places.{takes_row}
use Rattle.dm_item.proofs.take.change_target.Goals as goal

pub returns-in-Ok-change_in-clause-ok : goal.returns-in-Ok-change_in-clause-ok
returns-in-Ok-change_in-clause-ok c =
    let row = rw c.deref.ensures.value at c.in-Ok.ensures.ok in
    takes_row c.args.entry.now c.args.items.now.items c.change_in.new.items.items c.in-Ok.place row (c.in-Ok-change_in.ensures.ok row.item)
