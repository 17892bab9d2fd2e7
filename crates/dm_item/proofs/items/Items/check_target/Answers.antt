use Rattle.std.proofs.Common.{subst}
use Rattle.dm_item.specs.Row.{target_of}
use Rattle.dm_item.specs.Listing.{Listing, RowAt}
use Rattle.dm_item.proofs.Places.{row_met}
use Rattle.dm_item.proofs.items.Items.check_target.Goals as goal

pub returns-in-Ok-clause-ok : goal.returns-in-Ok-clause-ok
returns-in-Ok-clause-ok c =
    let row = rw c.deref.ensures.value at c.in-Ok.ensures.ok in
    subst (λ (v : Listing). RowAt c.args.entry.now v.items (target_of c.args.entry.now)) c.self.view_is (row_met c.args.entry.now c.self.inside.items.items c.in-Ok.field-0 row)
