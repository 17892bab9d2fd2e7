use Rattle.std.proofs.Common.{◌≡◌, take}
use Rattle.dm_change.specs.Page.{page_of}
use Rattle.dm_change.proofs.listing.ids_above.Given as goal

abbrev pub invariant-loop-item : goal.invariant-loop-item
invariant-loop-item l = l.ids ≡ page_of l.after l.limit (take l.item-index l.items)
