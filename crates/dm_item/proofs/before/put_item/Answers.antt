use Rattle.std.proofs.Common.{◌∙◌, sym, ap}
use Rattle.std.proofs.Math.ListN.{set}
use Rattle.dm_types.specs.declared.item.Item.{Item}
use Rattle.dm_item.proofs.Undoing.{put-nowhere, put-place}
use Rattle.dm_item.proofs.before.put_item.Goals as goal

pub returns-in-Some : goal.returns-in-Some
returns-in-Some c =
    let at = rw c.deref.ensures.value at (sym c.find_place.ensures ∙ c.in-Some.is) in
    ap (λ (item : Item). set c.args.items.now.items c.in-Some.place item) c.replace.ensures.after ∙ sym (put-place c.args.item.id.0 c.args.items.now.items c.in-Some.place c.args.item at)

pub returns-in-None : goal.returns-in-None
returns-in-None c =
    let at = rw c.deref.ensures.value at (sym c.find_place.ensures ∙ c.in-None.is) in
    sym (put-nowhere c.args.item.id.0 c.args.items.now.items c.args.item at)
