use Rattle.std.proofs.Common.{sym, subst}
use Rattle.std.specs.Prelude.{IsSome, IsSomeAnd}
use Rattle.dm_item.specs.Listing.{item_in}
use Rattle.dm_store.specs.Store.{view_of}
use Rattle.dm_store.specs.View.{View}
use Rattle.dm_finish.proofs.Readies.{named_item, ready_ending}
use Rattle.dm_finish.proofs.finishing.prepare_ending.Goals as goal

pub prepare_naming-requires : goal.prepare_naming-requires
prepare_naming-requires g c =
    named_item (view_of c.make_room.new.store) c.args.id c.in-Some.item.now (sym c.in-Some.ensures)
    (subst (λ (v : View g.row.D.Denot g.row.O.Denot). IsSomeAnd (item_in c.args.id.0 v.items.items) (λ item. IsSome item.name)) (sym c.make_room.ensures.same) c.requires.told)

pub returns-in-Ok-clause-ok : goal.returns-in-Ok-clause-ok
returns-in-Ok-clause-ok g c =
    let told = subst (λ (v : View g.row.D.Denot g.row.O.Denot). IsSomeAnd (item_in c.args.id.0 v.items.items) (λ item. IsSome item.name)) (sym c.make_room.ensures.same) c.requires.told in
    let named = named_item (view_of c.make_room.new.store) c.args.id c.in-Some.item.now (sym c.in-Some.ensures) told in
    ready_ending (view_of c.make_room.new.store) c.args.id c.args.total c.in_ok-saving.saving c.in-Ok.naming.readied c.in-Ok.naming.part c.in-Ok.naming.target c.in-Some.item.now (sym c.in-Some.ensures) named c.in_ok-saving.ensures c.in-Ok.ensures.readied c.in-Ok.ensures.part c.in-Ok.ensures.target
