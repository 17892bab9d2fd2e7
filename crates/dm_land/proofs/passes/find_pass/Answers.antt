use Rattle.std.proofs.Common.{sym, ap, ◌∙◌}
use Rattle.dm_store.specs.Lives.{life_in}
use Rattle.dm_store.specs.Store.{view_of}
use Rattle.dm_land.proofs.Refused.{always_next}
use Rattle.dm_land.proofs.passes.find_pass.Goals as goal

pub unreachable-requires-in-None : goal.unreachable-requires-in-None
unreachable-requires-in-None g c =
    always_next (view_of c.args.store.now) c.args.pass.now c.in-Some.life.now c.in-Ok.field-0 (c.requires.store.desk.lives c.requires.whole) c.in-Ok.ensures
    (sym (c.in-Some.ensures ∙ ap (life_in c.args.pass.now.id.0) c.deref.ensures.value)) (c.has_part.ensures.0 c.if-not-has_part.false).1 (sym c.next_place.ensures ∙ c.in-None.is)
