use Rattle.std.proofs.Common.{List, set, sym, ap, subst, ◌∙◌}
use Rattle.dm_store.specs.declared.life.Life.{Life}
use Rattle.dm_store.specs.Lives.{place_of}
use Rattle.dm_store.proofs.Lives.{changed_place}
use Rattle.dm_answers.specs.Land.{grown_life}
use Rattle.dm_land.specs.Landing.{HasPlace}
use Rattle.dm_land.proofs.Landed.{grow_place, grow_there}
use Rattle.dm_land.proofs.landing.grow_life.Goals as goal

pub grow_at-requires-clause-there : goal.grow_at-requires-clause-there
grow_at-requires-clause-there c =
    (subst (HasPlace c.args.index c.args.count) (sym c.index_mut.ensures.value) (grow_place c.args.id.0 c.args.lives.now.items c.in-Some.place c.args.index c.args.count c.index_mut.result.now (ap (place_of c.args.id.0) (sym c.deref.ensures.value) ∙ sym c.in-Some.ensures) c.requires)).there

pub grow_at-requires-clause-room : goal.grow_at-requires-clause-room
grow_at-requires-clause-room c =
    (subst (HasPlace c.args.index c.args.count) (sym c.index_mut.ensures.value) (grow_place c.args.id.0 c.args.lives.now.items c.in-Some.place c.args.index c.args.count c.index_mut.result.now (ap (place_of c.args.id.0) (sym c.deref.ensures.value) ∙ sym c.in-Some.ensures) c.requires)).room

pub grow_at-requires-clause-fits : goal.grow_at-requires-clause-fits
grow_at-requires-clause-fits c =
    (subst (HasPlace c.args.index c.args.count) (sym c.index_mut.ensures.value) (grow_place c.args.id.0 c.args.lives.now.items c.in-Some.place c.args.index c.args.count c.index_mut.result.now (ap (place_of c.args.id.0) (sym c.deref.ensures.value) ∙ sym c.in-Some.ensures) c.requires)).fits

pub unreachable-requires : goal.unreachable-requires
unreachable-requires c =
    grow_there c.args.id.0 c.args.lives.now.items c.args.index c.args.count (ap (place_of c.args.id.0) (sym c.deref.ensures.value) ∙ sym c.in-None.ensures) c.requires

pub returns : goal.returns
returns c =
    ap (set c.args.lives.now.items c.in-Some.place) (c.grow_at.ensures ∙ ap (grown_life c.args.index c.args.count) c.index_mut.ensures.value)
    ∙ changed_place c.args.id.0 (grown_life c.args.index c.args.count) c.args.lives.now.items c.in-Some.place c.index_mut.result.now (ap (place_of c.args.id.0) (sym c.deref.ensures.value) ∙ sym c.in-Some.ensures)
