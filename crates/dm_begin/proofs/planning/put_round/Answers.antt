use Rattle.std.proofs.Common.{sym, ◌∙◌, ap}
use Rattle.dm_store.specs.Lives.{place_of}
use Rattle.dm_store.proofs.Lives.{any_life, changed_place, no_place, unchanged}
use Rattle.dm_begin.specs.Round.{with_round}
use Rattle.dm_begin.proofs.planning.put_round.Goals as goal

pub returns-in-Some : goal.returns-in-Some
returns-in-Some c =
    c.put_round_at.ensures any_life
    ∙ changed_place c.args.id.0 (with_round c.args.round c.args.cover c.args.plan) c.args.lives.now.items c.in-Some.place any_life (ap (place_of c.args.id.0) (sym c.deref.ensures.value) ∙ sym c.in-Some.ensures)

pub returns-in-None : goal.returns-in-None
returns-in-None c =
    sym (unchanged c.args.id.0 (with_round c.args.round c.args.cover c.args.plan) c.args.lives.now.items
    (no_place c.args.id.0 c.args.lives.now.items (ap (place_of c.args.id.0) (sym c.deref.ensures.value) ∙ sym c.in-None.ensures)))
