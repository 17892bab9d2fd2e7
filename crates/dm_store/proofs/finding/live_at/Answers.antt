use Rattle.std.proofs.Common.{◌∙◌, List, sym, ap}
use Rattle.dm_store.specs.declared.life.Life.{Life}
use Rattle.dm_store.specs.Lives.{life_in, place_of}
use Rattle.dm_store.specs.Passes.{round_of}
use Rattle.dm_store.specs.Store.{view_of}
use Rattle.dm_store.proofs.Passing.{declines_stale, live_found, live_there}
use Rattle.dm_store.proofs.finding.live_at.Goals as goal

pub unreachable-requires : goal.unreachable-requires
unreachable-requires g c =
    live_there (view_of c.args.store.now) c.args.id c.args.attempt c.in-Some.item.now (c.requires.store.desk.lives c.requires.whole) (sym c.in-Some.ensures) (c.runs_under.ensures.0 c.if-runs_under.true).0
    (ap (place_of c.args.id.0) (sym c.deref.ensures.value) ∙ sym c.in-None.ensures)

pub returns-in-Some-find_life : goal.returns-in-Some-find_life
returns-in-Some-find_life g c =
    live_found (view_of c.args.store.now) c.args.id c.args.attempt c.in-Some.item.now c.in-Some-find_life.place (c.requires.store.desk.lives c.requires.whole) (sym c.in-Some.ensures)
    (c.runs_under.ensures.0 c.if-runs_under.true) (ap (place_of c.args.id.0) (sym c.deref.ensures.value) ∙ sym c.in-Some-find_life.ensures)

pub returns-else-runs_under : goal.returns-else-runs_under
returns-else-runs_under g c =
    declines_stale (view_of c.args.store.now) c.args.id c.args.attempt c.in-Some.item.now c.runs_under.result c.round_at.result (sym c.in-Some.ensures) c.runs_under.ensures c.if-runs_under.false
    (c.round_at.ensures ∙ ap (λ (lives : List Life). round_of (life_in c.args.id.0 lives)) c.deref-else-runs_under.ensures.value)
