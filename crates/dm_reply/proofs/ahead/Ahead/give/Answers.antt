use Rattle.std.proofs.Common.{List, ℕ, arith, ap, ◌∙◌, drop}
use Rattle.std.proofs.lemmas.List.{length-take}
use Rattle.dm_reply.proofs.AheadLemmas.{drop_ahead}
use Rattle.dm_reply.proofs.ahead.Ahead.give.Goals as goal

pub returns-clause-after : goal.returns-clause-after
returns-clause-after c =
    let inside = c.self.inside in
    let n = c.min-count.result in
    let moved = drop_ahead inside.buffer.items inside.start n inside.end
    (omega (arith, c.min-count.ensures, length-take {A = ℕ}, c.self.invariant.ordered)) in
    moved ∙ ap (λ (t : List ℕ). drop n t) c.self.view_is
