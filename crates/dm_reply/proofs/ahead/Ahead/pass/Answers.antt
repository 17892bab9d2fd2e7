use Rattle.std.proofs.Common.{◌≤◌, ◌+◌, List, ℕ, length, ap, ◌∙◌, drop, arith}
use Rattle.dm_reply.proofs.AheadLemmas.{drop_ahead, range_size}
use Rattle.dm_reply.proofs.ahead.Ahead.pass.Goals as goal

pub returns : goal.returns
returns c =
    let inside = c.self.inside in
    let n = c.args.count in
    let size = range_size inside.buffer.items inside.start inside.end (omega (arith, c.self.invariant.room, c.self.invariant.in_buffer)) in
    let within : inside.start + n ≤ inside.end = omega (arith, c.requires, ap (λ (t : List ℕ). length t) c.self.view_is, size, c.self.invariant.ordered) in
    drop_ahead inside.buffer.items inside.start n inside.end within ∙ ap (λ (t : List ℕ). drop n t) c.self.view_is
