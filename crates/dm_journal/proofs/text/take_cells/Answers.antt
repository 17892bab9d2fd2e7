use Rattle.std.proofs.Common.{◌≡◌, ◌++◌, ◌∷◌, [], List, ℕ, ap, ◌∙◌}
use Rattle.dm_journal.proofs.Fronts.{none_taken, one_taken}
use Rattle.dm_journal.proofs.text.take_cells.Goals as goal

pub cells-init : goal.cells-init
cells-init c = none_taken c.args.bodies.now c.args.bytes.now

pub cells-preserved : goal.cells-preserved
cells-preserved c =
    let bodies = c.cells.bodies in
    let body = c.in-Cell.body.now in
    let is : c.push.new.self ≡ bodies ++ body ∷ [] = c.in_ok-push-in-Cell.ensures.ok ∙ ap (λ (b : List ℕ). bodies ++ b ∷ []) c.in_ok-from_bytes-in-Cell.ensures in
    one_taken c.args.bodies.now bodies c.push.new.self c.args.bytes.now c.cells.rest.now body c.in-Cell.after.now c.cells.invariant c.in-Cell.ensures.0 c.in-Cell.ensures.1 is
