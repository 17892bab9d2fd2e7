use Rattle.std.proofs.Common.{ap, ◌∙◌, arith}
use Rattle.dm_generated.specs.Content.{bytes_from}
use Rattle.dm_generated.proofs.Bytes.{bytes_all}
use Rattle.dm_generated.proofs.content.fill.Goals as goal

pub returns : goal.returns
returns c =
    bytes_all c.args.number c.args.first c.fill_each.new.window (λ k below. c.fill_each.ensures k (omega (arith, below, c.fill_each.auto.window)))
    ∙ ap (bytes_from c.args.number c.args.first) c.fill_each.auto.window
