use Rattle.std.proofs.Common.{List, sym, subst}
use Rattle.std.specs.Prelude.{All}
use Rattle.std.proofs.lemmas.List.Elements.{All-push}
use Rattle.dm_edge.specs.declared.script.WireScript.{WireScript}
use Rattle.dm_edge.specs.Script.{IsGood}
use Rattle.dm_import_tests.proofs.bench.scripts.Goals as goal

pub loop-stream-preserved : goal.loop-stream-preserved
loop-stream-preserved c =
    subst (λ (wires : List WireScript). All IsGood wires) (sym c.in_ok-push.ensures.ok)
    (All-push IsGood c.loop-stream.wires c.in_ok-script.field-0 c.loop-stream.invariant c.in_ok-script.ensures)
