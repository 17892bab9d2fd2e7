use Rattle.std.proofs.Common.{List, ◌∙◌, sym, subst}
use Rattle.std.specs.Prelude.{All}
use Rattle.dm_edge.specs.declared.script.WireScript.{WireScript}
use Rattle.dm_edge.specs.Script.{IsGood}
use Rattle.dm_edge.proofs.net_script.NetScript.new.Goals as goal

pub invariant_of-result : goal.invariant_of-result
invariant_of-result c =
    let P : List WireScript → Type 0 = λ scripts. All IsGood scripts in
    record { scripts = subst P (sym (c.from_vec.ensures.items ∙ c.into_vec.ensures)) c.requires.scripts; faults = c.requires.faults }
