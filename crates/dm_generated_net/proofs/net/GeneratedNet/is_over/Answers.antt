use Rattle.std.proofs.Common.{sym, ◌∙◌, subst}
use Rattle.std.proofs.lemmas.Bool.{eqb-true}
use Rattle.dm_generated_net.specs.Own.{AreItsOwn, wires_of}
use Rattle.dm_generated_net.proofs.Marking.{below_bound, of_wires, wires_long}
use Rattle.dm_generated_net.proofs.net.GeneratedNet.is_over.Goals as goal

pub returns-in-Some : goal.returns-in-Some
returns-in-Some c same =
    let net = c.self.inside in
    let are = c.in-Some.ensures.marked in
    subst AreItsOwn c.self.view_is (record {
      wires = wires_of net.closed;
      streams = of_wires net.number net.wires net.closed are.each;
      below = below_bound net.number net.wires net.closed are.each;
      distinct = are.distinct;
      all = wires_long net.closed ∙ sym c.in-Some.ensures.count ∙ eqb-true c.in-Some.count net.wires same;
    })
