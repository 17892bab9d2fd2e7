use Rattle.std.proofs.Common.{arith}
use Rattle.dm_edge.proofs.net_script.NetScriptNet.connect.Goals as goal
use Rattle.dm_edge.proofs.Scripts.{good_next}

pub invariant_of-result : goal.invariant_of-result
invariant_of-result c =
    let next = good_next c.self.inside.coming.items c.pop_front.new.self.items c.in-Some-pop_front.script c.in-Some-pop_front.ensures.items c.self.invariant.scripts in
    record { within = omega arith; cuts_are = next.0.cuts; faults = next.0.faults }

pub invariant_of-self-2 : goal.invariant_of-self-2
invariant_of-self-2 c =
    let next = good_next c.self.inside.coming.items c.pop_front.new.self.items c.in-Some-pop_front.script c.in-Some-pop_front.ensures.items c.self.invariant.scripts in
    record { scripts = next.1; faults = c.self.invariant.faults }
