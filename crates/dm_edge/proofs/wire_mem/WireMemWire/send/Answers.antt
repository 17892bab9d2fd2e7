use Rattle.std.proofs.Common.{◌≡◌, Some}
use Rattle.dm_edge.specs.Script.{fault_at}
use Rattle.dm_edge.proofs.wire_mem.WireMemWire.send.Goals as goal
use Rattle.dm_edge.proofs.Scripts.{listed_wants}

pub returns-in-Some-clause-wants : goal.returns-in-Some-clause-wants
returns-in-Some-clause-wants c =
    let w = c.self.inside in
    let listed : fault_at w.failing w.calls ≡ Some c.in-Some.fault = cc (c.listed_fault.ensures, c.items.ensures, c.in-Some.is) in
    rw (← c.self.view_is) (listed_wants w.failing w.calls w.wants c.in-Some.fault c.self.invariant.faults listed)
