use Rattle.std.proofs.Common.{Err, sym, subst}
use Rattle.dm_reply.specs.declared.head.HeadFault.{HeadFault}
use Rattle.dm_reply.specs.Ahead.{HeadShows, LeftBy, ShownBy}
use Rattle.dm_reply.specs.Causes.{IsHeadFault}
use Rattle.dm_reply.specs.Found.{MoreSays}
use Rattle.dm_reply.proofs.HeadLemmas.{cut_broke, fault_broke, fault_own, fault_shows}
use Rattle.dm_reply.proofs.ReadsLemmas.{reads_none}
use Rattle.dm_reply.proofs.receiving.receive_more.Goals as goal

pub returns-in-End-clause-says : goal.returns-in-End-clause-says
returns-in-End-clause-says g c tells left = λ wanted.
    cut_broke wanted (g.W.Wire.told c.args.wire.now) c.args.ahead.now c.requires (subst (LeftBy (g.W.Wire.told c.args.wire.now)) c.in-End.is left)

pub returns-in-End-clause-reads : goal.returns-in-End-clause-reads
returns-in-End-clause-reads g c = reads_none _

pub returns-in-Fault-clause-says : goal.returns-in-Fault-clause-says
returns-in-Fault-clause-says g c tells left = λ wanted.
    subst (λ (f : HeadFault). MoreSays wanted (g.W.Wire.told c.args.wire.now) (g.W.Wire.told c.args.wire.now) c.args.ahead.now c.args.ahead.now (Err f))
    (sym c.head_fault_of.ensures) (fault_broke wanted (g.W.Wire.told c.args.wire.now) c.args.ahead.now c.in-Fault.fault)

pub returns-in-Fault-clause-own : goal.returns-in-Fault-clause-own
returns-in-Fault-clause-own g c = subst IsHeadFault (sym c.head_fault_of.ensures) (fault_own c.in-Fault.fault)

pub returns-in-Fault-clause-reads : goal.returns-in-Fault-clause-reads
returns-in-Fault-clause-reads g c = reads_none _

pub returns-in-Fault-clause-cause : goal.returns-in-Fault-clause-cause
returns-in-Fault-clause-cause g c before shown =
    subst (HeadShows before (g.W.Wire.faults c.args.wire.now)) (sym c.head_fault_of.ensures) (fault_shows before (g.W.Wire.faults c.args.wire.now) c.in-Fault.fault
    (subst (ShownBy before (g.W.Wire.faults c.args.wire.now)) c.in-Fault.is shown))
