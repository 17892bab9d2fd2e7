use Rattle.std.proofs.Common.{subst}
use Rattle.dm_edge.specs.declared.origin.Generated.{Generated}
use Rattle.dm_rehearse_run.specs.Sessions.{GoesOn}
use Rattle.dm_rehearse_run.proofs.Keeping.{goes_on_then}
use Rattle.dm_rehearse_run.proofs.session.begin.Goals as goal

pub returns-clause-begins : goal.returns-clause-begins
returns-clause-begins c = record { asked = c.added.new.desk; id = c.in_ok-id.id; adds = c.in_ok-id.ensures.adds; tries = c.attempted.ensures.tries }

pub returns-clause-goes_on : goal.returns-clause-goes_on
returns-clause-goes_on c =
    goes_on_then c.args.desk.now.origin.seed c.args.desk.now.disk c.added.new.desk.disk c.attempted.new.desk.disk c.in_ok-id.ensures.goes_on
    (subst (λ (o : Generated). GoesOn o.seed c.added.new.desk.disk c.attempted.new.desk.disk) c.in_ok-id.ensures.origin c.attempted.ensures.goes_on)
