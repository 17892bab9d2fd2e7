use Rattle.std.proofs.Common.{subst}
use Rattle.dm_edge.specs.declared.origin.Generated.{Generated}
use Rattle.dm_rehearse_run.specs.Sessions.{GoesOn}
use Rattle.dm_rehearse_run.proofs.Keeping.{continues_if, goes_on_then, on_ok}
use Rattle.dm_rehearse_run.proofs.session.go_on.Goals as goal

pub returns-clause-continues : goal.returns-clause-continues
returns-clause-continues c =
    continues_if c.args.desk.now c.resumed.new.desk c.fetched.new.desk c.args.net.now c.fetched.new.net c.name_in.result
    c.in_ok-resumed.ensures.resumes c.in_ok-fetched.ensures.brings c.name_in.ensures.file

pub returns-clause-goes_on : goal.returns-clause-goes_on
returns-clause-goes_on c =
    on_ok c.name_in.result (goes_on_then c.args.desk.now.origin.seed c.args.desk.now.disk c.resumed.new.desk.disk c.fetched.new.desk.disk c.in_ok-resumed.ensures.goes_on
    (subst (λ (o : Generated). GoesOn o.seed c.resumed.new.desk.disk c.fetched.new.desk.disk) c.in_ok-resumed.ensures.origin c.in_ok-fetched.ensures.goes_on))
