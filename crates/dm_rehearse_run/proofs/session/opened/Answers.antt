use Rattle.std.proofs.Common.{true, ◌++◌}
use Rattle.dm_rehearse_run.proofs.Keeping.{opened_holds, opening_goes_on}
use Rattle.dm_rehearse_run.proofs.session.opened.Goals as goal

pub returns-in-Ok-clause-opens : goal.returns-in-Ok-clause-opens
returns-in-Ok-clause-opens c = c.in-Ok.ensures.answers

pub returns-in-Ok-clause-open : goal.returns-in-Ok-clause-open
returns-in-Ok-clause-open c =
    let opened = c.in-Ok.ensures.answers.1 in
    record {
      whole = opened.whole;
      none_failed = opened.none_failed;
      held = opened_holds c.args.origin c.in-Ok.desk (opened.found ++ c.in-Ok.desk.list) c.in-Ok.ensures.answers.0.origin_is (opened.holds tt true c.requires);
    }

pub returns-in-Ok-clause-goes_on : goal.returns-in-Ok-clause-goes_on
returns-in-Ok-clause-goes_on c = opening_goes_on c.args.origin.seed 0 c.args.disk c.in-Ok.desk.disk (c.in-Ok.ensures.keeps tt) c.requires
