use Rattle.dm_rehearse_run.proofs.Keeping.{calls_go_on, goes_holds}
use Rattle.dm_rehearse_run.proofs.session.added.Goals as goal

pub returns-in-Ok-New-clause-adds : goal.returns-in-Ok-New-clause-adds
returns-in-Ok-New-clause-adds c = rw c.in-Ok-New.field-0-is at c.in-Ok-New.ensures.answers

pub returns-in-Ok-New-clause-open : goal.returns-in-Ok-New-clause-open
returns-in-Ok-New-clause-open c =
    let answers = rw c.in-Ok-New.field-0-is at c.in-Ok-New.ensures.answers in
    record {
      whole = answers.2.broken_is;
      none_failed = answers.2.failed_is;
      held = goes_holds c.args.desk.now c.add.new.self c.add.ensures.keeps answers.2.origin c.requires.open.held;
    }

pub returns-in-Ok-New-clause-goes_on : goal.returns-in-Ok-New-clause-goes_on
returns-in-Ok-New-clause-goes_on c = calls_go_on c.args.desk.now c.add.new.self c.add.ensures.keeps c.requires.open.held
