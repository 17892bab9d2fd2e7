use Rattle.dm_report.specs.declared.verdict.Verdict.TheVariants as verdicts
use Rattle.dm_does.specs.Saying.{shown}
use Rattle.dm_list.proofs.Texts.{ends_text, fails_show}
use Rattle.dm_list.proofs.saying.say_failed.Goals as goal

pub returns-in_default-clause-says : goal.returns-in_default-clause-says
returns-in_default-clause-says c =
    ends_text (verdicts.DiskFailed c.args.kind) c.shown.result (shown c.args.items.now.items c.args.show) c.with_text.result c.with_text.ensures c.shown.ensures

pub returns-in_default-clause-fails : goal.returns-in_default-clause-fails
returns-in_default-clause-fails c = fails_show c.args.kind c.args.show c.with_text.result c.in_default.not-Nothing
