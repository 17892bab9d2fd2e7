use Rattle.dm_does.specs.Saying.{shown}
use Rattle.dm_list.proofs.Texts.{ends_text, fails_other}
use Rattle.dm_list.proofs.saying.say_end.Goals as goal

pub returns-in_default-clause-says : goal.returns-in_default-clause-says
returns-in_default-clause-says c =
    ends_text c.args.verdict c.shown.result (shown c.args.items.now.items c.args.show) c.with_text.result c.with_text.ensures c.shown.ensures

pub returns-in_default-clause-fails : goal.returns-in_default-clause-fails
returns-in_default-clause-fails c = fails_other c.args.verdict c.args.show c.with_text.result c.in_default.not-DiskFailed
