use Rattle.std.proofs.Common.{true, false, refl}
use Rattle.dm_disk_model.specs.Disk.{now}
use Rattle.dm_settle.proofs.Verdicts.{judges_name, judges_part}
use Rattle.dm_settle.proofs.judging.judge.Goals as goal

pub returns-in-Ok-clause-judges : goal.returns-in-Ok-clause-judges
returns-in-Ok-clause-judges g c =
    judges_part g.D.Disk.tells (now (g.D.Disk.history c.args.disk.now)) c.args.names.now c.args.moving.now true false c.in-true-false.ensures c.in-true-false.ensures' c.in-Ok.weighed c.verdict.result refl refl c.verdict.ensures c.in-Ok.ensures.weighs

pub returns-in-Ok-weigh-clause-judges : goal.returns-in-Ok-weigh-clause-judges
returns-in-Ok-weigh-clause-judges g c =
    judges_name g.D.Disk.tells (now (g.D.Disk.history c.args.disk.now)) c.args.names.now c.args.moving.now false true c.in-false-true.ensures c.in-false-true.ensures' c.in-Ok-weigh.weighed c.verdict-in-Ok-weigh.result refl refl c.verdict-in-Ok-weigh.ensures c.in-Ok-weigh.ensures.weighs
