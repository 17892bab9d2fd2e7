use Rattle.dm_disk.specs.Memory.{held_in}
use Rattle.dm_rehearse_run.proofs.Read.{content_summed}
use Rattle.dm_rehearse_run.proofs.rehearsal.published_sum.Goals as goal

pub returns-in-Some-clause-sum : goal.returns-in-Some-clause-sum
returns-in-Some-clause-sum c = content_summed (held_in c.args.disk.now) c.args.name c.args.number c.in-Some.sum c.requires c.in-Some.ensures.sum
