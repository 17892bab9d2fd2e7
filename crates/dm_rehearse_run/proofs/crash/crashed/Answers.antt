use Rattle.dm_disk.specs.Memory.{held_in}
use Rattle.dm_rehearse_run.proofs.Keeping.{crash_if, crashed_kept_if}
use Rattle.dm_rehearse_run.proofs.crash.crashed.Goals as goal

pub returns-clause-crash : goal.returns-clause-crash
returns-clause-crash c = crash_if c.args.number c.pick_of.result c.args.disk c.image.result c.pick_of.ensures c.image.ensures.picked c.image.ensures.leaves c.image.ensures.fresh

pub returns-clause-kept : goal.returns-clause-kept
returns-clause-kept c = crashed_kept_if c.args.number c.pick_of.result (held_in c.args.disk) c.image.result c.image.ensures.picked c.image.ensures.leaves
