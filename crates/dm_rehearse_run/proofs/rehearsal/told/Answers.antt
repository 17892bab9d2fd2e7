use Rattle.std.proofs.Common.{subst}
use Rattle.dm_disk.specs.Memory.{held_in}
use Rattle.dm_disk_model.specs.Disk.{History, now}
use Rattle.dm_rehearse_run.specs.Running.{IsCounted}
use Rattle.dm_rehearse_run.proofs.Told.{told_if}
use Rattle.dm_rehearse_run.proofs.rehearsal.told.Goals as goal

pub returns : goal.returns
returns c =
    told_if (held_in c.args.brought.disk) c.args.brought.name c.args.number c.in_ok-counts.counts c.in_ok-sum.sum c.lines_of.result
    (subst (λ (h : History). IsCounted (now h) c.in_ok-counts.counts) c.in_ok-sum.ensures.stays c.in_ok-counts.ensures) c.in_ok-sum.ensures.sum c.lines_of.ensures
