use Rattle.std.proofs.Common.{ℕ, IfOk, subst}
use Rattle.dm_disk.specs.Memory.{held_in}
use Rattle.dm_rehearse_run.specs.Running.{IsTold}
use Rattle.dm_rehearse_run.proofs.Told.{printed_if}
use Rattle.dm_rehearse_run.proofs.rehearsal.rehearse.Goals as goal

pub returns : goal.returns
returns c =
    let disk = c.in_ok-brought.brought.disk in
    let name = c.in_ok-brought.brought.name in
    printed_if disk name c.args.number c.told.result c.in_ok-brought.ensures.ran (subst (λ (n : ℕ). IfOk c.told.result (IsTold (held_in disk) name n)) c.from-content.ensures c.told.ensures)
