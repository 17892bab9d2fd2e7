use Rattle.std.proofs.Common.{sym, ◌∙◌, subst}
use Rattle.dm_disk.specs.declared.memory.MemoryDisk.{MemoryDisk}
use Rattle.dm_edge.specs.declared.origin.Generated.{Generated}
use Rattle.dm_rehearse_run.specs.Sessions.{GoesOn, Opens}
use Rattle.dm_rehearse_run.proofs.Keeping.{goes_on_then}
use Rattle.dm_rehearse_run.proofs.session.second_session.Goals as goal

pub returns-clause-second : goal.returns-clause-second
returns-clause-second c =
    let opened = c.in_ok-desk.desk in
    let closing = c.go_on.new.desk in
    record {
      opened = opened;
      opens = subst (λ (o : Generated). Opens o c.args.disk opened) c.origin.ensures c.in_ok-desk.ensures.opens;
      closing = closing;
      continues = c.in_ok-name.ensures.continues;
      left_is = c.into_disk.ensures;
      goes_on = goes_on_then c.args.net.now.number c.args.disk opened.disk c.into_disk.result
          (subst (λ (o : Generated). GoesOn o.seed c.args.disk opened.disk) c.origin.ensures c.in_ok-desk.ensures.goes_on)
          (subst (λ (left : MemoryDisk). GoesOn c.args.net.now.number opened.disk left) (sym c.into_disk.ensures)
          (subst (λ (o : Generated). GoesOn o.seed opened.disk closing.disk) (c.in_ok-desk.ensures.origin ∙ c.origin.ensures) c.in_ok-name.ensures.goes_on));
    }
