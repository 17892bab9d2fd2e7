use Rattle.std.proofs.Common.{sym, ◌∙◌, subst}
use Rattle.dm_disk.specs.declared.memory.MemoryDisk.{MemoryDisk}
use Rattle.dm_disk.specs.Memory.{held_in}
use Rattle.dm_edge.specs.declared.origin.Generated.{Generated}
use Rattle.dm_rehearse_run.specs.Kept.{IsKeptFor}
use Rattle.dm_rehearse_run.specs.Sessions.{GoesOn, Opens}
use Rattle.dm_rehearse_run.proofs.Keeping.{goes_on_then}
use Rattle.dm_rehearse_run.proofs.session.first_session.Goals as goal

pub returns-clause-first : goal.returns-clause-first
returns-clause-first c =
    let opened = c.in_ok-desk.desk in
    let closing = c.begin.new.desk in
    record {
      opened = opened;
      opens = subst (λ (o : Generated). Opens o c.args.disk opened) c.origin.ensures c.in_ok-desk.ensures.opens;
      order = c.in_ok-order.order;
      order_is = c.in_ok-order.ensures.is;
      closing = closing;
      begins = c.in_ok-begin.ensures.begins;
      left_is = c.closed.ensures.is;
      goes_on = goes_on_then c.args.net.now.number c.args.disk opened.disk c.closed.result
          (subst (λ (o : Generated). GoesOn o.seed c.args.disk opened.disk) c.origin.ensures c.in_ok-desk.ensures.goes_on)
          (subst (λ (left : MemoryDisk). GoesOn c.args.net.now.number opened.disk left) (sym c.closed.ensures.is)
          (subst (λ (o : Generated). GoesOn o.seed opened.disk closing.disk) (c.in_ok-desk.ensures.origin ∙ c.origin.ensures) c.in_ok-begin.ensures.goes_on));
    }

pub returns-clause-kept : goal.returns-clause-kept
returns-clause-kept c =
    subst (λ (o : Generated). IsKeptFor o.seed (held_in c.closed.result)) (c.in_ok-begin.ensures.origin ∙ c.in_ok-desk.ensures.origin ∙ c.origin.ensures) c.closed.ensures.kept
