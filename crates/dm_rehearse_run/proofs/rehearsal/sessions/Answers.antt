use Rattle.std.proofs.Common.{refl, ◌∙◌, ap, subst}
use Rattle.dm_generated_net.specs.Wired.{NetState}
use Rattle.dm_rehearse_run.specs.Sessions.{FirstSession}
use Rattle.dm_rehearse_run.proofs.rehearsal.sessions.Goals as goal

pub returns-then-is_over-clause-ran : goal.returns-then-is_over-clause-ran
returns-then-is_over-clause-ran c =
    let begun = c.new-net.ensures in
    let same = c.in_ok-disk-2.ensures.stays ∙ ap (λ (net : NetState). net.number) begun in
    record {
      start = c.in_ok-disk.disk;
      empty = c.in_ok-disk.ensures.empty;
      lost = c.in_ok-disk-2.disk;
      net = c.first_session.new.net;
      net_is = same;
      first = subst (λ (net : NetState). FirstSession c.args.number c.in_ok-disk.disk c.in_ok-disk-2.disk net c.first_session.new.net) begun c.in_ok-disk-2.ensures.first;
      found = c.in_ok-disk-3.disk;
      crash = c.in_ok-disk-3.ensures.crash;
      last = c.second_session.new.net;
      last_is = c.in_ok-brought.ensures.stays ∙ same;
      own = c.if-is_over.ensures refl;
      second = c.in_ok-brought.ensures.second;
    }
