use Rattle.dm_past.proofs.all.run_with_history.Goals as goal

pub returns : goal.returns
returns g c = record {
  said = c.run_at-ending.result.ending;
  at = c.now-at.result;
  at_is = c.now-at.ensures;
  prints = c.print_ending-status.ensures;
  runs = c.run_at-ending.ensures;
}
