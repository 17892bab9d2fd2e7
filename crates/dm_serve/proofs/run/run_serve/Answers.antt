use Rattle.dm_serve.proofs.run.run_serve.Goals as goal

pub returns-clause-explains : goal.returns-clause-explains
returns-clause-explains g c = record {
  said = c.serve_at-ending.result.ending;
  at = c.now-at.result;
  at_is = c.now-at.ensures;
  prints = c.print_ending-status.ensures;
  serves = c.serve_at-ending.ensures.serves;
}
