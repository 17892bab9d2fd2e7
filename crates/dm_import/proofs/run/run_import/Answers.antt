use Rattle.dm_import.proofs.run.run_import.Goals as goal

pub returns : goal.returns
returns g c net_faults closed =
    let ran = c.run_at-ending.ensures net_faults closed in
    record {
      said = c.run_at-ending.result.ending;
      run = ran.run;
      at = c.now-at.result;
      at_is = c.now-at.ensures;
      prints = c.print_ending-status.ensures;
      answers = ran.answers;
      later = ran.later;
      rest = ran.rest;
      leaves = ran.leaves;
      keeps = ran.keeps;
    }
