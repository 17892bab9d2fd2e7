use Rattle.dm_list.proofs.run.run_list.Goals as goal

pub returns : goal.returns
returns g c =
    let ran = c.run_at-ending.ensures in
    record {
      explains = record {
        said = c.run_at-ending.result.ending;
        run = ran.run;
        at = c.now-at.result;
        at_is = c.now-at.ensures;
        prints = c.print_ending-status.ensures;
        answers = ran.answers;
        later = ran.later;
        leaves = ran.leaves;
        keeps = ran.keeps;
      };
      completes = ran.besides;
    }
