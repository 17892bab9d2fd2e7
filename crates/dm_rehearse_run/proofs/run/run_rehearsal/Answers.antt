use Rattle.dm_rehearse_run.proofs.run.run_rehearsal.Goals as goal

pub returns : goal.returns
returns g c = record { said = c.ending_of-ending.result; says = c.ending_of-ending.ensures.says; comes = c.ending_of-ending.ensures.comes; prints = c.print_ending.ensures }
