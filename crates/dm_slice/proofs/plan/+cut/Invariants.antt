use Rattle.dm_slice.proofs.plan.+cut.Given as goal

abbrev pub decreases-cut : goal.decreases-cut
decreases-cut l = l.k
