use Rattle.dm_kept.proofs.Damages.{never_both, one_place}
use Rattle.dm_kept.proofs.laws.damage_is_one.Goals as goal

pub returns-clause-never_both : goal.returns-clause-never_both
returns-clause-never_both c = never_both

pub returns-clause-one_place : goal.returns-clause-one_place
returns-clause-one_place c = one_place
