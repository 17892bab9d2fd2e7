use Rattle.std.proofs.Common.{refl, sym, ◌∙◌}
use Rattle.dm_archive.proofs.Leaves.{dropped_none}
use Rattle.dm_archive.proofs.removing.drop_row.Goals as goal

pub returns-in-Ok-false-clause-answers : goal.returns-in-Ok-false-clause-answers
returns-in-Ok-false-clause-answers g c =
    (refl, λ knows. dropped_none c.args.id.0 (g.K.Keeper.rows c.args.keeper.now) (g.K.Keeper.rows c.drop_row.new.self) (sym (c.in-Ok-false.ensures.was knows) ∙ c.in-Ok-false.field-0-test) (c.in-Ok-false.ensures.dropped knows))
