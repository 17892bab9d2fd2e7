use Rattle.dm_slice.proofs.Joins.{normal_of-result}
use Rattle.dm_slice.proofs.cover.Cover.normal.Goals as goal

pub returns-clause-meaning : goal.returns-clause-meaning
returns-clause-meaning c =
    let value = rw c.deref.ensures.value at c.normal_slices.ensures in
    rw (← c.self.view_is) (normal_of-result c.args.total c.self.inside.slices.items c.normal_slices.result c.self.invariant.cover value)
