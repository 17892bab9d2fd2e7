use Rattle.std.proofs.Common.{arith}
use Rattle.dm_slice.proofs.Covers.{covered-cover}
use Rattle.dm_slice.proofs.cover.Cover.covered.Goals as goal

pub overflow_cast-result : goal.overflow_cast-result
overflow_cast-result c =
    let below = covered-cover c.self.inside.slices.items c.self.invariant.cover in
    let value = rw c.deref.ensures.value at c.covered.ensures.value in
    omega arith

pub returns-clause-bound : goal.returns-clause-bound
returns-clause-bound c =
    let below = covered-cover c.self.inside.slices.items c.self.invariant.cover in
    let value = rw c.deref.ensures.value at c.covered.ensures.value in
    omega arith
