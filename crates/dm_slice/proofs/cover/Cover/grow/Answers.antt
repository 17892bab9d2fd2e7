use Rattle.std.proofs.Common.{◌+◌, set, arith}
use Rattle.dm_slice.proofs.Covers.{GrewAt, grew_at, grown-small, places-grown}
use Rattle.dm_slice.proofs.cover.Cover.grow.Goals as goal
use Rattle.dm_slice.proofs.cover.Cover.grow.Goals.{After-self-1}

pub overflow_add-index_mut : goal.overflow_add-index_mut
overflow_add-index_mut c =
    let within = rw (← c.self.view_is) at c.requires.there in
    let room = rw (← c.self.view_is) at c.requires.room in
    let small = grown-small c.self.inside.slices.items c.args.k c.args.n c.index_mut.result.now c.self.invariant.cover within c.index_mut.ensures.value room in
    omega arith

grew : (c : After-self-1) → GrewAt c.self.inside.slices.items (set c.self.inside.slices.items c.args.k (record c.index_mut.result.now { got = c.index_mut.result.now.got + c.args.n })) c.args.k c.args.n
grew c =
    let within = rw (← c.self.view_is) at c.requires.there in
    let room = rw (← c.self.view_is) at c.requires.room in
    grew_at c.self.inside.slices.items c.args.k c.args.n c.index_mut.result.now c.self.invariant.cover within c.index_mut.ensures.value room

pub invariant_of-self : goal.invariant_of-self
invariant_of-self c = let done = grew c in record { cover = done.cover; most = omega arith }

pub returns-clause-value : goal.returns-clause-value
returns-clause-value c = rw (← c.self.view_is) (grew c).value

pub returns-clause-places : goal.returns-clause-places
returns-clause-places c place = rw ((grew c).value, ← c.self.view_is) (places-grown c.self.inside.slices.items c.args.k c.args.n place)
