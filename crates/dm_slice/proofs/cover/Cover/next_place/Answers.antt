use Rattle.std.proofs.Common.{◌<◌, ◌≤◌, length, sym, arith}
use Rattle.dm_slice.proofs.Covers.{end-read, next_of-read, next_of-past}
use Rattle.dm_slice.proofs.cover.Cover.next_place.Goals as goal

pub overflow_add-result : goal.overflow_add-result
overflow_add-result c =
    let items = c.self.inside.slices.items in
    let within : c.args.k < length items = omega (arith, c.self.inside.slices.ok.0) in
    let below = end-read items c.args.k c.index-slice.result.now c.self.invariant.cover within c.index-slice.ensures in
    omega arith

pub returns : goal.returns
returns c =
    let items = c.self.inside.slices.items in
    let within : c.args.k < length items = omega (arith, c.self.inside.slices.ok.0) in
    rw (← c.self.view_is) (sym (next_of-read items c.args.k c.index-slice.result.now within c.index-slice.ensures))

pub returns-then-k-len : goal.returns-then-k-len
returns-then-k-len c =
    let items = c.self.inside.slices.items in
    let past : length items ≤ c.args.k = omega (arith, c.self.inside.slices.ok.0) in
    rw (← c.self.view_is) (sym (next_of-past items c.args.k past))
