use Rattle.std.proofs.Common.{◌≡◌, rules}
use Rattle.dm_slice.specs.Cover.{IsCoverWithin}
use Rattle.dm_slice.proofs.Covers.{cover-within}
use Rattle.dm_slice.proofs.cover.Cover.from_slices.Goals as goal

pub invariant_of-result : goal.invariant_of-result
invariant_of-result c =
    let same : c.extend_from_slice.new.self.items ≡ c.items-kept.result.now = search rules in
    let is : IsCoverWithin c.args.total c.items-kept.result.now = search rules in
    rw same (record { cover = cover-within c.args.total c.items-kept.result.now is; most = c.items-kept.ensures.most })
