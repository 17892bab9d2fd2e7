use Rattle.std.proofs.Common.{◌≡◌, Some, sym, ◌∙◌, arith}
use Rattle.dm_disk.specs.Index.{look}
use Rattle.dm_disk.proofs.Sizes.{size_near}
use Rattle.dm_disk.proofs.log.Log.standing_at.Goals as goal

pub returns-clause-near : goal.returns-clause-near
returns-clause-near c =
    let log = c.args.self.now in
    let found : look c.args.place.now.area c.bytes.result.now log.index.entries.items ≡ Some c.unwrap.result = sym c.find.ensures ∙ c.unwrap.ensures in
    let low = size_near log.calls.items log.index.entries.items c.args.place.now.area c.bytes.result.now c.unwrap.result log.told found in
    omega (arith, low, log.near)
