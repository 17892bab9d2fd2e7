use Rattle.std.proofs.Common.{◌≡◌, sym, ◌∙◌}
use Rattle.std.proofs.lemmas.Bool.{iff_false}
use Rattle.dm_disk.specs.Index.{others_than}
use Rattle.dm_disk.proofs.Entries.{moved}
use Rattle.dm_disk.proofs.index.Index.rename.Goals as goal

pub returns-then-not-is-clause-ok : goal.returns-then-not-is-clause-ok
returns-then-not-is-clause-ok c =
    let old = c.args.self.now.entries.items in
    let mid = c.double.new.self.entries.items in
    let new = c.forget.new.self.entries.items in
    let without : new ≡ others_than c.args.area c.args.from.now mid = rw c.bytes-then-not-is.ensures at c.forget.ensures.entries in
    moved c.args.area c.args.from.now c.args.to.now old mid new (λ same. iff_false c.is.ensures c.if-not-is.true (same ∙ sym c.bytes.ensures)) c.in_ok-double.ensures.ok without
