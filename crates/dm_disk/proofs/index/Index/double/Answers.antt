use Rattle.std.proofs.Common.{◌≡◌, None, sym, subst, Option}
use Rattle.dm_disk.specs.Index.{look, others_than, Sets}
use Rattle.dm_disk.specs.declared.index.Standing.{Standing}
use Rattle.dm_disk.proofs.Entries.{sets_without}
use Rattle.dm_disk.proofs.index.Index.double.Goals as goal

pub returns-in-None-clause-ok : goal.returns-in-None-clause-ok
returns-in-None-clause-ok c =
    let old = c.args.self.now.entries.items in
    let new = c.forget.new.self.entries.items in
    let none : look c.args.area c.args.from.now old ≡ None = sym (rw c.bytes.ensures at c.in-None.ensures) in
    let without : new ≡ others_than c.args.area c.args.to.now old = rw c.bytes-in-None.ensures at c.forget.ensures.entries in
    subst (λ (found : Option Standing). Sets c.args.area c.args.to.now found old new) (sym none) (sets_without c.args.area c.args.to.now old new without)
