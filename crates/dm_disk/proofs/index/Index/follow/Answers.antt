use Rattle.std.proofs.Common.{◌≡◌, ◌+◌, ap}
use Rattle.std.proofs.lemmas.Result.{on_ok_weaker}
use Rattle.dm_disk.specs.Index.{others_than}
use Rattle.dm_disk.proofs.Entries.{sets_without}
use Rattle.dm_disk.proofs.Following.{follows_create, follows_write, follows_rename, follows_remove}
use Rattle.dm_disk.proofs.index.Index.follow.Goals as goal

pub returns-in-Create-clause-ok : goal.returns-in-Create-clause-ok
returns-in-Create-clause-ok c =
    on_ok_weaker c.create.result
    (follows_create c.args.number c.args.call.now.area c.args.call.now.act c.in-Create.name c.args.self.now.entries.items c.create.new.self.entries.items c.in-Create.is) c.create.ensures.ok

pub returns-in-Write-clause-ok : goal.returns-in-Write-clause-ok
returns-in-Write-clause-ok c =
    follows_write c.args.number c.args.call.now.area c.args.call.now.act c.in-Write.file c.in-Write.at (c.in-Write.at + c.len.result) c.in-Write.bytes
    c.args.self.now.entries.items c.grow.new.self.entries.items c.in-Write.is (ap (λ n. c.in-Write.at + n) c.len.ensures) c.grow.ensures

pub returns-in-Rename-clause-ok : goal.returns-in-Rename-clause-ok
returns-in-Rename-clause-ok c =
    on_ok_weaker c.rename.result
    (follows_rename c.args.number c.args.call.now.area c.args.call.now.act c.in-Rename.from c.in-Rename.to c.args.self.now.entries.items c.rename.new.self.entries.items c.in-Rename.is) c.rename.ensures.ok

pub returns-in-Remove-clause-ok : goal.returns-in-Remove-clause-ok
returns-in-Remove-clause-ok c =
    let old = c.args.self.now.entries.items in
    let new = c.forget.new.self.entries.items in
    let without : new ≡ others_than c.args.call.now.area c.in-Remove.name old = rw c.bytes.ensures at c.forget.ensures.entries in
    follows_remove c.args.number c.args.call.now.area c.args.call.now.act c.in-Remove.name old new c.in-Remove.is (sets_without c.args.call.now.area c.in-Remove.name old new without)
