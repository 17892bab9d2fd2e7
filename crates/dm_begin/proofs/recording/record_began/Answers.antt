use Rattle.std.proofs.Common.{arith}
use Rattle.dm_store.specs.Origin.{said_of}
use Rattle.dm_store.specs.Store.{view_of}
use Rattle.dm_store.proofs.Begun.{began_allows, began_count, began_lives}
use Rattle.dm_begin.proofs.recording.record_began.Goals as goal

pub record-requires-clause-lives : goal.record-requires-clause-lives
record-requires-clause-lives g c =
    began_lives g.D.Disk.tells g.D.Disk.history (λ o. said_of (g.O.Origin.says o)) (view_of c.args.store.now) c.requires.store.desk c.requires.whole c.args.pass.id c.args.pass.attempt c.args.by c.args.at c.requires.taken

pub record-requires-clause-room : goal.record-requires-clause-room
record-requires-clause-room g c =
    let count = began_count g.D.Disk.tells g.D.Disk.history (λ o. said_of (g.O.Origin.says o)) (view_of c.args.store.now) c.requires.store.desk c.requires.whole c.args.pass.id c.args.pass.attempt c.args.by c.args.at c.requires.taken in
    let room = c.requires.room in
    omega (arith, count, room)

pub returns-clause-keeps : goal.returns-clause-keeps
returns-clause-keeps g c told good before holds =
    c.record.ensures.goes told good before holds
    (began_allows g.D.Disk.tells g.D.Disk.history (λ o. said_of (g.O.Origin.says o)) (view_of c.args.store.now) c.requires.store.desk c.requires.whole c.args.pass.id c.args.pass.attempt c.args.by c.args.at c.requires.taken good before holds)
