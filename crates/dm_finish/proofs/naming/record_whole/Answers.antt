use Rattle.std.proofs.Common.{length, vec_capacity, arith}
use Rattle.dm_types.specs.declared.entry.Entry.TheVariants as entries
use Rattle.dm_store.specs.Origin.{said_of}
use Rattle.dm_store.specs.Store.{HasRoomOf, KeepsRoom, view_of}
use Rattle.dm_store.proofs.Breaking.{on_ok}
use Rattle.dm_finish.proofs.Wholes.{finishing_admits, finishing_keeps, finishing_lives, finishing_room, finishing_stands}
use Rattle.dm_finish.proofs.naming.record_whole.Goals as goal

pub record-requires-clause-taken : goal.record-requires-clause-taken
record-requires-clause-taken g c =
    finishing_admits g.D.Disk.tells g.D.Disk.history (λ o. said_of (g.O.Origin.says o)) (view_of c.args.store.now) c.requires.store.desk c.requires.whole c.args.id c.args.total c.requires.ending.digest c.requires.ending.ending

pub record-requires-clause-lives : goal.record-requires-clause-lives
record-requires-clause-lives g c =
    finishing_lives g.D.Disk.tells g.D.Disk.history (λ o. said_of (g.O.Origin.says o)) (view_of c.args.store.now) c.requires.store.desk c.requires.whole c.args.id c.args.total c.requires.ending.digest c.requires.ending.ending

pub record-requires-clause-stand : goal.record-requires-clause-stand
record-requires-clause-stand g c =
    finishing_stands g.D.Disk.tells g.D.Disk.history (λ o. said_of (g.O.Origin.says o)) (view_of c.args.store.now) c.requires.store.desk c.requires.whole c.args.id c.args.total c.requires.ending.digest c.requires.ending.ending

pub record-requires-clause-room : goal.record-requires-clause-room
record-requires-clause-room g c =
    let all = finishing_room g.D.Disk.tells g.D.Disk.history (λ o. said_of (g.O.Origin.says o)) (view_of c.args.store.now) c.requires.store.desk c.requires.whole c.args.id c.args.total c.requires.ending.digest c.requires.ending.ending (length c.args.store.now.list.items) 0 (vec_capacity c.args.store.now.list) c.requires.store.room in
    omega (arith, all)

pub returns-clause-keeps : goal.returns-clause-keeps
returns-clause-keeps g c =
    finishing_keeps g.D.Disk.tells g.D.Disk.history (λ o. said_of (g.O.Origin.says o)) (view_of c.args.store.now) c.requires.store.desk c.requires.whole c.args.id c.args.total c.requires.ending.digest c.requires.ending.ending _ c.record.ensures.goes

pub returns-clause-room : goal.returns-clause-room
returns-clause-room g c =
    on_ok c.record.result (KeepsRoom (entries.Finishing c.args.id c.args.total) c.args.store.now c.record.new.store) (HasRoomOf 2 c.record.new.store)
    (λ keeps. keeps 2 (finishing_room g.D.Disk.tells g.D.Disk.history (λ o. said_of (g.O.Origin.says o)) (view_of c.args.store.now) c.requires.store.desk c.requires.whole c.args.id c.args.total c.requires.ending.digest c.requires.ending.ending (length c.args.store.now.list.items) 0 (vec_capacity c.args.store.now.list) c.requires.store.room)) c.record.ensures.room
