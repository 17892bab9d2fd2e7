use Rattle.std.proofs.Common.{ℕ, ◌+◌, length, vec_capacity, arith}
use Rattle.dm_types.specs.declared.entry.Entry.TheVariants as entries
use Rattle.dm_store.specs.Origin.{said_of}
use Rattle.dm_store.specs.Store.{HasRoomOf, KeepsRoom, view_of}
use Rattle.dm_store.proofs.Breaking.{broke_admits, broke_keeps, broke_lives, broke_room, broke_stands, on_ok}
use Rattle.dm_store.proofs.recording.interrupt.Goals as goal

pub record-requires-clause-taken : goal.record-requires-clause-taken
record-requires-clause-taken g c = broke_admits g.D.Disk.tells g.D.Disk.history (λ o. said_of (g.O.Origin.says o)) (view_of c.args.store.now) c.args.id c.args.reason c.requires.store.desk c.requires.whole c.requires.lives c.requires.reason

pub record-requires-clause-lives : goal.record-requires-clause-lives
record-requires-clause-lives g c = broke_lives g.D.Disk.tells g.D.Disk.history (λ o. said_of (g.O.Origin.says o)) (view_of c.args.store.now) c.args.id c.args.reason c.requires.store.desk c.requires.whole c.requires.lives

pub record-requires-clause-stand : goal.record-requires-clause-stand
record-requires-clause-stand g c = broke_stands g.D.Disk.tells g.D.Disk.history (λ o. said_of (g.O.Origin.says o)) (view_of c.args.store.now) c.args.id c.args.reason c.requires.store.desk c.requires.whole c.requires.lives

pub returns-clause-keeps : goal.returns-clause-keeps
returns-clause-keeps g c =
    broke_keeps g.D.Disk.tells g.D.Disk.history (λ o. said_of (g.O.Origin.says o)) (view_of c.args.store.now) c.args.id c.args.reason c.requires.store.desk c.requires.whole c.requires.lives _ c.record.ensures.goes

pub record-requires-clause-room : goal.record-requires-clause-room
record-requires-clause-room g c =
    let all = broke_room c.args.id.0 c.args.store.now.lives.items (length c.args.store.now.list.items) 0 (vec_capacity c.args.store.now.list) c.requires.lives c.requires.store.room in
    omega (arith, all)

pub returns-clause-room : goal.returns-clause-room
returns-clause-room g c =
    on_ok c.record.result (KeepsRoom (entries.Broke c.args.id c.args.reason) c.args.store.now c.record.new.store) ((count : ℕ) → HasRoomOf count c.args.store.now → HasRoomOf (count + 2) c.record.new.store)
    (λ keeps count room. keeps (count + 2) (broke_room c.args.id.0 c.args.store.now.lives.items (length c.args.store.now.list.items) count (vec_capacity c.args.store.now.list) c.requires.lives room))
    c.record.ensures.room
