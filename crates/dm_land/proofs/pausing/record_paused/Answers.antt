use Rattle.std.proofs.Common.{refl, arith}
use Rattle.dm_types.specs.declared.entry.Entry.TheVariants as entries
use Rattle.dm_item.specs.Listing.{applied}
use Rattle.dm_store.specs.Origin.{said_of}
use Rattle.dm_store.specs.Store.{view_of}
use Rattle.dm_store.proofs.Idle.{idle_keeps, idle_lives, idle_room, idle_stands}
use Rattle.dm_land.proofs.pausing.record_paused.Goals as goal

pub record-requires-clause-stand : goal.record-requires-clause-stand
record-requires-clause-stand g c =
    idle_stands g.D.Disk.tells g.D.Disk.history (λ o. said_of (g.O.Origin.says o)) (view_of c.args.store.now) c.requires.store.desk c.requires.whole (entries.Paused c.args.id) refl c.requires.taken

pub record-requires-clause-lives : goal.record-requires-clause-lives
record-requires-clause-lives g c =
    idle_lives g.D.Disk.tells g.D.Disk.history (λ o. said_of (g.O.Origin.says o)) (view_of c.args.store.now) c.requires.store.desk c.requires.whole (entries.Paused c.args.id) refl c.requires.taken

pub record-requires-clause-room : goal.record-requires-clause-room
record-requires-clause-room g c =
    let fewer = idle_room (entries.Paused c.args.id) refl (applied (entries.Paused c.args.id) c.args.store.now.items) c.args.store.now.lives.items in
    let room = c.requires.room in
    omega (arith, fewer, room)

pub returns-clause-keeps : goal.returns-clause-keeps
returns-clause-keeps g c =
    idle_keeps g.D.Disk.tells g.D.Disk.history (λ o. said_of (g.O.Origin.says o)) (view_of c.args.store.now) c.requires.store.desk c.requires.whole (entries.Paused c.args.id) refl c.requires.taken _ c.record.ensures.goes
