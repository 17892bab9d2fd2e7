use Rattle.std.proofs.Common.{arith}
use Rattle.dm_store.specs.Store.{view_of}
use Rattle.dm_store.proofs.Lives.{no_more_lives}
use Rattle.dm_settle.proofs.Recorded.{broke_admits, broke_lives, broke_stands}
use Rattle.dm_settle.proofs.settling.record_broke.Goals as goal

pub record-requires-clause-taken : goal.record-requires-clause-taken
record-requires-clause-taken g c = broke_admits g.D.Disk.tells g.D.Disk.history (view_of c.args.store.now) c.args.id c.requires.store.desk c.requires.whole c.requires.finishing c.args.reason c.requires.reason

pub record-requires-clause-lives : goal.record-requires-clause-lives
record-requires-clause-lives g c = broke_lives g.D.Disk.tells g.D.Disk.history (view_of c.args.store.now) c.args.id c.requires.store.desk c.requires.whole c.requires.finishing c.args.reason

pub record-requires-clause-stand : goal.record-requires-clause-stand
record-requires-clause-stand g c = broke_stands g.D.Disk.tells g.D.Disk.history (view_of c.args.store.now) c.args.id c.requires.store.desk c.requires.whole c.requires.finishing c.args.reason

pub record-requires-clause-room : goal.record-requires-clause-room
record-requires-clause-room g c = let fewer = no_more_lives c.args.id.0 c.args.store.now.lives.items in let room = c.requires.room in omega (arith, fewer, room)
