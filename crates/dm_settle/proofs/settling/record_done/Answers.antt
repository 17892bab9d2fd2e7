use Rattle.dm_store.specs.Store.{view_of}
use Rattle.dm_settle.proofs.Recorded.{done_admits, done_lives, done_stands}
use Rattle.dm_settle.proofs.settling.record_done.Goals as goal

pub record-requires-clause-taken : goal.record-requires-clause-taken
record-requires-clause-taken g c = done_admits g.D.Disk.tells g.D.Disk.history (view_of c.args.store.now) c.args.id c.requires.store.desk c.requires.whole c.requires.finishing c.args.sum.now c.args.at c.requires.stated

pub record-requires-clause-lives : goal.record-requires-clause-lives
record-requires-clause-lives g c = done_lives g.D.Disk.tells g.D.Disk.history (view_of c.args.store.now) c.args.id c.requires.store.desk c.requires.whole c.requires.finishing c.args.sum.now c.args.at

pub record-requires-clause-stand : goal.record-requires-clause-stand
record-requires-clause-stand g c = done_stands g.D.Disk.tells g.D.Disk.history (view_of c.args.store.now) c.args.id c.requires.store.desk c.requires.whole c.requires.finishing c.args.sum.now c.args.at
