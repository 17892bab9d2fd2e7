use Rattle.dm_store.specs.Origin.{said_of}
use Rattle.dm_store.specs.Store.{view_of}
use Rattle.dm_finish.proofs.Named.{done_admits, done_keeps, done_lives, done_stands}
use Rattle.dm_finish.proofs.naming.record_done.Goals as goal

pub record-requires-clause-taken : goal.record-requires-clause-taken
record-requires-clause-taken g c =
    done_admits g.D.Disk.tells g.D.Disk.history (λ o. said_of (g.O.Origin.says o)) (view_of c.args.store.now) c.requires.store.desk c.requires.whole c.args.id c.args.digest c.args.at c.requires.named

pub record-requires-clause-lives : goal.record-requires-clause-lives
record-requires-clause-lives g c =
    done_lives g.D.Disk.tells g.D.Disk.history (λ o. said_of (g.O.Origin.says o)) (view_of c.args.store.now) c.requires.store.desk c.requires.whole c.args.id c.args.digest c.args.at c.requires.named

pub record-requires-clause-stand : goal.record-requires-clause-stand
record-requires-clause-stand g c =
    done_stands g.D.Disk.tells g.D.Disk.history (λ o. said_of (g.O.Origin.says o)) (view_of c.args.store.now) c.requires.store.desk c.requires.whole c.args.id c.args.digest c.args.at c.requires.named

pub returns-clause-keeps : goal.returns-clause-keeps
returns-clause-keeps g c =
    done_keeps g.D.Disk.tells g.D.Disk.history (λ o. said_of (g.O.Origin.says o)) (view_of c.args.store.now) c.requires.store.desk c.requires.whole c.args.id c.args.digest c.args.at c.requires.named _ c.record.ensures.goes
