use Rattle.std.proofs.Common.{refl}
use Rattle.dm_store.specs.Origin.{said_of}
use Rattle.dm_store.specs.Store.{view_of}
use Rattle.dm_store.proofs.Keeping.{keeps_same}
use Rattle.dm_change.proofs.adding.add.Goals as goal

pub returns-then-store-clause-keeps : goal.returns-then-store-clause-keeps
returns-then-store-clause-keeps g c = keeps_same g.D.Disk.tells g.D.Disk.history (λ o. said_of (g.O.Origin.says o)) (view_of c.args.store.now) _ refl

pub returns-in-Known-clause-keeps : goal.returns-in-Known-clause-keeps
returns-in-Known-clause-keeps g c = keeps_same g.D.Disk.tells g.D.Disk.history (λ o. said_of (g.O.Origin.says o)) (view_of c.args.store.now) _ refl

pub returns-in-Other-clause-keeps : goal.returns-in-Other-clause-keeps
returns-in-Other-clause-keeps g c = keeps_same g.D.Disk.tells g.D.Disk.history (λ o. said_of (g.O.Origin.says o)) (view_of c.args.store.now) _ refl

pub returns-in-Full-clause-keeps : goal.returns-in-Full-clause-keeps
returns-in-Full-clause-keeps g c = keeps_same g.D.Disk.tells g.D.Disk.history (λ o. said_of (g.O.Origin.says o)) (view_of c.args.store.now) _ refl
