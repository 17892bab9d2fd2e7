use Rattle.std.proofs.Common.{refl}
use Rattle.dm_store.specs.Origin.{said_of}
use Rattle.dm_store.specs.Store.{view_of}
use Rattle.dm_store.proofs.Keeping.{keeps_same}
use Rattle.dm_land.proofs.pausing.pause.Goals as goal

-- nothing was done
pub returns-in_default-clause-keeps : goal.returns-in_default-clause-keeps
returns-in_default-clause-keeps g c = keeps_same g.D.Disk.tells g.D.Disk.history (λ o. said_of (g.O.Origin.says o)) (view_of c.args.store.now) _ refl

pub returns-in-Paused-clause-keeps : goal.returns-in-Paused-clause-keeps
returns-in-Paused-clause-keeps g c = keeps_same g.D.Disk.tells g.D.Disk.history (λ o. said_of (g.O.Origin.says o)) (view_of c.args.store.now) _ refl

pub returns-in-Finishing-clause-keeps : goal.returns-in-Finishing-clause-keeps
returns-in-Finishing-clause-keeps g c = keeps_same g.D.Disk.tells g.D.Disk.history (λ o. said_of (g.O.Origin.says o)) (view_of c.args.store.now) _ refl
