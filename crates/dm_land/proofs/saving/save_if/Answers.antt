use Rattle.std.proofs.Common.{refl}
use Rattle.dm_store.specs.Origin.{said_of}
use Rattle.dm_store.specs.Store.{view_of}
use Rattle.dm_store.proofs.Keeping.{keeps_same}
use Rattle.dm_land.proofs.saving.save_if.Goals as goal

-- nothing was done
pub returns-in-None-clause-keeps : goal.returns-in-None-clause-keeps
returns-in-None-clause-keeps g c = keeps_same g.D.Disk.tells g.D.Disk.history (λ o. said_of (g.O.Origin.says o)) (view_of c.args.store.now) _ refl
