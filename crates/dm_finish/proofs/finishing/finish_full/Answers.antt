use Rattle.std.proofs.Common.{ap}
use Rattle.dm_disk_model.proofs.Beside.{besides_stay}
use Rattle.dm_store.specs.Origin.{said_of}
use Rattle.dm_store.specs.Store.{view_of}
use Rattle.dm_store.specs.View.{View}
use Rattle.dm_store.proofs.Keeping.{keeps_same}
use Rattle.dm_answers.specs.Reads.{IsPartOrNameOf}
use Rattle.dm_finish.proofs.Readies.{full_named}
use Rattle.dm_finish.proofs.finishing.finish_full.Goals as goal

pub prepare_ending-requires-clause-told : goal.prepare_ending-requires-clause-told
prepare_ending-requires-clause-told g c =
    full_named g.D.Disk.tells g.D.Disk.history (view_of c.args.store.now) c.requires.store.desk c.requires.whole c.args.pass.now.id c.args.pass.now.attempt c.args.total c.requires.full

-- nothing was done
pub returns-in-Err-clause-keeps : goal.returns-in-Err-clause-keeps
returns-in-Err-clause-keeps g c = keeps_same g.D.Disk.tells g.D.Disk.history (λ o. said_of (g.O.Origin.says o)) (view_of c.args.store.now) (view_of c.prepare_ending.new.store) c.prepare_ending.ensures.same

pub returns-in-Err-clause-beside : goal.returns-in-Err-clause-beside
returns-in-Err-clause-beside g c told =
    besides_stay (IsPartOrNameOf (view_of c.prepare_ending.new.store) c.args.pass.now.id) (g.D.Disk.history c.args.store.now.disk) (g.D.Disk.history c.prepare_ending.new.store.disk) (ap (λ (v : View g.row.D.Denot g.row.O.Denot). g.D.Disk.history v.disk) c.prepare_ending.ensures.same)
