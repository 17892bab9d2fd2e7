use Rattle.dm_disk_model.specs.Disk.{now}
use Rattle.dm_part.specs.Laws.{files_place}
use Rattle.dm_store.specs.Origin.{said_of}
use Rattle.dm_past.specs.Past.{past_of}
use Rattle.dm_import.proofs.Whole.{import_runs, reads_by, reads_good}
use Rattle.dm_import.proofs.running.run_at.Goals as goal

pub run_opened-requires : goal.run_opened-requires
run_opened-requires g c = record { good = reads_good g.D.Disk.tells (now (g.D.Disk.history c.args.disk)) (files_place c.args.name.now) c.read_rows-read.result c.read_rows-read.ensures.ok }

pub returns : goal.returns
returns g c net_faults closed =
    import_runs g.D.Disk.tells g.K.Keeper.tells g.D.Disk.history g.D.Disk.faults g.D.Disk.far (λ o. said_of (g.O.Origin.says o)) c.args.origin c.args.name.now c.read_rows-read.result c.args.at c.args.disk c.read_rows-read.new.disk c.run_opened.result.disk
    (past_of g.K.Keeper.rows g.K.Keeper.faults c.args.keeper.now) (past_of g.K.Keeper.rows g.K.Keeper.faults c.run_opened.new.keeper) c.run_opened.result.ending c.read_rows-read.ensures.stays c.read_rows-read.ensures.far c.read_rows-read.ensures.later
    (reads_by g.D.Disk.tells (now (g.D.Disk.history c.args.disk)) (files_place c.args.name.now) (g.D.Disk.faults c.args.disk) (g.D.Disk.faults c.read_rows-read.new.disk) c.read_rows-read.result c.read_rows-read.ensures.ok c.read_rows-read.ensures.refused)
    c.run_opened.ensures net_faults closed
