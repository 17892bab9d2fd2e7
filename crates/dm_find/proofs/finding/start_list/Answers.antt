use Rattle.std.proofs.Common.{◌≡◌, None}
use Rattle.dm_disk_model.specs.Disk.{folder_in, now}
use Rattle.dm_disk_model.specs.Folder.{Names}
use Rattle.dm_disk_model.proofs.PendingNames.{each_now}
use Rattle.dm_journal.specs.AtRest.{journal_name, journal_place}
use Rattle.dm_find.proofs.finding.start_list.Goals as goal

pub start-requires : goal.start-requires
start-requires g c = record {
  stands_not = λ tells. each_now (folder_in journal_place.area (now (g.D.Disk.history c.args.disk.now))) (λ (names : Names). names journal_name ≡ None) (c.requires tells);
}
