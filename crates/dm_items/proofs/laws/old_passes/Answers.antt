use Rattle.dm_items.proofs.Olds.{old_checks, old_lands}
use Rattle.dm_items.proofs.laws.old_passes.Goals as goal

pub returns : goal.returns
returns g c = record {
  check = λ old later recorded pass answer desk over keeps is. old_checks g.D.Disk.tells g.D.Disk.history old later recorded pass desk over keeps answer is;
  land = λ old later new recorded pass at piece answer desk over keeps is. old_lands g.D.Disk.tells g.D.Disk.history old later recorded pass desk over keeps g.D.Disk.faults new at piece answer is;
}
