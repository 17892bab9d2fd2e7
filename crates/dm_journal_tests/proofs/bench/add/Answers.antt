use Rattle.std.proofs.Common.{subst}
use Rattle.dm_disk_model.specs.declared.place.Place.{Place}
use Rattle.dm_disk_model.specs.Disk.{now, Stands}
use Rattle.dm_disk_model.proofs.Standing.{stands_told}
use Rattle.dm_disk.specs.Memory.{history_in}
use Rattle.dm_journal_tests.proofs.bench.add.Goals as goal

pub append-requires-clause-stands : goal.append-requires-clause-stands
append-requires-clause-stands c tells =
    let told = c.in-Ok-Some.ensures in
    subst (λ (place : Place). Stands (now (history_in c.length.new.self)) place) c.requires
    (stands_told (history_in c.args.disk.now) (history_in c.length.new.self) c.args.place.now c.in-Ok-Some.field-0 c.in-Ok-Some.field-0-0 told.stays told.length c.in-Ok-Some.field-0-is)
