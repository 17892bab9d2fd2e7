use Rattle.dm_disk_model.proofs.Standing.{stands_told, stands_not_told}
use Rattle.dm_disk.specs.Memory.{history_in}
use Rattle.dm_import_tests.proofs.bench.make.Goals as goal

pub create-requires : goal.create-requires
create-requires c =
    let told = c.in_ok-length.ensures in
    stands_not_told (history_in c.args.disk.now) (history_in c.length.new.self) c.args.place.now c.in_ok-length.field-0 told.stays told.length c.in-None.is

pub write_at-requires : goal.write_at-requires
write_at-requires c =
    let told = c.in_ok-length-2.ensures in
    stands_told (history_in c.create.new.self) (history_in c.length-2.new.self) c.args.place.now c.in_ok-length-2.field-0 c.in-Some-2.field-0 told.stays told.length c.in-Some-2.is
