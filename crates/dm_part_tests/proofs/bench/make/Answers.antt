use Rattle.dm_disk_model.proofs.Standing.{stands_not_told}
use Rattle.dm_disk.specs.Memory.{history_in}
use Rattle.dm_part_tests.proofs.bench.make.Goals as goal

pub create-requires : goal.create-requires
create-requires c tells =
    let told = c.in_ok-length.ensures in
    stands_not_told (history_in c.args.disk.now) (history_in c.length.new.self) c.args.part.now c.in_ok-length.field-0 told.stays told.length c.in-None.is
