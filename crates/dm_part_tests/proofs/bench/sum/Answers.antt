use Rattle.dm_disk_model.proofs.Standing.{stands_told}
use Rattle.dm_disk.specs.Memory.{history_in}
use Rattle.dm_part_tests.proofs.bench.sum.Goals as goal

pub digest-requires-clause-stands : goal.digest-requires-clause-stands
digest-requires-clause-stands c tells =
    let told = c.in-Ok-Some.ensures in
    stands_told (history_in c.args.disk.now) (history_in c.length.new.self) c.args.part.now c.in-Ok-Some.field-0 c.in-Ok-Some.field-0-0 told.stays told.length c.in-Ok-Some.field-0-is
