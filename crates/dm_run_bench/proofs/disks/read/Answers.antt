use Rattle.dm_disk_model.proofs.Standing.{stands_told}
use Rattle.dm_disk.specs.Memory.{history_in}
use Rattle.dm_run_bench.proofs.disks.read.Goals as goal

pub read_at-requires : goal.read_at-requires
read_at-requires c =
    let told = c.in_ok-length.ensures in
    stands_told (history_in c.args.disk.now) (history_in c.length.new.self) c.args.place.now c.in_ok-length.field-0 c.in-Some.field-0 told.stays told.length c.in-Some.is
