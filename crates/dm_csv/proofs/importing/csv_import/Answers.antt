use Rattle.std.proofs.Common.{◌<◌, ◌^◌, List, ℕ, map, length, ap, arith, sym, subst}
use Rattle.csv.specs.Records.{Row, fields_of}
use Rattle.dm_csv.proofs.Counted.{few_records}
use Rattle.dm_csv.proofs.Listed.{map_length}
use Rattle.dm_csv.proofs.importing.csv_import.Goals as goal

pub read_all-requires : goal.read_all-requires
read_all-requires c =
    subst (λ (all : List Row). length all < 2 ^ 22) (sym c.deref.ensures.value)
    (omega (arith, few_records c.args.bytes.now (map fields_of c.in-Ok.all.items) c.in-Ok.ensures, map_length c.in-Ok.all.items, c.requires))
