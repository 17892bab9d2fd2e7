use Rattle.std.proofs.Common.{◌≡◌, ◌+◌, map, take}
use Rattle.csv.specs.Records.{fields_of}
use Rattle.dm_csv.specs.Rows.{AreRows}
use Rattle.dm_csv.proofs.importing.read_under.Given as goal

abbrev pub invariant-loop-found : goal.invariant-loop-found
invariant-loop-found l = record {
  are : AreRows (map fields_of (take l.found-index l.under)) l.rows;
  number : l.number ≡ l.found-index + 1;
}
