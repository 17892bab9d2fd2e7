use Rattle.std.proofs.Common.{◌≡◌, ◌≤◌, ◌*◌, ◌^◌, take}
use Rattle.dm_report.specs.Report.{bytes_of}
use Rattle.dm_report.proofs.report.received.Given as goal

abbrev pub invariant-loop-item : goal.invariant-loop-item
invariant-loop-item l = record {
  sum : l.sum ≡ bytes_of (take l.item-index l.items);
  few : l.sum ≤ l.item-index * 2 ^ 70;
}
