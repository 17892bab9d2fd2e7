use Rattle.std.proofs.Common.{◌≡◌}
use Rattle.dm_report.specs.Report.{reasons_below}
use Rattle.dm_report.proofs.report.reason_lines.Given as goal

abbrev pub invariant-loop-code : goal.invariant-loop-code
invariant-loop-code l = l.text ≡ reasons_below l.items l.code
