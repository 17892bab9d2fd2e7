use Rattle.std.proofs.Common.{◌≡◌, take}
use Rattle.dm_hist.specs.Rows.{page_of}
use Rattle.dm_hist.proofs.rows.page.Given as goal

abbrev pub invariant-loop-row : goal.invariant-loop-row
invariant-loop-row l = l.page ≡ page_of l.asked.filter l.asked.after l.asked.limit (take l.row-index l.rows)
