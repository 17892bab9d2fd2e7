-- A keeper in memory, as contracts see it.
use Rattle.std.specs.Prelude.{ℕ, Bool, List, Contains, cond}
use Rattle.dm_disk_model.specs.Counts.{one_more}
use Rattle.dm_hist.specs.declared.calls.Calls.{Calls}
use Rattle.dm_hist.specs.declared.row.Row.{Row}

-- which calls fail, and how many were made and failed
pub record Counting : Type 0 where
  -- the numbers of the calls that fail, from 0
  pub failing : List ℕ
  -- the number of the next call
  pub made : ℕ
  -- how many failed
  pub failed : ℕ

abbrev pub counting_of : Calls → Counting
counting_of calls = record { failing = calls.failing.items; made = calls.made; failed = calls.failed }

pub record Held : Type 0 where
  pub rows : List Row
  pub calls : Counting

-- the next call is listed
abbrev pub MustFail : Counting → Type 0
MustFail calls = Contains calls.failing calls.made

-- after one more call, which failed or didn't
abbrev pub counted_by : Bool → Counting → Counting
counted_by failed calls = record {
  failing = calls.failing;
  made = one_more calls.made;
  failed = cond failed (one_more calls.failed) calls.failed;
}
