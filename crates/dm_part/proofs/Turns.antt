-- What holds at each moment of one call, and of two.
use Rattle.std.proofs.Common.{inl, inr, Result, Ok, Err}
use Rattle.dm_disk_model.specs.declared.place.DiskFault.{DiskFault}
use Rattle.dm_disk_model.specs.Disk.{DiskState, History, Next, now}
use Rattle.dm_disk_model.specs.Moments.{Throughout}
use Rattle.dm_disk_model.proofs.Reaching.{over_call, joined}
use Rattle.dm_part.specs.Runs.{Call, Twice, InTurn}

-- one call
pub over_one : (old new : History) (P : DiskState → Type 0) (step : DiskState → DiskState → Type 0) → Next old new step → P (now old) → ((disk : DiskState) → step (now old) disk → P disk) → Throughout old new P
over_one old new P step next before after = over_call old new P step next before (after (now new) next.stepped)

-- two calls
pub over_two : (old new : History) (P : DiskState → Type 0) (first second : Call) (result : Result (Unit {0}) DiskFault) → InTurn first second result old new → P (now old)
    → ((answer : Result (Unit {0}) DiskFault) (disk : DiskState) → first answer (now old) disk → P disk)
    → ((answer : Result (Unit {0}) DiskFault) (middle disk : DiskState) → P middle → first (Ok tt) (now old) middle → second answer middle disk → P disk) → Throughout old new P
over_two old new P first second result run before one two = by result run
  where
    both : (answer : Result (Unit {0}) DiskFault) → Twice old new (first (Ok tt)) (second answer) → Throughout old new P
    both answer twice =
        let here = one (Ok tt) (now twice.middle) twice.before.stepped in
        joined old twice.middle new P
        (over_call old twice.middle P (first (Ok tt)) twice.before before here)
        (over_call twice.middle new P (second answer) twice.after here (two answer (now twice.middle) (now new) here twice.before.stepped twice.after.stepped))

    by : (answer : Result (Unit {0}) DiskFault) → InTurn first second answer old new → Throughout old new P
    by (Ok done) twice = both (Ok tt) twice
    by (Err fault) (inl refused) = over_call old new P (first (Err fault)) refused before (one (Err fault) (now new) refused.stepped)
    by (Err fault) (inr twice) = both (Err fault) twice
