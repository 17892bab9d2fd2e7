-- What is shown at every stop of a call on the list and on the history.
use Rattle.std.specs.Prelude.{Bool, List}
use Rattle.dm_types.specs.declared.item.Item.{Item}
use Rattle.dm_disk_model.specs.Disk.{DiskState, History as Clock, now}
use Rattle.dm_disk_model.specs.Moments.{Throughout}
use Rattle.dm_kept.specs.Files.{Says}
use Rattle.dm_kept.specs.Kept.{Kept}
use Rattle.dm_hist.specs.declared.row.Row.{Row}
use Rattle.dm_shown.specs.Shows.{ShowTheSame}

-- At every stop since a start P holds of the disk and of the rows of the history. Between two stops the disk goes on while the rows rest,
-- and P holds at each moment of it; or the rows change while the disk rests.
pub data EachStop (P : DiskState → List Row → Type 0) (start : Clock) (first : List Row) : Clock → List Row → Type 0 where
  begins : P (now start) first → EachStop P start first start first
  disk_goes_on : (present next : Clock) (rows : List Row) → EachStop P start first present rows → Throughout present next (λ disk. P disk rows) → EachStop P start first next rows
  rows_change : (present : Clock) (rows next : List Row) → EachStop P start first present rows → P (now present) next → EachStop P start first present next

-- Whatever a crash now leaves of the list, it and these rows show each item and each row of that list and of those rows exactly once.
abbrev pub ShowsEachOnce : Bool → Says → List Item → List Row → DiskState → List Row → Type 0
ShowsEachOnce good says items rows disk rows' = Kept good says (λ found. ShowTheSame items rows found.items rows') disk
