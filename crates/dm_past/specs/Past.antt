-- The history that a run meets: its rows, and how often its calls failed.
use Rattle.std.specs.Prelude.{ℕ, List}
use Rattle.dm_types.specs.Faults.{Rose}
use Rattle.dm_hist.specs.declared.keeper.KeeperFault.{KeeperFault}
use Rattle.dm_hist.specs.declared.keeper.KeeperFault.TheVariants.{Failed}
use Rattle.dm_hist.specs.declared.row.Row.{Row}

pub record Past : Type 0 where
  pub rows : List Row
  pub faults : KeeperFault → ℕ

abbrev pub past_of : {K : Type 0} → (K → List Row) → (K → KeeperFault → ℕ) → K → Past
past_of rows faults keeper = record { rows = rows keeper; faults = faults keeper }

-- a call on the history failed
abbrev pub HasFailed : Past → Past → Type 0
HasFailed before after = Rose (before.faults Failed) (after.faults Failed)
