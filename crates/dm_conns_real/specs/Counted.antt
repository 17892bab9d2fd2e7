-- What is said of a listener of the system, which tells nothing of content.
use Rattle.std.specs.Prelude.{ℕ, []}
use Rattle.dm_edge.specs.Wire.{Told}

abbrev pub nothing_told : Told
nothing_told = record { given = []; left = []; sent = [] }

-- how many connections were handed back, and how often an accept failed
pub record Counted : Type 0 where
  pub served : ℕ
  pub failed : ℕ
