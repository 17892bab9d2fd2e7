-- What is said of a connection of the system, which tells nothing of content.
use Rattle.std.specs.Prelude.{ℕ, []}
use Rattle.dm_edge.specs.declared.counts.WireCounts.{WireCounts}
use Rattle.dm_edge.specs.Wire.{Purpose, Told}

abbrev pub nothing_told : Told
nothing_told = record { given = []; left = []; sent = [] }

abbrev pub no_purpose : Purpose
no_purpose = record {
  address = record { text = []; host = []; port = 0; target = [] };
  id = record { 0 = 0 };
  attempt = record { 0 = 0 };
}

-- how often the calls of a connection failed, by kind, and how often memory was wanting
pub record Failures : Type 0 where
  pub counts : WireCounts
  pub wants : ℕ
