use Rattle.std.proofs.Common.{◌≡◌, ℕ, ◌<◌, map, get_or}
use Rattle.std.specs.Char.{to_ascii_lowercase}
use Rattle.dm_disposition.specs.declared.notes.Parameter.{Parameter}
use Rattle.dm_disposition.proofs.names.text_of.Given as goal

abbrev pub invariant-loop-parameter : goal.invariant-loop-parameter
invariant-loop-parameter l = (k : ℕ) (d : Parameter) → k < l.parameter-index → map to_ascii_lowercase (get_or l.parameters k d).name.items ≡ map to_ascii_lowercase l.name → ⊥
