-- What is written to the outputs.
use Rattle.std.specs.Prelude.{◌≡◌, ℕ, List, ◌++◌, Result, MatchResult}
use Rattle.dm_edge.specs.declared.fault.EdgeFault.{EdgeFault}
use Rattle.dm_does.specs.Printing.{Outputs, WritesSome}

-- all of the text was added, or after a fault some front of it
abbrev pub WritesAll : List ℕ → List ℕ → Result (Unit {0}) EdgeFault → List ℕ → Type 0
WritesAll before now result text = MatchResult result (λ _. now ≡ before ++ text) (λ _. WritesSome before now text)

abbrev pub outputs_of : {S : Type 0} → (S → List ℕ) → (S → EdgeFault → ℕ) → S → S → Outputs
outputs_of written faults out errs = record { out = written out; errs = written errs; out_faults = faults out; errs_faults = faults errs }
