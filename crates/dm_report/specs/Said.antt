-- What a command says where it ends.
use Rattle.std.specs.Prelude.{◌≡◌, ◌⊎◌, ℕ, List, []}
use Rattle.dm_report.specs.declared.verdict.Verdict.{Verdict}
use Rattle.dm_report.specs.declared.verdict.Verdict.TheVariants.{NoMemory}

-- how it ended, and the text on standard output
pub record Said : Type 0 where
  pub verdict : Verdict
  pub out : List ℕ

-- nothing on standard output
abbrev pub only : Verdict → Said
only verdict = record { verdict = verdict; out = [] }

-- this was said, or memory was wanting for its line
abbrev pub EndsAs : Said → Said → Type 0
EndsAs said ending = (ending ≡ said) ⊎ (ending ≡ only NoMemory)
