-- What a rehearsal prints, and its status.
use Rattle.std.specs.Prelude.{◌≡◌, ◌⊎◌, ℕ, List}
use Rattle.dm_report.specs.Said.{Said, only}
use Rattle.dm_report.specs.declared.verdict.Verdict.TheVariants.{Done, NoMemory}
use Rattle.dm_does.specs.Printing.{Outputs, Prints}
use Rattle.dm_rehearse.specs.Rehearsal.{Rehearses}
use Rattle.dm_rehearse_run.specs.Running.{IsPrinted}

-- Both sessions were run, and what is said are the four lines of the disk that they left.
pub record IsRun (number : ℕ) (said : Said) : Type 0 where
  pub text : List ℕ
  pub printed : IsPrinted number text
  pub said_is : said ≡ record { verdict = Done; out = text }

-- that, or memory was wanting
abbrev pub ComesOf : ℕ → Said → Type 0
ComesOf number said = IsRun number said ⊎ (said ≡ only NoMemory)

-- What it says is printed: the four lines of the two sessions with status 0, or that memory was wanting with status 9; or a write failed, which is status 7.
pub record PrintsRehearsal (tells : Type 0) (number : ℕ) (before after : Outputs) (status : ℕ) : Type 0 where
  pub said : Said
  pub says : Rehearses number said
  pub comes : ComesOf number said
  pub prints : Prints tells before after said status
