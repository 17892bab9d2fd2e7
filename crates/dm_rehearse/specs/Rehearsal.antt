-- What a rehearsal says.
use Rattle.std.specs.Prelude.{◌≡◌, ◌⊎◌, ℕ}
use Rattle.sha2.specs.Sha256.{sha256}
use Rattle.dm_generated.specs.Content.{content_of}
use Rattle.dm_report.specs.Said.{Said, only}
use Rattle.dm_report.specs.declared.verdict.Verdict.TheVariants.{Done, NoMemory}
use Rattle.dm_rehearse.specs.declared.counting.Counts.{Counts}
use Rattle.dm_rehearse.specs.Counting.{AddUp}
use Rattle.dm_rehearse.specs.Lines.{lines_of}

-- The content was brought: the four lines, with the size and the SHA-256 of what the number generates, and with counts of which one to three attempts were interrupted, and one more was whole.
pub record IsRehearsed (number : ℕ) (said : Said) : Type 0 where
  pub counts : Counts
  pub add_up : AddUp counts
  pub said_is : said ≡ record { verdict = Done; out = lines_of number counts.attempts counts.broke (sha256 (content_of number)) }

-- that, or memory was wanting
abbrev pub Rehearses : ℕ → Said → Type 0
Rehearses number said = IsRehearsed number said ⊎ (said ≡ only NoMemory)
