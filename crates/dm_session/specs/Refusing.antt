-- What is said of a list that can't be opened.
use Rattle.std.specs.Prelude.{◌≡◌}
use Rattle.dm_report.specs.Said.{EndsAs, Said, only}
use Rattle.dm_report.specs.declared.verdict.Verdict.TheVariants as verdicts
use Rattle.dm_answers.specs.declared.fault.OpenFault.{OpenFault}
use Rattle.dm_answers.specs.declared.fault.OpenFault.TheVariants as opens

abbrev pub SaysRefusal : {D : Type 0} → OpenFault D → Said → Type 0
SaysRefusal (opens.Disk kind disk) said = said ≡ only (verdicts.DiskFailed kind)
SaysRefusal (opens.Damaged place disk) said = EndsAs (only (verdicts.Damaged place)) said
SaysRefusal (opens.NoMemory disk) said = said ≡ only verdicts.NoMemory
