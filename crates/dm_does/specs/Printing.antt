-- What is written to standard output and standard error, and the status.
use Rattle.std.specs.Prelude.{◌≡◌, ◌⊎◌, ℕ, List, ◌++◌, take}
use Rattle.dm_types.specs.Faults.{Rose}
use Rattle.dm_edge.specs.declared.fault.EdgeFault.{EdgeFault}
use Rattle.dm_report.specs.Said.{Said}
use Rattle.dm_report.specs.Verdict.{errs_of, status_of}

-- what was written to each, and how often its writes failed
pub record Outputs : Type 0 where
  pub out : List ℕ
  pub errs : List ℕ
  pub out_faults : EdgeFault → ℕ
  pub errs_faults : EdgeFault → ℕ

-- no count of failed writes is another than before
abbrev pub SameCounts : (EdgeFault → ℕ) → (EdgeFault → ℕ) → Type 0
SameCounts before after = (kind : EdgeFault) → after kind ≡ before kind

-- Both texts were written, where that is told, and the status is the verdict's, which is never 7. Of neither output did a count of failed writes change, also where
-- nothing is told.
pub record ArePrinted (tells : Type 0) (before after : Outputs) (said : Said) (status : ℕ) : Type 0 where
  pub status_is : status ≡ status_of said.verdict
  pub out_quiet : SameCounts before.out_faults after.out_faults
  pub errs_quiet : SameCounts before.errs_faults after.errs_faults
  pub out_is : tells → after.out ≡ before.out ++ said.out
  pub errs_is : tells → after.errs ≡ before.errs ++ errs_of said.verdict

-- some count rose
abbrev pub SomeRose : (EdgeFault → ℕ) → (EdgeFault → ℕ) → Type 0
SomeRose before after = (kind : EdgeFault) × Rose (before kind) (after kind)

-- some front of the text was written
abbrev pub WritesSome : List ℕ → List ℕ → List ℕ → Type 0
WritesSome before after text = (n : ℕ) × (after ≡ before ++ take n text)

-- a write failed, which shows in a count: the status is 7, and of each text some front was written
pub record AreCutOff (tells : Type 0) (before after : Outputs) (said : Said) (status : ℕ) : Type 0 where
  pub status_is : status ≡ 7
  pub cause : SomeRose before.out_faults after.out_faults ⊎ SomeRose before.errs_faults after.errs_faults
  pub out_front : tells → WritesSome before.out after.out said.out
  pub errs_front : tells → WritesSome before.errs after.errs (errs_of said.verdict)

-- what is said is printed, or a write failed, which stands above every other status
abbrev pub Prints : Type 0 → Outputs → Outputs → Said → ℕ → Type 0
Prints tells before after said status = ArePrinted tells before after said status ⊎ AreCutOff tells before after said status
