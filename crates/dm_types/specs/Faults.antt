-- Counts of faults, by kind. A count never falls, and stays at 2^64 - 1 once it stands there.
use Rattle.std.specs.Prelude.{ℕ, ◌+◌, ◌-◌, ◌^◌, ◌≤◌, min, Option, IfSome, Result, IfErr}

-- the count rose, or stands at its last value
abbrev pub Rose : ℕ → ℕ → Type 0
Rose before now = min (before + 1) (2 ^ 64 - 1) ≤ now

-- no count fell
abbrev pub NoneFell : {K : Type 0} → (K → ℕ) → (K → ℕ) → Type 0
NoneFell {K} before now = (kind : K) → before kind ≤ now kind

-- no count rose
abbrev pub NoneRose : {K : Type 0} → (K → ℕ) → (K → ℕ) → Type 0
NoneRose {K} before now = (kind : K) → Rose (before kind) (now kind) → ⊥

-- No count fell, and a fault that has a kind is answered only where the count of that kind rose.
pub record HasCause {T E K : Type 0} (kind_of : E → Option K) (before now : K → ℕ) (result : Result T E) : Type 0 where
  pub later : NoneFell before now
  pub cause : IfErr result (λ fault. IfSome (kind_of fault) (λ kind. Rose (before kind) (now kind)))
