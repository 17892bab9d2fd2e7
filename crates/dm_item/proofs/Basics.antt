-- Small facts on options and on tests of numbers.
use Rattle.std.proofs.Common.{◌≡◌, ◌≢◌, ℕ, true, false, ◌==◌, Option, Some, None, refl, arith}
use Rattle.std.proofs.lemmas.Bool.Decides.{nat_tests}
use Rattle.dm_item.specs.History.{first_some}

pub some_same : {A : Type 0} {x y : A} → Some x ≡ Some y → x ≡ y
some_same e = cc

pub none_some : {A : Type 0} {x : A} → None ≡ Some x → ⊥
none_some e = cc

pub first_none : {A : Type 0} (found : Option A) → first_some found None ≡ found
first_none None = refl
first_none (Some x) = refl

pub eq_true : (n : ℕ) → (n == n) ≡ true
eq_true n = grind (arith, nat_tests)

pub eq_false : (n m : ℕ) → n ≢ m → (n == m) ≡ false
eq_false n m other = grind (arith, nat_tests)

pub eq_same : (n m : ℕ) → (n == m) ≡ true → n ≡ m
eq_same n m test = grind (arith, nat_tests)

pub eq_other : (n m : ℕ) → (n == m) ≡ false → n ≢ m
eq_other n m test = grind (arith, nat_tests)
