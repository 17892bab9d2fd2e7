-- Sums over a list with one element changed, and what holds of the others.
use Rattle.std.proofs.Common.{◌≡◌, ◌≢◌, ◌<◌, ◌≤◌, ◌==◌, ℕ, ◌+◌, suc, zero, cond, List, [], ◌∷◌, ◌++◌, length, get_or, set, arith}
use Rattle.std.specs.List.{AllByRecursion, remove}
use Rattle.std.proofs.lemmas.Grind.{common_steps}
use Rattle.dm_attempt.specs.Shares.{total}

pub one_at : (a b : ℕ) → a ≡ b → ◌≡◌ {A = ℕ} (cond (a == b) 1 0) 1
one_at a b e = grind (arith, common_steps)

pub none_at : (a b : ℕ) → ◌≡◌ {A = ℕ} (cond (a == b) 1 0) 0 → a ≢ b
none_at a b none e = let one = one_at a b e in absurd (omega (arith, one, none))

pub total_append : {X : Type 0} (f : X → ℕ) (xs ys : List X) → total f (xs ++ ys) ≡ total f xs + total f ys
total_append f [] ys = omega arith
total_append f (x ∷ xs) ys = omega (arith, total_append f xs ys)

pub total_set : {X : Type 0} (f : X → ℕ) (xs : List X) (k : ℕ) (y d : X) → k < length xs → total f (set xs k y) + f (get_or xs k d) ≡ total f xs + f y
total_set f [] k y d within = absurd (omega (arith, within))
total_set f (x ∷ xs) zero y d within = omega arith
total_set f (x ∷ xs) (suc k) y d within = omega (arith, total_set f xs k y d (omega (arith, within)))

pub total_remove : {X : Type 0} (f : X → ℕ) (xs : List X) (k : ℕ) (d : X) → k < length xs → total f (remove xs k) + f (get_or xs k d) ≡ total f xs
total_remove f [] k d within = absurd (omega (arith, within))
total_remove f (x ∷ xs) zero d within = omega arith
total_remove f (x ∷ xs) (suc k) d within = omega (arith, total_remove f xs k d (omega (arith, within)))

pub total_at : {X : Type 0} (f : X → ℕ) (xs : List X) (k : ℕ) (d : X) → k < length xs → f (get_or xs k d) ≤ total f xs
total_at f xs k d within = omega (arith, total_remove f xs k d within)

-- what holds of each element
pub at_each : {X : Type 0} (P : X → Type 0) (xs : List X) (k : ℕ) (d : X) → k < length xs → AllByRecursion P xs → P (get_or xs k d)
at_each P [] k d within all = absurd (omega (arith, within))
at_each P (x ∷ xs) zero d within all = all.0
at_each P (x ∷ xs) (suc k) d within all = at_each P xs k d (omega (arith, within)) all.1

pub set_each : {X : Type 0} (P : X → Type 0) (xs : List X) (k : ℕ) (y : X) → P y → AllByRecursion P xs → AllByRecursion P (set xs k y)
set_each P [] k y holds all = all
set_each P (x ∷ xs) zero y holds all = (holds, all.1)
set_each P (x ∷ xs) (suc k) y holds all = (all.0, set_each P xs k y holds all.1)

pub remove_each : {X : Type 0} (P : X → Type 0) (xs : List X) (k : ℕ) → AllByRecursion P xs → AllByRecursion P (remove xs k)
remove_each P [] zero all = all
remove_each P [] (suc k) all = all
remove_each P (x ∷ xs) zero all = all.1
remove_each P (x ∷ xs) (suc k) all = (all.0, remove_each P xs k all.1)

pub push_each : {X : Type 0} (P : X → Type 0) (xs : List X) (y : X) → AllByRecursion P xs → P y → AllByRecursion P (xs ++ y ∷ [])
push_each P [] y all holds = (holds, tt)
push_each P (x ∷ xs) y all holds = (all.0, push_each P xs y all.1 holds)

pub append_each : {X : Type 0} (P : X → Type 0) (xs ys : List X) → AllByRecursion P xs → AllByRecursion P ys → AllByRecursion P (xs ++ ys)
append_each P [] ys all more = more
append_each P (x ∷ xs) ys all more = (all.0, append_each P xs ys all.1 more)

pub weaker_each : {X : Type 0} (P Q : X → Type 0) → ((x : X) → P x → Q x) → (xs : List X) → AllByRecursion P xs → AllByRecursion Q xs
weaker_each P Q by [] all = tt
weaker_each P Q by (x ∷ xs) all = (by x all.0, weaker_each P Q by xs all.1)

module _ {X : Type 0} (f : X → ℕ) (P Q : X → Type 0) (by : (x : X) → f x ≡ 0 → P x → Q x) where
  -- none of them is the one that changes
  pub none_each : (xs : List X) → total f xs ≡ 0 → AllByRecursion P xs → AllByRecursion Q xs
  none_each [] none all = tt
  none_each (x ∷ xs) none all = (by x (omega (arith, none)) all.0, none_each xs (omega (arith, none)) all.1)

  -- one of them is, and it is put in anew
  pub one_each : (xs : List X) (k : ℕ) (y d : X) → k < length xs → total f xs ≤ 1 → f (get_or xs k d) ≡ 1 → Q y → AllByRecursion P xs → AllByRecursion Q (set xs k y)
  one_each [] k y d within few one holds all = absurd (omega (arith, within))
  one_each (x ∷ xs) zero y d within few one holds all = (holds, none_each xs (omega (arith, few, one)) all.1)
  one_each (x ∷ xs) (suc k) y d within few one holds all =
      let short : k < length xs = omega (arith, within) in
      let some = total_at f xs k d short in
      (by x (omega (arith, few, one, some)) all.0, one_each xs k y d short (omega (arith, few)) one holds all.1)

  -- and it is taken out
  pub rest_each : (xs : List X) (k : ℕ) (y d : X) → k < length xs → total f xs ≤ 1 → f (get_or xs k d) ≡ 1 → AllByRecursion P xs → AllByRecursion Q (remove (set xs k y) k)
  rest_each [] k y d within few one all = absurd (omega (arith, within))
  rest_each (x ∷ xs) zero y d within few one all = none_each xs (omega (arith, few, one)) all.1
  rest_each (x ∷ xs) (suc k) y d within few one all =
      let short : k < length xs = omega (arith, within) in
      let some = total_at f xs k d short in
      (by x (omega (arith, few, one, some)) all.0, rest_each xs k y d short (omega (arith, few)) one all.1)
