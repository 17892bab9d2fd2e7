-- Where the wish and its hundred forms are taken, all are.
use Rattle.std.proofs.Common.{◌≡◌, ◌⊎◌, inl, inr, ℕ, zero, suc, ◌<◌, ◌≤◌, List, [], ◌∷◌, ◌++◌, refl, subst, arith}
use Rattle.std.specs.List.{Any}
use Rattle.std.proofs.lemmas.Bool.{cases_lt}
use Rattle.std.proofs.lemmas.Grind.{common_steps}
use Rattle.std.proofs.lemmas.List.Quantifiers.{Any-push}
use Rattle.dm_types.specs.Name.{fold_case}
use Rattle.dm_name.specs.Forms.{AreAllTaken, IsTaken, form}

-- the forms of a wish up to a number
abbrev pub forms : List ℕ → ℕ → List (List ℕ)
forms wish zero = form wish 0 ∷ []
forms wish (suc n) = forms wish n ++ form wish (suc n) ∷ []

any_before : {X : Type 0} (P : X → Type 0) (xs : List X) (y : X) → Any P xs → Any P (xs ++ y ∷ [])
any_before P xs y some = let below = some.2 in let is = some.3 in (some.0, some.1, grind (arith, common_steps), grind (arith, common_steps), some.4)

taken_up_to : (wish : List ℕ) (n k : ℕ) → k ≤ n → IsTaken (forms wish n) (form wish k)
taken_up_to wish zero k low = let is : 0 ≡ k = omega arith in subst (λ (m : ℕ). IsTaken (forms wish zero) (form wish m)) is (Any-push (λ (other : List ℕ). fold_case other ≡ fold_case (form wish 0)) [] (form wish 0) refl)
taken_up_to wish (suc n) k low = by (λ lower. taken_up_to wish n k lower) (cases_lt n k)
  where
    by : (k ≤ n → IsTaken (forms wish n) (form wish k)) → (n < k) ⊎ (k ≤ n) → IsTaken (forms wish (suc n)) (form wish k)
    by earlier (inl above) =
        let last : suc n ≡ k = omega arith in
        subst (λ (m : ℕ). IsTaken (forms wish (suc n)) (form wish m)) last (Any-push (λ (other : List ℕ). fold_case other ≡ fold_case (form wish (suc n))) (forms wish n) (form wish (suc n)) refl)
    by earlier (inr lower) = any_before (λ (other : List ℕ). fold_case other ≡ fold_case (form wish k)) (forms wish n) (form wish (suc n)) (earlier lower)

pub row_all_taken : (wish : List ℕ) → AreAllTaken wish (forms wish 100)
row_all_taken wish k low = taken_up_to wish 100 k low
