-- Words at the front of a list, equal texts, and answers that are there or not.
use Rattle.std.proofs.Common.{◌≡◌, ℕ, zero, suc, ◌<◌, ◌≤◌, ◌-◌, ◌⊎◌, false, List, [], ◌∷◌, length, take, drop, get_or, Option, Some, None, Result, Ok, Err, inl, inr, refl, sym, ap, ◌∙◌, subst, arith}
use Rattle.std.specs.Prelude.{IfNone, OnErr}
use Rattle.std.specs.List.{Any, Contains}
use Rattle.std.specs.Option.{option_to_list}
use Rattle.std.specs.Str.{bytes_eq}
use Rattle.std.proofs.lemmas.List.{take_all}
use Rattle.std.proofs.lemmas.Slice.Eq.{bytes_eq-Decides}

-- a word at the front, before the others
pub one_first : (words : List (List ℕ)) (x : List ℕ) → 1 ≤ length words → x ≡ get_or words 0 x → words ≡ x ∷ take (length words - 1) (drop 1 words)
one_first [] x long is = absurd (omega arith)
one_first (first ∷ rest) x long is = ap (λ (w : List ℕ). w ∷ rest) (sym is) ∙ ap (λ (l : List (List ℕ)). x ∷ l) (sym (take_all (length (first ∷ rest) - 1) rest (omega arith)))

pub name_first : (words : List (List ℕ)) (x name : List ℕ) → 1 ≤ length words → x ≡ get_or words 0 x → x ≡ name → words ≡ name ∷ take (length words - 1) (drop 1 words)
name_first words x name long is same = one_first words x long is ∙ ap (λ (w : List ℕ). w ∷ take (length words - 1) (drop 1 words)) same

pub empty_words : (words : List (List ℕ)) → length words < 1 → words ≡ []
empty_words [] short = refl
empty_words (word ∷ rest) short = absurd (omega arith)

-- two texts that the test tells apart
pub differ : (a b : List ℕ) → bytes_eq a b ≡ false → a ≡ b → ⊥
differ a b apart same = let both = bytes_eq-Decides a b in cc (both.1 same, apart)

pub if_none : {X : Type 0} (result : Option X) (P Q : Type 0) → IfNone result P → (P → Q) → IfNone result Q
if_none None P Q is leads = leads is
if_none (Some x) P Q is leads = is

pub on_err : {T E : Type 0} (result : Result T E) (P Q : Type 0) → OnErr result P → (P → Q) → OnErr result Q
on_err (Ok x) P Q is leads = is
on_err (Err e) P Q is leads = leads is

pub same_option : (x y : Option (List ℕ)) → option_to_list x ≡ option_to_list y → x ≡ y
same_option None None same = refl
same_option None (Some v) same = absurd cc
same_option (Some v) None same = absurd cc
same_option (Some v) (Some w) same = cc

-- ---- some element

module _ {X : Type 0} (P : X → Type 0) where
  pub any_none : Any P [] → ⊥
  any_none some = absurd (omega (arith, some.2))

  pub any_first : (x : X) (xs : List X) → P x → Any P (x ∷ xs)
  any_first x xs p = (0, x, omega arith, refl, p)

  pub any_later : (x : X) (xs : List X) → Any P xs → Any P (x ∷ xs)
  any_later x xs some = (suc some.0, some.1, omega (arith, some.2), some.3, some.4)

  pub any_cases : (x : X) (xs : List X) → Any P (x ∷ xs) → P x ⊎ Any P xs
  any_cases x xs (zero, y, within, is, p) = inl (subst P (sym is) p)
  any_cases x xs (suc k, y, within, is, p) = inr (k, y, omega (arith, within), is, p)

pub contains_none : (x : List ℕ) → Contains [] x → ⊥
contains_none x some = absurd (omega (arith, some.1))

pub contains_first : (y : List ℕ) (ys : List (List ℕ)) (x : List ℕ) → y ≡ x → Contains (y ∷ ys) x
contains_first y ys x same = (0, omega arith, same)

pub contains_later : (y : List ℕ) (ys : List (List ℕ)) (x : List ℕ) → Contains ys x → Contains (y ∷ ys) x
contains_later y ys x some = (suc some.0, omega (arith, some.1), some.2)

pub contains_cases : (y : List ℕ) (ys : List (List ℕ)) (x : List ℕ) → Contains (y ∷ ys) x → (y ≡ x) ⊎ Contains ys x
contains_cases y ys x (zero, within, is) = inl is
contains_cases y ys x (suc k, within, is) = inr (k, omega (arith, within), is)
