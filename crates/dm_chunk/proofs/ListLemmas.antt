-- Lists that begin alike, and tests on bytes.
use Rattle.std.proofs.Common.{◌≡◌, ℕ, Bool, true, false, eqb, not, ◌&&◌, ◌||◌, List, [], ◌∷◌, ◌++◌, ◌⊎◌, inl, inr, refl, sym, ap, ◌∙◌}
use Rattle.std.proofs.lemmas.Bool.{eqb-true}
use Rattle.dm_types.specs.Bytes.{is_blank}
use Rattle.dm_chunk.specs.Bytes.{is_line_byte}
use Rattle.dm_chunk.specs.Fronts.{Begins}

pub head_is : (a b : ℕ) (x y : List ℕ) → ◌≡◌ {A = List ℕ} (a ∷ x) (b ∷ y) → a ≡ b
head_is a b x y e = cc

pub tail_is : (a b : ℕ) (x y : List ℕ) → ◌≡◌ {A = List ℕ} (a ∷ x) (b ∷ y) → x ≡ y
tail_is a b x y e = cc

begins_cons : (a b : ℕ) (x y : List ℕ) → a ≡ b → Begins x y → Begins (a ∷ x) (b ∷ y)
begins_cons a b x y e h = record { rest = h.rest; parts = let p : x ≡ y ++ h.rest = h.parts in cc }

-- of two fronts of one list one is a front of the other
pub fronts : (a x b y : List ℕ) → a ++ x ≡ b ++ y → Begins a b ⊎ Begins b a
fronts [] x b y e = inr (record { rest = b; parts = refl })
fronts (c ∷ a) x [] y e = inl (record { rest = c ∷ a; parts = refl })
fronts (c ∷ a) x (d ∷ b) y e =
    let same = head_is c d (a ++ x) (b ++ y) e in
    elim (fronts a x b y (tail_is c d (a ++ x) (b ++ y) e)) [
      | inl h ↦ inl (begins_cons c d a b same h)
      | inr h ↦ inr (begins_cons d c b a (sym same) h)
    ]

pub both_true : (x y : Bool) → (x && y) ≡ true → (x ≡ true) × (y ≡ true)
both_true true true e = (refl, refl)
both_true true false e = absurd cc
both_true false true e = absurd cc
both_true false false e = absurd cc

pub not_true : (x : Bool) → not x ≡ true → x ≡ false
not_true true e = absurd cc
not_true false e = refl

one_of : (x y : Bool) → (x || y) ≡ true → (x ≡ true) ⊎ (y ≡ true)
one_of true y e = inl refl
one_of false y e = inr e

-- a blank is one of two bytes
pub blank_is : (b : ℕ) → is_blank b ≡ true → (b ≡ 32) ⊎ (b ≡ 9)
blank_is b h = elim (one_of (eqb b 32) (eqb b 9) h) [ inl e ↦ inl (eqb-true b 32 e) | inr e ↦ inr (eqb-true b 9 e) ]

-- a line's byte is none of two
pub line_byte_is : (b : ℕ) → is_line_byte b ≡ true → (eqb b 13 ≡ false) × (eqb b 10 ≡ false)
line_byte_is b h =
    let both = both_true (not (eqb b 13)) (not (eqb b 10)) h in
    (not_true (eqb b 13) both.0, not_true (eqb b 10) both.1)

pub line_byte_from : (b : ℕ) → eqb b 13 ≡ false → eqb b 10 ≡ false → is_line_byte b ≡ true
line_byte_from b h g = ap (λ (x : Bool). not x && not (eqb b 10)) h ∙ ap (λ (x : Bool). not x) g
