-- Which kinds of bytes exclude each other.
use Rattle.std.proofs.Common.{◌≡◌, ℕ, Bool, true, false, eqb, ◌⊎◌, inl, inr, refl, sym, ap, ◌∙◌}
use Rattle.std.proofs.lemmas.Bool.{both_ways, ne_eqb, eqb-true, or_cases, or_from}
use Rattle.dm_types.specs.Bytes.{is_blank}
use Rattle.dm_disposition.specs.Bytes.{is_token_byte, is_quoted_text}

-- a byte of a kind is not one outside it
pub not_this : (kind : ℕ → Bool) (b x : ℕ) → kind b ≡ true → kind x ≡ false → eqb b x ≡ false
not_this kind b x h k = ne_eqb b x (λ e. both_ways (kind x) k (ap kind (sym e) ∙ h))

pub blank_is : (b : ℕ) → is_blank b ≡ true → (b ≡ 32) ⊎ (b ≡ 9)
blank_is b h = elim (or_cases (eqb b 32) (eqb b 9) h) [ inl e ↦ inl (eqb-true b 32 e) | inr e ↦ inr (eqb-true b 9 e) ]

-- a kind that holds no blank
pub blank_outside : (kind : ℕ → Bool) (b : ℕ) → kind 32 ≡ false → kind 9 ≡ false → is_blank b ≡ true → kind b ≡ false
blank_outside kind b space tab h = elim (blank_is b h) [ inl e ↦ ap kind e ∙ space | inr e ↦ ap kind e ∙ tab ]

pub blank_no_token : (b : ℕ) → is_blank b ≡ true → is_token_byte b ≡ false
blank_no_token b h = blank_outside is_token_byte b refl refl h

pub token_no_blank : (b : ℕ) → is_token_byte b ≡ true → is_blank b ≡ false
token_no_blank b h = or_from (eqb b 32) (eqb b 9) (not_this is_token_byte b 32 h refl) (not_this is_token_byte b 9 h refl)

pub token_not : (b x : ℕ) → is_token_byte b ≡ true → is_token_byte x ≡ false → eqb b x ≡ false
token_not b x h k = not_this is_token_byte b x h k

pub text_not : (b x : ℕ) → is_quoted_text b ≡ true → is_quoted_text x ≡ false → eqb b x ≡ false
text_not b x h k = not_this is_quoted_text b x h k
