-- What a content is, by what was read of it.
use Rattle.std.proofs.Common.{◌≡◌, ℕ, Bool, true, false, List, Option, Some, None, Result, Ok, Err, refl, sym, ap, ◌∙◌, subst}
use Rattle.std.specs.Prelude.{option_and_then, option_map}
use Rattle.std.specs.Str.{IsUtf8, is_utf8}
use Rattle.std.proofs.lemmas.Str.{IsUtf8-from_is_utf8, is_utf8-from_IsUtf8}
use Rattle.serde_json.specs.Read.{read}
use Rattle.serde_json.specs.View.{view}
use Rattle.serde_json.specs.declared.value.Value.{Value}
use Rattle.dm_call.specs.Content.{named_in, named_of, texts_in}
use Rattle.dm_call.specs.declared.call.Refusal.TheVariants.{Json}
use Rattle.dm_call.proofs.Numerals.{chosen, passed}

pub no_text : (body : List ℕ) → (IsUtf8 body → ⊥) → named_of body ≡ Err Json
no_text body none = ap named_in (passed (is_utf8 body) (option_and_then texts_in (read body)) None (λ is. none (IsUtf8-from_is_utf8 body is)))

pub of_value : (body text : List ℕ) (value : Value) (found : Option Value) → text ≡ body → IsUtf8 body → option_map view found ≡ read text → found ≡ Some value
    → named_of body ≡ named_in (texts_in (view value))
of_value body text value found same utf8 told is =
    let got : read body ≡ Some (view value) = sym (subst (λ (t : List ℕ). option_map view found ≡ read t) same told) ∙ ap (option_map view) is in
    ap named_in (chosen (is_utf8 body) (option_and_then texts_in (read body)) None (is_utf8-from_IsUtf8 body utf8) ∙ ap (option_and_then texts_in) got)

pub no_value : (body text : List ℕ) (found : Option Value) → text ≡ body → IsUtf8 body → option_map view found ≡ read text → found ≡ None → named_of body ≡ Err Json
no_value body text found same utf8 told is =
    let got : read body ≡ None = sym (subst (λ (t : List ℕ). option_map view found ≡ read t) same told) ∙ ap (option_map view) is in
    ap named_in (chosen (is_utf8 body) (option_and_then texts_in (read body)) None (is_utf8-from_IsUtf8 body utf8) ∙ ap (option_and_then texts_in) got)
