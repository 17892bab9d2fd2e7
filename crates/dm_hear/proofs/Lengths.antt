-- What fields tell of a content's length.
use Rattle.std.specs.Prelude.{codes}
use Rattle.std.proofs.Common.{◌≡◌, ◌≢◌, ℕ, suc, zero, ◌<◌, ◌⊎◌, inl, inr, Bool, true, false, List, [], ◌∷◌, length, map, filter, get_or, refl, sym, ap, ◌∙◌, subst, arith, All, if◌then◌else◌}
use Rattle.std.proofs.lemmas.Bool.{false≢true}
use Rattle.std.proofs.lemmas.List.{get_or-map, length-map}
use Rattle.std.proofs.lemmas.List.Elements.{All-nil}
use Rattle.httparse.specs.declared.spans.HeaderSpan.{HeaderSpan}
use Rattle.httparse.specs.Spans.{header_bytes}
use Rattle.dm_tag.specs.Length.{IsLength}
use Rattle.dm_edge.specs.Fields.{NameAndValue, has_name, values_of}
use Rattle.dm_head.specs.declared.lengths.ToldLength.TheVariants as lengths
use Rattle.dm_head.specs.Values.{Tells}
use Rattle.dm_hear.specs.Content.{HasLength, HasNoLength}

here : (name : List ℕ) (x : NameAndValue) (xs : List NameAndValue) (b : Bool) → b ≡ true
    → map (λ (field : NameAndValue). field.1) (if b then x ∷ filter (has_name name) xs else filter (has_name name) xs) ≡ [] → ⊥
here name x xs true is none = absurd cc
here name x xs false is none = absurd (false≢true is)

behind : (name : List ℕ) (x : NameAndValue) (xs : List NameAndValue) (b : Bool) → (values_of name xs ≡ [] → ⊥)
    → map (λ (field : NameAndValue). field.1) (if b then x ∷ filter (has_name name) xs else filter (has_name name) xs) ≡ [] → ⊥
behind name x xs true some none = absurd cc
behind name x xs false some none = some none

named_some : (name : List ℕ) (fields : List NameAndValue) (i : ℕ) (d : NameAndValue) → i < length fields → has_name name (get_or fields i d) ≡ true
    → values_of name fields ≡ [] → ⊥
named_some name [] i d within is none = absurd (omega arith)
named_some name (x ∷ xs) zero d within is none = here name x xs (has_name name x) is none
named_some name (x ∷ xs) (suc i) d within is none = behind name x xs (has_name name x) (named_some name xs i d (omega arith) is) none

pub named_at : (name head : List ℕ) (spans : List HeaderSpan) (i : ℕ) (d : HeaderSpan) → i < length spans → has_name name (header_bytes head (get_or spans i d)) ≡ true
    → values_of name (map (header_bytes head) spans) ≡ [] → ⊥
named_at name head spans i d within is =
    let e = get_or-map (header_bytes head) spans i d (header_bytes head d) within in
    named_some name (map (header_bytes head) spans) i (header_bytes head d) (omega (arith, length-map spans (header_bytes head))) (ap (has_name name) e ∙ is)

pub coded : (fields : List NameAndValue) → (values_of (codes "transfer-encoding") fields ≡ [] → ⊥) → HasNoLength fields
coded fields some size (inl counted) = some counted.uncoded
coded fields some size (inr none) = some none.0.uncoded

pub untold : (fields : List NameAndValue) → values_of (codes "transfer-encoding") fields ≡ [] → Tells (values_of (codes "content-length") fields) lengths.Absent → HasLength fields 0
untold fields plain tells = inr (record { uncoded = plain; uncounted = tells }, refl)

pub counted : (fields : List NameAndValue) (size : ℕ) → values_of (codes "transfer-encoding") fields ≡ [] → Tells (values_of (codes "content-length") fields) (lengths.Count size) → HasLength fields size
counted fields size plain tells = inl (record { uncoded = plain; some = tells.0; agree = tells.1 })

pub uncountable : (fields : List NameAndValue) → Tells (values_of (codes "content-length") fields) lengths.Unreadable → HasNoLength fields
uncountable fields tells size (inl counted) = tells size counted.agree
uncountable fields tells size (inr none) =
    tells 0 (subst (λ (values : List (List ℕ)). All (λ value. IsLength value 0) values) (sym none.0.uncounted) (All-nil (λ value. IsLength value 0)))
