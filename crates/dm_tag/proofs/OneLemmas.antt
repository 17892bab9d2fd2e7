-- No value reads in two ways.
use Rattle.std.proofs.Common.{◌≡◌, ℕ, Bool, true, false, List, [], ◌∷◌, ◌++◌, ◌<◌, length, Option, refl, sym, ap, ◌∙◌, subst, arith}
use Rattle.std.specs.Char.{is_ascii_digit}
use Rattle.std.proofs.lemmas.Bool.{both_ways}
use Rattle.dm_types.specs.Bytes.{Each}
use Rattle.dm_tag.specs.Number.{BeginsNumber}
use Rattle.dm_tag.specs.Tag.{IsTag}
use Rattle.dm_tag.specs.Range.{IsTotal, IsPart, IsUnsatisfied, IsRange, IsContentRange}
use Rattle.dm_tag.specs.Length.{IsLength}
use Rattle.dm_tag.specs.declared.range.ContentRange.{ContentRange}
use Rattle.dm_tag.specs.declared.range.ContentRange.TheVariants.{Part, Unsatisfied}
use Rattle.dm_tag.proofs.CutLemmas.{cons_tail}
use Rattle.dm_tag.proofs.ReadLemmas.{number_one, whole_begins, total_one, steps_of, range_text, length_begins}

no_weak : (x y inner : List ℕ) → 87 ∷ x ≡ y → y ≡ 34 ∷ inner → ⊥
no_weak x y inner p q = absurd cc

tails : (value x y : List ℕ) → value ≡ 87 ∷ 47 ∷ x → value ≡ 87 ∷ 47 ∷ y → x ≡ y
tails value x y p q = cc

pub tag_one : (value : List ℕ) (weak other_weak : Bool) (opaque other : List ℕ) → IsTag value weak opaque → IsTag value other_weak other → (weak ≡ other_weak) × (opaque ≡ other)
tag_one value true true opaque other p q = (refl, tails value opaque other p.0 q.0)
tag_one value true false opaque other p q = absurd (no_weak (47 ∷ opaque) other (q.1.inner ++ 34 ∷ []) (sym p.0 ∙ q.0) q.1.quoted)
tag_one value false true opaque other p q = absurd (no_weak (47 ∷ other) opaque (p.1.inner ++ 34 ∷ []) (sym q.0 ∙ p.0) p.1.quoted)
tag_one value false false opaque other p q = (refl, sym p.0 ∙ q.0)

part_one : (text : List ℕ) (a b c d : ℕ) (s t : Option ℕ) → IsPart text a b s → IsPart text c d t → Part a b s ≡ Part c d t
part_one text a b c d s t p q =
    let x = steps_of text a b s p in
    let y = steps_of text c d t q in
    let one = number_one text a c _ _ x.is_first y.is_first in
    let after = cons_tail 45 x.after_first y.after_first one.1 in
    let two = number_one y.after_first b d _ _ (subst (λ (z : List ℕ). BeginsNumber z b (47 ∷ x.after_last)) after x.is_last) y.is_last in
    let three = total_one y.after_last s t (subst (λ (z : List ℕ). IsTotal z s) (cons_tail 47 x.after_last y.after_last two.1) x.is_total) y.is_total in
    let first = one.0 in
    let last = two.0 in
    cc

no_digit_first : (digits rest x : List ℕ) → 0 < length digits → Each is_ascii_digit digits → 42 ∷ x ≡ digits ++ rest → ⊥
no_digit_first [] rest x some each e = absurd (omega (arith, some))
no_digit_first (d ∷ ds) rest x some each e = let star : 42 ≡ d = cc in both_ways (is_ascii_digit 42) refl (subst (λ (n : ℕ). is_ascii_digit n ≡ true) (sym star) each.0)

no_star : (text : List ℕ) (a b : ℕ) (s : Option ℕ) (x : List ℕ) → IsPart text a b s → text ≡ 42 ∷ x → ⊥
no_star text a b s x p e = no_digit_first p.first_text (45 ∷ (p.last_text ++ 47 ∷ p.total_text)) x p.is_first.some p.is_first.each (sym e ∙ p.parts)

unsatisfied_one : (text : List ℕ) (m n : ℕ) → IsUnsatisfied text m → IsUnsatisfied text n → Unsatisfied m ≡ Unsatisfied n
unsatisfied_one text m n p q =
    let same : p.total_text ≡ q.total_text = cons_tail 47 p.total_text q.total_text (cons_tail 42 (47 ∷ p.total_text) (47 ∷ q.total_text) (sym p.parts ∙ q.parts)) in
    let one = number_one q.total_text m n [] [] (subst (λ (z : List ℕ). BeginsNumber z m []) same (whole_begins p.total_text m p.is_total)) (whole_begins q.total_text n q.is_total) in
    ap (λ (k : ℕ). Unsatisfied k) one.0

range_one : (text : List ℕ) (range other : ContentRange) → IsRange text range → IsRange text other → range ≡ other
range_one text (Part a b s) (Part c d t) p q = part_one text a b c d s t p q
range_one text (Part a b s) (Unsatisfied n) p q = absurd (no_star text a b s (47 ∷ q.total_text) p q.parts)
range_one text (Unsatisfied m) (Part c d t) p q = absurd (no_star text c d t (47 ∷ p.total_text) q p.parts)
range_one text (Unsatisfied m) (Unsatisfied n) p q = unsatisfied_one text m n p q

pub content_range_one : (value : List ℕ) (range other : ContentRange) → IsContentRange value range → IsContentRange value other → range ≡ other
content_range_one value range other p q =
    let text = cons_tail 32 p.text q.text (range_text value (32 ∷ p.text) other (record { unit = p.unit; parts = p.parts; is_bytes = p.bytes }) q) in
    range_one q.text range other (subst (λ (z : List ℕ). IsRange z range) text p.is_range) q.is_range

pub length_one : (value : List ℕ) (n other : ℕ) → IsLength value n → IsLength value other → n ≡ other
length_one value n other p q =
    let x = length_begins value n p in
    let y = length_begins value other q in
    (number_one value n other x.0 y.0 x.1 y.1).0
