-- The printed heads, read back.
use Rattle.std.proofs.Common.{◌≡◌, ℕ, zero, suc, ◌+◌, ◌-◌, ◌*◌, ◌%◌, ◌^◌, ◌<◌, ◌≤◌, Bool, true, false, not, ◌&&◌, IsTrue, List, [], ◌∷◌, ◌++◌, length, get_or, reverse, codes, refl, sym, ap, ◌∙◌, subst, arith, append-nil, append_assoc, length-append, Some, None}
use Rattle.std.specs.Prelude.{All}
use Rattle.std.specs.Fmt.{decimal}
use Rattle.std.specs.List.{list_all}
use Rattle.std.proofs.lemmas.Bool.{false≢true}
use Rattle.std.proofs.lemmas.Fmt.{decimal_nonempty, length-decimal-le}
use Rattle.std.proofs.lemmas.Nat.{mod_below}
use Rattle.std.proofs.lemmas.List.{length-reverse, reverse-append}
use Rattle.std.proofs.lemmas.List.Elements.{All-cons}
use Rattle.std.proofs.lemmas.List.Folds.{list_all-append}
use Rattle.std.proofs.lemmas.List.Sums.{AllPass-from_list_all}
use Rattle.httparse.specs.Grammar.{AllPass, Field, IsField, IsResponseHead, ResponseHead, ReadsResponse, is_ows, is_value_byte, print_response, skip_ows, trim_ows}
use Rattle.httparse.proofs.OnLiterals.{httparse_on_literals}
use Rattle.httparse.proofs.TrimLemmas.{AllPass-reverse, skip_ows_no, trim_ows_space}
use Rattle.dm_tag.specs.Length.{IsLength}
use Rattle.dm_tag.specs.Range.{IsContentRange}
use Rattle.dm_tag.specs.Tag.{IsTag, is_tag_byte}
use Rattle.dm_tag.specs.declared.range.ContentRange.TheVariants as range
use Rattle.dm_tag.proofs.CutLemmas.{Each-from_list_all}
use Rattle.dm_tag.proofs.ReadLemmas.{tail_nil}
use Rattle.dm_edge.specs.Fields.{fields_of, values_of}
use Rattle.dm_edge.specs.Head.{HasHead}
use Rattle.dm_edge.specs.Metadata.{HasStrong, TakesRanges}
use Rattle.dm_generated.specs.Content.{size_of, tag_of}
use Rattle.dm_generated.specs.Replies.{field, head_with, part_head, places_text, whole_head}
use Rattle.dm_generated.proofs.Digits.{decimal_passes, number_is}

-- ---- values without their space

pub size_small : (n : ℕ) → size_of n < 2 ^ 23
size_small n = let below = mod_below n 1048576 (omega arith) in omega (arith, below)

regrouped : (a b c d : List ℕ) → a ++ 32 ∷ (b ++ 45 ∷ (c ++ 47 ∷ d)) ≡ (a ++ 32 ∷ (b ++ 45 ∷ (c ++ 47 ∷ []))) ++ d
regrouped a b c d = simp append_assoc

-- bytes of which none is a blank
abbrev pub IsSolid : List ℕ → Type 0
IsSolid bytes = (0 < length bytes) × AllPass (λ b. not (is_ows b)) bytes

flipped : (t : Bool) → not t ≡ true → t ≡ false
flipped true is = absurd (false≢true is)
flipped false is = refl

first_stays : (a b : List ℕ) → IsSolid a → skip_ows (a ++ b) ≡ a ++ b
first_stays [] b solid = absurd (omega (arith, solid.0))
first_stays (x ∷ a) b solid = skip_ows_no {b = x} {all = x ∷ (a ++ b)} {rest = a ++ b} refl (sym (flipped (is_ows x) (solid.1 0 0 (omega arith))))

reversed : (bytes : List ℕ) → IsSolid bytes → IsSolid (reverse bytes)
reversed bytes solid = (omega (arith, solid.0, length-reverse bytes), AllPass-reverse (λ b. not (is_ows b)) bytes solid.1)

-- a value that begins and ends with solid bytes comes back from behind a space
pub untrimmed : (v a x y b : List ℕ) → v ≡ a ++ x → v ≡ y ++ b → IsSolid a → IsSolid b → trim_ows (32 ∷ v) ≡ v
untrimmed v a x y b begins ends first last =
    let front : skip_ows v ≡ v = ap skip_ows begins ∙ first_stays a x first ∙ sym begins in
    let back : reverse v ≡ reverse b ++ reverse y = ap reverse ends ∙ reverse-append y b in
    trim_ows_space v front (ap skip_ows back ∙ first_stays (reverse b) (reverse y) (reversed b last) ∙ sym back)

solid_number : (n : ℕ) → n < 2 ^ 64 → IsSolid (decimal n)
solid_number n small = (decimal_nonempty n small, AllPass-from_list_all (λ b. not (is_ows b)) (decimal n) (decimal_passes (λ b. not (is_ows b)) n refl small))

solid_one : (b : ℕ) → is_ows b ≡ false → IsSolid (b ∷ [])
solid_one b solid = (omega arith, All-cons (λ (x : ℕ). IsTrue (not (is_ows x))) b [] (ap not solid) (λ k d below. absurd (omega arith)))

pub trimmed_number : (n : ℕ) → n < 2 ^ 64 → trim_ows (32 ∷ decimal n) ≡ decimal n
trimmed_number n small = untrimmed (decimal n) (decimal n) [] [] (decimal n) (sym (append-nil (decimal n))) refl (solid_number n small) (solid_number n small)

pub trimmed_tag : (n : ℕ) → n < 2 ^ 64 → trim_ows (32 ∷ tag_of n) ≡ tag_of n
trimmed_tag n small = untrimmed (tag_of n) (34 ∷ []) ((codes "g" ++ decimal n) ++ 34 ∷ []) (34 ∷ (codes "g" ++ decimal n)) (34 ∷ []) refl refl (solid_one 34 refl) (solid_one 34 refl)

pub trimmed_places : (n first last : ℕ) → trim_ows (32 ∷ places_text n first last) ≡ places_text n first last
trimmed_places n first last =
    let small = size_small n in
    let d = decimal (size_of n) in
    let front = codes "bytes" ++ 32 ∷ (decimal first ++ 45 ∷ (decimal last ++ 47 ∷ [])) in
    untrimmed (places_text n first last) (98 ∷ []) (codes "ytes" ++ 32 ∷ (decimal first ++ 45 ∷ (decimal last ++ 47 ∷ d))) front d refl
    (regrouped (codes "bytes") (decimal first) (decimal last) d) (solid_one 98 refl) (solid_number (size_of n) (omega (arith, small)))

-- ---- what the fields say

pub length_is : (n : ℕ) → n < 2 ^ 62 → IsLength (decimal n) n
length_is n small = record { digits = decimal n; tail = []; number = number_is n small; is_tail = tail_nil n; text = sym (append-nil (decimal n)) }

pub range_is : (n first last : ℕ) → first ≤ last → last < size_of n → IsContentRange (places_text n first last) (range.Part first last (Some (size_of n)))
range_is n first last order below =
    let small = size_small n in
    record {
      unit = codes "bytes";
      text = decimal first ++ 45 ∷ (decimal last ++ 47 ∷ decimal (size_of n));
      parts = refl;
      bytes = refl;
      is_range = record {
        first_text = decimal first;
        last_text = decimal last;
        total_text = decimal (size_of n);
        is_first = number_is first (omega (arith, order, below, small));
        is_last = number_is last (omega (arith, below, small));
        is_total = number_is (size_of n) (omega (arith, small));
        parts = refl;
        in_order = order;
        below = below;
      };
    }

pub tag_is : (n : ℕ) → n < 2 ^ 64 → IsTag (tag_of n) false (tag_of n)
tag_is n small = (refl, record { inner = codes "g" ++ decimal n; quoted = refl; each = Each-from_list_all is_tag_byte (codes "g" ++ decimal n) (decimal_passes is_tag_byte n refl small) })

tag_short : (n : ℕ) → n < 2 ^ 64 → length (tag_of n) ≤ 1024
tag_short n small = omega (arith, length-append (codes "g" ++ decimal n) (34 ∷ []), length-decimal-le 20 n (omega arith) (omega (arith, small)) small)

pub strong_whole : (n : ℕ) → n < 2 ^ 64 → HasStrong (fields_of (whole_head n)) (tag_of n)
strong_whole n small = record { only = rw (trimmed_tag n small) refl; strong = tag_is n small; short = tag_short n small }

pub strong_part : (n first last : ℕ) → n < 2 ^ 64 → HasStrong (fields_of (part_head n first last)) (tag_of n)
strong_part n first last small = record { only = rw (trimmed_tag n small) refl; strong = tag_is n small; short = tag_short n small }
