-- A form has at most 206 bytes, none of which a folder can't take, and names no folder.
use Rattle.std.proofs.Common.{◌≡◌, ℕ, zero, suc, ◌+◌, ◌-◌, ◌%◌, ◌<◌, ◌≤◌, ◌^◌, Bool, true, false, cond, List, [], ◌∷◌, ◌++◌, length, take, map, codes, eq-eqb, ◌⊎◌, inl, inr, refl, sym, ap, ◌∙◌, subst, arith}
use Rattle.std.specs.Prelude.{nat_le, nat_lt, not, ◌==◌, ◌&&◌, ◌||◌}
use Rattle.std.specs.List.{All, list_all, list_any, prefix_len, suffix_len, after_last}
use Rattle.std.specs.Fmt.{decimal}
use Rattle.std.proofs.lemmas.Bool.{and_parts, leb-true, leb-false, ltb-false, false≢true}
use Rattle.std.proofs.lemmas.Fmt.{decimal_by_steps, length-decimal-le}
use Rattle.std.proofs.lemmas.List.{length-append}
use Rattle.std.proofs.lemmas.List.Elements.{All-nil, All-cons, All-append, All-push, All-take, All-drop, All-map, All-weaker, All-head, All-tail}
use Rattle.dm_name.specs.Clean.{cleaned, cut_length, extension, guarded, harmless, harmless_end, is_loose, is_separator, is_space, is_unsafe, or_download, stem, stem_length, trimmed, without_dot, without_end, ends_as_part}
use Rattle.dm_name.specs.Forms.{form}
use Rattle.dm_name.specs.Laws.{IsPlainByte, IsPlainName}
use Rattle.dm_name.proofs.LawLemmas.{bounds_are, short_by, stem_extension}
use Rattle.dm_name.proofs.RunLemmas.{all_in_run}

-- ---- lengths

mark_length : (name : List ℕ) (k : ℕ) → length (form name (suc k)) ≡ length name + length (decimal (suc k)) + 3
mark_length name k =
    let parts = ap length (stem_extension name) in
    let both = length-append (stem name) (extension name) in
    let a = length-append (stem name) (codes " (" ++ (decimal (suc k) ++ (codes ")" ++ extension name))) in
    let b = length-append (decimal (suc k)) (codes ")" ++ extension name) in
    omega arith

pub short_is : (raw : List ℕ) (k : ℕ) → k ≤ 100 → length (form (cleaned raw) k) ≤ 206
short_is raw zero le = let most = bounds_are raw in omega (arith, most.1)
short_is raw (suc k) le =
    let most = bounds_are raw in
    let digits = length-decimal-le 3 (suc k) (omega arith) (omega arith) (omega arith) in
    omega (arith, most.1, mark_length (cleaned raw) k)

-- ---- bytes

no_slash : (b : ℕ) → not (b == 47) ≡ true → b ≡ 47 → ⊥
no_slash b h same = false≢true (subst (λ (n : ℕ). not (n == 47) ≡ true) same h)

tested : (b : ℕ) → (nat_le 32 b && not (b == 47)) ≡ true → IsPlainByte b
tested b h = let both = and_parts (nat_le 32 b) (not (b == 47)) h in (leb-true 32 b both.0, no_slash b both.1)

all_tested : (bs : List ℕ) → list_all (λ b. nat_le 32 b && not (b == 47)) bs ≡ true → All IsPlainByte bs
all_tested [] h = All-nil IsPlainByte
all_tested (b ∷ bs) h = let both = and_parts (nat_le 32 b && not (b == 47)) (list_all (λ c. nat_le 32 c && not (c == 47)) bs) h in All-cons IsPlainByte b bs (tested b both.0) (all_tested bs both.1)

pub decimal_plain : (n : ℕ) → n < 2 ^ 64 → All IsPlainByte (decimal n)
decimal_plain n small =
    decimal_by_steps (λ m ds. All IsPlainByte ds) (λ m lt. All-cons IsPlainByte (48 + m) [] (omega arith, λ same. absurd (omega arith)) (All-nil IsPlainByte))
    (λ m ds ge all. All-push IsPlainByte ds (48 + m % 10) all (omega arith, λ same. absurd (omega arith))) n small

no_control : (b : ℕ) (x y z : Bool) → ((x || y) || z) ≡ false → nat_lt b 32 ≡ x → 32 ≤ b
no_control b true y z h is = absurd (false≢true (sym h))
no_control b false y z h is = ltb-false b 32 is

no_separator : (b : ℕ) → not (is_separator b) ≡ true → b ≡ 47 → ⊥
no_separator b other same = false≢true (subst (λ (n : ℕ). not (is_separator n) ≡ true) same other)

plain_by : (b : ℕ) (t : Bool) → is_unsafe b ≡ t → not (is_separator b) ≡ true → IsPlainByte (cond t 95 b)
plain_by b true unsafe other = tested 95 refl
plain_by b false safe other = (no_control b (nat_lt b 32) (b == 127) (list_any (λ c. c == b) (34 ∷ codes "*:<>?|")) safe refl, no_separator b other)

all_harmless : (bs : List ℕ) → All (λ b. not (is_separator b) ≡ true) bs → All IsPlainByte (map harmless bs)
all_harmless bs all = All-map IsPlainByte harmless bs (All-weaker (λ b. not (is_separator b) ≡ true) (λ b. IsPlainByte (harmless b)) (λ b other. plain_by b (is_unsafe b) refl other) bs all)

end_plain : (raw : List ℕ) → All IsPlainByte (harmless_end raw)
end_plain raw = all_harmless (after_last is_separator raw) (all_in_run (λ b. not (is_separator b)) raw)

trimmed_plain : (name : List ℕ) → All IsPlainByte name → All IsPlainByte (trimmed name)
trimmed_plain name all = All-drop IsPlainByte (prefix_len is_space (without_end name)) (without_end name) (All-take IsPlainByte (length name - suffix_len is_loose name) name all)

dot_by : (b : ℕ) (t : Bool) → IsPlainByte b → IsPlainByte (cond t 95 b)
dot_by b true plain = tested 95 refl
dot_by b false plain = plain

dot_plain : (name : List ℕ) → All IsPlainByte name → All IsPlainByte (without_dot name)
dot_plain [] all = all
dot_plain (b ∷ name) all = All-cons IsPlainByte (cond (b == 46) 95 b) name (dot_by b (b == 46) (All-head IsPlainByte b name all)) (All-tail IsPlainByte b name all)

download_plain : (name : List ℕ) → All IsPlainByte name → All IsPlainByte (or_download name)
download_plain [] all = all_tested (codes "download") refl
download_plain (b ∷ name) all = all

guarded_plain : (name : List ℕ) (t : Bool) → All IsPlainByte name → All IsPlainByte (cond t (name ++ 95 ∷ []) name)
guarded_plain name true all = All-push IsPlainByte name 95 all (tested 95 refl)
guarded_plain name false all = all

shortened_plain : (name : List ℕ) (t : Bool) → All IsPlainByte name → All IsPlainByte (cond t name (take (cut_length name (200 - length (extension name))) name ++ extension name))
shortened_plain name true all = all
shortened_plain name false all =
    All-append IsPlainByte (take (cut_length name (200 - length (extension name))) name) (extension name) (All-take IsPlainByte (cut_length name (200 - length (extension name))) name all)
    (All-drop IsPlainByte (stem_length name) name all)

cleaned_plain : (raw : List ℕ) → All IsPlainByte (cleaned raw)
unfolding cleaned
cleaned_plain raw =
    let filled = or_download (without_dot (trimmed (harmless_end raw))) in
    let all = download_plain (without_dot (trimmed (harmless_end raw))) (dot_plain (trimmed (harmless_end raw)) (trimmed_plain (harmless_end raw) (end_plain raw))) in
    shortened_plain (guarded filled) (nat_le (length (guarded filled)) 200) (guarded_plain filled (ends_as_part filled) all)

form_plain : (name : List ℕ) (k : ℕ) → k ≤ 100 → All IsPlainByte name → All IsPlainByte (form name k)
form_plain name zero le all = all
form_plain name (suc k) le all =
    let behind = codes ")" ++ extension name in
    let number = decimal (suc k) ++ behind in
    All-append IsPlainByte (stem name) (codes " (" ++ number) (All-take IsPlainByte (stem_length name) name all)
    (All-append IsPlainByte (codes " (") number (all_tested (codes " (") refl)
    (All-append IsPlainByte (decimal (suc k)) behind (decimal_plain (suc k) (omega arith))
    (All-append IsPlainByte (codes ")") (extension name) (all_tested (codes ")") refl) (All-drop IsPlainByte (stem_length name) name all))))

-- ---- no folder's own name

-- a name that doesn't begin with a dot
abbrev NoDot : List ℕ → Type 0
NoDot [] = Unit {0}
NoDot (b ∷ name) = b ≡ 46 → ⊥

undotted : (b : ℕ) (t : Bool) → (b == 46) ≡ t → cond t 95 b ≡ 46 → ⊥
undotted b true is same = absurd (omega arith)
undotted b false is same = false≢true (sym is ∙ eq-eqb b 46 same)

dot_gone : (name : List ℕ) → NoDot (without_dot name)
dot_gone [] = tt
dot_gone (b ∷ name) = undotted b (b == 46) refl

download_begins : (name : List ℕ) → NoDot name → NoDot (or_download name)
download_begins [] fine = λ same. absurd (omega arith)
download_begins (b ∷ name) fine = fine

guarded_begins : (name : List ℕ) (t : Bool) → NoDot name → NoDot (cond t (name ++ 95 ∷ []) name)
guarded_begins [] true fine = λ same. absurd (omega arith)
guarded_begins (b ∷ name) true fine = fine
guarded_begins name false fine = fine

-- a name that is no folder's own: it begins with no dot, or is longer
own_by : (name own : List ℕ) → (NoDot own → ⊥) → length own ≤ 2 → NoDot name ⊎ (2 < length name) → name ≡ own → ⊥
own_by name own dotted short (inl fine) same = dotted (subst NoDot same fine)
own_by name own dotted short (inr long) same = absurd (omega (arith, ap length same))

begins_by : (name : List ℕ) (t : Bool) → nat_le (length name) 200 ≡ t → NoDot name
    → let text = cond t name (take (cut_length name (200 - length (extension name))) name ++ extension name) in NoDot text ⊎ (2 < length text)
begins_by name true e fine = inl fine
begins_by name false e fine = let long = short_by name (leb-false (length name) 200 e) in inr (omega (arith, long.0))

cleaned_begins : (raw : List ℕ) → NoDot (cleaned raw) ⊎ (2 < length (cleaned raw))
unfolding cleaned
cleaned_begins raw =
    let filled = or_download (without_dot (trimmed (harmless_end raw))) in
    begins_by (guarded filled) (nat_le (length (guarded filled)) 200) refl
    (guarded_begins filled (ends_as_part filled) (download_begins (without_dot (trimmed (harmless_end raw))) (dot_gone (trimmed (harmless_end raw)))))

form_begins : (raw : List ℕ) (k : ℕ) → k ≤ 100 → NoDot (form (cleaned raw) k) ⊎ (2 < length (form (cleaned raw) k))
form_begins raw zero le = cleaned_begins raw
form_begins raw (suc k) le = inr (omega (arith, mark_length (cleaned raw) k, bounds_are raw))

pub plain_is : (raw : List ℕ) (k : ℕ) → k ≤ 100 → IsPlainName (form (cleaned raw) k)
plain_is raw k le = record {
  bytes = form_plain (cleaned raw) k le (cleaned_plain raw);
  not_here = own_by (form (cleaned raw) k) (codes ".") (λ fine. fine refl) (omega arith) (form_begins raw k le);
  not_above = own_by (form (cleaned raw) k) (codes "..") (λ fine. fine refl) (omega arith) (form_begins raw k le);
}
