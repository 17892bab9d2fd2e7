-- No cleaned name and none of its forms is a part's name: the name itself doesn't end as one does, a number stands
-- in front of its extension alone, and a name that was shortened is longer than any part's.
use Rattle.std.proofs.Common.{◌≡◌, ℕ, zero, suc, ◌+◌, ◌-◌, ◌<◌, ◌≤◌, Bool, true, false, cond, eqb, List, [], ◌∷◌, ◌++◌, length, take, drop, map, codes, inl, inr, refl, sym, ap, ◌∙◌, subst, append_assoc, arith}
use Rattle.std.specs.Prelude.{nat_le, nat_lt, ◌&&◌, not, IsTrue, ◌↔◌}
use Rattle.std.specs.List.{AllByRecursion, suffix_len, list_all}
use Rattle.std.specs.Str.{bytes_eq}
use Rattle.std.specs.Fmt.{decimal}
use Rattle.std.proofs.lemmas.Fmt.{length-decimal-le}
use Rattle.std.specs.Char.{to_ascii_lowercase}
use Rattle.std.proofs.lemmas.Bool.{cases_lt, both_ways, false_from_ne_true, and_parts, leb-true, leb-false, false≢true}
use Rattle.std.proofs.lemmas.Bool.Decides.{same_from_decides}
use Rattle.std.proofs.lemmas.List.{length-append, length-take-le, length-drop, take-append-drop, drop_at, drop-drop, drop-append-le, map-append, same_from_push}
use Rattle.std.proofs.lemmas.Slice.Eq.{bytes_eq-Decides}
use Rattle.dm_name.specs.Clean.{ends_as_part, guarded, or_download, is_no_dot, stem_length, stem, extension, begins_character, cut_length, shortened, without_dot, trimmed, harmless_end, cleaned}
use Rattle.dm_name.specs.Forms.{form}
use Rattle.dm_types.specs.Name.{IsPart, fold_case, part_ending}

-- what a comparison answered is the test
pub decided : (r : Bool) (xs ys : List ℕ) → IsTrue r ↔ (xs ≡ ys) → r ≡ bytes_eq xs ys
decided r xs ys h = same_from_decides r (bytes_eq xs ys) (h.0, h.1) (bytes_eq-Decides xs ys)

-- ---- ends of texts

-- a place behind the front is a place of the rest
drop_behind : (a e : List ℕ) (k : ℕ) → drop (length a + k) (a ++ e) ≡ drop k e
drop_behind a e k = sym (drop-drop k (length a) (a ++ e)) ∙ ap (drop k) (drop_at a e (length a) refl)

-- the last eleven bytes
end_of : (a e : List ℕ) → 11 ≤ length e → drop (length (a ++ e) - 11) (a ++ e) ≡ drop (length e - 11) e
end_of a e le =
    let at : length (a ++ e) - 11 ≡ length a + (length e - 11) = omega (arith, length-append a e) in
    ap (λ (k : ℕ). drop k (a ++ e)) at ∙ drop_behind a e (length e - 11)

pub same_end : (a b e : List ℕ) → 11 ≤ length e → ends_as_part (a ++ e) ≡ ends_as_part (b ++ e)
same_end a b e le = ap (λ (x : List ℕ). bytes_eq (fold_case x) part_ending) (end_of a e le ∙ sym (end_of b e le))

ends_so : (x : List ℕ) → ends_as_part (x ++ part_ending) ≡ true
ends_so x = ap (λ (y : List ℕ). bytes_eq (fold_case y) part_ending) (end_of x part_ending (omega arith))

part_front : ℕ → ℕ → List ℕ
part_front id epoch = codes "Unconfirmed " ++ decimal id ++ codes "-" ++ decimal epoch

part_parts : (name : List ℕ) → (p : IsPart name) → name ≡ part_front p.id p.epoch ++ part_ending
unfolding part_front
part_parts name p = p.is

part_ends : (name : List ℕ) → IsPart name → ends_as_part name ≡ true
part_ends name p = ap ends_as_part (part_parts name p) ∙ ends_so (part_front p.id p.epoch)

part_length : (name : List ℕ) → IsPart name → length name ≤ 44
part_length name p =
    let whole = ap length p.is in
    let front = codes "Unconfirmed " ++ decimal p.id in
    let dashed = front ++ codes "-" in
    let a = length-append (codes "Unconfirmed ") (decimal p.id) in
    let b = length-append front (codes "-") in
    let c = length-append dashed (decimal p.epoch) in
    let d = length-append (dashed ++ decimal p.epoch) part_ending in
    let small = p.small in
    let id = length-decimal-le 10 p.id (omega arith) (omega (arith, small.0)) (omega (arith, small.0)) in
    let epoch = length-decimal-le 10 p.epoch (omega arith) (omega (arith, small.1)) (omega (arith, small.1)) in
    omega arith

-- ---- the guard

last_byte : (name : List ℕ) → ends_as_part (name ++ 95 ∷ []) ≡ true → ⊥
last_byte name h =
    let at = length (name ++ 95 ∷ []) - 11 in
    let len = length-append name (95 ∷ []) in
    let within : at ≤ length name = omega arith in
    let cut = drop-append-le at name (95 ∷ []) within in
    let same = (bytes_eq-Decides (map to_ascii_lowercase (drop at (name ++ 95 ∷ []))) part_ending).0 h in
    let ends : map to_ascii_lowercase (drop at name) ++ 95 ∷ [] ≡ codes ".crdownloa" ++ 100 ∷ [] =
    sym (ap (map to_ascii_lowercase) cut ∙ map-append to_ascii_lowercase (drop at name) (95 ∷ [])) ∙ same in
    absurd (omega (arith, (same_from_push (map to_ascii_lowercase (drop at name)) (codes ".crdownloa") 95 100 ends).1))

guarded_by : (name : List ℕ) (t : Bool) → ends_as_part name ≡ t → ends_as_part (cond t (name ++ 95 ∷ []) name) ≡ false
guarded_by name true e = false_from_ne_true (ends_as_part (name ++ 95 ∷ [])) (last_byte name)
guarded_by name false e = e

guarded_is : (name : List ℕ) → ends_as_part (guarded name) ≡ false
guarded_is name = guarded_by name (ends_as_part name) refl

guarded_some : (name : List ℕ) (t : Bool) → 0 < length name → 0 < length (cond t (name ++ 95 ∷ []) name)
guarded_some name true h = omega (arith, length-append name (95 ∷ []))
guarded_some name false h = h

download_some : (name : List ℕ) → 0 < length (or_download name)
download_some [] = omega arith
download_some (b ∷ name) = omega arith

-- ---- the extension, and the cut

stem_by : (size behind : ℕ) (t : Bool) → (nat_le 1 behind && nat_le behind 16 && nat_lt (behind + 1) size) ≡ t → (cond t (size - (behind + 1)) size ≤ size) × (size ≤ cond t (size - (behind + 1)) size + 17)
stem_by size behind true h =
    let outer = and_parts (nat_le 1 behind && nat_le behind 16) (nat_lt (behind + 1) size) h in
    let inner = and_parts (nat_le 1 behind) (nat_le behind 16) outer.0 in
    let most = leb-true behind 16 inner.1 in
    (omega arith, omega arith)
stem_by size behind false h = (omega arith, omega arith)

pub stem_bounds : (name : List ℕ) → (stem_length name ≤ length name) × (length name ≤ stem_length name + 17)
stem_bounds name = let behind = suffix_len is_no_dot name in stem_by (length name) behind (nat_le 1 behind && nat_le behind 16 && nat_lt (behind + 1) (length name)) refl

pub stem_extension : (name : List ℕ) → stem name ++ extension name ≡ name
stem_extension name = take-append-drop (stem_length name) name

pub extension_short : (name : List ℕ) → length (extension name) ≤ 17
extension_short name = omega (arith, length-drop (stem_length name) name, stem_bounds name)

cut_by : (room : ℕ) (a b c d : Bool) → 3 ≤ room → let cut = cond a room (cond b (room - 1) (cond c (room - 2) (cond d (room - 3) room))) in (room ≤ cut + 3) × (cut ≤ room)
cut_by room true b c d h = (omega arith, omega arith)
cut_by room false true c d h = (omega arith, omega arith)
cut_by room false false true d h = (omega arith, omega arith)
cut_by room false false false true h = (omega arith, omega arith)
cut_by room false false false false h = (omega arith, omega arith)

cut_bounds : (text : List ℕ) (room : ℕ) → 3 ≤ room → (room ≤ cut_length text room + 3) × (cut_length text room ≤ room)
cut_bounds text room h = cut_by room (begins_character text room) (begins_character text (room - 1)) (begins_character text (room - 2)) (begins_character text (room - 3)) h

-- a name that was shortened has 197 to 200 bytes
pub short_by : (name : List ℕ) → 200 < length name → let text = take (cut_length name (200 - length (extension name))) name ++ extension name in (197 ≤ length text) × (length text ≤ 200)
short_by name long =
    let ext = extension_short name in
    let room : 3 ≤ 200 - length (extension name) = omega arith in
    let cut = cut_bounds name (200 - length (extension name)) room in
    let kept = length-take-le (cut_length name (200 - length (extension name))) name (omega arith) in
    let whole = length-append (take (cut_length name (200 - length (extension name))) name) (extension name) in
    (omega arith, omega arith)

-- ---- forms

pub longer : (name : List ℕ) (k : ℕ) → length name ≤ length (form name k)
longer name zero = omega arith
longer name (suc k) =
    let parts = ap length (stem_extension name) in
    let both = length-append (stem name) (extension name) in
    let a = length-append (stem name) (codes " (" ++ (decimal (suc k) ++ (codes ")" ++ extension name))) in
    let b = length-append (decimal (suc k)) (codes ")" ++ extension name) in
    omega arith

each_within : (kind : ℕ → Bool) (p e : List ℕ) (b : ℕ) → AllByRecursion (λ x. IsTrue (kind x)) (p ++ b ∷ e) → kind b ≡ true
each_within kind [] e b h = h.0
each_within kind (x ∷ p) e b h = each_within kind p e b h.1

tail_of : (a b : ℕ) (x y : List ℕ) → a ∷ x ≡ b ∷ y → x ≡ y
tail_of a b x y e = cc

each_from_test : (kind : ℕ → Bool) (xs : List ℕ) → list_all kind xs ≡ true → AllByRecursion (λ b. IsTrue (kind b)) xs
each_from_test kind [] h = tt
each_from_test kind (x ∷ xs) h = let parts = and_parts (kind x) (list_all kind xs) h in (parts.0, each_from_test kind xs parts.1)

-- a byte with few bytes behind it stands in the second text
stands_in : (kind : ℕ → Bool) (x y p e : List ℕ) (b : ℕ) → AllByRecursion (λ c. IsTrue (kind c)) y → x ++ y ≡ p ++ b ∷ e → length e < length y → kind b ≡ true
stands_in kind [] y p e b each same few = each_within kind p e b (subst (AllByRecursion (λ c. IsTrue (kind c))) same each)
stands_in kind (c ∷ x) y [] e b each same few =
    let rest = ap length (tail_of c b (x ++ y) e same) in
    absurd (omega (arith, length-append x y, rest))
stands_in kind (c ∷ x) y (d ∷ p) e b each same few = stands_in kind x y p e b each (tail_of c d (x ++ y) (p ++ b ∷ e) same) few

abbrev is_no_bracket : ℕ → Bool
is_no_bracket b = not (eqb b 41)

-- the text before a form's extension
abbrev numbered : List ℕ → ℕ → List ℕ
numbered name k = stem name ++ (codes " (" ++ decimal (suc k))

form_parts : (name : List ℕ) (k : ℕ) → form name (suc k) ≡ numbered name k ++ 41 ∷ extension name
form_parts name k =
    ap (λ (x : List ℕ). stem name ++ x) (sym (append_assoc (codes " (") (decimal (suc k)) (41 ∷ extension name)))
    ∙ sym (append_assoc (stem name) (codes " (" ++ decimal (suc k)) (41 ∷ extension name))

-- a form of a name that doesn't end as a part's isn't a part's
form_no_part : (name : List ℕ) (k : ℕ) → ends_as_part name ≡ false → IsPart (form name k) → ⊥
form_no_part name zero h p = both_ways (ends_as_part name) h (part_ends name p)
form_no_part name (suc k) h p =
    elim (cases_lt (length (extension name)) 11) [
      | inl few ↦
          false≢true (stands_in is_no_bracket (part_front p.id p.epoch) part_ending (numbered name k) (extension name) 41 (each_from_test is_no_bracket part_ending refl)
          (sym (part_parts (form name (suc k)) p) ∙ form_parts name k) few)
      | inr many ↦
          both_ways (ends_as_part name) h
          (ap ends_as_part (sym (stem_extension name))
          ∙ same_end (stem name) (numbered name k ++ 41 ∷ []) (extension name) many
          ∙ ap ends_as_part (append_assoc (numbered name k) (41 ∷ []) (extension name) ∙ sym (form_parts name k))
          ∙ part_ends (form name (suc k)) p)
    ]

long_no_part : (name : List ℕ) (k : ℕ) → 197 ≤ length name → IsPart (form name k) → ⊥
long_no_part name k h p = absurd (omega (arith, longer name k, part_length (form name k) p))

short_no_part : (name : List ℕ) (k : ℕ) (t : Bool) → nat_le (length name) 200 ≡ t → ends_as_part name ≡ false → IsPart (form (cond t name (take (cut_length name (200 - length (extension name))) name ++ extension name)) k) → ⊥
short_no_part name k true e h p = form_no_part name k h p
short_no_part name k false e h p = long_no_part (take (cut_length name (200 - length (extension name))) name ++ extension name) k (short_by name (leb-false (length name) 200 e)).0 p

pub no_part_is : (raw : List ℕ) (k : ℕ) → IsPart (form (cleaned raw) k) → ⊥
unfolding cleaned
no_part_is raw k p =
    let name = guarded (or_download (without_dot (trimmed (harmless_end raw)))) in
    short_no_part name k (nat_le (length name) 200) refl (guarded_is (or_download (without_dot (trimmed (harmless_end raw))))) p

short_bounds : (name : List ℕ) (t : Bool) → nat_le (length name) 200 ≡ t → 0 < length name → let text = cond t name (take (cut_length name (200 - length (extension name))) name ++ extension name) in (0 < length text) × (length text ≤ 200)
short_bounds name true e h = (h, leb-true (length name) 200 e)
short_bounds name false e h = let bounds = short_by name (leb-false (length name) 200 e) in (omega arith, bounds.1)

pub bounds_are : (raw : List ℕ) → (0 < length (cleaned raw)) × (length (cleaned raw) ≤ 200)
unfolding cleaned
bounds_are raw =
    let filled = or_download (without_dot (trimmed (harmless_end raw))) in
    short_bounds (guarded filled) (nat_le (length (guarded filled)) 200) refl (guarded_some filled (ends_as_part filled) (download_some (without_dot (trimmed (harmless_end raw)))))

-- the seven steps, one after another
pub cleaned_is : (raw whole part dotted filled marked : List ℕ) → whole ≡ harmless_end raw → part ≡ trimmed whole → dotted ≡ without_dot part → filled ≡ or_download dotted → marked ≡ guarded filled → shortened marked ≡ cleaned raw
unfolding cleaned
cleaned_is raw whole part dotted filled marked a b c d e =
    ap shortened (e ∙ ap guarded (d ∙ ap or_download (c ∙ ap without_dot (b ∙ ap trimmed a))))
