-- A cleaned name and its forms are UTF-8 where the wish is.
use Rattle.std.proofs.Common.{◌≡◌, ℕ, zero, suc, ◌+◌, ◌-◌, ◌/◌, ◌%◌, ◌<◌, ◌≤◌, ◌⊎◌, Bool, true, false, cond, List, [], ◌∷◌, ◌++◌, length, take, drop, map, codes, get_or, inl, inr, refl, sym, ap, ◌∙◌, subst, arith}
use Rattle.std.specs.Prelude.{nat_le, nat_lt, not, ◌==◌, ◌&&◌, ◌||◌}
use Rattle.std.specs.List.{All, AllByRecursion, list_all, list_any, prefix_len, suffix_len, after_last}
use Rattle.std.specs.Str.{IsAscii, IsUtf8, IsCharBoundary}
use Rattle.std.specs.Int.{is_in_range}
use Rattle.std.specs.Fmt.{decimal}
use Rattle.std.proofs.Math.Utf8.{encode, encodes, scalar, scalars}
use Rattle.std.proofs.lemmas.Bool.{and_parts, cases_lt, eqb-true, false_from_ne_true, false≢true, le-leb, leb-true, leb-false, ltb-true}
use Rattle.std.proofs.lemmas.Fmt.{IsAscii-decimal}
use Rattle.std.proofs.lemmas.List.{length-append, drop_at, map-append}
use Rattle.std.proofs.lemmas.List.Elements.{All-nil, All-cons, All-head, All-tail}
use Rattle.std.proofs.lemmas.Str.{IsUtf8-append, IsUtf8-nil, IsUtf8-encode, IsUtf8-from_ascii, IsUtf8-take, IsUtf8-drop, IsUtf8-past_char, IsCharBoundary-start, IsCharBoundary-end, IsCharBoundary-before_ascii, IsCharBoundary-after_ascii, IsCharBoundary-from_rest, encode_ascii, length-encode, len_utf8_bounds}
use Rattle.std.proofs.lemmas.Str.Ascii.{IsAscii-cons, IsAscii-nil}
use Rattle.dm_name.specs.Clean.{begins_character, cleaned, cut_length, extension, guarded, harmless, harmless_end, is_loose, is_no_dot, is_separator, is_space, is_unsafe, or_download, stem, stem_length, trimmed, without_dot, without_end, without_front, ends_as_part}
use Rattle.dm_name.specs.Forms.{form}
use Rattle.dm_name.proofs.LawLemmas.{extension_short}
use Rattle.dm_name.proofs.RunLemmas.{in_run, before_run}

-- ---- one byte for another

or_parts : (x y : Bool) → (x || y) ≡ true → (x ≡ true) ⊎ (y ≡ true)
or_parts true y h = inl refl
or_parts false y h = inr h

marks_low : (b : ℕ) (marks : List ℕ) → AllByRecursion (λ c. c < 128) marks → list_any (λ c. c == b) marks ≡ true → b < 128
marks_low b [] all h = absurd (false≢true h)
marks_low b (c ∷ marks) all h = elim (or_parts (c == b) (list_any (λ d. d == b) marks) h) [
  | inl same ↦ let is : c ≡ b = eqb-true c b same in omega (arith, all.0)
  | inr later ↦ marks_low b marks all.1 later
]

abbrev marks : List ℕ
marks = 34 ∷ codes "*:<>?|"

unsafe_low : (b : ℕ) → is_unsafe b ≡ true → b < 128
unsafe_low b h = elim (or_parts (nat_lt b 32 || b == 127) (list_any (λ c. c == b) marks) h) [
  | inl early ↦ elim (or_parts (nat_lt b 32) (b == 127) early) [
    | inl control ↦ let low = ltb-true b 32 control in omega arith
    | inr delete ↦ let is : b ≡ 127 = eqb-true b 127 delete in omega arith
  ]
  | inr mark ↦ marks_low b marks (omega arith, (omega arith, (omega arith, (omega arith, (omega arith, (omega arith, (omega arith, tt))))))) mark
]

harmless_low : (b : ℕ) (t : Bool) → b < 128 → cond t 95 b < 128
harmless_low b true h = omega arith
harmless_low b false h = h

harmless_high : (b : ℕ) → 128 ≤ b → harmless b ≡ b
harmless_high b h = ap (λ (t : Bool). cond t 95 b) (false_from_ne_true (is_unsafe b) (λ is. absurd (omega (arith, unsafe_low b is))))

all_high : (bs : List ℕ) → All (λ b. 128 ≤ b) bs → map harmless bs ≡ bs
all_high [] all = refl
all_high (b ∷ bs) all =
    ap (λ (x : ℕ). x ∷ map harmless bs) (harmless_high b (All-head (λ c. 128 ≤ c) b bs all)) ∙ ap (λ (l : List ℕ). b ∷ l) (all_high bs (All-tail (λ c. 128 ≤ c) b bs all))

two : (a b : ℕ) → 128 ≤ a → 128 ≤ b → All (λ x. 128 ≤ x) (a ∷ b ∷ [])
two a b h k = All-cons (λ x. 128 ≤ x) a (b ∷ []) h (All-cons (λ x. 128 ≤ x) b [] k (All-nil (λ x. 128 ≤ x)))

high_by : (c n1 n2 n3 a2 a3 a4 : ℕ) (x y z : Bool) → 128 ≤ c → 128 ≤ n1 → 128 ≤ n2 → 128 ≤ n3 → 128 ≤ a2 → 128 ≤ a3 → 128 ≤ a4
    → All (λ b. 128 ≤ b) (cond x (c ∷ []) (cond y (a2 ∷ n1 ∷ []) (cond z (a3 ∷ n2 ∷ n1 ∷ []) (a4 ∷ n3 ∷ n2 ∷ n1 ∷ []))))
high_by c n1 n2 n3 a2 a3 a4 true y z h h1 h2 h3 k2 k3 k4 = All-cons (λ b. 128 ≤ b) c [] h (All-nil (λ b. 128 ≤ b))
high_by c n1 n2 n3 a2 a3 a4 false true z h h1 h2 h3 k2 k3 k4 = two a2 n1 k2 h1
high_by c n1 n2 n3 a2 a3 a4 false false true h h1 h2 h3 k2 k3 k4 = All-cons (λ b. 128 ≤ b) a3 (n2 ∷ n1 ∷ []) k3 (two n2 n1 h2 h1)
high_by c n1 n2 n3 a2 a3 a4 false false false h h1 h2 h3 k2 k3 k4 = All-cons (λ b. 128 ≤ b) a4 (n3 ∷ n2 ∷ n1 ∷ []) k4 (All-cons (λ b. 128 ≤ b) n3 (n2 ∷ n1 ∷ []) h3 (two n2 n1 h2 h1))

high_bytes : (c : ℕ) → 128 ≤ c → All (λ b. 128 ≤ b) (encode c)
unfolding encode
high_bytes c h =
    high_by c (128 + c % 64) (128 + c / 64 % 64) (128 + c / 4096 % 64) (192 + c / 64) (224 + c / 4096) (240 + c / 262144) (nat_lt c 128) (nat_lt c 2048) (nat_lt c 65536) h
    (omega arith) (omega arith) (omega arith) (omega arith) (omega arith) (omega arith)

harmless_char : (c : ℕ) → scalar c ≡ true → IsUtf8 (map harmless (encode c))
harmless_char c is = elim (cases_lt c 128) [
  | inl low ↦
      subst (λ (bs : List ℕ). IsUtf8 (map harmless bs)) (sym (encode_ascii c low))
      (IsUtf8-from_ascii (harmless c ∷ []) (IsAscii-cons (harmless c) [] (harmless_low c (is_unsafe c) low) IsAscii-nil))
  | inr high ↦ subst IsUtf8 (sym (all_high (encode c) (high_bytes c high))) (IsUtf8-encode c is)
]

harmless_chars : (cs : List ℕ) → scalars cs ≡ true → IsUtf8 (map harmless (encodes cs))
harmless_chars [] is = IsUtf8-nil
harmless_chars (c ∷ cs) is =
    let both = and_parts (scalar c) (scalars cs) is in
    subst IsUtf8 (sym (map-append harmless (encode c) (encodes cs))) (IsUtf8-append (map harmless (encode c)) (map harmless (encodes cs)) (harmless_char c both.0) (harmless_chars cs both.1))

harmless_text : (bs : List ℕ) → IsUtf8 bs → IsUtf8 (map harmless bs)
harmless_text bs (cs, (are, spell)) = subst (λ (l : List ℕ). IsUtf8 (map harmless l)) spell (harmless_chars cs are)

-- ---- texts of ASCII

ascii_all : (bs : List ℕ) → list_all (λ b. nat_lt b 128) bs ≡ true → IsAscii bs
ascii_all [] h = IsAscii-nil
ascii_all (b ∷ bs) h = let both = and_parts (nat_lt b 128) (list_all (λ c. nat_lt c 128) bs) h in IsAscii-cons b bs (ltb-true b 128 both.0) (ascii_all bs both.1)

plain_text : (bs : List ℕ) → list_all (λ b. nat_lt b 128) bs ≡ true → IsUtf8 bs
plain_text bs h = IsUtf8-from_ascii bs (ascii_all bs h)

-- ---- cuts beside a byte of ASCII

turned : (t : Bool) → not t ≡ false → t ≡ true
turned true h = refl
turned false h = absurd (false≢true (sym h))

separator_low : (b : ℕ) → not (is_separator b) ≡ false → b < 128
separator_low b h = elim (or_parts (b == 47) (b == 92) (turned (is_separator b) h)) [
  | inl slash ↦ let is : b ≡ 47 = eqb-true b 47 slash in omega arith
  | inr back ↦ let is : b ≡ 92 = eqb-true b 92 back in omega arith
]

loose_low : (b : ℕ) → is_loose b ≡ true → b < 128
loose_low b h = elim (or_parts (b == 46) (b == 32) h) [
  | inl dot ↦ let is : b ≡ 46 = eqb-true b 46 dot in omega arith
  | inr space ↦ let is : b ≡ 32 = eqb-true b 32 space in omega arith
]

-- behind the last separator
behind_boundary : (raw : List ℕ) → IsUtf8 raw → IsCharBoundary raw (length raw - suffix_len (λ b. not (is_separator b)) raw)
behind_boundary raw text =
    let run = suffix_len (λ b. not (is_separator b)) raw in
    elim (cases_lt run (length raw)) [
      | inl short ↦
          let at = length raw - run - 1 in
          let next : at + 1 ≡ length raw - run = omega arith in
          subst (IsCharBoundary raw) next (IsCharBoundary-after_ascii raw at text (omega arith) (separator_low (get_or raw at 0) (before_run (λ b. not (is_separator b)) raw short)))
      | inr whole ↦ let start : 0 ≡ length raw - run = omega arith in subst (IsCharBoundary raw) start (IsCharBoundary-start raw text)
    ]

end_text : (raw : List ℕ) → IsUtf8 raw → IsUtf8 (harmless_end raw)
end_text raw text =
    harmless_text (after_last is_separator raw) (IsUtf8-drop raw (length raw - suffix_len (λ b. not (is_separator b)) raw) text (behind_boundary raw text))

-- before the dots and spaces at the end
loose_boundary : (name : List ℕ) → IsCharBoundary name (length name - suffix_len is_loose name)
loose_boundary name =
    let at = length name - suffix_len is_loose name in
    elim (cases_lt at (length name)) [
      | inl within ↦ IsCharBoundary-before_ascii name at within (loose_low (get_or name at 0) (in_run is_loose name at (omega arith) within))
      | inr whole ↦ let end : length name ≡ at = omega arith in subst (IsCharBoundary name) end (IsCharBoundary-end name)
    ]

-- behind one byte of ASCII
behind_ascii : (b : ℕ) (rest : List ℕ) → b < 128 → IsUtf8 (b ∷ rest) → IsUtf8 rest
behind_ascii b rest low text = IsUtf8-past_char (b ∷ rest) rest b text (sym (ap (λ (l : List ℕ). l ++ rest) (encode_ascii b low)))

front_by : (b : ℕ) (rest : List ℕ) (t : Bool) → is_space b ≡ t → IsUtf8 (b ∷ rest) → (IsUtf8 rest → IsUtf8 (drop (prefix_len is_space rest) rest)) → IsUtf8 (drop (cond t (1 + prefix_len is_space rest) 0) (b ∷ rest))
front_by b rest true is text more =
    let space : b ≡ 32 = eqb-true b 32 is in
    let next : suc (prefix_len is_space rest) ≡ 1 + prefix_len is_space rest = omega arith in
    subst (λ (n : ℕ). IsUtf8 (drop n (b ∷ rest))) next (more (behind_ascii b rest (omega arith) text))
front_by b rest false is text more = text

front_text : (name : List ℕ) → IsUtf8 name → IsUtf8 (without_front name)
front_text [] text = text
front_text (b ∷ rest) text = front_by b rest (is_space b) refl text (front_text rest)

trimmed_text : (name : List ℕ) → IsUtf8 name → IsUtf8 (trimmed name)
trimmed_text name text = front_text (without_end name) (IsUtf8-take name (length name - suffix_len is_loose name) text (loose_boundary name))

dot_by : (b : ℕ) (rest : List ℕ) (t : Bool) → (b == 46) ≡ t → IsUtf8 (b ∷ rest) → IsUtf8 (cond t 95 b ∷ rest)
dot_by b rest true is text = let dot : b ≡ 46 = eqb-true b 46 is in IsUtf8-append (95 ∷ []) rest (plain_text (95 ∷ []) refl) (behind_ascii b rest (omega arith) text)
dot_by b rest false is text = text

dot_text : (name : List ℕ) → IsUtf8 name → IsUtf8 (without_dot name)
dot_text [] text = text
dot_text (b ∷ rest) text = dot_by b rest (b == 46) refl text

download_text : (name : List ℕ) → IsUtf8 name → IsUtf8 (or_download name)
download_text [] text = plain_text (codes "download") refl
download_text (b ∷ rest) text = text

guarded_text : (name : List ℕ) (t : Bool) → IsUtf8 name → IsUtf8 (cond t (name ++ 95 ∷ []) name)
guarded_text name true text = IsUtf8-append name (95 ∷ []) text (plain_text (95 ∷ []) refl)
guarded_text name false text = text

-- ---- the extension

dot_low : (b : ℕ) → is_no_dot b ≡ false → b < 128
dot_low b h = elim (cases_lt b 128) [
  | inl low ↦ low
  | inr high ↦ absurd (false≢true (sym h ∙ ap not (false_from_ne_true (b == 46) (λ same. let is : b ≡ 46 = eqb-true b 46 same in absurd (omega arith)))))
]

stem_cut : (name : List ℕ) (t : Bool) → let behind = suffix_len is_no_dot name in (nat_le 1 behind && nat_le behind 16 && nat_lt (behind + 1) (length name)) ≡ t → IsCharBoundary name (cond t (length name - (behind + 1)) (length name))
stem_cut name true h =
    let behind = suffix_len is_no_dot name in
    let short = ltb-true (behind + 1) (length name) (and_parts (nat_le 1 behind && nat_le behind 16) (nat_lt (behind + 1) (length name)) h).1 in
    let same : length name - behind - 1 ≡ length name - (behind + 1) = omega arith in
    let at = length name - (behind + 1) in
    let before : is_no_dot (get_or name at 0) ≡ false = subst (λ (n : ℕ). is_no_dot (get_or name n 0) ≡ false) same (before_run is_no_dot name (omega arith)) in
    IsCharBoundary-before_ascii name at (omega arith) (dot_low (get_or name at 0) before)
stem_cut name false h = IsCharBoundary-end name

stem_boundary : (name : List ℕ) → IsCharBoundary name (stem_length name)
stem_boundary name = let behind = suffix_len is_no_dot name in stem_cut name (nat_le 1 behind && nat_le behind 16 && nat_lt (behind + 1) (length name)) refl

stem_text : (name : List ℕ) → IsUtf8 name → IsUtf8 (stem name)
stem_text name text = IsUtf8-take name (stem_length name) text (stem_boundary name)

extension_text : (name : List ℕ) → IsUtf8 name → IsUtf8 (extension name)
extension_text name text = IsUtf8-drop name (stem_length name) text (stem_boundary name)

-- ---- the cut

-- a character begins at most three places before each place of a text
record Near (text : List ℕ) (place : ℕ) : Type 0 where
  at : ℕ
  before : at ≤ place
  near : place ≤ at + 3
  begins : IsCharBoundary text at

near_in : (cs : List ℕ) → scalars cs ≡ true → (place : ℕ) → place < length (encodes cs) → Near (encodes cs) place
near_in [] are place within = absurd (omega (arith, within))
near_in (c ∷ cs) are place within =
    let both = and_parts (scalar c) (scalars cs) are in
    let size = length (encode c) in
    let whole = length-append (encode c) (encodes cs) in
    let bytes = len_utf8_bounds c in
    let spelled = length-encode c in
    elim (cases_lt place size) [
      | inl first ↦ record { at = 0; before = omega arith; near = omega arith; begins = IsCharBoundary-start (encodes (c ∷ cs)) (c ∷ cs, (are, refl)) }
      | inr later ↦
          let rest = near_in cs both.1 (place - size) (omega arith) in
          let past : drop size (encode c ++ encodes cs) ≡ encodes cs = drop_at (encode c) (encodes cs) size refl in
          record {
            at = size + rest.at;
            before = omega (arith, rest.before);
            near = omega (arith, rest.near);
            begins = IsCharBoundary-from_rest (encodes (c ∷ cs)) size rest.at (omega arith) (subst (λ (l : List ℕ). IsCharBoundary l rest.at) (sym past) rest.begins);
          }
    ]

near_place : (text : List ℕ) → IsUtf8 text → (place : ℕ) → place < length text → Near text place
near_place text (cs, (are, spell)) place within =
    subst (λ (l : List ℕ). Near l place) spell (near_in cs are place (subst (λ (l : List ℕ). place < length l) (sym spell) within))

in_range : (b : ℕ) → 128 ≤ b → b ≤ 191 → is_in_range 0x80 0xBF b ≡ true
in_range b from to = ap (λ (t : Bool). t && nat_le b 191) (le-leb 128 b from) ∙ le-leb b 191 to

starts : (text : List ℕ) (i : ℕ) → i ≤ length text → begins_character text i ≡ true → IsCharBoundary text i
starts text i within h = (
  within,
  λ inside high. elim (cases_lt (get_or text i 0) 192) [
    | inl low ↦ absurd (false≢true (ap not (sym (in_range (get_or text i 0) high (omega arith))) ∙ h))
    | inr lead ↦ lead
  ],
)

starts_not : (text : List ℕ) (i : ℕ) → i < length text → begins_character text i ≡ false → IsCharBoundary text i → ⊥
starts_not text i within h begins =
    let both = and_parts (nat_le 128 (get_or text i 0)) (nat_le (get_or text i 0) 191) (turned (is_in_range 0x80 0xBF (get_or text i 0)) h) in
    let from = leb-true 128 (get_or text i 0) both.0 in
    let to = leb-true (get_or text i 0) 191 both.1 in
    absurd (omega (arith, begins.1 within from))

no_place : (text : List ℕ) (room at : ℕ) → 3 ≤ room → room < length text → at ≤ room → room ≤ at + 3 → begins_character text room ≡ false → begins_character text (room - 1) ≡ false
    → begins_character text (room - 2) ≡ false → begins_character text (room - 3) ≡ false → IsCharBoundary text at → ⊥
no_place text room at some within before near ea eb ec ed begins = elim (cases_lt at room) [
  | inr same ↦ let is : at ≡ room = omega arith in starts_not text room within ea (subst (IsCharBoundary text) is begins)
  | inl less ↦ elim (cases_lt at (room - 1)) [
    | inr same ↦ let is : at ≡ room - 1 = omega arith in starts_not text (room - 1) (omega arith) eb (subst (IsCharBoundary text) is begins)
    | inl fewer ↦ elim (cases_lt at (room - 2)) [
      | inr same ↦ let is : at ≡ room - 2 = omega arith in starts_not text (room - 2) (omega arith) ec (subst (IsCharBoundary text) is begins)
      | inl least ↦ let is : at ≡ room - 3 = omega arith in starts_not text (room - 3) (omega arith) ed (subst (IsCharBoundary text) is begins)
    ]
  ]
]

-- one of the four places is where a character begins
cut_by : (text : List ℕ) (room : ℕ) (a b c d : Bool) → IsUtf8 text → 3 ≤ room → room < length text → begins_character text room ≡ a → begins_character text (room - 1) ≡ b → begins_character text (room - 2) ≡ c → begins_character text (room - 3) ≡ d
    → IsCharBoundary text (cond a room (cond b (room - 1) (cond c (room - 2) (cond d (room - 3) room))))
cut_by text room true b c d is some within ea eb ec ed = starts text room (omega arith) ea
cut_by text room false true c d is some within ea eb ec ed = starts text (room - 1) (omega arith) eb
cut_by text room false false true d is some within ea eb ec ed = starts text (room - 2) (omega arith) ec
cut_by text room false false false true is some within ea eb ec ed = starts text (room - 3) (omega arith) ed
cut_by text room false false false false is some within ea eb ec ed =
    let close = near_place text is room within in
    absurd (no_place text room close.at some within close.before close.near ea eb ec ed close.begins)

cut_boundary : (text : List ℕ) (room : ℕ) → IsUtf8 text → 3 ≤ room → room < length text → IsCharBoundary text (cut_length text room)
cut_boundary text room is some within =
    cut_by text room (begins_character text room) (begins_character text (room - 1)) (begins_character text (room - 2)) (begins_character text (room - 3)) is some within refl refl refl refl

shortened_text : (name : List ℕ) (t : Bool) → nat_le (length name) 200 ≡ t → IsUtf8 name → IsUtf8 (cond t name (take (cut_length name (200 - length (extension name))) name ++ extension name))
shortened_text name true e text = text
shortened_text name false e text =
    let long = leb-false (length name) 200 e in
    let short = extension_short name in
    let room = 200 - length (extension name) in
    IsUtf8-append (take (cut_length name room) name) (extension name) (IsUtf8-take name (cut_length name room) text (cut_boundary name room text (omega arith) (omega arith))) (extension_text name text)

cleaned_text : (raw : List ℕ) → IsUtf8 raw → IsUtf8 (cleaned raw)
unfolding cleaned
cleaned_text raw text =
    let filled = or_download (without_dot (trimmed (harmless_end raw))) in
    let is = download_text (without_dot (trimmed (harmless_end raw))) (dot_text (trimmed (harmless_end raw)) (trimmed_text (harmless_end raw) (end_text raw text))) in
    shortened_text (guarded filled) (nat_le (length (guarded filled)) 200) refl (guarded_text filled (ends_as_part filled) is)

form_text : (name : List ℕ) (k : ℕ) → k ≤ 100 → IsUtf8 name → IsUtf8 (form name k)
form_text name zero le text = text
form_text name (suc k) le text =
    let behind = codes ")" ++ extension name in
    let number = decimal (suc k) ++ behind in
    IsUtf8-append (stem name) (codes " (" ++ number) (stem_text name text)
    (IsUtf8-append (codes " (") number (plain_text (codes " (") refl)
    (IsUtf8-append (decimal (suc k)) behind (IsUtf8-from_ascii (decimal (suc k)) (IsAscii-decimal (suc k) (omega arith)))
    (IsUtf8-append (codes ")") (extension name) (plain_text (codes ")") refl) (extension_text name text))))

pub text_is : (raw : List ℕ) (k : ℕ) → k ≤ 100 → IsUtf8 raw → IsUtf8 (form (cleaned raw) k)
text_is raw k le text = form_text (cleaned raw) k le (cleaned_text raw text)
