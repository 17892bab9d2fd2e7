-- The texts of values, read.
use Rattle.std.proofs.Common.{◌≡◌, ℕ, zero, suc, ◌+◌, ◌<◌, ◌≤◌, Bool, true, false, cond, eqb, List, [], ◌∷◌, ◌++◌, length, get_or, take, drop, map, ◌⊎◌, inl, inr, Option, Some, None, Result, Ok, Err, refl, sym, ap, ◌∙◌, subst, append_assoc}
use Rattle.std.specs.Prelude.{IfOk, IsTrue, ◌↔◌, option_and_then}
use Rattle.std.specs.List.{flat_map, AllByRecursion}
use Rattle.std.specs.Char.{is_ascii_hexdigit, encode_utf8}
use Rattle.std.specs.Str.{encode_utf8_all}
use Rattle.std.proofs.lemmas.Bool.{both_ways, false≢true, eqb-true, eq-eqb, not-false}
use Rattle.std.proofs.lemmas.Option.{same_Some, none-some}
use Rattle.std.proofs.lemmas.List.{append-nil, append_cancel_right, take_more, at_drop_more, at_drop_all}
use Rattle.std.proofs.lemmas.Str.{encodes-append}
use Rattle.percent_encoding.specs.Percent.{percent_decode}
use Rattle.dm_types.specs.Bytes.{Each, Stops, Cuts}
use Rattle.dm_disposition.specs.Bytes.{is_token_byte, is_quoted_text, IsToken}
use Rattle.dm_disposition.specs.Grammar.{Mark, plain, escaped, mark_text, byte_of, IsMark, Value, token, quoted, value_text, bytes_of, IsValue}
use Rattle.dm_disposition.specs.Told.{is_attr_byte, is_no_quote, Char, attr, percent, char_text, IsChar, AreChars, ReadsAs, IsPlain, ExtParts, InCharset, MaybeInCharset, MaybeExtended}
use Rattle.dm_disposition.specs.Machine.{unescaped, digits_after, digits_behind}
use Rattle.dm_disposition.proofs.ClassLemmas.{text_not, not_this}

-- ---- runs

cons_parts : (a b : ℕ) (x y : List ℕ) → a ∷ x ≡ b ∷ y → (a ≡ b) × (x ≡ y)
cons_parts a b x y e = (cc, cc)

pub run_one : (kind : ℕ → Bool) (a b x y : List ℕ) → Each kind a → Each kind b → Stops kind x → Stops kind y → a ++ x ≡ b ++ y → (a ≡ b) × (x ≡ y)
run_one kind [] [] x y ea eb sx sy e = (refl, e)
run_one kind [] (b ∷ bs) x y ea eb sx sy e = absurd (false≢true (sym (subst (Stops kind) e sx) ∙ eb.0))
run_one kind (a ∷ az) [] x y ea eb sx sy e = absurd (false≢true (sym (subst (Stops kind) (sym e) sy) ∙ ea.0))
run_one kind (a ∷ az) (b ∷ bs) x y ea eb sx sy e =
    let heads = cons_parts a b (az ++ x) (bs ++ y) e in
    let rest = run_one kind az bs x y ea.1 eb.1 sx sy heads.1 in
    (cc, rest.1)

-- ---- quoted texts

unescaped_plain : (b : ℕ) (w : List ℕ) → is_quoted_text b ≡ true → unescaped false (b ∷ w) ≡ b ∷ unescaped false w
unescaped_plain b w h = rw (text_not b 92 h refl) refl

pub unescaped_marks : (ms : List Mark) → AllByRecursion IsMark ms → unescaped false (flat_map mark_text ms) ≡ map byte_of ms
unescaped_marks [] h = refl
unescaped_marks (plain b ∷ ms) h = unescaped_plain b (flat_map mark_text ms) h.0 ∙ ap (λ (x : List ℕ). b ∷ x) (unescaped_marks ms h.1)
unescaped_marks (escaped b ∷ ms) h = ap (λ (x : List ℕ). b ∷ x) (unescaped_marks ms h.1)

quote_no_token : (bytes inner : List ℕ) → IsToken bytes → bytes ≡ 34 ∷ inner → ⊥
quote_no_token [] inner h e = absurd cc
quote_no_token (b ∷ bytes) inner h e = both_ways (is_token_byte 34) refl (subst (λ (x : ℕ). is_token_byte x ≡ true) (cons_parts b 34 bytes inner e).0 h.each.0)

pub quoted_bytes : (text inner bytes : List ℕ) (v : Value) → text ≡ 34 ∷ (inner ++ 34 ∷ []) → bytes ≡ unescaped false inner → IsValue v → text ≡ value_text v → bytes ≡ bytes_of v
quoted_bytes text inner bytes (token t) parts are is e = absurd (quote_no_token t (inner ++ 34 ∷ []) is (sym e ∙ parts))
quoted_bytes text inner bytes (quoted ms) parts are is e =
    let same = append_cancel_right inner (flat_map mark_text ms) (34 ∷ []) (cons_parts 34 34 (inner ++ 34 ∷ []) (flat_map mark_text ms ++ 34 ∷ []) (sym parts ∙ e)).1 in
    are ∙ ap (unescaped false) same ∙ unescaped_marks ms is

pub token_bytes : (text bytes : List ℕ) (v : Value) → ((inner : List ℕ) → text ≡ 34 ∷ (inner ++ 34 ∷ []) → ⊥) → bytes ≡ text → IsValue v → text ≡ value_text v → bytes ≡ bytes_of v
token_bytes text bytes (token t) none are is e = are ∙ e
token_bytes text bytes (quoted ms) none are is e = absurd (none (flat_map mark_text ms) e)

pub unescaped_nil : (e : Bool) → unescaped e [] ≡ []
unescaped_nil true = refl
unescaped_nil false = refl

-- a backslash that quotes
pub skip_more : (inner bytes : List ℕ) (i b : ℕ) → i < length inner → b ≡ get_or inner i 0 → b ≡ 92 → bytes ++ unescaped false (drop i inner) ≡ unescaped false inner → bytes ++ unescaped true (drop (i + 1) inner) ≡ unescaped false inner
skip_more inner bytes i b lt here is so_far =
    let step : unescaped false (drop i inner) ≡ unescaped true (drop (i + 1) inner) = at_drop_more (unescaped false) inner i 0 lt ∙ ap (λ (x : ℕ). unescaped false (x ∷ drop (i + 1) inner)) (sym here ∙ is) in
    ap (λ (x : List ℕ). bytes ++ x) (sym step) ∙ so_far

kept_by : (e : Bool) (b : ℕ) (w : List ℕ) → (e ≡ true) ⊎ (eqb b 92 ≡ false) → unescaped e (b ∷ w) ≡ b ∷ unescaped false w
kept_by true b w h = refl
kept_by false b w (inl e) = absurd cc
kept_by false b w (inr e) = rw e refl

-- a byte that is kept
pub keep_more : (inner bytes : List ℕ) (i b : ℕ) (e : Bool) → i < length inner → b ≡ get_or inner i 0 → (e ≡ true) ⊎ (eqb b 92 ≡ false) → bytes ++ unescaped e (drop i inner) ≡ unescaped false inner → (bytes ++ b ∷ []) ++ unescaped false (drop (i + 1) inner) ≡ unescaped false inner
keep_more inner bytes i b e lt here kept so_far =
    let step : unescaped e (drop i inner) ≡ b ∷ unescaped false (drop (i + 1) inner) = at_drop_more (unescaped e) inner i 0 lt ∙ ap (λ (x : ℕ). unescaped e (x ∷ drop (i + 1) inner)) (sym here) ∙ kept_by e b (drop (i + 1) inner) kept in
    append_assoc bytes (b ∷ []) (unescaped false (drop (i + 1) inner)) ∙ ap (λ (x : List ℕ). bytes ++ x) (sym step) ∙ so_far

-- ---- characters

pub latin_more : (bytes text more : List ℕ) (i b : ℕ) → i < length bytes → b ≡ get_or bytes i 0 → text ≡ encode_utf8_all (take i bytes) → more ≡ text ++ encode_utf8 b → more ≡ encode_utf8_all (take (i + 1) bytes)
latin_more bytes text more i b lt here so_far is =
    is ∙ ap (λ (x : List ℕ). x ++ encode_utf8 b) so_far
    ∙ ap (λ (x : List ℕ). encode_utf8_all (take i bytes) ++ x) (sym (append-nil (encode_utf8 b)))
    ∙ sym (encodes-append (take i bytes) (b ∷ []))
    ∙ ap encode_utf8_all (ap (λ (x : ℕ). take i bytes ++ x ∷ []) here ∙ sym (take_more bytes i 0 lt))

pub plain_is : {E : Type 0} (text bytes : List ℕ) (r : Result (List ℕ) E) → ((v : Value) → IsValue v → text ≡ value_text v → bytes ≡ bytes_of v) → IfOk r (ReadsAs bytes) → IfOk r (λ chars. (v : Value) → IsValue v → text ≡ value_text v → IsPlain text chars)
plain_is text bytes (Ok chars) are reads = λ v is e. record { value = v; is = is; spelled = e; reads = subst (λ (x : List ℕ). ReadsAs x chars) (are v is e) reads }
plain_is text bytes (Err e) are reads = tt

-- ---- ext-values

pub no_quote_within : (a b : List ℕ) → Each is_no_quote (a ++ 39 ∷ b) → ⊥
no_quote_within [] b h = absurd cc
no_quote_within (x ∷ a) b h = no_quote_within a b h.1

pub quote_at : (b : ℕ) → is_no_quote b ≡ false → b ≡ 39
quote_at b h = eqb-true b 39 (not-false (eqb b 39) h)

around_by : (bytes front : List ℕ) (b : ℕ) (behind : List ℕ) → Cuts is_no_quote bytes front (b ∷ behind) → (bytes ≡ front ++ 39 ∷ behind) × Each is_no_quote front
around_by bytes front b behind c = (c.parts ∙ ap (λ (x : ℕ). front ++ x ∷ behind) (quote_at b c.stops), c.each)

pub around_is : (bytes front rest : List ℕ) (b : ℕ) (behind : List ℕ) → Cuts is_no_quote bytes front rest → rest ≡ b ∷ behind → (bytes ≡ front ++ 39 ∷ behind) × Each is_no_quote front
around_is bytes front rest b behind c e = around_by bytes front b behind (subst (λ (x : List ℕ). Cuts is_no_quote bytes front x) e c)

pub none_around : (bytes front rest : List ℕ) → Cuts is_no_quote bytes front rest → rest ≡ [] → Each is_no_quote bytes
none_around bytes front rest c e = subst (Each is_no_quote) (sym (c.parts ∙ ap (λ (x : List ℕ). front ++ x) e ∙ append-nil front)) c.each

pub ext_first : (text charset rest charset' chars : List ℕ) → text ≡ charset ++ 39 ∷ rest → Each is_no_quote charset → (x : ExtParts text charset' chars) → (charset ≡ charset') × (rest ≡ x.language ++ 39 ∷ chars)
ext_first text charset rest charset' chars parts bare x =
    let one = run_one is_no_quote charset charset' (39 ∷ rest) (39 ∷ (x.language ++ 39 ∷ chars)) bare x.bare refl refl (sym parts ∙ x.parts) in
    (one.0, (cons_parts 39 39 rest (x.language ++ 39 ∷ chars) one.1).1)

pub ext_second : (rest language chars language' chars' : List ℕ) → rest ≡ language ++ 39 ∷ chars → Each is_no_quote language → rest ≡ language' ++ 39 ∷ chars' → Each is_no_quote language' → (language ≡ language') × (chars ≡ chars')
ext_second rest language chars language' chars' p bare q bare' =
    let one = run_one is_no_quote language language' (39 ∷ chars) (39 ∷ chars') bare bare' refl refl (sym p ∙ q) in
    (one.0, (cons_parts 39 39 chars chars' one.1).1)

pub ext_one : (text a x b y : List ℕ) → ExtParts text a x → ExtParts text b y → (a ≡ b) × (x ≡ y)
ext_one text a x b y p q =
    let first = ext_first text a (p.language ++ 39 ∷ x) b y p.parts p.bare q in
    let second = ext_second (p.language ++ 39 ∷ x) p.language x q.language y refl p.no_quote first.1 q.no_quote in
    (first.0, second.1)

pub extended_is : {E : Type 0} (text charset encoded bytes : List ℕ) (r : Result (Option (List ℕ)) E) → ExtParts text charset encoded → bytes ≡ percent_decode encoded → IfOk r (MaybeInCharset charset bytes) → IfOk r (MaybeExtended text)
extended_is text charset encoded bytes (Ok (Some chars)) parts are reads = record { charset = charset; encoded = encoded; parts = parts; reads = subst (λ (x : List ℕ). InCharset charset x chars) are reads }
extended_is text charset encoded bytes (Ok None) parts are none = λ chars x.
    let one = ext_one text x.charset x.encoded charset encoded x.parts parts in
    none chars (subst (λ (b : List ℕ). InCharset charset b chars) (sym are)
    (subst (λ (e : List ℕ). InCharset charset (percent_decode e) chars) one.1
    (subst (λ (s : List ℕ). InCharset s (percent_decode x.encoded) chars) one.0 x.reads)))
extended_is text charset encoded bytes (Err e) parts are reads = tt

-- ---- the characters of an ext-value

-- so many hexadecimal digits, and characters
abbrev pub CharsTail : ℕ → List ℕ → Type 0
CharsTail zero w = AreChars w
CharsTail (suc d) w = (h : ℕ) × (is_ascii_hexdigit h ≡ true) × (rest : List ℕ) × CharsTail d rest × (w ≡ h ∷ rest)

percent_front : (w : List ℕ) → CharsTail 2 w → AreChars (37 ∷ w)
percent_front w t =
    let second = t.3 in
    let chars = second.3 in
    record {
      chars = percent t.0 second.0 ∷ chars.chars;
      each = ((t.1, second.1), chars.each);
      text = ap (λ (x : List ℕ). 37 ∷ x) (t.4 ∙ ap (λ (x : List ℕ). t.0 ∷ x) (second.4 ∙ ap (λ (x : List ℕ). second.0 ∷ x) chars.text));
    }

attr_front : (b : ℕ) (w : List ℕ) → is_attr_byte b ≡ true → AreChars w → AreChars (b ∷ w)
attr_front b w h a = record { chars = attr b ∷ a.chars; each = (h, a.each); text = ap (λ (x : List ℕ). b ∷ x) a.text }

chars_moved : (d e : ℕ) (w : List ℕ) → ◌≡◌ {A = Option ℕ} (Some d) (Some e) → CharsTail e w → CharsTail d w
chars_moved d e w h t = subst (λ (x : ℕ). CharsTail x w) (sym (same_Some d e h)) t

chars_back_zero : (b e : ℕ) (w : List ℕ) (x y : Bool) → eqb b 37 ≡ x → is_attr_byte b ≡ y → cond x (Some 2) (cond y (Some 0) None) ≡ Some e → CharsTail e w → AreChars (b ∷ w)
chars_back_zero b e w true y p q h t = subst (λ (x : ℕ). AreChars (x ∷ w)) (sym (eqb-true b 37 p)) (percent_front w (chars_moved 2 e w h t))
chars_back_zero b e w false true p q h t = attr_front b w q (chars_moved 0 e w h t)
chars_back_zero b e w false false p q h t = absurd cc

chars_back_suc : (d b e : ℕ) (w : List ℕ) (x : Bool) → is_ascii_hexdigit b ≡ x → cond x (Some d) None ≡ Some e → CharsTail e w → CharsTail (suc d) (b ∷ w)
chars_back_suc d b e w true p h t = (b, p, w, chars_moved d e w h t, refl)
chars_back_suc d b e w false p h t = absurd cc

chars_back : (d b e : ℕ) (w : List ℕ) → digits_after d b ≡ Some e → CharsTail e w → CharsTail d (b ∷ w)
chars_back zero b e w h t = chars_back_zero b e w (eqb b 37) (is_attr_byte b) refl refl h t
chars_back (suc d) b e w h t = chars_back_suc d b e w (is_ascii_hexdigit b) refl h t

chars_step : (d b : ℕ) (bytes : List ℕ) (o : Option ℕ) → digits_after d b ≡ o → option_and_then (λ e. digits_behind e bytes) o ≡ Some 0 → ((e : ℕ) → digits_behind e bytes ≡ Some 0 → CharsTail e bytes) → CharsTail d (b ∷ bytes)
chars_step d b bytes None h e f = absurd cc
chars_step d b bytes (Some x) h e f = chars_back d b x bytes h (f x e)

pub chars_sound : (bytes : List ℕ) (d : ℕ) → digits_behind d bytes ≡ Some 0 → CharsTail d bytes
unfolding digits_behind
chars_sound [] d e = subst (λ (x : ℕ). CharsTail x []) (sym (same_Some d 0 e)) (record { chars = []; each = tt; text = refl })
chars_sound (b ∷ bytes) d e = chars_step d b bytes (digits_after d b) refl e (λ x h. chars_sound bytes x h)

attr_no_percent : (b : ℕ) → is_attr_byte b ≡ true → eqb b 37 ≡ false
attr_no_percent b h = not_this is_attr_byte b 37 h refl

pub chars_complete : (cs : List Char) → AllByRecursion IsChar cs → digits_behind 0 (flat_map char_text cs) ≡ Some 0
unfolding digits_behind
chars_complete [] h = refl
chars_complete (attr b ∷ cs) h = rw (attr_no_percent b h.0, h.0) (chars_complete cs h.1)
chars_complete (percent high low ∷ cs) h = rw (h.0.0, h.0.1) (chars_complete cs h.1)

pub chars_of : (bytes : List ℕ) → AreChars bytes → digits_behind 0 bytes ≡ Some 0
chars_of bytes a = ap (digits_behind 0) a.text ∙ chars_complete a.chars a.each

-- one byte more
pub digits_more : (bytes : List ℕ) (i b d e : ℕ) → i < length bytes → b ≡ get_or bytes i 0 → digits_after d b ≡ Some e → digits_behind d (drop i bytes) ≡ digits_behind 0 bytes → digits_behind e (drop (i + 1) bytes) ≡ digits_behind 0 bytes
unfolding digits_behind
digits_more bytes i b d e lt here goes so_far =
    let step = at_drop_more (digits_behind d) bytes i 0 lt ∙ ap (λ (x : ℕ). digits_behind d (x ∷ drop (i + 1) bytes)) (sym here) ∙ ap (option_and_then (λ x. digits_behind x (drop (i + 1) bytes))) goes in
    sym step ∙ so_far

-- a byte that can't stand there
pub digits_stop : (bytes : List ℕ) (i b d : ℕ) → i < length bytes → b ≡ get_or bytes i 0 → digits_after d b ≡ None → digits_behind d (drop i bytes) ≡ digits_behind 0 bytes → AreChars bytes → ⊥
unfolding digits_behind
digits_stop bytes i b d lt here stops so_far a =
    let step = at_drop_more (digits_behind d) bytes i 0 lt ∙ ap (λ (x : ℕ). digits_behind d (x ∷ drop (i + 1) bytes)) (sym here) ∙ ap (option_and_then (λ x. digits_behind x (drop (i + 1) bytes))) stops in
    none-some 0 (sym step ∙ so_far ∙ chars_of bytes a)

-- at the end
pub digits_end : (bytes : List ℕ) (i d : ℕ) → length bytes ≤ i → digits_behind d (drop i bytes) ≡ digits_behind 0 bytes → digits_behind 0 bytes ≡ Some d
unfolding digits_behind
digits_end bytes i d le so_far = sym so_far ∙ at_drop_all (digits_behind d) bytes i le

pub chars_end : (bytes : List ℕ) (d : ℕ) → digits_behind 0 bytes ≡ Some d → IsTrue (eqb d 0) ↔ AreChars bytes
chars_end bytes d e =
    (λ t. chars_sound bytes 0 (e ∙ ap (λ (k : ℕ). Some k) (eqb-true d 0 t)), λ a. eq-eqb d 0 (same_Some d 0 (sym e ∙ chars_of bytes a)))
