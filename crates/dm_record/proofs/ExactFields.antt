-- Each field is read exactly.
use Rattle.std.proofs.Common.{◌≡◌, ℕ, zero, suc, ◌+◌, ◌-◌, ◌*◌, ◌/◌, ◌%◌, ◌^◌, ◌<◌, ◌≤◌, false, ltb, List, [], ◌∷◌, ◌++◌, length, get_or, take, drop, lit<, Option, Some, None, Result, Ok, Err, refl, sym, ap, subst, ◌∙◌, arith, inl, inr, IfSome}
use Rattle.std.specs.Int.{Width, w16, w32, w64, byte_len, from_be_bytes, to_be_bytes}
use Rattle.std.proofs.lemmas.Bool.{cases_lt, le-ltb, lt-ltb}
use Rattle.std.proofs.lemmas.List.{take_at, drop_at, take-append-drop, length-append, length-take}
use Rattle.std.proofs.lemmas.Nat.{be_bytes_2, be_bytes_4, be_bytes_8, from_be_bytes-to_be_bytes_4, from_be_bytes-to_be_bytes_8}
use Rattle.dm_record.specs.declared.fault.Stop.{Stop}
use Rattle.dm_record.specs.declared.fault.Stop.TheVariants.{Short, Stray}
use Rattle.dm_record.specs.Spelling.{number, text, optional}
use Rattle.dm_record.specs.Limits.{IsBytes, AtMost}
use Rattle.dm_record.specs.Reading.{Reading, in_turn, coded, coded_at, number_at, run_at, length_at, text_at, optional_at}
use Rattle.dm_record.proofs.Exact.{Exact, StopsAt, Cut, Strays, same_stop, ok_or_err, ok_is, made, made_image, Image, tagged, turn, respelled, Branch}

-- ---- so many bytes

IsBytes-at : (bytes : List ℕ) → IsBytes bytes → (i : ℕ) → get_or bytes i 0 < 256
IsBytes-at [] good i = omega arith
IsBytes-at (b ∷ bytes) good zero = good.0
IsBytes-at (b ∷ bytes) good (suc i) = IsBytes-at bytes good.1 i

IsBytes-front : (front rest : List ℕ) → IsBytes (front ++ rest) → IsBytes front
IsBytes-front [] rest good = tt
IsBytes-front (b ∷ front) rest good = (good.0, IsBytes-front front rest good.1)

IsBytes-both : (front rest : List ℕ) → IsBytes front → IsBytes rest → IsBytes (front ++ rest)
IsBytes-both [] rest p q = q
IsBytes-both (b ∷ front) rest p q = (p.0, IsBytes-both front rest p.1 q)

zeros : ℕ → List ℕ
zeros zero = []
zeros (suc n) = 0 ∷ zeros n

IsBytes-zeros : (n : ℕ) → IsBytes (zeros n)
unfolding zeros
IsBytes-zeros zero = tt
IsBytes-zeros (suc n) = (lit< tt, IsBytes-zeros n)

length-zeros : (n : ℕ) → length (zeros n) ≡ n
unfolding zeros
length-zeros zero = refl
length-zeros (suc n) = ap suc (length-zeros n)

abbrev IsRun : ℕ → List ℕ → Type 0
IsRun n bytes = (length bytes ≡ n) × IsBytes bytes

abbrev as_is : List ℕ → List ℕ
as_is bytes = bytes

run_stops : (n : ℕ) (bytes : List ℕ) → IsBytes bytes → length bytes < n → Cut as_is (IsRun n) bytes
run_stops n bytes good short =
    let missing : ℕ = n - (length bytes + 1) in
    record {
      value = bytes ++ 0 ∷ zeros missing;
      fits = (omega (arith, length-append bytes (0 ∷ zeros missing), length-zeros missing), IsBytes-both bytes (0 ∷ zeros missing) good (lit< tt, IsBytes-zeros missing));
      byte = 0;
      more = zeros missing;
      goes_on = refl;
    }

run_at_stops : (n : ℕ) (bytes : List ℕ) (stop : Stop) → IsBytes bytes → run_at n bytes ≡ Err stop → StopsAt as_is (IsRun n) bytes stop
unfolding run_at
run_at_stops n bytes stop good e =
    elim (cases_lt (length bytes) n) [
      | inl short ↦
          let is : Short ≡ stop = same_stop (run_at n bytes) Short stop (rw (lt-ltb (length bytes) n short) refl) e in
          subst (λ (s : Stop). StopsAt as_is (IsRun n) bytes s) is (run_stops n bytes good short)
      | inr long ↦ absurd (ok_or_err (run_at n bytes) (take n bytes, drop n bytes) stop (rw (le-ltb (length bytes) n long) refl) e)
    ]

run_at_found : (n : ℕ) (bytes value rest : List ℕ) → IsBytes bytes → run_at n bytes ≡ Ok (value, rest) → IsRun n value × (bytes ≡ value ++ rest)
unfolding run_at
run_at_found n bytes value rest good e =
    elim (cases_lt (length bytes) n) [
      | inl short ↦ absurd (ok_or_err (run_at n bytes) (value, rest) Short e (rw (lt-ltb (length bytes) n short) refl))
      | inr long ↦
          let one : run_at n bytes ≡ Ok (take n bytes, drop n bytes) = rw (le-ltb (length bytes) n long) refl in
          let parts : bytes ≡ take n bytes ++ drop n bytes = sym (take-append-drop n bytes) in
          let whole : IsRun n (take n bytes) × (bytes ≡ take n bytes ++ drop n bytes) = ((omega (arith, length-take n bytes), IsBytes-front (take n bytes) (drop n bytes) (subst IsBytes parts good)), parts) in
          subst (λ (x : List ℕ × List ℕ). IsRun n x.0 × (bytes ≡ x.0 ++ x.1)) (ok_is (take n bytes, drop n bytes) (value, rest) (sym one ∙ e)) whole
    ]

run_at_again : (n : ℕ) (value rest : List ℕ) → IsRun n value → run_at n (value ++ rest) ≡ Ok (value, rest)
unfolding run_at
run_at_again n value rest fits =
    let long : ltb (length (value ++ rest)) n ≡ false = le-ltb _ _ (omega (arith, length-append value rest, fits.0)) in
    rw (long, take_at value rest n fits.0, drop_at value rest n fits.0) refl

pub run_exact : (n : ℕ) → Exact as_is (IsRun n) (run_at n)
run_exact n = record {
  some = (zeros n, (length-zeros n, IsBytes-zeros n));
  again = run_at_again n;
  found = run_at_found n;
  stops = run_at_stops n;
}

-- ---- numbers

pub record IsWide (w : Width) (limit : ℕ) : Type 0 where
  pub len : (n : ℕ) → length (to_be_bytes w n) ≡ byte_len w
  pub bytes : (n : ℕ) → IsBytes (to_be_bytes w n)
  pub back : (bytes : List ℕ) → IsRun (byte_len w) bytes → to_be_bytes w (from_be_bytes w bytes) ≡ bytes
  pub again : (n : ℕ) → n < limit → from_be_bytes w (to_be_bytes w n) ≡ n
  pub below : (bytes : List ℕ) → IsBytes bytes → from_be_bytes w bytes < limit

pub wide32 : IsWide w32 (2 ^ 32)
wide32 = record {
  len = λ n. refl;
  bytes = λ n. (omega arith, (omega arith, (omega arith, (omega arith, tt))));
  back = λ bytes run. be_bytes_4 bytes _ run.0 (IsBytes-at bytes run.1) refl;
  again = λ n lt. from_be_bytes-to_be_bytes_4 n lt;
  below = λ bytes good. let at = IsBytes-at bytes good in omega (arith, at 0, at 1, at 2, at 3);
}

pub wide64 : IsWide w64 (2 ^ 64)
wide64 = record {
  len = λ n. refl;
  bytes = λ n. (omega arith, (omega arith, (omega arith, (omega arith, (omega arith, (omega arith, (omega arith, (omega arith, tt))))))));
  back = λ bytes run. be_bytes_8 bytes _ run.0 (IsBytes-at bytes run.1) refl;
  again = λ n lt. from_be_bytes-to_be_bytes_8 n lt;
  below = λ bytes good. let at = IsBytes-at bytes good in omega (arith, at 0, at 1, at 2, at 3, at 4, at 5, at 6, at 7);
}

pub number_exact : (w : Width) (limit : ℕ) → IsWide w limit → Exact (number w) (λ n. n < limit) (number_at w)
unfolding number number_at
number_exact w limit wide =
    made as_is (IsRun (byte_len w)) (run_at (byte_len w)) (number w) (λ n. n < limit) (from_be_bytes w)
    (λ bytes run. (wide.below bytes run.1, wide.back bytes run))
    (λ n lt. (to_be_bytes w n, wide.again n lt, (wide.len n, wide.bytes n)))
    (run_exact (byte_len w))

-- ---- a byte that has a meaning

some_or_none : {A : Type 0} (o : Option A) (a : A) → o ≡ Some a → o ≡ None → ⊥
some_or_none o a p q = cc

abbrev known : {A : Type 0} → A → Option A
known a = Some a

some_is : {A : Type 0} (a b : A) → known a ≡ known b → a ≡ b
some_is a b e = cc

pub record IsCode {A : Type 0} (code : A → ℕ) (Fits : A → Type 0) (decode : ℕ → Option A) : Type 0 where
  pub some : (a : A) × Fits a
  pub again : (a : A) → Fits a → decode (code a) ≡ Some a
  pub back : (tag : ℕ) (a : A) → decode tag ≡ Some a → Fits a × (code a ≡ tag)

abbrev pub nothing : {A : Type 0} → A → List ℕ
nothing a = []

abbrev same_done : {A : Type 0} → A → Result A Stop
same_done x = Ok x

-- one value, and no bytes
pub one_exact : {A : Type 0} (a : A) (spell : A → List ℕ) (Of : A → Type 0) → spell a ≡ [] → Of a → ((b : A) → Of b → b ≡ a) → Exact spell Of (λ rest. Ok (a, rest))
one_exact {A} a spell Of none here only = record {
  some = (a, here);
  again = λ b rest fits.
      let same = only b fits in
      let no_bytes : spell b ++ rest ≡ rest = ap (λ (l : List ℕ). l ++ rest) (ap spell same ∙ none) in
      ap (λ (l : List ℕ). same_done (a, l)) no_bytes ∙ ap (λ (x : A). same_done (x, rest)) (sym same);
  found = λ bytes b rest good e.
      let same = ok_is (a, bytes) (b, rest) e in
      let here' : Of a × (bytes ≡ spell a ++ bytes) = (here, ap (λ (l : List ℕ). l ++ bytes) (sym none)) in
      subst (λ (x : A × List ℕ). Of x.0 × (bytes ≡ spell x.0 ++ x.1)) same here';
  stops = λ bytes stop good e. absurd (ok_or_err _ (a, bytes) stop refl e);
}

module _ {A : Type 0} (code : A → ℕ) (Fits : A → Type 0) (decode : ℕ → Option A) (is : IsCode code Fits decode) where
  abbrev Coded : ℕ → A → Type 0
  Coded tag a = Fits a × (code a ≡ tag)

  coded_branch : (tag : ℕ) (o : Option A) → decode tag ≡ o → Branch nothing (Coded tag) (coded_at decode) tag
  unfolding coded_at
  coded_branch tag None e = inr ((λ rest. rw e refl), λ a fits. some_or_none (decode tag) a (subst (λ (n : ℕ). decode n ≡ Some a) fits.1 (is.again a fits.0)) e)
  coded_branch tag (Some a) e =
      let only : (b : A) → Coded tag b → b ≡ a = λ b fits. some_is b a (sym (subst (λ (n : ℕ). decode n ≡ Some b) fits.1 (is.again b fits.0)) ∙ e) in
      let one : Exact nothing (Coded tag) (λ rest. coded (Some a) rest) = one_exact a nothing (Coded tag) refl (is.back tag a e) only in
      inl (subst (λ (o : Option A). Exact nothing (Coded tag) (λ rest. coded o rest)) (sym e) one)

  coded_empty : coded_at decode [] ≡ Err Short
  unfolding coded_at
  coded_empty = refl

  pub coded_exact : Exact (λ a. code a ∷ []) Fits (coded_at decode)
  coded_exact = tagged code nothing Fits Coded (coded_at decode) (λ a fits. (fits, refl)) (λ tag a fits. fits) coded_empty (λ tag. coded_branch tag (decode tag) refl) is.some

-- ---- lengths and texts

pair_16 : (high low : ℕ) → high < 256 → low < 256 → number w16 (256 * high + low) ≡ high ∷ low ∷ []
unfolding number
pair_16 high low h l = be_bytes_2 (high ∷ low ∷ []) (256 * high + low) refl (IsBytes-at (high ∷ low ∷ []) (h, (l, tt))) (omega arith)

record Halves (n : ℕ) : Type 0 where
  high : ℕ
  low : ℕ
  high_below : high < 256
  low_below : low < 256
  whole : n ≡ 256 * high + low
  spelled : number w16 n ≡ high ∷ low ∷ []

halves : (n : ℕ) → n < 2 ^ 16 → Halves n
halves n below =
    let h : n / 256 < 256 = omega arith in
    let l : n % 256 < 256 = omega arith in
    let e : n ≡ 256 * (n / 256) + n % 256 = omega arith in
    record { high = n / 256; low = n % 256; high_below = h; low_below = l; whole = e; spelled = ap (number w16) e ∙ pair_16 (n / 256) (n % 256) h l }

module _ (limit : ℕ) (below : limit < 2 ^ 16) where
  abbrev Kept : ℕ → Type 0
  Kept n = n ≤ limit

  length_again : (n : ℕ) (rest : List ℕ) → Kept n → length_at limit (number w16 n ++ rest) ≡ Ok (n, rest)
  unfolding length_at
  length_again n rest fits =
      let h = halves n (omega arith) in
      let e : n ≡ 256 * h.high + h.low = h.whole in
      let first : ltb limit (256 * h.high) ≡ false = le-ltb _ _ (omega (arith, e)) in
      let second : ltb limit (256 * h.high + h.low) ≡ false = le-ltb _ _ (omega (arith, e)) in
      ap (λ (l : List ℕ). length_at limit (l ++ rest)) h.spelled ∙ rw (first, second) (ap (λ (m : ℕ). same_done (m, rest)) (sym e))

  length_found : (bytes : List ℕ) (n : ℕ) (rest : List ℕ) → IsBytes bytes → length_at limit bytes ≡ Ok (n, rest) → Kept n × (bytes ≡ number w16 n ++ rest)
  unfolding length_at
  length_found [] n rest good e = absurd cc
  length_found (high ∷ []) n rest good e =
      elim (cases_lt limit (256 * high)) [
        | inl over ↦ absurd (ok_or_err _ (n, rest) (Stray 1) e (rw (lt-ltb limit (256 * high) over) refl))
        | inr room ↦ absurd (ok_or_err _ (n, rest) Short e (rw (le-ltb limit (256 * high) room) refl))
      ]
  length_found (high ∷ low ∷ bytes) n rest good e =
      elim (cases_lt limit (256 * high)) [
        | inl over ↦ absurd (ok_or_err _ (n, rest) (Stray (suc (length (low ∷ bytes)))) e (rw (lt-ltb limit (256 * high) over) refl))
        | inr room ↦ elim (cases_lt limit (256 * high + low)) [
          | inl over ↦ absurd (ok_or_err _ (n, rest) (Stray (suc (length bytes))) e (rw (le-ltb limit (256 * high) room, lt-ltb limit (256 * high + low) over) refl))
          | inr fits ↦
              let one : length_at limit (high ∷ low ∷ bytes) ≡ Ok (256 * high + low, bytes) = rw (le-ltb limit (256 * high) room, le-ltb limit (256 * high + low) fits) refl in
              let parts : high ∷ low ∷ bytes ≡ number w16 (256 * high + low) ++ bytes = ap (λ (l : List ℕ). l ++ bytes) (sym (pair_16 high low good.0 good.1.0)) in
              let here : Kept (256 * high + low) × (high ∷ low ∷ bytes ≡ number w16 (256 * high + low) ++ bytes) = (fits, parts) in
              subst (λ (x : ℕ × List ℕ). Kept x.0 × (high ∷ low ∷ bytes ≡ number w16 x.0 ++ x.1)) (ok_is (256 * high + low, bytes) (n, rest) (sym one ∙ e)) here
        ]
      ]

  -- the high byte alone passes the limit
  high_strays : (high : ℕ) (bytes : List ℕ) → limit < 256 * high → Strays (number w16) Kept (high ∷ bytes) (suc (length bytes))
  high_strays high bytes over = record {
    front = [];
    byte = high;
    rest = bytes;
    parts = refl;
    left_is = refl;
    value = 0;
    fits = omega arith;
    more = number w16 0;
    goes_on = refl;
    none = λ n after fits e.
        let h = halves n (omega arith) in
        let same : h.high ∷ h.low ∷ [] ≡ high ∷ after = sym h.spelled ∙ e in
        let first : h.high ≡ high = cc in
        let whole : n ≡ 256 * h.high + h.low = h.whole in
        omega (arith, first, whole);
  }

  low_strays : (high low : ℕ) (bytes : List ℕ) → high < 256 → low < 256 → 256 * high ≤ limit → limit < 256 * high + low → Strays (number w16) Kept (high ∷ low ∷ bytes) (suc (length bytes))
  low_strays high low bytes h l room over = record {
    front = high ∷ [];
    byte = low;
    rest = bytes;
    parts = refl;
    left_is = refl;
    value = 256 * high + 0;
    fits = omega arith;
    more = 0 ∷ [];
    goes_on = pair_16 high 0 h (lit< tt);
    none = λ n after fits e.
        let p = halves n (omega arith) in
        let same : p.high ∷ p.low ∷ [] ≡ high ∷ low ∷ after = sym p.spelled ∙ e in
        let first : p.high ≡ high = cc in
        let second : p.low ≡ low = cc in
        let whole : n ≡ 256 * p.high + p.low = p.whole in
        omega (arith, first, second, whole);
  }

  length_cut : (high : ℕ) → high < 256 → 256 * high ≤ limit → Cut (number w16) Kept (high ∷ [])
  length_cut high h room = record { value = 256 * high + 0; fits = omega arith; byte = 0; more = []; goes_on = pair_16 high 0 h (lit< tt) }

  nothing_cut : Cut (number w16) Kept []
  nothing_cut = record { value = 256 * 0 + 0; fits = omega arith; byte = 0; more = 0 ∷ []; goes_on = pair_16 0 0 (lit< tt) (lit< tt) }

  stops_as : (bytes : List ℕ) (stop is : Stop) → length_at limit bytes ≡ Err stop → length_at limit bytes ≡ Err is → StopsAt (number w16) Kept bytes is → StopsAt (number w16) Kept bytes stop
  stops_as bytes stop is e here s = subst (λ (x : Stop). StopsAt (number w16) Kept bytes x) (same_stop (length_at limit bytes) is stop here e) s

  length_stops : (bytes : List ℕ) (stop : Stop) → IsBytes bytes → length_at limit bytes ≡ Err stop → StopsAt (number w16) Kept bytes stop
  unfolding length_at
  length_stops [] stop good e = stops_as [] stop Short e refl nothing_cut
  length_stops (high ∷ []) stop good e =
      elim (cases_lt limit (256 * high)) [
        | inl over ↦ stops_as (high ∷ []) stop (Stray 1) e (rw (lt-ltb limit (256 * high) over) refl) (high_strays high [] over)
        | inr room ↦ stops_as (high ∷ []) stop Short e (rw (le-ltb limit (256 * high) room) refl) (length_cut high good.0 room)
      ]
  length_stops (high ∷ low ∷ bytes) stop good e =
      elim (cases_lt limit (256 * high)) [
        | inl over ↦ stops_as (high ∷ low ∷ bytes) stop (Stray (suc (length (low ∷ bytes)))) e (rw (lt-ltb limit (256 * high) over) refl) (high_strays high (low ∷ bytes) over)
        | inr room ↦ elim (cases_lt limit (256 * high + low)) [
          | inl over ↦ stops_as (high ∷ low ∷ bytes) stop (Stray (suc (length bytes))) e (rw (le-ltb limit (256 * high) room, lt-ltb limit (256 * high + low) over) refl) (low_strays high low bytes good.0 good.1.0 room over)
          | inr fits ↦ absurd (ok_or_err _ (256 * high + low, bytes) stop (rw (le-ltb limit (256 * high) room, le-ltb limit (256 * high + low) fits) refl) e)
        ]
      ]

  length_exact : Exact (number w16) Kept (length_at limit)
  length_exact = record { some = (0, omega arith); again = length_again; found = length_found; stops = length_stops }

  abbrev pub IsText : List ℕ → Type 0
  IsText bytes = AtMost limit bytes × IsBytes bytes

  pub text_exact : Exact text IsText (text_at limit)
  unfolding text_at
  text_exact =
      made (λ (x : ℕ × List ℕ). number w16 x.0 ++ x.1) (λ (x : ℕ × List ℕ). Kept x.0 × IsRun x.0 x.1) (in_turn (length_at limit) run_at) text IsText (λ (x : ℕ × List ℕ). x.1)
      (λ x fits. ((omega (arith, fits.0, fits.1.0), fits.1.1), ap (λ (n : ℕ). number w16 n ++ x.1) fits.1.0))
      (λ bytes fits. ((length bytes, bytes), refl, (fits.0, (refl, fits.1))))
      (turn (number w16) Kept (length_at limit) (λ (n : ℕ) (t : List ℕ). t) IsRun run_at length_exact (λ n _. run_exact n))

-- ---- a field that may be absent

module _ {A : Type 0} (spell : A → List ℕ) (Fits : A → Type 0) (read : List ℕ → Reading A) (exact : Exact spell Fits read) where
  abbrev there_byte : Option A → ℕ
  there_byte None = 0
  there_byte (Some a) = 1

  abbrev there_bytes : Option A → List ℕ
  there_bytes None = []
  there_bytes (Some a) = spell a

  abbrev There : ℕ → Option A → Type 0
  There zero o = o ≡ None
  There (suc zero) o = Image Some Fits o
  There (suc (suc n)) o = ⊥

  there_into : (o : Option A) → IfSome o Fits → There (there_byte o) o
  there_into None fits = refl
  there_into (Some a) fits = (a, refl, fits)

  there_out : (tag : ℕ) (o : Option A) → There tag o → IfSome o Fits × (there_byte o ≡ tag)
  there_out zero o of = subst (λ (p : Option A). IfSome p Fits × (there_byte p ≡ 0)) (sym of) (tt, refl)
  there_out (suc zero) o of = subst (λ (p : Option A). IfSome p Fits × (there_byte p ≡ 1)) of.1 (of.2, refl)
  there_out (suc (suc n)) o of = absurd of

  there_branch : (tag : ℕ) → Branch there_bytes (There tag) (optional_at read) tag
  unfolding optional_at
  there_branch zero = inl (one_exact None there_bytes (There 0) refl refl (λ o of. of))
  there_branch (suc zero) = inl (made_image spell Fits read there_bytes Some (λ a fits. refl) exact)
  there_branch (suc (suc n)) = inr ((λ rest. refl), λ o of. of)

  there_empty : optional_at read [] ≡ Err Short
  unfolding optional_at
  there_empty = refl

  same_optional : (o : Option A) → optional spell o ≡ there_byte o ∷ there_bytes o
  same_optional None = refl
  same_optional (Some a) = refl

  pub optional_exact : Exact (optional spell) (λ o. IfSome o Fits) (optional_at read)
  optional_exact =
      let exact' = tagged there_byte there_bytes (λ o. IfSome o Fits) There (optional_at read) there_into there_out there_empty there_branch (None, tt) in
      respelled (λ o. there_byte o ∷ there_bytes o) (λ o. IfSome o Fits) (optional_at read) (optional spell) (λ o. IfSome o Fits) (λ o fits. fits) (λ o fits. fits) same_optional exact'
