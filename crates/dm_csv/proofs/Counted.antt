-- A file has at most twice as many records as bytes, and one more.
use Rattle.std.proofs.Common.{◌≡◌, ◌≤◌, ◌+◌, ◌*◌, ℕ, suc, Bool, true, false, List, [], ◌∷◌, ◌++◌, length, if◌then◌else◌, Option, Some, None, refl, sym, ap, arith}
use Rattle.csv.specs.Machine.{Read, ends_at_end, field_after, fields_after, is_end, next_record, step}
use Rattle.csv.specs.Reading.{Reached, is_bom, strip_bom}
use Rattle.csv.specs.declared.parser.Config.{Config}
use Rattle.csv.specs.declared.parser.State.{State}
use Rattle.csv.specs.declared.parser.State.TheVariants as st
use Rattle.dm_csv.specs.Rows.{HasRecords}

-- a record takes a byte, or it is the last, which the end of the text ends
abbrev Shorter : State → List ℕ → Read → Type 0
Shorter s [] r = (r.1 ≡ st.StartRecord) × (r.2 ≡ []) × (ends_at_end s ≡ true)
Shorter s (c ∷ rest) r = length r.2 ≤ length rest

shorter_length : (s : State) (xs : List ℕ) (r : Read) → Shorter s xs r → length r.2 ≤ length xs
shorter_length s [] r is = omega (arith, ap length is.1)
shorter_length s (c ∷ rest) r is = omega (arith, is)

at_end : (ends : Bool) (fields : List (List ℕ)) (r : Read) → (if ends then Some (fields, st.StartRecord, []) else None) ≡ Some r → (r.1 ≡ st.StartRecord) × (r.2 ≡ []) × (ends ≡ true)
at_end true fields r is = let same : (fields, st.StartRecord, []) ≡ r = cc in (sym (ap (λ (q : Read). q.1) same), sym (ap (λ (q : Read). q.2) same), refl)
at_end false fields r is = absurd cc

at_step : (ends : Bool) (fields : List (List ℕ)) (s : State) (rest : List ℕ) (more : Option Read) (r : Read) → (if ends then Some (fields, s, rest) else more) ≡ Some r → (more ≡ Some r → length r.2 ≤ length rest) → length r.2 ≤ length rest
at_step true fields s rest more r is later = let same : (fields, s, rest) ≡ r = cc in omega (arith, ap (λ (q : Read). length q.2) same)
at_step false fields s rest more r is later = later is

next_shorter : (cfg : Config) (s : State) (fields : List (List ℕ)) (field xs : List ℕ) (r : Read) → next_record cfg s fields field xs ≡ Some r → Shorter s xs r
unfolding next_record
next_shorter cfg s fields field [] r is = at_end (ends_at_end s) (fields ++ field ∷ []) r is
next_shorter cfg s fields field (c ∷ rest) r is =
    at_step (is_end (step cfg s c).1) (fields_after (step cfg s c).1 fields field) (step cfg s c).0 rest (next_record cfg (step cfg s c).0 (fields_after (step cfg s c).1 fields field) (field_after (step cfg s c).1 c field) rest) r is
    (λ more. shorter_length (step cfg s c).0 rest r (next_shorter cfg (step cfg s c).0 (fields_after (step cfg s c).1 fields field) (field_after (step cfg s c).1 c field) rest r more))

-- the end of the text may end one more
abbrev extra : State → ℕ
extra s = if ends_at_end s then 1 else 0

extra_few : (s : State) → extra s ≤ 1
extra_few s = by (ends_at_end s)
  where
    by : (b : Bool) → (if b then 1 else 0) ≤ 1
    by true = omega arith
    by false = omega arith

extra_one : (s : State) → ends_at_end s ≡ true → extra s ≡ 1
extra_one s is = ap (λ (b : Bool). if b then 1 else 0) is

one_more : (s : State) (xs : List ℕ) (r : Read) (count : ℕ) → Shorter s xs r → count ≤ 2 * length r.2 + extra r.1 → suc count ≤ 2 * length xs + extra s
one_more s [] r count is few = omega (arith, few, ap length is.1, ap extra is.0, extra_one s is.2)
one_more s (c ∷ rest) r count is few = omega (arith, few, is, extra_few r.1)

reached_few : (cfg : Config) (s : State) (xs : List ℕ) (all : List (List (List ℕ))) (s2 : State) (ys : List ℕ) → Reached cfg s xs all s2 ys → length all ≤ 2 * length xs + extra s
unfolding Reached
reached_few cfg s xs [] s2 ys is = omega arith
reached_few cfg s xs (r ∷ all) s2 ys (p, next, r_is, more) = one_more s xs p (length all) (next_shorter cfg s [] [] xs p next) (reached_few cfg p.1 p.2 all s2 ys more)

or_whole : (bom : Bool) (a b c : ℕ) (rest : List ℕ) → length (if bom then rest else a ∷ b ∷ c ∷ rest) ≤ length (a ∷ b ∷ c ∷ rest)
or_whole true a b c rest = omega arith
or_whole false a b c rest = omega arith

stripped_short : (xs : List ℕ) → length (strip_bom xs) ≤ length xs
unfolding strip_bom
stripped_short [] = omega arith
stripped_short (a ∷ []) = omega arith
stripped_short (a ∷ b ∷ []) = omega arith
stripped_short (a ∷ b ∷ c ∷ rest) = or_whole (is_bom a b c) a b c rest

pub few_records : (bytes : List ℕ) (all : List (List (List ℕ))) → HasRecords bytes all → length all ≤ 2 * length bytes
few_records bytes all (s2, ys, reached, none) = omega (arith, reached_few _ st.StartRecord (strip_bom bytes) all s2 ys reached, stripped_short bytes)
