-- The values of one name, one field after another.
use Rattle.std.specs.Prelude.{codes}
use Rattle.std.specs.List.{list_all}
use Rattle.std.proofs.Common.{◌≡◌, ◌≢◌, ℕ, suc, zero, ◌+◌, ◌<◌, Bool, true, false, ◌&&◌, not, ◌==◌, List, [], ◌∷◌, ◌++◌, length, map, filter, take, get_or, refl, sym, ap, ◌∙◌, subst, arith, All, IfSome, IfNone, Option, Some, None, if◌then◌else◌}
use Rattle.std.proofs.lemmas.Bool.{and_left, and_right, false≢true, eqb-true, eqb-false}
use Rattle.std.proofs.lemmas.List.{map_more, get_or-map, length-map, map-append}
use Rattle.std.proofs.lemmas.List.Elements.{All-append, All-cons, All-nil, filter-append}
use Rattle.httparse.specs.declared.spans.HeaderSpan.{HeaderSpan}
use Rattle.httparse.specs.Spans.{header_bytes, span_bytes}
use Rattle.dm_tag.specs.Length.{IsLength}
use Rattle.dm_tag.proofs.OneLemmas.{length_one}
use Rattle.dm_edge.specs.Fields.{NameAndValue, has_name, values_of, is_plain}
use Rattle.dm_edge.specs.Metadata.{NamesRanges, TakesRanges}
use Rattle.dm_head.specs.declared.lengths.ToldLength.{ToldLength}
use Rattle.dm_head.specs.declared.lengths.ToldLength.TheVariants as told
use Rattle.dm_head.specs.Values.{is_coded, Tells, joined}

-- ---- a coded field

not_here : (f : List ℕ → Bool) (named : Bool) (x : NameAndValue) (ys : List NameAndValue) → (named && not (f x.1)) ≡ true
    → list_all f (map (λ (field : NameAndValue). field.1) (if named then x ∷ ys else ys)) ≡ false
not_here f true x ys is = and_left (f x.1) _ (of_not (f x.1) is)
  where
    of_not : (b : Bool) → not b ≡ true → b ≡ false
    of_not true e = absurd (false≢true e)
    of_not false e = refl
not_here f false x ys is = absurd (false≢true is)

not_behind : (f : List ℕ → Bool) (named : Bool) (x : NameAndValue) (ys : List NameAndValue)
    → list_all f (map (λ (field : NameAndValue). field.1) ys) ≡ false
    → list_all f (map (λ (field : NameAndValue). field.1) (if named then x ∷ ys else ys)) ≡ false
not_behind f true x ys is = and_right (f x.1) _ is
not_behind f false x ys is = is

-- where one is coded, the content isn't as it is
pub coded_not_plain : (fields : List NameAndValue) (i : ℕ) (d : NameAndValue) → i < length fields → is_coded (get_or fields i d) ≡ true
    → is_plain fields ≡ false
coded_not_plain [] i d within is = absurd (omega arith)
coded_not_plain (x ∷ xs) zero d within is =
    not_here _ (has_name (codes "content-encoding") x) x (filter (has_name (codes "content-encoding")) xs) is
coded_not_plain (x ∷ xs) (suc i) d within is =
    not_behind _ (has_name (codes "content-encoding") x) x (filter (has_name (codes "content-encoding")) xs)
    (coded_not_plain xs i d (omega arith) is)

pub coded_at : (head : List ℕ) (spans : List HeaderSpan) (i : ℕ) (d : HeaderSpan) → i < length spans
    → is_coded (header_bytes head (get_or spans i d)) ≡ true → is_plain (map (header_bytes head) spans) ≡ false
coded_at head spans i d within is =
    let e = get_or-map (header_bytes head) spans i d (header_bytes head d) within in
    coded_not_plain (map (header_bytes head) spans) i (header_bytes head d) (omega (arith, length-map spans (header_bytes head)))
    (ap is_coded e ∙ is)

-- ---- a field that names ranges

pub none_names_more : (head : List ℕ) (spans : List HeaderSpan) (i : ℕ) (d : HeaderSpan) → i < length spans
    → All (λ (field : NameAndValue). NamesRanges field → ⊥) (map (header_bytes head) (take i spans))
    → (NamesRanges (header_bytes head (get_or spans i d)) → ⊥)
    → All (λ (field : NameAndValue). NamesRanges field → ⊥) (map (header_bytes head) (take (i + 1) spans))
none_names_more head spans i d within before here =
    let P : NameAndValue → Type 0 = λ field. NamesRanges field → ⊥ in
    subst (λ (fields : List NameAndValue). All P fields) (sym (map_more (header_bytes head) spans i d within))
    (All-append P (map (header_bytes head) (take i spans)) (header_bytes head (get_or spans i d) ∷ []) before
    (All-cons P (header_bytes head (get_or spans i d)) [] here (All-nil P)))

pub names_at : (head : List ℕ) (spans : List HeaderSpan) (i : ℕ) (d : HeaderSpan) → i < length spans
    → NamesRanges (header_bytes head (get_or spans i d)) → TakesRanges (map (header_bytes head) spans)
names_at head spans i d within named = (
  i,
  header_bytes head (get_or spans i d),
  omega (arith, length-map spans (header_bytes head)),
  get_or-map (header_bytes head) spans i d (header_bytes head (get_or spans i d)) within,
  named,
)

pub none_names : (fields : List NameAndValue) → All (λ (field : NameAndValue). NamesRanges field → ⊥) fields → TakesRanges fields → ⊥
none_names fields none any = none any.0 any.1 any.2 (subst NamesRanges (sym any.3) any.4)

-- ---- lengths

last_of : (n : ℕ) (values : List (List ℕ)) (value : List ℕ) → All (λ v. IsLength v n) (values ++ value ∷ []) → IsLength value n
last_of n [] value all = all 0 value (omega arith)
last_of n (v ∷ vs) value all = last_of n vs value (λ i d h. all (suc i) d (omega arith))

front_of : (n : ℕ) (values : List (List ℕ)) (value : List ℕ) → All (λ v. IsLength v n) (values ++ value ∷ []) → All (λ v. IsLength v n) values
front_of n [] value all = All-nil (λ v. IsLength v n)
front_of n (v ∷ vs) value all =
    All-cons (λ v. IsLength v n) v vs (all 0 v (omega arith)) (front_of n vs value (λ i d h. all (suc i) d (omega arith)))

some_last : (values : List (List ℕ)) (value : List ℕ) → values ++ value ∷ [] ≢ []
some_last [] value e = absurd cc
some_last (v ∷ vs) value e = absurd cc

pub one_agrees : (values : List (List ℕ)) (count other : ℕ) → values ≢ [] → All (λ value. IsLength value count) values
    → All (λ value. IsLength value other) values → count ≡ other
one_agrees [] count other some x y = absurd (some refl)
one_agrees (v ∷ vs) count other some x y = length_one v count other (x 0 v (omega arith)) (y 0 v (omega arith))

-- one more value, which was read so
pub record Reads (value : List ℕ) (next : Option ℕ) : Type 0 where
  pub found : IfSome next (λ n. IsLength value n)
  pub none : IfNone next ((n : ℕ) → IsLength value n → ⊥)

tells_same : (values : List (List ℕ)) (value : List ℕ) (count n : ℕ) (same : Bool) → (n == count) ≡ same
    → Tells values (told.Count count) → IsLength value n
    → Tells (values ++ value ∷ []) (if same then told.Count count else told.Unreadable)
tells_same values value count n true e t read =
    let is = eqb-true n count e in (
      some_last values value,
      All-append (λ v. IsLength v count) values (value ∷ []) t.1
          (All-cons (λ v. IsLength v count) value [] (subst (IsLength value) is read) (All-nil (λ v. IsLength v count))),
    )
tells_same values value count n false e t read = λ other all.
    let of_front = one_agrees values count other t.0 t.1 (front_of other values value all) in
    let of_last = length_one value n other read (last_of other values value all) in
    absurd (eqb-false n count e (of_last ∙ sym of_front))

pub tells_more : (values : List (List ℕ)) (value : List ℕ) (length_told : ToldLength) (next : Option ℕ)
    → Tells values length_told → Reads value next → Tells (values ++ value ∷ []) (joined length_told next)
tells_more values value told.Absent None t read = λ count all. read.none count (last_of count values value all)
tells_more values value told.Absent (Some n) t read =
    subst (λ (vs : List (List ℕ)). Tells (vs ++ value ∷ []) (told.Count n)) (sym t)
    (some_last [] value, All-cons (λ v. IsLength v n) value [] read.found (All-nil (λ v. IsLength v n)))
tells_more values value (told.Count count) None t read = λ other all. read.none other (last_of other values value all)
tells_more values value (told.Count count) (Some n) t read = tells_same values value count n (n == count) refl t read.found
tells_more values value told.Unreadable next t read = λ count all. t count (front_of count values value all)

-- ---- the values of the first fields, and of one more

values_one : (name : List ℕ) (x : NameAndValue) (named : Bool) → has_name name x ≡ named
    → values_of name (x ∷ []) ≡ (if named then x.1 ∷ [] else [])
values_one name x true is = rw is refl
values_one name x false is = rw is refl

pub values_more : (name head : List ℕ) (spans : List HeaderSpan) (i : ℕ) (d : HeaderSpan) (named : Bool) → i < length spans
    → has_name name (header_bytes head (get_or spans i d)) ≡ named
    → values_of name (map (header_bytes head) (take (i + 1) spans))
    ≡ values_of name (map (header_bytes head) (take i spans))
    ++ (if named then span_bytes head (get_or spans i d).value ∷ [] else [])
values_more name head spans i d named within is =
    ap (values_of name) (map_more (header_bytes head) spans i d within)
    ∙ values_append (map (header_bytes head) (take i spans)) (header_bytes head (get_or spans i d) ∷ [])
    ∙ ap (λ t. values_of name (map (header_bytes head) (take i spans)) ++ t) (values_one name _ named is)
  where
    values_append : (xs ys : List NameAndValue) → values_of name (xs ++ ys) ≡ values_of name xs ++ values_of name ys
    values_append xs ys =
        ap (map (λ (field : NameAndValue). field.1)) (filter-append (has_name name) xs ys)
        ∙ map-append (λ (field : NameAndValue). field.1) (filter (has_name name) xs) (filter (has_name name) ys)
