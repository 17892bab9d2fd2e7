-- When reading a field is exact, and that fields in turn are.
use Rattle.std.proofs.Common.{◌≡◌, ℕ, suc, List, [], ◌∷◌, ◌++◌, length, Result, Ok, Err, refl, sym, ap, subst, ◌∙◌, append_assoc, ◌⊎◌, inl, inr}
use Rattle.dm_record.specs.declared.fault.Stop.{Stop}
use Rattle.dm_record.specs.declared.fault.Stop.TheVariants.{Short, Stray, NoMemory}
use Rattle.dm_record.specs.Limits.{IsBytes}
use Rattle.dm_record.specs.Reading.{Reading, ◌>>=◌, in_turn, made_by}

-- ---- steps that may stop

pub bind_ok : {A B : Type 0} (r : Result A Stop) (f : A → Result B Stop) (y : B) → (r >>= f) ≡ Ok y → (x : A) × (r ≡ Ok x) × (f x ≡ Ok y)
bind_ok (Ok x) f y e = (x, refl, e)
bind_ok (Err d) f y e = absurd cc

pub bind_err : {A B : Type 0} (r : Result A Stop) (f : A → Result B Stop) (stop : Stop) → (r >>= f) ≡ Err stop → (r ≡ Err stop) ⊎ ((x : A) × (r ≡ Ok x) × (f x ≡ Err stop))
bind_err (Ok x) f stop e = inr (x, refl, e)
bind_err (Err d) f stop e = inl cc

abbrev done : {A : Type 0} → A → Result A Stop
done x = Ok x

pub ok_is : {A : Type 0} (x y : A) → done x ≡ done y → x ≡ y
ok_is x y e = cc

pub ok_or_err : {A : Type 0} (r : Result A Stop) (x : A) (stop : Stop) → r ≡ Ok x → r ≡ Err stop → ⊥
ok_or_err r x stop p q = cc

pub same_stop : {A : Type 0} (r : Result A Stop) (x y : Stop) → r ≡ Err x → r ≡ Err y → x ≡ y
same_stop r x y p q = cc

-- ---- lists

pub IsBytes-back : (front rest : List ℕ) → IsBytes (front ++ rest) → IsBytes rest
IsBytes-back [] rest h = h
IsBytes-back (b ∷ front) rest h = IsBytes-back front rest h.1

pub assoc_back : (x y z : List ℕ) → x ++ (y ++ z) ≡ (x ++ y) ++ z
assoc_back x y z = sym (append_assoc x y z)

-- one of two fronts of a list begins the other
pub fronts : (x y u v : List ℕ) → x ++ y ≡ u ++ v → ((w : List ℕ) × (x ≡ u ++ w)) ⊎ ((w : List ℕ) × (u ≡ x ++ w))
fronts x y [] v e = inl (x, refl)
fronts [] y (c ∷ u) v e = inr (c ∷ u, refl)
fronts (b ∷ x) y (c ∷ u) v e =
    let heads : b ≡ c = cc in
    let rest : x ++ y ≡ u ++ v = cc in
    elim (fronts x y u v rest) [
      | inl p ↦ inl (p.0, subst (λ (d : ℕ). b ∷ x ≡ d ∷ (u ++ p.0)) heads (ap (λ (l : List ℕ). b ∷ l) p.1))
      | inr p ↦ inr (p.0, subst (λ (d : ℕ). d ∷ u ≡ b ∷ (x ++ p.0)) heads (ap (λ (l : List ℕ). b ∷ l) p.1))
    ]

-- ---- exact readers, of values that fit and have a spelling

-- some value begins with the bytes, and has more
pub record Cut {A : Type 0} (spell : A → List ℕ) (Fits : A → Type 0) (bytes : List ℕ) : Type 0 where
  pub value : A
  pub fits : Fits value
  pub byte : ℕ
  pub more : List ℕ
  pub goes_on : spell value ≡ bytes ++ byte ∷ more

-- some value begins with the front, and none with the front and the byte after it
pub record Strays {A : Type 0} (spell : A → List ℕ) (Fits : A → Type 0) (bytes : List ℕ) (left : ℕ) : Type 0 where
  pub front : List ℕ
  pub byte : ℕ
  pub rest : List ℕ
  pub parts : bytes ≡ front ++ byte ∷ rest
  pub left_is : left ≡ suc (length rest)
  pub value : A
  pub fits : Fits value
  pub more : List ℕ
  pub goes_on : spell value ≡ front ++ more
  pub none : (other : A) (after : List ℕ) → Fits other → spell other ≡ front ++ byte ∷ after → ⊥

abbrev pub StopsAt : {A : Type 0} → (A → List ℕ) → (A → Type 0) → List ℕ → Stop → Type 0
StopsAt spell Fits bytes Short = Cut spell Fits bytes
StopsAt spell Fits bytes (Stray left) = Strays spell Fits bytes left
StopsAt spell Fits bytes NoMemory = ⊥

pub record Exact {A : Type 0} (spell : A → List ℕ) (Fits : A → Type 0) (read : List ℕ → Reading A) : Type 0 where
  pub some : (value : A) × Fits value
  pub again : (value : A) (rest : List ℕ) → Fits value → read (spell value ++ rest) ≡ Ok (value, rest)
  pub found : (bytes : List ℕ) (value : A) (rest : List ℕ) → IsBytes bytes → read bytes ≡ Ok (value, rest) → Fits value × (bytes ≡ spell value ++ rest)
  pub stops : (bytes : List ℕ) (stop : Stop) → IsBytes bytes → read bytes ≡ Err stop → StopsAt spell Fits bytes stop

-- ---- the same values under another name

module _ {A B : Type 0} (spell : A → List ℕ) (Fits : A → Type 0) (read : List ℕ → Reading A) (spell' : B → List ℕ) (Fits' : B → Type 0) (make : A → B)
    (to : (a : A) → Fits a → Fits' (make a) × (spell' (make a) ≡ spell a))
    (from : (b : B) → Fits' b → (a : A) × (make a ≡ b) × Fits a)
    (exact : Exact spell Fits read) where
  spelled : (b : B) (fits : Fits' b) → spell' b ≡ spell (from b fits).0
  spelled b fits =
      let a = from b fits in
      subst (λ (c : B). spell' c ≡ spell a.0) a.1 (to a.0 a.2).1

  made_stops : (bytes : List ℕ) (stop : Stop) → StopsAt spell Fits bytes stop → StopsAt spell' Fits' bytes stop
  made_stops bytes Short s = record {
    value = make s.value;
    fits = (to s.value s.fits).0;
    byte = s.byte;
    more = s.more;
    goes_on = (to s.value s.fits).1 ∙ s.goes_on;
  }
  made_stops bytes (Stray left) s = record {
    front = s.front;
    byte = s.byte;
    rest = s.rest;
    parts = s.parts;
    left_is = s.left_is;
    value = make s.value;
    fits = (to s.value s.fits).0;
    more = s.more;
    goes_on = (to s.value s.fits).1 ∙ s.goes_on;
    none = λ b after fits e. s.none (from b fits).0 after (from b fits).2 (sym (spelled b fits) ∙ e);
  }
  made_stops bytes NoMemory s = s

  made_again : (b : B) (rest : List ℕ) → Fits' b → made_by make read (spell' b ++ rest) ≡ Ok (b, rest)
  made_again b rest fits =
      let a = from b fits in
      let one : read (spell' b ++ rest) ≡ Ok (a.0, rest) = subst (λ (l : List ℕ). read (l ++ rest) ≡ Ok (a.0, rest)) (sym (spelled b fits)) (exact.again a.0 rest a.2) in
      rw one (ap (λ (c : B). done (c, rest)) a.1)

  made_found : (bytes : List ℕ) (b : B) (rest : List ℕ) → IsBytes bytes → made_by make read bytes ≡ Ok (b, rest) → Fits' b × (bytes ≡ spell' b ++ rest)
  made_found bytes b rest good e =
      let p = bind_ok (read bytes) (λ x. Ok (make x.0, x.1)) (b, rest) e in
      let f = exact.found bytes p.0.0 p.0.1 good p.1 in
      let t = to p.0.0 f.0 in
      let here : Fits' (make p.0.0) × (bytes ≡ spell' (make p.0.0) ++ p.0.1) = (t.0, f.1 ∙ ap (λ (l : List ℕ). l ++ p.0.1) (sym t.1)) in
      subst (λ (y : B × List ℕ). Fits' y.0 × (bytes ≡ spell' y.0 ++ y.1)) (ok_is (make p.0.0, p.0.1) (b, rest) p.2) here

  pub made : Exact spell' Fits' (made_by make read)
  made = record {
    some = (make exact.some.0, (to exact.some.0 exact.some.1).0);
    again = made_again;
    found = made_found;
    stops = λ bytes stop good e. elim (bind_err (read bytes) (λ x. Ok (make x.0, x.1)) stop e) [
      | inl p ↦ made_stops bytes stop (exact.stops bytes stop good p)
      | inr p ↦ absurd (ok_or_err _ _ stop refl p.2)
    ];
  }

-- ---- two fields, the second by what the first is

module _ {A B : Type 0} (spell : A → List ℕ) (Fits : A → Type 0) (read : List ℕ → Reading A) (spell' : A → B → List ℕ) (Fits' : A → B → Type 0) (read' : A → List ℕ → Reading B)
    (exact : Exact spell Fits read) (exact' : (a : A) → Fits a → Exact (spell' a) (Fits' a) (read' a)) where
  abbrev both : A × B → List ℕ
  both p = spell p.0 ++ spell' p.0 p.1

  abbrev Both : A × B → Type 0
  Both p = Fits p.0 × Fits' p.0 p.1

  turn_again : (p : A × B) (rest : List ℕ) → Both p → in_turn read read' (both p ++ rest) ≡ Ok (p, rest)
  turn_again p rest fits =
      let regrouped : both p ++ rest ≡ spell p.0 ++ (spell' p.0 p.1 ++ rest) = append_assoc (spell p.0) (spell' p.0 p.1) rest in
      ap (in_turn read read') regrouped ∙ rw (exact.again p.0 (spell' p.0 p.1 ++ rest) fits.0, (exact' p.0 fits.0).again p.1 rest fits.1) refl

  turn_found : (bytes : List ℕ) (p : A × B) (rest : List ℕ) → IsBytes bytes → in_turn read read' bytes ≡ Ok (p, rest) → Both p × (bytes ≡ both p ++ rest)
  turn_found bytes p rest good e =
      let x = bind_ok (read bytes) (λ x. read' x.0 x.1 >>= λ y. Ok ((x.0, y.0), y.1)) (p, rest) e in
      let y = bind_ok (read' x.0.0 x.0.1) (λ y. Ok ((x.0.0, y.0), y.1)) (p, rest) x.2 in
      let f = exact.found bytes x.0.0 x.0.1 good x.1 in
      let good' : IsBytes x.0.1 = IsBytes-back (spell x.0.0) x.0.1 (subst IsBytes f.1 good) in
      let g = (exact' x.0.0 f.0).found x.0.1 y.0.0 y.0.1 good' y.1 in
      let whole : bytes ≡ (spell x.0.0 ++ spell' x.0.0 y.0.0) ++ y.0.1 = f.1 ∙ ap (λ (l : List ℕ). spell x.0.0 ++ l) g.1 ∙ assoc_back (spell x.0.0) (spell' x.0.0 y.0.0) y.0.1 in
      let here : Both (x.0.0, y.0.0) × (bytes ≡ both (x.0.0, y.0.0) ++ y.0.1) = ((f.0, g.0), whole) in
      subst (λ (z : (A × B) × List ℕ). Both z.0 × (bytes ≡ both z.0 ++ z.1)) (ok_is ((x.0.0, y.0.0), y.0.1) (p, rest) y.2) here

  -- the first field stops
  first_stops : (bytes : List ℕ) (stop : Stop) → read bytes ≡ Err stop → StopsAt spell Fits bytes stop → StopsAt both Both bytes stop
  first_stops bytes Short r s =
      let b = (exact' s.value s.fits).some in
      record {
        value = (s.value, b.0);
        fits = (s.fits, b.1);
        byte = s.byte;
        more = s.more ++ spell' s.value b.0;
        goes_on = ap (λ (l : List ℕ). l ++ spell' s.value b.0) s.goes_on ∙ append_assoc bytes (s.byte ∷ s.more) (spell' s.value b.0);
      }
  first_stops bytes (Stray left) r s =
      let b = (exact' s.value s.fits).some in
      record {
        front = s.front;
        byte = s.byte;
        rest = s.rest;
        parts = s.parts;
        left_is = s.left_is;
        value = (s.value, b.0);
        fits = (s.fits, b.1);
        more = s.more ++ spell' s.value b.0;
        goes_on = ap (λ (l : List ℕ). l ++ spell' s.value b.0) s.goes_on ∙ append_assoc s.front s.more (spell' s.value b.0);
        none = λ p after fits e.
            let here : spell p.0 ++ spell' p.0 p.1 ≡ (s.front ++ s.byte ∷ []) ++ after = e ∙ assoc_back s.front (s.byte ∷ []) after in
            elim (fronts (spell p.0) (spell' p.0 p.1) (s.front ++ s.byte ∷ []) after here) [
              | inl w ↦ s.none p.0 w.0 fits.0 (w.1 ∙ append_assoc s.front (s.byte ∷ []) w.0)
              | inr w ↦
                  let whole : bytes ≡ spell p.0 ++ (w.0 ++ s.rest) = s.parts ∙ assoc_back s.front (s.byte ∷ []) s.rest ∙ ap (λ (l : List ℕ). l ++ s.rest) w.1 ∙ append_assoc (spell p.0) w.0 s.rest in
                  ok_or_err (read bytes) (p.0, w.0 ++ s.rest) (Stray left) (ap read whole ∙ exact.again p.0 (w.0 ++ s.rest) fits.0) r
            ];
      }
  first_stops bytes NoMemory r s = s

  -- the second field stops
  second_stops : (bytes : List ℕ) (a : A) (after : List ℕ) (stop : Stop) → Fits a → bytes ≡ spell a ++ after → StopsAt (spell' a) (Fits' a) after stop → StopsAt both Both bytes stop
  second_stops bytes a after Short fits e s = record {
    value = (a, s.value);
    fits = (fits, s.fits);
    byte = s.byte;
    more = s.more;
    goes_on = ap (λ (l : List ℕ). spell a ++ l) s.goes_on ∙ assoc_back (spell a) after (s.byte ∷ s.more) ∙ ap (λ (l : List ℕ). l ++ s.byte ∷ s.more) (sym e);
  }
  second_stops bytes a after (Stray left) fits e s = record {
    front = spell a ++ s.front;
    byte = s.byte;
    rest = s.rest;
    parts = e ∙ ap (λ (l : List ℕ). spell a ++ l) s.parts ∙ assoc_back (spell a) s.front (s.byte ∷ s.rest);
    left_is = s.left_is;
    value = (a, s.value);
    fits = (fits, s.fits);
    more = s.more;
    goes_on = ap (λ (l : List ℕ). spell a ++ l) s.goes_on ∙ assoc_back (spell a) s.front s.more;
    none = λ p next fits' q.
        let whole : spell p.0 ++ spell' p.0 p.1 ≡ spell a ++ (s.front ++ s.byte ∷ next) = q ∙ append_assoc (spell a) s.front (s.byte ∷ next) in
        let one : done (p.0, spell' p.0 p.1) ≡ done (a, s.front ++ s.byte ∷ next) = sym (exact.again p.0 (spell' p.0 p.1) fits'.0) ∙ ap read whole ∙ exact.again a (s.front ++ s.byte ∷ next) fits in
        let same = ok_is (p.0, spell' p.0 p.1) (a, s.front ++ s.byte ∷ next) one in
        let first : p.0 ≡ a = ap (λ (x : A × List ℕ). x.0) same in
        let second : spell' p.0 p.1 ≡ s.front ++ s.byte ∷ next = ap (λ (x : A × List ℕ). x.1) same in
        s.none p.1 next (subst (λ (x : A). Fits' x p.1) first fits'.1) (subst (λ (x : A). spell' x p.1 ≡ s.front ++ s.byte ∷ next) first second);
  }
  second_stops bytes a after NoMemory fits e s = s

  turn_stops : (bytes : List ℕ) (stop : Stop) → IsBytes bytes → in_turn read read' bytes ≡ Err stop → StopsAt both Both bytes stop
  turn_stops bytes stop good e =
      elim (bind_err (read bytes) (λ x. read' x.0 x.1 >>= λ y. Ok ((x.0, y.0), y.1)) stop e) [
        | inl r ↦ first_stops bytes stop r (exact.stops bytes stop good r)
        | inr x ↦
            let f = exact.found bytes x.0.0 x.0.1 good x.1 in
            let good' : IsBytes x.0.1 = IsBytes-back (spell x.0.0) x.0.1 (subst IsBytes f.1 good) in
            elim (bind_err (read' x.0.0 x.0.1) (λ y. Ok ((x.0.0, y.0), y.1)) stop x.2) [
              | inl r ↦ second_stops bytes x.0.0 x.0.1 stop f.0 f.1 ((exact' x.0.0 f.0).stops x.0.1 stop good' r)
              | inr y ↦ absurd (ok_or_err _ _ stop refl y.2)
            ]
      ]

  pub turn : Exact both Both (in_turn read read')
  turn = record {
    some = ((exact.some.0, (exact' exact.some.0 exact.some.1).some.0), (exact.some.1, (exact' exact.some.0 exact.some.1).some.1));
    again = turn_again;
    found = turn_found;
    stops = turn_stops;
  }

-- the values that are made of fitting ones
abbrev pub Image : {A B : Type 0} → (A → B) → (A → Type 0) → B → Type 0
Image {A} {B} make Fits b = (a : A) × (make a ≡ b) × Fits a

pub made_image : {A B : Type 0} (spell : A → List ℕ) (Fits : A → Type 0) (read : List ℕ → Reading A) (spell' : B → List ℕ) (make : A → B)
    → ((a : A) → Fits a → spell' (make a) ≡ spell a) → Exact spell Fits read → Exact spell' (Image make Fits) (made_by make read)
made_image {A} {B} spell Fits read spell' make same exact = made spell Fits read spell' (Image make Fits) make (λ a fits. ((a, refl, fits), same a fits)) (λ b fits. fits) exact

-- the same values with the same spelling, said otherwise
module _ {A : Type 0} (spell : A → List ℕ) (Fits : A → Type 0) (read : List ℕ → Reading A) (spell' : A → List ℕ) (Fits' : A → Type 0)
    (to : (a : A) → Fits a → Fits' a) (from : (a : A) → Fits' a → Fits a) (same : (a : A) → spell' a ≡ spell a)
    (exact : Exact spell Fits read) where
  respelled_stops : (bytes : List ℕ) (stop : Stop) → StopsAt spell Fits bytes stop → StopsAt spell' Fits' bytes stop
  respelled_stops bytes stop s = made_stops spell Fits read spell' Fits' (λ a. a) (λ a fits. (to a fits, same a)) (λ a fits. (a, refl, from a fits)) exact bytes stop s

  pub respelled : Exact spell' Fits' read
  respelled = record {
    some = (exact.some.0, to exact.some.0 exact.some.1);
    again = λ a rest fits. ap (λ (l : List ℕ). read (l ++ rest)) (same a) ∙ exact.again a rest (from a fits);
    found = λ bytes a rest good e.
        let f = exact.found bytes a rest good e in
        (to a f.0, f.1 ∙ ap (λ (l : List ℕ). l ++ rest) (sym (same a)));
    stops = λ bytes stop good e. respelled_stops bytes stop (exact.stops bytes stop good e);
  }

-- ---- values whose first byte tells what follows

-- the bytes behind a tag: a field, or none goes on
abbrev pub Branch : {A : Type 0} → (A → List ℕ) → (A → Type 0) → (List ℕ → Reading A) → ℕ → Type 0
Branch {A} spell Of read tag =
    Exact spell Of (λ rest. read (tag ∷ rest)) ⊎ (((rest : List ℕ) → read (tag ∷ rest) ≡ Err (Stray (suc (length rest)))) × ((a : A) → Of a → ⊥))

module _ {A : Type 0} (kind : A → ℕ) (spell : A → List ℕ) (Fits : A → Type 0) (Of : ℕ → A → Type 0) (read : List ℕ → Reading A)
    (into : (a : A) → Fits a → Of (kind a) a)
    (out : (tag : ℕ) (a : A) → Of tag a → Fits a × (kind a ≡ tag))
    (empty : read [] ≡ Err Short)
    (each : (tag : ℕ) → Branch spell (Of tag) read tag)
    (some : (a : A) × Fits a) where
  abbrev tagged_spelling : A → List ℕ
  tagged_spelling a = kind a ∷ spell a

  tagged_again : (a : A) (rest : List ℕ) → Fits a → read (tagged_spelling a ++ rest) ≡ Ok (a, rest)
  tagged_again a rest fits =
      elim (each (kind a)) [
        | inl exact ↦ exact.again a rest (into a fits)
        | inr lost ↦ absurd (lost.1 a (into a fits))
      ]

  tagged_found : (bytes : List ℕ) (a : A) (rest : List ℕ) → IsBytes bytes → read bytes ≡ Ok (a, rest) → Fits a × (bytes ≡ tagged_spelling a ++ rest)
  tagged_found [] a rest good e = absurd (ok_or_err (read []) (a, rest) Short e empty)
  tagged_found (tag ∷ bytes) a rest good e =
      elim (each tag) [
        | inl exact ↦
            let f = exact.found bytes a rest good.1 e in
            let o = out tag a f.0 in
            (o.0, subst (λ (k : ℕ). tag ∷ bytes ≡ k ∷ (spell a ++ rest)) (sym o.1) (ap (λ (l : List ℕ). tag ∷ l) f.1))
        | inr lost ↦ absurd (ok_or_err (read (tag ∷ bytes)) (a, rest) (Stray (suc (length bytes))) e (lost.0 bytes))
      ]

  field_stops : (tag : ℕ) (bytes : List ℕ) (stop : Stop) → StopsAt spell (Of tag) bytes stop → StopsAt tagged_spelling Fits (tag ∷ bytes) stop
  field_stops tag bytes Short s =
      let o = out tag s.value s.fits in
      record {
        value = s.value;
        fits = o.0;
        byte = s.byte;
        more = s.more;
        goes_on = subst (λ (k : ℕ). k ∷ spell s.value ≡ tag ∷ (bytes ++ s.byte ∷ s.more)) (sym o.1) (ap (λ (l : List ℕ). tag ∷ l) s.goes_on);
      }
  field_stops tag bytes (Stray left) s =
      let o = out tag s.value s.fits in
      record {
        front = tag ∷ s.front;
        byte = s.byte;
        rest = s.rest;
        parts = ap (λ (l : List ℕ). tag ∷ l) s.parts;
        left_is = s.left_is;
        value = s.value;
        fits = o.0;
        more = s.more;
        goes_on = subst (λ (k : ℕ). k ∷ spell s.value ≡ tag ∷ (s.front ++ s.more)) (sym o.1) (ap (λ (l : List ℕ). tag ∷ l) s.goes_on);
        none = λ a after fits e.
            let first : kind a ≡ tag = cc in
            let second : spell a ≡ s.front ++ s.byte ∷ after = cc in
            s.none a after (subst (λ (k : ℕ). Of k a) first (into a fits)) second;
      }
  field_stops tag bytes NoMemory s = s

  -- no value has the tag
  tag_stops : (tag : ℕ) (bytes : List ℕ) (stop : Stop) → ((a : A) → Of tag a → ⊥) → stop ≡ Stray (suc (length bytes)) → StopsAt tagged_spelling Fits (tag ∷ bytes) stop
  tag_stops tag bytes stop none e =
      let here : Strays tagged_spelling Fits (tag ∷ bytes) (suc (length bytes)) = record {
        front = [];
        byte = tag;
        rest = bytes;
        parts = refl;
        left_is = refl;
        value = some.0;
        fits = some.1;
        more = tagged_spelling some.0;
        goes_on = refl;
        none = λ a after fits q.
            let first : kind a ≡ tag = cc in
            none a (subst (λ (k : ℕ). Of k a) first (into a fits));
      } in
      subst (λ (s : Stop). StopsAt tagged_spelling Fits (tag ∷ bytes) s) (sym e) here

  empty_stops : (stop : Stop) → stop ≡ Short → StopsAt tagged_spelling Fits [] stop
  empty_stops stop e =
      let here : Cut tagged_spelling Fits [] = record { value = some.0; fits = some.1; byte = kind some.0; more = spell some.0; goes_on = refl } in
      subst (λ (s : Stop). StopsAt tagged_spelling Fits [] s) (sym e) here

  tagged_stops : (bytes : List ℕ) (stop : Stop) → IsBytes bytes → read bytes ≡ Err stop → StopsAt tagged_spelling Fits bytes stop
  tagged_stops [] stop good e = empty_stops stop (same_stop (read []) stop Short e empty)
  tagged_stops (tag ∷ bytes) stop good e =
      elim (each tag) [
        | inl exact ↦ field_stops tag bytes stop (exact.stops bytes stop good.1 e)
        | inr lost ↦ tag_stops tag bytes stop lost.1 (same_stop (read (tag ∷ bytes)) stop (Stray (suc (length bytes))) e (lost.0 bytes))
      ]

  pub tagged : Exact tagged_spelling Fits read
  tagged = record { some = some; again = tagged_again; found = tagged_found; stops = tagged_stops }

-- two fields that stand for themselves
pub next : {A B : Type 0} {spell : A → List ℕ} {Fits : A → Type 0} {read : List ℕ → Reading A} {spell' : B → List ℕ} {Fits' : B → Type 0} {read' : List ℕ → Reading B}
    → Exact spell Fits read → Exact spell' Fits' read'
    → Exact (λ (p : A × B). spell p.0 ++ spell' p.1) (λ (p : A × B). Fits p.0 × Fits' p.1) (in_turn read (λ _. read'))
next {spell} {Fits} {read} {spell'} {Fits'} {read'} exact exact' = turn spell Fits read (λ _. spell') (λ _. Fits') (λ _. read') exact (λ _ _. exact')

-- another type with the same parts
pub respelled_by : {A B : Type 0} {spell : A → List ℕ} {Fits : A → Type 0} {read : List ℕ → Reading A} (make : A → B) (spell' : B → List ℕ) (Fits' : B → Type 0) (parts : B → A)
    → ((a : A) → spell' (make a) ≡ spell a) → ((b : B) → make (parts b) ≡ b) → ((a : A) → Fits a → Fits' (make a)) → ((b : B) → Fits' b → Fits (parts b))
    → Exact spell Fits read → Exact spell' Fits' (made_by make read)
respelled_by {spell} {Fits} {read} make spell' Fits' parts same whole to from exact = made spell Fits read spell' Fits' make (λ a fits. (to a fits, same a)) (λ b fits. (parts b, whole b, from b fits)) exact
