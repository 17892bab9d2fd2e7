-- A life of which one slice grew.
use Rattle.std.proofs.Common.{◌≡◌, ◌≢◌, inl, inr, ℕ, zero, suc, ◌+◌, ◌^◌, ◌<◌, ◌≤◌, ◌==◌, Bool, true, false, IsTrue, List, [], ◌∷◌, length, Option, Some, None, refl, sym, ◌∙◌, ap, subst, arith}
use Rattle.std.specs.Prelude.{IfSome, IsSome, is_some, slice_get, unwrap_or}
use Rattle.std.specs.Option.{option_map}
use Rattle.std.proofs.lemmas.Bool.{false≢true}
use Rattle.dm_types.specs.declared.item.Item.{Item}
use Rattle.dm_types.specs.declared.item.Key.{Key}
use Rattle.dm_types.specs.declared.slices.Slice.{Slice}
use Rattle.dm_slice.specs.Cover.{IsCover, IsRising, IsWithinTotal, grown, limit_at, limit_of, next_of}
use Rattle.dm_slice.specs.Words.{HasByte, Holds, IsWithin, covered, cover_end, end_of}
use Rattle.dm_slice.specs.declared.plan.Part.{Part}
use Rattle.dm_slice.proofs.Covers.{cover-grown, length-grown, places-grown}
use Rattle.dm_slice.proofs.Sums.{covered-grown}
use Rattle.dm_kept.proofs.Lists.{eq_is, eq_not, some_is}
use Rattle.dm_store.specs.declared.life.Life.{Life}
use Rattle.dm_store.specs.Lives.{AreBounded, AreLives, ArePlaced, EndWithin, IsLifeOf, IsPlaced, LifeOf, changed_life, life_in}
use Rattle.dm_store.proofs.Lives.{changed_other, changed_own}
use Rattle.dm_item.specs.Listing.{item_in}
use Rattle.dm_answers.specs.Land.{grown_life}

-- Which place comes next, and how far a slice can grow.

some_same : (x y : ℕ) → Some x ≡ Some y → x ≡ y
some_same x y e = some_is x y e

next_within : (slices : List Slice) (k at : ℕ) → next_of slices k ≡ Some at → k < length slices
next_within [] k at there = absurd cc
next_within (slice ∷ rest) zero at there = omega arith
next_within (slice ∷ rest) (suc k) at there = let later = next_within rest k at there in omega (arith, later)

pub next_grown : (slices : List Slice) (k more at : ℕ) → next_of slices k ≡ Some at → next_of (grown slices k more) k ≡ Some (at + more)
next_grown [] k more at there = absurd cc
next_grown (slice ∷ rest) zero more at there =
    let same : end_of slice ≡ at = some_same (end_of slice) at there in
    let ends : slice.first + (slice.got + more) ≡ at + more = omega (arith, same) in
    ap Some ends
next_grown (slice ∷ rest) (suc k) more at there = next_grown rest k more at there

next_beside : (slices : List Slice) (k j more : ℕ) → j ≢ k → next_of (grown slices k more) j ≡ next_of slices j
next_beside [] k j more apart = refl
next_beside (slice ∷ rest) zero zero more apart = absurd (apart refl)
next_beside (slice ∷ rest) zero (suc j) more apart = refl
next_beside (slice ∷ rest) (suc k) zero more apart = refl
next_beside (slice ∷ rest) (suc k) (suc j) more apart = next_beside rest k j more (λ same. apart (ap suc same))

limit_first : (slices : List Slice) (k more : ℕ) → limit_of (grown slices k more) ≡ limit_of slices
limit_first [] k more = refl
limit_first (slice ∷ rest) zero more = refl
limit_first (slice ∷ rest) (suc k) more = refl

limit_grown : (slices : List Slice) (k j more : ℕ) → limit_at (grown slices k more) j ≡ limit_at slices j
limit_grown [] k j more = refl
limit_grown (slice ∷ rest) zero zero more = refl
limit_grown (slice ∷ rest) zero (suc j) more = refl
limit_grown (slice ∷ rest) (suc k) zero more = limit_first rest k more
limit_grown (slice ∷ rest) (suc k) (suc j) more = limit_grown rest k j more

next_rising : (end : ℕ) (slices : List Slice) (k at : ℕ) → IsRising end slices → next_of slices k ≡ Some at → at ≤ 2 ^ 40
next_rising end [] k at rising there = absurd cc
next_rising end (slice ∷ rest) zero at rising there = let same = some_same (end_of slice) at there in let low = rising.1 in omega (arith, same, low)
next_rising end (slice ∷ rest) (suc k) at rising there = next_rising (end_of slice) rest k at rising.2 there

-- no place is above 2^40
pub next_low : (cover : List Slice) (k at : ℕ) → IsCover cover → next_of cover k ≡ Some at → at ≤ 2 ^ 40
next_low [] k at is there = absurd is
next_low (slice ∷ rest) k at is there = next_rising 0 (slice ∷ rest) k at is.1 there

within_grown : (slices : List Slice) (k more at total : ℕ) → next_of slices k ≡ Some at → at + more ≤ total → IsWithin total slices → IsWithin total (grown slices k more)
within_grown [] k more at total there low within = tt
within_grown (slice ∷ rest) zero more at total there low within = let same = some_same (end_of slice) at there in (omega (arith, same, low), within.1)
within_grown (slice ∷ rest) (suc k) more at total there low within = (within.0, within_grown rest k more at total there low within.1)

total_grown : (total : Option ℕ) (slices : List Slice) (k more at : ℕ) → next_of slices k ≡ Some at → IfSome total (λ t. at + more ≤ t) → IsWithinTotal total slices → IsWithinTotal total (grown slices k more)
total_grown None slices k more at there low within = tt
total_grown (Some t) slices k more at there low within = within_grown slices k more at t there low within

-- where a cover of one slice ends
pub end_one : (cover : List Slice) (k at : ℕ) → length cover ≡ 1 → next_of cover k ≡ Some at → cover_end cover ≡ at
end_one [] k at one there = absurd cc
end_one (slice ∷ []) zero at one there = let same = some_same (end_of slice) at there in omega (arith, same)
end_one (slice ∷ []) (suc k) at one there = absurd cc
end_one (slice ∷ other ∷ rest) k at one there = absurd (omega (arith, one))

-- What the plan says of the part with a number.

pub placed_at : (start : ℕ) (cover : List Slice) (plan : List Part) (k : ℕ) (part : Part) → ArePlaced start cover plan → slice_get plan k ≡ Some part → IsPlaced (start + k) cover part
placed_at start cover [] k part placed there = absurd cc
placed_at start cover (first ∷ rest) zero part placed there =
    let same : first ≡ part = some_is first part there in
    let at : start ≡ start + 0 = omega arith in
    subst (λ (n : ℕ). IsPlaced n cover part) at (subst (IsPlaced start cover) same placed.0)
placed_at start cover (first ∷ rest) (suc k) part placed there =
    let at : (start + 1) + k ≡ start + suc k = omega arith in
    subst (λ (n : ℕ). IsPlaced n cover part) at (placed_at (start + 1) cover rest k part placed.1 there)

pub ends_at : (total : Option ℕ) (plan : List Part) (k : ℕ) (part : Part) → EndWithin total plan → slice_get plan k ≡ Some part → IfSome total (λ t. part.end ≤ t)
ends_at total [] k part ends there = absurd cc
ends_at total (first ∷ rest) zero part ends there = subst (λ (p : Part). IfSome total (λ t. p.end ≤ t)) (some_is first part there) ends.0
ends_at total (first ∷ rest) (suc k) part ends there = ends_at total rest k part ends.1 there

-- the plan behind it
placed_one : (index at more : ℕ) (cover : List Slice) (start : ℕ) (part : Part) → next_of cover index ≡ Some at → (start ≡ index → at + more ≤ part.end) → IsPlaced start cover part → IsPlaced start (grown cover index more) part
placed_one index at more cover start part there low is = by (start == index) refl
  where
    by : (test : Bool) → (start == index) ≡ test → IsPlaced start (grown cover index more) part
    by true same =
        let here : start ≡ index = eq_is start index same in
        let place : is.place ≡ at = some_same is.place at (sym is.next ∙ ap (next_of cover) here ∙ there) in
        let below = low here in
        let from = is.from in
        record {
          is = is.is;
          place = at + more;
          next = subst (λ (n : ℕ). next_of (grown cover index more) n ≡ Some (at + more)) (sym here) (next_grown cover index more at there);
          from = omega (arith, place, from);
          to = below;
          room = subst (λ (n : ℕ). part.end ≤ n) (sym (limit_grown cover index start more)) is.room;
        }
    by false other = record {
      is = is.is;
      place = is.place;
      next = next_beside cover index start more (eq_not start index other) ∙ is.next;
      from = is.from;
      to = is.to;
      room = subst (λ (n : ℕ). part.end ≤ n) (sym (limit_grown cover index start more)) is.room;
    }

placed_grown : (index at more : ℕ) (cover : List Slice) (start : ℕ) (plan : List Part) → next_of cover index ≡ Some at → ((k : ℕ) (part : Part) → slice_get plan k ≡ Some part → start + k ≡ index → at + more ≤ part.end) → ArePlaced start cover plan
    → ArePlaced start (grown cover index more) plan
placed_grown index at more cover start [] there low placed = tt
placed_grown index at more cover start (part ∷ rest) there low placed = (
  placed_one index at more cover start part there (λ here. low 0 part refl (omega (arith, here))) placed.0,
  placed_grown index at more cover (start + 1) rest there (λ k other is at_k. low (suc k) other is (omega (arith, at_k))) placed.1,
)

-- An attempt that has a plan was described.
pub told_by : (item : Item) (life : Life) (k : ℕ) (part : Part) → IsLifeOf item life → slice_get life.plan k ≡ Some part → is_some item.key ≡ true
told_by item life k part is there = by item.key refl
  where
    none_there : life.plan ≡ [] → ⊥
    none_there none = let nothing : slice_get {X = Part} [] k ≡ Some part = subst (λ (plan : List Part). slice_get plan k ≡ Some part) none there in absurd cc

    by : (key : Option Key) → item.key ≡ key → is_some key ≡ true
    by None none = absurd (none_there (is.fresh (is.untold none).1))
    by (Some key) is_key = refl

no_key : (key : Option Key) → is_some key ≡ true → key ≡ None → ⊥
no_key None told none = false≢true told
no_key (Some key) told none = absurd cc

-- The life of the item behind it.
pub grown_is : (item : Item) (life : Life) (index at count : ℕ) (part : Part) → IsLifeOf item life → slice_get life.plan index ≡ Some part → next_of life.cover index ≡ Some at → at + count ≤ part.end → 1 ≤ count
    → IsLifeOf item (grown_life index count life)
grown_is item life index at count part is there next low some =
    let placed = placed_at 0 life.cover life.plan index part is.plan there in
    let here : 0 + index ≡ index = omega arith in
    let room : part.end ≤ limit_at life.cover index = subst (λ (n : ℕ). part.end ≤ limit_at life.cover n) here placed.room in
    let fits : at + count ≤ limit_at life.cover index = omega (arith, low, room) in
    let within = next_within life.cover index at next in
    let sum = covered-grown life.cover index count within in
    let old = is.count in
    record {
      runs = is.runs;
      part = is.part;
      cover = cover-grown life.cover index count at is.cover next fits;
      few = subst (λ (n : ℕ). n ≤ 64) (sym (length-grown life.cover index count)) is.few;
      within = total_grown item.total life.cover index count at next (below item.total (ends_at item.total life.plan index part is.ends there)) is.within;
      holds = λ place has. (places-grown life.cover index count place).1 (inl (is.holds place has));
      count = omega (arith, sum, old);
      same = λ zero. absurd (omega (arith, zero, some));
      untold = λ none. absurd (no_key item.key (told_by item life index part is there) none);
      one = λ none. length-grown life.cover index count ∙ is.one none;
      fresh = is.fresh;
      plan = placed_grown index at count life.cover 0 life.plan next (λ k other is_k at_k. bound k other is_k at_k) is.plan;
      ends = is.ends;
    }
  where
    below : (total : Option ℕ) → IfSome total (λ t. part.end ≤ t) → IfSome total (λ t. at + count ≤ t)
    below None ends = tt
    below (Some t) ends = omega (arith, ends, low)

    bound : (k : ℕ) (other : Part) → slice_get life.plan k ≡ Some other → 0 + k ≡ index → at + count ≤ other.end
    bound k other is_k at_k =
        let here : k ≡ index = omega (arith, at_k) in
        let same : part ≡ other = some_is part other (sym there ∙ ap (slice_get life.plan) (sym here) ∙ is_k) in
        subst (λ (p : Part). at + count ≤ p.end) same low

-- the piece ends within the total
pub ends_within : (item : Item) (life : Life) (index at count : ℕ) (part : Part) → IsLifeOf item life → slice_get life.plan index ≡ Some part → at + count ≤ part.end → IfSome item.total (λ t. at + count ≤ t)
ends_within item life index at count part is there low = by item.total (ends_at item.total life.plan index part is.ends there)
  where
    by : (total : Option ℕ) → IfSome total (λ t. part.end ≤ t) → IfSome total (λ t. at + count ≤ t)
    by None ends = tt
    by (Some t) ends = omega (arith, ends, low)

-- and the slice can have it
pub room_at : (item : Item) (life : Life) (index at count : ℕ) (part : Part) → IsLifeOf item life → slice_get life.plan index ≡ Some part → at + count ≤ part.end → at + count ≤ limit_at life.cover index
room_at item life index at count part is there low =
    let placed = placed_at 0 life.cover life.plan index part is.plan there in
    let here : 0 + index ≡ index = omega arith in
    let room : part.end ≤ limit_at life.cover index = subst (λ (n : ℕ). part.end ≤ limit_at life.cover n) here placed.room in
    omega (arith, low, room)

pub index_within : (life : Life) (index at : ℕ) → next_of life.cover index ≡ Some at → index < length life.cover
index_within life index at next = next_within life.cover index at next

pub room_of : (cover : List Slice) (index at count : ℕ) → next_of cover index ≡ Some at → at + count ≤ limit_at cover index → unwrap_or (next_of cover index) 0 + count ≤ limit_at cover index
room_of cover index at count next room = subst (λ (found : Option ℕ). unwrap_or found 0 + count ≤ limit_at cover index) (sym next) room

-- The lives behind it.
pub lives_grown : (id : ℕ) (items : List Item) (lives : List Life) (f : Life → Life) (item : Item) (life : Life) → ((l : Life) → (f l).id.0 ≡ l.id.0) → item_in id items ≡ Some item → life_in id lives ≡ Some life → IsLifeOf item (f life)
    → AreLives items lives → AreLives items (changed_life id f lives)
lives_grown id items lives f item life same there here is are k = by (k == id) refl
  where
    own : LifeOf (item_in id items) (life_in id (changed_life id f lives))
    own =
        subst (λ (found : Option Item). LifeOf found (life_in id (changed_life id f lives))) (sym there)
        (subst (LifeOf (Some item)) (sym (changed_own id f lives same ∙ ap (option_map f) here)) is)

    by : (test : Bool) → (k == id) ≡ test → LifeOf (item_in k items) (life_in k (changed_life id f lives))
    by true at = subst (λ (n : ℕ). LifeOf (item_in n items) (life_in n (changed_life id f lives))) (sym (eq_is k id at)) own
    by false at = subst (LifeOf (item_in k items)) (sym (changed_other id k f lives same (eq_not k id at))) (are k)

pub bounded_grown : (bound id : ℕ) (lives : List Life) (f : Life → Life) (life : Life) → ((l : Life) → (f l).id.0 ≡ l.id.0) → life_in id lives ≡ Some life → (f life).unsaved < bound → AreBounded bound lives → AreBounded bound (changed_life id f lives)
bounded_grown bound id lives f life same here low bounded k = by (k == id) refl
  where
    by : (test : Bool) → (k == id) ≡ test → IfSome (life_in k (changed_life id f lives)) (λ (l : Life). l.unsaved < bound)
    by true at =
        subst (λ (n : ℕ). IfSome (life_in n (changed_life id f lives)) (λ (l : Life). l.unsaved < bound)) (sym (eq_is k id at))
        (subst (λ (found : Option Life). IfSome found (λ (l : Life). l.unsaved < bound)) (sym (changed_own id f lives same ∙ ap (option_map f) here)) low)
    by false at = subst (λ (found : Option Life). IfSome found (λ (l : Life). l.unsaved < bound)) (sym (changed_other id k f lives same (eq_not k id at))) (bounded k)
