-- The lives of a desk behind one more entry.
use Rattle.std.proofs.Common.{◌≡◌, ◌≢◌, inr, ℕ, zero, suc, get_or, set, ◌+◌, ◌<◌, ◌≤◌, Bool, true, false, not, IsTrue, ◌==◌, cond, List, [], ◌∷◌, ◌++◌, length, Option, Some, None, refl, sym, ◌∙◌, ap, subst, arith}
use Rattle.std.specs.Prelude.{IfSome, IsSome, find}
use Rattle.std.specs.Option.{option_map}
use Rattle.std.proofs.lemmas.Bool.{false≢true}
use Rattle.std.proofs.lemmas.Bool.Decides.{nat_tests}
use Rattle.std.proofs.lemmas.List.Sums.{fails_before_first}
use Rattle.std.proofs.lemmas.List.Quantifiers.{position-Some}
use Rattle.std.specs.List.{position_or_len}
use Rattle.dm_types.specs.declared.entry.Entry.{Entry}
use Rattle.dm_types.specs.declared.entry.Entry.TheVariants as entries
use Rattle.dm_types.specs.declared.item.Item.{Item}
use Rattle.dm_types.specs.declared.slices.Slice.{Slice}
use Rattle.dm_item.specs.Fields.{is_running}
use Rattle.dm_item.specs.History.{get}
use Rattle.dm_item.specs.Kept.{IsNumbered}
use Rattle.dm_item.specs.Listing.{Listing, changed_at, item_in, without}
use Rattle.dm_item.specs.Ready.{adds_item}
use Rattle.dm_item.specs.Row.{changed}
use Rattle.dm_kept.proofs.Entered.{NoMoreLive, SameBut}
use Rattle.dm_kept.proofs.Lists.{changed_beside, changed_here, eq_is, eq_not, id_in, without_beside, without_here}
use Rattle.dm_store.specs.declared.life.Life.{Life}
use Rattle.dm_store.specs.Lives.{AreBounded, AreLives, LifeOf, begun_life, changed_life, covers_of, is_plain, life_in, lives_after, part_place, place_of, saved_life, with_life, without_life}

-- Which life an id has, where those of one are taken away.

other_test : (k id : ℕ) (life : Life) (rest : List Life) (at_k at_id : Bool) → (life.id.0 == k) ≡ at_k → (life.id.0 == id) ≡ at_id → id ≢ k → life_in id (without_life k rest) ≡ life_in id rest
    → find (λ (l : Life). l.id.0 == id) (cond (not at_k) (life ∷ without_life k rest) (without_life k rest)) ≡ cond at_id (Some life) (life_in id rest)
other_test k id life rest true true is_k is_id apart later = absurd (apart (sym (eq_is life.id.0 id is_id) ∙ eq_is life.id.0 k is_k))
other_test k id life rest true false is_k is_id apart later = later
other_test k id life rest false true is_k is_id apart later = ap (λ (b : Bool). cond b (Some life) (life_in id (without_life k rest))) is_id
other_test k id life rest false false is_k is_id apart later = ap (λ (b : Bool). cond b (Some life) (life_in id (without_life k rest))) is_id ∙ later

pub other_life : (k id : ℕ) (lives : List Life) → id ≢ k → life_in id (without_life k lives) ≡ life_in id lives
other_life k id [] apart = refl
other_life k id (life ∷ rest) apart = other_test k id life rest (life.id.0 == k) (life.id.0 == id) refl refl apart (other_life k id rest apart)

none_test : (k : ℕ) (life : Life) (rest : List Life) (test : Bool) → (life.id.0 == k) ≡ test → life_in k (without_life k rest) ≡ None → find (λ (l : Life). l.id.0 == k) (cond (not test) (life ∷ without_life k rest) (without_life k rest)) ≡ None
none_test k life rest true is later = later
none_test k life rest false is later = ap (λ (b : Bool). cond b (Some life) (life_in k (without_life k rest))) is ∙ later

pub no_life : (k : ℕ) (lives : List Life) → life_in k (without_life k lives) ≡ None
no_life k [] = refl
no_life k (life ∷ rest) = none_test k life rest (life.id.0 == k) refl (no_life k rest)

-- they are no more
shorter_test : (k : ℕ) (life : Life) (rest : List Life) (test : Bool) → length (without_life k rest) ≤ length rest → length (cond (not test) (life ∷ without_life k rest) (without_life k rest)) ≤ length (life ∷ rest)
shorter_test k life rest true later = omega (arith, later)
shorter_test k life rest false later = omega (arith, later)

pub no_more_lives : (k : ℕ) (lives : List Life) → length (without_life k lives) ≤ length lives
no_more_lives k [] = omega arith
no_more_lives k (life ∷ rest) = shorter_test k life rest (life.id.0 == k) (no_more_lives k rest)

fewer_test : (k : ℕ) (life : Life) (rest : List Life) (test : Bool) → IsSome (cond test (Some life) (life_in k rest)) → (IsSome (life_in k rest) → length (without_life k rest) + 1 ≤ length rest)
    → length (cond (not test) (life ∷ without_life k rest) (without_life k rest)) + 1 ≤ length (life ∷ rest)
fewer_test k life rest true some later = let less = no_more_lives k rest in omega (arith, less)
fewer_test k life rest false some later = let less = later some in omega (arith, less)

-- and fewer, where the id has one
pub fewer_lives : (k : ℕ) (lives : List Life) → IsSome (life_in k lives) → length (without_life k lives) + 1 ≤ length lives
fewer_lives k [] some = absurd (false≢true some)
fewer_lives k (life ∷ rest) some = fewer_test k life rest (life.id.0 == k) some (fewer_lives k rest)

-- What is live.

pub covers_others : (k : ℕ) (lives : List Life) → SameBut k (covers_of lives) (covers_of (without_life k lives))
covers_others k lives id apart = ap (option_map (λ (life : Life). life.cover)) (other_life k id lives apart)

pub covers_less : (k : ℕ) (items : List Item) (lives : List Life) → NoMoreLive k items (covers_of lives) (covers_of (without_life k lives))
covers_less k items lives item there =
    inr (ap (λ (cover : Option (List Slice)). get cover item.slices) (ap (covers_of (without_life k lives)) (id_in k item items there) ∙ ap (option_map (λ (life : Life). life.cover)) (no_life k lives)))

-- The lives behind an entry.

-- no life is one of an item that doesn't run
ended_item : (e : Entry) (found : Option Item) → ((item : Item) → is_running (changed e item).phase ≡ false) → LifeOf (option_map (changed e) found) None
ended_item e None over = tt
ended_item e (Some item) over = over item

-- an entry that ends the attempt of its item
pub lives_ended : (e : Entry) (k : ℕ) (items : List Item) (lives : List Life) → ((item : Item) → (changed e item).id.0 ≡ item.id.0) → ((item : Item) → is_running (changed e item).phase ≡ false)
    → AreLives items lives → AreLives (changed_at e k items) (without_life k lives)
lives_ended e k items lives same over are id = by (id == k) refl
  where
    by : (test : Bool) → (id == k) ≡ test → LifeOf (item_in id (changed_at e k items)) (life_in id (without_life k lives))
    by true at =
        let here : k ≡ id = sym (eq_is id k at) in
        subst (λ (n : ℕ). LifeOf (item_in n (changed_at e k items)) (life_in n (without_life k lives))) here
        (subst (λ (found : Option Item). LifeOf found (life_in k (without_life k lives))) (sym (changed_here e k same items))
        (subst (LifeOf (option_map (changed e) (item_in k items))) (sym (no_life k lives)) (ended_item e (item_in k items) over)))
    by false at =
        let apart : id ≢ k = eq_not id k at in
        subst (λ (found : Option Item). LifeOf found (life_in id (without_life k lives))) (sym (changed_beside e k same id apart items))
        (subst (LifeOf (item_in id items)) (sym (other_life k id lives apart)) (are id))

-- one that takes its item away
pub lives_gone : (k low next : ℕ) (items : List Item) (lives : List Life) → IsNumbered low items next → AreLives items lives → AreLives (without k items) (without_life k lives)
lives_gone k low next items lives numbered are id = by (id == k) refl
  where
    by : (test : Bool) → (id == k) ≡ test → LifeOf (item_in id (without k items)) (life_in id (without_life k lives))
    by true at =
        let here : k ≡ id = sym (eq_is id k at) in
        subst (λ (n : ℕ). LifeOf (item_in n (without k items)) (life_in n (without_life k lives))) here
        (subst (λ (found : Option Item). LifeOf found (life_in k (without_life k lives))) (sym (without_here k low next items numbered))
        (subst (LifeOf None) (sym (no_life k lives)) tt))
    by false at =
        let apart : id ≢ k = eq_not id k at in
        subst (λ (found : Option Item). LifeOf found (life_in id (without_life k lives))) (sym (without_beside id k apart items))
        (subst (LifeOf (item_in id items)) (sym (other_life k id lives apart)) (are id))

-- an item that doesn't run has no life
pub idle_life : (item : Item) (life : Option Life) → is_running item.phase ≡ false → LifeOf (Some item) life → life ≡ None
idle_life item None over is = refl
idle_life item (Some life) over is = absurd (false≢true (sym over ∙ is.runs))

idle_changed : (e : Entry) (found : Option Item) (life : Option Life) → ((item : Item) → found ≡ Some item → is_running item.phase ≡ false) → ((item : Item) → found ≡ Some item → is_running (changed e item).phase ≡ false) → LifeOf found life
    → LifeOf (option_map (changed e) found) life
idle_changed e None life idle over is = is
idle_changed e (Some item) life idle over is = subst (LifeOf (Some (changed e item))) (sym (idle_life item life (idle item refl) is)) (over item refl)

-- one of an item that doesn't run, and doesn't run behind it
pub lives_idle : (e : Entry) (k : ℕ) (items : List Item) (lives : List Life) → ((item : Item) → (changed e item).id.0 ≡ item.id.0) → ((item : Item) → item_in k items ≡ Some item → is_running item.phase ≡ false)
    → ((item : Item) → item_in k items ≡ Some item → is_running (changed e item).phase ≡ false) → AreLives items lives → AreLives (changed_at e k items) lives
lives_idle e k items lives same idle over are id = by (id == k) refl
  where
    by : (test : Bool) → (id == k) ≡ test → LifeOf (item_in id (changed_at e k items)) (life_in id lives)
    by true at =
        let here : k ≡ id = sym (eq_is id k at) in
        subst (λ (n : ℕ). LifeOf (item_in n (changed_at e k items)) (life_in n lives)) here
        (subst (λ (found : Option Item). LifeOf found (life_in k lives)) (sym (changed_here e k same items)) (idle_changed e (item_in k items) (life_in k lives) idle over (are k)))
    by false at = subst (λ (found : Option Item). LifeOf found (life_in id lives)) (sym (changed_beside e k same id (eq_not id k at) items)) (are id)

-- an item whose id has a life runs
pub lives_run : (k : ℕ) (items : List Item) (lives : List Life) → AreLives items lives → IsSome (life_in k lives) → (item : Item) → item_in k items ≡ Some item → IsTrue (is_running item.phase)
lives_run k items lives are some item there = by (life_in k lives) some (subst (λ (found : Option Item). LifeOf found (life_in k lives)) there (are k))
  where
    by : (life : Option Life) → IsSome life → LifeOf (Some item) life → IsTrue (is_running item.phase)
    by None none is = absurd (false≢true none)
    by (Some life) here is = is.runs

-- and there is one
pub lives_there : (k : ℕ) (items : List Item) (lives : List Life) → AreLives items lives → IsSome (life_in k lives) → IsSome (item_in k items)
lives_there k items lives are some = by (item_in k items) (life_in k lives) some (are k)
  where
    by : (found : Option Item) (life : Option Life) → IsSome life → LifeOf found life → IsSome found
    by found None none is = absurd (false≢true none)
    by None (Some life) here is = absurd is
    by (Some item) (Some life) here is = refl

-- No attempt has more unsaved bytes.

if_none : (found : Option Life) (P : Life → Type 0) → found ≡ None → IfSome found P
if_none None P none = tt
if_none (Some life) P none = absurd cc

bounded_without : (bound k : ℕ) (lives : List Life) → AreBounded bound lives → AreBounded bound (without_life k lives)
bounded_without bound k lives bounded id = by (id == k) refl
  where
    by : (test : Bool) → (id == k) ≡ test → IfSome (life_in id (without_life k lives)) (λ (life : Life). life.unsaved < bound)
    by true at = if_none (life_in id (without_life k lives)) (λ (life : Life). life.unsaved < bound) (subst (λ (n : ℕ). life_in n (without_life k lives) ≡ None) (sym (eq_is id k at)) (no_life k lives))
    by false at = subst (λ (found : Option Life). IfSome found (λ (life : Life). life.unsaved < bound)) (sym (other_life k id lives (eq_not id k at))) (bounded id)

bounded_one : (bound id : ℕ) (life : Life) → life.unsaved < bound → (test : Bool) → IfSome (cond test (Some life) None) (λ (l : Life). l.unsaved < bound)
bounded_one bound id life fewer true = fewer
bounded_one bound id life fewer false = tt

bounded_test : (bound : ℕ) (life : Life) (found : Option Life) (test : Bool) → life.unsaved < bound → IfSome found (λ (l : Life). l.unsaved < bound) → IfSome (cond test (Some life) found) (λ (l : Life). l.unsaved < bound)
bounded_test bound life found true fewer later = fewer
bounded_test bound life found false fewer later = later

-- one more life
bounded_push : (bound : ℕ) (life : Life) (lives : List Life) (id : ℕ) → life.unsaved < bound → IfSome (life_in id lives) (λ (l : Life). l.unsaved < bound) → IfSome (life_in id (lives ++ life ∷ [])) (λ (l : Life). l.unsaved < bound)
bounded_push bound life [] id fewer bounded = bounded_one bound id life fewer (life.id.0 == id)
bounded_push bound life (other ∷ rest) id fewer bounded = pushed_test bound id other rest life (other.id.0 == id) bounded (bounded_push bound life rest id fewer)
  where
    pushed_test : (bound id : ℕ) (other : Life) (rest : List Life) (life : Life) (test : Bool) → IfSome (cond test (Some other) (life_in id rest)) (λ (l : Life). l.unsaved < bound)
        → (IfSome (life_in id rest) (λ (l : Life). l.unsaved < bound) → IfSome (life_in id (rest ++ life ∷ [])) (λ (l : Life). l.unsaved < bound))
        → IfSome (cond test (Some other) (life_in id (rest ++ life ∷ []))) (λ (l : Life). l.unsaved < bound)
    pushed_test bound id other rest life true bounded later = bounded
    pushed_test bound id other rest life false bounded later = later bounded

bounded_begun : (bound : ℕ) (found : Option Item) → 0 < bound → IfSome (option_map begun_life found) (λ (l : Life). l.unsaved < bound)
bounded_begun bound None positive = tt
bounded_begun bound (Some item) positive = positive

bounded_with : (bound : ℕ) (life : Option Life) (lives : List Life) → IfSome life (λ (l : Life). l.unsaved < bound) → AreBounded bound lives → AreBounded bound (with_life life lives)
bounded_with bound None lives fewer bounded = bounded
bounded_with bound (Some life) lives fewer bounded = λ id. bounded_push bound life lives id fewer (bounded id)

-- Which life an id has, where that of one is changed, or one more begins.

-- the others stay
same_test : (k id : ℕ) (f : Life → Life) (life : Life) (rest : List Life) (at_k at_id : Bool) → (life.id.0 == k) ≡ at_k → (life.id.0 == id) ≡ at_id → ((l : Life) → (f l).id.0 ≡ l.id.0) → id ≢ k
    → life_in id (changed_life k f rest) ≡ life_in id rest → life_in id (cond at_k (f life ∷ rest) (life ∷ changed_life k f rest)) ≡ cond at_id (Some life) (life_in id rest)
same_test k id f life rest true true is_k is_id same apart later = absurd (apart (sym (eq_is life.id.0 id is_id) ∙ eq_is life.id.0 k is_k))
same_test k id f life rest true false is_k is_id same apart later = ap (λ (b : Bool). cond b (Some (f life)) (life_in id rest)) (ap (λ (n : ℕ). n == id) (same life) ∙ is_id)
same_test k id f life rest false true is_k is_id same apart later = ap (λ (b : Bool). cond b (Some life) (life_in id (changed_life k f rest))) is_id
same_test k id f life rest false false is_k is_id same apart later = ap (λ (b : Bool). cond b (Some life) (life_in id (changed_life k f rest))) is_id ∙ later

pub changed_other : (k id : ℕ) (f : Life → Life) (lives : List Life) → ((l : Life) → (f l).id.0 ≡ l.id.0) → id ≢ k → life_in id (changed_life k f lives) ≡ life_in id lives
changed_other k id f [] same apart = refl
changed_other k id f (life ∷ rest) same apart = same_test k id f life rest (life.id.0 == k) (life.id.0 == id) refl refl same apart (changed_other k id f rest same apart)

-- and the one is changed
own_test : (k : ℕ) (f : Life → Life) (life : Life) (rest : List Life) (test : Bool) → (life.id.0 == k) ≡ test → ((l : Life) → (f l).id.0 ≡ l.id.0) → life_in k (changed_life k f rest) ≡ option_map f (life_in k rest)
    → life_in k (cond test (f life ∷ rest) (life ∷ changed_life k f rest)) ≡ option_map f (cond test (Some life) (life_in k rest))
own_test k f life rest true is same later = ap (λ (b : Bool). cond b (Some (f life)) (life_in k rest)) (ap (λ (n : ℕ). n == k) (same life) ∙ is)
own_test k f life rest false is same later = ap (λ (b : Bool). cond b (Some life) (life_in k (changed_life k f rest))) is ∙ later

pub changed_own : (k : ℕ) (f : Life → Life) (lives : List Life) → ((l : Life) → (f l).id.0 ≡ l.id.0) → life_in k (changed_life k f lives) ≡ option_map f (life_in k lives)
changed_own k f [] same = refl
changed_own k f (life ∷ rest) same = own_test k f life rest (life.id.0 == k) refl same (changed_own k f rest same)

bounded_zero : (bound : ℕ) (found : Option Life) → 0 < bound → IfSome (option_map saved_life found) (λ (l : Life). l.unsaved < bound)
bounded_zero bound None positive = tt
bounded_zero bound (Some life) positive = positive

bounded_saved : (bound k : ℕ) (lives : List Life) → 0 < bound → AreBounded bound lives → AreBounded bound (changed_life k saved_life lives)
bounded_saved bound k lives positive bounded id = by (id == k) refl
  where
    by : (test : Bool) → (id == k) ≡ test → IfSome (life_in id (changed_life k saved_life lives)) (λ (l : Life). l.unsaved < bound)
    by true at =
        subst (λ (n : ℕ). IfSome (life_in n (changed_life k saved_life lives)) (λ (l : Life). l.unsaved < bound)) (sym (eq_is id k at))
        (subst (λ (found : Option Life). IfSome found (λ (l : Life). l.unsaved < bound)) (sym (changed_own k saved_life lives (λ l. refl))) (bounded_zero bound (life_in k lives) positive))
    by false at = subst (λ (found : Option Life). IfSome found (λ (l : Life). l.unsaved < bound)) (sym (changed_other k id saved_life lives (λ l. refl) (eq_not id k at))) (bounded id)

pub bounded_after : (entry : Entry) (items : Listing) (bound : ℕ) (lives : List Life) → 0 < bound → IsTrue (is_plain entry) → AreBounded bound lives → AreBounded bound (lives_after entry items lives)
bounded_after (entries.Broke id reason) items bound lives positive plain bounded = bounded_without bound id.0 lives bounded
bounded_after (entries.Paused id) items bound lives positive plain bounded = bounded_without bound id.0 lives bounded
bounded_after (entries.Cancelled id) items bound lives positive plain bounded = bounded_without bound id.0 lives bounded
bounded_after (entries.Finishing id total) items bound lives positive plain bounded = bounded_without bound id.0 lives bounded
bounded_after (entries.Removed id) items bound lives positive plain bounded = bounded_without bound id.0 lives bounded
bounded_after (entries.Archived id) items bound lives positive plain bounded = bounded_without bound id.0 lives bounded
bounded_after (entries.Described id key last_address total name modified) items bound lives positive plain bounded = bounded
bounded_after (entries.Restarted id epoch because) items bound lives positive plain bounded = bounded
bounded_after (entries.Done id digest at) items bound lives positive plain bounded = bounded
bounded_after (entries.Asked id) items bound lives positive plain bounded = bounded
bounded_after (entries.Added id word address wish digest at) items bound lives positive plain bounded = absurd (false≢true plain)
bounded_after (entries.Began id attempt by at) items bound lives positive plain bounded = bounded_with bound (option_map begun_life (item_in id.0 items.items)) lives (bounded_begun bound (item_in id.0 items.items) positive) bounded
bounded_after (entries.Progress id slices) items bound lives positive plain bounded = bounded_saved bound id.0 lives positive bounded
bounded_after (entries.Reopened next at) items bound lives positive plain bounded = absurd (false≢true plain)
bounded_after (entries.Restored item) items bound lives positive plain bounded = absurd (false≢true plain)

-- a plain entry adds no item
pub plain_stays : (entry : Entry) → IsTrue (is_plain entry) → adds_item entry ≡ false
plain_stays (entries.Added id word address wish digest at) plain = absurd (false≢true plain)
plain_stays (entries.Restored item) plain = absurd (false≢true plain)
plain_stays (entries.Broke id reason) plain = refl
plain_stays (entries.Paused id) plain = refl
plain_stays (entries.Cancelled id) plain = refl
plain_stays (entries.Finishing id total) plain = refl
plain_stays (entries.Removed id) plain = refl
plain_stays (entries.Archived id) plain = refl
plain_stays (entries.Described id key last_address total name modified) plain = refl
plain_stays (entries.Restarted id epoch because) plain = refl
plain_stays (entries.Done id digest at) plain = refl
plain_stays (entries.Asked id) plain = refl
plain_stays (entries.Began id attempt by at) plain = refl
plain_stays (entries.Progress id slices) plain = refl
plain_stays (entries.Reopened next at) plain = refl

-- where no place is found there is no life
abbrev has : ℕ → Life → Bool
has id life = life.id.0 == id

none_has : (id : ℕ) (lives : List Life) → ((k : ℕ) (d : Life) → k < length lives → has id (get_or lives k d) ≡ false) → life_in id lives ≡ None
none_has id [] none = refl
none_has id (life ∷ rest) none =
    ap (λ (b : Bool). cond b (Some life) (life_in id rest)) (none 0 life (omega arith)) ∙ none_has id rest (λ k d h. none (suc k) d (omega arith))

pub no_place : (id : ℕ) (lives : List Life) → place_of id lives ≡ None → life_in id lives ≡ None
no_place id lives is =
    let past : length lives ≤ position_or_len (has id) lives = grind (arith, nat_tests) in
    none_has id lives (λ k d h. fails_before_first (has id) lives k d (omega arith))

-- the first life of an id, changed where it stands
changed_first : (id : ℕ) (f : Life → Life) (lives : List Life) (place : ℕ) (d : Life) → place < length lives → has id (get_or lives place d) ≡ true → ((k : ℕ) → k < place → has id (get_or lives k d) ≡ false)
    → set lives place (f (get_or lives place d)) ≡ changed_life id f lives
changed_first id f [] place d within here before = absurd (omega arith)
changed_first id f (life ∷ rest) zero d within here before = sym (ap (λ (b : Bool). cond b (f life ∷ rest) (life ∷ changed_life id f rest)) here)
changed_first id f (life ∷ rest) (suc place) d within here before =
    ap (λ (x : List Life). life ∷ x) (changed_first id f rest place d (omega arith) here (λ k h. before (suc k) (omega arith)))
    ∙ sym (ap (λ (b : Bool). cond b (f life ∷ rest) (life ∷ changed_life id f rest)) (before 0 (omega arith)))

pub changed_place : (id : ℕ) (f : Life → Life) (lives : List Life) (place : ℕ) (d : Life) → place_of id lives ≡ Some place → set lives place (f (get_or lives place d)) ≡ changed_life id f lives
changed_place id f lives place d is = let first = position-Some (has id) lives place d is in changed_first id f lives place d first.0 first.1 first.2

pub place_within : (id : ℕ) (lives : List Life) (place : ℕ) (d : Life) → place_of id lives ≡ Some place → place < length lives
place_within id lives place d is = (position-Some (has id) lives place d is).0

-- and where none has it nothing is
unchanged_test : (id : ℕ) (f : Life → Life) (life : Life) (rest : List Life) (test : Bool) → cond test (Some life) (life_in id rest) ≡ None → (life_in id rest ≡ None → changed_life id f rest ≡ rest)
    → cond test (f life ∷ rest) (life ∷ changed_life id f rest) ≡ life ∷ rest
unchanged_test id f life rest true none later = absurd cc
unchanged_test id f life rest false none later = ap (λ (x : List Life). life ∷ x) (later none)

pub unchanged : (id : ℕ) (f : Life → Life) (lives : List Life) → life_in id lives ≡ None → changed_life id f lives ≡ lives
unchanged id f [] none = refl
unchanged id f (life ∷ rest) none = unchanged_test id f life rest (life.id.0 == id) none (unchanged id f rest)

-- some life, where any serves
pub any_life : Life
any_life = record { id = record { 0 = 0 }; part = part_place 0 0; cover = []; unsaved = 0; round = 0; plan = [] }
