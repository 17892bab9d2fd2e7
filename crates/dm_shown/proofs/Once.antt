-- What is shown exactly once stays so.
use Rattle.std.proofs.Common.{◌≡◌, ◌≢◌, ◌⊎◌, inl, inr, ℕ, suc, ◌+◌, ◌<◌, ◌==◌, Bool, true, false, cond, ◌||◌, not, List, [], ◌∷◌, ◌++◌, get_or, Option, Some, None, refl, sym, ◌∙◌, ap, subst, arith}
use Rattle.std.specs.Prelude.{is_some, nat_lt}
use Rattle.std.specs.List.{All, AllPairs, count_by, filter}
use Rattle.std.specs.Option.{option_or}
use Rattle.std.proofs.lemmas.Bool.Decides.{nat_tests}
use Rattle.std.proofs.lemmas.List.Folds.{find-append}
use Rattle.std.proofs.lemmas.List.Kept.{AllPairs-filter}
use Rattle.std.proofs.lemmas.List.Sums.{sum_by-cons}
use Rattle.dm_types.specs.declared.item.Item.{Item}
use Rattle.dm_item.specs.Kept.{IsNumbered}
use Rattle.dm_item.specs.Listing.{item_in}
use Rattle.dm_hist.specs.declared.row.Row.{Row}
use Rattle.dm_hist.specs.Rows.{is_of, row_of, rows_above, rows_below, with_row}
use Rattle.dm_hist.specs.Shown.{is_listed, row_of_item, shown}
use Rattle.dm_shown.specs.Shows.{ItemShownOnce, RowShownOnce, ShowTheSame, has_id, times_shown}

eq_is : (n m : ℕ) → (n == m) ≡ true → n ≡ m
eq_is n m test = grind (arith, nat_tests)

eq_not : (n m : ℕ) → (n == m) ≡ false → n ≢ m
eq_not n m test = grind (arith, nat_tests)

eq_self : (n : ℕ) → (n == n) ≡ true
eq_self n = grind (arith, nat_tests)

eq_other : (n m : ℕ) → n ≢ m → (n == m) ≡ false
eq_other n m apart = grind (arith, nat_tests)

not_both : (n m : ℕ) → nat_lt n m ≡ true → nat_lt m n ≡ true → ⊥
not_both n m one two = grind (arith, nat_tests)

one_side : (n m : ℕ) → n ≢ m → nat_lt n m ≡ false → nat_lt m n ≡ false → ⊥
one_side n m apart one two = grind (arith, nat_tests)

not_less : (n : ℕ) → nat_lt n n ≡ false
not_less n = grind (arith, nat_tests)

some_is : {A : Type 0} (a b : A) → Some a ≡ Some b → a ≡ b
some_is a b same = cc

some_none : {A : Type 0} (a : A) → Some a ≡ None → ⊥
some_none a same = cc

count_cons : {A : Type 0} (p : A → Bool) (x : A) (xs : List A) → count_by p (x ∷ xs) ≡ cond (p x) 1 0 + count_by p xs
count_cons p x xs = sum_by-cons (λ y. cond (p y) 1 0) x xs

-- Items.

-- an id is listed where an item has it
listed_step : (id : ℕ) (item : Item) (rest : List Item) (test : Bool) → has_id id item ≡ test → is_listed id rest ≡ is_some (item_in id rest) → (has_id id item || is_listed id rest) ≡ is_some (cond test (Some item) (item_in id rest))
listed_step id item rest true is later = ap (λ (b : Bool). b || is_listed id rest) is
listed_step id item rest false is later = ap (λ (b : Bool). b || is_listed id rest) is ∙ later

pub listed_is : (id : ℕ) (items : List Item) → is_listed id items ≡ is_some (item_in id items)
listed_is id [] = refl
listed_is id (item ∷ rest) = listed_step id item rest (has_id id item) refl (listed_is id rest)

pub listed_some : (id : ℕ) (items : List Item) (item : Item) → item_in id items ≡ Some item → is_listed id items ≡ true
listed_some id items item there = listed_is id items ∙ ap is_some there

pub listed_none : (id : ℕ) (items : List Item) → item_in id items ≡ None → is_listed id items ≡ false
listed_none id items none = listed_is id items ∙ ap is_some none

id_step : (id : ℕ) (x y : Item) (rest : List Item) (test : Bool) → has_id id y ≡ test → cond test (Some y) (item_in id rest) ≡ Some x → (item_in id rest ≡ Some x → x.id.0 ≡ id) → x.id.0 ≡ id
id_step id x y rest true is found later = ap (λ (i : Item). i.id.0) (sym (some_is y x found)) ∙ eq_is y.id.0 id is
id_step id x y rest false is found later = later found

-- the item with an id has it
pub item_id : (id : ℕ) (x : Item) (items : List Item) → item_in id items ≡ Some x → x.id.0 ≡ id
item_id id x [] found = absurd cc
item_id id x (y ∷ rest) found = id_step id x y rest (has_id id y) refl found (item_id id x rest)

-- how many items have an id, where each id is above the one before
none_step : (id low next : ℕ) (item : Item) (rest : List Item) → id < item.id.0 → (count_by (has_id id) rest ≡ 0) → (count_by (has_id id) (item ∷ rest) ≡ 0)
none_step id low next item rest less later = count_cons (has_id id) item rest ∙ ap (λ (b : Bool). cond b 1 0 + count_by (has_id id) rest) (eq_other item.id.0 id (λ (same : item.id.0 ≡ id). omega (arith, same, less))) ∙ omega (arith, later)

none_counted : (id low next : ℕ) (items : List Item) → id < low → IsNumbered low items next → count_by (has_id id) items ≡ 0
none_counted id low next [] less numbered = refl
none_counted id low next (item ∷ rest) less numbered =
    let first = numbered.0 in
    none_step id low next item rest (omega (arith, first, less)) (none_counted id (item.id.0 + 1) next rest (omega (arith, first, less)) numbered.1)

counted_step : (id next : ℕ) (item : Item) (rest : List Item) (test : Bool) → has_id id item ≡ test → IsNumbered (item.id.0 + 1) rest next → count_by (has_id id) rest ≡ cond (is_some (item_in id rest)) 1 0
    → cond test 1 0 + count_by (has_id id) rest ≡ cond (is_some (cond test (Some item) (item_in id rest))) 1 0
counted_step id next item rest true is numbered later =
    let same : item.id.0 ≡ id = eq_is item.id.0 id is in
    let none : count_by (has_id id) rest ≡ 0 = none_counted id (item.id.0 + 1) next rest (omega (arith, same)) numbered in
    omega (arith, none)
counted_step id next item rest false is numbered later = omega (arith, later)

pub items_counted : (id low next : ℕ) (items : List Item) → IsNumbered low items next → count_by (has_id id) items ≡ cond (is_some (item_in id items)) 1 0
items_counted id low next [] numbered = refl
items_counted id low next (item ∷ rest) numbered =
    count_cons (has_id id) item rest ∙ counted_step id next item rest (has_id id item) refl numbered.1 (items_counted id (item.id.0 + 1) next rest numbered.1)

-- Rows.

abbrev Rises : List Row → Type 0
Rises rows = AllPairs (λ (one later : Row). one.id.0 < later.id.0) rows

row_id_step : (id : ℕ) (x y : Row) (rest : List Row) (test : Bool) → is_of id y ≡ test → cond test (Some y) (row_of id rest) ≡ Some x → (row_of id rest ≡ Some x → x.id.0 ≡ id) → x.id.0 ≡ id
row_id_step id x y rest true is found later = ap (λ (i : Row). i.id.0) (sym (some_is y x found)) ∙ eq_is y.id.0 id is
row_id_step id x y rest false is found later = later found

pub row_id : (id : ℕ) (x : Row) (rows : List Row) → row_of id rows ≡ Some x → x.id.0 ≡ id
row_id id x [] found = absurd cc
row_id id x (y ∷ rest) found = row_id_step id x y rest (is_of id y) refl found (row_id id x rest)

-- the row of an id among those whose ids pass a test
module _ (q : ℕ → Bool) where
  passing : List Row → List Row
  passing rows = filter (λ (row : Row). q row.id.0) rows

  found_step : (id : ℕ) (row : Row) (rest : List Row) (passes of : Bool) → q row.id.0 ≡ passes → is_of id row ≡ of → row_of id (filter (λ (r : Row). q r.id.0) rest) ≡ cond (q id) (row_of id rest) None
      → row_of id (cond passes (row ∷ filter (λ (r : Row). q r.id.0) rest) (filter (λ (r : Row). q r.id.0) rest)) ≡ cond (q id) (cond of (Some row) (row_of id rest)) None
  found_step id row rest true true passes is later =
      let here : q id ≡ true = ap q (sym (eq_is row.id.0 id is)) ∙ passes in
      ap (λ (b : Bool). cond b (Some row) (row_of id (filter (λ (r : Row). q r.id.0) rest))) is ∙ sym (ap (λ (b : Bool). cond b (Some row) None) here)
  found_step id row rest true false passes is later = ap (λ (b : Bool). cond b (Some row) (row_of id (filter (λ (r : Row). q r.id.0) rest))) is ∙ later
  found_step id row rest false true passes is later =
      let here : q id ≡ false = ap q (sym (eq_is row.id.0 id is)) ∙ passes in
      later ∙ ap (λ (b : Bool). cond b (row_of id rest) None) here ∙ sym (ap (λ (b : Bool). cond b (Some row) None) here)
  found_step id row rest false false passes is later = later

  pub found_passing : (id : ℕ) (rows : List Row) → row_of id (filter (λ (row : Row). q row.id.0) rows) ≡ cond (q id) (row_of id rows) None
  found_passing id [] = empty (q id) None
    where
      empty : (b : Bool) (no_row : Option Row) → no_row ≡ cond b no_row no_row
      empty true no_row = refl
      empty false no_row = refl
  found_passing id (row ∷ rest) = found_step id row rest (q row.id.0) (is_of id row) refl refl (found_passing id rest)

-- the row of an id that is shown
pub shown_is : (id : ℕ) (items : List Item) (rows : List Row) → row_of id (shown items rows) ≡ cond (not (is_listed id items)) (row_of id rows) None
shown_is id items rows = found_passing (λ n. not (is_listed n items)) id rows

pub hidden_row : (id : ℕ) (items : List Item) (rows : List Row) → is_listed id items ≡ true → row_of id (shown items rows) ≡ None
hidden_row id items rows listed = shown_is id items rows ∙ ap (λ (b : Bool). cond (not b) (row_of id rows) None) listed

pub seen_row : (id : ℕ) (items : List Item) (rows : List Row) → is_listed id items ≡ false → row_of id (shown items rows) ≡ row_of id rows
seen_row id items rows listed = shown_is id items rows ∙ ap (λ (b : Bool). cond (not b) (row_of id rows) None) listed

later_rise : (row : Row) (rest : List Row) → Rises (row ∷ rest) → Rises rest
later_rise row rest rise i j d before less = rise (suc i) (suc j) d (omega (arith, before)) (omega (arith, less))

no_rows : (id : ℕ) (rows : List Row) → All (λ (row : Row). id < row.id.0) rows → count_by (is_of id) rows ≡ 0
no_rows id [] above = refl
no_rows id (row ∷ rest) above =
    let first : id < row.id.0 = above 0 row (omega arith) in
    let later = no_rows id rest (λ k d less. above (suc k) d (omega (arith, less))) in
    count_cons (is_of id) row rest ∙ ap (λ (b : Bool). cond b 1 0 + count_by (is_of id) rest) (eq_other row.id.0 id (λ (same : row.id.0 ≡ id). omega (arith, same, first))) ∙ omega (arith, later)

row_step : (id : ℕ) (row : Row) (rest : List Row) (test : Bool) → is_of id row ≡ test → Rises (row ∷ rest) → count_by (is_of id) rest ≡ cond (is_some (row_of id rest)) 1 0
    → cond test 1 0 + count_by (is_of id) rest ≡ cond (is_some (cond test (Some row) (row_of id rest))) 1 0
row_step id row rest true is rise later =
    let same : row.id.0 ≡ id = eq_is row.id.0 id is in
    let none : count_by (is_of id) rest ≡ 0 = no_rows id rest (λ k d less. let above : row.id.0 < (get_or rest k d).id.0 = rise 0 (suc k) d (omega arith) (omega (arith, less)) in omega (arith, above, same)) in
    omega (arith, none)
row_step id row rest false is rise later = omega (arith, later)

pub rows_counted : (id : ℕ) (rows : List Row) → Rises rows → count_by (is_of id) rows ≡ cond (is_some (row_of id rows)) 1 0
rows_counted id [] rise = refl
rows_counted id (row ∷ rest) rise = count_cons (is_of id) row rest ∙ row_step id row rest (is_of id row) refl rise (rows_counted id rest (later_rise row rest rise))

-- What one id shows.

-- what an id showed, and what it shows now: the item as it was, or its row; or else the row that it had
abbrev pub StaysOf : Option Item → Option Item → Option Row → Option Row → Type 0
StaysOf (Some item) now row row' = (now ≡ Some item) ⊎ ((now ≡ None) × (row' ≡ Some (row_of_item item)))
StaysOf None now row row' = (now ≡ None) × (row' ≡ row)

abbrev pub Stay : List Item → List Row → List Item → List Row → Type 0
Stay items rows items' rows' = (id : ℕ) → StaysOf (item_in id items) (item_in id items') (row_of id rows) (row_of id rows')

module _ (low next : ℕ) (items : List Item) (numbered : IsNumbered low items next) (rows : List Row) (rise : Rises rows) where
  shown_counted : (id : ℕ) → count_by (is_of id) (shown items rows) ≡ cond (is_some (row_of id (shown items rows))) 1 0
  shown_counted id = rows_counted id (shown items rows) (AllPairs-filter (λ (one later : Row). one.id.0 < later.id.0) (λ (row : Row). not (is_listed row.id.0 items)) rows rise)

  -- an item that is listed shows once
  pub once_listed : (id : ℕ) (item : Item) → item_in id items ≡ Some item → times_shown id items rows ≡ 1
  once_listed id item there =
      let one : count_by (has_id id) items ≡ 1 = items_counted id low next items numbered ∙ ap (λ (found : Option Item). cond (is_some found) 1 0) there in
      let none : count_by (is_of id) (shown items rows) ≡ 0 = shown_counted id ∙ ap (λ (found : Option Row). cond (is_some found) 1 0) (hidden_row id items rows (listed_some id items item there)) in
      omega (arith, one, none)

  -- else its row shows once, where it has one
  pub times_unlisted : (id : ℕ) → item_in id items ≡ None → times_shown id items rows ≡ cond (is_some (row_of id rows)) 1 0
  times_unlisted id none =
      let zero_items : count_by (has_id id) items ≡ 0 = items_counted id low next items numbered ∙ ap (λ (found : Option Item). cond (is_some found) 1 0) none in
      let same : count_by (is_of id) (shown items rows) ≡ cond (is_some (row_of id rows)) 1 0 = shown_counted id ∙ ap (λ (found : Option Row). cond (is_some found) 1 0) (seen_row id items rows (listed_none id items none)) in
      omega (arith, zero_items, same)

module _ (low next : ℕ) (items : List Item) (numbered : IsNumbered low items next) (rows : List Row) (rise : Rises rows)
    (low' next' : ℕ) (items' : List Item) (numbered' : IsNumbered low' items' next') (rows' : List Row) (rise' : Rises rows')
    (stay : Stay items rows items' rows') where
  item_once : (id : ℕ) (item : Item) → item.id.0 ≡ id → StaysOf (Some item) (item_in id items') (row_of id rows) (row_of id rows') → ItemShownOnce items' rows' item
  item_once id item is (inl there) =
      let here : item_in item.id.0 items' ≡ Some item = subst (λ (n : ℕ). item_in n items' ≡ Some item) (sym is) there in
      record { once = once_listed low' next' items' numbered' rows' rise' item.id.0 item here; is = inl here }
  item_once id item is (inr gone) =
      let none : item_in item.id.0 items' ≡ None = subst (λ (n : ℕ). item_in n items' ≡ None) (sym is) gone.0 in
      let has : row_of item.id.0 rows' ≡ Some (row_of_item item) = subst (λ (n : ℕ). row_of n rows' ≡ Some (row_of_item item)) (sym is) gone.1 in
      record {
        once = times_unlisted low' next' items' numbered' rows' rise' item.id.0 none ∙ ap (λ (found : Option Row). cond (is_some found) 1 0) has;
        is = inr (seen_row item.id.0 items' rows' (listed_none item.id.0 items' none) ∙ has);
      }

  row_once : (id : ℕ) (row : Row) (found : Option Item) → item_in id items ≡ found → row_of id (shown items rows) ≡ Some row → StaysOf found (item_in id items') (row_of id rows) (row_of id rows') → RowShownOnce items' rows' row
  row_once id row (Some item) listed there stays = absurd (some_none row (sym there ∙ hidden_row id items rows (listed_some id items item listed)))
  row_once id row None listed there stays =
      let had : row_of id rows ≡ Some row = sym (seen_row id items rows (listed_none id items listed)) ∙ there in
      let is : row.id.0 ≡ id = row_id id row rows had in
      let none : item_in row.id.0 items' ≡ None = subst (λ (n : ℕ). item_in n items' ≡ None) (sym is) stays.0 in
      let has : row_of row.id.0 rows' ≡ Some row = subst (λ (n : ℕ). row_of n rows' ≡ Some row) (sym is) (stays.1 ∙ had) in
      record {
        once = times_unlisted low' next' items' numbered' rows' rise' row.id.0 none ∙ ap (λ (found : Option Row). cond (is_some found) 1 0) has;
        is = seen_row row.id.0 items' rows' (listed_none row.id.0 items' none) ∙ has;
      }

  nothing : (found : Option Row) → (let times : ℕ = cond (is_some found) 1 0 in times ≡ 0) → found ≡ None
  nothing None zero_times = refl
  nothing (Some row) zero_times = absurd (omega (arith, zero_times))

  none_more : (id : ℕ) (found : Option Item) → item_in id items ≡ found → times_shown id items rows ≡ 0 → StaysOf found (item_in id items') (row_of id rows) (row_of id rows') → times_shown id items' rows' ≡ 0
  none_more id (Some item) listed none stays = let one = once_listed low next items numbered rows rise id item listed in absurd (omega (arith, one, none))
  none_more id None listed none stays =
      let had : row_of id rows ≡ None = nothing (row_of id rows) (sym (times_unlisted low next items numbered rows rise id listed) ∙ none) in
      times_unlisted low' next' items' numbered' rows' rise' id stays.0 ∙ ap (λ (found : Option Row). cond (is_some found) 1 0) (stays.1 ∙ had)

  -- What stays of each id is shown exactly once.
  pub show_the_same : ShowTheSame items rows items' rows'
  show_the_same = record {
    of_items = λ id item there. item_once id item (item_id id item items there) (subst (λ (found : Option Item). StaysOf found (item_in id items') (row_of id rows) (row_of id rows')) there (stay id));
    of_rows = λ id row there. row_once id row (item_in id items) refl there (stay id);
    no_more = λ id none. none_more id (item_in id items) refl none (stay id);
  }

-- Nothing moved.
stays_self : (found : Option Item) (row : Option Row) → StaysOf found found row row
stays_self (Some item) row = inl refl
stays_self None row = (refl, refl)

pub stay_same : (items : List Item) (rows : List Row) → Stay items rows items rows
stay_same items rows id = stays_self (item_in id items) (row_of id rows)

-- A row is put.

or_none : (found : Option Row) → option_or found None ≡ found
or_none None = refl
or_none (Some row) = refl

row_of_append : (id : ℕ) (xs ys : List Row) → row_of id (xs ++ ys) ≡ option_or (row_of id xs) (row_of id ys)
row_of_append id xs ys = find-append (is_of id) xs ys

module _ (row : Row) (rows : List Row) where
  below_is : (id : ℕ) → row_of id (rows_below row.id.0 rows) ≡ cond (nat_lt id row.id.0) (row_of id rows) None
  below_is id = found_passing (λ n. nat_lt n row.id.0) id rows

  above_is : (id : ℕ) → row_of id (rows_above row.id.0 rows) ≡ cond (nat_lt row.id.0 id) (row_of id rows) None
  above_is id = found_passing (λ n. nat_lt row.id.0 n) id rows

  split_is : (id : ℕ) → row_of id (with_row row rows) ≡ option_or (cond (nat_lt id row.id.0) (row_of id rows) None) (cond (is_of id row) (Some row) (cond (nat_lt row.id.0 id) (row_of id rows) None))
  split_is id =
      row_of_append id (rows_below row.id.0 rows) (row ∷ rows_above row.id.0 rows)
      ∙ ap (λ (found : Option Row). option_or found (cond (is_of id row) (Some row) (row_of id (rows_above row.id.0 rows)))) (below_is id)
      ∙ ap (λ (found : Option Row). option_or (cond (nat_lt id row.id.0) (row_of id rows) None) (cond (is_of id row) (Some row) found)) (above_is id)

  pub put_here : row_of row.id.0 (with_row row rows) ≡ Some row
  put_here =
      split_is row.id.0
      ∙ ap (λ (b : Bool). option_or (cond b (row_of row.id.0 rows) None) (cond (is_of row.id.0 row) (Some row) (cond (nat_lt row.id.0 row.id.0) (row_of row.id.0 rows) None))) (not_less row.id.0)
      ∙ ap (λ (b : Bool). cond b (Some row) (cond (nat_lt row.id.0 row.id.0) (row_of row.id.0 rows) None)) (eq_self row.id.0)

  sides : (id : ℕ) (found : Option Row) (a b : Bool) → nat_lt id row.id.0 ≡ a → nat_lt row.id.0 id ≡ b → id ≢ row.id.0 → option_or (cond a found None) (cond b found None) ≡ found
  sides id found true true one two apart = absurd (not_both id row.id.0 one two)
  sides id found true false one two apart = or_none found
  sides id found false true one two apart = refl
  sides id found false false one two apart = absurd (one_side id row.id.0 apart one two)

  pub put_beside : (id : ℕ) → id ≢ row.id.0 → row_of id (with_row row rows) ≡ row_of id rows
  put_beside id apart =
      split_is id
      ∙ ap (λ (b : Bool). option_or (cond (nat_lt id row.id.0) (row_of id rows) None) (cond b (Some row) (cond (nat_lt row.id.0 id) (row_of id rows) None))) (eq_other row.id.0 id (λ (same : row.id.0 ≡ id). apart (sym same)))
      ∙ sides id (row_of id rows) (nat_lt id row.id.0) (nat_lt row.id.0 id) refl refl apart

module _ (items : List Item) (rows : List Row) (items' : List Item) (rows' : List Row) (stay : Stay items rows items' rows') (item : Item) (there : item_in item.id.0 items' ≡ Some item) where
  listed_stays : (id : ℕ) (found now : Option Item) (row row' row'' : Option Row) → now ≡ Some item → StaysOf found now row row' → StaysOf found now row row''
  listed_stays id (Some x) now row row' row'' is (inl same) = inl same
  listed_stays id (Some x) now row row' row'' is (inr gone) = absurd (some_none item (sym is ∙ gone.0))
  listed_stays id None now row row' row'' is gone = absurd (some_none item (sym is ∙ gone.0))

  put_test : (id : ℕ) (test : Bool) → (id == item.id.0) ≡ test → StaysOf (item_in id items) (item_in id items') (row_of id rows) (row_of id (with_row (row_of_item item) rows'))
  put_test id true is =
      listed_stays id (item_in id items) (item_in id items') (row_of id rows) (row_of id rows') (row_of id (with_row (row_of_item item) rows'))
      (subst (λ (n : ℕ). item_in n items' ≡ Some item) (sym (eq_is id item.id.0 is)) there) (stay id)
  put_test id false is = subst (λ (row : Option Row). StaysOf (item_in id items) (item_in id items') (row_of id rows) row) (sym (put_beside (row_of_item item) rows' id (eq_not id item.id.0 is))) (stay id)

  -- The row of an item that is listed changes nothing that is shown.
  pub put_stays : Stay items rows items' (with_row (row_of_item item) rows')
  put_stays id = put_test id (id == item.id.0) refl

  -- The item is gone, and its row is there.
  module _ (items'' : List Item) (here : item_in item.id.0 items'' ≡ None) (beside : (id : ℕ) → id ≢ item.id.0 → item_in id items'' ≡ item_in id items') (has : row_of item.id.0 rows' ≡ Some (row_of_item item)) where
    gone_stays : (found now : Option Item) (row row' : Option Row) → now ≡ Some item → row' ≡ Some (row_of_item item) → StaysOf found now row row' → StaysOf found None row row'
    gone_stays (Some x) now row row' is put (inl same) = inr (refl, put ∙ ap (λ (i : Item). Some (row_of_item i)) (some_is item x (sym is ∙ same)))
    gone_stays (Some x) now row row' is put (inr gone) = absurd (some_none item (sym is ∙ gone.0))
    gone_stays None now row row' is put gone = absurd (some_none item (sym is ∙ gone.0))

    gone_test : (id : ℕ) (test : Bool) → (id == item.id.0) ≡ test → StaysOf (item_in id items) (item_in id items'') (row_of id rows) (row_of id rows')
    gone_test id true is =
        let same : id ≡ item.id.0 = eq_is id item.id.0 is in
        subst (λ (found : Option Item). StaysOf (item_in id items) found (row_of id rows) (row_of id rows')) (sym (subst (λ (n : ℕ). item_in n items'' ≡ None) (sym same) here))
        (gone_stays (item_in id items) (item_in id items') (row_of id rows) (row_of id rows') (subst (λ (n : ℕ). item_in n items' ≡ Some item) (sym same) there)
        (subst (λ (n : ℕ). row_of n rows' ≡ Some (row_of_item item)) (sym same) has) (stay id))
    gone_test id false is = subst (λ (found : Option Item). StaysOf (item_in id items) found (row_of id rows) (row_of id rows')) (sym (beside id (eq_not id item.id.0 is))) (stay id)

    pub archive_stays : Stay items rows items'' rows'
    archive_stays id = gone_test id (id == item.id.0) refl
