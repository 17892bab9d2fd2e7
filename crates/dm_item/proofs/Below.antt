-- Lists of items below a number, and how they change with one item.
use Rattle.std.proofs.Common.{◌≡◌, ◌≢◌, ℕ, zero, suc, ◌<◌, ◌≤◌, List, [], ◌∷◌, ◌++◌, map, cond, true, false, Bool, ◌==◌, Option, Some, None, inl, inr, refl, ap, sym, subst, ◌∙◌, arith, append_assoc}
use Rattle.std.specs.Prelude.{option_to_list, option_and_then}
use Rattle.std.proofs.lemmas.Bool.{cases_lt, cases_eq}
use Rattle.std.proofs.lemmas.List.{append-nil}
use Rattle.dm_types.specs.declared.item.Item.{Item}
use Rattle.dm_types.specs.declared.item.ItemId.{ItemId}
use Rattle.dm_types.specs.declared.entry.Entry.{Entry}
use Rattle.dm_item.proofs.Basics.{eq_false, eq_same, eq_true, some_same}
use Rattle.dm_item.specs.History.{first_some, map_some}
use Rattle.dm_item.specs.Fields.{is_gone, items_below}
use Rattle.dm_item.specs.Row.{changed, stopped_item}
use Rattle.dm_item.specs.Restored.{IsAbove}
use Rattle.dm_item.specs.Listing.{changed_at, item_in, items_after, without}

-- each item stands under its own id
pub record IsIndexed (at : ℕ → Option Item) : Type 0 where
  pub own : (k : ℕ) (item : Item) → at k ≡ Some item → item.id.0 ≡ k

-- the list with the item of an id changed or left out
abbrev pub edit : ℕ → (Item → Option Item) → List Item → List Item
edit id f [] = []
edit id f (item ∷ rest) = cond (item.id.0 == id) (option_to_list (f item) ++ rest) (item ∷ edit id f rest)

-- no item has the id
abbrev pub HasNot : ℕ → List Item → Type 0
HasNot id [] = Unit {0}
HasNot id (item ∷ rest) = ((item.id.0 == id) ≡ false) × HasNot id rest

edit-none : (id : ℕ) (f : Item → Option Item) (items : List Item) → HasNot id items → edit id f items ≡ items
edit-none id f [] none = refl
edit-none id f (item ∷ rest) none =
    ap (λ (b : Bool). cond b (option_to_list (f item) ++ rest) (item ∷ edit id f rest)) none.0 ∙ ap (λ (x : List Item). item ∷ x) (edit-none id f rest none.1)

edit-append_left : (id : ℕ) (f : Item → Option Item) (items more : List Item) → HasNot id more → edit id f (items ++ more) ≡ edit id f items ++ more
edit-append_left id f [] more none = edit-none id f more none
edit-append_left id f (item ∷ rest) more none =
    elim (item.id.0 == id) as (λ (b : Bool). cond b (option_to_list (f item) ++ (rest ++ more)) (item ∷ edit id f (rest ++ more)) ≡ cond b (option_to_list (f item) ++ rest) (item ∷ edit id f rest) ++ more) [
      | true ↦ sym (append_assoc (option_to_list (f item)) rest more)
      | false ↦ ap (λ (x : List Item). item ∷ x) (edit-append_left id f rest more none)
    ]

edit-append_right : (id : ℕ) (f : Item → Option Item) (items more : List Item) → HasNot id items → edit id f (items ++ more) ≡ items ++ edit id f more
edit-append_right id f [] more none = refl
edit-append_right id f (item ∷ rest) more none =
    ap (λ (b : Bool). cond b (option_to_list (f item) ++ (rest ++ more)) (item ∷ edit id f (rest ++ more))) none.0
    ∙ ap (λ (x : List Item). item ∷ x) (edit-append_right id f rest more none.1)

has_not-append : (id : ℕ) (items more : List Item) → HasNot id items → HasNot id more → HasNot id (items ++ more)
has_not-append id [] more none other = other
has_not-append id (item ∷ rest) more none other = (none.0, has_not-append id rest more none.1 other)

has_not-option : (id k : ℕ) (found : Option Item) → k ≢ id → ((item : Item) → found ≡ Some item → item.id.0 ≡ k) → HasNot id (option_to_list found)
has_not-option id k None other own = tt
has_not-option id k (Some item) other own = let same = own item refl in (eq_false item.id.0 id (λ (e : item.id.0 ≡ id). other (sym same ∙ e)), tt)

has_not-below : (at : ℕ → Option Item) (id n : ℕ) → IsIndexed at → n ≤ id → HasNot id (items_below at n)
has_not-below at id zero indexed low = tt
has_not-below at id (suc m) indexed low =
    has_not-append id (items_below at m) (option_to_list (at m)) (has_not-below at id m indexed (omega arith)) (has_not-option id m (at m) (λ (e : m ≡ id). omega arith) (indexed.own m))

edit-option : (id : ℕ) (f : Item → Option Item) (found : Option Item) → ((item : Item) → found ≡ Some item → item.id.0 ≡ id) → edit id f (option_to_list found) ≡ option_to_list (option_and_then f found)
edit-option id f None own = refl
edit-option id f (Some item) own =
    ap (λ (b : Bool). cond b (option_to_list (f item) ++ []) (item ∷ [])) (ap (λ (n : ℕ). item.id.0 == n) (sym (own item refl)) ∙ eq_true item.id.0) ∙ append-nil (option_to_list (f item))

-- one item changed or left out
pub below-edit : (at after : ℕ → Option Item) (id n : ℕ) (f : Item → Option Item) → IsIndexed at → ((k : ℕ) → k ≢ id → after k ≡ at k) → after id ≡ option_and_then f (at id) → items_below after n ≡ edit id f (items_below at n)
below-edit at after id zero f indexed same here = refl
below-edit at after id (suc m) f indexed same here =
    let older = below-edit at after id m f indexed same here in
    elim (cases_eq m id) [
      | inl is ↦
          let here_m : after m ≡ option_and_then f (at m) = subst (λ (k : ℕ). after k ≡ option_and_then f (at k)) (sym is) here in
          let none : HasNot id (items_below at m) = has_not-below at id m indexed (omega arith) in
          let own : (item : Item) → at m ≡ Some item → item.id.0 ≡ id = λ item found. indexed.own m item found ∙ is in
          ap (λ (x : List Item). x ++ option_to_list (after m)) (older ∙ edit-none id f (items_below at m) none)
          ∙ ap (λ (x : Option Item). items_below at m ++ option_to_list x) here_m
          ∙ ap (λ (x : List Item). items_below at m ++ x) (sym (edit-option id f (at m) own))
          ∙ sym (edit-append_right id f (items_below at m) (option_to_list (at m)) none)
      | inr other ↦
          ap (λ (x : List Item). x ++ option_to_list (after m)) older
          ∙ ap (λ (x : Option Item). edit id f (items_below at m) ++ option_to_list x) (same m other)
          ∙ sym (edit-append_left id f (items_below at m) (option_to_list (at m)) (has_not-option id m (at m) other (indexed.own m)))
    ]

-- the two ways of one list
pub edit-changed : (e : Entry) (id : ℕ) (items : List Item) → edit id (λ item. Some (changed e item)) items ≡ changed_at e id items
edit-changed e id [] = refl
edit-changed e id (item ∷ rest) = ap (λ (x : List Item). cond (item.id.0 == id) (changed e item ∷ rest) (item ∷ x)) (edit-changed e id rest)

pub edit-without : (id : ℕ) (items : List Item) → edit id (λ item. None) items ≡ without id items
edit-without id [] = refl
edit-without id (item ∷ rest) = ap (λ (x : List Item). cond (item.id.0 == id) rest (item ∷ x)) (edit-without id rest)

abbrev pub effect : Entry → Item → Option Item
effect e item = cond (is_gone e) None (Some (changed e item))

pub edit-after : (e : Entry) (id : ItemId) (items : List Item) → edit id.0 (effect e) items ≡ items_after e (Some id) items
edit-after e id items =
    elim (is_gone e) as (λ (b : Bool). edit id.0 (λ item. cond b None (Some (changed e item))) items ≡ cond b (without id.0 items) (changed_at e id.0 items)) [
      | true ↦ edit-without id.0 items
      | false ↦ edit-changed e id.0 items
    ]

-- the same items below a number
pub below-same : (at after : ℕ → Option Item) (n : ℕ) → ((k : ℕ) → k < n → after k ≡ at k) → items_below after n ≡ items_below at n
below-same at after zero same = refl
below-same at after (suc m) same =
    ap (λ (x : List Item). x ++ option_to_list (after m)) (below-same at after m (λ k h. same k (omega arith)))
    ∙ ap (λ (x : Option Item). items_below at m ++ option_to_list x) (same m (omega arith))

-- no items from a number on
pub below-none : (at : ℕ → Option Item) (n more : ℕ) → n ≤ more → ((k : ℕ) → n ≤ k → k < more → at k ≡ None) → items_below at more ≡ items_below at n
below-none at n zero low none = let same : n ≡ 0 = omega arith in ap (items_below at) (sym same)
below-none at n (suc m) low none =
    elim (cases_lt m n) [
      | inl below ↦ let same : suc m ≡ n = omega arith in ap (items_below at) same
      | inr past ↦
          ap (λ (x : Option Item). items_below at m ++ option_to_list x) (none m past (omega arith)) ∙ append-nil (items_below at m)
          ∙ below-none at n m past (λ k from to. none k from (omega arith))
    ]

map-option : (found : Option Item) → option_to_list (map_some stopped_item found) ≡ map stopped_item (option_to_list found)
map-option None = refl
map-option (Some item) = refl

map-join : (f : Item → Item) (items more : List Item) → map f (items ++ more) ≡ map f items ++ map f more
map-join f [] more = refl
map-join f (item ∷ rest) more = ap (λ (x : List Item). f item ∷ x) (map-join f rest more)

pub below-stopped : (at after : ℕ → Option Item) (n : ℕ) → ((k : ℕ) → after k ≡ map_some stopped_item (at k)) → items_below after n ≡ map stopped_item (items_below at n)
below-stopped at after zero each = refl
below-stopped at after (suc m) each =
    ap (λ (x : List Item). x ++ option_to_list (after m)) (below-stopped at after m each)
    ∙ ap (λ (x : Option Item). map stopped_item (items_below at m) ++ option_to_list x) (each m)
    ∙ ap (λ (x : List Item). map stopped_item (items_below at m) ++ x) (map-option (at m))
    ∙ sym (map-join stopped_item (items_below at m) (option_to_list (at m)))

-- what is found in the list stands under its id
pub in-append : (id : ℕ) (items more : List Item) → item_in id (items ++ more) ≡ first_some (item_in id items) (item_in id more)
in-append id [] more = refl
in-append id (item ∷ rest) more =
    elim (item.id.0 == id) as (λ (b : Bool). cond b (Some item) (item_in id (rest ++ more)) ≡ first_some (cond b (Some item) (item_in id rest)) (item_in id more)) [
      | true ↦ refl
      | false ↦ in-append id rest more
    ]

pub record Found (at : ℕ → Option Item) (id n : ℕ) (item : Item) : Type 0 where
  pub below : id < n
  pub is : at id ≡ Some item

in_option_at : (at : ℕ → Option Item) (id m : ℕ) (item i : Item) (test : Bool) → at m ≡ Some i → i.id.0 ≡ m → (i.id.0 == id) ≡ test → cond test (Some i) None ≡ Some item → Found at id (suc m) item
in_option_at at id m item i true is own test here =
    let same : m ≡ id = sym own ∙ eq_same i.id.0 id test in
    record { below = omega arith; is = subst (λ (k : ℕ). at k ≡ Some item) same (is ∙ here) }
in_option_at at id m item i false is own test here = absurd (cc)

in_option : (at : ℕ → Option Item) (id m : ℕ) (item : Item) (found : Option Item) → at m ≡ found → ((i : Item) → found ≡ Some i → i.id.0 ≡ m) → item_in id (option_to_list found) ≡ Some item → Found at id (suc m) item
in_option at id m item None is own here = absurd (cc)
in_option at id m item (Some i) is own here = in_option_at at id m item i (i.id.0 == id) is (own i refl) refl here

in_either : (at : ℕ → Option Item) (id m : ℕ) (item : Item) (left : Option Item) → ((i : Item) → left ≡ Some i → Found at id m i) → (item_in id (option_to_list (at m)) ≡ Some item → Found at id (suc m) item) → first_some left (item_in id (option_to_list (at m))) ≡ Some item → Found at id (suc m) item
in_either at id m item None older newer here = newer here
in_either at id m item (Some i) older newer here =
    let found = older i refl in
    record { below = let low = found.below in omega arith; is = found.is ∙ here }

pub in_below : (at : ℕ → Option Item) (id n : ℕ) (item : Item) → IsIndexed at → item_in id (items_below at n) ≡ Some item → Found at id n item
in_below at id zero item indexed here = absurd (cc)
in_below at id (suc m) item indexed here =
    in_either at id m item (item_in id (items_below at m)) (λ i found. in_below at id m i indexed found) (in_option at id m item (at m) refl (indexed.own m))
    (sym (in-append id (items_below at m) (option_to_list (at m))) ∙ here)

-- an item of the list is below what is above all of them
above_append_left : (id : ℕ) (items more : List Item) → IsAbove id (items ++ more) → IsAbove id items
above_append_left id [] more above = tt
above_append_left id (item ∷ rest) more above = (above.0, above_append_left id rest more above.1)

above_append_right : (id : ℕ) (items more : List Item) → IsAbove id (items ++ more) → IsAbove id more
above_append_right id [] more above = above
above_append_right id (item ∷ rest) more above = above_append_right id rest more above.1

above_option : (id : ℕ) (found : Option Item) (item : Item) → found ≡ Some item → IsAbove id (option_to_list found) → item.id.0 < id
above_option id None item is above = absurd (cc)
above_option id (Some i) item is above = let same : i.id.0 ≡ item.id.0 = ap (λ (x : Item). x.id.0) (some_same is) in let low = above.0 in omega arith

pub above_below : (at : ℕ → Option Item) (id n k : ℕ) (item : Item) → IsIndexed at → IsAbove id (items_below at n) → k < n → at k ≡ Some item → k < id
above_below at id zero k item indexed above low is = absurd (omega arith)
above_below at id (suc m) k item indexed above low is =
    elim (cases_eq k m) [
      | inl same ↦
          let is_m : at m ≡ Some item = subst (λ (j : ℕ). at j ≡ Some item) same is in
          let own = indexed.own m item is_m in
          let under = above_option id (at m) item is_m (above_append_right id (items_below at m) (option_to_list (at m)) above) in
          omega arith
      | inr other ↦ above_below at id m k item indexed (above_append_left id (items_below at m) (option_to_list (at m)) above) (omega arith) is
    ]
