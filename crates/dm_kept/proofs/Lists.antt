-- Which item has an id in a list, and what holds of each item behind one more entry.
use Rattle.std.proofs.Common.{◌≡◌, ◌≢◌, ◌⊎◌, inl, inr, ℕ, ◌+◌, ◌<◌, ◌≤◌, Bool, true, false, ◌==◌, List, [], ◌∷◌, ◌++◌, cond, map, Option, Some, None, refl, sym, ◌∙◌, ap, subst, arith}
use Rattle.std.specs.Option.{option_map}
use Rattle.std.proofs.lemmas.Bool.Decides.{nat_tests}
use Rattle.dm_types.specs.declared.entry.Entry.{Entry}
use Rattle.dm_types.specs.declared.item.Item.{Item}
use Rattle.dm_item.specs.Listing.{changed_at, item_in, without}
use Rattle.dm_item.specs.Kept.{IsNumbered}
use Rattle.dm_item.specs.Row.{changed, stopped_item}
use Rattle.dm_kept.specs.Files.{EachItem}

pub eq_is : (n m : ℕ) → (n == m) ≡ true → n ≡ m
eq_is n m test = grind (arith, nat_tests)

pub eq_not : (n m : ℕ) → (n == m) ≡ false → n ≢ m
eq_not n m test = grind (arith, nat_tests)

not_other : (n k id : ℕ) → (n == k) ≡ true → id ≢ k → (n == id) ≡ false
not_other n k id test apart = grind (arith, nat_tests)

not_below : (n k : ℕ) → k < n → (n == k) ≡ false
not_below n k less = grind (arith, nat_tests)

pub some_is : {A : Type 0} (a b : A) → Some a ≡ Some b → a ≡ b
some_is a b same = cc

none_is : {A : Type 0} (a : A) → None ≡ Some a → ⊥
none_is a same = absurd cc

id_test : (id : ℕ) (x y : Item) (rest : List Item) (test : Bool) → (y.id.0 == id) ≡ test → cond test (Some y) (item_in id rest) ≡ Some x → (item_in id rest ≡ Some x → x.id.0 ≡ id) → x.id.0 ≡ id
id_test id x y rest true is found older = ap (λ (i : Item). i.id.0) (sym (some_is y x found)) ∙ eq_is y.id.0 id is
id_test id x y rest false is found older = older found

-- the item with an id has it
pub id_in : (id : ℕ) (x : Item) (items : List Item) → item_in id items ≡ Some x → x.id.0 ≡ id
id_in id x [] found = absurd (none_is x found)
id_in id x (y ∷ rest) found = id_test id x y rest (y.id.0 == id) refl found (λ later. id_in id x rest later)

-- the first of a list, by the test of its id
first_is : (id : ℕ) (z : Item) (found : Option Item) (test : Bool) → (z.id.0 == id) ≡ test → cond (z.id.0 == id) (Some z) found ≡ cond test (Some z) found
first_is id z found test is = ap (λ (b : Bool). cond b (Some z) found) is

module _ (e : Entry) (k : ℕ) (same : (item : Item) → (changed e item).id.0 ≡ item.id.0) where
  here_step : (z : Item) (rest : List Item) (test : Bool) → (z.id.0 == k) ≡ test → item_in k (changed_at e k rest) ≡ option_map (changed e) (item_in k rest)
      → item_in k (cond test (changed e z ∷ rest) (z ∷ changed_at e k rest)) ≡ option_map (changed e) (cond test (Some z) (item_in k rest))
  here_step z rest true is later = first_is k (changed e z) (item_in k rest) true (ap (λ (n : ℕ). n == k) (same z) ∙ is)
  here_step z rest false is later = first_is k z (item_in k (changed_at e k rest)) false is ∙ later

  -- the item of the entry's id is the changed one
  pub changed_here : (items : List Item) → item_in k (changed_at e k items) ≡ option_map (changed e) (item_in k items)
  changed_here [] = refl
  changed_here (z ∷ rest) = here_step z rest (z.id.0 == k) refl (changed_here rest)

  beside_step : (id : ℕ) (z : Item) (rest : List Item) (test : Bool) → (z.id.0 == k) ≡ test → id ≢ k → item_in id (changed_at e k rest) ≡ item_in id rest
      → item_in id (cond test (changed e z ∷ rest) (z ∷ changed_at e k rest)) ≡ item_in id (z ∷ rest)
  beside_step id z rest true is apart later =
      let other : (z.id.0 == id) ≡ false = not_other z.id.0 k id is apart in
      first_is id (changed e z) (item_in id rest) false (ap (λ (n : ℕ). n == id) (same z) ∙ other) ∙ sym (first_is id z (item_in id rest) false other)
  beside_step id z rest false is apart later = ap (λ (found : Option Item). cond (z.id.0 == id) (Some z) found) later

  -- every other id has the item that it had
  pub changed_beside : (id : ℕ) → id ≢ k → (items : List Item) → item_in id (changed_at e k items) ≡ item_in id items
  changed_beside id apart [] = refl
  changed_beside id apart (z ∷ rest) = beside_step id z rest (z.id.0 == k) refl apart (changed_beside id apart rest)

-- the list without the item of an id
without_step : (id k : ℕ) (z : Item) (rest : List Item) (test : Bool) → (z.id.0 == k) ≡ test → id ≢ k → item_in id (without k rest) ≡ item_in id rest → item_in id (cond test rest (z ∷ without k rest)) ≡ item_in id (z ∷ rest)
without_step id k z rest true is apart later = sym (first_is id z (item_in id rest) false (not_other z.id.0 k id is apart))
without_step id k z rest false is apart later = ap (λ (found : Option Item). cond (z.id.0 == id) (Some z) found) later

pub without_beside : (id k : ℕ) → id ≢ k → (items : List Item) → item_in id (without k items) ≡ item_in id items
without_beside id k apart [] = refl
without_beside id k apart (z ∷ rest) = without_step id k z rest (z.id.0 == k) refl apart (without_beside id k apart rest)

none_below : (k low next : ℕ) (items : List Item) → k < low → IsNumbered low items next → item_in k items ≡ None
none_below k low next [] less numbered = refl
none_below k low next (z ∷ rest) less numbered =
    let first = numbered.0 in
    first_is k z (item_in k rest) false (not_below z.id.0 k (omega arith)) ∙ none_below k (z.id.0 + 1) next rest (omega arith) numbered.1

gone_step : (k next : ℕ) (z : Item) (rest : List Item) (test : Bool) → (z.id.0 == k) ≡ test → IsNumbered (z.id.0 + 1) rest next → item_in k (without k rest) ≡ None → item_in k (cond test rest (z ∷ without k rest)) ≡ None
gone_step k next z rest true is numbered later = let at : z.id.0 ≡ k = eq_is z.id.0 k is in none_below k (z.id.0 + 1) next rest (omega arith) numbered
gone_step k next z rest false is numbered later = first_is k z (item_in k (without k rest)) false is ∙ later

-- no item has the id of the one that is gone
pub without_here : (k low next : ℕ) (items : List Item) → IsNumbered low items next → item_in k (without k items) ≡ None
without_here k low next [] numbered = refl
without_here k low next (z ∷ rest) numbered = gone_step k next z rest (z.id.0 == k) refl numbered.1 (without_here k (z.id.0 + 1) next rest numbered.1)

-- one item more
last_is : (id : ℕ) (x y : Item) (test : Bool) → (x.id.0 == id) ≡ test → cond test (Some x) None ≡ Some y → y ≡ x
last_is id x y true is found = sym (some_is x y found)
last_is id x y false is found = absurd (none_is y found)

push_step : (id : ℕ) (x y z : Item) (rest : List Item) (test : Bool) → (z.id.0 == id) ≡ test → cond test (Some z) (item_in id (rest ++ x ∷ [])) ≡ Some y → (item_in id (rest ++ x ∷ []) ≡ Some y → (item_in id rest ≡ Some y) ⊎ (y ≡ x))
    → (cond test (Some z) (item_in id rest) ≡ Some y) ⊎ (y ≡ x)
push_step id x y z rest true is found later = inl found
push_step id x y z rest false is found later = later found

pub in_pushed : (id : ℕ) (x y : Item) (items : List Item) → item_in id (items ++ x ∷ []) ≡ Some y → (item_in id items ≡ Some y) ⊎ (y ≡ x)
in_pushed id x y [] found = inr (last_is id x y (x.id.0 == id) refl found)
in_pushed id x y (z ∷ rest) found = push_step id x y z rest (z.id.0 == id) refl found (in_pushed id x y rest)

-- each running item is stopped
stopped_step : (id : ℕ) (z : Item) (rest : List Item) (test : Bool) → item_in id (map stopped_item rest) ≡ option_map stopped_item (item_in id rest)
    → cond test (Some (stopped_item z)) (item_in id (map stopped_item rest)) ≡ option_map stopped_item (cond test (Some z) (item_in id rest))
stopped_step id z rest true later = refl
stopped_step id z rest false later = later

pub in_stopped : (id : ℕ) (items : List Item) → item_in id (map stopped_item items) ≡ option_map stopped_item (item_in id items)
in_stopped id [] = refl
in_stopped id (z ∷ rest) = stopped_step id z rest (z.id.0 == id) (in_stopped id rest)

-- a mapped item is one of an item
mapped : (f : Item → Item) (found : Option Item) (y : Item) (Q : Item → Type 0) → option_map f found ≡ Some y → ((item : Item) → found ≡ Some item → Q (f item)) → Q y
mapped f None y Q is leads = absurd (none_is y is)
mapped f (Some item) y Q is leads = subst Q (some_is (f item) y is) (leads item refl)

-- What holds of each item, behind an entry that changes the item of one id.
pub each_changed : (P Q : Item → Type 0) (e : Entry) (k : ℕ) (items : List Item) → ((item : Item) → (changed e item).id.0 ≡ item.id.0) → ((item : Item) → item.id.0 ≢ k → P item → Q item)
    → ((item : Item) → item_in k items ≡ Some item → P item → Q (changed e item)) → EachItem P items → EachItem Q (changed_at e k items)
each_changed P Q e k items same others one each id found is = by (id == k) refl
  where
    by : (test : Bool) → (id == k) ≡ test → Q found
    by true at =
        let here : id ≡ k = eq_is id k at in
        mapped (changed e) (item_in k items) found Q (sym (changed_here e k same items) ∙ subst (λ (n : ℕ). item_in n (changed_at e k items) ≡ Some found) here is)
        (λ item there. one item there (each k item there))
    by false at =
        let apart : id ≢ k = eq_not id k at in
        let there : item_in id items ≡ Some found = sym (changed_beside e k same id apart items) ∙ is in
        others found (λ equal. apart (sym (id_in id found items there) ∙ equal)) (each id found there)

-- behind one that takes an item away
pub each_gone : (P Q : Item → Type 0) (k low next : ℕ) (items : List Item) → IsNumbered low items next → ((item : Item) → item.id.0 ≢ k → P item → Q item) → EachItem P items → EachItem Q (without k items)
each_gone P Q k low next items numbered others each id found is = by (id == k) refl
  where
    by : (test : Bool) → (id == k) ≡ test → Q found
    by true at = absurd (none_is found (sym (without_here k low next items numbered) ∙ subst (λ (n : ℕ). item_in n (without k items) ≡ Some found) (eq_is id k at) is))
    by false at =
        let apart : id ≢ k = eq_not id k at in
        let there : item_in id items ≡ Some found = sym (without_beside id k apart items) ∙ is in
        others found (λ equal. apart (sym (id_in id found items there) ∙ equal)) (each id found there)

-- behind one that adds an item
pub each_pushed : (P Q : Item → Type 0) (x : Item) (items : List Item) → ((item : Item) → P item → Q item) → Q x → EachItem P items → EachItem Q (items ++ x ∷ [])
each_pushed P Q x items old new each id found is = by (in_pushed id x found items is)
  where
    by : (item_in id items ≡ Some found) ⊎ (found ≡ x) → Q found
    by (inl there) = old found (each id found there)
    by (inr last) = subst Q (sym last) new

-- behind one that stops each attempt
pub each_stopped : (P Q : Item → Type 0) (items : List Item) → ((item : Item) → P item → Q (stopped_item item)) → EachItem P items → EachItem Q (map stopped_item items)
each_stopped P Q items leads each id found is =
    mapped stopped_item (item_in id items) found Q (sym (in_stopped id items) ∙ is) (λ item there. leads item (each id item there))
