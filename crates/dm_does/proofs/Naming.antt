-- The item that has a word.
use Rattle.std.proofs.Common.{◌≡◌, ◌≢◌, inl, inr, ℕ, ◌+◌, ◌≤◌, Bool, true, false, cond, ◌==◌, List, [], ◌∷◌, Option, Some, None, refl, sym, ◌∙◌, ap, subst, arith}
use Rattle.std.specs.Prelude.{find}
use Rattle.std.specs.Str.{bytes_eq}
use Rattle.std.proofs.lemmas.Bool.{false_from_ne_true, false≢true}
use Rattle.std.proofs.lemmas.Slice.Eq.{bytes_eq-Decides}
use Rattle.dm_types.specs.declared.item.Item.{Item}
use Rattle.dm_types.specs.declared.item.ItemId.{ItemId}
use Rattle.dm_item.specs.Kept.{IsNumbered}
use Rattle.dm_item.specs.Listing.{item_in}
use Rattle.dm_item.specs.Words.{HasNoWord, HasWordOf, IsFreeWord, IsWordOf}
use Rattle.dm_item.proofs.Basics.{eq_false, eq_true, none_some, some_same}
use Rattle.dm_does.specs.Doing.{with_word}

-- the first item that passes
abbrev pub first_of : (Item → Bool) → List Item → Option Item
first_of test items = find test items

at_true : {A : Type 0} (b : Bool) (x y : A) → b ≡ true → cond b x y ≡ x
at_true b x y is = ap (λ (t : Bool). cond t x y) is

at_false : {A : Type 0} (b : Bool) (x y : A) → b ≡ false → cond b x y ≡ y
at_false b x y is = ap (λ (t : Bool). cond t x y) is

word_same : (item : Item) (word : List ℕ) → item.word ≡ word → bytes_eq item.word word ≡ true
word_same item word same = (bytes_eq-Decides item.word word).1 same

word_other : (item : Item) (word : List ℕ) → item.word ≢ word → bytes_eq item.word word ≡ false
word_other item word other = false_from_ne_true (bytes_eq item.word word) (λ same. other ((bytes_eq-Decides item.word word).0 same))

-- the ids rise
word_low : (word : List ℕ) (items : List Item) (id : ItemId) (low next : ℕ) → IsNumbered low items next → IsWordOf word items id → low ≤ id.0
word_low word [] id low next numbered is = absurd is
word_low word (item ∷ rest) id low next numbered (inl here) = subst (λ (i : ItemId). low ≤ i.0) here.1 numbered.0
word_low word (item ∷ rest) id low next numbered (inr later) =
    let least = word_low word rest id (item.id.0 + 1) next numbered.1 later.1 in let first = numbered.0 in omega (arith, least, first)

-- the first item with the word is the one with its id
with_found : (word : List ℕ) (items : List Item) (id : ItemId) (item : Item) (low next : ℕ) → IsNumbered low items next → IsWordOf word items id → item_in id.0 items ≡ Some item
    → first_of (λ other. bytes_eq other.word word) items ≡ Some item
with_found word [] id item low next numbered is there = absurd is
with_found word (first ∷ rest) id item low next numbered (inl here) there =
    let same : (first.id.0 == id.0) ≡ true = subst (λ (i : ItemId). (first.id.0 == i.0) ≡ true) here.1 (eq_true first.id.0) in
    at_true (bytes_eq first.word word) (Some first) (first_of (λ other. bytes_eq other.word word) rest) (word_same first word here.0)
    ∙ (sym (at_true (first.id.0 == id.0) (Some first) (item_in id.0 rest) same) ∙ there)
with_found word (first ∷ rest) id item low next numbered (inr later) there =
    let least = word_low word rest id (first.id.0 + 1) next numbered.1 later.1 in
    let apart : (first.id.0 == id.0) ≡ false = eq_false first.id.0 id.0 (λ same. omega (arith, least, same)) in
    let later_there : item_in id.0 rest ≡ Some item = sym (at_false (first.id.0 == id.0) (Some first) (item_in id.0 rest) apart) ∙ there in
    at_false (bytes_eq first.word word) (Some first) (first_of (λ other. bytes_eq other.word word) rest) (word_other first word later.0)
    ∙ with_found word rest id item (first.id.0 + 1) next numbered.1 later.1 later_there

pub with_known : (word : List ℕ) (items : List Item) (id : ItemId) (item : Item) (next : ℕ) → IsNumbered 1 items next → HasWordOf word items id → item_in id.0 items ≡ Some item → with_word word items ≡ Some item
with_known [] items id item next numbered has there = absurd (has.0 refl)
with_known (byte ∷ rest) items id item next numbered has there = with_found (byte ∷ rest) items id item 1 next numbered has.1 there

none_found : (word : List ℕ) (items : List Item) → HasNoWord word items → first_of (λ other. bytes_eq other.word word) items ≡ None
none_found word [] none = refl
none_found word (item ∷ rest) none =
    at_false (bytes_eq item.word word) (Some item) (first_of (λ other. bytes_eq other.word word) rest) (word_other item word none.0) ∙ none_found word rest none.1

-- a free word is no item's
pub with_free : (word : List ℕ) (items : List Item) → IsFreeWord word items → with_word word items ≡ None
with_free [] items free = refl
with_free (byte ∷ rest) items free = none_found (byte ∷ rest) items free

none_by : (word : List ℕ) (item : Item) (rest : List Item) (test : Bool) → bytes_eq item.word word ≡ test → cond test (Some item) (first_of (λ other. bytes_eq other.word word) rest) ≡ None
    → (first_of (λ other. bytes_eq other.word word) rest ≡ None → HasNoWord word rest) → HasNoWord word (item ∷ rest)
none_by word item rest true same none later = absurd (none_some (sym none))
none_by word item rest false other none later = (λ is. false≢true (sym other ∙ word_same item word is), later none)

found_none : (word : List ℕ) (items : List Item) → first_of (λ other. bytes_eq other.word word) items ≡ None → HasNoWord word items
found_none word [] none = tt
found_none word (item ∷ rest) none = none_by word item rest (bytes_eq item.word word) refl none (found_none word rest)

pub free_of : (word : List ℕ) (items : List Item) → with_word word items ≡ None → IsFreeWord word items
free_of [] items none = tt
free_of (byte ∷ rest) items none = found_none (byte ∷ rest) items none

-- the item is the one with its id
abbrev pub IsFirst : List Item → ℕ → Item → Type 0
IsFirst items low item = (item_in item.id.0 items ≡ Some item) × (low ≤ item.id.0)

in_by : (test : Item → Bool) (first : Item) (rest : List Item) (low next : ℕ) (item : Item) (passes : Bool) → IsNumbered low (first ∷ rest) next → cond passes (Some first) (first_of test rest) ≡ Some item
    → (first_of test rest ≡ Some item → IsFirst rest (first.id.0 + 1) item) → IsFirst (first ∷ rest) low item
in_by test first rest low next item true numbered is later =
    let same : first ≡ item = some_same is in
    subst (λ (i : Item). IsFirst (first ∷ rest) low i) same
    (at_true (first.id.0 == first.id.0) (Some first) (item_in first.id.0 rest) (eq_true first.id.0), numbered.0)
in_by test first rest low next item false numbered is later =
    let found = later is in
    let least = found.1 in let low_first = numbered.0 in
    let apart : (first.id.0 == item.id.0) ≡ false = eq_false first.id.0 item.id.0 (λ same. omega (arith, least, same)) in
    (at_false (first.id.0 == item.id.0) (Some first) (item_in item.id.0 rest) apart ∙ found.0, omega (arith, least, low_first))

-- so of the first item that passes
pub found_in : (test : Item → Bool) (items : List Item) (low next : ℕ) (item : Item) → IsNumbered low items next → first_of test items ≡ Some item → IsFirst items low item
found_in test [] low next item numbered is = absurd (none_some is)
found_in test (first ∷ rest) low next item numbered is = in_by test first rest low next item (test first) numbered is (found_in test rest (first.id.0 + 1) next item numbered.1)

pub with_there : (word : List ℕ) (items : List Item) (next : ℕ) (item : Item) → IsNumbered 1 items next → with_word word items ≡ Some item → item_in item.id.0 items ≡ Some item
with_there [] items next item numbered is = absurd (none_some is)
with_there (byte ∷ rest) items next item numbered is = (found_in (λ other. bytes_eq other.word (byte ∷ rest)) items 1 next item numbered is).0
