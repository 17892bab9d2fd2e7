-- The item that has an order's word.
use Rattle.std.proofs.Common.{◌≡◌, inl, inr, ℕ, Bool, true, false, cond, ◌==◌, List, [], ◌∷◌, Some, None, sym, ◌∙◌, ap, arith}
use Rattle.std.proofs.lemmas.Bool.Decides.{nat_tests}
use Rattle.dm_types.specs.declared.item.Item.{Item}
use Rattle.dm_types.specs.declared.item.ItemId.{ItemId}
use Rattle.dm_item.specs.Words.{IsWordOf}
use Rattle.dm_item.specs.Listing.{item_in}

is_same : (n m : ℕ) → n ≡ m → (n == m) ≡ true
is_same n m same = grind (arith, nat_tests)

some_none : (item : Item) → Some item ≡ None → ⊥
some_none item same = absurd cc

none_there : (id : ℕ) (item : Item) (rest : List Item) (test : Bool) → (item_in id rest ≡ None → ⊥) → cond test (Some item) (item_in id rest) ≡ None → ⊥
none_there id item rest true later none = some_none item none
none_there id item rest false later none = later none

-- an item has the word's id
pub word_there : (word : List ℕ) (items : List Item) (id : ItemId) → IsWordOf word items id → item_in id.0 items ≡ None → ⊥
word_there word [] id is none = is
word_there word (item ∷ rest) id (inl here) none =
    let at : (item.id.0 == id.0) ≡ true = is_same item.id.0 id.0 (ap (λ (i : ItemId). i.0) here.1) in
    some_none item (sym (ap (λ (b : Bool). cond b (Some item) (item_in id.0 rest)) at) ∙ none)
word_there word (item ∷ rest) id (inr later) none = none_there id.0 item rest (item.id.0 == id.0) (word_there word rest id later.1) none
