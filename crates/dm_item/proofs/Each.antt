-- What holds of each item, by the place and by the front, and the first item that has a word.
use Rattle.std.proofs.Common.{◌≡◌, ◌≢◌, ◌↔◌, ℕ, ◌<◌, Bool, IsTrue, zero, suc, List, [], ◌∷◌, length, slice_index_or, inl, inr, refl, sym, arith}
use Rattle.std.specs.List.{All}
use Rattle.std.proofs.lemmas.List.Elements.{All-nil, All-cons, All-head, All-tail}
use Rattle.dm_types.specs.declared.item.Item.{Item}
use Rattle.dm_item.specs.Words.{IsWordOf}

module _ (P : Item → Type 0) (Q : List Item → Type 0) where
  pub by_front : Q [] → ((item : Item) (rest : List Item) → P item → Q rest → Q (item ∷ rest)) → (items : List Item) → All P items → Q items
  by_front none more [] all = none
  by_front none more (item ∷ rest) all = more item rest (All-head P item rest all) (by_front none more rest (All-tail P item rest all))

  by_place : ((item : Item) (rest : List Item) → Q (item ∷ rest) → P item × Q rest) → (items : List Item) → Q items → All P items
  by_place less [] has = All-nil P
  by_place less (item ∷ rest) has = let both = less item rest has in All-cons P item rest both.0 (by_place less rest both.1)

  -- so a test of each item is a test of all
  pub tests : (answer : Bool) (items : List Item) → Q [] → ((item : Item) (rest : List Item) → P item → Q rest → Q (item ∷ rest)) → ((item : Item) (rest : List Item) → Q (item ∷ rest) → P item × Q rest)
      → (IsTrue answer ↔ All P items) → IsTrue answer ↔ Q items
  tests answer items none more less all = (λ yes. by_front none more items (all.0 yes), λ has. all.1 (by_place less items has))

-- the items in front have another word
pub word_at : (word : List ℕ) (items : List Item) (place : ℕ) (found : Item) → ((k : ℕ) (d : Item) → k < place → (slice_index_or items k d).word ≢ word) → place < length items
    → found ≡ slice_index_or items place found → found.word ≡ word → IsWordOf word items found.id
word_at word [] place found before within is has = absurd (omega arith)
word_at word (item ∷ rest) zero found before within is has = rw (sym is) (inl (has, refl))
word_at word (item ∷ rest) (suc place) found before within is has =
    inr (before zero item (omega arith), word_at word rest place found (λ k d below. before (suc k) d (omega arith)) (omega arith) is has)
