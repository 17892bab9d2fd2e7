-- The item and the life with an id behind an entry.
use Rattle.std.proofs.Common.{◌≡◌, ℕ, ◌==◌, cond, true, false, Bool, List, [], ◌∷◌, ◌++◌, map, find, Option, Some, None, refl, sym, ◌∙◌, ap, subst}
use Rattle.std.proofs.lemmas.Bool.{false≢true}
use Rattle.std.proofs.lemmas.Option.{none-some, same_Some}
use Rattle.dm_types.specs.declared.entry.Entry.{Entry}
use Rattle.dm_types.specs.declared.entry.Entry.TheVariants as entries
use Rattle.dm_types.specs.declared.item.Item.{Item}
use Rattle.dm_types.specs.declared.item.ItemId.{ItemId}
use Rattle.dm_types.specs.declared.slices.Slice.{Slice}
use Rattle.dm_item.proofs.Basics.{eq_same}
use Rattle.dm_item.proofs.Numbers.{changed-id}
use Rattle.dm_item.specs.Lawful.{History}
use Rattle.dm_item.specs.Listing.{changed_at, item_in}
use Rattle.dm_item.specs.Row.{changed}
use Rattle.dm_store.specs.declared.life.Life.{Life}
use Rattle.dm_store.specs.Lives.{changed_life, life_in}
use Rattle.dm_attempt.specs.Scene.{changed_all}

module _ (e : Entry) (k : ℕ) where
  then_test : (first : Item) (rest : List Item) (item : Item) (test : Bool) → (first.id.0 == k) ≡ test → (item_in k rest ≡ Some item → item_in k (changed_at e k rest) ≡ Some (changed e item))
      → cond test (Some first) (item_in k rest) ≡ Some item → item_in k (cond test (changed e first ∷ rest) (first ∷ changed_at e k rest)) ≡ Some (changed e item)
  then_test first rest item true is older found =
      ap (λ (b : Bool). cond b (Some (changed e first)) (item_in k rest)) (ap (λ (i : ItemId). i.0 == k) (changed-id e first) ∙ is) ∙ ap (λ (x : Item). Some (changed e x)) (same_Some first item found)
  then_test first rest item false is older found = ap (λ (b : Bool). cond b (Some first) (item_in k (changed_at e k rest))) is ∙ older found

  pub item_then : (items : List Item) (item : Item) → item_in k items ≡ Some item → item_in k (changed_at e k items) ≡ Some (changed e item)
  item_then [] item found = absurd (none-some item found)
  item_then (first ∷ rest) item found = then_test first rest item (first.id.0 == k) refl (item_then rest item) found

id_test : (k : ℕ) (first item : Item) (rest : List Item) (test : Bool) → (first.id.0 == k) ≡ test → (item_in k rest ≡ Some item → item.id.0 ≡ k) → cond test (Some first) (item_in k rest) ≡ Some item → item.id.0 ≡ k
id_test k first item rest true is older found = ap (λ (x : Item). x.id.0) (sym (same_Some first item found)) ∙ eq_same first.id.0 k is
id_test k first item rest false is older found = older found

-- the item that was found has the id
pub found_id : (k : ℕ) (items : List Item) (item : Item) → item_in k items ≡ Some item → item.id.0 ≡ k
found_id k [] item found = absurd (none-some item found)
found_id k (first ∷ rest) item found = id_test k first item rest (first.id.0 == k) refl (found_id k rest item) found

module _ (k : ℕ) (f : Life → Life) (same : (life : Life) → (f life).id ≡ life.id) where
  life_test : (first : Life) (rest : List Life) (life : Life) (test : Bool) → (first.id.0 == k) ≡ test → (life_in k rest ≡ Some life → life_in k (changed_life k f rest) ≡ Some (f life))
      → cond test (Some first) (life_in k rest) ≡ Some life → life_in k (cond test (f first ∷ rest) (first ∷ changed_life k f rest)) ≡ Some (f life)
  life_test first rest life true is older found =
      ap (λ (b : Bool). cond b (Some (f first)) (life_in k rest)) (ap (λ (i : ItemId). i.0 == k) (same first) ∙ is) ∙ ap (λ (x : Life). Some (f x)) (same_Some first life found)
  life_test first rest life false is older found = ap (λ (b : Bool). cond b (Some first) (life_in k (changed_life k f rest))) is ∙ older found

  pub life_then : (lives : List Life) (life : Life) → life_in k lives ≡ Some life → life_in k (changed_life k f lives) ≡ Some (f life)
  life_then [] life found = absurd (none-some life found)
  life_then (first ∷ rest) life found = life_test first rest life (first.id.0 == k) refl (life_then rest life) found

pub all_then : (first second : History) (item : Item) → changed_all (first ++ second) item ≡ changed_all second (changed_all first item)
all_then [] second item = refl
all_then (entry ∷ first) second item = all_then first second (changed entry item)

pub all_id : (h : History) (item : Item) → (changed_all h item).id ≡ item.id
all_id [] item = refl
all_id (entry ∷ more) item = all_id more (changed entry item) ∙ changed-id entry item

-- saves change the cover alone
abbrev pub bare : Item → Item
bare item = record item { slices = [] }

pub all_saves : (id : ItemId) (saves : List (List Slice)) (item : Item) → bare (changed_all (map (entries.Progress id) saves) item) ≡ bare item
all_saves id [] item = refl
all_saves id (slices ∷ more) item = all_saves id more (record item { slices = slices })
