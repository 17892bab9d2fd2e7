-- The life of an item that runs, and why a pass is refused.
use Rattle.std.proofs.Common.{◌≡◌, ◌≢◌, ◌⊎◌, ◌↔◌, inl, inr, ℕ, Bool, true, false, IsTrue, Option, Some, None, refl, sym, ◌∙◌, subst}
use Rattle.std.proofs.lemmas.Bool.{false≢true}
use Rattle.dm_types.specs.declared.item.Attempt.{Attempt}
use Rattle.dm_types.specs.declared.item.Item.{Item}
use Rattle.dm_types.specs.declared.item.ItemId.{ItemId}
use Rattle.dm_item.specs.Fields.{is_running}
use Rattle.dm_item.specs.Listing.{item_in}
use Rattle.dm_store.specs.declared.life.Life.{Life}
use Rattle.dm_store.specs.declared.pass.Gone.TheVariants as gones
use Rattle.dm_store.specs.Lives.{AreLives, LifeOf, life_in, place_of}
use Rattle.dm_store.specs.Passes.{DeclinesItem, IsLive, PassDeclines, round_of}
use Rattle.dm_store.specs.View.{View}
use Rattle.dm_store.proofs.Lives.{no_place}

module _ {D O : Type 0} (desk : View D O) (id : ItemId) (attempt : Attempt) where
  -- an item that runs has a life
  runs_without : (item : Item) → AreLives desk.items.items desk.lives → item_in id.0 desk.items.items ≡ Some item → IsTrue (is_running item.phase) → life_in id.0 desk.lives ≡ None → ⊥
  runs_without item are there runs none =
      let idle : is_running item.phase ≡ false = subst (λ (found : Option Item). LifeOf found None) there (subst (LifeOf (item_in id.0 desk.items.items)) none (are id.0)) in
      false≢true (sym idle ∙ runs)

  pub live_found : (item : Item) (place : ℕ) → AreLives desk.items.items desk.lives → item_in id.0 desk.items.items ≡ Some item → IsTrue (is_running item.phase) × (item.attempt ≡ attempt) → place_of id.0 desk.lives ≡ Some place → IsLive desk id attempt place
  live_found item place are there runs at = by (life_in id.0 desk.lives) refl
    where
      by : (found : Option Life) → life_in id.0 desk.lives ≡ found → IsLive desk id attempt place
      by None none = absurd (runs_without item are there runs.0 none)
      by (Some life) is = record { item = item; there = there; runs = runs.0; attempt_is = runs.1; life = life; lives = is; at = at }

  pub live_there : (item : Item) → AreLives desk.items.items desk.lives → item_in id.0 desk.items.items ≡ Some item → IsTrue (is_running item.phase) → place_of id.0 desk.lives ≡ None → ⊥
  live_there item are there runs none = runs_without item are there runs (no_place id.0 desk.lives none)

  pub declines_none : item_in id.0 desk.items.items ≡ None → PassDeclines desk id attempt (gones.NoItem id)
  declines_none none = subst (λ (found : Option Item). DeclinesItem found (life_in id.0 desk.lives) id attempt (gones.NoItem id)) (sym none) refl

  pub declines_stale : (item : Item) (test : Bool) (round : ℕ) → item_in id.0 desk.items.items ≡ Some item → IsTrue test ↔ (IsTrue (is_running item.phase) × (item.attempt ≡ attempt)) → test ≡ false → round ≡ round_of (life_in id.0 desk.lives)
      → PassDeclines desk id attempt (gones.Stale item.attempt round)
  declines_stale item test round there means over round_is =
      subst (λ (found : Option Item). DeclinesItem found (life_in id.0 desk.lives) id attempt (gones.Stale item.attempt round)) (sym there)
      (record { over = by (is_running item.phase) refl; attempt_is = refl; round_is = round_is })
    where
      by : (runs : Bool) → is_running item.phase ≡ runs → (is_running item.phase ≡ false) ⊎ (item.attempt ≢ attempt)
      by false idle = inl idle
      by true runs = inr (λ same. false≢true (sym over ∙ means.1 (runs, same)))
