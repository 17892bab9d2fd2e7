-- Passes of attempts, and when they are refused.
use Rattle.std.specs.Prelude.{◌≡◌, ◌≢◌, ◌⊎◌, ℕ, false, Option, Some, None, IsTrue, Result, Ok, Err}
use Rattle.dm_types.specs.declared.item.Attempt.{Attempt}
use Rattle.dm_types.specs.declared.item.Item.{Item}
use Rattle.dm_types.specs.declared.item.ItemId.{ItemId}
use Rattle.dm_item.specs.Fields.{is_running}
use Rattle.dm_item.specs.Listing.{item_in}
use Rattle.dm_store.specs.declared.life.Life.{Life}
use Rattle.dm_store.specs.declared.pass.Gone.{Gone}
use Rattle.dm_store.specs.declared.pass.Gone.TheVariants as gones
use Rattle.dm_store.specs.Lives.{life_in, place_of}
use Rattle.dm_store.specs.View.{View}

-- the round of a life, and 0 where no attempt runs
abbrev pub round_of : Option Life → ℕ
round_of None = 0
round_of (Some life) = life.round

-- the item doesn't run, or not under this attempt; its attempt and its round are told
pub record IsStale (item : Item) (life : Option Life) (attempt told : Attempt) (round : ℕ) : Type 0 where
  pub over : (is_running item.phase ≡ false) ⊎ (item.attempt ≢ attempt)
  pub attempt_is : told ≡ item.attempt
  pub round_is : round ≡ round_of life

abbrev pub DeclinesItem : Option Item → Option Life → ItemId → Attempt → Gone → Type 0
DeclinesItem None life id attempt (gones.NoItem other) = other ≡ id
DeclinesItem None life id attempt (gones.Stale told round) = ⊥
DeclinesItem (Some item) life id attempt (gones.NoItem other) = ⊥
DeclinesItem (Some item) life id attempt (gones.Stale told round) = IsStale item life attempt told round

-- Why a pass of the attempt is refused on a desk that isn't broken: no item has the id, or the attempt is over.
abbrev pub PassDeclines : {D O : Type 0} → View D O → ItemId → Attempt → Gone → Type 0
PassDeclines desk id attempt gone = DeclinesItem (item_in id.0 desk.items.items) (life_in id.0 desk.lives) id attempt gone

-- The item runs under the attempt, and its life stands at this place.
pub record IsLive {D O : Type 0} (desk : View D O) (id : ItemId) (attempt : Attempt) (place : ℕ) : Type 0 where
  pub item : Item
  pub there : item_in id.0 desk.items.items ≡ Some item
  pub runs : IsTrue (is_running item.phase)
  pub attempt_is : item.attempt ≡ attempt
  pub life : Life
  pub lives : life_in id.0 desk.lives ≡ Some life
  pub at : place_of id.0 desk.lives ≡ Some place

abbrev pub LiveAt : {D O : Type 0} → View D O → ItemId → Attempt → Result ℕ Gone → Type 0
LiveAt desk id attempt (Ok place) = IsLive desk id attempt place
LiveAt desk id attempt (Err gone) = PassDeclines desk id attempt gone
