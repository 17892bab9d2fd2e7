-- Passes of parts, and when they are refused.
use Rattle.std.specs.Prelude.{◌≡◌, ◌≢◌, ◌⊎◌, ℕ, false, Option, Some, None, slice_get}
use Rattle.dm_types.specs.declared.item.Attempt.{Attempt}
use Rattle.dm_types.specs.declared.item.Item.{Item}
use Rattle.dm_slice.specs.Cover.{next_of}
use Rattle.dm_slice.specs.declared.plan.Part.{Part}
use Rattle.dm_item.specs.Fields.{is_running}
use Rattle.dm_item.specs.Listing.{item_in}
use Rattle.dm_store.specs.declared.life.Life.{Life}
use Rattle.dm_store.specs.declared.pass.Gone.{Gone}
use Rattle.dm_store.specs.declared.pass.Gone.TheVariants as gones
use Rattle.dm_store.specs.Lives.{life_in}
use Rattle.dm_store.specs.Passes.{round_of}
use Rattle.dm_store.specs.View.{View}
use Rattle.dm_answers.specs.declared.answer.SlicePass.{SlicePass}

-- the part that is meant
abbrev pub part_of : SlicePass → Part
part_of pass = record { index = pass.index; first = pass.first; end = pass.end }

-- the live round is the pass's, and has its part
pub record HasPart (pass : SlicePass) (item : Item) (life : Life) : Type 0 where
  pub round : life.round ≡ pass.round
  pub part : slice_get life.plan pass.index ≡ Some (part_of pass)

-- the same, and this place of the part comes next
pub record ComesNext (pass : SlicePass) (place : ℕ) (item : Item) (life : Life) : Type 0 where
  pub has : HasPart pass item life
  pub next : next_of life.cover pass.index ≡ Some place

-- another round is live, or it has no such part
abbrev pub HasNoPart : SlicePass → Option Life → Type 0
HasNoPart pass None = Unit {0}
HasNoPart pass (Some life) = (life.round ≢ pass.round) ⊎ (slice_get life.plan pass.index ≢ Some (part_of pass))

-- the item doesn't run, or not under the pass's attempt, or the part is none of the live round; the item's attempt and round are told
pub record IsStaleSlice (pass : SlicePass) (item : Item) (life : Option Life) (told : Attempt) (round : ℕ) : Type 0 where
  pub over : (is_running item.phase ≡ false) ⊎ ((item.attempt ≢ pass.attempt) ⊎ HasNoPart pass life)
  pub attempt_is : told ≡ item.attempt
  pub round_is : round ≡ round_of life

abbrev pub DeclinesSlice : Option Item → Option Life → SlicePass → Gone → Type 0
DeclinesSlice None life pass (gones.NoItem other) = other ≡ pass.id
DeclinesSlice None life pass (gones.Stale told round) = ⊥
DeclinesSlice (Some item) life pass (gones.NoItem other) = ⊥
DeclinesSlice (Some item) life pass (gones.Stale told round) = IsStaleSlice pass item life told round

-- Why a pass of a part is refused: no item has the id, or the pass is over.
abbrev pub SliceDeclines : {D O : Type 0} → View D O → SlicePass → Gone → Type 0
SliceDeclines desk pass gone = DeclinesSlice (item_in pass.id.0 desk.items.items) (life_in pass.id.0 desk.lives) pass gone
