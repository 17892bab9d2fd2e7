-- Where a piece may land.
use Rattle.std.specs.Prelude.{◌≡◌, ℕ, ◌+◌, ◌<◌, ◌≤◌, ◌^◌, List, length, Option, None, IsSomeAnd, unwrap_or, Result, Ok, Err}
use Rattle.dm_types.specs.declared.item.Item.{Item}
use Rattle.dm_types.specs.declared.kinds.DiskKind.{DiskKind}
use Rattle.dm_slice.specs.Cover.{limit_at, next_of}
use Rattle.dm_store.specs.declared.life.Life.{Life}
use Rattle.dm_store.specs.declared.pass.Gone.{Gone}
use Rattle.dm_store.specs.Lives.{life_in}
use Rattle.dm_store.specs.View.{View}
use Rattle.dm_answers.specs.declared.answer.SlicePass.{SlicePass}
use Rattle.dm_answers.specs.declared.fault.DeskFault.{DeskFault}
use Rattle.dm_answers.specs.Faults.{desk_kind}
use Rattle.dm_answers.specs.Land.{LandAnswers, MayLand}
use Rattle.dm_answers.specs.Running.{RunsWith}
use Rattle.dm_answers.specs.Slices.{ComesNext, SliceDeclines}

-- this place of the part comes next, and so many bytes of the attempt aren't saved
pub record HasNext (pass : SlicePass) (next unsaved : ℕ) (item : Item) (life : Life) : Type 0 where
  pub comes : ComesNext pass next item life
  pub unsaved_is : unsaved ≡ life.unsaved

-- the next place of the pass's part, or why the pass is refused
abbrev pub FoundBy : {D O : Type 0} → View D O → SlicePass → Result (ℕ × ℕ) Gone → Type 0
FoundBy desk pass (Ok found) = RunsWith desk pass.id pass.attempt (HasNext pass found.0 found.1)
FoundBy desk pass (Err gone) = SliceDeclines desk pass gone

-- the piece may land, or `land` is refused on the desk as it is, and no call on the disk was made
abbrev pub PieceAnswers : {D O : Type 0} → (D → DiskKind → ℕ) → View D O → SlicePass → ℕ → List ℕ → Result (Unit {0}) DeskFault → Type 0
PieceAnswers counts desk pass at piece (Ok done) = RunsWith desk pass.id pass.attempt (MayLand pass at (length piece) desk.limits.checkpoint)
PieceAnswers counts desk pass at piece (Err fault) = LandAnswers counts desk desk pass at piece (Err fault) × (desk_kind fault ≡ None)

-- the slice of the life's cover with this number can have so many bytes more
pub record HasPlace (index count : ℕ) (life : Life) : Type 0 where
  pub there : index < length life.cover
  pub room : unwrap_or (next_of life.cover index) 0 + count ≤ limit_at life.cover index
  pub fits : life.unsaved + count < 2 ^ 64

abbrev pub CanGrow : List Life → ℕ → ℕ → ℕ → Type 0
CanGrow lives id index count = IsSomeAnd (life_in id lives) (HasPlace index count)
