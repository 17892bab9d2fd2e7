-- How a piece of the content is written into the part.
use Rattle.std.specs.Prelude.{◌≡◌, ◌≢◌, ℕ, ◌+◌, ◌<◌, ◌≤◌, List, [], ◌∷◌, length, Some, slice_get, Result, Ok, Err}
use Rattle.dm_types.specs.declared.entry.Entry.TheVariants as entries
use Rattle.dm_types.specs.declared.item.Item.{Item}
use Rattle.dm_types.specs.declared.item.ItemId.{ItemId}
use Rattle.dm_types.specs.declared.item.Key.{Key}
use Rattle.dm_types.specs.declared.kinds.DiskKind.{DiskKind}
use Rattle.dm_policy.specs.Cause.{reason_of_file}
use Rattle.dm_slice.specs.Cover.{grown}
use Rattle.dm_item.specs.Listing.{item_in}
use Rattle.dm_kept.specs.Files.{Says}
use Rattle.dm_store.specs.declared.life.Life.{Life}
use Rattle.dm_store.specs.declared.pass.Gone.TheVariants as gones
use Rattle.dm_store.specs.Becomes.{Recorded, Refuses}
use Rattle.dm_store.specs.View.{View}
use Rattle.dm_answers.specs.declared.answer.SlicePass.{SlicePass}
use Rattle.dm_answers.specs.declared.fault.DeskFault.{DeskFault}
use Rattle.dm_answers.specs.declared.fault.DeskFault.TheVariants as faults
use Rattle.dm_answers.specs.Frame.{FellWith, FileBroke, IsBroken, LifeOnly}
use Rattle.dm_answers.specs.Running.{RunsWith}
use Rattle.dm_answers.specs.Slices.{ComesNext, SliceDeclines}

-- the origin says each byte of the piece at its place, of the item's last address and under its key
abbrev pub SaysPiece : Says → List Item → ItemId → ℕ → List ℕ → Type 0
SaysPiece says items id at piece = (item : Item) (key : Key) (address : List ℕ) → item_in id.0 items ≡ Some item → item.key ≡ Some key → item.last_address ≡ Some address
    → (k byte : ℕ) → slice_get piece k ≡ Some byte → says address key (at + k) byte

-- another place comes next
pub record IsElsewhere (pass : SlicePass) (at place : ℕ) (item : Item) (life : Life) : Type 0 where
  pub next : ComesNext pass place item life
  pub other : place ≢ at

-- the place comes next, and the piece passes the part's end
pub record IsPast (pass : SlicePass) (at count end : ℕ) (item : Item) (life : Life) : Type 0 where
  pub next : ComesNext pass at item life
  pub end_is : end ≡ pass.end
  pub past : pass.end < at + count

-- the piece has its place
pub record Fits (pass : SlicePass) (at count : ℕ) (item : Item) (life : Life) : Type 0 where
  pub next : ComesNext pass at item life
  pub fits : at + count ≤ pass.end

-- the piece has its place, and so many bytes are unsaved that they are to be saved first
pub record IsDue (pass : SlicePass) (at count checkpoint bytes : ℕ) (item : Item) (life : Life) : Type 0 where
  pub fits : Fits pass at count item life
  pub bytes_are : bytes ≡ life.unsaved
  pub due : checkpoint ≤ life.unsaved

-- the piece may land
pub record MayLand (pass : SlicePass) (at count checkpoint : ℕ) (item : Item) (life : Life) : Type 0 where
  pub fits : Fits pass at count item life
  pub below : life.unsaved < checkpoint

-- the life with so many bytes more in one of its slices
abbrev pub grown_life : ℕ → ℕ → Life → Life
grown_life index count life = record life { cover = grown life.cover index count; unsaved = life.unsaved + count }

-- Each answer, with its cause and what it makes of the desk. It wants no memory.
abbrev pub LandAnswers : {D O : Type 0} → (D → DiskKind → ℕ) → View D O → View D O → SlicePass → ℕ → List ℕ → Result (Unit {0}) DeskFault → Type 0
LandAnswers counts old new pass at piece (Ok done) =
    RunsWith old pass.id pass.attempt (MayLand pass at (length piece) old.limits.checkpoint) × LifeOnly old new pass.id.0 (grown_life pass.index (length piece))
LandAnswers counts old new pass at piece (Err faults.Broken) = IsBroken old new
LandAnswers counts old new pass at piece (Err (faults.NoItem id)) = Refuses old new (SliceDeclines old pass (gones.NoItem id))
LandAnswers counts old new pass at piece (Err (faults.Stale attempt round)) = Refuses old new (SliceDeclines old pass (gones.Stale attempt round))
LandAnswers counts old new pass at piece (Err (faults.NotNext place)) = Refuses old new (RunsWith old pass.id pass.attempt (IsElsewhere pass at place))
LandAnswers counts old new pass at piece (Err (faults.PastEnd end)) = Refuses old new (RunsWith old pass.id pass.attempt (IsPast pass at (length piece) end))
LandAnswers counts old new pass at piece (Err (faults.CheckpointDue bytes)) = Refuses old new (RunsWith old pass.id pass.attempt (IsDue pass at (length piece) old.limits.checkpoint bytes))
LandAnswers counts old new pass at piece (Err (faults.File kind)) =
    RunsWith old pass.id pass.attempt (MayLand pass at (length piece) old.limits.checkpoint) × Recorded old new (entries.Broke pass.id (reason_of_file kind) ∷ [])
LandAnswers counts old new pass at piece (Err (faults.Journal kind)) =
    RunsWith old pass.id pass.attempt (MayLand pass at (length piece) old.limits.checkpoint) × FellWith old new [] (FileBroke (counts old.disk) (counts new.disk) pass.id)
LandAnswers counts old new pass at piece _ = ⊥
