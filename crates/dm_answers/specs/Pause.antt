-- How an item is paused.
use Rattle.std.specs.Prelude.{◌≡◌, ◌⊎◌, ℕ, ◌<◌, false, [], ◌∷◌, ◌++◌, Option, Some, None, IsTrue, IsSomeAnd, Result, Ok, Err}
use Rattle.dm_types.specs.declared.entry.Entry.TheVariants as entries
use Rattle.dm_types.specs.declared.item.Item.{Item}
use Rattle.dm_types.specs.declared.item.ItemId.{ItemId}
use Rattle.dm_types.specs.declared.item.Phase.{Phase}
use Rattle.dm_types.specs.declared.kinds.DiskKind.{DiskKind}
use Rattle.dm_policy.specs.Cause.{reason_of_file}
use Rattle.dm_item.specs.Lawful.{History}
use Rattle.dm_item.specs.Row.{allows, is_paused}
use Rattle.dm_store.specs.declared.life.Life.{Life}
use Rattle.dm_store.specs.Becomes.{Fell, Recorded, Refuses}
use Rattle.dm_store.specs.Lives.{life_in}
use Rattle.dm_store.specs.View.{View}
use Rattle.dm_answers.specs.declared.fault.DeskFault.{DeskFault}
use Rattle.dm_answers.specs.declared.fault.DeskFault.TheVariants as faults
use Rattle.dm_answers.specs.Frame.{FellWith, FileBroke, IsBroken}
use Rattle.dm_answers.specs.Running.{HasNone, ItemWith, saving}

-- what is saved of the attempt, where one runs
abbrev pub saving_of : Item → Option Life → History
saving_of item None = []
saving_of item (Some life) = saving item life

-- what pausing records: what was landed is saved first
abbrev pub pausing : Item → Option Life → History
pausing item life = saving_of item life ++ entries.Paused item.id ∷ []

-- the item waits, runs or is interrupted
abbrev pub MayPause : Item → Type 0
MayPause item = IsTrue (allows (entries.Paused item.id) item.phase)

-- the item is neither paused nor in a phase in which it may be
pub record MayNotPause (phase : Phase) (item : Item) : Type 0 where
  pub phase_is : phase ≡ item.phase
  pub not_paused : is_paused item.phase ≡ false
  pub row : allows (entries.Paused item.id) item.phase ≡ false

-- an attempt runs, of which something is to be saved
pub record HasUnsavedLife (life : Option Life) (item : Item) : Type 0 where
  pub may : MayPause item
  pub unsaved : IsSomeAnd life (λ running. 0 < running.unsaved)

-- what was tried where the journal failed: all of it, or the interruption by a file
abbrev pub PauseFell : {D O : Type 0} → (D → DiskKind → ℕ) → View D O → View D O → ItemId → Item → Type 0
PauseFell counts old new id item =
    Fell old new (pausing item (life_in id.0 old.lives)) ⊎ (HasUnsavedLife (life_in id.0 old.lives) item × FellWith old new [] (FileBroke (counts old.disk) (counts new.disk) id))

-- Each answer, with its cause and what it makes of the desk.
abbrev pub PauseAnswers : {D O : Type 0} → (D → DiskKind → ℕ) → View D O → View D O → ItemId → Result (Unit {0}) DeskFault → Type 0
PauseAnswers counts old new id (Ok done) =
    Refuses old new (ItemWith old id (λ item. IsTrue (is_paused item.phase))) ⊎ ItemWith old id (λ item. MayPause item × Recorded old new (pausing item (life_in id.0 old.lives)))
PauseAnswers counts old new id (Err faults.Broken) = IsBroken old new
PauseAnswers counts old new id (Err (faults.NoItem other)) = Refuses old new (HasNone old id other)
PauseAnswers counts old new id (Err (faults.WrongState phase)) = Refuses old new (ItemWith old id (MayNotPause phase))
PauseAnswers counts old new id (Err faults.NoMemory) = Refuses old new (ItemWith old id MayPause)
PauseAnswers counts old new id (Err (faults.File kind)) =
    ItemWith old id (HasUnsavedLife (life_in id.0 old.lives)) × Recorded old new (entries.Broke id (reason_of_file kind) ∷ [])
PauseAnswers counts old new id (Err (faults.Journal kind)) = ItemWith old id (λ item. MayPause item × PauseFell counts old new id item)
PauseAnswers counts old new id _ = ⊥
