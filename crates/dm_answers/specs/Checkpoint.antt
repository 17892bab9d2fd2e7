-- How what was landed is saved.
use Rattle.std.specs.Prelude.{◌≡◌, ◌⊎◌, ℕ, ◌<◌, [], ◌∷◌, Result, Ok, Err}
use Rattle.dm_types.specs.declared.entry.Entry.TheVariants as entries
use Rattle.dm_types.specs.declared.item.Item.{Item}
use Rattle.dm_types.specs.declared.kinds.DiskKind.{DiskKind}
use Rattle.dm_policy.specs.Cause.{reason_of_file}
use Rattle.dm_store.specs.declared.life.Life.{Life}
use Rattle.dm_store.specs.declared.pass.Gone.TheVariants as gones
use Rattle.dm_store.specs.declared.pass.Pass.{Pass}
use Rattle.dm_store.specs.Becomes.{Recorded, Fell, Refuses}
use Rattle.dm_store.specs.Passes.{PassDeclines}
use Rattle.dm_store.specs.View.{View}
use Rattle.dm_answers.specs.declared.fault.DeskFault.{DeskFault}
use Rattle.dm_answers.specs.declared.fault.DeskFault.TheVariants as faults
use Rattle.dm_answers.specs.Frame.{FellWith, FileBroke, IsBroken}
use Rattle.dm_answers.specs.Running.{RunsWith, saving}

-- something was landed since the last time
abbrev pub HasUnsaved : Item → Life → Type 0
HasUnsaved item life = 0 < life.unsaved

-- It was saved; nothing at all was done where nothing was landed.
pub record IsSaved {D O : Type 0} (old new : View D O) (item : Item) (life : Life) : Type 0 where
  pub saved : Recorded old new (saving item life)
  pub still : life.unsaved ≡ 0 → new ≡ old

-- something is to be saved, and the journal failed: at that, or at the interruption by a file
pub record FallsSaving {D O : Type 0} (before after : DiskKind → ℕ) (old new : View D O) (item : Item) (life : Life) : Type 0 where
  pub unsaved : 0 < life.unsaved
  pub fell : Fell old new (saving item life) ⊎ FellWith old new [] (FileBroke before after item.id)

-- Each answer, with its cause and what it makes of the desk.
abbrev pub CheckpointAnswers : {D O : Type 0} → (D → DiskKind → ℕ) → View D O → View D O → Pass → Result (Unit {0}) DeskFault → Type 0
CheckpointAnswers counts old new pass (Ok done) = RunsWith old pass.id pass.attempt (IsSaved old new)
CheckpointAnswers counts old new pass (Err faults.Broken) = IsBroken old new
CheckpointAnswers counts old new pass (Err (faults.NoItem id)) = Refuses old new (PassDeclines old pass.id pass.attempt (gones.NoItem id))
CheckpointAnswers counts old new pass (Err (faults.Stale attempt round)) = Refuses old new (PassDeclines old pass.id pass.attempt (gones.Stale attempt round))
CheckpointAnswers counts old new pass (Err faults.NoMemory) = Refuses old new (RunsWith old pass.id pass.attempt HasUnsaved)
CheckpointAnswers counts old new pass (Err (faults.File kind)) =
    RunsWith old pass.id pass.attempt HasUnsaved × Recorded old new (entries.Broke pass.id (reason_of_file kind) ∷ [])
CheckpointAnswers counts old new pass (Err (faults.Journal kind)) = RunsWith old pass.id pass.attempt (FallsSaving (counts old.disk) (counts new.disk) old new)
CheckpointAnswers counts old new pass _ = ⊥
