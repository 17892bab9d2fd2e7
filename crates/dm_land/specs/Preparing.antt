-- What is made ready before what was landed is saved.
use Rattle.std.specs.Prelude.{◌≡◌, ◌<◌, ℕ, [], ◌∷◌, Option, Some, None, IfSome, IsSomeAnd, Result, Ok, Err}
use Rattle.dm_types.specs.declared.item.ItemId.{ItemId}
use Rattle.dm_types.specs.declared.kinds.DiskKind.{DiskKind}
use Rattle.dm_types.specs.declared.memory.NoMemory.{NoMemory}
use Rattle.dm_item.specs.Lawful.{History}
use Rattle.dm_store.specs.declared.saving.SaveFault.{SaveFault}
use Rattle.dm_store.specs.declared.saving.SaveFault.TheVariants.{File, Journal}
use Rattle.dm_store.specs.Becomes.{Recorded}
use Rattle.dm_store.specs.Lives.{life_in}
use Rattle.dm_store.specs.Readied.{IsReadied}
use Rattle.dm_store.specs.Saving.{IsSaving, SaveMakes}
use Rattle.dm_store.specs.View.{View}
use Rattle.dm_answers.specs.declared.fault.DeskFault.{DeskFault}
use Rattle.dm_answers.specs.declared.fault.DeskFault.TheVariants as faults
use Rattle.dm_land.specs.declared.saving.Prepared.{Prepared}

-- something was landed since the last time, and this saves it
pub record IsPrepared {D O : Type 0} (desk : View D O) (id : ItemId) (prepared : Prepared) : Type 0 where
  pub saving : IsSaving desk id prepared.entry
  pub unsaved : 0 < saving.life.unsaved
  pub readied : IsReadied desk.items prepared.entry prepared.readied

-- where an attempt runs and something was landed since the last time, it is made ready
abbrev pub PreparedOf : {D O : Type 0} → View D O → ItemId → Option Prepared → Type 0
PreparedOf desk id None = IfSome (life_in id.0 desk.lives) (λ life. life.unsaved ≡ 0)
PreparedOf desk id (Some prepared) = IsPrepared desk id prepared

-- memory is wanted only then
abbrev pub PrepareAnswers : {D O : Type 0} → View D O → ItemId → Result (Option Prepared) NoMemory → Type 0
PrepareAnswers desk id (Ok found) = PreparedOf desk id found
PrepareAnswers desk id (Err fault) = IsSomeAnd (life_in id.0 desk.lives) (λ life. 0 < life.unsaved)

-- what is answered where it couldn't be saved
abbrev pub fault_of_save : SaveFault → DeskFault
fault_of_save (File kind) = faults.File kind
fault_of_save (Journal kind) = faults.Journal kind

-- what is saved
abbrev pub saved_by : Option Prepared → History
saved_by None = []
saved_by (Some prepared) = prepared.entry ∷ []

-- It is saved, where it was made ready; or the part failed and the item is interrupted; or the journal failed at the one or the other.
abbrev pub SaveIfMakes : {D O : Type 0} → (DiskKind → ℕ) → (DiskKind → ℕ) → View D O → View D O → ItemId → Option Prepared → Result (Unit {0}) SaveFault → Type 0
SaveIfMakes before after old new id prepared (Ok done) = Recorded old new (saved_by prepared)
SaveIfMakes before after old new id None (Err fault) = ⊥
SaveIfMakes before after old new id (Some prepared) (Err fault) = SaveMakes before after old new id prepared.entry (Err fault)
