-- How an item whose content is saved ends, by what is found of its part.
use Rattle.std.specs.Prelude.{◌≡◌, ◌⊎◌, ℕ, true, List, [], ◌∷◌, Option, Some, None, IsSome, Result, Ok, Err}
use Rattle.dm_types.specs.Faults.{Rose}
use Rattle.dm_types.specs.declared.entry.Entry.TheVariants as entries
use Rattle.dm_types.specs.declared.item.Item.{Item}
use Rattle.dm_types.specs.declared.item.ItemId.{ItemId}
use Rattle.dm_types.specs.declared.kinds.DiskKind.{DiskKind}
use Rattle.dm_types.specs.declared.reason.Reason.{Reason}
use Rattle.dm_disk_model.specs.Disk.{History as Clock, now}
use Rattle.dm_policy.specs.Cause.{reason_of_file}
use Rattle.dm_slice.specs.Words.{IsFull, cover_end}
use Rattle.dm_item.specs.Listing.{item_in}
use Rattle.dm_item.specs.Row.{IsTotalOf}
use Rattle.dm_store.specs.declared.life.Life.{Life}
use Rattle.dm_store.specs.Becomes.{Becomes, Fell, Recorded}
use Rattle.dm_store.specs.Lives.{life_in}
use Rattle.dm_store.specs.View.{View}
use Rattle.dm_answers.specs.declared.answer.Finished.{Finished}
use Rattle.dm_answers.specs.declared.answer.Finished.TheVariants as finished
use Rattle.dm_answers.specs.declared.fault.DeskFault.{DeskFault}
use Rattle.dm_answers.specs.declared.fault.DeskFault.TheVariants as faults
use Rattle.dm_answers.specs.Finish.{ended_early, mismatched}
use Rattle.dm_answers.specs.Frame.{FellWith, FileBroke}
use Rattle.dm_finish.specs.declared.confirming.Confirmed.{Confirmed}
use Rattle.dm_finish.specs.declared.confirming.Confirmed.TheVariants.{Sum, Other, Short}
use Rattle.dm_finish.specs.declared.naming.Naming.{Naming}
use Rattle.dm_finish.specs.Ending.{ConfirmedAs, GivesName, IsNaming}

-- Of a desk behind the saving: the item's attempt runs, all of its content is saved, and this names its file.
pub record IsClosing {D O : Type 0} (desk : View D O) (id : ItemId) (total : ℕ) (stated : Option (List ℕ)) (naming : Naming) : Type 0 where
  pub item : Item
  pub life : Life
  pub there : item_in id.0 desk.items.items ≡ Some item
  pub lives : life_in id.0 desk.lives ≡ Some life
  pub told : IsSome item.key
  pub full : IsFull total item.slices
  pub total_is : IsTotalOf item.total item.slices total
  pub live_total : item.total ≡ None → total ≡ cover_end life.cover
  pub stated_is : item.digest ≡ stated
  pub naming_is : IsNaming desk id total naming

-- this was found of the part at the start
abbrev pub Finds : {D O : Type 0} → Type 0 → (D → Clock) → View D O → ℕ → Option (List ℕ) → Naming → Confirmed → Type 0
Finds tells clock old total stated naming found = ConfirmedAs tells (now (clock old.disk)) naming.part total stated found

-- some sum was found, and P holds of it
pub record FindsSum {D O : Type 0} (tells : Type 0) (clock : D → Clock) (old : View D O) (total : ℕ) (stated : Option (List ℕ)) (naming : Naming) (P : List ℕ → Type 0) : Type 0 where
  pub digest : List ℕ
  pub found : Finds tells clock old total stated naming (Sum digest)
  pub is : P digest

-- another sum than the stated one was found, or the part ends early, and the interruption for it failed
pub record FellOther {D O : Type 0} (tells : Type 0) (clock : D → Clock) (old new : View D O) (id : ItemId) (total : ℕ) (stated : Option (List ℕ)) (naming : Naming) : Type 0 where
  pub have : List ℕ
  pub wanted : List ℕ
  pub found : Finds tells clock old total stated naming (Other have wanted)
  pub fell : Fell old new (mismatched id)

pub record FellShort {D O : Type 0} (tells : Type 0) (clock : D → Clock) (old new : View D O) (id : ItemId) (total : ℕ) (stated : Option (List ℕ)) (naming : Naming) : Type 0 where
  pub have : ℕ
  pub found : Finds tells clock old total stated naming (Short have)
  pub fell : Fell old new (ended_early id)

-- The item was interrupted and this is answered, or the journal failed at it.
pub record IsStopped {D O : Type 0} (old new : View D O) (id : ItemId) (reason : Reason) (answer result : Result Finished DeskFault) : Type 0 where
  pub same : result ≡ answer
  pub recorded : Recorded old new (entries.Broke id reason ∷ [])

pub record IsUnstopped {D O : Type 0} (before after : DiskKind → ℕ) (old new : View D O) (id : ItemId) (reason : Reason) (result : Result Finished DeskFault) : Type 0 where
  pub kind : DiskKind
  pub is : result ≡ Err (faults.Journal kind)
  pub rose : Rose (before kind) (after kind)
  pub becomes : Becomes old new [] (entries.Broke id reason ∷ []) true

abbrev pub StopMakes : {D O : Type 0} → (DiskKind → ℕ) → (DiskKind → ℕ) → View D O → View D O → ItemId → Reason → Result Finished DeskFault → Result Finished DeskFault → Type 0
StopMakes before after old new id reason answer result = IsStopped old new id reason answer result ⊎ IsUnstopped before after old new id reason result

-- The file has its name, or it couldn't be given or recorded.
abbrev pub CompleteMakes : {D O : Type 0} → View D O → View D O → ItemId → ℕ → List ℕ → ℕ → Result Finished DeskFault → Type 0
CompleteMakes old new id total digest at (Ok finished.Complete) = GivesName old new id total digest at (Ok tt)
CompleteMakes old new id total digest at (Err (faults.Journal kind)) = GivesName old new id total digest at (Err kind)
CompleteMakes old new id total digest at _ = ⊥

-- Each answer, with what was found and what was recorded.
abbrev pub Closes : {D O : Type 0} → Type 0 → (D → Clock) → (D → DiskKind → ℕ) → View D O → View D O → ItemId → ℕ → Option (List ℕ) → Naming → ℕ → Result Finished DeskFault → Type 0
Closes tells clock counts old new id total stated naming at (Ok finished.Complete) = FindsSum tells clock old total stated naming (λ digest. GivesName old new id total digest at (Ok tt))
Closes tells clock counts old new id total stated naming at (Ok (finished.Mismatch have wanted)) = Finds tells clock old total stated naming (Other have wanted) × Recorded old new (mismatched id)
Closes tells clock counts old new id total stated naming at (Ok (finished.Short have wanted)) = (wanted ≡ total) × Finds tells clock old total stated naming (Short have) × Recorded old new (ended_early id)
Closes tells clock counts old new id total stated naming at (Err (faults.File kind)) = Recorded old new (entries.Broke id (reason_of_file kind) ∷ [])
Closes tells clock counts old new id total stated naming at (Err (faults.Journal kind)) =
    FindsSum tells clock old total stated naming (λ digest. GivesName old new id total digest at (Err kind))
    ⊎ (FellOther tells clock old new id total stated naming ⊎ (FellShort tells clock old new id total stated naming ⊎ FellWith old new [] (FileBroke (counts old.disk) (counts new.disk) id)))
Closes tells clock counts old new id total stated naming at _ = ⊥
