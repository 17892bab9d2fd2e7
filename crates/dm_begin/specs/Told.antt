-- How an item is described.
use Rattle.std.specs.Prelude.{◌≡◌, ◌⊎◌, ℕ, ◌^◌, ◌≤◌, true, List, [], ◌∷◌, Option, Some, None, IfSome, Result, Ok, Err}
use Rattle.dm_types.specs.Name.{IsPart}
use Rattle.dm_types.specs.declared.entry.Entry.{Entry}
use Rattle.dm_types.specs.declared.entry.Entry.TheVariants as entries
use Rattle.dm_types.specs.declared.item.Item.{Item}
use Rattle.dm_types.specs.declared.item.ItemId.{ItemId}
use Rattle.dm_types.specs.declared.item.Key.{Key}
use Rattle.dm_types.specs.declared.kinds.DiskKind.{DiskKind}
use Rattle.dm_disk_model.specs.Disk.{History as Clock, now}
use Rattle.dm_disk_model.specs.Folder.{names_of}
use Rattle.dm_policy.specs.Cause.{reason_of_file}
use Rattle.dm_item.specs.Lawful.{History}
use Rattle.dm_item.specs.Listing.{item_in}
use Rattle.dm_item.specs.Row.{IsFreeName, IsKeyOf}
use Rattle.dm_store.specs.declared.life.Life.{Life}
use Rattle.dm_store.specs.declared.pass.Gone.TheVariants as gones
use Rattle.dm_store.specs.declared.pass.Pass.{Pass}
use Rattle.dm_store.specs.Becomes.{Becomes, Recorded}
use Rattle.dm_store.specs.Lives.{life_in}
use Rattle.dm_store.specs.Passes.{PassDeclines}
use Rattle.dm_store.specs.Saving.{FellStopped}
use Rattle.dm_store.specs.View.{View}
use Rattle.dm_answers.specs.declared.answer.Named.{Named}
use Rattle.dm_answers.specs.declared.answer.Named.TheVariants as named
use Rattle.dm_answers.specs.declared.answer.Told.{Told}
use Rattle.dm_answers.specs.declared.fault.DeskFault.{DeskFault}
use Rattle.dm_answers.specs.declared.fault.DeskFault.TheVariants as faults
use Rattle.dm_answers.specs.Describe.{GivesName, GivesNone, IsSilent, RecordedOne}
use Rattle.dm_answers.specs.Frame.{FellWith, FileBroke, IsOne}
use Rattle.dm_answers.specs.Running.{IsTold, RunsWith}

-- the first reply may be told, or why it may not
abbrev pub DescribeChecks : {D O : Type 0} → View D O → Pass → Result (Unit {0}) DeskFault → Type 0
DescribeChecks desk pass (Ok done) = RunsWith desk pass.id pass.attempt IsSilent
DescribeChecks desk pass (Err (faults.NoItem id)) = PassDeclines desk pass.id pass.attempt (gones.NoItem id)
DescribeChecks desk pass (Err (faults.Stale attempt round)) = PassDeclines desk pass.id pass.attempt (gones.Stale attempt round)
DescribeChecks desk pass (Err (faults.WrongState phase)) = RunsWith desk pass.id pass.attempt (IsTold phase)
DescribeChecks desk pass _ = ⊥

-- The entry describes an item whose attempt runs and whose first reply wasn't told, by a name that is no part's and is free.
pub record IsDescribing {D O : Type 0} (tells : Type 0) (clock : D → Clock) (desk : View D O) (id : ItemId) (entry : Entry) : Type 0 where
  pub item : Item
  pub there : item_in id.0 desk.items.items ≡ Some item
  pub life : Life
  pub lives : life_in id.0 desk.lives ≡ Some life
  pub untold : item.key ≡ None
  pub key : Key
  pub address : List ℕ
  pub total : Option ℕ
  pub name : List ℕ
  pub modified : List ℕ
  pub is : entry ≡ entries.Described id key address total name modified
  pub small : IfSome total (λ bytes. bytes ≤ 2 ^ 40)
  pub free : IsFreeName item.id.0 name desk.items.items
  pub own : IsKeyOf item key
  pub no_part : IsPart name → ⊥
  pub absent : tells → names_of (now (clock desk.disk)).files name ≡ None

-- what was tried where the journal failed
abbrev pub NameTries : (DiskKind → ℕ) → (DiskKind → ℕ) → Pass → Told → List (List ℕ) → History → Type 0
NameTries before after pass told taken tries =
    IsOne (λ entry. GivesName pass told entry taken) tries ⊎ (IsOne (λ entry. GivesNone pass told entry taken) tries ⊎ FileBroke before after pass.id tries)

-- What comes of a wish, where these names are taken.
abbrev pub NameAnswers : {D O : Type 0} → (D → DiskKind → ℕ) → View D O → View D O → Pass → Told → List (List ℕ) → Result Named DeskFault → Type 0
NameAnswers counts old new pass told taken (Ok named.Named) = RecordedOne old new (λ entry. GivesName pass told entry taken)
NameAnswers counts old new pass told taken (Ok named.AllTaken) = RecordedOne old new (λ entry. GivesNone pass told entry taken)
NameAnswers counts old new pass told taken (Err faults.NoMemory) = new ≡ old
NameAnswers counts old new pass told taken (Err (faults.File kind)) = Recorded old new (entries.Broke pass.id (reason_of_file kind) ∷ [])
NameAnswers counts old new pass told taken (Err (faults.Journal kind)) = FellWith old new [] (NameTries (counts old.disk) (counts new.disk) pass told taken)
NameAnswers counts old new pass told taken _ = ⊥

-- What comes of one entry that a part is made for.
abbrev pub EntryAnswers : {D O : Type 0} → (D → DiskKind → ℕ) → View D O → View D O → ItemId → Entry → Result (Unit {0}) DeskFault → Type 0
EntryAnswers counts old new id entry (Ok done) = Recorded old new (entry ∷ [])
EntryAnswers counts old new id entry (Err faults.NoMemory) = new ≡ old
EntryAnswers counts old new id entry (Err (faults.File kind)) = Recorded old new (entries.Broke id (reason_of_file kind) ∷ [])
EntryAnswers counts old new id entry (Err (faults.Journal kind)) = Becomes old new [] (entry ∷ []) true ⊎ FellStopped (counts old.disk) (counts new.disk) old new id
EntryAnswers counts old new id entry _ = ⊥
