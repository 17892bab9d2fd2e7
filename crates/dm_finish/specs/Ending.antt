-- What is found of an attempt that has brought all, and what is recorded of it.
use Rattle.std.specs.Prelude.{◌≡◌, ◌≢◌, ◌⊎◌, ℕ, ◌<◌, true, List, [], ◌∷◌, Option, Some, None, IfSome, IsSome, Result, Ok, Err}
use Rattle.dm_types.specs.declared.entry.Entry.TheVariants as entries
use Rattle.dm_types.specs.declared.item.Item.{Item}
use Rattle.dm_types.specs.declared.item.ItemId.{ItemId}
use Rattle.dm_types.specs.declared.item.Phase.TheVariants as phases
use Rattle.dm_types.specs.declared.kinds.DiskKind.{DiskKind}
use Rattle.dm_disk_model.specs.declared.place.Place.{Place}
use Rattle.dm_disk_model.specs.Disk.{DiskState, History as Clock, Stands, bytes_at, now}
use Rattle.dm_slice.specs.Words.{IsFull, cover_end}
use Rattle.dm_item.specs.Listing.{item_in}
use Rattle.dm_item.specs.Row.{IsTotalOf}
use Rattle.dm_part.specs.declared.hashing.PartFault.{PartFault}
use Rattle.dm_part.specs.declared.hashing.PartFault.TheVariants as parts
use Rattle.dm_part.specs.Laws.{files_place}
use Rattle.dm_store.specs.declared.life.Life.{Life}
use Rattle.dm_store.specs.declared.pass.Pass.{Pass}
use Rattle.dm_store.specs.Becomes.{Becomes, Fell, Recorded}
use Rattle.dm_store.specs.Lives.{life_in, part_place}
use Rattle.dm_store.specs.Publishing.{IsMoving}
use Rattle.dm_store.specs.Readied.{IsReadied}
use Rattle.dm_store.specs.View.{View}
use Rattle.dm_answers.specs.declared.fault.DeskFault.{DeskFault}
use Rattle.dm_answers.specs.Faults.{desk_kind}
use Rattle.dm_answers.specs.Finish.{FinishAnswers, HasSum, MayFinish, total_of}
use Rattle.dm_answers.specs.Running.{RunsWith, length_of}
use Rattle.dm_finish.specs.declared.confirming.Confirmed.{Confirmed}
use Rattle.dm_finish.specs.declared.confirming.Confirmed.TheVariants.{Sum, Other, Short}
use Rattle.dm_finish.specs.declared.naming.Naming.{Naming}

-- all of it has come, and this is its total
pub record IsFullAt (total : ℕ) (item : Item) (life : Life) : Type 0 where
  pub may : MayFinish item life
  pub total_is : total ≡ total_of item life

-- the attempt's total, or `finish` is refused on the desk as it is, and no call on the disk was made
abbrev pub FinishChecked : {D O : Type 0} → Type 0 → (D → Clock) → (D → DiskKind → ℕ) → View D O → Pass → ℕ → Result ℕ DeskFault → Type 0
FinishChecked tells clock counts desk pass at (Ok total) = RunsWith desk pass.id pass.attempt (IsFullAt total)
FinishChecked tells clock counts desk pass at (Err fault) = FinishAnswers tells clock counts desk desk pass at (Err fault) × (desk_kind fault ≡ None)

-- a sum beside the stated one
abbrev pub Compares : List ℕ → Option (List ℕ) → Confirmed → Type 0
Compares have stated (Sum sum) = (sum ≡ have) × IfSome stated (λ d. d ≡ have)
Compares have stated (Other sum wanted) = (sum ≡ have) × (stated ≡ Some wanted) × (have ≢ wanted)
Compares have stated (Short end) = ⊥

-- what is found of a part that has no sum
abbrev pub unconfirmed : PartFault → Result Confirmed DiskKind
unconfirmed (parts.Disk kind) = Err kind
unconfirmed (parts.Short end) = Ok (Short end)

-- what is found of a part
abbrev pub ConfirmedAs : Type 0 → DiskState → Place → ℕ → Option (List ℕ) → Confirmed → Type 0
ConfirmedAs tells disk part total stated (Sum sum) = IfSome stated (λ d. d ≡ sum) × (tells → HasSum (bytes_at disk part) total sum)
ConfirmedAs tells disk part total stated (Other have wanted) = (stated ≡ Some wanted) × (have ≢ wanted) × (tells → HasSum (bytes_at disk part) total have)
ConfirmedAs tells disk part total stated (Short have) = (have < total) × (tells → have ≡ length_of (bytes_at disk part))

-- Of a desk that isn't broken: all of the item's content is there and saved, its attempt runs, and a sum of its part was taken.
pub record IsEnding {D O : Type 0} (tells : Type 0) (clock : D → Clock) (desk : View D O) (id : ItemId) (total : ℕ) (digest : List ℕ) : Type 0 where
  pub item : Item
  pub life : Life
  pub there : item_in id.0 desk.items.items ≡ Some item
  pub lives : life_in id.0 desk.lives ≡ Some life
  pub told : IsSome item.key
  pub full : IsFull total item.slices
  pub total_is : IsTotalOf item.total item.slices total
  pub live_total : item.total ≡ None → total ≡ cover_end life.cover
  pub stated : IfSome item.digest (λ d. d ≡ digest)
  pub sum : tells → HasSum (bytes_at (now (clock desk.disk)) (part_place item.id.0 item.epoch.0)) total digest

-- The item with the id is being finished: its file stands under its name, and has this sum.
pub record IsNamed {D O : Type 0} (tells : Type 0) (clock : D → Clock) (desk : View D O) (id : ItemId) (digest : List ℕ) : Type 0 where
  pub item : Item
  pub there : item_in id.0 desk.items.items ≡ Some item
  pub finishing : item.phase ≡ phases.Finishing
  pub total : ℕ
  pub total_is : item.total ≡ Some total
  pub stated : IfSome item.digest (λ d. d ≡ digest)
  pub name : List ℕ
  pub name_is : item.name ≡ Some name
  pub stands : tells → Stands (now (clock desk.disk)) (files_place name)
  pub sum : tells → HasSum (bytes_at (now (clock desk.disk)) (files_place name)) total digest

-- some sum of it was taken
pub record IsSumKnown {D O : Type 0} (tells : Type 0) (clock : D → Clock) (desk : View D O) (id : ItemId) (total : ℕ) : Type 0 where
  pub digest : List ℕ
  pub ending : IsEnding tells clock desk id total digest

-- what names the file of an item, with its memory
pub record IsNaming {D O : Type 0} (desk : View D O) (id : ItemId) (total : ℕ) (naming : Naming) : Type 0 where
  pub readied : IsReadied desk.items (entries.Finishing id total) naming.readied
  pub item : Item
  pub there : item_in id.0 desk.items.items ≡ Some item
  pub part_is : naming.part ≡ part_place item.id.0 item.epoch.0
  pub name : List ℕ
  pub name_is : item.name ≡ Some name
  pub target_is : naming.target ≡ files_place name

-- The item with the id is being finished, its content lies in this part, and has this sum.
pub record IsGiving {D O : Type 0} (tells : Type 0) (clock : D → Clock) (desk : View D O) (id : ItemId) (part target : Place) (digest : List ℕ) : Type 0 where
  pub moving : IsMoving desk.items.items id.0 part target
  pub total : ℕ
  pub total_is : moving.item.total ≡ Some total
  pub stated : IfSome moving.item.digest (λ d. d ≡ digest)
  pub stands : tells → Stands (now (clock desk.disk)) part
  pub sum : tells → HasSum (bytes_at (now (clock desk.disk)) part) total digest

-- The file has its name and that is recorded; or the journal failed at it, or the name couldn't be given.
abbrev pub NamesFile : {D O : Type 0} → View D O → View D O → ItemId → List ℕ → ℕ → Result (Unit {0}) DiskKind → Type 0
NamesFile old new id digest at (Ok done) = Recorded old new (entries.Done id digest at ∷ [])
NamesFile old new id digest at (Err kind) = Becomes old new [] (entries.Done id digest at ∷ []) true ⊎ Becomes old new [] [] true

-- the same behind the entry that the content is whole
abbrev pub GivesName : {D O : Type 0} → View D O → View D O → ItemId → ℕ → List ℕ → ℕ → Result (Unit {0}) DiskKind → Type 0
GivesName old new id total digest at (Ok done) = Recorded old new (entries.Finishing id total ∷ entries.Done id digest at ∷ [])
GivesName old new id total digest at (Err kind) =
    Fell old new (entries.Finishing id total ∷ entries.Done id digest at ∷ []) ⊎ Becomes old new (entries.Finishing id total ∷ []) [] true
