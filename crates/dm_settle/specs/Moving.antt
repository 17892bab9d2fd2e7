-- Items that are being finished, and where their files lie.
use Rattle.std.specs.Prelude.{◌≡◌, ◌↔◌, ℕ, List, [], ◌∷◌, Option, Some, None, IfSome, IsSome, Contains}
use Rattle.dm_types.specs.Name.{part_name}
use Rattle.dm_types.specs.declared.item.Item.{Item}
use Rattle.dm_types.specs.declared.item.ItemId.{ItemId}
use Rattle.dm_types.specs.declared.item.Phase.TheVariants as phases
use Rattle.dm_disk_model.specs.Folder.{Folder, names_of}
use Rattle.dm_item.specs.History.{get}
use Rattle.dm_item.specs.Listing.{item_in}
use Rattle.dm_kept.specs.Files.{EachItem}
use Rattle.dm_store.specs.Lives.{part_place}
use Rattle.dm_answers.specs.Settling.{finishing, name_place, whole_of}
use Rattle.dm_settle.specs.declared.moving.Moving.{Moving}

-- this is known of the item
pub record IsMovingOf (item : Item) (moving : Moving) : Type 0 where
  pub id : moving.id ≡ item.id
  pub part : moving.part ≡ part_place item.id.0 item.epoch.0
  pub target : moving.target ≡ name_place item
  pub total : moving.total ≡ whole_of item
  pub digest : moving.digest ≡ item.digest

-- it is the first item that is being finished
pub record IsFirstOf (items : List Item) (moving : Moving) : Type 0 where
  pub item : Item
  pub rest : List Item
  pub first : finishing items ≡ item ∷ rest
  pub is : IsMovingOf item moving

abbrev pub NextMoving : List Item → Option Moving → Type 0
NextMoving items None = finishing items ≡ []
NextMoving items (Some moving) = IsFirstOf items moving

-- it is an item of the list that is being finished
pub record IsFinishingIn (items : List Item) (moving : Moving) : Type 0 where
  pub item : Item
  pub there : item_in moving.id.0 items ≡ Some item
  pub finishing : item.phase ≡ phases.Finishing
  pub is : IsMovingOf item moving

-- what was listed of the item's part and of its name is what stands
pub record IsListedFor (folder : Folder) (names : List (List ℕ)) (item : Item) : Type 0 where
  pub part : Contains names (part_name item.id.0 item.epoch.0) ↔ IsSome (names_of folder (part_name item.id.0 item.epoch.0))
  pub name : Contains names (get item.name []) ↔ IsSome (names_of folder (get item.name []))

-- so of each item that is being finished
abbrev pub AreListed : Folder → List (List ℕ) → List Item → Type 0
AreListed folder names items = EachItem (λ item. item.phase ≡ phases.Finishing → IsListedFor folder names item) items

-- the item with the id is being finished
pub record IsFinishingAt (items : List Item) (id : ItemId) : Type 0 where
  pub item : Item
  pub there : item_in id.0 items ≡ Some item
  pub finishing : item.phase ≡ phases.Finishing

-- a digest that was stated of it is this one
abbrev pub AreStated : List Item → ItemId → List ℕ → Type 0
AreStated items id sum = (item : Item) → item_in id.0 items ≡ Some item → IfSome item.digest (λ stated. stated ≡ sum)
