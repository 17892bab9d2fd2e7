-- A file that is given its name.
use Rattle.std.specs.Prelude.{◌≡◌, ◌⊎◌, ℕ, List, Some}
use Rattle.dm_types.specs.Name.{IsPart}
use Rattle.dm_types.specs.declared.item.Item.{Item}
use Rattle.dm_types.specs.declared.item.Phase.TheVariants as phases
use Rattle.dm_disk_model.specs.declared.place.Place.{Place}
use Rattle.dm_part.specs.Laws.{files_place}
use Rattle.dm_item.specs.Listing.{item_in}
use Rattle.dm_store.specs.Lives.{part_place}

-- The item with the id is being finished: its content lies in this part, and gets this name.
pub record IsMoving (items : List Item) (id : ℕ) (part target : Place) : Type 0 where
  pub item : Item
  pub there : item_in id items ≡ Some item
  pub finishing : item.phase ≡ phases.Finishing
  pub part_is : part ≡ part_place item.id.0 item.epoch.0
  pub name : List ℕ
  pub name_is : item.name ≡ Some name
  pub target_is : target ≡ files_place name

-- a part's name, or the one that the file gets
abbrev pub IsPartOr : List ℕ → List ℕ → Type 0
IsPartOr target name = IsPart name ⊎ (name ≡ target)
