-- Which parts are of no use any more, and that they are removed.
use Rattle.std.specs.Prelude.{◌≡◌, ◌≢◌, ◌⊎◌, ℕ, ◌<◌, ◌^◌, true, List, [], Option, Some, None, Result, Ok, Err}
use Rattle.dm_types.specs.Name.{part_name}
use Rattle.dm_types.specs.declared.item.Item.{Item}
use Rattle.dm_disk_model.specs.Disk.{History as Clock, StandsNot, now}
use Rattle.dm_item.specs.Listing.{Listing, item_in}
use Rattle.dm_item.specs.Row.{is_cancelled, is_complete}
use Rattle.dm_part.specs.Laws.{files_place}
use Rattle.dm_store.specs.Becomes.{Recorded}
use Rattle.dm_store.specs.View.{View}
use Rattle.dm_answers.specs.declared.fault.DeskFault.{DeskFault}
use Rattle.dm_answers.specs.declared.fault.DeskFault.TheVariants as faults
use Rattle.dm_answers.specs.Frame.{IsBroken, RefusesStill}

-- the item is gone, cancelled, complete or of another epoch
abbrev pub IsOutlived : ℕ → Option Item → Type 0
IsOutlived epoch None = Unit {0}
IsOutlived epoch (Some item) = (is_cancelled item.phase ≡ true) ⊎ ((is_complete item.phase ≡ true) ⊎ (item.epoch.0 ≢ epoch))

-- the name is that of a part which an item of the list once had, and which none needs
pub record IsLeftover (items : Listing) (name : List ℕ) : Type 0 where
  pub id : ℕ
  pub epoch : ℕ
  pub small : (id < 2 ^ 32) × (epoch < 2 ^ 32)
  pub is : name ≡ part_name id epoch
  pub given : id < items.next
  pub outlived : IsOutlived epoch (item_in id items.items)

-- none of them stands
abbrev pub IsSwept : {D O : Type 0} → (D → Clock) → View D O → View D O → Type 0
IsSwept clock old new = (name : List ℕ) → IsLeftover old.items name → StandsNot (now (clock new.disk)) (files_place name)

-- Each answer, and what it makes of the desk. No item is interrupted.
abbrev pub SweepAnswers : {D O : Type 0} → Type 0 → (D → Clock) → View D O → View D O → Result (Unit {0}) DeskFault → Type 0
SweepAnswers tells clock old new (Ok done) = Recorded old new [] × (tells → IsSwept clock old new)
SweepAnswers tells clock old new (Err faults.Broken) = IsBroken old new
SweepAnswers tells clock old new (Err faults.NoMemory) = RefusesStill clock old new (Unit {0})
SweepAnswers tells clock old new (Err (faults.File kind)) = Recorded old new []
SweepAnswers tells clock old new _ = ⊥
