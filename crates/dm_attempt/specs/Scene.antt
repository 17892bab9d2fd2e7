-- What an attempt begins with, and the item as it makes it.
use Rattle.std.specs.Prelude.{◌≡◌, ℕ, List, [], ◌∷◌, ◌++◌, map, Option}
use Rattle.dm_types.specs.declared.entry.Entry.TheVariants as entries
use Rattle.dm_types.specs.declared.item.Item.{Item}
use Rattle.dm_types.specs.declared.kinds.By.{By}
use Rattle.dm_types.specs.declared.slices.Slice.{Slice}
use Rattle.dm_edge.specs.declared.fault.NetFault.{NetFault}
use Rattle.dm_edge.specs.Wire.{Closed}
use Rattle.dm_item.specs.Lawful.{History}
use Rattle.dm_item.specs.Row.{changed}
use Rattle.dm_store.specs.View.{View}
use Rattle.dm_answers.specs.Begin.{beginning}
use Rattle.dm_attempt.specs.Trace.{Tale, Trace, cover_of, told_entries}

-- the desk and the item before the attempt, by whom and when it begins, and which connections were closed and how often the net had failed before
pub record Scene (D O : Type 0) : Type 0 where
  pub start : View D O
  pub item : Item
  pub by : By
  pub at : ℕ
  pub closed : List Closed
  pub counts : NetFault → ℕ

-- what entries make of an item
abbrev pub changed_all : History → Item → Item
changed_all [] item = item
changed_all (entry ∷ more) item = changed_all more (changed entry item)

-- the item of the attempt that begins
abbrev pub begun_by : {D O : Type 0} → Scene D O → Item
begun_by scene = changed_all (beginning scene.item scene.by scene.at) scene.item

-- the item with what was told
abbrev pub told_by : {D O : Type 0} → Scene D O → Option Tale → Item
told_by scene told = changed_all (told_entries scene.item.id told) (begun_by scene)

-- the item with what was told and saved
abbrev pub item_by : {D O : Type 0} → Scene D O → Trace → Item
item_by scene trace = changed_all (map (entries.Progress scene.item.id) trace.saves) (told_by scene trace.told)

-- the live cover
abbrev pub cover_by : {D O : Type 0} → Scene D O → Trace → List Slice
cover_by scene trace = cover_of (begun_by scene).slices (told_by scene trace.told).total trace.count scene.start.limits.min_slice trace.rounds
