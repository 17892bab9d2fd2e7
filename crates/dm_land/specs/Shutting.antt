-- Which item is interrupted next where the program stops.
use Rattle.std.specs.Prelude.{◌≡◌, Bool, List, Option, find, Result, Ok, Err}
use Rattle.std.specs.Option.{option_map}
use Rattle.dm_types.specs.declared.item.Item.{Item}
use Rattle.dm_types.specs.declared.item.ItemId.{ItemId}
use Rattle.dm_types.specs.declared.kinds.DiskKind.{DiskKind}
use Rattle.dm_item.specs.Fields.{is_running}
use Rattle.dm_store.specs.Becomes.{Fell, Recorded}
use Rattle.dm_store.specs.View.{View}
use Rattle.dm_answers.specs.Shut.{shuts}

-- an attempt of the item runs
abbrev pub runs : Item → Bool
runs item = is_running item.phase

-- the first item of which an attempt runs
abbrev pub running_in : List Item → Option Item
running_in items = find runs items

-- each item that runs is interrupted, or the journal failed at one of them
abbrev pub ShutMakes : {D O : Type 0} → View D O → View D O → Result (Unit {0}) DiskKind → Type 0
ShutMakes old new (Ok done) = Recorded old new (shuts old.items.items)
ShutMakes old new (Err kind) = Fell old new (shuts old.items.items)
