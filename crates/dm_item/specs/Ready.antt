-- What is made of the list before an entry is recorded, so that the list then takes it without memory.
use Rattle.std.specs.Prelude.{◌≡◌, Bool, true, false, cond, List, Option, None, option_map}
use Rattle.dm_types.specs.declared.item.Item.{Item}
use Rattle.dm_types.specs.declared.entry.Entry.{Entry}
use Rattle.dm_types.specs.declared.entry.Entry.TheVariants as entries
use Rattle.dm_item.specs.Row.{changed}
use Rattle.dm_item.specs.Listing.{Listing, is_light, target_in}

-- the entry adds an item
abbrev pub adds_item : Entry → Bool
adds_item (entries.Added id word address wish digest at) = true
adds_item (entries.Restored item) = true
adds_item _ = false

-- the item that the entry changes, as it will be then, where changing it wants memory
abbrev pub readied : Entry → List Item → Option Item
readied e items = cond (is_light e) None (option_map (changed e) (target_in e items))

-- this was made ready of the list for the entry
abbrev pub IsReady : Listing → Entry → Option Item → Type 0
IsReady v e item = item ≡ readied e v.items
