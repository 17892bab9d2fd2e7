-- The item that is due for an attempt.
use Rattle.std.specs.Prelude.{Bool, true, false, List, Option, Some, None, is_some, find, option_and_then}
use Rattle.std.specs.Option.{option_map}
use Rattle.dm_types.specs.declared.item.Item.{Item}
use Rattle.dm_types.specs.declared.item.ItemId.{ItemId}
use Rattle.dm_types.specs.declared.item.Phase.{Phase}
use Rattle.dm_types.specs.declared.item.Phase.TheVariants as phases
use Rattle.dm_types.specs.declared.kinds.By.{By}
use Rattle.dm_types.specs.declared.kinds.By.TheVariants.{User, Itself}
use Rattle.dm_policy.specs.Mode.{is_immediate}
use Rattle.dm_item.specs.Row.{mode_of_item}

-- by whom it is in a phase: where it waits by the user, and where it was interrupted and its mode is immediate by itself
abbrev pub due_in : Phase → Bool → Option By
due_in phases.Waiting immediate = Some User
due_in (phases.Interrupted reason) true = Some Itself
due_in (phases.Interrupted reason) false = None
due_in phases.Running immediate = None
due_in phases.Paused immediate = None
due_in phases.Finishing immediate = None
due_in phases.Complete immediate = None
due_in phases.Cancelled immediate = None

-- by whom an attempt of the item is due, where one is
abbrev pub due_by : Item → Option By
due_by item = due_in item.phase (is_immediate (mode_of_item item))

-- an attempt of the item is due
abbrev pub is_due : Item → Bool
is_due item = is_some (due_by item)

-- the first item in rising order that is due: its id, and by whom
abbrev pub first_due : List Item → Option (ItemId × By)
first_due items = option_and_then (λ item. option_map (λ by. (item.id, by)) (due_by item)) (find is_due items)
