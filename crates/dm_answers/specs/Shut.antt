-- How all attempts end where the program stops.
use Rattle.std.specs.Prelude.{List, filter, map, Result, Ok, Err}
use Rattle.dm_types.specs.declared.entry.Entry.TheVariants as entries
use Rattle.dm_types.specs.declared.item.Item.{Item}
use Rattle.dm_types.specs.declared.reason.Reason.TheVariants as reasons
use Rattle.dm_item.specs.Fields.{is_running}
use Rattle.dm_item.specs.Lawful.{History}
use Rattle.dm_store.specs.Becomes.{Fell, Recorded}
use Rattle.dm_store.specs.View.{View}
use Rattle.dm_answers.specs.declared.fault.DeskFault.{DeskFault}
use Rattle.dm_answers.specs.declared.fault.DeskFault.TheVariants as faults
use Rattle.dm_answers.specs.Frame.{IsBroken}

-- each running item is interrupted, by rising id
abbrev pub shuts : List Item → History
shuts items = map (λ item. entries.Broke item.id reasons.UserShutdown) (filter (λ item. is_running item.phase) items)

-- Each answer, and what it makes of the desk. It wants no memory.
abbrev pub ShutAnswers : {D O : Type 0} → View D O → View D O → Result (Unit {0}) DeskFault → Type 0
ShutAnswers old new (Ok done) = Recorded old new (shuts old.items.items)
ShutAnswers old new (Err faults.Broken) = IsBroken old new
ShutAnswers old new (Err (faults.Journal kind)) = Fell old new (shuts old.items.items)
ShutAnswers old new _ = ⊥
