-- What a command says at its end, of the items as they are then.
use Rattle.std.specs.Prelude.{ℕ, List, [], map, Option, Some, None}
use Rattle.std.specs.List.{concat}
use Rattle.dm_types.specs.declared.item.Item.{Item}
use Rattle.dm_types.specs.declared.item.Phase.{Phase}
use Rattle.dm_types.specs.declared.item.Phase.TheVariants as phases
use Rattle.dm_types.specs.declared.reason.Reason.{Reason}
use Rattle.dm_types.specs.declared.reason.Reason.TheVariants as reasons
use Rattle.dm_item.specs.Listing.{item_in}
use Rattle.dm_report.specs.Csv.{csv_of}
use Rattle.dm_report.specs.Report.{report_of}
use Rattle.dm_report.specs.Said.{Said, only}
use Rattle.dm_report.specs.Texts.{item_line_of, item_text_of}
use Rattle.dm_report.specs.declared.verdict.Verdict.TheVariants.{Done, Interrupted, NoMemory}
use Rattle.dm_does.specs.declared.course.Course.{Course}
use Rattle.dm_does.specs.declared.course.Course.TheVariants.{Ends, Brings}
use Rattle.dm_does.specs.declared.course.Show.{Show}
use Rattle.dm_does.specs.declared.course.Show.TheVariants.{Nothing, Line, Lines, Whole, Counts, Records}

-- the text of an item that is there
abbrev pub text_in : (Item → List ℕ) → Option Item → List ℕ
text_in text None = []
text_in text (Some item) = text item

-- what goes to standard output
abbrev pub shown : List Item → Show → List ℕ
shown items Nothing = []
shown items (Line id) = text_in item_line_of (item_in id.0 items)
shown items Lines = concat (map item_line_of items)
shown items (Whole id) = text_in item_text_of (item_in id.0 items)
shown items Counts = report_of items
shown items Records = csv_of items

-- an interruption is told with the item's line, but for one by want of memory
abbrev pub said_interrupted : Reason → List ℕ → Said
said_interrupted reasons.NoMemory line = only NoMemory
said_interrupted reason line = record { verdict = Interrupted reason; out = line }

-- What is said of an item that was brought, by its phase. One that still waits had no attempt, for which memory was wanting.
abbrev pub said_in : Phase → List ℕ → Said
said_in phases.Complete line = record { verdict = Done; out = line }
said_in (phases.Interrupted reason) line = said_interrupted reason line
said_in _ line = only NoMemory

abbrev pub said_of : Option Item → Said
said_of None = only NoMemory
said_of (Some item) = said_in item.phase (item_line_of item)

-- what a command says that did all
abbrev pub said_by : List Item → Course → Said
said_by items (Ends verdict show) = record { verdict = verdict; out = shown items show }
said_by items (Brings id slices) = said_of (item_in id.0 items)
