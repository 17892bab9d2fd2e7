-- What is replied, by how a job goes on.
use Rattle.std.specs.Prelude.{ℕ, Bool, true, false, nat_lt, if◌then◌else◌, List, [], ◌∷◌, take, codes, Option, Some, None}
use Rattle.serde_json.specs.Data.{Data, boolean, object, no_members, put}
use Rattle.serde_json.specs.Written.{compact_text}
use Rattle.dm_types.specs.declared.item.Item.{Item}
use Rattle.dm_types.specs.declared.item.ItemId.{ItemId}
use Rattle.dm_report.specs.Report.{report_of}
use Rattle.dm_report.specs.declared.verdict.Verdict.{Verdict}
use Rattle.dm_report.specs.declared.verdict.Verdict.TheVariants as verdicts
use Rattle.dm_does.specs.declared.course.Course.{Course}
use Rattle.dm_does.specs.declared.course.Course.TheVariants.{Brings, Ends}
use Rattle.dm_does.specs.declared.course.Show.{Show}
use Rattle.dm_does.specs.declared.course.Show.TheVariants as shows
use Rattle.dm_call.specs.declared.call.Window.{Window}
use Rattle.dm_hist.specs.declared.row.Row.{Row}
use Rattle.dm_shown.specs.Answering.{add_by_row}
use Rattle.dm_response.specs.Json.{item_data, items_data, number_data, row_data, rows_data}
use Rattle.dm_response.specs.Reply.{reply_of, trouble_of}
use Rattle.dm_response.specs.declared.reply.ApiReply.{ApiReply}
use Rattle.dm_response.specs.declared.reply.Media.TheVariants.{Json, Plain}
use Rattle.dm_response.specs.declared.trouble.Trouble.{Trouble}
use Rattle.dm_response.specs.declared.trouble.Trouble.TheVariants as troubles

-- a reply of status 200 with this content
abbrev pub told : Data → Bool → ApiReply
told content stop = reply_of 200 Json None (compact_text content) stop

abbrev pub removed_data : ItemId → Data
removed_data id = object (put (codes "removed") (number_data id.0) no_members)

abbrev pub stopping_data : Data
stopping_data = object (put (codes "stopping") (boolean true) no_members)

-- the items from the first id above this one on
abbrev pub items_after : ℕ → List Item → List Item
items_after after [] = []
items_after after (item ∷ rest) = if nat_lt after item.id.0 then item ∷ rest else items_after after rest

-- part of the list, which is by rising id
abbrev pub page_of : Window → List Item → List Item
page_of window items = take window.limit (items_after window.after items)

abbrev pub page_by : List Item → Window → ApiReply
page_by items window = told (items_data (page_of window items)) false

-- the report on all items, as text
abbrev pub report_by : List Item → ApiReply
report_by items = reply_of 200 Plain None (report_of items) false

abbrev pub stop_by : ApiReply
stop_by = told stopping_data true

-- how many items were moved to the history
abbrev pub archived_data : ℕ → Data
archived_data count = object (put (codes "archived") (number_data count) no_members)

abbrev pub archived_by : ℕ → ApiReply
archived_by count = told (archived_data count) false

abbrev pub removed_reply : ItemId → ApiReply
removed_reply id = told (removed_data id) false

-- part of the history
abbrev pub rows_by : List Row → ApiReply
rows_by rows = told (rows_data rows) false

-- an item as it stands behind the request's entries
abbrev pub shown : Option Item → ApiReply
shown None = trouble_of troubles.Memory
shown (Some item) = told (item_data item) false

-- why a job isn't done, where it isn't
abbrev pub trouble_by : Verdict → Option Trouble
trouble_by verdicts.Done = None
trouble_by (verdicts.NoItem id) = Some troubles.NoItem
trouble_by (verdicts.WrongState phase) = Some (troubles.WrongState phase)
trouble_by (verdicts.ItemsFull count) = Some (troubles.Full count)
trouble_by (verdicts.OtherWord id) = Some (troubles.OtherWord id)
trouble_by (verdicts.DiskFailed kind) = Some troubles.Disk
trouble_by _ = Some troubles.Memory

-- what a job that is done shows: an item, or that it is removed
abbrev pub done_by : ItemId → Option Item → Show → ApiReply
done_by id item shows.Nothing = told (removed_data id) false
done_by id item _ = shown item

abbrev pub ended_by : ItemId → Option Item → Show → Option Trouble → ApiReply
ended_by id item show None = done_by id item show
ended_by id item show (Some trouble) = trouble_of trouble

-- the reply by the course, where it shows this item
abbrev pub reply_by : ItemId → Option Item → Course → ApiReply
reply_by id item (Ends verdict show) = ended_by id item show (trouble_by verdict)
reply_by id item (Brings brought slices) = shown item

abbrev pub row_told : Row → Option Trouble → ApiReply
row_told row None = told (row_data row) false
row_told row (Some trouble) = trouble_of trouble

-- a row that has the word of an item that is to be added from this address: it is shown, where it has the address
abbrev pub row_by : List ℕ → Row → ApiReply
row_by address row = row_told row (trouble_by (add_by_row address row))
