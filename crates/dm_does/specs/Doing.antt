-- What a command does to the list that it finds, and how it goes on: a function of the job, the list and the moment.
use Rattle.std.specs.Prelude.{ℕ, Bool, false, not, ◌&&◌, ◌||◌, nat_lt, if◌then◌else◌, List, [], ◌∷◌, length, Option, Some, None, find}
use Rattle.std.specs.Str.{bytes_eq}
use Rattle.dm_types.specs.declared.entry.Entry.{Entry}
use Rattle.dm_types.specs.declared.entry.Entry.TheVariants as entries
use Rattle.dm_types.specs.declared.item.Item.{Item}
use Rattle.dm_types.specs.declared.item.ItemId.{ItemId}
use Rattle.dm_policy.specs.Mode.{is_invalid}
use Rattle.dm_item.specs.Fields.{is_running}
use Rattle.dm_item.specs.Lawful.{History}
use Rattle.dm_item.specs.Listing.{Listing, item_in}
use Rattle.dm_item.specs.Row.{allows, is_cancelled, is_complete, is_paused, is_waiting, mode_of_item}
use Rattle.dm_report.specs.declared.verdict.Verdict.{Verdict}
use Rattle.dm_report.specs.declared.verdict.Verdict.TheVariants.{Done, NoItem, WrongState, ItemsFull, OtherWord}
use Rattle.dm_answers.specs.Add.{added_by}
use Rattle.dm_answers.specs.declared.order.Order.{Order}
use Rattle.dm_does.specs.declared.course.Course.{Course}
use Rattle.dm_does.specs.declared.course.Course.TheVariants.{Ends, Brings}
use Rattle.dm_does.specs.declared.course.Show.{Show}
use Rattle.dm_does.specs.declared.course.Show.TheVariants.{Nothing, Line, Lines, Whole, Counts, Records}
use Rattle.dm_does.specs.declared.job.Job.{Job}
use Rattle.dm_does.specs.declared.job.Job.TheVariants as jobs

-- what a command is given: the list as it was opened, and the moment, in milliseconds since 1970
pub record Given : Type 0 where
  pub list : Listing
  pub at : ℕ

-- the entries that it records of its own, and how it goes on behind them
pub record Doing : Type 0 where
  pub entries : History
  pub course : Course

-- it is over, and records nothing
abbrev pub ends : Verdict → Show → Doing
ends verdict show = record { entries = []; course = Ends verdict show }

-- it is refused: it records nothing, and nothing goes to standard output
abbrev pub refuses : Verdict → Doing
refuses verdict = ends verdict Nothing

-- it records one entry
abbrev pub records : Entry → Course → Doing
records entry course = record { entries = entry ∷ []; course = course }

-- it goes on so with the item, where there is one
abbrev pub on_found : ItemId → Option Item → (Item → Doing) → Doing
on_found id None with_item = refuses (NoItem id)
on_found id (Some item) with_item = with_item item

-- it goes on so with the item of this id
abbrev pub on_item : Given → ItemId → (Item → Doing) → Doing
on_item given id with_item = on_found id (item_in id.0 given.list.items) with_item

-- One entry changes an item: nothing is left to do, or the item's row of the table takes the entry, or its state is told.
abbrev pub changes : Bool → Bool → Entry → Course → Item → Doing
changes is_done may entry course item =
    if is_done then record { entries = []; course = course } else (if may then records entry course else refuses (WrongState item.phase))

abbrev pub pauses : Item → Doing
pauses item = changes (is_paused item.phase) (allows (entries.Paused item.id) item.phase) (entries.Paused item.id) (Ends Done (Line item.id)) item

abbrev pub cancels : Item → Doing
cancels item = changes (is_cancelled item.phase) (allows (entries.Cancelled item.id) item.phase) (entries.Cancelled item.id) (Ends Done (Line item.id)) item

-- nothing is printed of an item that is gone
abbrev pub removes : Item → Doing
removes item = changes false (allows (entries.Removed item.id) item.phase) (entries.Removed item.id) (Ends Done Nothing) item

-- the user may ask for the item again: it is paused or interrupted, and may go on
abbrev pub may_ask : Item → Bool
may_ask item = allows (entries.Asked item.id) item.phase && not (is_invalid (mode_of_item item))

-- it is brought: asked for first, unless it waits already
abbrev pub asks_for : ℕ → Item → Doing
asks_for slices item = changes (is_waiting item.phase || is_running item.phase) (may_ask item) (entries.Asked item.id) (Brings item.id slices) item

-- a complete item is shown, and every other one is brought
abbrev pub goes_on : ℕ → Item → Doing
goes_on slices item = if is_complete item.phase then ends Done (Line item.id) else asks_for slices item

-- the item with a word; the empty word is no item's
abbrev pub with_word : List ℕ → List Item → Option Item
with_word [] items = None
with_word (byte ∷ rest) items = find (λ item. bytes_eq item.word (byte ∷ rest)) items

-- there is room for one more item, and an id for it
abbrev pub has_room : Listing → Bool
has_room list = nat_lt (length list.items) list.limit && nat_lt list.next 4294967295

-- a new item, where there is room
abbrev pub takes_on : Given → Order → (ItemId → Course) → Doing
takes_on given order course =
    if has_room given.list then records (added_by given.list order given.at) (course (record { 0 = given.list.next })) else refuses (ItemsFull (length given.list.items))

-- an item has the word: with the same address it goes on so
abbrev pub same_or_other : Order → (Item → Doing) → Item → Doing
same_or_other order same item = if bytes_eq item.first_address order.address.text then same item else refuses (OtherWord item.id)

abbrev pub named_by : Given → Order → (Item → Doing) → (ItemId → Course) → Option Item → Doing
named_by given order same course None = takes_on given order course
named_by given order same course (Some item) = same_or_other order same item

-- the item with the order's word, or else a new one
abbrev pub by_word : Given → Order → (Item → Doing) → (ItemId → Course) → Doing
by_word given order same course = named_by given order same course (with_word order.word given.list.items)

-- What each job does. Looks alone come first, then what changes one item, then what takes an order.
abbrev pub does : Job → Given → Doing
does jobs.List given = ends Done Lines
does jobs.Report given = ends Done Counts
does jobs.Export given = ends Done Records
does (jobs.Show id) given = on_item given id (λ item. ends Done (Whole item.id))
does (jobs.Pause id) given = on_item given id pauses
does (jobs.Cancel id) given = on_item given id cancels
does (jobs.Remove id) given = on_item given id removes
does (jobs.Resume id slices) given = on_item given id (asks_for slices)
does (jobs.Add order) given = by_word given order (λ item. ends Done (Line item.id)) (λ id. Ends Done (Line id))
does (jobs.Get order slices) given = by_word given order (goes_on slices) (λ id. Brings id slices)
