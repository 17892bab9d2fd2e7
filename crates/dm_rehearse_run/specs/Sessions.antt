-- A rehearsal: two sessions over one net and a disk in memory, and the crash between them.
use Rattle.std.specs.Prelude.{◌≡◌, ℕ, List, [], Some, None, Ok}
use Rattle.dm_types.specs.declared.entry.Entry.TheVariants as entries
use Rattle.dm_types.specs.declared.item.Item.{Item}
use Rattle.dm_types.specs.declared.item.ItemId.{ItemId}
use Rattle.dm_types.specs.declared.item.TheConstants.{LIMITS}
use Rattle.dm_types.specs.declared.kinds.By.TheVariants.{User}
use Rattle.dm_disk_model.specs.Disk.{MayLeave, reading}
use Rattle.dm_disk_model.specs.Moments.{Throughout}
use Rattle.dm_disk.specs.declared.memory.MemoryDisk.{MemoryDisk}
use Rattle.dm_disk.specs.Calls.{history_of}
use Rattle.dm_disk.specs.Image.{HoldsPicked}
use Rattle.dm_disk.specs.Memory.{IsFresh, far_in, faults_in, held_in, history_in}
use Rattle.dm_edge.specs.declared.fault.NetFault.{NetFault}
use Rattle.dm_edge.specs.declared.origin.Generated.{Generated}
use Rattle.dm_item.specs.Listing.{item_in}
use Rattle.dm_request.specs.Fault.{IsRead}
use Rattle.dm_generated.specs.Content.{address_text}
use Rattle.dm_generated_net.specs.Own.{AreItsOwn}
use Rattle.dm_generated_net.specs.Wired.{NetState, fresh_net}
use Rattle.dm_answers.specs.declared.order.Order.{Order}
use Rattle.dm_answers.specs.declared.order.Taken.TheVariants.{New}
use Rattle.dm_answers.specs.Add.{AddAnswers}
use Rattle.dm_answers.specs.Change.{ChangeAnswers, is_under_way}
use Rattle.dm_answers.specs.Opening.{IsMade, IsOpened}
use Rattle.dm_attempt.specs.declared.ended.Ended.{Ended}
use Rattle.dm_attempt.specs.declared.ended.Ended.TheVariants.{Complete}
use Rattle.dm_fetch.specs.Attempts.{Attempts}
use Rattle.dm_fetch.specs.Fetches.{Fetched}
use Rattle.dm_rehearse.specs.Picking.{pick_of}
use Rattle.dm_rehearse_run.specs.Kept.{Desk, IsComplete, IsGuarded, says_of}

-- how many parts are asked for at once
abbrev pub parts_at_once : ℕ
parts_at_once = 4

-- the only item of the list
abbrev pub only_item : ItemId
only_item = record { 0 = 1 }

-- the origin of a net
abbrev pub origin_of : NetState → Generated
origin_of net = record { seed = net.number }

-- how often its calls failed: never
abbrev pub no_faults : NetFault → ℕ
no_faults kind = 0

-- The disk's clock goes on from the one to the other, and whatever a crash leaves at a moment between recovers, with the content whole where an item is complete.
abbrev pub GoesOn : ℕ → MemoryDisk → MemoryDisk → Type 0
GoesOn number disk left = Throughout (history_in disk) (history_in left) (IsGuarded number)

-- the list of the disk was opened for the origin, with the program's limits
abbrev pub Opens : Generated → MemoryDisk → Desk → Type 0
Opens origin disk desk = IsMade origin LIMITS desk × IsOpened (Unit {0}) history_in far_in (says_of origin.seed) disk 0 desk

-- what is ordered: the address of the number's content, and nothing else is stated
pub record IsOrderOf (number : ℕ) (order : Order) : Type 0 where
  pub word : order.word ≡ []
  pub address : IsRead (address_text number) order.address
  pub wish : order.wish ≡ []
  pub digest : order.digest ≡ None

-- a new item was added, under this id
abbrev pub Adds : Order → Desk → Desk → ItemId → Type 0
Adds order old new id = AddAnswers old new order 0 (Ok (New id))

-- One attempt was made on the item, as by the user, for so many parts at once. However it ended.
abbrev pub Tries : ItemId → Desk → Desk → NetState → NetState → Type 0
Tries id old new before after =
    (end : Ended) × Attempts (Unit {0}) history_in (λ (o : Generated). says_of o.seed) far_in faults_in (Unit {0}) old new before.closed after.closed no_faults no_faults id User parts_at_once 0 end

-- the item waits for an attempt
abbrev pub Resumes : Desk → Desk → Type 0
Resumes old new = ChangeAnswers is_under_way (entries.Asked only_item) only_item old new (Ok tt)

-- The item was brought to its end: by an attempt of the user, and those that it made by itself, each for so many parts at once.
abbrev pub Brings : Desk → Desk → NetState → NetState → Type 0
Brings old new before after =
    Fetched (Unit {0}) history_in (λ (o : Generated). says_of o.seed) far_in faults_in (Unit {0}) old new before.closed after.closed no_faults no_faults only_item parts_at_once 0 Complete

-- The item was added, and one attempt was made on it.
pub record Begins (order : Order) (old new : Desk) (before after : NetState) : Type 0 where
  pub asked : Desk
  pub id : ItemId
  pub adds : Adds order old asked id
  pub tries : Tries id asked new before after

-- the first session: the list of the disk was opened, the item was added, and one attempt was made on it
pub record FirstSession (number : ℕ) (disk left : MemoryDisk) (before after : NetState) : Type 0 where
  pub opened : Desk
  pub opens : Opens (origin_of before) disk opened
  pub order : Order
  pub order_is : IsOrderOf number order
  pub closing : Desk
  pub begins : Begins order opened closing before after
  pub left_is : left ≡ closing.disk
  pub goes_on : GoesOn before.number disk left

-- the item is complete, and its file has this name
pub record HasFile (desk : Desk) (name : List ℕ) : Type 0 where
  pub item : Item
  pub there : item_in only_item.0 desk.items.items ≡ Some item
  pub complete : IsComplete item name

-- The item was resumed, and brought to its end. Its file has this name.
pub record Continues (old new : Desk) (name : List ℕ) (before after : NetState) : Type 0 where
  pub asked : Desk
  pub resumes : Resumes old asked
  pub brings : Brings asked new before after
  pub file : HasFile new name

-- the second session: the list of the disk was opened, the item was resumed, and brought to its end
pub record SecondSession (disk left : MemoryDisk) (name : List ℕ) (before after : NetState) : Type 0 where
  pub opened : Desk
  pub opens : Opens (origin_of before) disk opened
  pub closing : Desk
  pub continues : Continues opened closing name before after
  pub left_is : left ≡ closing.disk
  pub goes_on : GoesOn before.number disk left

-- The power went: the new disk holds the image of the old one that the number picks, which a crash may leave, and no call of it is to fail.
pub record IsCrashed (number : ℕ) (old new : MemoryDisk) : Type 0 where
  pub picked : HoldsPicked (pick_of number) (held_in old) (held_in new)
  pub leaves : MayLeave (held_in old) (reading (held_in new))
  pub fresh : IsFresh [] None new

-- an empty disk, of which no call is to fail
pub record IsEmpty (disk : MemoryDisk) : Type 0 where
  pub empty : history_in disk ≡ history_of []
  pub fresh : IsFresh [] None disk

-- Both sessions of a number over one net, which begins with no connection made: the first on an empty disk, and the second on what the crash left. It ends with this disk, and a file of this name. The
-- connections of both are those of the net's own wires, from the first one on, each once.
pub record AreSessions (number : ℕ) (disk : MemoryDisk) (name : List ℕ) : Type 0 where
  pub start : MemoryDisk
  pub empty : IsEmpty start
  pub lost : MemoryDisk
  pub net : NetState
  pub net_is : net.number ≡ number
  pub first : FirstSession number start lost (fresh_net number) net
  pub found : MemoryDisk
  pub crash : IsCrashed number lost found
  pub last : NetState
  pub last_is : last.number ≡ number
  pub own : AreItsOwn last
  pub second : SecondSession found disk name net last
