-- When an attempt completes, and all that an item makes.
use Rattle.std.specs.Prelude.{◌≡◌, ◌⊎◌, ◌≤◌, ℕ, true, false, List, ◌++◌, length, Some, None, IfSome, IsTrue}
use Rattle.std.specs.List.{Contains}
use Rattle.sha2.specs.Sha256.{sha256}
use Rattle.dm_types.specs.Faults.{NoneRose}
use Rattle.dm_types.specs.Name.{IsPart, fold_case}
use Rattle.dm_types.specs.declared.item.Item.{Item}
use Rattle.dm_types.specs.declared.item.ItemId.{ItemId}
use Rattle.dm_types.specs.declared.item.Phase.{Phase}
use Rattle.dm_types.specs.declared.kinds.By.{By}
use Rattle.dm_types.specs.declared.kinds.DiskKind.{DiskKind}
use Rattle.dm_disk_model.specs.Disk.{History as Clock, now}
use Rattle.dm_disk_model.specs.Folder.{names_of}
use Rattle.dm_name.specs.Forms.{IsTaken, form}
use Rattle.dm_request.specs.Request.{request_of}
use Rattle.dm_edge.specs.Fair.{ask_of}
use Rattle.dm_edge.specs.Reply.{IsWhole}
use Rattle.dm_edge.specs.Wire.{Closed}
use Rattle.dm_edge.specs.declared.fault.NetFault.{NetFault}
use Rattle.dm_edge.specs.declared.wanted.Wanted.{Wanted}
use Rattle.dm_edge.specs.declared.wanted.Wanted.TheVariants.{Whole, Part}
use Rattle.dm_item.specs.Fields.{is_began}
use Rattle.dm_item.specs.History.{count_of}
use Rattle.dm_item.specs.Lawful.{History}
use Rattle.dm_item.specs.Listing.{item_in}
use Rattle.dm_kept.specs.Files.{Says}
use Rattle.dm_store.specs.Becomes.{run_of}
use Rattle.dm_store.specs.Keeps.{HoldsOf, IsDesk}
use Rattle.dm_store.specs.View.{View}
use Rattle.dm_answers.specs.Begin.{beginning, may_begin}
use Rattle.dm_answers.specs.Describe.{IsCleaned, used_names}
use Rattle.dm_answers.specs.Running.{part_bytes}
use Rattle.dm_answers.specs.declared.fault.DeskFault.TheVariants as faults
use Rattle.dm_attempt.specs.declared.ended.Ended.{Ended}
use Rattle.dm_attempt.specs.declared.ended.Ended.TheVariants as ended
use Rattle.dm_attempt.specs.Brought.{AreOf, HasCover}
use Rattle.dm_attempt.specs.Scene.{changed_all}
use Rattle.dm_fetch.specs.Attempts.{Attempts}
use Rattle.dm_fetch.specs.Known.{OfKnown}
use Rattle.dm_fetch.specs.Serves.{ServesWhole}

-- the names that the items have as an attempt on this one begins: it has none itself where its content is brought anew
abbrev pub names_begun : {D O : Type 0} → View D O → Item → By → ℕ → List (List ℕ)
names_begun desk item by at = used_names (run_of (beginning item by at) desk.items).items

-- The name is free, the case of its letters ignored: no file stands under it, it is no part's, and it is none of the used ones.
pub record IsFreeAt {D O : Type 0} (clock : D → Clock) (desk : View D O) (used : List (List ℕ)) (name : List ℕ) : Type 0 where
  pub no_file : (other : List ℕ) → fold_case other ≡ fold_case name → names_of (now (clock desk.disk)).files other ≡ None
  pub no_part : (other : List ℕ) → fold_case other ≡ fold_case name → IsPart other → ⊥
  pub no_item : IsTaken used name → ⊥

-- one of the forms of the wish is free
pub record HasFree {D O : Type 0} (clock : D → Clock) (desk : View D O) (used : List (List ℕ)) (wish : List ℕ) : Type 0 where
  pub number : ℕ
  pub within : number ≤ 100
  pub free : IsFreeAt clock desk used (form wish number)

-- what a reply brings of what was wanted is the content, or of a part of it the bytes at its places
abbrev pub IsOf : List ℕ → Wanted → List ℕ → Type 0
IsOf content Whole bytes = bytes ≡ content
IsOf content (Part first last tag total) bytes = AreOf content first bytes

-- A stated digest is that of one content. Each reply that brings a content whole brings this one, each asked part has its bytes at their places, and so has the file what was saved of it where that is
-- gone on with. A total that is known then is its length. The item is as the attempt begins it.
pub record IsOneContent {D : Type 0} (clock : D → Clock) (disk : D) (item : Item) (list : History) (connections : List Closed) (digest : List ℕ) : Type 0 where
  pub content : List ℕ
  pub sum : digest ≡ sha256 content
  pub each : (c : Closed) (wanted : Wanted) → Contains connections c → OfKnown item list c.purpose.address.text wanted → c.sent ≡ request_of c.purpose.address (ask_of wanted) → (bytes : List ℕ) → IsWhole wanted c.stream bytes → IsOf content wanted bytes
  pub saved : HasCover content item.slices (part_bytes clock disk item)
  pub total : IfSome item.total (λ total. total ≡ length content)

-- Nothing stands in the way of an attempt on the item. The disk tells what it holds, and is one that only this program wrote: the desk that isn't broken keeps what every desk keeps, and a history
-- with its files. The item may be begun. No count of the disk or of the net rises. The net tells, and each request that was sent whole meanwhile is served. For each wish a name is free as the
-- attempt begins. A digest that was stated is that of one content, which is what comes.
pub record IsSmooth {D O : Type 0} (tells : Type 0) (clock : D → Clock) (says : O → Says) (counts : D → DiskKind → ℕ) (net : Type 0) (old new : View D O) (was closed : List Closed) (before after : NetFault → ℕ) (id : ItemId) (by : By) (at : ℕ) : Type 0 where
  pub disk_told : tells
  pub desk : IsDesk tells clock old
  pub whole : old.broken ≡ false
  pub history : History
  pub holds : HoldsOf true (says old.origin) clock old history
  pub item : Item
  pub there : item_in id.0 old.items.items ≡ Some item
  pub may : IsTrue (may_begin by item)
  pub disk : NoneRose (counts old.disk) (counts new.disk)
  pub quiet : NoneRose before after
  pub told : net
  pub serves : (connections : List Closed) → closed ≡ was ++ connections → ServesWhole (changed_all (beginning item by at) item) new.list connections
  pub free : (wish : List ℕ) → IsCleaned wish → HasFree clock old (names_begun old item by at) wish
  pub stated : (connections : List Closed) → closed ≡ was ++ connections → IfSome item.digest (IsOneContent clock old.disk (changed_all (beginning item by at) item) new.list connections)

-- the item is complete, or memory was wanting
abbrev pub CompletesOr : Ended → Type 0
CompletesOr end = (end ≡ ended.Complete) ⊎ (end ≡ ended.Fault faults.NoMemory)

-- All that an item makes comes to one attempt: the item is complete after it, or memory was wanting.
abbrev pub CompletesAtOnce : {D O : Type 0} → Type 0 → (D → Clock) → (O → Says) → (D → ℕ) → (D → DiskKind → ℕ) → Type 0 → View D O → View D O → List Closed → List Closed → (NetFault → ℕ) → (NetFault → ℕ) → ItemId → By → ℕ → ℕ → Ended → Type 0
CompletesAtOnce tells clock says far counts net old new was now before after id by slices at end = CompletesOr end × Attempts tells clock says far counts net old new was now before after id by slices at end

-- The item is in this phase, and of what was recorded one entry begins an attempt.
pub record IsLeftIn {D O : Type 0} (old new : View D O) (id : ItemId) (phase : Phase) : Type 0 where
  pub item : Item
  pub there : item_in id.0 new.items.items ≡ Some item
  pub phase_is : item.phase ≡ phase
  pub recorded : History
  pub list_is : new.list ≡ old.list ++ recorded
  pub one : count_of is_began recorded ≡ 1
