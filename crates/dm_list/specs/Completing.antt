-- When a run completes the item that it brings.
use Rattle.std.specs.Prelude.{◌≡◌, ◌⊎◌, ℕ, true, List, ◌++◌, reverse, Some, IfSome, IsTrue}
use Rattle.dm_types.specs.Faults.{NoneRose}
use Rattle.dm_types.specs.Limits.{most_items}
use Rattle.dm_types.specs.declared.item.Item.{Item}
use Rattle.dm_types.specs.declared.item.ItemId.{ItemId}
use Rattle.dm_types.specs.declared.kinds.By.TheVariants.{User}
use Rattle.dm_types.specs.declared.kinds.DiskKind.{DiskKind}
use Rattle.dm_disk_model.specs.Disk.{History as Clock, now}
use Rattle.dm_disk_model.specs.Moments.{Throughout}
use Rattle.dm_edge.specs.Wire.{Closed}
use Rattle.dm_edge.specs.declared.fault.NetFault.{NetFault}
use Rattle.dm_item.specs.Lawful.{History, left_by}
use Rattle.dm_item.specs.Listing.{item_in}
use Rattle.dm_kept.specs.Files.{Says}
use Rattle.dm_kept.specs.Kept.{Kept}
use Rattle.dm_kept.specs.Recovery.{Through}
use Rattle.dm_report.specs.Said.{Said, only}
use Rattle.dm_report.specs.declared.verdict.Verdict.TheVariants.{NoMemory}
use Rattle.dm_store.specs.View.{View}
use Rattle.dm_answers.specs.Begin.{beginning, may_begin}
use Rattle.dm_answers.specs.Describe.{IsCleaned}
use Rattle.dm_attempt.specs.Scene.{changed_all}
use Rattle.dm_fetch.specs.Completes.{HasFree, IsOneContent, names_begun}
use Rattle.dm_fetch.specs.Serves.{ServesWhole}
use Rattle.dm_brings.specs.Completed.{EndsWell}
use Rattle.dm_does.specs.declared.course.Course.TheVariants.{Brings}
use Rattle.dm_does.specs.declared.job.Job.{Job}
use Rattle.dm_does.specs.Answering.{given_by}
use Rattle.dm_does.specs.Doing.{does}
use Rattle.dm_does.specs.Jobs.{HasJob}
use Rattle.dm_does.specs.Log.{Log, Run, Untouched, Unread, Unopened, Opened, kept_of, opened_of}

-- Nothing stands in the way of an item that is brought between two desks. The user may begin an attempt on it. No call on the net fails, the net tells, and each request that was sent whole meanwhile is
-- served, a range of the total that is known of the content. For each wish a name is free as the attempt begins. A digest that was stated is that of one content, which is what comes.
pub record IsFavoured {D O : Type 0} (clock : D → Clock) (says : O → Says) (net : Type 0) (desk ended : View D O) (was closed : List Closed) (before after : NetFault → ℕ) (item : Item) (at : ℕ) : Type 0 where
  pub may : IsTrue (may_begin User item)
  pub quiet : NoneRose before after
  pub told : net
  pub serves : (connections : List Closed) → closed ≡ was ++ connections → ServesWhole (changed_all (beginning item User at) item) ended.list connections
  pub free : (wish : List ℕ) → IsCleaned wish → HasFree clock desk (names_begun desk item User at) wish
  pub stated : (connections : List Closed) → closed ≡ was ++ connections → IfSome item.digest (IsOneContent clock desk.disk (changed_all (beginning item User at) item) ended.list connections)

-- The item was brought by a desk whose list was that behind the job's own entries, which alone it had recorded behind the opening, up to one whose list is the run's last one, each between the run's start and its end. Where nothing stands in the
-- way it is complete after one attempt by the user, and that is said; or memory was wanting.
pub record BringsWell {D O : Type 0} (tells : Type 0) (clock : D → Clock) (says : O → Says) (far : D → ℕ) (counts : D → DiskKind → ℕ) (net : Type 0) (start end : Clock) (was closed : List Closed) (before after : NetFault → ℕ) (log : Log) (own : History) (id : ItemId) (at : ℕ)
    (said : Said) : Type 0 where
  pub desk : View D O
  pub ended : View D O
  pub items : desk.items ≡ left_by most_items (reverse (opened_of log ++ own))
  pub list : desk.list ≡ log.opening ++ own
  pub ended_items : ended.items ≡ left_by most_items (reverse (kept_of log))
  pub ended_list : ended.list ≡ log.opening ++ log.more
  pub began : Throughout start (clock desk.disk) (λ disk. Unit {0})
  pub behind : Throughout (clock ended.disk) end (λ disk. Unit {0})
  pub item : Item
  pub there : item_in id.0 desk.items.items ≡ Some item
  pub ends : IsFavoured clock says net desk ended was closed before after item at → EndsWell desk ended id said

-- Where the job brings an item it does so well, or memory was wanting for its own entries.
pub record CompletesJob {D O : Type 0} (tells : Type 0) (clock : D → Clock) (says : O → Says) (far : D → ℕ) (counts : D → DiskKind → ℕ) (net : Type 0) (start end : Clock) (was closed : List Closed) (before after : NetFault → ℕ) (words : List (List ℕ)) (at : ℕ) (log : Log) (said : Said) : Type 0 where
  pub job : Job
  pub has : HasJob words job
  pub brings : (id : ItemId) (slices : ℕ) → (does job (given_by (opened_of log) at)).course ≡ Brings id slices
      → BringsWell tells clock says far counts net start end was closed before after log (does job (given_by (opened_of log) at)).entries id at said ⊎ (said ≡ only NoMemory)

-- so of a run that opened its list; the others bring nothing
abbrev pub CompletesIn : {D O : Type 0} → Type 0 → (D → Clock) → (O → Says) → (D → ℕ) → (D → DiskKind → ℕ) → Type 0 → Clock → Clock → List Closed → List Closed → (NetFault → ℕ) → (NetFault → ℕ) → List (List ℕ) → ℕ → Said → Run → Type 0
CompletesIn tells clock says far counts net start end was closed before after words at said Untouched = Unit {0}
CompletesIn tells clock says far counts net start end was closed before after words at said Unread = Unit {0}
CompletesIn tells clock says far counts net start end was closed before after words at said (Unopened found recorded failed rest) = Unit {0}
CompletesIn tells clock says far counts net start end was closed before after words at said (Opened log) = CompletesJob tells clock says far counts net start end was closed before after words at log said

-- So it is from a disk that tells what it holds, that only this program wrote, and on which no call failed.
abbrev pub Completes : {D O : Type 0} → Type 0 → (D → Clock) → (O → Says) → (D → ℕ) → (D → DiskKind → ℕ) → Type 0 → O → D → D → List Closed → List Closed → (NetFault → ℕ) → (NetFault → ℕ) → List (List ℕ) → ℕ → Said → Run → Type 0
Completes tells clock says far counts net origin start end was closed before after words at said run =
    tells → (kept rest : History) → Kept true (says origin) (Through kept rest) (now (clock start)) → NoneRose (counts start) (counts end) → CompletesIn tells clock says far counts net (clock start) (clock end) was closed before after words at said run
