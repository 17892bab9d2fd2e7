-- What a run says, by what it did: over every disk and net, also those that tell nothing of what they hold.
use Rattle.std.specs.Prelude.{◌≡◌, ◌⊎◌, ◌≤◌, ℕ, true, false, List, [], ◌∷◌, ◌++◌, length, reverse, Option, Some, None, IfSome, IsTrue}
use Rattle.std.specs.List.{AllByRecursion}
use Rattle.dm_types.specs.Limits.{most_items}
use Rattle.dm_types.specs.declared.entry.Entry.{Entry}
use Rattle.dm_types.specs.declared.entry.Entry.TheVariants as entries
use Rattle.dm_types.specs.declared.item.Item.{Item}
use Rattle.dm_types.specs.declared.item.ItemId.{ItemId}
use Rattle.dm_types.specs.declared.kinds.DiskKind.{DiskKind}
use Rattle.dm_types.specs.declared.kinds.DiskKind.TheVariants as kinds
use Rattle.dm_types.specs.declared.reason.Reason.{Reason}
use Rattle.dm_types.specs.declared.reason.Reason.TheVariants as reasons
use Rattle.dm_policy.specs.Mode.{is_immediate}
use Rattle.dm_edge.specs.declared.fault.NetFault.TheVariants as nets
use Rattle.dm_item.specs.Lawful.{History, IsLawful, items_of, left_by}
use Rattle.dm_item.specs.Listing.{item_in}
use Rattle.dm_item.specs.Row.{mode_of_item}
use Rattle.dm_kept.specs.Room.{IsTaken}
use Rattle.dm_report.specs.Said.{Said, only}
use Rattle.dm_report.specs.declared.verdict.Verdict.TheVariants.{Damaged, DiskFailed, NoMemory}
use Rattle.dm_answers.specs.Opening.{IsTried}
use Rattle.dm_does.specs.declared.course.Course.{Course}
use Rattle.dm_does.specs.declared.course.Course.TheVariants.{Ends, Brings}
use Rattle.dm_does.specs.declared.job.Job.{Job}
use Rattle.dm_does.specs.Jobs.{HasJob, HasSomeJob, RefusesWords}
use Rattle.dm_does.specs.Doing.{Doing, Given, does}
use Rattle.dm_does.specs.Log.{ArePlain, Log, Run, Untouched, Unread, Unopened, Opened, kept_of, opened_of, tried_of}
use Rattle.dm_does.specs.Saying.{said_by}
use Rattle.dm_does.specs.Sweeping.{Sweeps, sweeps}
use Rattle.dm_does.specs.World.{Failed, IsLater, NetFailed, NoneClosed, World}

-- What is said of the driver's part: between two worlds the item of an id was brought in so many slices, behind this history. These entries were recorded of it, this one failed, where
-- one did, and the journal or a publication failed in this way, where one did: then the desk is broken. It is told for a moment, in milliseconds since 1970, which each of its entries has.
abbrev pub Bringing : Type 1
Bringing = World → World → ItemId → ℕ → History → History → History → Option DiskKind → Type 0

-- An interruption by a kind of fault is told only where one of this kind was counted, and no attempt is interrupted by the user or by a crash. The other reasons come by what was read, and
-- are the driver's words; so are `FileFailed`, which a taken name has too, and `NetworkFailed`, which a head that ends early has.
abbrev pub IsCounted : World → World → Reason → Type 0
IsCounted before after reasons.FileAccessDenied = Failed before after kinds.Denied
IsCounted before after reasons.FileNoSpace = Failed before after kinds.NoSpace
IsCounted before after reasons.FileNameTooLong = Failed before after kinds.NameTooLong
IsCounted before after reasons.NetworkTimeout = NetFailed before after nets.Timeout
IsCounted before after reasons.NetworkDisconnected = NetFailed before after nets.NoRoute
IsCounted before after reasons.NetworkServerDown = NetFailed before after nets.Refused
IsCounted before after reasons.UserCanceled = ⊥
IsCounted before after reasons.UserShutdown = ⊥
IsCounted before after reasons.Crash = ⊥
IsCounted before after _ = Unit {0}

-- an entry that attempts on the item record, for this moment where it has one; an interruption only where it was counted
abbrev pub IsOfAttempt : World → World → ItemId → ℕ → Entry → Type 0
IsOfAttempt before after id at (entries.Restarted other epoch because) = other ≡ id
IsOfAttempt before after id at (entries.Began other attempt by moment) = (other ≡ id) × (moment ≡ at)
IsOfAttempt before after id at (entries.Described other key last_address total name modified) = other ≡ id
IsOfAttempt before after id at (entries.Progress other slices) = other ≡ id
IsOfAttempt before after id at (entries.Broke other reason) = (other ≡ id) × IsCounted before after reason
IsOfAttempt before after id at (entries.Finishing other total) = other ≡ id
IsOfAttempt before after id at (entries.Done other digest moment) = (other ≡ id) × (moment ≡ at)
IsOfAttempt before after id at _ = ⊥

-- The driver brought the item, and recorded what attempts on it record. What was done before it and behind it made no connection, and let no count fall. Where the desk broke, a failure of
-- that kind was counted meanwhile.
pub record IsBrought (brings : Bringing) (tells : Type 0) (at : ℕ) (before after : World) (id : ItemId) (slices : ℕ) (history fetched failed : History) (broke : Option DiskKind) : Type 0 where
  pub from : World
  pub to : World
  pub first : IsLater tells before from
  pub last : IsLater tells to after
  pub none_first : NoneClosed before from
  pub none_last : NoneClosed to after
  pub is : brings from to id slices history fetched failed broke
  pub only : AllByRecursion (IsOfAttempt from to id at) (fetched ++ failed)
  pub counted : IfSome broke (Failed from to)

-- nothing follows, and no connection was made
pub record IsOver (before after : World) (fetched failed : History) (broke : Option DiskKind) : Type 0 where
  pub none : fetched ≡ []
  pub none_failed : failed ≡ []
  pub whole : broke ≡ None
  pub none_closed : NoneClosed before after

-- what follows the job's own entries, by its course
abbrev pub Follows : Bringing → Type 0 → ℕ → World → World → Course → History → History → History → Option DiskKind → Type 0
Follows brings tells at before after (Ends verdict show) history fetched failed broke = IsOver before after fetched failed broke
Follows brings tells at before after (Brings id slices) history fetched failed broke = IsBrought brings tells at before after id slices history fetched failed broke

-- the list that a history leaves, and the moment
abbrev pub given_by : History → ℕ → Given
given_by history at = record { list = left_by most_items (reverse history); at = at }

-- The job's own entries were recorded, all of them, and then what follows.
pub record WentOn (brings : Bringing) (tells : Type 0) (at : ℕ) (before after : World) (doing : Doing) (log : Log) (broke : Option DiskKind) : Type 0 where
  pub fetched : History
  pub more_is : log.more ≡ doing.entries ++ fetched
  pub follows : Follows brings tells at before after doing.course (opened_of log ++ doing.entries) fetched log.failed broke

-- Of the job's own entries only some of the first were tried, and no connection was made.
pub record WasCut (before after : World) (doing : Doing) (log : Log) : Type 0 where
  pub rest : History
  pub entries_are : doing.entries ≡ log.more ++ (log.failed ++ rest)
  pub none_closed : NoneClosed before after

-- The item that was brought rests: by its mode it makes no further attempt by itself.
abbrev pub Rests : List Item → Course → Type 0
Rests items (Ends verdict show) = Unit {0}
Rests items (Brings id slices) = (item : Item) → item_in id.0 items ≡ Some item → IsTrue (is_immediate (mode_of_item item)) → ⊥

-- What a job did to a list that was opened, and what it says.
pub data Came (brings : Bringing) (tells : Type 0) (at : ℕ) (before after : World) (doing : Doing) (log : Log) (said : Said) : Type 0 where
  -- all of it was done, and an item that was brought rests: it says what it says of the items at the end
  all : log.broken ≡ false → log.failed ≡ [] → WentOn brings tells at before after doing log None → said ≡ said_by (items_of (kept_of log)) doing.course → Rests (items_of (kept_of log)) doing.course → Came brings tells at before after doing log said
  -- an entry of its own failed
  fell : (kind : DiskKind) (entry : Entry) → log.broken ≡ true → log.failed ≡ entry ∷ [] → WasCut before after doing log → Failed before after kind → said ≡ only (DiskFailed kind) → Came brings tells at before after doing log said
  -- the journal or a publication failed while an item was brought
  broke : (kind : DiskKind) → log.broken ≡ true → WentOn brings tells at before after doing log (Some kind) → said ≡ only (DiskFailed kind) → Came brings tells at before after doing log said
  -- memory was wanting for its own entries
  stopped : log.broken ≡ false → log.failed ≡ [] → WasCut before after doing log → said ≡ only NoMemory → Came brings tells at before after doing log said
  -- or behind them, for an attempt of the user's or one that the item would have made by itself, or for what it says
  unsaid : log.broken ≡ false → log.failed ≡ [] → WentOn brings tells at before after doing log None → said ≡ only NoMemory → Came brings tells at before after doing log said

-- A job on a list that was opened. All that was tried is lawful behind what was found, the opening did what openings do, no later entry opens the list again, and the job's part is that
-- of the list behind the opening.
pub record Works (brings : ℕ → Bringing) (tells : Type 0) (before after : World) (job : Job) (at : ℕ) (log : Log) (said : Said) : Type 0 where
  pub taken : IsTaken most_items log.found
  pub lawful : IsLawful (log.found ++ tried_of log)
  pub opened : IsTried tells before.disk after.disk at log.found log.opening []
  pub once : ArePlain (log.more ++ log.failed)
  pub came : Came (brings at) tells at before after (does job (given_by (opened_of log) at)) log said
  -- at the end of a command that may leave parts which no item needs they are removed, unless the desk is broken
  pub swept : IsTrue (sweeps job) → log.broken ≡ false → Sweeps tells before after (left_by most_items (reverse (kept_of log)))

-- the words are such a job, and it worked so
pub record WorksFor (brings : ℕ → Bringing) (tells : Type 0) (words : List (List ℕ)) (at : ℕ) (before after : World) (log : Log) (said : Said) : Type 0 where
  pub job : Job
  pub has : HasJob words job
  pub works : Works brings tells before after job at log said

-- a call on the disk failed, or memory was wanting
abbrev pub SaysFault : World → World → Said → Type 0
SaysFault before after said = ((kind : DiskKind) × Failed before after kind × (said ≡ only (DiskFailed kind))) ⊎ (said ≡ only NoMemory)

-- the same of a list that wasn't read, which may be damaged
abbrev pub SaysUnread : World → World → Said → Type 0
SaysUnread before after said = SaysFault before after said ⊎ ((place : ℕ) × (said ≡ only (Damaged place)))

-- the words were refused, and nothing was done
pub record WasRefused (words : List (List ℕ)) (before after : World) (said : Said) : Type 0 where
  pub refused : RefusesWords words said.verdict
  pub nothing : said ≡ only said.verdict
  pub same : after ≡ before

-- the words are a job, but no journal was read
pub record WasUnread (words : List (List ℕ)) (before after : World) (said : Said) : Type 0 where
  pub has : HasSomeJob words
  pub none_closed : NoneClosed before after
  pub says : SaysUnread before after said

-- The words are a job, but the opening was refused behind what it read. What it tried is lawful there: these entries were recorded, then one failed at most, and the rest wasn't tried.
pub record WasUnopened (tells : Type 0) (words : List (List ℕ)) (at : ℕ) (before after : World) (found recorded failed rest : History) (said : Said) : Type 0 where
  pub has : HasSomeJob words
  pub none_closed : NoneClosed before after
  pub says : SaysFault before after said
  pub taken : IsTaken most_items found
  pub lawful : IsLawful (found ++ (recorded ++ (failed ++ rest)))
  pub one : length failed ≤ 1
  pub left : List Item
  pub tried : IsTried tells before.disk after.disk at found (recorded ++ (failed ++ rest)) left

-- what a run says, by how far it came
abbrev pub Answers : (ℕ → Bringing) → Type 0 → List (List ℕ) → ℕ → World → World → Said → Run → Type 0
Answers brings tells words at before after said Untouched = WasRefused words before after said
Answers brings tells words at before after said Unread = WasUnread words before after said
Answers brings tells words at before after said (Unopened found recorded failed rest) = WasUnopened tells words at before after found recorded failed rest said
Answers brings tells words at before after said (Opened log) = WorksFor brings tells words at before after log said
