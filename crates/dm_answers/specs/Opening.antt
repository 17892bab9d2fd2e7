-- What opening a desk did, and what a refused opening leaves.
use Rattle.std.specs.Prelude.{◌≡◌, ◌⊎◌, ℕ, ◌+◌, ◌^◌, ◌≤◌, Bool, true, false, List, [], ◌∷◌, ◌++◌, length, Some, None, Result, Ok, Err}
use Rattle.dm_types.specs.declared.entry.Entry.TheVariants.{Reopened}
use Rattle.dm_types.specs.declared.item.Item.{Item}
use Rattle.dm_types.specs.declared.item.Limits.{Limits}
use Rattle.dm_disk_model.specs.declared.place.Place.{Place}
use Rattle.dm_disk_model.specs.Disk.{DiskState, Image, History as Clock, MayLeave, bytes_at, now}
use Rattle.dm_disk_model.specs.Moments.{Throughout}
use Rattle.dm_item.specs.Lawful.{History, IsOf, items_of, next_id_of}
use Rattle.dm_journal.specs.AtRest.{journal_place}
use Rattle.dm_journal.specs.Starting.{WasLeft}
use Rattle.dm_journal.specs.Text.{front}
use Rattle.dm_kept.specs.Damage.{IsDamage}
use Rattle.dm_kept.specs.Files.{Says, says_all}
use Rattle.dm_kept.specs.Kept.{Kept, Recovers, WasKept}
use Rattle.dm_kept.specs.Recovery.{Found, Through}
use Rattle.dm_kept.specs.Room.{IsTaken}
use Rattle.dm_kept.specs.Spelled.{Records, bodies_of}
use Rattle.dm_store.specs.Keeps.{HoldsOf}
use Rattle.dm_store.specs.View.{View, spelled}
use Rattle.dm_answers.specs.declared.fault.DeskFault.{DeskFault}
use Rattle.dm_answers.specs.declared.fault.DeskFault.TheVariants as faults
use Rattle.dm_answers.specs.declared.fault.OpenFault.{OpenFault}
use Rattle.dm_answers.specs.declared.fault.OpenFault.TheVariants as opens
use Rattle.dm_answers.specs.Sweep.{IsSwept}
use Rattle.dm_answers.specs.Settling.{AreDone, AreSettlings, finishing}

-- the entry of each opening, behind the history that it found
abbrev pub reopening : History → ℕ → History
reopening found at = Reopened (next_id_of found) at ∷ []

-- What an opening found and tried: what the journal held as it read at the start, and then one Reopened and the settlings, up to the items that are left.
pub record IsTried (tells : Type 0) (start end : Clock) (at : ℕ) (found tried : History) (left : List Item) : Type 0 where
  pub reads : tells → Records (bytes_at (now start) journal_place) found
  pub settled : History
  pub tried_is : tried ≡ reopening found at ++ settled
  pub settles : AreSettlings tells start end at (finishing (items_of (found ++ reopening found at))) settled left

-- recovered is what the opening found, with some of what it tried behind it
pub record OpensTo (tells : Type 0) (start end : Clock) (at : ℕ) (recovered : Found) : Type 0 where
  pub found : History
  pub tried : History
  pub left : List Item
  pub is : IsTried tells start end at found tried left
  pub through : Through found tried recovered

-- the image has what one at the start might have, or what an opening leaves
abbrev pub OpenLeaves : Type 0 → Clock → Clock → ℕ → DiskState → Type 0
OpenLeaves tells start end at disk = (image : Image) → MayLeave disk image → WasLeft (now start) image ⊎ Recovers false says_all (OpensTo tells start end at) disk.files image

-- From a kept disk: a crash at each moment leaves it as before, or as an opening leaves it, and sound.
abbrev pub OpenKeeps : Type 0 → Says → Clock → Clock → ℕ → Type 0
OpenKeeps tells says start end at = (earlier more : History) → Kept true says (Through earlier more) (now start)
    → Throughout start end (Kept true says (λ recovered. Through earlier more recovered ⊎ OpensTo tells start end at recovered))

-- what one at the start might have, or what was found with some of the tried entries behind it
abbrev pub LeavesSome : DiskState → History → History → DiskState → Type 0
LeavesSome start found tried disk = (image : Image) → MayLeave disk image → WasLeft start image ⊎ Recovers false says_all (Through found tried) disk.files image

-- Each moment of an opening leaves what the start might have left, or what was found with some of the tried entries behind it; from a kept disk it is sound too.
pub record OpenRuns (says : Says) (start end : Clock) (found tried : History) : Type 0 where
  pub leaves : Throughout start end (LeavesSome (now start) found tried)
  pub keeps : (kept rest : History) → Kept true says (Through kept rest) (now start) → Throughout start end (Kept true says (λ recovered. Through kept rest recovered ⊎ Through found tried recovered))

-- The journal of these entries doesn't end above 2^62, so the count of far writes stays.
abbrev pub IsNear : History → ℕ → ℕ → Type 0
IsNear history far far' = length (front (bodies_of history)) + 1 ≤ 2 ^ 62 → far' ≡ far

-- A desk that was opened: over each disk its list is the Reopened and the settlings, of all items that were being finished.
pub record IsOpened {D O : Type 0} (tells : Type 0) (clock : D → Clock) (far : D → ℕ) (says : Says) (start : D) (at : ℕ) (desk : View D O) : Type 0 where
  pub whole : desk.broken ≡ false
  pub none_failed : desk.failed ≡ []
  pub found : History
  pub taken : IsTaken desk.limits.items found
  pub tried : IsTried tells (clock start) (clock desk.disk) at found desk.list []
  pub runs : tells → OpenRuns says (clock start) (clock desk.disk) found desk.list
  pub items : IsOf (found ++ desk.list) desk.items
  pub gate_is : desk.gate ≡ length (front (bodies_of found)) + spelled desk.list
  -- it holds them, with the files of all items where the disk was kept
  pub holds : tells → (good : Bool) → WasKept good says (now (clock start)) → HoldsOf good says clock desk (found ++ desk.list)
  -- and then no item is interrupted
  pub never_breaks : tells → WasKept true says (now (clock start)) → AreDone (tried.settled)
  -- no part stands that none needs
  pub swept : tells → IsSwept clock desk desk
  pub near : tells → IsNear (found ++ desk.list) (far start) (far desk.disk)

-- what read as the journal can't be opened, and this is the place that shows it
pub record ReadsDamage (disk : DiskState) (limit place : ℕ) : Type 0 where
  pub bytes : List ℕ
  pub reads : bytes_at disk journal_place ≡ Some bytes
  pub damage : IsDamage limit bytes place

-- every image has what one at the start might have
abbrev pub OnlyBefore : Clock → Clock → Type 0
OnlyBefore start end = (image : Image) → MayLeave (now end) image → WasLeft (now start) image

-- nothing but syncs was done
pub record IsUnchanged (start end : Clock) : Type 0 where
  pub images : OnlyBefore start end
  pub reads : (place : Place) → bytes_at (now end) place ≡ bytes_at (now start) place

-- the journal can't be opened, and nothing but syncs was done
pub record IsDamaged {D : Type 0} (clock : D → Clock) (far : D → ℕ) (start end : D) (limit place : ℕ) : Type 0 where
  pub damage : ReadsDamage (now (clock start)) limit place
  pub unchanged : IsUnchanged (clock start) (clock end)
  pub near : far end ≡ far start

-- nothing was tried
pub record IsUntried {D : Type 0} (clock : D → Clock) (far : D → ℕ) (start end : D) : Type 0 where
  pub images : OnlyBefore (clock start) (clock end)
  pub near : far end ≡ far start

-- The journal was read whole, and of what was tried these entries were recorded, and then those failed: each image recovers to what was recorded, or with the failed one too.
pub record IsRead {D : Type 0} (tells : Type 0) (clock : D → Clock) (far : D → ℕ) (says : Says) (start end : D) (at : ℕ) : Type 0 where
  pub found : History
  pub recorded : History
  pub failed : History
  pub rest : History
  pub left : List Item
  pub is : IsTried tells (clock start) (clock end) at found (recorded ++ (failed ++ rest)) left
  pub runs : OpenRuns says (clock start) (clock end) found (recorded ++ (failed ++ rest))
  pub kept : (good : Bool) → WasKept good says (now (clock start)) → Kept good says (Through (found ++ recorded) failed) (now (clock end))
  pub near : IsNear (found ++ (recorded ++ (failed ++ rest))) (far start) (far end)

-- the disk that is handed back, in the desk or beside the fault
abbrev pub disk_in : {D : Type 0} → OpenFault D → D
disk_in (opens.Disk kind disk) = disk
disk_in (opens.Damaged place disk) = disk
disk_in (opens.NoMemory disk) = disk

abbrev pub disk_of : {D O : Type 0} → Result (View D O) (OpenFault D) → D
disk_of (Ok desk) = desk.disk
disk_of (Err fault) = disk_in fault

-- what a refused opening leaves, by the fault, on a disk that tells what it holds
abbrev pub OpenFails : {D : Type 0} → Type 0 → (D → Clock) → (D → ℕ) → Says → D → ℕ → ℕ → OpenFault D → Type 0
OpenFails tells clock far says start limit at (opens.Damaged place disk) = IsDamaged clock far start disk limit place
OpenFails tells clock far says start limit at (opens.Disk kind disk) = IsUntried clock far start disk ⊎ IsRead tells clock far says start disk at
OpenFails tells clock far says start limit at (opens.NoMemory disk) = IsUntried clock far start disk ⊎ IsRead tells clock far says start disk at

-- a new desk has the origin and the limits that were handed in
pub record IsMade {D O : Type 0} (origin : O) (limits : Limits) (desk : View D O) : Type 0 where
  pub origin_is : desk.origin ≡ origin
  pub limits_are : desk.limits ≡ limits
  pub limit : desk.items.limit ≡ limits.items

-- A reopening that read no journal: the desk keeps its list, and is broken.
pub record StaysUnread {D O : Type 0} (tells : Type 0) (clock : D → Clock) (far : D → ℕ) (says : Says) (old new : View D O) : Type 0 where
  pub same : new ≡ record old { disk = new.disk; broken = true }
  pub holds : tells → (good : Bool) (history : History) → HoldsOf good says clock old history → HoldsOf good says clock new history
  -- nothing was tried, or nothing stood where the journal is to be
  pub images : tells → IsUntried clock far old.disk new.disk ⊎ ((bytes_at (now (clock old.disk)) journal_place ≡ None) × (far new.disk ≡ far old.disk))

-- A reopening that read the journal whole: the list begins anew with what was recorded, and the one entry that failed is kept apart.
pub record StaysRead {D O : Type 0} (tells : Type 0) (clock : D → Clock) (far : D → ℕ) (says : Says) (at : ℕ) (old new : View D O) : Type 0 where
  pub broken : new.broken ≡ true
  pub origin : new.origin ≡ old.origin
  pub limits : new.limits ≡ old.limits
  pub none_live : new.lives ≡ []
  pub found : History
  pub taken : IsTaken old.limits.items found
  pub rest : History
  pub left : List Item
  pub tried : IsTried tells (clock old.disk) (clock new.disk) at found (new.list ++ (new.failed ++ rest)) left
  pub runs : tells → OpenRuns says (clock old.disk) (clock new.disk) found (new.list ++ (new.failed ++ rest))
  pub items : IsOf (found ++ new.list) new.items
  pub holds : tells → (good : Bool) → WasKept good says (now (clock old.disk)) → HoldsOf good says clock new (found ++ new.list)
  pub near : tells → IsNear (found ++ (new.list ++ new.failed)) (far old.disk) (far new.disk)

-- what a refused reopening leaves, by the fault
abbrev pub RefusedReopening : {D O : Type 0} → Type 0 → (D → Clock) → (D → ℕ) → Says → ℕ → View D O → View D O → DeskFault → Type 0
RefusedReopening tells clock far says at old new (faults.Damaged place) =
    (new ≡ record old { disk = new.disk; broken = true }) × (tells → IsDamaged clock far old.disk new.disk old.limits.items place)
RefusedReopening tells clock far says at old new (faults.Journal kind) = StaysUnread tells clock far says old new ⊎ StaysRead tells clock far says at old new
RefusedReopening tells clock far says at old new faults.NoMemory = StaysUnread tells clock far says old new ⊎ (StaysRead tells clock far says at old new × (new.failed ≡ []))
RefusedReopening tells clock far says at old new _ = ⊥

-- what a reopening that was answered Ok keeps of the desk beside
pub record IsReopened {D O : Type 0} (tells : Type 0) (clock : D → Clock) (far : D → ℕ) (says : Says) (at : ℕ) (old new : View D O) : Type 0 where
  pub opened : IsOpened tells clock far says old.disk at new
  pub origin : new.origin ≡ old.origin
  pub limits : new.limits ≡ old.limits

-- Each answer of a reopening, with its cause and what it makes of the desk.
abbrev pub ReopenAnswers : {D O : Type 0} → Type 0 → (D → Clock) → (D → ℕ) → Says → ℕ → View D O → View D O → Result (Unit {0}) DeskFault → Type 0
ReopenAnswers tells clock far says at old new (Ok done) = IsReopened tells clock far says at old new
ReopenAnswers tells clock far says at old new (Err fault) = RefusedReopening tells clock far says at old new fault

-- Each answer of an opening, with its cause and what it leaves.
abbrev pub OpenAnswers : {D O : Type 0} → Type 0 → (D → Clock) → (D → ℕ) → Says → D → O → Limits → ℕ → Result (View D O) (OpenFault D) → Type 0
OpenAnswers tells clock far says start origin limits at (Ok desk) = IsMade origin limits desk × IsOpened tells clock far says start at desk
OpenAnswers tells clock far says start origin limits at (Err fault) = tells → OpenFails tells clock far says start limits.items at fault
