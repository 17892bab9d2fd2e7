-- What settling makes of a desk, and what it keeps.
use Rattle.std.specs.Prelude.{◌≡◌, ◌⊎◌, ℕ, ◌≤◌, Bool, true, false, List, [], ◌∷◌, ◌++◌, length, Some, Contains, Result, Ok, Err}
use Rattle.dm_types.specs.Name.{IsPart}
use Rattle.dm_types.specs.declared.entry.Entry.{Entry}
use Rattle.dm_types.specs.declared.item.Item.{Item}
use Rattle.dm_types.specs.declared.item.Phase.TheVariants as phases
use Rattle.dm_types.specs.declared.kinds.DiskKind.{DiskKind}
use Rattle.dm_disk_model.specs.Disk.{History as Clock, now}
use Rattle.dm_disk_model.specs.Folder.{Folder, Renamed, after_change, names_of}
use Rattle.dm_item.specs.Lawful.{History}
use Rattle.dm_item.specs.Listing.{item_in}
use Rattle.dm_kept.specs.Files.{IfGood, Says}
use Rattle.dm_store.specs.Becomes.{Becomes, Recorded}
use Rattle.dm_store.specs.Keeps.{Goes, HoldsOf, added}
use Rattle.dm_store.specs.Lives.{part_place}
use Rattle.dm_store.specs.Publishing.{IsPartOr}
use Rattle.dm_store.specs.View.{View}
use Rattle.dm_answers.specs.Settling.{AreDone, AreSettlings, finishing, name_place, stands}
use Rattle.dm_find.specs.declared.hindered.Hindered.{Hindered}
use Rattle.dm_find.specs.declared.hindered.Hindered.TheVariants as hindrances
use Rattle.dm_settle.specs.Judging.{Judges, entry_of}
use Rattle.dm_settle.specs.Moving.{IsListedFor}
use Rattle.dm_settle.specs.declared.judging.Judged.{Judged}
use Rattle.dm_settle.specs.declared.judging.Judged.TheVariants as judgements
use Rattle.dm_settle.specs.declared.moving.Moving.{Moving}

-- the content is whole
abbrev pub IsWhole : Judged → Type 0
IsWhole (judgements.Broken reason) = ⊥
IsWhole (judgements.InPart sum) = Unit {0}
IsWhole (judgements.Named sum) = Unit {0}

-- which names have other files behind it: only a part that is given its name
abbrev pub LeavesNames : Moving → Judged → Folder → Folder → Type 0
LeavesNames moving (judgements.InPart sum) old new = names_of new ≡ after_change (names_of old) (Renamed moving.part.name moving.target.name)
LeavesNames moving (judgements.Broken reason) old new = names_of new ≡ names_of old
LeavesNames moving (judgements.Named sum) old new = names_of new ≡ names_of old

-- which names may be touched
abbrev pub IsSparedBy : Moving → Judged → List ℕ → Type 0
IsSparedBy moving (judgements.InPart sum) name = IsPartOr moving.target.name name
IsSparedBy moving (judgements.Broken reason) name = IsPart name
IsSparedBy moving (judgements.Named sum) name = IsPart name

-- the name is the one that the item gets, and of its two names the part alone was listed
pub record IsAloneIn (names : List (List ℕ)) (moving : Moving) (name : List ℕ) : Type 0 where
  pub is : name ≡ moving.target.name
  pub parted : Contains names moving.part.name
  pub free : Contains names moving.target.name → ⊥

abbrev pub IsPartOrAlone : List (List ℕ) → Moving → List ℕ → Type 0
IsPartOrAlone names moving name = IsPart name ⊎ IsAloneIn names moving name

-- The entry wasn't recorded, and perhaps failed; nothing else changed but the disk.
pub record StopsAt {D O : Type 0} (old new : View D O) (entry : Entry) (broken : Bool) : Type 0 where
  pub failed : History
  pub becomes : Becomes old new [] failed broken
  pub tried : (failed ≡ []) ⊎ (failed ≡ entry ∷ [])

-- a judgement was recorded, or it stopped there
abbrev pub SettlesAs : {D O : Type 0} → View D O → View D O → Entry → Result (Unit {0}) DiskKind → Type 0
SettlesAs old new entry (Ok done) = Recorded old new (entry ∷ [])
SettlesAs old new entry (Err kind) = StopsAt old new entry true

-- from each history that the desk holds, where a good desk's item is whole
abbrev pub SettleGoes : {D O : Type 0} → Type 0 → (D → Clock) → (O → Says) → View D O → View D O → Judged → Type 0
SettleGoes tells clock says old new judged =
    tells → (good : Bool) (before : History) → HoldsOf good (says old.origin) clock old before → IfGood good (IsWhole judged) → Goes good (says old.origin) clock old new before (added old new)

-- An item was settled.
pub record IsSettled {D O : Type 0} (tells : Type 0) (clock : D → Clock) (old new : View D O) (names : List (List ℕ)) (at : ℕ) (moving : Moving) : Type 0 where
  pub judged : Judged
  pub judges : Judges tells (now (clock old.disk)) names moving judged
  pub becomes : Recorded old new (entry_of moving.id at judged ∷ [])
  pub leaves : tells → LeavesNames moving judged (now (clock old.disk)).files (now (clock new.disk)).files

-- An item was judged, and its entry failed, or the disk before it.
pub record IsStopped {D O : Type 0} (tells : Type 0) (clock : D → Clock) (old new : View D O) (names : List (List ℕ)) (at : ℕ) (moving : Moving) : Type 0 where
  pub judged : Judged
  pub judges : Judges tells (now (clock old.disk)) names moving judged
  pub stops : StopsAt old new (entry_of moving.id at judged) true

abbrev pub ItemMakes : {D O : Type 0} → Type 0 → (D → Clock) → View D O → View D O → List (List ℕ) → ℕ → Moving → Result (Unit {0}) Hindered → Type 0
ItemMakes tells clock old new names at moving (Ok done) = IsSettled tells clock old new names at moving
ItemMakes tells clock old new names at moving (Err (hindrances.Disk kind)) = Recorded old new [] ⊎ IsStopped tells clock old new names at moving
ItemMakes tells clock old new names at moving (Err hindrances.NoMemory) = Recorded old new []

-- from each history that the desk holds, where what was listed of a good desk's item is what stands
abbrev pub ItemGoes : {D O : Type 0} → Type 0 → (D → Clock) → (O → Says) → View D O → View D O → List (List ℕ) → Item → Type 0
ItemGoes tells clock says old new names item =
    tells → (good : Bool) (before : History) → HoldsOf good (says old.origin) clock old before → IfGood good (IsListedFor (now (clock old.disk)).files names item) → Goes good (says old.origin) clock old new before (added old new)

-- these items were settled, and then one entry perhaps failed
pub record IsUnsettled {D O : Type 0} (tells : Type 0) (clock : D → Clock) (old new : View D O) (at : ℕ) : Type 0 where
  pub recorded : History
  pub failed : History
  pub broken : Bool
  pub becomes : Becomes old new recorded failed broken
  pub one : length failed ≤ 1
  pub left : List Item
  pub settles : AreSettlings tells (clock old.disk) (clock new.disk) at (finishing old.items.items) (recorded ++ failed) left

pub record AreSettled {D O : Type 0} (tells : Type 0) (clock : D → Clock) (old new : View D O) (at : ℕ) : Type 0 where
  pub recorded : History
  pub becomes : Recorded old new recorded
  pub settles : AreSettlings tells (clock old.disk) (clock new.disk) at (finishing old.items.items) recorded []

-- All items that were being finished were settled, or those up to some.
abbrev pub AllMakes : {D O : Type 0} → Type 0 → (D → Clock) → View D O → View D O → ℕ → Result (Unit {0}) Hindered → Type 0
AllMakes tells clock old new at (Ok done) = AreSettled tells clock old new at
AllMakes tells clock old new at (Err (hindrances.Disk kind)) = IsUnsettled tells clock old new at
AllMakes tells clock old new at (Err hindrances.NoMemory) = IsUnsettled tells clock old new at × (new.failed ≡ [])

-- of a good desk each was complete
abbrev pub NeverBreaks : {D O : Type 0} → Type 0 → (D → Clock) → (O → Says) → View D O → View D O → Type 0
NeverBreaks tells clock says old new = tells → (before : History) → HoldsOf true (says old.origin) clock old before → AreDone (added old new ++ new.failed)

-- The name is that of an item which is being finished, whose part stands alone: it is given the file.
pub record IsGivenIn {D O : Type 0} (clock : D → Clock) (desk : View D O) (name : List ℕ) : Type 0 where
  pub id : ℕ
  pub item : Item
  pub there : item_in id desk.items.items ≡ Some item
  pub finishing : item.phase ≡ phases.Finishing
  pub named : item.name ≡ Some name
  pub parted : stands (clock desk.disk) (part_place item.id.0 item.epoch.0) ≡ true
  pub free : stands (clock desk.disk) (name_place item) ≡ false

abbrev pub IsPartOrGiven : {D O : Type 0} → (D → Clock) → View D O → List ℕ → Type 0
IsPartOrGiven clock desk name = IsPart name ⊎ IsGivenIn clock desk name
