-- What the first reply of an epoch tells, and the name that the item gets.
use Rattle.std.specs.Prelude.{◌≡◌, ◌⊎◌, ℕ, ◌^◌, ◌≤◌, cond, List, [], ◌∷◌, ◌++◌, None, IfSome, option_to_list, Result, Ok, Err}
use Rattle.dm_types.specs.declared.entry.Entry.{Entry}
use Rattle.dm_types.specs.declared.entry.Entry.TheVariants as entries
use Rattle.dm_types.specs.declared.item.Item.{Item}
use Rattle.dm_types.specs.declared.item.Key.{Key}
use Rattle.dm_types.specs.declared.item.Key.TheVariants.{Strong, Once}
use Rattle.dm_types.specs.declared.kinds.DiskKind.{DiskKind}
use Rattle.dm_types.specs.declared.reason.Reason.TheVariants as reasons
use Rattle.dm_disk_model.specs.Disk.{History as Clock, now}
use Rattle.dm_disk_model.specs.Folder.{Lists}
use Rattle.dm_policy.specs.Cause.{reason_of_file}
use Rattle.dm_record.specs.Limits.{AtMost, IsTag}
use Rattle.dm_item.specs.Lawful.{History}
use Rattle.dm_item.specs.Row.{is_cancelled}
use Rattle.dm_name.specs.Clean.{cleaned}
use Rattle.dm_name.specs.Forms.{AreAllTaken, IsFirstFree}
use Rattle.dm_store.specs.declared.life.Life.{Life}
use Rattle.dm_store.specs.declared.pass.Gone.TheVariants as gones
use Rattle.dm_store.specs.declared.pass.Pass.{Pass}
use Rattle.dm_store.specs.Becomes.{Recorded, Refuses}
use Rattle.dm_store.specs.Passes.{PassDeclines}
use Rattle.dm_store.specs.View.{View}
use Rattle.dm_answers.specs.declared.answer.Named.{Named}
use Rattle.dm_answers.specs.declared.answer.Named.TheVariants as named
use Rattle.dm_answers.specs.declared.answer.Told.{Told}
use Rattle.dm_answers.specs.declared.fault.DeskFault.{DeskFault}
use Rattle.dm_answers.specs.declared.fault.DeskFault.TheVariants as faults
use Rattle.dm_answers.specs.Frame.{FellWith, FileBroke, IsBroken, IsOne, RefusesStill}
use Rattle.dm_answers.specs.Running.{IsTold, RunsWith}

-- the wish is a cleaned name
pub record IsCleaned (wish : List ℕ) : Type 0 where
  pub raw : List ℕ
  pub is : wish ≡ cleaned raw

-- a key that stands for one attempt names this one
abbrev pub IsKeyFor : Pass → Key → Type 0
IsKeyFor pass (Strong tag) = Unit {0}
IsKeyFor pass (Once id attempt) = (id ≡ pass.id) × (attempt ≡ pass.attempt)

-- what may be told
pub record IsTelling (pass : Pass) (told : Told) : Type 0 where
  pub small : IfSome told.total (λ bytes. bytes ≤ 2 ^ 40)
  pub wish : IsCleaned told.wish
  pub tag : IsTag told.key
  pub address : AtMost 4096 told.last_address
  pub modified : AtMost 128 told.modified
  pub own : IsKeyFor pass told.key

-- the names of the items but the cancelled ones
abbrev pub used_names : List Item → List (List ℕ)
used_names [] = []
used_names (item ∷ rest) = cond (is_cancelled item.phase) [] (option_to_list item.name) ++ used_names rest

-- the entry of what was told, with the name that the item gets
abbrev pub described_by : Pass → Told → List ℕ → Entry
described_by pass told name = entries.Described pass.id told.key told.last_address told.total name told.modified

-- The names of the files were listed. P holds of them and of those that items have.
pub record WithNames {D O : Type 0} (tells : Type 0) (clock : D → Clock) (old : View D O) (P : List (List ℕ) → Type 0) : Type 0 where
  pub listed : List (List ℕ)
  pub lists : tells → Lists (now (clock old.disk)).files listed
  pub is : P (listed ++ used_names old.items.items)

-- the entry gives the item the first free form of the wish
pub record GivesName (pass : Pass) (told : Told) (entry : Entry) (taken : List (List ℕ)) : Type 0 where
  pub name : List ℕ
  pub free : IsFirstFree told.wish taken name
  pub is : entry ≡ described_by pass told name

-- every form of the wish is taken, and the entry interrupts the item
pub record GivesNone (pass : Pass) (told : Told) (entry : Entry) (taken : List (List ℕ)) : Type 0 where
  pub all : AreAllTaken told.wish taken
  pub is : entry ≡ entries.Broke pass.id reasons.FileFailed

-- the entry of each outcome
abbrev pub Names : {D O : Type 0} → Type 0 → (D → Clock) → View D O → Pass → Told → Named → Entry → Type 0
Names tells clock old pass told named.Named entry = WithNames tells clock old (GivesName pass told entry)
Names tells clock old pass told named.AllTaken entry = WithNames tells clock old (GivesNone pass told entry)

-- an attempt runs, and nothing was told
abbrev pub IsSilent : Item → Life → Type 0
IsSilent item life = item.key ≡ None

-- just one entry with P was recorded
pub record RecordedOne {D O : Type 0} (old new : View D O) (P : Entry → Type 0) : Type 0 where
  pub entry : Entry
  pub is : P entry
  pub recorded : Recorded old new (entry ∷ [])

-- what was tried where the journal failed: the entry of either outcome, or the interruption by a file
abbrev pub DescribeTries : {D O : Type 0} → Type 0 → (D → Clock) → (D → DiskKind → ℕ) → View D O → View D O → Pass → Told → History → Type 0
DescribeTries tells clock counts old new pass told tries =
    IsOne (Names tells clock old pass told named.Named) tries ⊎ (IsOne (Names tells clock old pass told named.AllTaken) tries ⊎ FileBroke (counts old.disk) (counts new.disk) pass.id tries)

-- Each answer, with its cause and what it makes of the desk.
abbrev pub DescribeAnswers : {D O : Type 0} → Type 0 → (D → Clock) → (D → DiskKind → ℕ) → View D O → View D O → Pass → Told → Result Named DeskFault → Type 0
DescribeAnswers tells clock counts old new pass told (Ok name) =
    RunsWith old pass.id pass.attempt IsSilent × RecordedOne old new (Names tells clock old pass told name)
DescribeAnswers tells clock counts old new pass told (Err faults.Broken) = IsBroken old new
DescribeAnswers tells clock counts old new pass told (Err (faults.NoItem id)) = Refuses old new (PassDeclines old pass.id pass.attempt (gones.NoItem id))
DescribeAnswers tells clock counts old new pass told (Err (faults.Stale attempt round)) = Refuses old new (PassDeclines old pass.id pass.attempt (gones.Stale attempt round))
DescribeAnswers tells clock counts old new pass told (Err (faults.WrongState phase)) = Refuses old new (RunsWith old pass.id pass.attempt (IsTold phase))
DescribeAnswers tells clock counts old new pass told (Err faults.NoMemory) = RefusesStill clock old new (RunsWith old pass.id pass.attempt IsSilent)
DescribeAnswers tells clock counts old new pass told (Err (faults.File kind)) =
    RunsWith old pass.id pass.attempt IsSilent × Recorded old new (entries.Broke pass.id (reason_of_file kind) ∷ [])
DescribeAnswers tells clock counts old new pass told (Err (faults.Journal kind)) =
    RunsWith old pass.id pass.attempt IsSilent × FellWith old new [] (DescribeTries tells clock counts old new pass told)
DescribeAnswers tells clock counts old new pass told _ = ⊥
