-- How an attempt that has brought all ends.
use Rattle.std.specs.Prelude.{◌≡◌, ◌≢◌, ◌⊎◌, ℕ, ◌<◌, ◌≤◌, true, List, [], ◌∷◌, ◌++◌, length, take, Option, Some, IfSome, IsSome, Result, Ok, Err}
use Rattle.sha2.specs.Sha256.{sha256}
use Rattle.dm_types.specs.declared.entry.Entry.TheVariants as entries
use Rattle.dm_types.specs.declared.item.Item.{Item}
use Rattle.dm_types.specs.declared.item.ItemId.{ItemId}
use Rattle.dm_types.specs.declared.kinds.DiskKind.{DiskKind}
use Rattle.dm_types.specs.declared.reason.Reason.TheVariants as reasons
use Rattle.dm_disk_model.specs.Disk.{History as Clock, bytes_at, now}
use Rattle.dm_policy.specs.Cause.{reason_of_file}
use Rattle.dm_slice.specs.Words.{IsFirstMissing, IsFull, cover_end}
use Rattle.dm_item.specs.History.{get}
use Rattle.dm_item.specs.Lawful.{History}
use Rattle.dm_part.specs.Laws.{files_place}
use Rattle.dm_store.specs.declared.life.Life.{Life}
use Rattle.dm_store.specs.declared.pass.Gone.TheVariants as gones
use Rattle.dm_store.specs.declared.pass.Pass.{Pass}
use Rattle.dm_store.specs.Becomes.{Becomes, Fell, Recorded, Refuses}
use Rattle.dm_store.specs.Passes.{PassDeclines}
use Rattle.dm_store.specs.View.{View}
use Rattle.dm_answers.specs.declared.answer.Finished.{Finished}
use Rattle.dm_answers.specs.declared.answer.Finished.TheVariants as finished
use Rattle.dm_answers.specs.declared.fault.DeskFault.{DeskFault}
use Rattle.dm_answers.specs.declared.fault.DeskFault.TheVariants as faults
use Rattle.dm_answers.specs.Frame.{FellWith, FileBroke, IsBroken}
use Rattle.dm_answers.specs.Running.{IsUntold, RunsWith, length_of, part_bytes, saving}

-- the known total, or the live cover's end where none is known
abbrev pub total_of : Item → Life → ℕ
total_of item life = get item.total (cover_end life.cover)

-- the first reply was told, and every byte below the total has come
pub record MayFinish (item : Item) (life : Life) : Type 0 where
  pub told : IsSome item.key
  pub full : IsFull (total_of item life) life.cover

-- the first reply was told, and this is the first place below the total that hasn't come
pub record HasHole (place : ℕ) (item : Item) (life : Life) : Type 0 where
  pub told : IsSome item.key
  pub first : IsFirstMissing (total_of item life) life.cover place

-- the bytes are there up to the total, and have this sum
pub record HasSum (found : Option (List ℕ)) (total : ℕ) (sum : List ℕ) : Type 0 where
  pub bytes : List ℕ
  pub there : found ≡ Some bytes
  pub long : total ≤ length bytes
  pub sum_is : sum ≡ sha256 (take total bytes)

-- What was found of the part, and what is recorded for it. It has this sum, and no other is stated.
pub record IsConfirmed {D : Type 0} (tells : Type 0) (clock : D → Clock) (disk : D) (item : Item) (life : Life) (digest : List ℕ) : Type 0 where
  pub stated : IfSome item.digest (λ d. d ≡ digest)
  pub sum : tells → HasSum (part_bytes clock disk item) (total_of item life) digest

-- it has this sum, and another is stated
pub record Differs {D : Type 0} (tells : Type 0) (clock : D → Clock) (disk : D) (item : Item) (life : Life) (have wanted : List ℕ) : Type 0 where
  pub stated : item.digest ≡ Some wanted
  pub other : have ≢ wanted
  pub sum : tells → HasSum (part_bytes clock disk item) (total_of item life) have

-- it ends early
pub record EndsEarly {D : Type 0} (tells : Type 0) (clock : D → Clock) (disk : D) (item : Item) (life : Life) (have wanted : ℕ) : Type 0 where
  pub wanted_is : wanted ≡ total_of item life
  pub short : have < wanted
  pub have_is : tells → have ≡ length_of (part_bytes clock disk item)

abbrev pub finishing_entries : Item → Life → List ℕ → ℕ → History
finishing_entries item life digest at = entries.Finishing item.id (total_of item life) ∷ entries.Done item.id digest at ∷ []

abbrev pub mismatched : ItemId → History
mismatched id = entries.Broke id reasons.FileHashMismatch ∷ []

abbrev pub ended_early : ItemId → History
ended_early id = entries.Broke id reasons.FileTooShort ∷ []

-- some sum of the part allows these entries
pub record Closes {D : Type 0} (tells : Type 0) (clock : D → Clock) (disk : D) (at : ℕ) (item : Item) (life : Life) (behind : History) : Type 0 where
  pub digest : List ℕ
  pub confirmed : IsConfirmed tells clock disk item life digest
  pub is : behind ≡ finishing_entries item life digest at

pub record ClosesOther {D : Type 0} (tells : Type 0) (clock : D → Clock) (disk : D) (item : Item) (life : Life) (behind : History) : Type 0 where
  pub have : List ℕ
  pub wanted : List ℕ
  pub differs : Differs tells clock disk item life have wanted
  pub is : behind ≡ mismatched item.id

pub record ClosesEarly {D : Type 0} (tells : Type 0) (clock : D → Clock) (disk : D) (item : Item) (life : Life) (behind : History) : Type 0 where
  pub have : ℕ
  pub wanted : ℕ
  pub early : EndsEarly tells clock disk item life have wanted
  pub is : behind ≡ ended_early item.id

-- what may be tried behind the saving
abbrev pub FinishTail : {D : Type 0} → Type 0 → (D → Clock) → (D → DiskKind → ℕ) → D → D → ℕ → Item → Life → History → Type 0
FinishTail tells clock counts old new at item life behind =
    Closes tells clock old at item life behind ⊎ (ClosesOther tells clock old item life behind
    ⊎ (ClosesEarly tells clock old item life behind ⊎ FileBroke (counts old) (counts new) item.id behind))

-- The Finishing is recorded, and the name couldn't be given.
pub record FellNaming {D O : Type 0} (tells : Type 0) (clock : D → Clock) (old new : View D O) (item : Item) (life : Life) : Type 0 where
  pub digest : List ℕ
  pub confirmed : IsConfirmed tells clock old.disk item life digest
  pub becomes : Becomes old new (saving item life ++ entries.Finishing item.id (total_of item life) ∷ []) [] true

-- where the journal failed: at the saving or the interruption in its place, behind it, or where the name was given
abbrev pub FinishFell : {D O : Type 0} → Type 0 → (D → Clock) → (D → DiskKind → ℕ) → View D O → View D O → ℕ → Item → Life → Type 0
FinishFell tells clock counts old new at item life =
    Fell old new (saving item life) ⊎ ((0 < life.unsaved) × FellWith old new [] (FileBroke (counts old.disk) (counts new.disk) item.id)
    ⊎ (FellWith old new (saving item life) (FinishTail tells clock counts old.disk new.disk at item life) ⊎ FellNaming tells clock old new item life))

-- the call on the part that failed: the sync of what was landed, or the reading
abbrev pub FinishBroke : {D O : Type 0} → View D O → View D O → DiskKind → Item → Life → Type 0
FinishBroke old new kind item life =
    ((0 < life.unsaved) × Recorded old new (entries.Broke item.id (reason_of_file kind) ∷ [])) ⊎ Recorded old new (saving item life ++ entries.Broke item.id (reason_of_file kind) ∷ [])

-- the content is confirmed, and its file has the name
pub record IsFinished {D O : Type 0} (tells : Type 0) (clock : D → Clock) (old new : View D O) (at : ℕ) (item : Item) (life : Life) : Type 0 where
  pub may : MayFinish item life
  pub digest : List ℕ
  pub confirmed : IsConfirmed tells clock old.disk item life digest
  pub recorded : Recorded old new (saving item life ++ finishing_entries item life digest at)

-- what the name reads is what the part read
pub record HasMoved {D O : Type 0} (clock : D → Clock) (old new : View D O) (item : Item) (life : Life) : Type 0 where
  pub moved : (name file : List ℕ) → item.name ≡ Some name → part_bytes clock old.disk item ≡ Some file → bytes_at (now (clock new.disk)) (files_place name) ≡ Some file

-- Each answer, with its cause and what it makes of the desk.
abbrev pub FinishAnswers : {D O : Type 0} → Type 0 → (D → Clock) → (D → DiskKind → ℕ) → View D O → View D O → Pass → ℕ → Result Finished DeskFault → Type 0
FinishAnswers tells clock counts old new pass at (Ok finished.Complete) = RunsWith old pass.id pass.attempt (IsFinished tells clock old new at)
FinishAnswers tells clock counts old new pass at (Ok (finished.Mismatch have wanted)) =
    RunsWith old pass.id pass.attempt (λ item life. MayFinish item life × Differs tells clock old.disk item life have wanted × Recorded old new (saving item life ++ mismatched item.id))
FinishAnswers tells clock counts old new pass at (Ok (finished.Short have wanted)) =
    RunsWith old pass.id pass.attempt (λ item life. MayFinish item life × EndsEarly tells clock old.disk item life have wanted × Recorded old new (saving item life ++ ended_early item.id))
FinishAnswers tells clock counts old new pass at (Err faults.Broken) = IsBroken old new
FinishAnswers tells clock counts old new pass at (Err (faults.NoItem id)) = Refuses old new (PassDeclines old pass.id pass.attempt (gones.NoItem id))
FinishAnswers tells clock counts old new pass at (Err (faults.Stale attempt round)) = Refuses old new (PassDeclines old pass.id pass.attempt (gones.Stale attempt round))
FinishAnswers tells clock counts old new pass at (Err (faults.WrongState phase)) = Refuses old new (RunsWith old pass.id pass.attempt (IsUntold phase))
FinishAnswers tells clock counts old new pass at (Err (faults.NotNext place)) = Refuses old new (RunsWith old pass.id pass.attempt (HasHole place))
FinishAnswers tells clock counts old new pass at (Err faults.NoMemory) = Refuses old new (RunsWith old pass.id pass.attempt MayFinish)
FinishAnswers tells clock counts old new pass at (Err (faults.File kind)) = RunsWith old pass.id pass.attempt (λ item life. MayFinish item life × FinishBroke old new kind item life)
FinishAnswers tells clock counts old new pass at (Err (faults.Journal kind)) =
    RunsWith old pass.id pass.attempt (λ item life. MayFinish item life × FinishFell tells clock counts old new at item life)
FinishAnswers tells clock counts old new pass at _ = ⊥
