-- How an attempt begins.
use Rattle.std.specs.Prelude.{◌≡◌, ◌⊎◌, ℕ, ◌+◌, ◌<◌, ◌≤◌, Bool, false, ◌&&◌, cond, [], ◌∷◌, ◌++◌, Option, None, IsSome, IsTrue, Result, Ok, Err}
use Rattle.dm_types.specs.declared.entry.Entry.TheVariants as entries
use Rattle.dm_types.specs.declared.item.Item.{Item}
use Rattle.dm_types.specs.declared.item.ItemId.{ItemId}
use Rattle.dm_types.specs.declared.item.Key.{Key}
use Rattle.dm_types.specs.declared.kinds.By.{By}
use Rattle.dm_types.specs.declared.kinds.DiskKind.{DiskKind}
use Rattle.dm_types.specs.declared.reason.Reason.TheVariants as reasons
use Rattle.dm_policy.specs.Cause.{reason_of_file}
use Rattle.dm_policy.specs.Mode.{because_by, is_restart}
use Rattle.dm_disk_model.specs.Disk.{History as Clock}
use Rattle.dm_slice.specs.Words.{cover_end}
use Rattle.dm_item.specs.History.{get}
use Rattle.dm_item.specs.Lawful.{History}
use Rattle.dm_item.specs.Row.{begins_by, begins_in, facts_of, mode_of_item}
use Rattle.dm_store.specs.declared.pass.Pass.{Pass}
use Rattle.dm_store.specs.Becomes.{Recorded, Refuses}
use Rattle.dm_store.specs.View.{View}
use Rattle.dm_answers.specs.declared.answer.Begun.{Begun}
use Rattle.dm_answers.specs.declared.answer.Begun.TheVariants as begun
use Rattle.dm_answers.specs.declared.fault.DeskFault.{DeskFault}
use Rattle.dm_answers.specs.declared.fault.DeskFault.TheVariants as faults
use Rattle.dm_answers.specs.Frame.{FellWith, FileBroke, IsBroken}
use Rattle.dm_answers.specs.Running.{HasNone, ItemWith, length_of, part_bytes}

-- the user begins what waits, and an item begins by itself that was interrupted and whose mode is immediate
abbrev pub may_begin : By → Item → Bool
may_begin by item = begins_in by item.phase && begins_by by (mode_of_item item)

-- an attempt was begun in this epoch, and the content is to be brought anew
abbrev pub begins_anew : Item → Bool
begins_anew item = item.begun && is_restart (mode_of_item item)

abbrev pub epoch_behind : Item → ℕ
epoch_behind item = cond (begins_anew item) (item.epoch.0 + 1) item.epoch.0

abbrev pub key_behind : Item → Option Key
key_behind item = cond (begins_anew item) None item.key

-- the first rule by which the content is brought anew
abbrev pub because_of : Item → ℕ
because_of item = get (because_by item.reason (facts_of item)) 0

-- what is recorded where an attempt begins: a new epoch, where one is due, and the attempt
abbrev pub beginning : Item → By → ℕ → History
beginning item by at =
    cond (begins_anew item) (entries.Restarted item.id (record { 0 = epoch_behind item }) (because_of item) ∷ []) [] ++ entries.Began item.id (record { 0 = item.attempt.0 + 1 }) by at ∷ []

-- what the attempt shows with each of its calls
abbrev pub pass_of : Item → Pass
pass_of item = record { id = item.id; attempt = record { 0 = item.attempt.0 + 1 }; epoch = record { 0 = epoch_behind item } }

-- it may begin, and its content is to be asked for from the start
pub record BeginsFresh (by : By) (pass : Pass) (item : Item) : Type 0 where
  pub may : IsTrue (may_begin by item)
  pub untold : key_behind item ≡ None
  pub pass_is : pass ≡ pass_of item

-- it may begin, and the part is looked at first: what was saved of the content is to be there
pub record BeginsKept (by : By) (item : Item) : Type 0 where
  pub may : IsTrue (may_begin by item)
  pub told : IsSome (key_behind item)

-- the part holds all that was saved
pub record GoesOn {D : Type 0} (tells : Type 0) (clock : D → Clock) (disk : D) (pass : Pass) (item : Item) : Type 0 where
  pub pass_is : pass ≡ pass_of item
  pub long : tells → cover_end item.slices ≤ length_of (part_bytes clock disk item)

-- the part is shorter than what was saved, or missing
pub record FallsShort {D : Type 0} (tells : Type 0) (clock : D → Clock) (disk : D) (have wanted : ℕ) (item : Item) : Type 0 where
  pub wanted_is : wanted ≡ cover_end item.slices
  pub short : have < wanted
  pub have_is : tells → have ≡ length_of (part_bytes clock disk item)

-- some part was too short
pub record IsPartShort {D : Type 0} (tells : Type 0) (clock : D → Clock) (disk : D) (item : Item) : Type 0 where
  pub have : ℕ
  pub wanted : ℕ
  pub is : FallsShort tells clock disk have wanted item

-- the interruption of an attempt whose part is too short
abbrev pub too_short : ItemId → History
too_short id = entries.Broke id reasons.FileTooShort ∷ []

-- What is tried behind the beginning where the journal fails: nothing, or why the attempt ends at once.
abbrev pub BeginsTail : {D : Type 0} → Type 0 → (D → Clock) → (D → DiskKind → ℕ) → D → D → Item → History → Type 0
BeginsTail tells clock counts old new item behind =
    (behind ≡ []) ⊎ (IsSome (key_behind item) × (((behind ≡ too_short item.id) × IsPartShort tells clock old item) ⊎ FileBroke (counts old) (counts new) item.id behind))

-- Each answer, with its cause and what it makes of the desk.
abbrev pub BeginAnswers : {D O : Type 0} → Type 0 → (D → Clock) → (D → DiskKind → ℕ) → View D O → View D O → ItemId → By → ℕ → Result Begun DeskFault → Type 0
BeginAnswers tells clock counts old new id by at (Ok (begun.Fresh pass)) =
    ItemWith old id (λ item. BeginsFresh by pass item × Recorded old new (beginning item by at))
BeginAnswers tells clock counts old new id by at (Ok (begun.Continue pass)) =
    ItemWith old id (λ item. BeginsKept by item × GoesOn tells clock old.disk pass item × Recorded old new (beginning item by at))
BeginAnswers tells clock counts old new id by at (Ok (begun.Short have wanted)) =
    ItemWith old id (λ item. BeginsKept by item × FallsShort tells clock old.disk have wanted item × Recorded old new (beginning item by at ++ too_short item.id))
BeginAnswers tells clock counts old new id by at (Err faults.Broken) = IsBroken old new
BeginAnswers tells clock counts old new id by at (Err (faults.NoItem other)) = Refuses old new (HasNone old id other)
BeginAnswers tells clock counts old new id by at (Err (faults.WrongState phase)) = Refuses old new (ItemWith old id (λ item. (phase ≡ item.phase) × (may_begin by item ≡ false)))
BeginAnswers tells clock counts old new id by at (Err faults.NoMemory) = Refuses old new (ItemWith old id (λ item. IsTrue (may_begin by item)))
BeginAnswers tells clock counts old new id by at (Err (faults.File kind)) =
    ItemWith old id (λ item. BeginsKept by item × Recorded old new (beginning item by at ++ entries.Broke item.id (reason_of_file kind) ∷ []))
BeginAnswers tells clock counts old new id by at (Err (faults.Journal kind)) =
    ItemWith old id (λ item. IsTrue (may_begin by item) × FellWith old new (beginning item by at) (BeginsTail tells clock counts old.disk new.disk item))
BeginAnswers tells clock counts old new id by at _ = ⊥
