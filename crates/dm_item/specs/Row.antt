-- What each entry needs of its item, and what it makes of it.
use Rattle.std.specs.Prelude.{◌≡◌, ◌≢◌, ℕ, ◌+◌, ◌≤◌, ◌<◌, ◌^◌, Bool, true, false, not, ◌&&◌, ◌||◌, nat_lt, if◌then◌else◌, List, [], ◌∷◌, Option, Some, None, is_some, IsSome, IfSome, IsTrue}
use Rattle.dm_types.specs.declared.item.Item.{Item}
use Rattle.dm_types.specs.declared.item.ItemId.{ItemId}
use Rattle.dm_types.specs.declared.item.Attempt.{Attempt}
use Rattle.dm_types.specs.declared.item.Epoch.{Epoch}
use Rattle.dm_types.specs.declared.item.Key.{Key}
use Rattle.dm_types.specs.declared.item.Key.TheVariants.{Strong, Once}
use Rattle.dm_types.specs.declared.item.Phase.{Phase}
use Rattle.dm_types.specs.declared.item.Phase.TheVariants as phases
use Rattle.dm_types.specs.declared.slices.Slice.{Slice}
use Rattle.dm_types.specs.declared.kinds.By.{By}
use Rattle.dm_types.specs.declared.kinds.By.TheVariants.{User, Itself}
use Rattle.dm_types.specs.declared.kinds.Mode.{Mode}
use Rattle.dm_types.specs.declared.kinds.Mode.TheVariants as modes
use Rattle.dm_types.specs.declared.reason.Reason.{Reason}
use Rattle.dm_types.specs.declared.reason.Reason.TheVariants as reasons
use Rattle.dm_types.specs.declared.entry.Entry.{Entry}
use Rattle.dm_types.specs.declared.entry.Entry.TheVariants as entries
use Rattle.dm_types.specs.Name.{fold_case}
use Rattle.dm_policy.specs.declared.mode.ModeFacts.{ModeFacts}
use Rattle.dm_policy.specs.Mode.{mode_by, because_by, is_continue, is_immediate, is_invalid, is_restart}
use Rattle.dm_slice.specs.Words.{Holds, IsFull, covered, cover_end}
use Rattle.dm_slice.specs.Cover.{IsCoverWithin}
use Rattle.dm_item.specs.Fields.{no_bytes, is_running, stopped}

-- the two names are taken for one
abbrev pub IsSameName : List ℕ → List ℕ → Type 0
IsSameName name other = fold_case name ≡ fold_case other

-- the key is there and is a strong tag
abbrev pub is_strong : Option Key → Bool
is_strong None = false
is_strong (Some (Strong tag)) = true
is_strong (Some (Once id attempt)) = false

abbrev pub is_paused : Phase → Bool
is_paused phases.Paused = true
is_paused _ = false

-- what the mode of an item depends on beside its reason
abbrev pub facts_of : Item → ModeFacts
facts_of item = record {
  strong = is_strong item.key;
  total = is_some item.total;
  covered = nat_lt 0 (covered item.slices);
  autos = item.autos;
  attempt = item.attempt;
  paused = is_paused item.phase;
}

-- an item that is done with or is being finished goes on in no way
abbrev pub mode_in : Phase → Mode → Mode
mode_in phases.Complete mode = modes.Invalid
mode_in phases.Cancelled mode = modes.Invalid
mode_in phases.Finishing mode = modes.Invalid
mode_in phases.Waiting mode = mode
mode_in phases.Running mode = mode
mode_in phases.Paused mode = mode
mode_in (phases.Interrupted reason) mode = mode

-- how an item may go on
abbrev pub mode_of_item : Item → Mode
mode_of_item item = mode_in item.phase (mode_by item.reason (facts_of item))

-- the id of the item that an entry changes: it must be there
abbrev pub target_of : Entry → Option ItemId
target_of (entries.Added id word address wish digest at) = None
target_of (entries.Reopened next at) = None
target_of (entries.Restored item) = None
target_of (entries.Began id attempt by at) = Some id
target_of (entries.Described id key last_address total name modified) = Some id
target_of (entries.Progress id slices) = Some id
target_of (entries.Broke id reason) = Some id
target_of (entries.Paused id) = Some id
target_of (entries.Cancelled id) = Some id
target_of (entries.Restarted id epoch because) = Some id
target_of (entries.Finishing id total) = Some id
target_of (entries.Done id digest at) = Some id
target_of (entries.Removed id) = Some id
target_of (entries.Archived id) = Some id
target_of (entries.Asked id) = Some id

abbrev pub is_waiting : Phase → Bool
is_waiting phases.Waiting = true
is_waiting _ = false

abbrev pub is_interrupted : Phase → Bool
is_interrupted (phases.Interrupted reason) = true
is_interrupted _ = false

abbrev pub is_finishing : Phase → Bool
is_finishing phases.Finishing = true
is_finishing _ = false

abbrev pub is_complete : Phase → Bool
is_complete phases.Complete = true
is_complete _ = false

abbrev pub is_cancelled : Phase → Bool
is_cancelled phases.Cancelled = true
is_cancelled _ = false

-- the phases in which an attempt by the user, or by itself, begins
abbrev pub begins_in : By → Phase → Bool
begins_in User phase = is_waiting phase
begins_in Itself phase = is_interrupted phase

-- the first column of the table: the phases before
abbrev pub allows : Entry → Phase → Bool
allows (entries.Began id attempt by at) phase = begins_in by phase
allows (entries.Described id key last_address total name modified) phase = is_running phase
allows (entries.Progress id slices) phase = is_running phase
allows (entries.Broke id reason) phase = is_running phase || is_finishing phase
allows (entries.Paused id) phase = is_waiting phase || (is_running phase || is_interrupted phase)
allows (entries.Asked id) phase = is_paused phase || is_interrupted phase
allows (entries.Cancelled id) phase = is_waiting phase || (is_running phase || (is_paused phase || is_interrupted phase))
allows (entries.Restarted id epoch because) phase = is_waiting phase || is_interrupted phase
allows (entries.Finishing id total) phase = is_running phase
allows (entries.Done id digest at) phase = is_finishing phase
allows (entries.Removed id) phase = not (is_running phase) && not (is_finishing phase)
allows (entries.Archived id) phase = is_complete phase || is_cancelled phase
allows (entries.Added id word address wish digest at) phase = true
allows (entries.Reopened next at) phase = true
allows (entries.Restored item) phase = true

-- an attempt by the user needs a mode, one by itself an immediate one
abbrev pub begins_by : By → Mode → Bool
begins_by User mode = not (is_invalid mode)
begins_by Itself mode = is_immediate mode

pub record IsBegun (item : Item) (attempt : ℕ) (by : By) : Type 0 where
  pub next : attempt ≡ item.attempt.0 + 1
  pub mode : IsTrue (begins_by by (mode_of_item item))
  pub goes_on : IsTrue item.begun → IsTrue (is_continue (mode_of_item item))

-- a key that stands for one attempt names this one
abbrev pub IsKeyOf : Item → Key → Type 0
IsKeyOf item (Strong tag) = Unit {0}
IsKeyOf item (Once id attempt) = (id.0 ≡ item.id.0) × (attempt.0 ≡ item.attempt.0)

-- the item has the name
abbrev pub HasNameIn : Option (List ℕ) → List ℕ → Type 0
HasNameIn None name = ⊥
HasNameIn (Some other) name = IsSameName name other

abbrev pub HasName : Item → List ℕ → Type 0
HasName item name = HasNameIn item.name name

-- no other item but the cancelled ones has the name
abbrev pub IsFreeName : ℕ → List ℕ → List Item → Type 0
IsFreeName id name [] = Unit {0}
IsFreeName id name (item ∷ rest) = (item.id.0 ≢ id → is_cancelled item.phase ≡ false → ¬ HasName item name) × IsFreeName id name rest

pub record IsDescribed (items : List Item) (item : Item) (key : Key) (total : Option ℕ) (name : List ℕ) : Type 0 where
  pub no_key : item.key ≡ None
  pub small : IfSome total (λ bytes. bytes ≤ 2 ^ 40)
  pub free : IsFreeName item.id.0 name items
  pub own_key : IsKeyOf item key

pub record IsProgress (item : Item) (slices : List Slice) : Type 0 where
  pub has_key : IsSome item.key
  pub cover : IsCoverWithin item.total slices
  pub holds : Holds slices item.slices

pub record IsRestarted (item : Item) (epoch because : ℕ) : Type 0 where
  pub begun : IsTrue item.begun
  pub mode : IsTrue (is_restart (mode_of_item item))
  pub next : epoch ≡ item.epoch.0 + 1
  pub first : because_by item.reason (facts_of item) ≡ Some because

-- the known total, or the cover's end where none is known
abbrev pub IsTotalOf : Option ℕ → List Slice → ℕ → Type 0
IsTotalOf None slices total = total ≡ cover_end slices
IsTotalOf (Some known) slices total = total ≡ known

pub record IsFinishing (item : Item) (total : ℕ) : Type 0 where
  pub has_key : IsSome item.key
  pub full : IsFull total item.slices
  pub total_is : IsTotalOf item.total item.slices total

-- the second column: the further condition
abbrev pub Further : Entry → List Item → Item → Type 0
Further (entries.Began id attempt by at) items item = IsBegun item attempt.0 by
Further (entries.Described id key last_address total name modified) items item = IsDescribed items item key total name
Further (entries.Progress id slices) items item = IsProgress item slices
Further (entries.Broke id reason) items item = (reason ≢ reasons.UserCanceled) × (reason ≢ reasons.Crash)
Further (entries.Asked id) items item = IsTrue (not (is_invalid (mode_of_item item)))
Further (entries.Restarted id epoch because) items item = IsRestarted item epoch.0 because
Further (entries.Finishing id total) items item = IsFinishing item total
Further (entries.Done id digest at) items item = IfSome item.digest (λ stated. stated ≡ digest)
Further _ items item = Unit {0}

abbrev pub autos_after : By → ℕ → ℕ
autos_after User autos = 0
autos_after Itself autos = autos + 1

-- a running item that the program left
abbrev pub stopped_reason : Phase → Option Reason → Option Reason
stopped_reason phase reason = if is_running phase then Some reasons.Crash else reason

abbrev pub stopped_item : Item → Item
stopped_item item = record item { phase = stopped item.phase; reason = stopped_reason item.phase item.reason }

-- the item of an attempt that begins
abbrev pub begun_item : Attempt → By → Item → Item
begun_item attempt by item = record item { phase = phases.Running; reason = None; attempt = attempt; autos = autos_after by item.autos; begun = true }

-- the item with what the first reply told
abbrev pub described_item : Key → List ℕ → Option ℕ → List ℕ → List ℕ → Item → Item
described_item key last_address total name modified item =
    record item { key = Some key; last_address = Some last_address; total = total; name = Some name; modified = Some modified }

-- the item whose content is brought anew
abbrev pub restarted_item : Epoch → Item → Item
restarted_item epoch item =
    record item { epoch = epoch; begun = false; key = None; last_address = None; total = None; name = None; modified = None; slices = no_bytes }

-- the count of attempts by itself can rise
abbrev pub FitsAutos : Entry → Item → Type 0
FitsAutos (entries.Began id attempt by at) item = autos_after by item.autos < 2 ^ 32
FitsAutos _ item = Unit {0}

-- the last column: the effect on the item
abbrev pub changed : Entry → Item → Item
changed (entries.Began id attempt by at) item = begun_item attempt by item
changed (entries.Described id key last_address total name modified) item = described_item key last_address total name modified item
changed (entries.Progress id slices) item = record item { slices = slices }
changed (entries.Broke id reason) item = record item { phase = phases.Interrupted reason; reason = Some reason }
changed (entries.Paused id) item = record item { phase = phases.Paused }
changed (entries.Cancelled id) item = record item { phase = phases.Cancelled; reason = Some reasons.UserCanceled }
changed (entries.Restarted id epoch because) item = restarted_item epoch item
changed (entries.Finishing id total) item = record item { phase = phases.Finishing; total = Some total }
changed (entries.Done id digest at) item = record item { phase = phases.Complete; have = Some digest; at_ms = at }
changed (entries.Asked id) item = record item { phase = phases.Waiting }
changed _ item = item
