-- The bytes of each entry: a byte for its kind, and then its fields, one after another.
use Rattle.std.specs.Prelude.{ℕ, Bool, true, false, List, [], ◌∷◌, ◌++◌, length, Option, Some, None}
use Rattle.std.specs.List.{flat_map}
use Rattle.std.specs.Int.{Width, w16, w32, w64, to_be_bytes}
use Rattle.dm_types.specs.Kind.{kind_of}
use Rattle.dm_types.specs.Reason.{code_of}
use Rattle.dm_types.specs.declared.entry.Entry.{Entry}
use Rattle.dm_types.specs.declared.entry.Entry.TheVariants.{Added, Began, Described, Progress, Broke, Paused, Cancelled, Restarted, Finishing, Done, Removed, Archived, Reopened, Restored, Asked}
use Rattle.dm_types.specs.declared.item.Item.{Item}
use Rattle.dm_types.specs.declared.item.Key.{Key}
use Rattle.dm_types.specs.declared.item.Key.TheVariants.{Strong, Once}
use Rattle.dm_types.specs.declared.item.Phase.{Phase}
use Rattle.dm_types.specs.declared.item.Phase.TheVariants as phases
use Rattle.dm_types.specs.declared.kinds.By.{By}
use Rattle.dm_types.specs.declared.kinds.By.TheVariants.{User, Itself}
use Rattle.dm_types.specs.declared.reason.Reason.{Reason}
use Rattle.dm_types.specs.declared.slices.Slice.{Slice}

-- one field, and then another
infixr 60 ◌⌢◌
abbrev pub ◌⌢◌ : List ℕ → List ℕ → List ℕ
field ⌢ others = field ++ others

-- a number in that many bits, its high byte first
unfoldable pub number : Width → ℕ → List ℕ
number w n = to_be_bytes w n

-- a length of two bytes, and that many bytes
abbrev pub text : List ℕ → List ℕ
text bytes = number w16 (length bytes) ⌢ bytes

-- 0, or 1 and the field
abbrev pub optional : {A : Type 0} → (A → List ℕ) → Option A → List ℕ
optional field None = 0 ∷ []
optional field (Some x) = 1 ∷ field x

-- the bytes of a SHA-256, as they are
abbrev pub digest : List ℕ → List ℕ
digest bytes = bytes

abbrev pub flag_byte : Bool → ℕ
flag_byte false = 0
flag_byte true = 1

abbrev pub by_byte : By → ℕ
by_byte User = 1
by_byte Itself = 2

abbrev pub phase_byte : Phase → ℕ
phase_byte phases.Waiting = 1
phase_byte phases.Running = 2
phase_byte phases.Paused = 3
phase_byte phases.Finishing = 4
phase_byte phases.Complete = 5
phase_byte phases.Cancelled = 6
phase_byte (phases.Interrupted reason) = 7

-- a reason's number
abbrev pub reason : Reason → List ℕ
reason r = number w16 (code_of r)

abbrev pub key : Key → List ℕ
key (Strong tag) = 1 ∷ text tag
key (Once id attempt) = 2 ∷ number w32 id.0 ⌢ number w32 attempt.0

abbrev pub slice : Slice → List ℕ
slice s = number w64 s.first ⌢ number w64 s.got ⌢ flag_byte s.finished ∷ []

-- how many there are, in one byte, and each of them
abbrev pub slices : List Slice → List ℕ
slices each = length each ∷ flat_map slice each

-- what was asked for
abbrev pub order_fields : Item → List ℕ
order_fields i = number w32 i.id.0 ⌢ text i.word ⌢ text i.first_address ⌢ text i.wish ⌢ optional digest i.digest

-- where it stands
abbrev pub phase_fields : Item → List ℕ
phase_fields i = phase_byte i.phase ∷ optional reason i.reason

-- how far it has come
abbrev pub course_fields : Item → List ℕ
course_fields i = number w32 i.epoch.0 ⌢ number w32 i.attempt.0 ⌢ number w32 i.autos ⌢ flag_byte i.begun ∷ []

-- what a reply told of the content
abbrev pub told_fields : Item → List ℕ
told_fields i = optional key i.key ⌢ optional text i.last_address ⌢ optional (number w64) i.total ⌢ optional text i.name ⌢ optional text i.modified

-- what is there of the content
abbrev pub kept_fields : Item → List ℕ
kept_fields i = slices i.slices ⌢ optional digest i.have ⌢ number w64 i.at_ms

abbrev pub item_fields : Item → List ℕ
item_fields i = order_fields i ⌢ phase_fields i ⌢ course_fields i ⌢ told_fields i ⌢ kept_fields i

abbrev pub fields_of : Entry → List ℕ
fields_of (Added id word address wish stated at) = number w32 id.0 ⌢ text word ⌢ text address ⌢ text wish ⌢ optional digest stated ⌢ number w64 at
fields_of (Began id attempt by at) = number w32 id.0 ⌢ number w32 attempt.0 ⌢ by_byte by ∷ number w64 at
fields_of (Described id k last_address total name modified) = number w32 id.0 ⌢ key k ⌢ text last_address ⌢ optional (number w64) total ⌢ text name ⌢ text modified
fields_of (Progress id cover) = number w32 id.0 ⌢ slices cover
fields_of (Broke id r) = number w32 id.0 ⌢ reason r
fields_of (Paused id) = number w32 id.0
fields_of (Cancelled id) = number w32 id.0
fields_of (Restarted id epoch because) = number w32 id.0 ⌢ number w32 epoch.0 ⌢ because ∷ []
fields_of (Finishing id total) = number w32 id.0 ⌢ number w64 total
fields_of (Done id have at) = number w32 id.0 ⌢ digest have ⌢ number w64 at
fields_of (Removed id) = number w32 id.0
fields_of (Archived id) = number w32 id.0
fields_of (Reopened next at) = number w32 next ⌢ number w64 at
fields_of (Restored item) = item_fields item
fields_of (Asked id) = number w32 id.0

-- the one spelling of an entry
abbrev pub spelling_of : Entry → List ℕ
spelling_of entry = kind_of entry ∷ fields_of entry
