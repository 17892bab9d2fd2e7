-- The items of a history: each field looks back by itself.
use Rattle.std.specs.Prelude.{ℕ, ◌+◌, zero, suc, Bool, true, false, not, ◌&&◌, ◌||◌, cond, ◌==◌, List, [], ◌∷◌, ◌++◌, Option, Some, None, option_to_list}
use Rattle.dm_types.specs.declared.item.Item.{Item}
use Rattle.dm_types.specs.declared.item.ItemId.{ItemId}
use Rattle.dm_types.specs.declared.item.Key.{Key}
use Rattle.dm_types.specs.declared.item.Phase.{Phase}
use Rattle.dm_types.specs.declared.item.Phase.TheVariants as phases
use Rattle.dm_types.specs.declared.slices.Slice.{Slice}
use Rattle.dm_types.specs.declared.kinds.By.{By}
use Rattle.dm_types.specs.declared.kinds.By.TheVariants.{User, Itself}
use Rattle.dm_types.specs.declared.reason.Reason.{Reason}
use Rattle.dm_types.specs.declared.reason.Reason.TheVariants as reasons
use Rattle.dm_types.specs.declared.entry.Entry.{Entry}
use Rattle.dm_types.specs.declared.entry.Entry.TheVariants as entries
use Rattle.dm_item.specs.History.{first_some, there, get, map_some, newest, newest_after, oldest, since, stands, count_of, those}

-- the id that an entry names; a Reopened names none
abbrev pub id_of : Entry → Option ℕ
id_of (entries.Added id word address wish digest at) = Some id.0
id_of (entries.Began id attempt by at) = Some id.0
id_of (entries.Described id key last_address total name modified) = Some id.0
id_of (entries.Progress id slices) = Some id.0
id_of (entries.Broke id reason) = Some id.0
id_of (entries.Paused id) = Some id.0
id_of (entries.Cancelled id) = Some id.0
id_of (entries.Restarted id epoch because) = Some id.0
id_of (entries.Finishing id total) = Some id.0
id_of (entries.Done id digest at) = Some id.0
id_of (entries.Removed id) = Some id.0
id_of (entries.Archived id) = Some id.0
id_of (entries.Reopened next at) = None
id_of (entries.Restored item) = Some item.id.0
id_of (entries.Asked id) = Some id.0

-- the entry speaks of the item with this id
abbrev pub is_for : ℕ → Option ℕ → Bool
is_for id None = true
is_for id (Some named) = named == id

-- the entries of one id, with every Reopened in its place
abbrev pub own : ℕ → List Entry → List Entry
own id h = those (λ e. is_for id (id_of e)) h

-- no byte is there
abbrev pub no_bytes : List Slice
no_bytes = record { first = 0; got = 0; finished = false } ∷ []

-- the item that an Added makes
abbrev pub added_item : ItemId → List ℕ → List ℕ → List ℕ → Option (List ℕ) → ℕ → Item
added_item id word address wish digest at = record {
  id = id;
  word = word;
  first_address = address;
  wish = wish;
  digest = digest;
  phase = phases.Waiting;
  reason = None;
  epoch = record { 0 = 1 };
  attempt = record { 0 = 0 };
  autos = 0;
  begun = false;
  key = None;
  last_address = None;
  total = None;
  name = None;
  modified = None;
  slices = no_bytes;
  have = None;
  at_ms = at;
}

-- the item of a base entry
abbrev pub base_of : Entry → Option Item
base_of (entries.Added id word address wish digest at) = Some (added_item id word address wish digest at)
base_of (entries.Restored item) = Some item
base_of _ = None

abbrev pub is_gone : Entry → Bool
is_gone (entries.Removed id) = true
is_gone (entries.Archived id) = true
is_gone _ = false

abbrev pub is_reopened : Entry → Bool
is_reopened (entries.Reopened next at) = true
is_reopened _ = false

abbrev pub is_began : Entry → Bool
is_began (entries.Began id attempt by at) = true
is_began _ = false

abbrev pub is_user : By → Bool
is_user User = true
is_user Itself = false

abbrev pub is_began_by_user : Entry → Bool
is_began_by_user (entries.Began id attempt by at) = is_user by
is_began_by_user _ = false

abbrev pub is_began_by_itself : Entry → Bool
is_began_by_itself (entries.Began id attempt by at) = not (is_user by)
is_began_by_itself _ = false

abbrev pub is_restarted : Entry → Bool
is_restarted (entries.Restarted id epoch because) = true
is_restarted _ = false

-- the phase that an entry sets
abbrev pub phase_set : Entry → Option Phase
phase_set (entries.Added id word address wish digest at) = Some phases.Waiting
phase_set (entries.Restored item) = Some item.phase
phase_set (entries.Began id attempt by at) = Some phases.Running
phase_set (entries.Broke id reason) = Some (phases.Interrupted reason)
phase_set (entries.Paused id) = Some phases.Paused
phase_set (entries.Asked id) = Some phases.Waiting
phase_set (entries.Cancelled id) = Some phases.Cancelled
phase_set (entries.Finishing id total) = Some phases.Finishing
phase_set (entries.Done id digest at) = Some phases.Complete
phase_set _ = None

-- a running item that the program left
abbrev pub stopped : Phase → Phase
stopped phases.Running = phases.Interrupted reasons.Crash
stopped phases.Waiting = phases.Waiting
stopped phases.Paused = phases.Paused
stopped phases.Finishing = phases.Finishing
stopped phases.Complete = phases.Complete
stopped phases.Cancelled = phases.Cancelled
stopped (phases.Interrupted reason) = phases.Interrupted reason

abbrev pub is_running : Phase → Bool
is_running phases.Running = true
is_running _ = false

abbrev pub sets_phase : Entry → Bool
sets_phase e = there (phase_set e)

-- a Reopened stands after the last entry that sets the phase
abbrev pub was_left : List Entry → Bool
was_left h = stands is_reopened (since sets_phase h)

abbrev pub phase_of : List Entry → Item → Phase
phase_of h base = cond (was_left h) (stopped (get (newest phase_set h) base.phase)) (get (newest phase_set h) base.phase)

-- the last entry that sets the phase makes it Running
abbrev pub runs : Option Phase → Bool
runs None = false
runs (Some phase) = is_running phase

-- the reason that an entry sets, where these stand before it
abbrev pub reason_set : Entry → List Entry → Option (Option Reason)
reason_set (entries.Added id word address wish digest at) older = Some None
reason_set (entries.Restored item) older = Some item.reason
reason_set (entries.Began id attempt by at) older = Some None
reason_set (entries.Broke id reason) older = Some (Some reason)
reason_set (entries.Cancelled id) older = Some (Some reasons.UserCanceled)
reason_set (entries.Reopened next at) older = cond (runs (newest phase_set older)) (Some (Some reasons.Crash)) None
reason_set _ older = None

abbrev pub epoch_set : Entry → Option ℕ
epoch_set (entries.Restarted id epoch because) = Some epoch.0
epoch_set _ = None

abbrev pub attempt_set : Entry → Option ℕ
attempt_set (entries.Began id attempt by at) = Some attempt.0
attempt_set _ = None

-- attempts by itself since the last one by the user
abbrev pub autos_of : List Entry → Item → ℕ
autos_of h base =
    cond (stands is_began_by_user h) (count_of is_began_by_itself (since is_began_by_user h)) (base.autos + count_of is_began h)

abbrev pub begun_of : List Entry → Item → Bool
begun_of h base = stands is_began (since is_restarted h) || (not (stands is_restarted h) && base.begun)

-- what a Described tells
abbrev pub key_set : Entry → Option Key
key_set (entries.Described id key last_address total name modified) = Some key
key_set _ = None

abbrev pub last_address_set : Entry → Option (List ℕ)
last_address_set (entries.Described id key last_address total name modified) = Some last_address
last_address_set _ = None

abbrev pub total_set : Entry → Option (Option ℕ)
total_set (entries.Described id key last_address total name modified) = Some total
total_set _ = None

abbrev pub name_set : Entry → Option (List ℕ)
name_set (entries.Described id key last_address total name modified) = Some name
name_set _ = None

abbrev pub modified_set : Entry → Option (List ℕ)
modified_set (entries.Described id key last_address total name modified) = Some modified
modified_set _ = None

abbrev pub finishing_total : Entry → Option ℕ
finishing_total (entries.Finishing id total) = Some total
finishing_total _ = None

abbrev pub slices_set : Entry → Option (List Slice)
slices_set (entries.Progress id slices) = Some slices
slices_set _ = None

abbrev pub have_set : Entry → Option (List ℕ)
have_set (entries.Done id digest at) = Some digest
have_set _ = None

abbrev pub at_set : Entry → Option ℕ
at_set (entries.Done id digest at) = Some at
at_set _ = None

-- of the last entry since the last Restarted; else nothing after a Restarted, and the base's otherwise
abbrev pub described : {A : Type 0} → (Entry → Option A) → List Entry → Option A → Option A
described field h base = first_some (newest field (since is_restarted h)) (cond (stands is_restarted h) None base)

abbrev pub told_total : List Entry → Item → Option ℕ
told_total h base = get (newest total_set (since is_restarted h)) (cond (stands is_restarted h) None base.total)

abbrev pub total_of : List Entry → Item → Option ℕ
total_of h base = first_some (newest finishing_total (since is_restarted h)) (told_total h base)

abbrev pub slices_of : List Entry → Item → List Slice
slices_of h base = get (newest slices_set (since is_restarted h)) (cond (stands is_restarted h) no_bytes base.slices)

-- the item of the entries of its id, where `base` is the item of the base entry
abbrev pub looked_back : List Entry → Item → Item
looked_back h base = record {
  id = base.id;
  word = base.word;
  first_address = base.first_address;
  wish = base.wish;
  digest = base.digest;
  phase = phase_of h base;
  reason = get (newest_after reason_set h) base.reason;
  epoch = record { 0 = get (newest epoch_set h) base.epoch.0 };
  attempt = record { 0 = get (newest attempt_set h) base.attempt.0 };
  autos = autos_of h base;
  begun = begun_of h base;
  key = described key_set h base.key;
  last_address = described last_address_set h base.last_address;
  total = total_of h base;
  name = described name_set h base.name;
  modified = described modified_set h base.modified;
  slices = slices_of h base;
  have = first_some (newest have_set h) base.have;
  at_ms = get (newest at_set h) base.at_ms;
}

-- present where a base entry stands, and no Removed or Archived
abbrev pub item_of : List Entry → Option Item
item_of h = cond (stands is_gone h) None (map_some (looked_back h) (newest base_of h))

-- the item with an id
abbrev pub item_at : List Entry → ℕ → Option Item
item_at h id = item_of (own id h)

abbrev pub added_id : Entry → Option ℕ
added_id (entries.Added id word address wish digest at) = Some (id.0 + 1)
added_id _ = None

abbrev pub reopened_next : Entry → Option ℕ
reopened_next (entries.Reopened next at) = Some next
reopened_next _ = None

-- the id that the next item gets
abbrev pub next_of : List Entry → ℕ
next_of h = get (first_some (newest added_id h) (oldest reopened_next h)) 1

-- the items with ids below a number, in rising order
abbrev pub items_below : (ℕ → Option Item) → ℕ → List Item
items_below at zero = []
items_below at (suc id) = items_below at id ++ option_to_list (at id)

-- only Reopened and Restored entries
abbrev pub is_early_entry : Entry → Bool
is_early_entry (entries.Reopened next at) = true
is_early_entry (entries.Restored item) = true
is_early_entry _ = false

abbrev pub is_empty : List Entry → Bool
is_empty [] = true
is_empty (e ∷ older) = false

abbrev pub is_early : List Entry → Bool
is_early [] = true
is_early (e ∷ older) = is_early_entry e && is_early older
