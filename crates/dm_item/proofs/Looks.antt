-- How the item of a history changes with one more entry of its id.
use Rattle.std.proofs.Common.{◌≡◌, ℕ, ◌+◌, List, [], ◌∷◌, cond, true, false, Bool, ◌||◌, Option, Some, None, refl, ap, sym, ◌∙◌, arith, add-zero}
use Rattle.std.specs.Prelude.{is_some}
use Rattle.std.proofs.lemmas.Bool.{false≢true}
use Rattle.dm_types.specs.declared.item.Item.{Item}
use Rattle.dm_types.specs.declared.item.ItemId.{ItemId}
use Rattle.dm_types.specs.declared.item.Attempt.{Attempt}
use Rattle.dm_types.specs.declared.item.Key.{Key}
use Rattle.dm_types.specs.declared.item.Phase.{Phase}
use Rattle.dm_types.specs.declared.item.Phase.TheVariants as phases
use Rattle.dm_types.specs.declared.kinds.By.{By}
use Rattle.dm_types.specs.declared.kinds.By.TheVariants.{User, Itself}
use Rattle.dm_types.specs.declared.reason.Reason.{Reason}
use Rattle.dm_types.specs.declared.reason.Reason.TheVariants as reasons
use Rattle.dm_types.specs.declared.entry.Entry.{Entry}
use Rattle.dm_types.specs.declared.entry.Entry.TheVariants as entries
use Rattle.dm_item.specs.History.{first_some, there, get, map_some, newest, newest_after, since, stands, count_of}
use Rattle.dm_item.specs.Fields.{added_item, at_set, attempt_set, autos_of, base_of, epoch_set, finishing_total, have_set, is_began, is_began_by_itself, is_began_by_user, is_gone, is_reopened, is_restarted, is_running, item_of, key_set, last_address_set, looked_back, modified_set, name_set, phase_set, reason_set, runs, sets_phase, slices_set, stopped, total_set, was_left}
use Rattle.dm_item.specs.Row.{begun_item, changed, described_item, stopped_item, stopped_reason}

-- an item that is there: what its definition says
pub record Present (g : List Entry) (item : Item) : Type 0 where
  pub gone : stands is_gone g ≡ false
  pub base : Item
  pub base_is : newest base_of g ≡ Some base
  pub item_is : looked_back g base ≡ item

present_base : (g : List Entry) (found : Option Item) (item : Item) → stands is_gone g ≡ false → newest base_of g ≡ found → map_some (looked_back g) found ≡ Some item → Present g item
present_base g None item gone is same = absurd (cc)
present_base g (Some base) item gone is same = record { gone = gone; base = base; base_is = is; item_is = cc }

present_gone : (g : List Entry) (gone : Bool) (item : Item) → stands is_gone g ≡ gone → cond gone None (map_some (looked_back g) (newest base_of g)) ≡ Some item → Present g item
present_gone g true item gone same = absurd (cc)
present_gone g false item gone same = present_base g (newest base_of g) item gone refl same

pub present : (g : List Entry) (item : Item) → item_of g ≡ Some item → Present g item
present g item is = present_gone g (stands is_gone g) item refl is

-- one more entry that neither makes nor takes out the item
pub one_more : (e : Entry) (g : List Entry) (item : Item) → base_of e ≡ None → is_gone e ≡ false → ((base : Item) → looked_back g base ≡ item → looked_back (e ∷ g) base ≡ changed e item) → item_of g ≡ Some item → item_of (e ∷ g) ≡ Some (changed e item)
one_more e g item no_base stays step is =
    let p = present g item is in
    rw (stays, p.gone, no_base, p.base_is) (ap Some (step p.base p.item_is))

pub one_gone : (e : Entry) (g : List Entry) → is_gone e ≡ true → item_of (e ∷ g) ≡ None
one_gone e g gone = rw gone refl

-- the steps of looking back that aren't plain

autos_itself : (id : ItemId) (attempt : Attempt) (at : ℕ) (g : List Entry) (base : Item) → autos_of (entries.Began id attempt Itself at ∷ g) base ≡ autos_of g base + 1
autos_itself id attempt at g base =
    elim (stands is_began_by_user g) as (λ (b : Bool). cond b (count_of is_began_by_itself (since is_began_by_user g) + 1) (base.autos + (count_of is_began g + 1)) ≡ cond b (count_of is_began_by_itself (since is_began_by_user g)) (base.autos + count_of is_began g) + 1) [
      | true ↦ refl
      | false ↦ omega arith
    ]

pub step_began : (id : ItemId) (attempt : Attempt) (by : By) (at : ℕ) (g : List Entry) (base : Item) → looked_back (entries.Began id attempt by at ∷ g) base ≡ begun_item attempt by (looked_back g base)
step_began id attempt User at g base = refl
step_began id attempt Itself at g base = ap (λ (n : ℕ). record (begun_item attempt Itself (looked_back g base)) { autos = n }) (autos_itself id attempt at g base)

-- a total of a Finishing stands only where the key does
abbrev pub FinishingHasKey : List Entry → Item → Type 0
FinishingHasKey g item = there (newest finishing_total (since is_restarted g)) ≡ true → is_some item.key ≡ true

no_total : (found : Option ℕ) (key : Option Key) → key ≡ None → (there found ≡ true → is_some key ≡ true) → found ≡ None
no_total None key none has = refl
no_total (Some total) key none has = let there_is = has refl in absurd (false≢true (ap (λ (k : Option Key). is_some k) (sym none) ∙ there_is))

pub step_described : (id : ItemId) (key : Key) (last_address : List ℕ) (total : Option ℕ) (name modified : List ℕ) (g : List Entry) (base item : Item) → looked_back g base ≡ item → item.key ≡ None → FinishingHasKey g item → looked_back (entries.Described id key last_address total name modified ∷ g) base ≡ described_item key last_address total name modified item
step_described id key last_address total name modified g base item is none has =
    let fresh : newest finishing_total (since is_restarted g) ≡ None = no_total (newest finishing_total (since is_restarted g)) item.key none has in
    ap (λ (t : Option ℕ). record (described_item key last_address total name modified (looked_back g base)) { total = first_some t total }) fresh
    ∙ ap (described_item key last_address total name modified) is

-- a Reopened

stopped-stopped : (phase : Phase) → stopped (stopped phase) ≡ stopped phase
stopped-stopped phases.Running = refl
stopped-stopped phases.Waiting = refl
stopped-stopped phases.Paused = refl
stopped-stopped phases.Finishing = refl
stopped-stopped phases.Complete = refl
stopped-stopped phases.Cancelled = refl
stopped-stopped (phases.Interrupted reason) = refl

stopped-left : (left : Bool) (phase : Phase) → stopped phase ≡ stopped (cond left (stopped phase) phase)
stopped-left true phase = sym (stopped-stopped phase)
stopped-left false phase = refl

running-stopped : (phase : Phase) → is_running (stopped phase) ≡ false
running-stopped phases.Running = refl
running-stopped phases.Waiting = refl
running-stopped phases.Paused = refl
running-stopped phases.Finishing = refl
running-stopped phases.Complete = refl
running-stopped phases.Cancelled = refl
running-stopped (phases.Interrupted reason) = refl

-- an entry that sets no phase and is no Reopened sets no reason
data Quiet (e : Entry) : Type 0 where
  loud : sets_phase e ≡ true → Quiet e
  reopen : (next at : ℕ) → e ≡ entries.Reopened next at → Quiet e
  quiet : phase_set e ≡ None → is_reopened e ≡ false → ((g : List Entry) → reason_set e g ≡ None) → Quiet e

quiet_of : (e : Entry) → Quiet e
quiet_of (entries.Added id word address wish digest at) = loud refl
quiet_of (entries.Began id attempt by at) = loud refl
quiet_of (entries.Described id key last_address total name modified) = quiet refl refl (λ g. refl)
quiet_of (entries.Progress id slices) = quiet refl refl (λ g. refl)
quiet_of (entries.Broke id reason) = loud refl
quiet_of (entries.Paused id) = loud refl
quiet_of (entries.Cancelled id) = loud refl
quiet_of (entries.Restarted id epoch because) = quiet refl refl (λ g. refl)
quiet_of (entries.Finishing id total) = loud refl
quiet_of (entries.Done id digest at) = loud refl
quiet_of (entries.Removed id) = quiet refl refl (λ g. refl)
quiet_of (entries.Archived id) = quiet refl refl (λ g. refl)
quiet_of (entries.Reopened next at) = reopen next at refl
quiet_of (entries.Restored item) = loud refl
quiet_of (entries.Asked id) = loud refl

-- where a running item was left, its reason is the crash
left_reason : (g : List Entry) → runs (newest phase_set g) ≡ true → was_left g ≡ true → newest_after reason_set g ≡ Some (Some reasons.Crash)
left_reason [] run left = absurd (false≢true run)
left_reason (e ∷ g) run left =
    elim (quiet_of e) [
      | loud sets ↦ absurd (false≢true (ap (λ (b : Bool). stands is_reopened (cond b [] (e ∷ since sets_phase g))) (sym sets) ∙ left))
      | reopen next at is ↦
          let runs_older : runs (newest phase_set g) ≡ true = ap (λ (x : Entry). runs (first_some (phase_set x) (newest phase_set g))) (sym is) ∙ run in
          ap (λ (x : Entry). first_some (reason_set x g) (newest_after reason_set g)) is ∙ ap (λ (b : Bool). first_some (cond b (Some (Some reasons.Crash)) None) (newest_after reason_set g)) runs_older
      | quiet no_phase no_reopen no_reason ↦
          let runs_older : runs (newest phase_set g) ≡ true = ap (λ (x : Option Phase). runs (first_some x (newest phase_set g))) (sym no_phase) ∙ run in
          let left_older : was_left g ≡ true =
          ap (λ (b : Bool). b || stands is_reopened (since sets_phase g)) (sym no_reopen)
          ∙ ap (λ (x : Option Phase). stands is_reopened (cond (there x) [] (e ∷ since sets_phase g))) (sym no_phase) ∙ left in
          ap (λ (x : Option (Option Reason)). first_some x (newest_after reason_set g)) (no_reason g) ∙ left_reason g runs_older left_older
    ]

reason_stopped_at : (running left : Bool) (phase : Phase) (told : Option (Option Reason)) (base : Item) → is_running phase ≡ running → (is_running phase ≡ true → left ≡ true → told ≡ Some (Some reasons.Crash)) →
    get (first_some (cond (is_running phase) (Some (Some reasons.Crash)) None) told) base.reason ≡ stopped_reason (cond left (stopped phase) phase) (get told base.reason)
reason_stopped_at true true phase told base run says =
    let crash = says run refl in
    rw (run, running-stopped phase, crash) refl
reason_stopped_at true false phase told base run says = rw run refl
reason_stopped_at false true phase told base run says = rw (run, running-stopped phase) refl
reason_stopped_at false false phase told base run says = rw run refl

reason_stopped : (found : Option Phase) (left : Bool) (told : Option (Option Reason)) (base : Item) → there found ≡ true → (runs found ≡ true → left ≡ true → told ≡ Some (Some reasons.Crash)) →
    get (first_some (cond (runs found) (Some (Some reasons.Crash)) None) told) base.reason ≡ stopped_reason (cond left (stopped (get found base.phase)) (get found base.phase)) (get told base.reason)
reason_stopped None left told base some says = absurd (false≢true some)
reason_stopped (Some phase) left told base some says = reason_stopped_at (is_running phase) left phase told base refl says

-- a base entry sets the phase
base_sets : (e : Entry) (base : Item) → base_of e ≡ Some base → there (phase_set e) ≡ true
base_sets (entries.Added id word address wish digest at) base is = refl
base_sets (entries.Restored item) base is = refl
base_sets (entries.Began id attempt by at) base is = absurd (cc)
base_sets (entries.Described id key last_address total name modified) base is = absurd (cc)
base_sets (entries.Progress id slices) base is = absurd (cc)
base_sets (entries.Broke id reason) base is = absurd (cc)
base_sets (entries.Paused id) base is = absurd (cc)
base_sets (entries.Cancelled id) base is = absurd (cc)
base_sets (entries.Restarted id epoch because) base is = absurd (cc)
base_sets (entries.Finishing id total) base is = absurd (cc)
base_sets (entries.Done id digest at) base is = absurd (cc)
base_sets (entries.Removed id) base is = absurd (cc)
base_sets (entries.Archived id) base is = absurd (cc)
base_sets (entries.Reopened next at) base is = absurd (cc)
base_sets (entries.Asked id) base is = absurd (cc)

there-first : {A : Type 0} (x y : Option A) → there y ≡ true → there (first_some x y) ≡ true
there-first None y some = some
there-first (Some x) y some = refl

there-first_left : {A : Type 0} (x y : Option A) → there x ≡ true → there (first_some x y) ≡ true
there-first_left None y some = absurd (false≢true some)
there-first_left (Some x) y some = refl

has_phase_at : (e : Entry) (g : List Entry) (own : Option Item) (base : Item) → base_of e ≡ own → first_some own (newest base_of g) ≡ Some base → ((b : Item) → newest base_of g ≡ Some b → there (newest phase_set g) ≡ true) → there (first_some (phase_set e) (newest phase_set g)) ≡ true
has_phase_at e g None base own is older = there-first (phase_set e) (newest phase_set g) (older base is)
has_phase_at e g (Some b) base own is older = there-first_left (phase_set e) (newest phase_set g) (base_sets e b own)

has_phase : (g : List Entry) (base : Item) → newest base_of g ≡ Some base → there (newest phase_set g) ≡ true
has_phase [] base is = absurd (cc)
has_phase (e ∷ g) base is = has_phase_at e g (base_of e) base refl is (has_phase g)

step_reopened : (next at : ℕ) (g : List Entry) (base : Item) → there (newest phase_set g) ≡ true → looked_back (entries.Reopened next at ∷ g) base ≡ stopped_item (looked_back g base)
step_reopened next at g base some =
    let item = looked_back g base in
    ap (λ (p : Phase). record item { phase = p; reason = get (newest_after reason_set (entries.Reopened next at ∷ g)) base.reason }) (stopped-left (was_left g) (get (newest phase_set g) base.phase))
    ∙ ap (λ (r : Option Reason). record item { phase = stopped item.phase; reason = r }) (reason_stopped (newest phase_set g) (was_left g) (newest_after reason_set g) base some (left_reason g))

reopened_at : (next at : ℕ) (g : List Entry) (gone : Bool) (found : Option Item) → stands is_gone g ≡ gone → newest base_of g ≡ found → item_of (entries.Reopened next at ∷ g) ≡ map_some stopped_item (item_of g)
reopened_at next at g true found gone is = rw gone refl
reopened_at next at g false None gone is = rw (gone, is) refl
reopened_at next at g false (Some base) gone is = rw (gone, is) (ap Some (step_reopened next at g base (has_phase g base is)))

-- a Reopened interrupts the item where it runs
pub item-reopened : (next at : ℕ) (g : List Entry) → item_of (entries.Reopened next at ∷ g) ≡ map_some stopped_item (item_of g)
item-reopened next at g = reopened_at next at g (stands is_gone g) (newest base_of g) refl refl

-- entries that name nothing

pub data Fresh : List Entry → Type 0 where
  nothing : Fresh []
  opened : {next at : ℕ} {g : List Entry} → Fresh g → Fresh (entries.Reopened next at ∷ g)

pub newest-fresh : {A : Type 0} (f : Entry → Option A) {g : List Entry} → ((next at : ℕ) → f (entries.Reopened next at) ≡ None) → Fresh g → newest f g ≡ None
newest-fresh f none nothing = refl
newest-fresh {A} f none (opened {next} {at} {g} fresh) = ap (λ (x : Option A). first_some x (newest f g)) (none next at) ∙ newest-fresh f none fresh

stands-fresh : (test : Entry → Bool) {g : List Entry} → ((next at : ℕ) → test (entries.Reopened next at) ≡ false) → Fresh g → stands test g ≡ false
stands-fresh test none nothing = refl
stands-fresh test none (opened {next} {at} {g} fresh) = ap (λ (b : Bool). b || stands test g) (none next at) ∙ stands-fresh test none fresh

pub count-fresh : (test : Entry → Bool) {g : List Entry} → ((next at : ℕ) → test (entries.Reopened next at) ≡ false) → Fresh g → count_of test g ≡ 0
count-fresh test none nothing = refl
count-fresh test none (opened {next} {at} {g} fresh) = ap (λ (b : Bool). cond b (count_of test g + 1) (count_of test g)) (none next at) ∙ count-fresh test none fresh

since-fresh : (test : Entry → Bool) {g : List Entry} → ((next at : ℕ) → test (entries.Reopened next at) ≡ false) → Fresh g → since test g ≡ g
since-fresh test none nothing = refl
since-fresh test none (opened {next} {at} {g} fresh) =
    ap (λ (b : Bool). cond b [] (entries.Reopened next at ∷ since test g)) (none next at) ∙ ap (λ (x : List Entry). entries.Reopened next at ∷ x) (since-fresh test none fresh)

module _ (g : List Entry) (fresh : Fresh g) where
  no_epoch : newest epoch_set g ≡ None
  no_epoch = newest-fresh epoch_set (λ n a. refl) fresh

  no_attempt : newest attempt_set g ≡ None
  no_attempt = newest-fresh attempt_set (λ n a. refl) fresh

  no_user : stands is_began_by_user g ≡ false
  no_user = stands-fresh is_began_by_user (λ n a. refl) fresh

  no_count : count_of is_began g ≡ 0
  no_count = count-fresh is_began (λ n a. refl) fresh

  no_began : stands is_began g ≡ false
  no_began = stands-fresh is_began (λ n a. refl) fresh

  no_restart : stands is_restarted g ≡ false
  no_restart = stands-fresh is_restarted (λ n a. refl) fresh

  pub all_since : since is_restarted g ≡ g
  all_since = since-fresh is_restarted (λ n a. refl) fresh

  no_key : newest key_set g ≡ None
  no_key = newest-fresh key_set (λ n a. refl) fresh

  no_address : newest last_address_set g ≡ None
  no_address = newest-fresh last_address_set (λ n a. refl) fresh

  no_told : newest total_set g ≡ None
  no_told = newest-fresh total_set (λ n a. refl) fresh

  no_name : newest name_set g ≡ None
  no_name = newest-fresh name_set (λ n a. refl) fresh

  no_modified : newest modified_set g ≡ None
  no_modified = newest-fresh modified_set (λ n a. refl) fresh

  pub no_finishing : newest finishing_total g ≡ None
  no_finishing = newest-fresh finishing_total (λ n a. refl) fresh

  no_slices : newest slices_set g ≡ None
  no_slices = newest-fresh slices_set (λ n a. refl) fresh

  no_have : newest have_set g ≡ None
  no_have = newest-fresh have_set (λ n a. refl) fresh

  no_at : newest at_set g ≡ None
  no_at = newest-fresh at_set (λ n a. refl) fresh

  pub no_gone : stands is_gone g ≡ false
  no_gone = stands-fresh is_gone (λ n a. refl) fresh

  -- the first entry of an item is the item
  pub item-added : (id : ItemId) (word address wish : List ℕ) (digest : Option (List ℕ)) (at : ℕ) → item_of (entries.Added id word address wish digest at ∷ g) ≡ Some (added_item id word address wish digest at)
  item-added id word address wish digest at =
      rw (no_gone, all_since, no_epoch, no_attempt, no_user, no_count, no_began, no_restart, no_key, no_address, no_told, no_name, no_modified, no_finishing, no_slices, no_have, no_at) refl

  pub item-restored : (item : Item) → item_of (entries.Restored item ∷ g) ≡ Some item
  item-restored item =
      rw (no_gone, all_since, no_epoch, no_attempt, no_user, no_count, no_began, no_restart, no_key, no_address, no_told, no_name, no_modified, no_finishing, no_slices, no_have, no_at, add-zero) refl
