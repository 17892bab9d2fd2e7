-- The item and the life of an attempt that begins.
use Rattle.std.proofs.Common.{◌≡◌, ◌≤◌, ℕ, ◌+◌, ◌==◌, ◌&&◌, cond, Bool, true, false, IsTrue, List, [], ◌∷◌, ◌++◌, length, Option, Some, None, refl, sym, ◌∙◌, ap, subst, arith}
use Rattle.std.specs.Prelude.{IsSome, is_some}
use Rattle.std.proofs.lemmas.Bool.{false≢true}
use Rattle.std.proofs.lemmas.Bool.Decides.{nat_tests}
use Rattle.std.specs.Option.{option_map}
use Rattle.dm_types.specs.declared.entry.Entry.{Entry}
use Rattle.dm_types.specs.declared.entry.Entry.TheVariants as entries
use Rattle.dm_types.specs.declared.item.Item.{Item}
use Rattle.dm_types.specs.declared.item.ItemId.{ItemId}
use Rattle.dm_types.specs.declared.item.Key.{Key}
use Rattle.dm_types.specs.declared.item.Key.TheVariants.{Once, Strong}
use Rattle.dm_types.specs.declared.item.Phase.{Phase}
use Rattle.dm_types.specs.declared.item.Phase.TheVariants as phases
use Rattle.dm_types.specs.declared.kinds.By.{By}
use Rattle.dm_types.specs.declared.kinds.By.TheVariants.{Itself, User}
use Rattle.dm_types.specs.declared.kinds.Mode.{Mode}
use Rattle.dm_types.specs.declared.kinds.Mode.TheVariants as modes
use Rattle.dm_policy.specs.Mode.{is_continue, is_restart}
use Rattle.dm_item.specs.Fields.{is_running, no_bytes}
use Rattle.dm_item.specs.Lawful.{History}
use Rattle.dm_item.specs.Listing.{Listing, applied, item_in}
use Rattle.dm_item.specs.Restored.{IsSound}
use Rattle.dm_item.proofs.Continuing.{can_go_on}
use Rattle.dm_item.specs.Row.{begins_by, begins_in, facts_of, is_strong, mode_of_item}
use Rattle.dm_item.proofs.Shorts.{sound_in}
use Rattle.dm_store.specs.Becomes.{lives_of, run_of}
use Rattle.dm_store.specs.Keeps.{IsDesk}
use Rattle.dm_store.specs.Lives.{LifeOf, begun_life, life_in, with_life}
use Rattle.dm_store.specs.View.{View}
use Rattle.dm_store.specs.declared.life.Life.{Life}
use Rattle.dm_store.proofs.Begun.{pushed_own}
use Rattle.dm_answers.specs.Begin.{because_of, beginning, begins_anew, epoch_behind, key_behind, may_begin}
use Rattle.dm_disk_model.specs.Disk.{History as Clock}
use Rattle.dm_attempt.specs.Scene.{Scene, changed_all, told_by}
use Rattle.dm_attempt.specs.Trace.{Tale}
use Rattle.dm_attempt.proofs.Items.{all_id, item_then}
use Rattle.dm_fetch.specs.Starts.{IsKept}

pub and_left : (a b : Bool) → IsTrue (a && b) → IsTrue a
and_left true b is = refl
and_left false b is = absurd (false≢true is)

pub and_right : (a b : Bool) → IsTrue (a && b) → IsTrue b
and_right true b is = is
and_right false b is = absurd (false≢true is)

test_is : (n m : ℕ) → n ≡ m → (n == m) ≡ true
test_is n m same = grind (arith, nat_tests)

-- no attempt runs where one may begin
idle_in : (by : By) (phase : Phase) → IsTrue (begins_in by phase) → is_running phase ≡ false
idle_in User phases.Running may = absurd (false≢true may)
idle_in Itself phases.Running may = absurd (false≢true may)
idle_in by phases.Waiting may = refl
idle_in by phases.Paused may = refl
idle_in by phases.Finishing may = refl
idle_in by phases.Complete may = refl
idle_in by phases.Cancelled may = refl
idle_in by (phases.Interrupted reason) may = refl

no_life : (item : Item) (found : Option Life) → is_running item.phase ≡ false → LifeOf (Some item) found → found ≡ None
no_life item None idle is = refl
no_life item (Some life) idle is = absurd (false≢true (sym idle ∙ is.runs))

module _ (item : Item) (by : By) (at : ℕ) where
  abbrev pub renewal : Entry
  renewal = entries.Restarted item.id (record { 0 = epoch_behind item }) (because_of item)

  abbrev pub start : Entry
  start = entries.Began item.id (record { 0 = item.attempt.0 + 1 }) by at

  abbrev with_test : Bool → History
  with_test test = cond test (renewal ∷ []) [] ++ start ∷ []

  -- the item behind the beginning
  there_test : (test : Bool) (v : Listing) → item_in item.id.0 v.items ≡ Some item → item_in item.id.0 (run_of (with_test test) v).items ≡ Some (changed_all (with_test test) item)
  there_test true v there = item_then start item.id.0 (applied renewal v).items (changed_all (renewal ∷ []) item) (item_then renewal item.id.0 v.items item there)
  there_test false v there = item_then start item.id.0 v.items item there

  -- and its life
  lives_test : (test : Bool) (v : Listing) (lives : List Life) → item_in item.id.0 v.items ≡ Some item → lives_of (with_test test) v lives ≡ lives ++ begun_life (changed_all (with_test test) item) ∷ []
  lives_test true v lives there = ap (λ (found : Option Item). with_life (option_map begun_life found) lives) (there_test true v there)
  lives_test false v lives there = ap (λ (found : Option Item). with_life (option_map begun_life found) lives) (there_test false v there)

  runs_test : (test : Bool) → is_running (changed_all (with_test test) item).phase ≡ true
  runs_test true = refl
  runs_test false = refl

  attempt_test : (test : Bool) → (changed_all (with_test test) item).attempt ≡ record { 0 = item.attempt.0 + 1 }
  attempt_test true = refl
  attempt_test false = refl

  key_test : (test : Bool) → (changed_all (with_test test) item).key ≡ cond test None item.key
  key_test true = refl
  key_test false = refl

  slices_test : (test : Bool) → (changed_all (with_test test) item).slices ≡ cond test no_bytes item.slices
  slices_test true = refl
  slices_test false = refl

  total_test : (test : Bool) → (changed_all (with_test test) item).total ≡ cond test None item.total
  total_test true = refl
  total_test false = refl

  address_test : (test : Bool) → (changed_all (with_test test) item).last_address ≡ cond test None item.last_address
  address_test true = refl
  address_test false = refl

  digest_test : (test : Bool) → (changed_all (with_test test) item).digest ≡ item.digest
  digest_test true = refl
  digest_test false = refl

  abbrev pub begun : Item
  begun = changed_all (beginning item by at) item

  pub begun_key : begun.key ≡ key_behind item
  begun_key = key_test (begins_anew item)

  pub begun_slices : begun.slices ≡ cond (begins_anew item) no_bytes item.slices
  begun_slices = slices_test (begins_anew item)

  pub begun_total : begun.total ≡ cond (begins_anew item) None item.total
  begun_total = total_test (begins_anew item)

  pub begun_address : begun.last_address ≡ cond (begins_anew item) None item.last_address
  begun_address = address_test (begins_anew item)

  pub begun_digest : begun.digest ≡ item.digest
  begun_digest = digest_test (begins_anew item)

  pub begun_runs : is_running begun.phase ≡ true
  begun_runs = runs_test (begins_anew item)

  pub begun_attempt : begun.attempt ≡ record { 0 = item.attempt.0 + 1 }
  begun_attempt = attempt_test (begins_anew item)

  pub begun_there : (v : Listing) → item_in item.id.0 v.items ≡ Some item → item_in item.id.0 (run_of (beginning item by at) v).items ≡ Some begun
  begun_there = there_test (begins_anew item)

  pub begun_lives : (v : Listing) (lives : List Life) → item_in item.id.0 v.items ≡ Some item → life_in item.id.0 lives ≡ None → life_in item.id.0 (lives_of (beginning item by at) v lives) ≡ Some (begun_life begun)
  begun_lives v lives there none =
      ap (life_in item.id.0) (lives_test (begins_anew item) v lives there)
      ∙ pushed_own item.id.0 (begun_life begun) lives (test_is begun.id.0 item.id.0 (ap (λ (i : ItemId). i.0) (all_id (beginning item by at) item))) none

  -- no attempt on it ran
  pub none_ran : {D O : Type 0} (tells : Type 0) (clock : D → Clock) (desk : View D O) → IsDesk tells clock desk → desk.broken ≡ false → item_in item.id.0 desk.items.items ≡ Some item → IsTrue (may_begin by item)
      → life_in item.id.0 desk.lives ≡ None
  none_ran tells clock desk is whole there may =
      no_life item (life_in item.id.0 desk.lives) (idle_in by item.phase (and_left (begins_in by item.phase) (begins_by by (mode_of_item item)) may))
      (subst (λ (found : Option Item). LifeOf found (life_in item.id.0 desk.lives)) there (is.lives whole item.id.0))

-- What is kept, where an attempt goes on from what was saved.

goes_on : (by : By) (mode : Mode) → IsTrue (begins_by by mode) → is_restart mode ≡ false → IsTrue (is_continue mode)
goes_on User modes.Invalid begins not = absurd (false≢true begins)
goes_on Itself modes.Invalid begins not = absurd (false≢true begins)
goes_on by modes.ImmediateContinue begins not = refl
goes_on by modes.UserContinue begins not = refl
goes_on by modes.ImmediateRestart begins not = absurd (false≢true (sym not))
goes_on by modes.UserRestart begins not = absurd (false≢true (sym not))

not_anew : (begun restart : Bool) → (begun && restart) ≡ false → IsTrue begun → restart ≡ false
not_anew true restart none was = none
not_anew false restart none was = absurd (false≢true was)

kept_by : (key : Option Key) (total : Option ℕ) (address : Option (List ℕ)) → is_strong key ≡ true → is_some total ≡ true → is_some address ≡ is_some key → (item : Item) → item.key ≡ key → item.total ≡ total → item.last_address ≡ address → length item.slices ≤ 64 → IsKept item
kept_by (Some (Strong tag)) (Some total) (Some address) strong known has item key_is total_is address_is few = record { few = few; tag = tag; key_is = key_is; total = total; total_is = total_is; address = address; address_is = address_is }
kept_by (Some (Strong tag)) (Some total) None strong known has item key_is total_is address_is few = absurd (false≢true has)
kept_by (Some (Strong tag)) None address strong known has item key_is total_is address_is few = absurd (false≢true known)
kept_by (Some (Once id attempt)) total address strong known has item key_is total_is address_is few = absurd (false≢true strong)
kept_by None total address strong known has item key_is total_is address_is few = absurd (false≢true strong)

-- behind a beginning that isn't anew the item has the same key, total and address
kept_test : (item : Item) (by : By) (at : ℕ) (test : Bool) → test ≡ false → IsKept item → IsKept (changed_all (cond test (renewal item by at ∷ []) [] ++ start item by at ∷ []) item)
kept_test item by at true not kept = absurd (false≢true (sym not))
kept_test item by at false not kept = record { few = kept.few; tag = kept.tag; key_is = kept.key_is; total = kept.total; total_is = kept.total_is; address = kept.address; address_is = kept.address_is }

few_test : (item : Item) (by : By) (at : ℕ) (test : Bool) → test ≡ false → length (changed_all (with_test item by at test) item).slices ≤ 64 → length item.slices ≤ 64
few_test item by at true not few = absurd (false≢true (sym not))
few_test item by at false not few = few

told_test : (test : Bool) (key : Option Key) → IsSome (cond test None key) → (test ≡ false) × IsSome key
told_test true key told = absurd (false≢true told)
told_test false key told = (refl, told)

pub kept_begun : {D O : Type 0} (tells : Type 0) (clock : D → Clock) (desk : View D O) → IsDesk tells clock desk → (item : Item) → item_in item.id.0 desk.items.items ≡ Some item → (by : By) (at : ℕ) → IsTrue (may_begin by item) → IsSome (key_behind item) → length (changed_all (beginning item by at) item).slices ≤ 64
    → IsKept (changed_all (beginning item by at) item)
kept_begun tells clock desk is item there by at may told few =
    let found = told_test (begins_anew item) item.key told in
    let sound : IsSound item = sound_in (is.founded.before ++ desk.list) desk.items item.id.0 item is.founded.items there in
    let begun : IsTrue item.begun = sound.told.is_begun found.1 in
    let on : IsTrue (is_continue (mode_of_item item)) =
    goes_on by (mode_of_item item) (and_right (begins_in by item.phase) (begins_by by (mode_of_item item)) may) (not_anew item.begun (is_restart (mode_of_item item)) found.0 begun) in
    let facts = facts_of item in
    let can = can_go_on item on in
    let two = and_left (facts.strong && facts.total) facts.covered can in
    kept_test item by at (begins_anew item) found.0
    (kept_by item.key item.total item.last_address (and_left facts.strong facts.total two) (and_right facts.strong facts.total two) sound.told.has_address item refl refl refl (few_test item by at (begins_anew item) found.0 few))

-- the stated digest stays
pub told_digest : {D O : Type 0} (scene : Scene D O) (told : Option Tale) → (told_by scene told).digest ≡ scene.item.digest
told_digest scene None = begun_digest scene.item scene.by scene.at
told_digest scene (Some tale) = begun_digest scene.item scene.by scene.at
