-- Laws of whole lawful histories.
use Rattle.std.proofs.Common.{◌≡◌, ℕ, ◌+◌, ◌<◌, ◌≤◌, ◌⊎◌, List, [], ◌∷◌, ◌++◌, reverse, cond, true, false, Bool, ◌||◌, Option, Some, None, inl, inr, refl, ap, sym, subst, ◌∙◌, arith}
use Rattle.std.specs.Prelude.{IfSome, nat_le}
use Rattle.std.proofs.lemmas.Bool.{false≢true}
use Rattle.std.proofs.lemmas.Bool.Decides.{nat_tests}
use Rattle.std.proofs.lemmas.List.{reverse-append}
use Rattle.dm_types.specs.declared.item.Item.{Item}
use Rattle.dm_types.specs.declared.item.ItemId.{ItemId}
use Rattle.dm_types.specs.declared.item.Attempt.{Attempt}
use Rattle.dm_types.specs.declared.item.Phase.{Phase}
use Rattle.dm_types.specs.declared.item.Phase.TheVariants as phases
use Rattle.dm_types.specs.declared.kinds.By.{By}
use Rattle.dm_types.specs.declared.kinds.By.TheVariants.{User, Itself}
use Rattle.dm_types.specs.declared.kinds.Mode.{Mode}
use Rattle.dm_types.specs.declared.kinds.Mode.TheVariants as modes
use Rattle.dm_types.specs.declared.reason.Reason.{Reason}
use Rattle.dm_types.specs.declared.entry.Entry.{Entry}
use Rattle.dm_types.specs.declared.entry.Entry.TheVariants as entries
use Rattle.dm_policy.specs.declared.mode.ModeFacts.{ModeFacts}
use Rattle.dm_policy.specs.Mode.{by_user, is_immediate, is_last_attempt, mode_by, placed_mode}
use Rattle.dm_item.proofs.Basics.{none_some, some_same}
use Rattle.dm_item.specs.History.{count_of, map_some, since, stands, there}
use Rattle.dm_item.specs.Fields.{base_of, is_began, is_began_by_itself, is_began_by_user, is_gone, is_running, item_at, item_of, items_below, next_of, own, stopped}
use Rattle.dm_item.specs.Row.{Further, IsBegun, allows, changed, facts_of, mode_in, mode_of_item, target_of, stopped_item}
use Rattle.dm_item.specs.Lawful.{AtMostFive, DoneOnce, History, IsLawful, IsLawfulBack, StaysOver, is_done, item_with}
use Rattle.dm_item.proofs.Below.{effect}
use Rattle.dm_item.proofs.Looks.{Fresh, opened, count-fresh, newest-fresh, present}
use Rattle.dm_item.proofs.Sounds.{changes, never_complete}
use Rattle.dm_item.proofs.Steps.{StepAt, elsewhere, named_here, opened_all, made_here, sane_lawful, step_at}

-- At most one Done for an id: behind one, the item is complete or gone.

abbrev Ended : Option Item → Type 0
Ended None = Unit {0}
Ended (Some item) = item.phase ≡ phases.Complete

abbrev Dones : ℕ → List Entry → Type 0
Dones k h = (count_of is_done (own k h) ≡ 0) ⊎ ((count_of is_done (own k h) ≡ 1) × Ended (item_at h k))

ended-stopped : (found : Option Item) → Ended found → Ended (map_some stopped_item found)
ended-stopped None ended = tt
ended-stopped (Some item) ended = ap stopped ended

base_no_done : (e : Entry) → there (base_of e) ≡ true → is_done e ≡ false
base_no_done (entries.Added id word address wish digest at) base = refl
base_no_done (entries.Began id attempt by at) base = absurd (false≢true base)
base_no_done (entries.Described id key last_address total name modified) base = absurd (false≢true base)
base_no_done (entries.Progress id slices) base = absurd (false≢true base)
base_no_done (entries.Broke id why) base = absurd (false≢true base)
base_no_done (entries.Paused id) base = absurd (false≢true base)
base_no_done (entries.Cancelled id) base = absurd (false≢true base)
base_no_done (entries.Restarted id epoch because) base = absurd (false≢true base)
base_no_done (entries.Finishing id total) base = absurd (false≢true base)
base_no_done (entries.Done id digest at) base = absurd (false≢true base)
base_no_done (entries.Removed id) base = absurd (false≢true base)
base_no_done (entries.Archived id) base = absurd (false≢true base)
base_no_done (entries.Reopened next at) base = absurd (false≢true base)
base_no_done (entries.Restored other) base = refl
base_no_done (entries.Asked id) base = absurd (false≢true base)

done_named : (e : Entry) (item : Item) (n : ℕ) → n ≡ 0 → is_done e ≡ is_done e → (cond (is_done e) (n + 1) n ≡ 0) ⊎ ((cond (is_done e) (n + 1) n ≡ 1) × Ended (effect e item))
done_named (entries.Added id word address wish digest at) item n none is = inl none
done_named (entries.Began id attempt by at) item n none is = inl none
done_named (entries.Described id key last_address total name modified) item n none is = inl none
done_named (entries.Progress id slices) item n none is = inl none
done_named (entries.Broke id why) item n none is = inl none
done_named (entries.Paused id) item n none is = inl none
done_named (entries.Cancelled id) item n none is = inl none
done_named (entries.Restarted id epoch because) item n none is = inl none
done_named (entries.Finishing id total) item n none is = inl none
done_named (entries.Done id digest at) item n none is = inr (let one : n + 1 ≡ 1 = omega arith in one, refl)
done_named (entries.Removed id) item n none is = inl none
done_named (entries.Archived id) item n none is = inl none
done_named (entries.Reopened next at) item n none is = inl none
done_named (entries.Restored other) item n none is = inl none
done_named (entries.Asked id) item n none is = inl none

ended_gone : (e : Entry) (item : Item) → changes e ≡ true → allows e item.phase ≡ true → item.phase ≡ phases.Complete → (is_done e ≡ false) × (effect e item ≡ None)
ended_gone (entries.Added id word address wish digest at) item does may complete = absurd (false≢true does)
ended_gone (entries.Began id attempt by at) item does may complete = absurd (never_complete (entries.Began id attempt by at) (subst (λ (p : Phase). allows (entries.Began id attempt by at) p ≡ true) complete may) refl refl)
ended_gone (entries.Described id key last_address total name modified) item does may complete = absurd (never_complete (entries.Described id key last_address total name modified) (subst (λ (p : Phase). allows (entries.Described id key last_address total name modified) p ≡ true) complete may) refl refl)
ended_gone (entries.Progress id slices) item does may complete = absurd (never_complete (entries.Progress id slices) (subst (λ (p : Phase). allows (entries.Progress id slices) p ≡ true) complete may) refl refl)
ended_gone (entries.Broke id why) item does may complete = absurd (never_complete (entries.Broke id why) (subst (λ (p : Phase). allows (entries.Broke id why) p ≡ true) complete may) refl refl)
ended_gone (entries.Paused id) item does may complete = absurd (never_complete (entries.Paused id) (subst (λ (p : Phase). allows (entries.Paused id) p ≡ true) complete may) refl refl)
ended_gone (entries.Cancelled id) item does may complete = absurd (never_complete (entries.Cancelled id) (subst (λ (p : Phase). allows (entries.Cancelled id) p ≡ true) complete may) refl refl)
ended_gone (entries.Restarted id epoch because) item does may complete = absurd (never_complete (entries.Restarted id epoch because) (subst (λ (p : Phase). allows (entries.Restarted id epoch because) p ≡ true) complete may) refl refl)
ended_gone (entries.Finishing id total) item does may complete = absurd (never_complete (entries.Finishing id total) (subst (λ (p : Phase). allows (entries.Finishing id total) p ≡ true) complete may) refl refl)
ended_gone (entries.Done id digest at) item does may complete = absurd (never_complete (entries.Done id digest at) (subst (λ (p : Phase). allows (entries.Done id digest at) p ≡ true) complete may) refl refl)
ended_gone (entries.Removed id) item does may complete = (refl, refl)
ended_gone (entries.Archived id) item does may complete = (refl, refl)
ended_gone (entries.Reopened next at) item does may complete = absurd (false≢true does)
ended_gone (entries.Restored other) item does may complete = absurd (false≢true does)
ended_gone (entries.Asked id) item does may complete = absurd (never_complete (entries.Asked id) (subst (λ (p : Phase). allows (entries.Asked id) p ≡ true) complete may) refl refl)

name_changes : (e : Entry) (id : ItemId) → target_of e ≡ Some id → changes e ≡ true
name_changes (entries.Added id word address wish digest at) named says = absurd (none_some says)
name_changes (entries.Began id attempt by at) named says = refl
name_changes (entries.Described id key last_address total name modified) named says = refl
name_changes (entries.Progress id slices) named says = refl
name_changes (entries.Broke id why) named says = refl
name_changes (entries.Paused id) named says = refl
name_changes (entries.Cancelled id) named says = refl
name_changes (entries.Restarted id epoch because) named says = refl
name_changes (entries.Finishing id total) named says = refl
name_changes (entries.Done id digest at) named says = refl
name_changes (entries.Removed id) named says = refl
name_changes (entries.Archived id) named says = refl
name_changes (entries.Reopened next at) named says = absurd (none_some says)
name_changes (entries.Restored other) named says = absurd (none_some says)
name_changes (entries.Asked id) named says = refl

dones_step : (k : ℕ) (e : Entry) (h : List Entry) → StepAt e h k → Dones k h → Dones k (e ∷ h)
dones_step k e h (elsewhere same) dones =
    subst (λ (g : List Entry). (count_of is_done g ≡ 0) ⊎ ((count_of is_done g ≡ 1) × Ended (item_of g))) (sym same) dones
dones_step k e h (opened_all next at is same after) dones =
    let no_done : is_done e ≡ false = ap is_done is in
    let count : count_of is_done (own k (e ∷ h)) ≡ count_of is_done (own k h) = ap (count_of is_done) same ∙ ap (λ (b : Bool). cond b (count_of is_done (own k h) + 1) (count_of is_done (own k h))) no_done in
    elim dones [
      | inl none ↦ inl (count ∙ none)
      | inr one ↦ inr (count ∙ one.0, subst Ended (sym after) (ended-stopped (item_at h k) one.1))
    ]
dones_step k e h (made_here fresh same base) dones =
    let none : count_of is_done (own k h) ≡ 0 = count-fresh is_done (λ n a. refl) fresh in
    inl (ap (count_of is_done) same ∙ ap (λ (b : Bool). cond b (count_of is_done (own k h) + 1) (count_of is_done (own k h))) (base_no_done e base) ∙ none)
dones_step k e h (named_here id item name found may further same after) dones =
    elim dones [
      | inl none ↦
          elim (done_named e item (count_of is_done (own k h)) none refl) [
            | inl still ↦ inl (ap (count_of is_done) same ∙ still)
            | inr one ↦ inr (ap (count_of is_done) same ∙ one.0, subst Ended (sym after) one.1)
          ]
      | inr one ↦
          let complete : item.phase ≡ phases.Complete = subst Ended found one.1 in
          let gone = ended_gone e item (name_changes e id name) may complete in
          inr (ap (count_of is_done) same ∙ ap (λ (b : Bool). cond b (count_of is_done (own k h) + 1) (count_of is_done (own k h))) gone.0 ∙ one.0, subst Ended (sym (after ∙ gone.1)) tt)
    ]

dones : (k : ℕ) (h : List Entry) → IsLawfulBack h → Dones k h
dones k [] lawful = inl refl
dones k (e ∷ h) lawful = dones_step k e h (step_at e h k (sane_lawful h lawful.1) lawful.0) (dones k h lawful.1)

dones_few : (k : ℕ) (h : List Entry) → Dones k h → count_of is_done (own k h) ≤ 1
dones_few k h (inl none) = omega arith
dones_few k h (inr one) = let is = one.0 in omega arith

pub done_once : (history : History) → IsLawful history → DoneOnce history
done_once history lawful = λ id. dones_few id (reverse history) (dones id (reverse history) lawful)

-- An attempt that is over stays over.

abbrev Past : ℕ → Item → Type 0
Past a item = (a < item.attempt.0) ⊎ ((a ≡ item.attempt.0) × (is_running item.phase ≡ false))

record Over (a k : ℕ) (h : List Entry) : Type 0 where
  used : ¬ Fresh (own k h)
  past : (item : Item) → item_at h k ≡ Some item → Past a item

fresh_rest : {e : Entry} {g : List Entry} → Fresh (e ∷ g) → Fresh g
fresh_rest (opened fresh) = fresh

past_running : (a : ℕ) (item : Item) → Past a item → is_running item.phase ≡ true → a < item.attempt.0
past_running a item (inl later) run = later
past_running a item (inr same) run = absurd (false≢true (sym same.1 ∙ run))

began_later : (a : ℕ) (item : Item) (attempt : ℕ) → attempt ≡ item.attempt.0 + 1 → Past a item → a < attempt
began_later a item attempt next (inl later) = omega arith
began_later a item attempt next (inr same) = let is = same.0 in omega arith

past_changed : (e : Entry) (items : List Item) (a : ℕ) (item : Item) → changes e ≡ true → allows e item.phase ≡ true → Further e items item → Past a item → Past a (changed e item)
past_changed (entries.Added id word address wish digest at) items a item does may further past = absurd (false≢true does)
past_changed (entries.Began id attempt by at) items a item does may further past = inl (began_later a item attempt.0 further.next past)
past_changed (entries.Described id key last_address total name modified) name_items a item does may further past = inl (past_running a item past may)
past_changed (entries.Progress id slices) items a item does may further past = inl (past_running a item past may)
past_changed (entries.Broke id why) items a item does may further past = elim past [ inl later ↦ inl later | inr same ↦ inr (same.0, refl) ]
past_changed (entries.Paused id) items a item does may further past = elim past [ inl later ↦ inl later | inr same ↦ inr (same.0, refl) ]
past_changed (entries.Cancelled id) items a item does may further past = elim past [ inl later ↦ inl later | inr same ↦ inr (same.0, refl) ]
past_changed (entries.Restarted id epoch because) items a item does may further past = past
past_changed (entries.Finishing id total) items a item does may further past = inl (past_running a item past may)
past_changed (entries.Done id digest at) items a item does may further past = elim past [ inl later ↦ inl later | inr same ↦ inr (same.0, refl) ]
past_changed (entries.Removed id) items a item does may further past = past
past_changed (entries.Archived id) items a item does may further past = past
past_changed (entries.Reopened next at) items a item does may further past = absurd (false≢true does)
past_changed (entries.Restored other) items a item does may further past = absurd (false≢true does)
past_changed (entries.Asked id) items a item does may further past = elim past [ inl later ↦ inl later | inr same ↦ inr (same.0, refl) ]

not_running : (phase : Phase) → is_running (stopped phase) ≡ false
not_running phases.Running = refl
not_running phases.Waiting = refl
not_running phases.Paused = refl
not_running phases.Finishing = refl
not_running phases.Complete = refl
not_running phases.Cancelled = refl
not_running (phases.Interrupted why) = refl

past_stopped : (a : ℕ) (item : Item) → Past a item → Past a (stopped_item item)
past_stopped a item (inl later) = inl later
past_stopped a item (inr same) = inr (same.0, not_running item.phase)

past_reopened : (a : ℕ) (found : Option Item) (new : Item) → ((item : Item) → found ≡ Some item → Past a item) → map_some stopped_item found ≡ Some new → Past a new
past_reopened a None new past is = absurd (none_some is)
past_reopened a (Some item) new past is = subst (Past a) (some_same is) (past_stopped a item (past item refl))

past_effect : (e : Entry) (items : List Item) (a : ℕ) (item new : Item) (gone : Bool) → changes e ≡ true → allows e item.phase ≡ true → Further e items item → Past a item → cond gone None (Some (changed e item)) ≡ Some new → Past a new
past_effect e items a item new true does may further past is = absurd (none_some is)
past_effect e items a item new false does may further past is = subst (Past a) (some_same is) (past_changed e items a item does may further past)

over_step : (a k : ℕ) (e : Entry) (h : List Entry) → StepAt e h k → Over a k h → Over a k (e ∷ h)
over_step a k e h (elsewhere same) over =
    record {
      used = λ fresh. over.used (subst Fresh same fresh);
      past = λ item is. over.past item (ap item_of (sym same) ∙ is);
    }
over_step a k e h (opened_all next at is same after) over =
    record {
      used = λ fresh. over.used (fresh_rest (subst Fresh same fresh));
      past = λ item here. past_reopened a (item_at h k) item over.past (sym after ∙ here);
    }
over_step a k e h (made_here fresh same base) over = absurd (over.used fresh)
over_step a k e h (named_here id item name found may further same after) over =
    record {
      used = λ fresh. over.used (fresh_rest (subst Fresh same fresh));
      past = λ new here. past_effect e (items_below (item_at h) (next_of h)) a item new (is_gone e) (name_changes e id name) may further (over.past item found) (sym after ∙ here);
    }

over_more : (a k : ℕ) (more h : List Entry) → IsLawfulBack (more ++ h) → Over a k h → Over a k (more ++ h)
over_more a k [] h lawful over = over
over_more a k (e ∷ more) h lawful over =
    over_step a k e (more ++ h) (step_at e (more ++ h) k (sane_lawful (more ++ h) lawful.1) lawful.0) (over_more a k more h lawful.1 over)

fresh_absent : (g : List Entry) (item : Item) → Fresh g → item_of g ≡ Some item → ⊥
fresh_absent g item fresh is =
    let p = present g item is in
    none_some (sym (newest-fresh base_of (λ n a. refl) fresh) ∙ p.base_is)

over_now : (h : List Entry) (k : ℕ) (item : Item) → item_at h k ≡ Some item → is_running item.phase ≡ false → Over item.attempt.0 k h
over_now h k item is rests =
    record {
      used = λ fresh. fresh_absent (own k h) item fresh is;
      past = λ other here. let same : item ≡ other = some_same (sym is ∙ here) in subst (Past item.attempt.0) same (inr (refl, rests));
    }

if_some : (found : Option Item) (P : Item → Type 0) → ((item : Item) → found ≡ Some item → P item) → IfSome found P
if_some None P each = tt
if_some (Some item) P each = each item refl

pub stays_over : (history more : History) → IsLawful (history ++ more) → StaysOver history more
stays_over history more lawful =
    λ id. if_some (item_with id history) _ (λ item is rests.
    if_some (item_with id (history ++ more)) _ (λ later is_later run.
    let turned : reverse (history ++ more) ≡ reverse more ++ reverse history = reverse-append history more in
    let over = over_more item.attempt.0 id (reverse more) (reverse history) (subst IsLawfulBack turned lawful) (over_now (reverse history) id item is rests) in
    past_running item.attempt.0 later (over.past later (ap (λ (h : List Entry). item_at h id) (sym turned) ∙ is_later)) run))

-- At most five attempts by itself stand behind one by the user.

pub never_now : (mode : Mode) → is_immediate (by_user mode) ≡ true → ⊥
never_now modes.Invalid now = false≢true now
never_now modes.ImmediateContinue now = false≢true now
never_now modes.ImmediateRestart now = false≢true now
never_now modes.UserContinue now = false≢true now
never_now modes.UserRestart now = false≢true now

few_at : (last paused : Bool) (many : Bool) (mode : Mode) → is_immediate (cond last modes.Invalid (cond (paused || many) (by_user mode) mode)) ≡ true → many ≡ false
few_at last paused false mode now = refl
few_at true paused true mode now = absurd (false≢true now)
few_at false true true mode now = absurd (never_now mode now)
few_at false false true mode now = absurd (never_now mode now)

pub few_autos : (reason : Option Reason) (facts : ModeFacts) → is_immediate (mode_by reason facts) ≡ true → facts.autos < 5
few_autos reason facts now =
    let few : nat_le 5 facts.autos ≡ false = few_at (is_last_attempt facts) facts.paused (nat_le 5 facts.autos) (placed_mode reason facts) now in
    grind (arith, nat_tests)

immediate_in : (phase : Phase) (mode : Mode) → is_immediate (mode_in phase mode) ≡ true → is_immediate mode ≡ true
immediate_in phases.Waiting mode now = now
immediate_in phases.Running mode now = now
immediate_in phases.Paused mode now = now
immediate_in phases.Finishing mode now = absurd (false≢true now)
immediate_in phases.Complete mode now = absurd (false≢true now)
immediate_in phases.Cancelled mode now = absurd (false≢true now)
immediate_in (phases.Interrupted why) mode now = now

item_few : (item : Item) → is_immediate (mode_of_item item) ≡ true → item.autos < 5
item_few item now = few_autos item.reason (facts_of item) (immediate_in item.phase (mode_by item.reason (facts_of item)) now)

abbrev Five : List Entry → Type 0
Five g = stands is_began_by_user g ≡ true → count_of is_began_by_itself (since is_began_by_user g) ≤ 5

autos_are : (g : List Entry) (item : Item) → item_of g ≡ Some item → stands is_began_by_user g ≡ true → count_of is_began_by_itself (since is_began_by_user g) ≡ item.autos
autos_are g item is user =
    let p = present g item is in
    ap (λ (b : Bool). cond b (count_of is_began_by_itself (since is_began_by_user g)) (p.base.autos + count_of is_began g)) (sym user) ∙ ap (λ (i : Item). i.autos) p.item_is

five_began : (id : ItemId) (attempt : Attempt) (by : By) (at : ℕ) (g : List Entry) (item : Item) → item_of g ≡ Some item → IsBegun item attempt.0 by → Five g → Five (entries.Began id attempt by at ∷ g)
five_began id attempt User at g item is further five = λ user. omega arith
five_began id attempt Itself at g item is further five =
    λ user. let few = item_few item further.mode in let same = autos_are g item is user in omega arith

five_named : (e : Entry) (items : List Item) (g : List Entry) (item : Item) → item_of g ≡ Some item → Further e items item → Five g → Five (e ∷ g)
five_named (entries.Added id word address wish digest at) items g item is further five = five
five_named (entries.Began id attempt by at) items g item is further five = five_began id attempt by at g item is further five
five_named (entries.Described id key last_address total name modified) items g item is further five = five
five_named (entries.Progress id slices) items g item is further five = five
five_named (entries.Broke id why) items g item is further five = five
five_named (entries.Paused id) items g item is further five = five
five_named (entries.Cancelled id) items g item is further five = five
five_named (entries.Restarted id epoch because) items g item is further five = five
five_named (entries.Finishing id total) items g item is further five = five
five_named (entries.Done id digest at) items g item is further five = five
five_named (entries.Removed id) items g item is further five = five
five_named (entries.Archived id) items g item is further five = five
five_named (entries.Reopened next at) items g item is further five = five
five_named (entries.Restored other) items g item is further five = five
five_named (entries.Asked id) items g item is further five = five

base_five : (e : Entry) (g : List Entry) → there (base_of e) ≡ true → Five g → Five (e ∷ g)
base_five (entries.Added id word address wish digest at) g base five = five
base_five (entries.Began id attempt by at) g base five = absurd (false≢true base)
base_five (entries.Described id key last_address total name modified) g base five = absurd (false≢true base)
base_five (entries.Progress id slices) g base five = absurd (false≢true base)
base_five (entries.Broke id why) g base five = absurd (false≢true base)
base_five (entries.Paused id) g base five = absurd (false≢true base)
base_five (entries.Cancelled id) g base five = absurd (false≢true base)
base_five (entries.Restarted id epoch because) g base five = absurd (false≢true base)
base_five (entries.Finishing id total) g base five = absurd (false≢true base)
base_five (entries.Done id digest at) g base five = absurd (false≢true base)
base_five (entries.Removed id) g base five = absurd (false≢true base)
base_five (entries.Archived id) g base five = absurd (false≢true base)
base_five (entries.Reopened next at) g base five = absurd (false≢true base)
base_five (entries.Restored other) g base five = five
base_five (entries.Asked id) g base five = absurd (false≢true base)

five_step : (k : ℕ) (e : Entry) (h : List Entry) → StepAt e h k → Five (own k h) → Five (own k (e ∷ h))
five_step k e h (elsewhere same) five = subst Five (sym same) five
five_step k e h (opened_all next at is same after) five = subst Five (sym (same ∙ ap (λ (x : Entry). x ∷ own k h) is)) five
five_step k e h (made_here fresh same base) five = subst Five (sym same) (base_five e (own k h) base five)
five_step k e h (named_here id item name found may further same after) five =
    subst Five (sym same) (five_named e (items_below (item_at h) (next_of h)) (own k h) item found further five)

fives : (k : ℕ) (h : List Entry) → IsLawfulBack h → Five (own k h)
fives k [] lawful = λ user. absurd (false≢true user)
fives k (e ∷ h) lawful = five_step k e h (step_at e h k (sane_lawful h lawful.1) lawful.0) (fives k h lawful.1)

pub at_most_five : (history : History) → IsLawful history → AtMostFive history
at_most_five history lawful = λ id. fives id (reverse history) lawful
