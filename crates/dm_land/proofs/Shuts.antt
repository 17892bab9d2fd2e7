-- The items that run, one after another.
use Rattle.std.proofs.Common.{◌≡◌, ◌≢◌, ℕ, ◌+◌, ◌<◌, ◌≤◌, ◌==◌, cond, Bool, true, false, IsTrue, List, [], ◌∷◌, ◌++◌, length, Option, Some, None, refl, sym, ◌∙◌, ap, subst, arith}
use Rattle.std.specs.Prelude.{IsSome, filter, find, is_some, map}
use Rattle.std.proofs.lemmas.Bool.{false≢true}
use Rattle.dm_types.specs.declared.entry.Entry.{Entry}
use Rattle.dm_types.specs.declared.entry.Entry.TheVariants as entries
use Rattle.dm_types.specs.declared.item.Item.{Item}
use Rattle.dm_types.specs.declared.item.ItemId.{ItemId}
use Rattle.dm_types.specs.declared.reason.Reason.TheVariants as reasons
use Rattle.dm_item.specs.Fields.{is_running}
use Rattle.dm_item.specs.Kept.{IsNumbered}
use Rattle.dm_item.specs.Lawful.{History}
use Rattle.dm_item.specs.Listing.{changed_at, item_in}
use Rattle.dm_item.specs.Row.{changed}
use Rattle.dm_kept.proofs.Lists.{eq_is, some_is}
use Rattle.dm_store.specs.declared.life.Life.{Life}
use Rattle.dm_store.specs.Lives.{AreLives, LifeOf, life_in}
use Rattle.dm_answers.specs.Shut.{shuts}
use Rattle.dm_land.specs.Shutting.{running_in, runs}

-- the interruption of an item
abbrev pub shut_of : ItemId → Entry
shut_of id = entries.Broke id reasons.UserShutdown

eq_self : (n : ℕ) → (n == n) ≡ true
eq_self n = grind arith

-- it runs
found_test : (item x : Item) (rest : List Item) (test : Bool) → runs x ≡ test → cond test (Some x) (running_in rest) ≡ Some item → (running_in rest ≡ Some item → IsTrue (runs item)) → IsTrue (runs item)
found_test item x rest true is found later = subst (λ (i : Item). IsTrue (runs i)) (some_is x item found) is
found_test item x rest false is found later = later found

pub found_runs : (items : List Item) (item : Item) → running_in items ≡ Some item → IsTrue (runs item)
found_runs [] item found = absurd cc
found_runs (x ∷ rest) item found = found_test item x rest (runs x) refl found (found_runs rest item)

-- its id isn't below the first
low_test : (low next : ℕ) (item x : Item) (rest : List Item) (test : Bool) → cond test (Some x) (running_in rest) ≡ Some item → IsNumbered low (x ∷ rest) next → (running_in rest ≡ Some item → x.id.0 + 1 ≤ item.id.0) → low ≤ item.id.0
low_test low next item x rest true found numbered later = subst (λ (i : Item). low ≤ i.id.0) (some_is x item found) numbered.0
low_test low next item x rest false found numbered later = let below = later found in let first = numbered.0 in omega (arith, below, first)

found_low : (low next : ℕ) (items : List Item) (item : Item) → IsNumbered low items next → running_in items ≡ Some item → low ≤ item.id.0
found_low low next [] item numbered found = absurd cc
found_low low next (x ∷ rest) item numbered found = low_test low next item x rest (runs x) found numbered (found_low (x.id.0 + 1) next rest item numbered.1)

other_id : (a b : ℕ) → a + 1 ≤ b → (a == b) ≡ false
other_id a b below = by (a == b) refl
  where
    by : (test : Bool) → (a == b) ≡ test → (a == b) ≡ false
    by true same = let equal = eq_is a b same in absurd (omega (arith, equal, below))
    by false other = other

-- so it is the one with its id
there_test : (next : ℕ) (item x : Item) (rest : List Item) (low : ℕ) (test : Bool) → cond test (Some x) (running_in rest) ≡ Some item → IsNumbered low (x ∷ rest) next → (running_in rest ≡ Some item → item_in item.id.0 rest ≡ Some item)
    → cond (x.id.0 == item.id.0) (Some x) (item_in item.id.0 rest) ≡ Some item
there_test next item x rest low true found numbered later =
    let same : x ≡ item = some_is x item found in
    ap (λ (b : Bool). cond b (Some x) (item_in item.id.0 rest)) (subst (λ (i : Item). (x.id.0 == i.id.0) ≡ true) same (eq_self x.id.0)) ∙ found
there_test next item x rest low false found numbered later =
    ap (λ (b : Bool). cond b (Some x) (item_in item.id.0 rest)) (other_id x.id.0 item.id.0 (found_low (x.id.0 + 1) next rest item numbered.1 found)) ∙ later found

pub found_there : (low next : ℕ) (items : List Item) (item : Item) → IsNumbered low items next → running_in items ≡ Some item → item_in item.id.0 items ≡ Some item
found_there low next [] item numbered found = absurd cc
found_there low next (x ∷ rest) item numbered found = there_test next item x rest low (runs x) found numbered (found_there (x.id.0 + 1) next rest item numbered.1)

-- The interruptions begin with its own, and the others are those behind it.
shuts_test : (next : ℕ) (item x : Item) (rest : List Item) (low : ℕ) (test : Bool) → runs x ≡ test → cond test (Some x) (running_in rest) ≡ Some item → IsNumbered low (x ∷ rest) next
    → (running_in rest ≡ Some item → shuts rest ≡ shut_of item.id ∷ shuts (changed_at (shut_of item.id) item.id.0 rest)) → shuts (x ∷ rest) ≡ shut_of item.id ∷ shuts (changed_at (shut_of item.id) item.id.0 (x ∷ rest))
shuts_test next item x rest low true is found numbered later =
    let same : x ≡ item = some_is x item found in
    let front : shuts (x ∷ rest) ≡ shut_of x.id ∷ shuts rest = ap (λ (b : Bool). map (λ (i : Item). shut_of i.id) (cond b (x ∷ filter runs rest) (filter runs rest))) is in
    let behind : changed_at (shut_of x.id) x.id.0 (x ∷ rest) ≡ changed_one x ∷ rest =
    ap (λ (b : Bool). cond b (changed_one x ∷ rest) (x ∷ changed_at (shut_of x.id) x.id.0 rest)) (eq_self x.id.0) in
    subst (λ (i : Item). shuts (x ∷ rest) ≡ shut_of i.id ∷ shuts (changed_at (shut_of i.id) i.id.0 (x ∷ rest))) same
    (front ∙ ap (λ (items : List Item). shut_of x.id ∷ shuts items) (sym behind))
  where
    changed_one : Item → Item
    changed_one i = changed (shut_of i.id) i
shuts_test next item x rest low false is found numbered later =
    let front : shuts (x ∷ rest) ≡ shuts rest = ap (λ (b : Bool). map (λ (i : Item). shut_of i.id) (cond b (x ∷ filter runs rest) (filter runs rest))) is in
    let apart = other_id x.id.0 item.id.0 (found_low (x.id.0 + 1) next rest item numbered.1 found) in
    let behind : changed_at (shut_of item.id) item.id.0 (x ∷ rest) ≡ x ∷ changed_at (shut_of item.id) item.id.0 rest =
    ap (λ (b : Bool). cond b (changed (shut_of item.id) x ∷ rest) (x ∷ changed_at (shut_of item.id) item.id.0 rest)) apart in
    let back : shuts (x ∷ changed_at (shut_of item.id) item.id.0 rest) ≡ shuts (changed_at (shut_of item.id) item.id.0 rest) =
    ap (λ (b : Bool). map (λ (i : Item). shut_of i.id) (cond b (x ∷ filter runs (changed_at (shut_of item.id) item.id.0 rest)) (filter runs (changed_at (shut_of item.id) item.id.0 rest)))) is in
    front ∙ later found ∙ ap (λ (h : History). shut_of item.id ∷ h) (sym (ap shuts behind ∙ back))

pub shuts_first : (low next : ℕ) (items : List Item) (item : Item) → IsNumbered low items next → running_in items ≡ Some item → shuts items ≡ shut_of item.id ∷ shuts (changed_at (shut_of item.id) item.id.0 items)
shuts_first low next [] item numbered found = absurd cc
shuts_first low next (x ∷ rest) item numbered found = shuts_test next item x rest low (runs x) refl found numbered (shuts_first (x.id.0 + 1) next rest item numbered.1)

-- where none runs there are none
none_test : (x : Item) (rest : List Item) (test : Bool) → runs x ≡ test → cond test (Some x) (running_in rest) ≡ None → (running_in rest ≡ None → shuts rest ≡ []) → shuts (x ∷ rest) ≡ []
none_test x rest true is none later = absurd cc
none_test x rest false is none later = ap (λ (b : Bool). map (λ (i : Item). shut_of i.id) (cond b (x ∷ filter runs rest) (filter runs rest))) is ∙ later none

pub shuts_none : (items : List Item) → running_in items ≡ None → shuts items ≡ []
shuts_none [] none = refl
shuts_none (x ∷ rest) none = none_test x rest (runs x) refl none (shuts_none rest)

-- an item that runs has a life
pub running_lives : (items : List Item) (lives : List Life) (item : Item) → AreLives items lives → item_in item.id.0 items ≡ Some item → IsTrue (is_running item.phase) → IsSome (life_in item.id.0 lives)
running_lives items lives item are there is = by (life_in item.id.0 lives) (subst (λ (found : Option Item). LifeOf found (life_in item.id.0 lives)) there (are item.id.0))
  where
    by : (life : Option Life) → LifeOf (Some item) life → IsSome life
    by None idle = absurd (false≢true (sym idle ∙ is))
    by (Some life) own = refl
