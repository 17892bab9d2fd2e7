-- The first item that goes to the history, and those behind it.
use Rattle.std.proofs.Common.{◌≡◌, ℕ, ◌+◌, ◌<◌, ◌≤◌, ◌==◌, ◌||◌, cond, Bool, true, false, IsTrue, List, [], ◌∷◌, length, Option, Some, None, refl, sym, ◌∙◌, ap, subst, arith}
use Rattle.std.specs.Prelude.{IsSome}
use Rattle.std.specs.Option.{option_map}
use Rattle.std.proofs.lemmas.Bool.Decides.{nat_tests}
use Rattle.dm_types.specs.declared.item.Item.{Item}
use Rattle.dm_types.specs.declared.item.Phase.{Phase}
use Rattle.dm_types.specs.declared.item.Phase.TheVariants as phases
use Rattle.dm_item.specs.Kept.{IsNumbered}
use Rattle.dm_item.specs.Listing.{item_in, without}
use Rattle.dm_item.specs.Row.{is_cancelled, is_complete}
use Rattle.dm_hist.specs.declared.row.Row.{Row}
use Rattle.dm_hist.specs.Shown.{is_over, row_of_item}
use Rattle.dm_archive.specs.Leaving.{next_over}
use Rattle.dm_archive.specs.Moving.{goes, overs}

some_is : {A : Type 0} (a b : A) → Some a ≡ Some b → a ≡ b
some_is a b same = cc

eq_self : (n : ℕ) → (n == n) ≡ true
eq_self n = grind (arith, nat_tests)

eq_below : (n m : ℕ) → n < m → (n == m) ≡ false
eq_below n m less = grind (arith, nat_tests)

-- it goes
goes_test : (item x : Item) (rest : List Item) (test : Bool) → goes x ≡ test → cond test (Some x) (next_over rest) ≡ Some item → (next_over rest ≡ Some item → goes item ≡ true) → goes item ≡ true
goes_test item x rest true is found later = ap goes (sym (some_is x item found)) ∙ is
goes_test item x rest false is found later = later found

pub found_goes : (items : List Item) (item : Item) → next_over items ≡ Some item → goes item ≡ true
found_goes [] item found = absurd cc
found_goes (x ∷ rest) item found = goes_test item x rest (goes x) refl found (found_goes rest item)

-- its id isn't below the first
low_test : (low next : ℕ) (item x : Item) (rest : List Item) (test : Bool) → cond test (Some x) (next_over rest) ≡ Some item → IsNumbered low (x ∷ rest) next → (next_over rest ≡ Some item → x.id.0 + 1 ≤ item.id.0) → low ≤ item.id.0
low_test low next item x rest true found numbered later = subst (λ (i : Item). low ≤ i.id.0) (some_is x item found) numbered.0
low_test low next item x rest false found numbered later = let below = later found in let first = numbered.0 in omega (arith, below, first)

pub found_low : (low next : ℕ) (items : List Item) (item : Item) → IsNumbered low items next → next_over items ≡ Some item → low ≤ item.id.0
found_low low next [] item numbered found = absurd cc
found_low low next (x ∷ rest) item numbered found = low_test low next item x rest (goes x) found numbered (found_low (x.id.0 + 1) next rest item numbered.1)

-- so it is the one with its id
there_test : (next : ℕ) (item x : Item) (rest : List Item) (low : ℕ) (test : Bool) → cond test (Some x) (next_over rest) ≡ Some item → IsNumbered low (x ∷ rest) next → (next_over rest ≡ Some item → item_in item.id.0 rest ≡ Some item)
    → cond (x.id.0 == item.id.0) (Some x) (item_in item.id.0 rest) ≡ Some item
there_test next item x rest low true found numbered later =
    let same : x ≡ item = some_is x item found in
    ap (λ (b : Bool). cond b (Some x) (item_in item.id.0 rest)) (subst (λ (i : Item). (x.id.0 == i.id.0) ≡ true) same (eq_self x.id.0)) ∙ found
there_test next item x rest low false found numbered later =
    ap (λ (b : Bool). cond b (Some x) (item_in item.id.0 rest)) (eq_below x.id.0 item.id.0 (let above = found_low (x.id.0 + 1) next rest item numbered.1 found in omega (arith, above))) ∙ later found

pub found_there : (low next : ℕ) (items : List Item) (item : Item) → IsNumbered low items next → next_over items ≡ Some item → item_in item.id.0 items ≡ Some item
found_there low next [] item numbered found = absurd cc
found_there low next (x ∷ rest) item numbered found = there_test next item x rest low (goes x) found numbered (found_there (x.id.0 + 1) next rest item numbered.1)

-- those that go begin with it, and the others are those of the list without it
overs_test : (next : ℕ) (item x : Item) (rest : List Item) (low : ℕ) (test : Bool) → goes x ≡ test → cond test (Some x) (next_over rest) ≡ Some item → IsNumbered low (x ∷ rest) next
    → (next_over rest ≡ Some item → overs rest ≡ item ∷ overs (without item.id.0 rest)) → overs (x ∷ rest) ≡ item ∷ overs (without item.id.0 (x ∷ rest))
overs_test next item x rest low true is found numbered later =
    let same : x ≡ item = some_is x item found in
    let front : overs (x ∷ rest) ≡ x ∷ overs rest = ap (λ (b : Bool). cond b (x ∷ overs rest) (overs rest)) is in
    let behind : without x.id.0 (x ∷ rest) ≡ rest = ap (λ (b : Bool). cond b rest (x ∷ without x.id.0 rest)) (eq_self x.id.0) in
    subst (λ (i : Item). overs (x ∷ rest) ≡ i ∷ overs (without i.id.0 (x ∷ rest))) same (front ∙ ap (λ (items : List Item). x ∷ overs items) (sym behind))
overs_test next item x rest low false is found numbered later =
    let front : overs (x ∷ rest) ≡ overs rest = ap (λ (b : Bool). cond b (x ∷ overs rest) (overs rest)) is in
    let apart : (x.id.0 == item.id.0) ≡ false = eq_below x.id.0 item.id.0 (let above = found_low (x.id.0 + 1) next rest item numbered.1 found in omega (arith, above)) in
    let behind : without item.id.0 (x ∷ rest) ≡ x ∷ without item.id.0 rest = ap (λ (b : Bool). cond b rest (x ∷ without item.id.0 rest)) apart in
    let back : overs (x ∷ without item.id.0 rest) ≡ overs (without item.id.0 rest) = ap (λ (b : Bool). cond b (x ∷ overs (without item.id.0 rest)) (overs (without item.id.0 rest))) is in
    front ∙ later found ∙ ap (λ (items : List Item). item ∷ items) (sym (ap overs behind ∙ back))

pub overs_first : (low next : ℕ) (items : List Item) (item : Item) → IsNumbered low items next → next_over items ≡ Some item → overs items ≡ item ∷ overs (without item.id.0 items)
overs_first low next [] item numbered found = absurd cc
overs_first low next (x ∷ rest) item numbered found = overs_test next item x rest low (goes x) refl found numbered (overs_first (x.id.0 + 1) next rest item numbered.1)

none_test : (x : Item) (rest : List Item) (test : Bool) → goes x ≡ test → cond test (Some x) (next_over rest) ≡ None → (next_over rest ≡ None → overs rest ≡ []) → overs (x ∷ rest) ≡ []
none_test x rest true is none later = absurd cc
none_test x rest false is none later = ap (λ (b : Bool). cond b (x ∷ overs rest) (overs rest)) is ∙ later none

pub overs_none : (items : List Item) → next_over items ≡ None → overs items ≡ []
overs_none [] none = refl
overs_none (x ∷ rest) none = none_test x rest (goes x) refl none (overs_none rest)

-- the list has one item less
length_test : (id : ℕ) (item x : Item) (rest : List Item) (test : Bool) → (x.id.0 == id) ≡ test → cond test (Some x) (item_in id rest) ≡ Some item → (item_in id rest ≡ Some item → length rest ≡ length (without id rest) + 1)
    → length rest + 1 ≡ length (cond test rest (x ∷ without id rest)) + 1
length_test id item x rest true is found later = refl
length_test id item x rest false is found later = let less = later found in omega (arith, less)

pub length_without : (id : ℕ) (items : List Item) (item : Item) → item_in id items ≡ Some item → length items ≡ length (without id items) + 1
length_without id [] item found = absurd cc
length_without id (x ∷ rest) item found = let tested = length_test id item x rest (x.id.0 == id) refl found (length_without id rest item) in omega (arith, tested)

-- the first that goes, by its row
pub record FoundRow (items : List Item) (row : Row) : Type 0 where
  pub item : Item
  pub is : next_over items ≡ Some item
  pub row_is : row ≡ row_of_item item

found_by : (items : List Item) (row : Row) (found : Option Item) → next_over items ≡ found → Some row ≡ option_map row_of_item found → FoundRow items row
found_by items row None is none = absurd cc
found_by items row (Some item) is some = record { item = item; is = is; row_is = some_is row (row_of_item item) some }

pub found_row : (items : List Item) (row : Row) → Some row ≡ option_map row_of_item (next_over items) → FoundRow items row
found_row items row some = found_by items row (next_over items) refl some

none_by : (found : Option Item) → None ≡ option_map row_of_item found → found ≡ None
none_by None none = refl
none_by (Some item) none = absurd cc

pub found_none : (items : List Item) → None ≡ option_map row_of_item (next_over items) → next_over items ≡ None
found_none items none = none_by (next_over items) none

-- the first that goes, where there is one
pub record FoundSome (items : List Item) : Type 0 where
  pub item : Item
  pub is : next_over items ≡ Some item

some_by : (items : List Item) (found : Option Item) → next_over items ≡ found → IsSome found → FoundSome items
some_by items None is some = absurd cc
some_by items (Some item) is some = record { item = item; is = is }

pub found_some : (items : List Item) → IsSome (next_over items) → FoundSome items
found_some items some = some_by items (next_over items) refl some

-- an item that goes is complete or cancelled
pub over_phases : (phase : Phase) → is_over phase ≡ true → IsTrue (is_complete phase || is_cancelled phase)
over_phases phases.Waiting is = absurd cc
over_phases phases.Running is = absurd cc
over_phases phases.Paused is = absurd cc
over_phases phases.Finishing is = absurd cc
over_phases phases.Complete is = refl
over_phases phases.Cancelled is = refl
over_phases (phases.Interrupted reason) is = absurd cc
