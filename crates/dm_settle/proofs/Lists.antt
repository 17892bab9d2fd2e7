-- The items that are being finished, in their order.
use Rattle.std.proofs.Common.{◌≡◌, ℕ, ◌+◌, ◌<◌, ◌≤◌, Bool, true, false, ◌==◌, cond, List, [], ◌∷◌, Some, None, refl, sym, ◌∙◌, ap, subst, arith}
use Rattle.std.specs.Prelude.{find}
use Rattle.std.proofs.lemmas.Bool.{false≢true}
use Rattle.std.proofs.lemmas.Bool.Decides.{nat_tests}
use Rattle.dm_types.specs.declared.entry.Entry.{Entry}
use Rattle.dm_types.specs.declared.item.Item.{Item}
use Rattle.dm_types.specs.declared.item.ItemId.{ItemId}
use Rattle.dm_types.specs.declared.item.Phase.{Phase}
use Rattle.dm_types.specs.declared.item.Phase.TheVariants as phases
use Rattle.dm_item.specs.Kept.{IsNumbered}
use Rattle.dm_item.specs.Listing.{Listing, applied, changed_at, item_in}
use Rattle.dm_item.specs.Row.{changed, is_finishing}
use Rattle.dm_answers.specs.Settling.{finishing}
use Rattle.dm_settle.specs.Judging.{entry_of}
use Rattle.dm_settle.specs.declared.judging.Judged.{Judged}
use Rattle.dm_settle.specs.declared.judging.Judged.TheVariants as judgements

pub phase_is : (phase : Phase) → is_finishing phase ≡ true → phase ≡ phases.Finishing
phase_is phases.Waiting is = absurd (false≢true is)
phase_is phases.Running is = absurd (false≢true is)
phase_is phases.Paused is = absurd (false≢true is)
phase_is phases.Finishing is = refl
phase_is phases.Complete is = absurd (false≢true is)
phase_is phases.Cancelled is = absurd (false≢true is)
phase_is (phases.Interrupted reason) is = absurd (false≢true is)

heads : (a b : Item) (xs ys : List Item) → a ∷ xs ≡ b ∷ ys → a ≡ b
heads a b xs ys same = cc

tails : (a b : Item) (xs ys : List Item) → a ∷ xs ≡ b ∷ ys → xs ≡ ys
tails a b xs ys same = cc

-- the first of them, by its id
first_low : (low next : ℕ) (items : List Item) (item : Item) (rest : List Item) → IsNumbered low items next → finishing items ≡ item ∷ rest → low ≤ item.id.0
first_low low next [] item rest numbered first = absurd cc
first_low low next (y ∷ ys) item rest numbered first = by (first_low (y.id.0 + 1) next ys item rest numbered.1) (is_finishing y.phase) refl
  where
    by : (finishing ys ≡ item ∷ rest → y.id.0 + 1 ≤ item.id.0) → (test : Bool) → is_finishing y.phase ≡ test → low ≤ item.id.0
    by behind true is =
        let same : y ∷ finishing ys ≡ item ∷ rest = sym (ap (λ (b : Bool). cond b (y ∷ finishing ys) (finishing ys)) is) ∙ first in
        subst (λ (i : Item). low ≤ i.id.0) (heads y item (finishing ys) rest same) numbered.0
    by behind false is =
        let later : finishing ys ≡ item ∷ rest = sym (ap (λ (b : Bool). cond b (y ∷ finishing ys) (finishing ys)) is) ∙ first in
        let above = behind later in
        let here = numbered.0 in
        omega (arith, above, here)

eq_self : (n m : ℕ) → n ≡ m → (n == m) ≡ true
eq_self n m same = grind (arith, nat_tests)

eq_less : (n m : ℕ) → n < m → (n == m) ≡ false
eq_less n m less = grind (arith, nat_tests)

-- It is found under its id, and is being finished.
pub record IsFound (items : List Item) (item : Item) : Type 0 where
  pub there : item_in item.id.0 items ≡ Some item
  pub finishing : item.phase ≡ phases.Finishing

pub first_there : (low next : ℕ) (items : List Item) (item : Item) (rest : List Item) → IsNumbered low items next → finishing items ≡ item ∷ rest → IsFound items item
first_there low next [] item rest numbered first = absurd cc
first_there low next (y ∷ ys) item rest numbered first = by (first_there (y.id.0 + 1) next ys item rest numbered.1) (is_finishing y.phase) refl
  where
    by : (finishing ys ≡ item ∷ rest → IsFound ys item) → (test : Bool) → is_finishing y.phase ≡ test → IsFound (y ∷ ys) item
    by behind true is =
        let same : y ∷ finishing ys ≡ item ∷ rest = sym (ap (λ (b : Bool). cond b (y ∷ finishing ys) (finishing ys)) is) ∙ first in
        let here : y ≡ item = heads y item (finishing ys) rest same in
        record {
          there = ap (λ (b : Bool). cond b (Some y) (item_in item.id.0 ys)) (eq_self y.id.0 item.id.0 (ap (λ (i : Item). i.id.0) here)) ∙ ap Some here;
          finishing = subst (λ (i : Item). i.phase ≡ phases.Finishing) here (phase_is y.phase is);
        }
    by behind false is =
        let later : finishing ys ≡ item ∷ rest = sym (ap (λ (b : Bool). cond b (y ∷ finishing ys) (finishing ys)) is) ∙ first in
        let found = behind later in
        let above = first_low (y.id.0 + 1) next ys item rest numbered.1 later in
        record {
          there = ap (λ (b : Bool). cond b (Some y) (item_in item.id.0 ys)) (eq_less y.id.0 item.id.0 (omega (arith, above))) ∙ found.there;
          finishing = found.finishing;
        }

-- Behind its entry the rest are left.
pub rest_left : (e : Entry) (low next : ℕ) (items : List Item) (item : Item) (rest : List Item) → IsNumbered low items next → finishing items ≡ item ∷ rest → ((i : Item) → is_finishing (changed e i).phase ≡ false)
    → finishing (changed_at e item.id.0 items) ≡ rest
rest_left e low next [] item rest numbered first over = absurd cc
rest_left e low next (y ∷ ys) item rest numbered first over = by (λ later. rest_left e (y.id.0 + 1) next ys item rest numbered.1 later over) (is_finishing y.phase) refl
  where
    by : (finishing ys ≡ item ∷ rest → finishing (changed_at e item.id.0 ys) ≡ rest) → (test : Bool) → is_finishing y.phase ≡ test → finishing (changed_at e item.id.0 (y ∷ ys)) ≡ rest
    by behind true is =
        let same : y ∷ finishing ys ≡ item ∷ rest = sym (ap (λ (b : Bool). cond b (y ∷ finishing ys) (finishing ys)) is) ∙ first in
        let here : y ≡ item = heads y item (finishing ys) rest same in
        ap (λ (b : Bool). finishing (cond b (changed e y ∷ ys) (y ∷ changed_at e item.id.0 ys))) (eq_self y.id.0 item.id.0 (ap (λ (i : Item). i.id.0) here))
        ∙ ap (λ (b : Bool). cond b (changed e y ∷ finishing ys) (finishing ys)) (over y)
        ∙ tails y item (finishing ys) rest same
    by behind false is =
        let later : finishing ys ≡ item ∷ rest = sym (ap (λ (b : Bool). cond b (y ∷ finishing ys) (finishing ys)) is) ∙ first in
        let above = first_low (y.id.0 + 1) next ys item rest numbered.1 later in
        ap (λ (b : Bool). finishing (cond b (changed e y ∷ ys) (y ∷ changed_at e item.id.0 ys))) (eq_less y.id.0 item.id.0 (omega (arith, above)))
        ∙ ap (λ (b : Bool). cond b (y ∷ finishing (changed_at e item.id.0 ys)) (finishing (changed_at e item.id.0 ys))) is
        ∙ behind later

same_some : (a b : Item) → Some a ≡ Some b → a ≡ b
same_some a b same = cc

some_none : (a : Item) → Some a ≡ None → ⊥
some_none a same = absurd cc

-- all but the first
abbrev pub tail_of : List Item → List Item
tail_of [] = []
tail_of (item ∷ rest) = rest

-- What is found as the first is the head.
pub head_of : (items : List Item) (item : Item) → find (λ (i : Item). is_finishing i.phase) items ≡ Some item → finishing items ≡ item ∷ tail_of (finishing items)
head_of [] item found = absurd cc
head_of (y ∷ ys) item found = by (head_of ys item) (is_finishing y.phase) refl
  where
    by : (find (λ (i : Item). is_finishing i.phase) ys ≡ Some item → finishing ys ≡ item ∷ tail_of (finishing ys)) → (test : Bool) → is_finishing y.phase ≡ test → finishing (y ∷ ys) ≡ item ∷ tail_of (finishing (y ∷ ys))
    by behind true is =
        let whole : finishing (y ∷ ys) ≡ y ∷ finishing ys = ap (λ (b : Bool). cond b (y ∷ finishing ys) (finishing ys)) is in
        let here : Some y ≡ Some item = sym (ap (λ (b : Bool). cond b (Some y) (find (λ (i : Item). is_finishing i.phase) ys)) is) ∙ found in
        whole ∙ ap (λ (i : Item). i ∷ finishing ys) (same_some y item here) ∙ sym (ap (λ (l : List Item). item ∷ tail_of l) whole)
    by behind false is =
        let whole : finishing (y ∷ ys) ≡ finishing ys = ap (λ (b : Bool). cond b (y ∷ finishing ys) (finishing ys)) is in
        let later : find (λ (i : Item). is_finishing i.phase) ys ≡ Some item = sym (ap (λ (b : Bool). cond b (Some y) (find (λ (i : Item). is_finishing i.phase) ys)) is) ∙ found in
        whole ∙ behind later ∙ sym (ap (λ (l : List Item). item ∷ tail_of l) whole)

pub none_of : (items : List Item) → find (λ (i : Item). is_finishing i.phase) items ≡ None → finishing items ≡ []
none_of [] none = refl
none_of (y ∷ ys) none = by (none_of ys) (is_finishing y.phase) refl
  where
    by : (find (λ (i : Item). is_finishing i.phase) ys ≡ None → finishing ys ≡ []) → (test : Bool) → is_finishing y.phase ≡ test → finishing (y ∷ ys) ≡ []
    by behind true is = absurd (some_none y (sym (ap (λ (b : Bool). cond b (Some y) (find (λ (i : Item). is_finishing i.phase) ys)) is) ∙ none))
    by behind false is =
        ap (λ (b : Bool). cond b (y ∷ finishing ys) (finishing ys)) is ∙ behind (sym (ap (λ (b : Bool). cond b (Some y) (find (λ (i : Item). is_finishing i.phase) ys)) is) ∙ none)

-- What the entry of a judgement makes of the list.
pub judged_items : (id : ItemId) (at : ℕ) (judged : Judged) (v : Listing) → (applied (entry_of id at judged) v).items ≡ changed_at (entry_of id at judged) id.0 v.items
judged_items id at (judgements.Broken reason) v = refl
judged_items id at (judgements.InPart sum) v = refl
judged_items id at (judgements.Named sum) v = refl

pub judged_over : (id : ItemId) (at : ℕ) (judged : Judged) (item : Item) → is_finishing (changed (entry_of id at judged) item).phase ≡ false
judged_over id at (judgements.Broken reason) item = refl
judged_over id at (judgements.InPart sum) item = refl
judged_over id at (judgements.Named sum) item = refl

pub judged_id : (id : ItemId) (at : ℕ) (judged : Judged) (item : Item) → (changed (entry_of id at judged) item).id.0 ≡ item.id.0
judged_id id at (judgements.Broken reason) item = refl
judged_id id at (judgements.InPart sum) item = refl
judged_id id at (judgements.Named sum) item = refl
