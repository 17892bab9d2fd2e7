-- Lemmas on the place of an item in a list: what is found, changed and taken out there.
use Rattle.std.proofs.Common.{◌≡◌, ℕ, zero, suc, ◌<◌, ◌≤◌, List, [], ◌∷◌, length, get_or, set, cond, true, false, Bool, ◌==◌, Option, Some, None, IsTrue, refl, ap, sym, subst, ◌∙◌, arith}
use Rattle.std.specs.Prelude.{if◌then◌else◌, remove, option_and_then}
use Rattle.std.specs.List.{position_or_len}
use Rattle.std.proofs.lemmas.Bool.Decides.{nat_tests}
use Rattle.std.proofs.lemmas.List.Quantifiers.{position-Some}
use Rattle.std.proofs.lemmas.List.Sums.{fails_before_first}
use Rattle.dm_types.specs.declared.item.Item.{Item}
use Rattle.dm_types.specs.declared.item.ItemId.{ItemId}
use Rattle.dm_types.specs.declared.entry.Entry.{Entry}
use Rattle.dm_item.specs.declared.fault.ApplyFault.{ApplyFault}
use Rattle.dm_item.specs.declared.fault.ApplyFault.TheVariants.{NoItem, WrongPhase, Full, Unlawful, NoMemory}
use Rattle.dm_item.specs.Fields.{is_gone}
use Rattle.dm_item.specs.Row.{Further, allows, changed, target_of}
use Rattle.dm_item.specs.Listing.{IsRowAt, TargetTakes, RowAt, changed_at, item_in, target_in, place_in, without}
use Rattle.dm_item.specs.Declines.{TargetDeclines, RowDeclines}

abbrev has : ℕ → Item → Bool
has id item = item.id.0 == id

-- all that holds at the first place of an id
record FirstAt (id : ℕ) (items : List Item) (place : ℕ) (item : Item) : Type 0 where
  within : place < length items
  found : item_in id items ≡ Some item
  written : (e : Entry) → changed_at e id items ≡ set items place (changed e item)
  removed : without id items ≡ remove items place

first_at : (id : ℕ) (items : List Item) (place : ℕ) (d : Item) → place < length items → has id (get_or items place d) ≡ true → ((k : ℕ) → k < place → has id (get_or items k d) ≡ false) → FirstAt id items place (get_or items place d)
first_at id [] place d within here before = absurd (omega arith)
first_at id (item ∷ rest) zero d within here before =
    record {
      within = within;
      found = ap (λ (b : Bool). cond b (Some item) (item_in id rest)) here;
      written = λ e. ap (λ (b : Bool). cond b (changed e item ∷ rest) (item ∷ changed_at e id rest)) here;
      removed = ap (λ (b : Bool). cond b rest (item ∷ without id rest)) here;
    }
first_at id (item ∷ rest) (suc place) d within here before =
    let later = first_at id rest place d (omega arith) here (λ k h. before (suc k) (omega arith)) in
    let other : has id item ≡ false = before 0 (omega arith) in
    record {
      within = within;
      found = ap (λ (b : Bool). cond b (Some item) (item_in id rest)) other ∙ later.found;
      written = λ e. ap (λ (b : Bool). cond b (changed e item ∷ rest) (item ∷ changed_at e id rest)) other ∙ ap (λ (x : List Item). item ∷ x) (later.written e);
      removed = ap (λ (b : Bool). cond b rest (item ∷ without id rest)) other ∙ ap (λ (x : List Item). item ∷ x) later.removed;
    }

place_first : (id : ℕ) (items : List Item) (place : ℕ) (d : Item) → place_in id items ≡ Some place → FirstAt id items place (get_or items place d)
place_first id items place d is = let first = position-Some (has id) items place d is in first_at id items place d first.0 first.1 first.2

-- no place is told where no item has the id
none_has : (id : ℕ) (items : List Item) → ((k : ℕ) (d : Item) → k < length items → has id (get_or items k d) ≡ false) → item_in id items ≡ None
none_has id [] none = refl
none_has id (item ∷ rest) none =
    ap (λ (b : Bool). cond b (Some item) (item_in id rest)) (none 0 item (omega arith)) ∙ none_has id rest (λ k d h. none (suc k) d (omega arith))

pub place-none : (id : ℕ) (items : List Item) → place_in id items ≡ None → item_in id items ≡ None
place-none id items is =
    let past : length items ≤ position_or_len (has id) items = grind (arith, nat_tests) in
    none_has id items (λ k d h. fails_before_first (has id) items k d (omega arith))

-- a refusal of the row at the place is one of the entry
named_at : (e : Entry) (items : List Item) (id : ItemId) (item : Item) → target_of e ≡ Some id → item_in id.0 items ≡ Some item → target_in e items ≡ Some item
named_at e items id item is found = ap (λ (n : Option ItemId). option_and_then (λ i. item_in i.0 items) n) is ∙ found

pub declines_at : (e : Entry) (items : List Item) (id : ItemId) (place : ℕ) (item : Item) (fault : ApplyFault) → target_of e ≡ Some id → place_in id.0 items ≡ Some place → item ≡ get_or items place item → RowDeclines e items item fault → TargetDeclines e items fault
declines_at e items id place item (NoItem other) is at read why = absurd why
declines_at e items id place item (WrongPhase phase) is at read why =
    let found = (place_first id.0 items place item at).found ∙ ap Some (sym read) in
    rw (named_at e items id item is found) why
declines_at e items id place item (Full count) is at read why = absurd why
declines_at e items id place item (Unlawful kind) is at read why =
    let found = (place_first id.0 items place item at).found ∙ ap Some (sym read) in
    rw (named_at e items id item is found) why
declines_at e items id place item NoMemory is at read why = absurd why

-- what is written or taken out at the place is what the entry says
pub takes_at : (e : Entry) (items new : List Item) (id : ItemId) (place : ℕ) (item : Item) → target_of e ≡ Some id → place_in id.0 items ≡ Some place → item ≡ get_or items place item →
    IsTrue (allows e item.phase) → Further e items item →
    new ≡ (if is_gone e then remove items place else set items place (changed e item)) → TargetTakes e items new
takes_at e items new id place item is at read phase further value =
    let first : FirstAt id.0 items place item = subst (FirstAt id.0 items place) (sym read) (place_first id.0 items place item at) in
    record {
      row = rw (is, first.found) (phase, further);
      value = value ∙ rw (is, first.written e, first.removed) refl;
    }

-- the row at a place is the one of the item that the entry names
pub row_met : (e : Entry) (items : List Item) (place : ℕ) → IsRowAt e items place → RowAt e items (target_of e)
row_met e items place row =
    let first : FirstAt row.id.0 items place row.item = subst (FirstAt row.id.0 items place) (sym row.is) (place_first row.id.0 items place row.item row.at) in
    rw (row.named, first.found) (row.phase, row.further)

pub takes_row : (e : Entry) (items new : List Item) (place : ℕ) (row : IsRowAt e items place) → new ≡ (if is_gone e then remove items place else set items place (changed e (get_or items place row.item))) → TargetTakes e items new
takes_row e items new place row value =
    takes_at e items new row.id place row.item row.named row.at row.is row.phase row.further
    (value ∙ ap (λ (i : Item). if is_gone e then remove items place else set items place (changed e i)) (sym row.is))
