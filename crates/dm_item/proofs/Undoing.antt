-- An entry that is taken back leaves the list as it was.
use Rattle.std.proofs.Common.{◌≡◌, ℕ, zero, suc, ◌-◌, ◌<◌, ◌≤◌, List, [], ◌∷◌, ◌++◌, length, get_or, set, cond, true, false, Bool, ◌==◌, Option, Some, None, IsTrue, refl, ap, sym, subst, ◌∙◌, arith, length-append}
use Rattle.std.specs.List.{position_or_len}
use Rattle.std.proofs.lemmas.Bool.{false≢true}
use Rattle.std.proofs.lemmas.Bool.Decides.{nat_tests}
use Rattle.std.proofs.lemmas.List.{take_at}
use Rattle.std.proofs.lemmas.List.Quantifiers.{position-Some}
use Rattle.std.proofs.lemmas.List.Sums.{fails_before_first}
use Rattle.dm_types.specs.declared.item.Item.{Item}
use Rattle.dm_types.specs.declared.item.ItemId.{ItemId}
use Rattle.dm_types.specs.declared.entry.Entry.{Entry}
use Rattle.dm_types.specs.declared.entry.Entry.TheVariants as entries
use Rattle.dm_item.proofs.Basics.{eq_same}
use Rattle.dm_item.specs.Before.{Earlier, HasTaken, adds_or_changes, earlier_of, items_back, taken_back}
use Rattle.dm_item.specs.Fields.{added_item}
use Rattle.dm_item.specs.Row.{changed}
use Rattle.dm_item.specs.Listing.{Listing, Row, Takes, applied, changed_at, item_in, place_in, put_in}
use Rattle.dm_item.specs.Kept.{IsKept}
use Rattle.dm_item.proofs.Numbers.{changed-id}

-- an item that is found by an id has it
found-here : (id : ℕ) (first : Item) (rest : List Item) (item : Item) (test : Bool) → (first.id.0 == id) ≡ test → (item_in id rest ≡ Some item → item.id.0 ≡ id) → cond test (Some first) (item_in id rest) ≡ Some item → item.id.0 ≡ id
found-here id first rest item true here later found = let same : first ≡ item = cc in ap (λ (i : Item). i.id.0) (sym same) ∙ eq_same first.id.0 id here
found-here id first rest item false here later found = later found

pub found-id : (id : ℕ) (items : List Item) (item : Item) → item_in id items ≡ Some item → item.id.0 ≡ id
found-id id [] item is = absurd (cc)
found-id id (first ∷ rest) item is = found-here id first rest item (first.id.0 == id) refl (found-id id rest item) is

-- the item goes back where the entry changed it
put-here : (e : Entry) (id : ℕ) (first : Item) (rest : List Item) (item : Item) (test : Bool) → (first.id.0 == id) ≡ test → (item_in id rest ≡ Some item → put_in id item (changed_at e id rest) ≡ rest)
    → cond test (Some first) (item_in id rest) ≡ Some item → put_in id item (cond test (changed e first ∷ rest) (first ∷ changed_at e id rest)) ≡ first ∷ rest
put-here e id first rest item true here later found =
    let same : first ≡ item = cc in
    let kept : ((changed e first).id.0 == id) ≡ true = ap (λ (i : ItemId). i.0 == id) (changed-id e first) ∙ here in
    ap (λ (b : Bool). cond b (item ∷ rest) (changed e first ∷ put_in id item rest)) kept ∙ ap (λ (i : Item). i ∷ rest) (sym same)
put-here e id first rest item false here later found =
    ap (λ (b : Bool). cond b (item ∷ changed_at e id rest) (first ∷ put_in id item (changed_at e id rest))) here
    ∙ ap (λ (x : List Item). first ∷ x) (later found)

put-changed : (e : Entry) (id : ℕ) (items : List Item) (item : Item) → item_in id items ≡ Some item → put_in id item (changed_at e id items) ≡ items
put-changed e id [] item is = absurd (cc)
put-changed e id (first ∷ rest) item is = put-here e id first rest item (first.id.0 == id) refl (put-changed e id rest item) is

named-back : (e : Entry) (id : ℕ) (items : List Item) (found : Option Item) → item_in id items ≡ found → Row e items found → items_back found (changed_at e id items) ≡ items
named-back e id items None is row = absurd row
named-back e id items (Some item) is row =
    subst (λ (k : ℕ). put_in k item (changed_at e id items) ≡ items) (sym (found-id id items item is)) (put-changed e id items item is)

-- the last item goes
pushed-back : (items : List Item) (item : Item) → items_back None (items ++ item ∷ []) ≡ items
pushed-back items item = take_at items (item ∷ []) (length (items ++ item ∷ []) - 1) (omega (arith, length-append {A = Item}))

with_items : (v : Listing) (items : List Item) → items ≡ v.items → record v { items = items } ≡ v
with_items v items is = ap (λ (x : List Item). record v { items = x }) is

-- what was kept of a list gives it back
undone : (e : Entry) (v : Listing) → IsTrue (adds_or_changes e) → Takes e v (applied e v) → taken_back (earlier_of e v) (applied e v) ≡ v
undone (entries.Added id word address wish digest at) v one takes = with_items v _ (pushed-back v.items (added_item id word address wish digest at))
undone (entries.Restored item) v one takes = with_items v _ (pushed-back v.items item)
undone (entries.Began id attempt by at) v one takes = with_items v _ (named-back (entries.Began id attempt by at) id.0 v.items (item_in id.0 v.items) refl takes.meets)
undone (entries.Described id key last_address total name modified) v one takes = with_items v _ (named-back (entries.Described id key last_address total name modified) id.0 v.items (item_in id.0 v.items) refl takes.meets)
undone (entries.Progress id slices) v one takes = with_items v _ (named-back (entries.Progress id slices) id.0 v.items (item_in id.0 v.items) refl takes.meets)
undone (entries.Broke id reason) v one takes = with_items v _ (named-back (entries.Broke id reason) id.0 v.items (item_in id.0 v.items) refl takes.meets)
undone (entries.Paused id) v one takes = with_items v _ (named-back (entries.Paused id) id.0 v.items (item_in id.0 v.items) refl takes.meets)
undone (entries.Cancelled id) v one takes = with_items v _ (named-back (entries.Cancelled id) id.0 v.items (item_in id.0 v.items) refl takes.meets)
undone (entries.Restarted id epoch because) v one takes = with_items v _ (named-back (entries.Restarted id epoch because) id.0 v.items (item_in id.0 v.items) refl takes.meets)
undone (entries.Finishing id total) v one takes = with_items v _ (named-back (entries.Finishing id total) id.0 v.items (item_in id.0 v.items) refl takes.meets)
undone (entries.Done id digest at) v one takes = with_items v _ (named-back (entries.Done id digest at) id.0 v.items (item_in id.0 v.items) refl takes.meets)
undone (entries.Asked id) v one takes = with_items v _ (named-back (entries.Asked id) id.0 v.items (item_in id.0 v.items) refl takes.meets)
undone (entries.Removed id) v one takes = absurd (false≢true one)
undone (entries.Archived id) v one takes = absurd (false≢true one)
undone (entries.Reopened next at) v one takes = absurd (false≢true one)

-- an older list is what it was
pub taken-back : (v : Listing) (before : Earlier) (took : HasTaken v before) → taken_back before v ≡ took.older
taken-back v before took =
    let takes : Takes took.entry took.older (applied took.entry took.older) = record { room = took.takes.room; meets = took.takes.meets; value = refl } in
    ap (λ (b : Earlier). taken_back b v) took.was.is ∙ ap (taken_back (earlier_of took.entry took.older)) took.takes.value ∙ undone took.entry took.older took.one_item takes

pub back-kept : (v : Listing) (before : Earlier) (took : HasTaken v before) → IsKept (taken_back before v)
back-kept v before took = subst IsKept (sym (taken-back v before took)) took.was.kept

-- what is written at the place of an id
put-at : (id : ℕ) (items : List Item) (place : ℕ) (new d : Item) → place < length items → ((get_or items place d).id.0 == id) ≡ true → ((k : ℕ) → k < place → ((get_or items k d).id.0 == id) ≡ false) → put_in id new items ≡ set items place new
put-at id [] place new d within here before = absurd (omega arith)
put-at id (first ∷ rest) zero new d within here before = ap (λ (b : Bool). cond b (new ∷ rest) (first ∷ put_in id new rest)) here
put-at id (first ∷ rest) (suc place) new d within here before =
    ap (λ (b : Bool). cond b (new ∷ rest) (first ∷ put_in id new rest)) (before 0 (omega arith))
    ∙ ap (λ (x : List Item). first ∷ x) (put-at id rest place new d (omega arith) here (λ k h. before (suc k) (omega arith)))

pub put-place : (id : ℕ) (items : List Item) (place : ℕ) (new : Item) → place_in id items ≡ Some place → put_in id new items ≡ set items place new
put-place id items place new is = let first = position-Some (λ (item : Item). item.id.0 == id) items place new is in put-at id items place new new first.0 first.1 first.2

-- nothing is written where no item has the id
put-none : (id : ℕ) (items : List Item) (new : Item) → ((k : ℕ) (d : Item) → k < length items → ((get_or items k d).id.0 == id) ≡ false) → put_in id new items ≡ items
put-none id [] new none = refl
put-none id (first ∷ rest) new none =
    ap (λ (b : Bool). cond b (new ∷ rest) (first ∷ put_in id new rest)) (none 0 first (omega arith))
    ∙ ap (λ (x : List Item). first ∷ x) (put-none id rest new (λ k d h. none (suc k) d (omega arith)))

pub put-nowhere : (id : ℕ) (items : List Item) (new : Item) → place_in id items ≡ None → put_in id new items ≡ items
put-nowhere id items new is =
    let past : length items ≤ position_or_len (λ (item : Item). item.id.0 == id) items = grind (arith, nat_tests) in
    put-none id items new (λ k d h. fails_before_first (λ (item : Item). item.id.0 == id) items k d (omega arith))

-- the fields that were put back are the list as it was
pub fields-back : (inside v : Listing) (fields before : Earlier) (items : List Item) → inside ≡ v → fields ≡ before → items ≡ items_back fields.item inside.items
    → record { limit = inside.limit; next = fields.next; is_first = fields.is_first; is_early = fields.is_early; items = items } ≡ taken_back before v
fields-back inside v fields before items same same_before is =
    ap (λ (x : List Item). record { limit = inside.limit; next = fields.next; is_first = fields.is_first; is_early = fields.is_early; items = x }) is
    ∙ ap (λ (b : Earlier). taken_back b inside) same_before ∙ ap (taken_back before) same
