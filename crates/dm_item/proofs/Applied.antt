-- Which item has an id in a list behind one more entry.
use Rattle.std.proofs.Common.{◌≡◌, ◌≢◌, ℕ, ◌+◌, ◌<◌, ◌≤◌, List, [], ◌∷◌, ◌++◌, map, cond, true, false, Bool, ◌==◌, Option, Some, None, refl, ap, sym, subst, ◌∙◌, arith}
use Rattle.std.specs.Prelude.{option_and_then}
use Rattle.std.proofs.lemmas.Bool.{false≢true}
use Rattle.dm_types.specs.declared.item.Item.{Item}
use Rattle.dm_types.specs.declared.item.ItemId.{ItemId}
use Rattle.dm_types.specs.declared.entry.Entry.{Entry}
use Rattle.dm_types.specs.declared.entry.Entry.TheVariants as entries
use Rattle.dm_item.proofs.Basics.{eq_false, eq_other, eq_same, first_none}
use Rattle.dm_item.specs.History.{first_some, map_some}
use Rattle.dm_item.specs.Fields.{added_item, id_of, is_for, is_gone}
use Rattle.dm_item.specs.Row.{changed, stopped_item}
use Rattle.dm_item.specs.Restored.{IsAbove}
use Rattle.dm_item.specs.Listing.{Listing, Meets, applied, changed_at, item_in, items_after, without}
use Rattle.dm_item.specs.Kept.{IsNumbered}
use Rattle.dm_item.proofs.Below.{effect, in-append}
use Rattle.dm_item.proofs.Numbers.{changed-id, numbered-count}

first_same : (found other : Option Item) → found ≡ None → first_some found other ≡ other
first_same found other none = ap (λ (x : Option Item). first_some x other) none

-- no item has an id outside the numbers of a list
absent_low : (k low : ℕ) (items : List Item) (next : ℕ) → k < low → IsNumbered low items next → item_in k items ≡ None
absent_low k low [] next below numbered = refl
absent_low k low (item ∷ rest) next below numbered =
    let own = numbered.0 in
    ap (λ (b : Bool). cond b (Some item) (item_in k rest)) (eq_false item.id.0 k (λ (same : item.id.0 ≡ k). omega arith))
    ∙ absent_low k (item.id.0 + 1) rest next (omega arith) numbered.1

absent_high : (k low : ℕ) (items : List Item) (next : ℕ) → next ≤ k → IsNumbered low items next → item_in k items ≡ None
absent_high k low [] next past numbered = refl
absent_high k low (item ∷ rest) next past numbered =
    let later = numbered-count (item.id.0 + 1) rest next numbered.1 in
    ap (λ (b : Bool). cond b (Some item) (item_in k rest)) (eq_false item.id.0 k (λ (same : item.id.0 ≡ k). omega arith))
    ∙ absent_high k (item.id.0 + 1) rest next past numbered.1

absent_above : (k : ℕ) (items : List Item) → IsAbove k items → item_in k items ≡ None
absent_above k [] above = refl
absent_above k (item ∷ rest) above =
    let own = above.0 in
    ap (λ (b : Bool). cond b (Some item) (item_in k rest)) (eq_false item.id.0 k (λ (same : item.id.0 ≡ k). omega arith)) ∙ absent_above k rest above.1

-- the item that is changed
changed_test : (e : Entry) (k : ℕ) (item : Item) (rest : List Item) (test : Bool) → (item.id.0 == k) ≡ test → item_in k (changed_at e k rest) ≡ map_some (changed e) (item_in k rest)
    → item_in k (cond test (changed e item ∷ rest) (item ∷ changed_at e k rest)) ≡ map_some (changed e) (cond test (Some item) (item_in k rest))
changed_test e k item rest true is older =
    ap (λ (b : Bool). cond b (Some (changed e item)) (item_in k rest)) (ap (λ (i : ItemId). i.0 == k) (changed-id e item) ∙ is)
changed_test e k item rest false is older =
    ap (λ (b : Bool). cond b (Some item) (item_in k (changed_at e k rest))) is ∙ older

in_changed : (e : Entry) (k : ℕ) (items : List Item) → item_in k (changed_at e k items) ≡ map_some (changed e) (item_in k items)
in_changed e k [] = refl
in_changed e k (item ∷ rest) = changed_test e k item rest (item.id.0 == k) refl (in_changed e k rest)

without_test : (k low : ℕ) (item : Item) (rest : List Item) (next : ℕ) (test : Bool) → (item.id.0 == k) ≡ test → IsNumbered low (item ∷ rest) next → item_in k (without k rest) ≡ None
    → item_in k (cond test rest (item ∷ without k rest)) ≡ None
without_test k low item rest next true is numbered older =
    let same = eq_same item.id.0 k is in absent_low k (item.id.0 + 1) rest next (omega arith) numbered.1
without_test k low item rest next false is numbered older =
    ap (λ (b : Bool). cond b (Some item) (item_in k (without k rest))) is ∙ older

in_without : (k low : ℕ) (items : List Item) (next : ℕ) → IsNumbered low items next → item_in k (without k items) ≡ None
in_without k low [] next numbered = refl
in_without k low (item ∷ rest) next numbered =
    without_test k low item rest next (item.id.0 == k) refl numbered (in_without k (item.id.0 + 1) rest next numbered.1)

gone_none : (e : Entry) (found : Option Item) (gone : Bool) → gone ≡ true → option_and_then (λ (item : Item). cond gone None (Some (changed e item))) found ≡ None
gone_none e None gone is = refl
gone_none e (Some item) gone is = ap (λ (b : Bool). cond b None (Some (changed e item))) is

stays_some : (e : Entry) (found : Option Item) (gone : Bool) → gone ≡ false → option_and_then (λ (item : Item). cond gone None (Some (changed e item))) found ≡ map_some (changed e) found
stays_some e None gone is = refl
stays_some e (Some item) gone is = ap (λ (b : Bool). cond b None (Some (changed e item))) is

in_after_test : (e : Entry) (k : ℕ) (items : List Item) (next : ℕ) (gone : Bool) → is_gone e ≡ gone → IsNumbered 1 items next
    → item_in k (cond gone (without k items) (changed_at e k items)) ≡ option_and_then (effect e) (item_in k items)
in_after_test e k items next true is numbered = in_without k 1 items next numbered ∙ sym (gone_none e (item_in k items) (is_gone e) is)
in_after_test e k items next false is numbered = in_changed e k items ∙ sym (stays_some e (item_in k items) (is_gone e) is)

in_after : (e : Entry) (id : ItemId) (k : ℕ) (items : List Item) (next : ℕ) → (id.0 == k) ≡ true → IsNumbered 1 items next → item_in k (items_after e (Some id) items) ≡ option_and_then (effect e) (item_in k items)
in_after e id k items next is numbered =
    subst (λ (n : ℕ). item_in n (items_after e (Some id) items) ≡ option_and_then (effect e) (item_in n items)) (eq_same id.0 k is) (in_after_test e id.0 items next (is_gone e) refl numbered)

-- the other items
changed_other : (e : Entry) (id k : ℕ) (item : Item) (rest : List Item) (test : Bool) → (item.id.0 == id) ≡ test → id ≢ k → item_in k (changed_at e id rest) ≡ item_in k rest
    → item_in k (cond test (changed e item ∷ rest) (item ∷ changed_at e id rest)) ≡ cond (item.id.0 == k) (Some item) (item_in k rest)
changed_other e id k item rest true is other older =
    let same = eq_same item.id.0 id is in
    let not_k : (item.id.0 == k) ≡ false = eq_false item.id.0 k (λ (here : item.id.0 ≡ k). other (sym same ∙ here)) in
    ap (λ (b : Bool). cond b (Some (changed e item)) (item_in k rest)) (ap (λ (i : ItemId). i.0 == k) (changed-id e item) ∙ not_k)
    ∙ sym (ap (λ (b : Bool). cond b (Some item) (item_in k rest)) not_k)
changed_other e id k item rest false is other older = ap (λ (x : Option Item). cond (item.id.0 == k) (Some item) x) older

beside_changed : (e : Entry) (id k : ℕ) (items : List Item) → id ≢ k → item_in k (changed_at e id items) ≡ item_in k items
beside_changed e id k [] other = refl
beside_changed e id k (item ∷ rest) other = changed_other e id k item rest (item.id.0 == id) refl other (beside_changed e id k rest other)

without_other : (id k : ℕ) (item : Item) (rest : List Item) (test : Bool) → (item.id.0 == id) ≡ test → id ≢ k → item_in k (without id rest) ≡ item_in k rest
    → item_in k (cond test rest (item ∷ without id rest)) ≡ cond (item.id.0 == k) (Some item) (item_in k rest)
without_other id k item rest true is other older =
    let same = eq_same item.id.0 id is in
    sym (ap (λ (b : Bool). cond b (Some item) (item_in k rest)) (eq_false item.id.0 k (λ (here : item.id.0 ≡ k). other (sym same ∙ here))))
without_other id k item rest false is other older = ap (λ (x : Option Item). cond (item.id.0 == k) (Some item) x) older

beside_without : (id k : ℕ) (items : List Item) → id ≢ k → item_in k (without id items) ≡ item_in k items
beside_without id k [] other = refl
beside_without id k (item ∷ rest) other = without_other id k item rest (item.id.0 == id) refl other (beside_without id k rest other)

beside_after : (e : Entry) (id : ItemId) (k : ℕ) (items : List Item) → (id.0 == k) ≡ false → item_in k (items_after e (Some id) items) ≡ item_in k items
beside_after e id k items is =
    elim (is_gone e) as (λ (b : Bool). item_in k (cond b (without id.0 items) (changed_at e id.0 items)) ≡ item_in k items) [
      | true ↦ beside_without id.0 k items (eq_other id.0 k is)
      | false ↦ beside_changed e id.0 k items (eq_other id.0 k is)
    ]

-- one more item at the end
in_pushed : (k : ℕ) (items : List Item) (new : Item) → item_in k items ≡ None → (new.id.0 == k) ≡ true → item_in k (items ++ new ∷ []) ≡ Some new
in_pushed k items new none is =
    in-append k items (new ∷ []) ∙ first_same (item_in k items) (item_in k (new ∷ [])) none ∙ ap (λ (b : Bool). cond b (Some new) None) is

beside_pushed : (k : ℕ) (items : List Item) (new : Item) → (new.id.0 == k) ≡ false → item_in k (items ++ new ∷ []) ≡ item_in k items
beside_pushed k items new is =
    in-append k items (new ∷ []) ∙ ap (λ (b : Bool). first_some (item_in k items) (cond b (Some new) None)) is ∙ first_none (item_in k items)

in_stopped : (k : ℕ) (items : List Item) → item_in k (map stopped_item items) ≡ map_some stopped_item (item_in k items)
in_stopped k [] = refl
in_stopped k (item ∷ rest) =
    elim (item.id.0 == k) as (λ (b : Bool). cond b (Some (stopped_item item)) (item_in k (map stopped_item rest)) ≡ map_some stopped_item (cond b (Some item) (item_in k rest))) [
      | true ↦ refl
      | false ↦ in_stopped k rest
    ]

-- what an entry makes of the item of an id that it speaks of; a Reopened speaks of each
abbrev pub item_after : Entry → Option Item → Option Item
item_after (entries.Added id word address wish digest at) found = Some (added_item id word address wish digest at)
item_after (entries.Restored item) found = Some item
item_after (entries.Reopened next at) found = map_some stopped_item found
item_after e found = option_and_then (effect e) found

-- the item of the id that the entry names
pub item_applied : (e : Entry) (v : Listing) (k : ℕ) → IsNumbered 1 v.items v.next → Meets v e → is_for k (id_of e) ≡ true → item_in k (applied e v).items ≡ item_after e (item_in k v.items)
item_applied (entries.Added id word address wish digest at) v k numbered meets is =
    let same = eq_same id.0 k is in let at_next = meets.0 in
    in_pushed k v.items (added_item id word address wish digest at) (absent_high k 1 v.items v.next (omega arith) numbered) is
item_applied (entries.Restored item) v k numbered meets is =
    in_pushed k v.items item (subst (λ (n : ℕ). item_in n v.items ≡ None) (eq_same item.id.0 k is) (absent_above item.id.0 v.items meets.above)) is
item_applied (entries.Reopened next at) v k numbered meets is = in_stopped k v.items
item_applied (entries.Began id attempt by at) v k numbered meets is = in_after (entries.Began id attempt by at) id k v.items v.next is numbered
item_applied (entries.Described id key last_address total name modified) v k numbered meets is = in_after (entries.Described id key last_address total name modified) id k v.items v.next is numbered
item_applied (entries.Progress id slices) v k numbered meets is = in_after (entries.Progress id slices) id k v.items v.next is numbered
item_applied (entries.Broke id reason) v k numbered meets is = in_after (entries.Broke id reason) id k v.items v.next is numbered
item_applied (entries.Paused id) v k numbered meets is = in_after (entries.Paused id) id k v.items v.next is numbered
item_applied (entries.Cancelled id) v k numbered meets is = in_after (entries.Cancelled id) id k v.items v.next is numbered
item_applied (entries.Restarted id epoch because) v k numbered meets is = in_after (entries.Restarted id epoch because) id k v.items v.next is numbered
item_applied (entries.Finishing id total) v k numbered meets is = in_after (entries.Finishing id total) id k v.items v.next is numbered
item_applied (entries.Done id digest at) v k numbered meets is = in_after (entries.Done id digest at) id k v.items v.next is numbered
item_applied (entries.Removed id) v k numbered meets is = in_after (entries.Removed id) id k v.items v.next is numbered
item_applied (entries.Archived id) v k numbered meets is = in_after (entries.Archived id) id k v.items v.next is numbered
item_applied (entries.Asked id) v k numbered meets is = in_after (entries.Asked id) id k v.items v.next is numbered

-- the items of all other ids
pub item_beside : (e : Entry) (v : Listing) (k : ℕ) → is_for k (id_of e) ≡ false → item_in k (applied e v).items ≡ item_in k v.items
item_beside (entries.Added id word address wish digest at) v k is = beside_pushed k v.items (added_item id word address wish digest at) is
item_beside (entries.Restored item) v k is = beside_pushed k v.items item is
item_beside (entries.Reopened next at) v k is = absurd (false≢true (sym is))
item_beside (entries.Began id attempt by at) v k is = beside_after (entries.Began id attempt by at) id k v.items is
item_beside (entries.Described id key last_address total name modified) v k is = beside_after (entries.Described id key last_address total name modified) id k v.items is
item_beside (entries.Progress id slices) v k is = beside_after (entries.Progress id slices) id k v.items is
item_beside (entries.Broke id reason) v k is = beside_after (entries.Broke id reason) id k v.items is
item_beside (entries.Paused id) v k is = beside_after (entries.Paused id) id k v.items is
item_beside (entries.Cancelled id) v k is = beside_after (entries.Cancelled id) id k v.items is
item_beside (entries.Restarted id epoch because) v k is = beside_after (entries.Restarted id epoch because) id k v.items is
item_beside (entries.Finishing id total) v k is = beside_after (entries.Finishing id total) id k v.items is
item_beside (entries.Done id digest at) v k is = beside_after (entries.Done id digest at) id k v.items is
item_beside (entries.Removed id) v k is = beside_after (entries.Removed id) id k v.items is
item_beside (entries.Archived id) v k is = beside_after (entries.Archived id) id k v.items is
item_beside (entries.Asked id) v k is = beside_after (entries.Asked id) id k v.items is
