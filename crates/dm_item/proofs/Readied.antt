-- What was made ready for an entry is what the entry makes of the list.
use Rattle.std.proofs.Common.{◌≡◌, ℕ, List, [], ◌∷◌, cond, true, false, Bool, ◌==◌, Option, Some, None, IsTrue, refl, ap, sym, ◌∙◌}
use Rattle.std.specs.Prelude.{option_map}
use Rattle.std.proofs.lemmas.Bool.{false≢true}
use Rattle.dm_types.specs.declared.item.Item.{Item}
use Rattle.dm_types.specs.declared.item.ItemId.{ItemId}
use Rattle.dm_types.specs.declared.entry.Entry.{Entry}
use Rattle.dm_types.specs.declared.entry.Entry.TheVariants as entries
use Rattle.dm_item.proofs.Basics.{none_some, some_same}
use Rattle.dm_item.specs.Row.{changed}
use Rattle.dm_item.specs.Listing.{Listing, Meets, Row, Takes, changed_at, is_light, item_in, put_in}
use Rattle.dm_item.specs.Ready.{IsReady, adds_item}
use Rattle.dm_item.proofs.Numbers.{changed-id}
use Rattle.dm_item.proofs.Undoing.{found-id}

-- changing an item in its place is putting the changed one there
changed_put_at : (e : Entry) (id : ℕ) (first : Item) (rest : List Item) (item : Item) (test : Bool) → (item_in id rest ≡ Some item → changed_at e id rest ≡ put_in id (changed e item) rest)
    → cond test (Some first) (item_in id rest) ≡ Some item → cond test (changed e first ∷ rest) (first ∷ changed_at e id rest) ≡ cond test (changed e item ∷ rest) (first ∷ put_in id (changed e item) rest)
changed_put_at e id first rest item true later found = ap (λ (i : Item). changed e i ∷ rest) (some_same found)
changed_put_at e id first rest item false later found = ap (λ (x : List Item). first ∷ x) (later found)

pub changed_put : (e : Entry) (id : ℕ) (items : List Item) (item : Item) → item_in id items ≡ Some item → changed_at e id items ≡ put_in id (changed e item) items
changed_put e id [] item is = absurd (none_some is)
changed_put e id (first ∷ rest) item is = changed_put_at e id first rest item (first.id.0 == id) (changed_put e id rest item) is

put_target : (e : Entry) (id : ItemId) (items : List Item) (found : Option Item) (item : Item) → item_in id.0 items ≡ found → Some item ≡ option_map (changed e) found → changed_at e id.0 items ≡ put_in item.id.0 item items
put_target e id items None item is ready = absurd (none_some (sym ready))
put_target e id items (Some old) item is ready =
    let same : item ≡ changed e old = some_same ready in
    let own : item.id.0 ≡ id.0 = ap (λ (i : Item). i.id.0) same ∙ ap (λ (i : ItemId). i.0) (changed-id e old) ∙ found-id id.0 items old is in
    changed_put e id.0 items old is ∙ ap (λ (i : Item). put_in id.0 i items) (sym same) ∙ ap (λ (k : ℕ). put_in k item items) (sym own)

with_items : (v : Listing) (items other : List Item) → items ≡ other → record v { is_first = false; is_early = false; items = items } ≡ record v { is_first = false; is_early = false; items = other }
with_items v items other same = ap (λ (x : List Item). record v { is_first = false; is_early = false; items = x }) same

-- what was made ready is what the entry says
pub ready_takes : (e : Entry) (v w : Listing) (item : Item) → Meets v e → IsReady v e (Some item) → w ≡ record v { is_first = false; is_early = false; items = put_in item.id.0 item v.items } → Takes e v w
ready_takes (entries.Added id word address wish digest at) v w item meets ready is = absurd (none_some (sym ready))
ready_takes (entries.Began id attempt by at) v w item meets ready is = absurd (none_some (sym ready))
ready_takes (entries.Described id key last_address total name modified) v w item meets ready is = record { room = tt; meets = meets; value = is ∙ with_items v _ _ (sym (put_target (entries.Described id key last_address total name modified) id v.items (item_in id.0 v.items) item refl ready)) }
ready_takes (entries.Progress id slices) v w item meets ready is = record { room = tt; meets = meets; value = is ∙ with_items v _ _ (sym (put_target (entries.Progress id slices) id v.items (item_in id.0 v.items) item refl ready)) }
ready_takes (entries.Broke id reason) v w item meets ready is = absurd (none_some (sym ready))
ready_takes (entries.Paused id) v w item meets ready is = absurd (none_some (sym ready))
ready_takes (entries.Cancelled id) v w item meets ready is = absurd (none_some (sym ready))
ready_takes (entries.Restarted id epoch because) v w item meets ready is = record { room = tt; meets = meets; value = is ∙ with_items v _ _ (sym (put_target (entries.Restarted id epoch because) id v.items (item_in id.0 v.items) item refl ready)) }
ready_takes (entries.Finishing id total) v w item meets ready is = absurd (none_some (sym ready))
ready_takes (entries.Done id digest at) v w item meets ready is = absurd (none_some (sym ready))
ready_takes (entries.Removed id) v w item meets ready is = absurd (none_some (sym ready))
ready_takes (entries.Archived id) v w item meets ready is = absurd (none_some (sym ready))
ready_takes (entries.Asked id) v w item meets ready is = absurd (none_some (sym ready))
ready_takes (entries.Reopened next at) v w item meets ready is = absurd (none_some (sym ready))
ready_takes (entries.Restored other) v w item meets ready is = absurd (none_some (sym ready))

found_some : (e : Entry) (items : List Item) (found : Option Item) → Row e items found → None ≡ option_map (changed e) found → ⊥
found_some e items None row none = row
found_some e items (Some item) row none = none_some none

-- where nothing was made ready, taking the entry wants no memory
pub ready_light : (e : Entry) (v : Listing) → adds_item e ≡ false → Meets v e → IsReady v e None → IsTrue (is_light e)
ready_light (entries.Added id word address wish digest at) v stays meets ready = absurd (false≢true (sym stays))
ready_light (entries.Began id attempt by at) v stays meets ready = refl
ready_light (entries.Described id key last_address total name modified) v stays meets ready = absurd (found_some (entries.Described id key last_address total name modified) v.items (item_in id.0 v.items) meets ready)
ready_light (entries.Progress id slices) v stays meets ready = absurd (found_some (entries.Progress id slices) v.items (item_in id.0 v.items) meets ready)
ready_light (entries.Broke id reason) v stays meets ready = refl
ready_light (entries.Paused id) v stays meets ready = refl
ready_light (entries.Cancelled id) v stays meets ready = refl
ready_light (entries.Restarted id epoch because) v stays meets ready = absurd (found_some (entries.Restarted id epoch because) v.items (item_in id.0 v.items) meets ready)
ready_light (entries.Finishing id total) v stays meets ready = refl
ready_light (entries.Done id digest at) v stays meets ready = refl
ready_light (entries.Removed id) v stays meets ready = refl
ready_light (entries.Archived id) v stays meets ready = refl
ready_light (entries.Asked id) v stays meets ready = refl
ready_light (entries.Reopened next at) v stays meets ready = refl
ready_light (entries.Restored other) v stays meets ready = absurd (false≢true (sym stays))
