-- What holds of each item that a journal's history leaves: its id and its epoch fit 32 bits, and it has 64 slices at most. Names of items differ.
use Rattle.std.proofs.Common.{◌≡◌, ◌≢◌, ◌⊎◌, inl, inr, ℕ, ◌+◌, ◌<◌, ◌≤◌, ◌^◌, Bool, true, false, ◌==◌, cond, List, [], ◌∷◌, ◌++◌, length, map, reverse, Option, Some, None, refl, sym, ◌∙◌, ap, subst, arith, lit<}
use Rattle.std.specs.Prelude.{IfSome}
use Rattle.std.specs.List.{AllByRecursion}
use Rattle.std.proofs.lemmas.List.{reverse-append}
use Rattle.dm_types.specs.declared.entry.Entry.{Entry}
use Rattle.dm_types.specs.declared.entry.Entry.TheVariants as entries
use Rattle.dm_types.specs.declared.item.Item.{Item}
use Rattle.dm_types.specs.declared.item.ItemId.{ItemId}
use Rattle.dm_record.specs.Limits.{IsEntry}
use Rattle.dm_item.specs.Fields.{added_item}
use Rattle.dm_item.specs.Lawful.{History, IsLawful, IsLawfulBack, IsOf, items_of, left_by}
use Rattle.dm_item.specs.Restored.{IsApartFrom}
use Rattle.dm_item.specs.Listing.{Listing, applied, changed_at, item_in, without}
use Rattle.dm_item.specs.Row.{HasNameIn, changed, is_cancelled, stopped_item}
use Rattle.dm_types.specs.Name.{fold_case}
use Rattle.dm_item.proofs.Shorts.{names_apart}
use Rattle.dm_item.proofs.Steps.{left_by_step}
use Rattle.dm_kept.specs.Files.{EachItem, IsSmall}
use Rattle.dm_kept.specs.Spelled.{AllEntries}
use Rattle.dm_kept.proofs.Lists.{some_is}

-- What each new item has, and each entry of a journal keeps.
pub record Steady (P : Item → Type 0) : Type 0 where
  pub of_added : (id : ItemId) (word address wish : List ℕ) (digest : Option (List ℕ)) (at : ℕ) → IsEntry (entries.Added id word address wish digest at) → P (added_item id word address wish digest at)
  pub of_changed : (e : Entry) → IsEntry e → (item : Item) → P item → P (changed e item)
  pub of_stopped : (item : Item) → P item → P (stopped_item item)
  pub of_restored : (item : Item) → IsEntry (entries.Restored item) → P item

entries_both : (a b : List Entry) → AllEntries a → AllEntries b → AllEntries (a ++ b)
entries_both [] b first second = second
entries_both (e ∷ a) b first second = (first.0, entries_both a b first.1 second)

entries_back : (history : History) → AllEntries history → AllEntries (reverse history)
entries_back [] all = tt
entries_back (e ∷ history) all = subst AllEntries (sym (reverse-append (e ∷ []) history)) (entries_both (reverse history) (e ∷ []) (entries_back history all.1) (all.0, tt))

module _ (P : Item → Type 0) (steady : Steady P) where
  abbrev Have : List Item → Type 0
  Have items = AllByRecursion P items

  in_test : (id : ℕ) (x y : Item) (rest : List Item) (test : Bool) → P y → cond test (Some y) (item_in id rest) ≡ Some x → (item_in id rest ≡ Some x → P x) → P x
  in_test id x y rest true has found later = subst P (some_is y x found) has
  in_test id x y rest false has found later = later found

  have_in : (items : List Item) → Have items → EachItem P items
  have_in [] all id x found = absurd cc
  have_in (y ∷ rest) all id x found = in_test id x y rest (y.id.0 == id) all.0 found (have_in rest all.1 id x)

  have_push : (items : List Item) (x : Item) → Have items → P x → Have (items ++ x ∷ [])
  have_push [] x all has = (has, tt)
  have_push (y ∷ rest) x all has = (all.0, have_push rest x all.1 has)

  change_test : (e : Entry) (k : ℕ) (y : Item) (rest : List Item) (test : Bool) → IsEntry e → P y → Have rest → Have (changed_at e k rest) → Have (cond test (changed e y ∷ rest) (y ∷ changed_at e k rest))
  change_test e k y rest true is has all later = (steady.of_changed e is y has, all)
  change_test e k y rest false is has all later = (has, later)

  have_changed : (e : Entry) (k : ℕ) (items : List Item) → IsEntry e → Have items → Have (changed_at e k items)
  have_changed e k [] is all = tt
  have_changed e k (y ∷ rest) is all = change_test e k y rest (y.id.0 == k) is all.0 all.1 (have_changed e k rest is all.1)

  gone_test : (k : ℕ) (y : Item) (rest : List Item) (test : Bool) → P y → Have rest → Have (without k rest) → Have (cond test rest (y ∷ without k rest))
  gone_test k y rest true has all later = all
  gone_test k y rest false has all later = (has, later)

  have_gone : (k : ℕ) (items : List Item) → Have items → Have (without k items)
  have_gone k [] all = tt
  have_gone k (y ∷ rest) all = gone_test k y rest (y.id.0 == k) all.0 all.1 (have_gone k rest all.1)

  have_stopped : (items : List Item) → Have items → Have (map stopped_item items)
  have_stopped [] all = tt
  have_stopped (y ∷ rest) all = (steady.of_stopped y all.0, have_stopped rest all.1)

  -- what each entry makes of a list
  have_applied : (e : Entry) (v : Listing) → IsEntry e → Have v.items → Have (applied e v).items
  have_applied (entries.Added id word address wish digest at) v is all = have_push v.items _ all (steady.of_added id word address wish digest at is)
  have_applied (entries.Began id attempt by at) v is all = have_changed (entries.Began id attempt by at) id.0 v.items is all
  have_applied (entries.Described id key last_address total name modified) v is all = have_changed (entries.Described id key last_address total name modified) id.0 v.items is all
  have_applied (entries.Progress id slices) v is all = have_changed (entries.Progress id slices) id.0 v.items is all
  have_applied (entries.Broke id reason) v is all = have_changed (entries.Broke id reason) id.0 v.items is all
  have_applied (entries.Paused id) v is all = have_changed (entries.Paused id) id.0 v.items is all
  have_applied (entries.Cancelled id) v is all = have_changed (entries.Cancelled id) id.0 v.items is all
  have_applied (entries.Restarted id epoch because) v is all = have_changed (entries.Restarted id epoch because) id.0 v.items is all
  have_applied (entries.Finishing id total) v is all = have_changed (entries.Finishing id total) id.0 v.items is all
  have_applied (entries.Done id digest at) v is all = have_changed (entries.Done id digest at) id.0 v.items is all
  have_applied (entries.Removed id) v is all = have_gone id.0 v.items all
  have_applied (entries.Archived id) v is all = have_gone id.0 v.items all
  have_applied (entries.Reopened next at) v is all = have_stopped v.items all
  have_applied (entries.Restored item) v is all = have_push v.items item all (steady.of_restored item is)
  have_applied (entries.Asked id) v is all = have_changed (entries.Asked id) id.0 v.items is all

  have_back : (older : List Entry) → IsLawfulBack older → AllEntries older → Have (left_by 0 older).items
  have_back [] lawful all = tt
  have_back (e ∷ older) lawful all =
      subst (λ (v : Listing). Have v.items) (sym (left_by_step 0 e older lawful.1 lawful.0)) (have_applied e (left_by 0 older) all.0 (have_back older lawful.1 all.1))

  -- each item of a history of entries with spellings has it
  pub each_of : (history : History) → IsLawful history → AllEntries history → EachItem P (items_of history)
  each_of history lawful all = have_in (items_of history) (have_back (reverse history) lawful (entries_back history all))

-- Ids and epochs.

small_changed : (e : Entry) → IsEntry e → (item : Item) → IsSmall item → IsSmall (changed e item)
small_changed (entries.Added id word address wish digest at) is item small = small
small_changed (entries.Began id attempt by at) is item small = record { id = small.id; epoch = small.epoch }
small_changed (entries.Described id key last_address total name modified) is item small = record { id = small.id; epoch = small.epoch }
small_changed (entries.Progress id slices) is item small = record { id = small.id; epoch = small.epoch }
small_changed (entries.Broke id reason) is item small = record { id = small.id; epoch = small.epoch }
small_changed (entries.Paused id) is item small = record { id = small.id; epoch = small.epoch }
small_changed (entries.Cancelled id) is item small = record { id = small.id; epoch = small.epoch }
small_changed (entries.Restarted id epoch because) is item small = record { id = small.id; epoch = is.1.1 }
small_changed (entries.Finishing id total) is item small = record { id = small.id; epoch = small.epoch }
small_changed (entries.Done id digest at) is item small = record { id = small.id; epoch = small.epoch }
small_changed (entries.Removed id) is item small = small
small_changed (entries.Archived id) is item small = small
small_changed (entries.Reopened next at) is item small = small
small_changed (entries.Restored other) is item small = small
small_changed (entries.Asked id) is item small = record { id = small.id; epoch = small.epoch }

-- Each item of a history of entries with spellings is small.
pub small_items : (history : History) → IsLawful history → AllEntries history → EachItem IsSmall (items_of history)
small_items = each_of IsSmall (record {
  of_added = λ id word address wish digest at is. record { id = is.1.0; epoch = lit< tt };
  of_changed = small_changed;
  of_stopped = λ item small. record { id = small.id; epoch = small.epoch };
  of_restored = λ item is. record { id = is.1.id; epoch = is.1.epoch };
})

-- Slices.

abbrev pub HasFewSlices : Item → Type 0
HasFewSlices item = length item.slices ≤ 64

few_changed : (e : Entry) → IsEntry e → (item : Item) → HasFewSlices item → HasFewSlices (changed e item)
few_changed (entries.Added id word address wish digest at) is item few = few
few_changed (entries.Began id attempt by at) is item few = few
few_changed (entries.Described id key last_address total name modified) is item few = few
few_changed (entries.Progress id slices) is item few = is.0.1
few_changed (entries.Broke id reason) is item few = few
few_changed (entries.Paused id) is item few = few
few_changed (entries.Cancelled id) is item few = few
few_changed (entries.Restarted id epoch because) is item few = omega arith
few_changed (entries.Finishing id total) is item few = few
few_changed (entries.Done id digest at) is item few = few
few_changed (entries.Removed id) is item few = few
few_changed (entries.Archived id) is item few = few
few_changed (entries.Reopened next at) is item few = few
few_changed (entries.Restored other) is item few = few
few_changed (entries.Asked id) is item few = few

-- No item of such a history has more slices than an entry has room for.
pub few_slices : (history : History) → IsLawful history → AllEntries history → EachItem HasFewSlices (items_of history)
few_slices = each_of HasFewSlices (record {
  of_added = λ id word address wish digest at is. omega arith;
  of_changed = few_changed;
  of_stopped = λ item few. few;
  of_restored = λ item is. is.0.slices.1;
})

-- the names of two items differ, where neither is cancelled
abbrev pub NamesDiffer : List Item → Type 0
NamesDiffer items = (id other : ℕ) (a b : Item) (name : List ℕ) → id ≢ other → item_in id items ≡ Some a → item_in other items ≡ Some b → is_cancelled a.phase ≡ false → is_cancelled b.phase ≡ false
    → a.name ≡ Some name → b.name ≡ Some name → ⊥

has_same : (name : List ℕ) (found : Option (List ℕ)) → found ≡ Some name → HasNameIn found name
has_same name None is = absurd cc
has_same name (Some other) is = ap fold_case (sym (some_is other name is))

apart_names : (a b : Item) (name : List ℕ) → IsApartFrom a b → is_cancelled a.phase ≡ false → is_cancelled b.phase ≡ false → a.name ≡ Some name → b.name ≡ Some name → ⊥
apart_names a b name apart going_a going_b is_a is_b =
    let free = subst (λ (n : Option (List ℕ)). IfSome n (λ (m : List ℕ). HasNameIn b.name m → ⊥)) is_a (apart going_a going_b) in
    free (has_same name b.name is_b)

-- so the names of the items of a history do
pub names_differ : (history : History) (v : Listing) → IsOf history v → NamesDiffer v.items
names_differ history v is id other a b name apart is_a is_b = apart_names a b name (names_apart history v id other a b is apart is_a is_b)
