-- Lawful histories, and the items that they leave. A public history is oldest first.
use Rattle.std.specs.Prelude.{◌≡◌, ℕ, ◌<◌, ◌≤◌, IfSome, Bool, false, true, List, [], ◌∷◌, ◌++◌, map, reverse, take, Option}
use Rattle.dm_types.specs.declared.item.Item.{Item}
use Rattle.dm_types.specs.declared.entry.Entry.{Entry}
use Rattle.dm_types.specs.declared.entry.Entry.TheVariants as entries
use Rattle.dm_item.specs.History.{count_of, since, stands}
use Rattle.dm_item.specs.Fields.{is_began_by_itself, is_began_by_user, is_early, is_empty, is_running, item_at, items_below, next_of, own}
use Rattle.dm_item.specs.Listing.{Listing, Meets}

abbrev pub History : Type 0
History = List Entry

-- the list that a history leaves, newest entry first
abbrev pub left_by : ℕ → List Entry → Listing
left_by limit h = record {
  limit = limit;
  next = next_of h;
  is_first = is_empty h;
  is_early = is_early h;
  items = items_below (item_at h) (next_of h);
}

-- each entry meets its row in the list that those before it leave, newest entry first
abbrev pub IsLawfulBack : List Entry → Type 0
IsLawfulBack [] = Unit {0}
IsLawfulBack (e ∷ older) = Meets (left_by 0 older) e × IsLawfulBack older

abbrev pub IsLawful : History → Type 0
IsLawful history = IsLawfulBack (reverse history)

-- the items of a history, by rising id, and the id that the next item gets
abbrev pub items_of : History → List Item
items_of history = (left_by 0 (reverse history)).items

abbrev pub next_id_of : History → ℕ
next_id_of history = (left_by 0 (reverse history)).next

-- the list is what a lawful history leaves
pub record IsOf (history : History) (v : Listing) : Type 0 where
  pub lawful : IsLawful history
  pub value : v ≡ left_by v.limit (reverse history)

-- a short history of a list: its next id, and its items by rising id
abbrev pub short_history : Listing → ℕ → History
short_history v at = entries.Reopened v.next at ∷ map entries.Restored v.items

-- the new list is what a history of the old one leaves with these entries behind it
abbrev pub KeepsHistory : Listing → Listing → History → Type 0
KeepsHistory old new more = (history : History) → IsOf history old → IsOf (history ++ more) new

-- some of the entries from the front on were taken
pub record TookSome (old new : Listing) (more : History) : Type 0 where
  pub count : ℕ
  pub keeps : KeepsHistory old new (take count more)

-- the short history of a list is lawful, and leaves the same items and the same next id
pub record IsShort (v : Listing) (at : ℕ) : Type 0 where
  pub lawful : IsLawful (short_history v at)
  pub items : items_of (short_history v at) ≡ v.items
  pub next : next_id_of (short_history v at) ≡ v.next

-- Laws of every lawful history.

abbrev pub is_done : Entry → Bool
is_done (entries.Done id digest at) = true
is_done _ = false

-- the item with an id behind a history
abbrev pub item_with : ℕ → History → Option Item
item_with id history = item_at (reverse history) id

-- an id has at most one Done
abbrev pub DoneOnce : History → Type 0
DoneOnce history = (id : ℕ) → count_of is_done (own id (reverse history)) ≤ 1

-- an item that isn't running under an attempt never runs again under it
abbrev pub StaysOver : History → History → Type 0
StaysOver history more = (id : ℕ) → IfSome (item_with id history) (λ item. is_running item.phase ≡ false →
    IfSome (item_with id (history ++ more)) (λ later. is_running later.phase ≡ true → item.attempt.0 < later.attempt.0))

-- at most five attempts by itself stand behind one by the user
abbrev pub AtMostFive : History → Type 0
AtMostFive history = (id : ℕ) → stands is_began_by_user (own id (reverse history)) ≡ true →
    count_of is_began_by_itself (since is_began_by_user (own id (reverse history))) ≤ 5
