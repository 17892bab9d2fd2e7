-- What a list was before it takes an entry, and how the entry is taken back.
use Rattle.std.specs.Prelude.{◌≡◌, ℕ, ◌-◌, Bool, true, false, List, length, take, Option, Some, None, IsTrue}
use Rattle.dm_types.specs.declared.item.Item.{Item}
use Rattle.dm_types.specs.declared.entry.Entry.{Entry}
use Rattle.dm_types.specs.declared.entry.Entry.TheVariants as entries
use Rattle.dm_item.specs.Listing.{Listing, Takes, target_in, put_in}
use Rattle.dm_item.specs.Kept.{IsKept}

-- what a list was, as far as one entry changes it
pub record Earlier : Type 0 where
  -- the id that the next item gets
  pub next : ℕ
  -- no entry was taken
  pub is_first : Bool
  -- only Reopened and Restored entries were taken
  pub is_early : Bool
  -- the item that the entry names, where it names one
  pub item : Option Item

-- the entry adds one item, or changes one that stays in the list
abbrev pub adds_or_changes : Entry → Bool
adds_or_changes (entries.Added id word address wish digest at) = true
adds_or_changes (entries.Began id attempt by at) = true
adds_or_changes (entries.Described id key last_address total name modified) = true
adds_or_changes (entries.Progress id slices) = true
adds_or_changes (entries.Broke id reason) = true
adds_or_changes (entries.Paused id) = true
adds_or_changes (entries.Cancelled id) = true
adds_or_changes (entries.Restarted id epoch because) = true
adds_or_changes (entries.Finishing id total) = true
adds_or_changes (entries.Done id digest at) = true
adds_or_changes (entries.Removed id) = false
adds_or_changes (entries.Archived id) = false
adds_or_changes (entries.Reopened next at) = false
adds_or_changes (entries.Restored item) = true
adds_or_changes (entries.Asked id) = true

-- what an entry will change in the list, as it is now
abbrev pub earlier_of : Entry → Listing → Earlier
earlier_of e v = record { next = v.next; is_first = v.is_first; is_early = v.is_early; item = target_in e v.items }

-- this is what the list was before the entry
pub record IsBefore (v : Listing) (e : Entry) (before : Earlier) : Type 0 where
  pub kept : IsKept v
  pub is : before ≡ earlier_of e v

-- the items with the item that was named as it was, or without the last where none was
abbrev pub items_back : Option Item → List Item → List Item
items_back None items = take (length items - 1) items
items_back (Some item) items = put_in item.id.0 item items

-- the list as it was before
abbrev pub taken_back : Earlier → Listing → Listing
taken_back before v = record {
  limit = v.limit;
  next = before.next;
  is_first = before.is_first;
  is_early = before.is_early;
  items = items_back before.item v.items;
}

-- an older list took an entry and became this one, and this is what the older one was before
pub record HasTaken (v : Listing) (before : Earlier) : Type 0 where
  pub older : Listing
  pub entry : Entry
  pub one_item : IsTrue (adds_or_changes entry)
  pub was : IsBefore older entry before
  pub takes : Takes entry older v
