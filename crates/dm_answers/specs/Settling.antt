-- How an opening settles the items that are being finished.
use Rattle.std.specs.Prelude.{◌≡◌, ℕ, ◌≤◌, Bool, true, false, nat_lt, cond, not, List, [], ◌∷◌, length, take, filter, Option, Some, None, is_some, IfSome, IsSome}
use Rattle.std.specs.Str.{bytes_eq}
use Rattle.sha2.specs.Sha256.{sha256}
use Rattle.dm_types.specs.declared.entry.Entry.{Entry}
use Rattle.dm_types.specs.declared.entry.Entry.TheVariants as entries
use Rattle.dm_types.specs.declared.item.Item.{Item}
use Rattle.dm_types.specs.declared.reason.Reason.{Reason}
use Rattle.dm_types.specs.declared.reason.Reason.TheVariants as reasons
use Rattle.dm_disk_model.specs.declared.place.Place.{Place}
use Rattle.dm_disk_model.specs.Disk.{History as Clock, bytes_at, now}
use Rattle.dm_disk_model.specs.Folder.{names_of}
use Rattle.dm_item.specs.History.{get}
use Rattle.dm_item.specs.Lawful.{History}
use Rattle.dm_item.specs.Row.{is_finishing}
use Rattle.dm_part.specs.Laws.{files_place}
use Rattle.dm_store.specs.Lives.{part_place}

-- the items that are being finished, by rising id
abbrev pub finishing : List Item → List Item
finishing items = filter (λ item. is_finishing item.phase) items

-- the total, and the place of the name: a finishing item has both
abbrev pub whole_of : Item → ℕ
whole_of item = get item.total 0

abbrev pub name_place : Item → Place
name_place item = files_place (get item.name [])

-- another sum than this is stated
abbrev pub is_stated_other : Option (List ℕ) → List ℕ → Bool
is_stated_other None sum = false
is_stated_other (Some stated) sum = not (bytes_eq stated sum)

-- what bytes settle an item to: too short, of another sum than the stated one, or whole
abbrev pub settled_by : Item → ℕ → List ℕ → Entry
settled_by item at bytes =
    cond (nat_lt (length bytes) (whole_of item)) (entries.Broke item.id reasons.FileTooShort)
    (cond (is_stated_other item.digest (sha256 (take (whole_of item) bytes))) (entries.Broke item.id reasons.FileHashMismatch)
    (entries.Done item.id (sha256 (take (whole_of item) bytes)) at))

abbrev pub settled_of : Item → ℕ → Option (List ℕ) → Entry
settled_of item at None = entries.Broke item.id reasons.FileTooShort
settled_of item at (Some bytes) = settled_by item at bytes

-- so it was at some moment from the old history's present on
pub record WasAt (old new : Clock) (place : Place) (P : Option (List ℕ) → Type 0) : Type 0 where
  pub moment : ℕ
  pub from : old.moment ≤ moment
  pub to : moment ≤ new.moment
  pub is : P (bytes_at (new.at moment) place)

-- By what stood at the start, of the part and of the name: both, none, or one whose bytes decide. A part that stood alone stands then.
abbrev pub SettledAs : Clock → Clock → ℕ → Item → Bool → Bool → Entry → Type 0
SettledAs start end at item true true entry = entry ≡ entries.Broke item.id reasons.FileFailed
SettledAs start end at item false false entry = entry ≡ entries.Broke item.id reasons.FileTooShort
SettledAs start end at item true false entry = WasAt start end (part_place item.id.0 item.epoch.0) (λ found. IsSome found × (entry ≡ settled_of item at found))
SettledAs start end at item false true entry = WasAt start end (name_place item) (λ found. entry ≡ settled_of item at found)

abbrev pub stands : Clock → Place → Bool
stands start place = is_some (names_of (now start).files place.name)

-- the reasons with which an opening interrupts
abbrev pub settles_with : Reason → Bool
settles_with reasons.FileFailed = true
settles_with reasons.FileTooShort = true
settles_with reasons.FileHashMismatch = true
settles_with _ = false

-- over every disk: an entry that settles the item
abbrev pub Settles : ℕ → Item → Entry → Type 0
Settles at item (entries.Done id digest moment) = (id ≡ item.id) × (moment ≡ at) × IfSome item.digest (λ stated. stated ≡ digest)
Settles at item (entries.Broke id reason) = (id ≡ item.id) × (settles_with reason ≡ true)
Settles at item _ = ⊥

pub record IsSettling (tells : Type 0) (start end : Clock) (at : ℕ) (item : Item) (entry : Entry) : Type 0 where
  pub settles : Settles at item entry
  pub as_found : tells → SettledAs start end at item (stands start (part_place item.id.0 item.epoch.0)) (stands start (name_place item)) entry

-- the items settled in their order, each by its entry, up to those that are left
abbrev pub AreSettlings : Type 0 → Clock → Clock → ℕ → List Item → History → List Item → Type 0
AreSettlings tells start end at items [] left = left ≡ items
AreSettlings tells start end at [] (entry ∷ more) left = ⊥
AreSettlings tells start end at (item ∷ rest) (entry ∷ more) left = IsSettling tells start end at item entry × AreSettlings tells start end at rest more left

-- each of them was settled as complete
abbrev pub AreDone : History → Type 0
AreDone [] = Unit {0}
AreDone (entries.Done id digest at ∷ more) = AreDone more
AreDone (entry ∷ more) = ⊥
