-- The lives of a desk: one for each attempt that runs.
use Rattle.std.specs.Prelude.{◌≡◌, ◌<◌, ◌≤◌, ◌+◌, ◌==◌, ℕ, Bool, true, false, not, cond, List, [], ◌∷◌, ◌++◌, length, Option, Some, None, IfSome, IsTrue, find, filter, position}
use Rattle.std.specs.Option.{option_map}
use Rattle.dm_types.specs.Name.{part_name}
use Rattle.dm_types.specs.declared.entry.Entry.{Entry}
use Rattle.dm_types.specs.declared.entry.Entry.TheVariants as entries
use Rattle.dm_types.specs.declared.item.Item.{Item}
use Rattle.dm_types.specs.declared.slices.Slice.{Slice}
use Rattle.dm_disk_model.specs.declared.place.Place.{Place}
use Rattle.dm_slice.specs.Cover.{IsCover, IsWithinTotal, SamePlaces, limit_at, next_of}
use Rattle.dm_slice.specs.Words.{Holds, covered}
use Rattle.dm_slice.specs.declared.plan.Part.{Part}
use Rattle.dm_item.specs.Fields.{is_running, no_bytes}
use Rattle.dm_item.specs.Listing.{Listing, applied, item_in}
use Rattle.dm_kept.specs.Files.{Covers}
use Rattle.dm_part.specs.Laws.{files_place}
use Rattle.dm_store.specs.declared.life.Life.{Life}

-- where the content of an item comes in an epoch
abbrev pub part_place : ℕ → ℕ → Place
part_place id epoch = files_place (part_name id epoch)

-- the life of an id
abbrev pub life_in : ℕ → List Life → Option Life
life_in id lives = find (λ life. life.id.0 == id) lives

-- where the life of an id stands
abbrev pub place_of : ℕ → List Life → Option ℕ
place_of id lives = position (λ life. life.id.0 == id) lives

-- the lives without those of an id
abbrev pub without_life : ℕ → List Life → List Life
without_life id lives = filter (λ life. not (life.id.0 == id)) lives

-- the lives with that of an id changed
abbrev pub changed_life : ℕ → (Life → Life) → List Life → List Life
changed_life id f [] = []
changed_life id f (life ∷ rest) = cond (life.id.0 == id) (f life ∷ rest) (life ∷ changed_life id f rest)

-- what is live, by id
abbrev pub covers_of : List Life → Covers
covers_of lives id = option_map (λ life. life.cover) (life_in id lives)

-- the life of an attempt that begins: the saved places are live, and nothing was planned
abbrev pub begun_life : Item → Life
begun_life item = record { id = item.id; part = part_place item.id.0 item.epoch.0; cover = item.slices; unsaved = 0; round = 0; plan = [] }

-- the lives with one more, where there is one
abbrev pub with_life : Option Life → List Life → List Life
with_life None lives = lives
with_life (Some life) lives = lives ++ life ∷ []

-- the life of which all that is live was saved
abbrev pub saved_life : Life → Life
saved_life life = record life { unsaved = 0 }

-- What an entry makes of the lives, where the list is this one behind it: an attempt begins, what is live was saved, or an attempt ends.
abbrev pub lives_after : Entry → Listing → List Life → List Life
lives_after (entries.Began id attempt by at) items lives = with_life (option_map begun_life (item_in id.0 items.items)) lives
lives_after (entries.Progress id slices) items lives = changed_life id.0 saved_life lives
lives_after (entries.Broke id reason) items lives = without_life id.0 lives
lives_after (entries.Paused id) items lives = without_life id.0 lives
lives_after (entries.Cancelled id) items lives = without_life id.0 lives
lives_after (entries.Finishing id total) items lives = without_life id.0 lives
lives_after (entries.Removed id) items lives = without_life id.0 lives
lives_after (entries.Archived id) items lives = without_life id.0 lives
lives_after (entries.Reopened next at) items lives = []
lives_after (entries.Added id word address wish digest at) items lives = lives
lives_after (entries.Described id key last_address total name modified) items lives = lives
lives_after (entries.Restarted id epoch because) items lives = lives
lives_after (entries.Done id digest at) items lives = lives
lives_after (entries.Restored item) items lives = lives
lives_after (entries.Asked id) items lives = lives

-- The part of a plan with this number grows this slice of the cover: its next place lies from the part's first to its end, and the slice can grow up to there.
pub record IsPlaced (index : ℕ) (cover : List Slice) (part : Part) : Type 0 where
  pub is : part.index ≡ index
  pub place : ℕ
  pub next : next_of cover index ≡ Some place
  pub from : part.first ≤ place
  pub to : place ≤ part.end
  pub room : part.end ≤ limit_at cover index

abbrev pub ArePlaced : ℕ → List Slice → List Part → Type 0
ArePlaced index cover [] = Unit {0}
ArePlaced index cover (part ∷ rest) = IsPlaced index cover part × ArePlaced (index + 1) cover rest

-- where a total is known no part ends above it
abbrev pub EndWithin : Option ℕ → List Part → Type 0
EndWithin total [] = Unit {0}
EndWithin total (part ∷ rest) = IfSome total (λ t. part.end ≤ t) × EndWithin total rest

-- The life is that of the item's attempt.
pub record IsLifeOf (item : Item) (life : Life) : Type 0 where
  pub runs : IsTrue (is_running item.phase)
  pub part : life.part ≡ part_place item.id.0 item.epoch.0
  pub cover : IsCover life.cover
  pub few : length life.cover ≤ 64
  pub within : IsWithinTotal item.total life.cover
  -- what is live holds what was saved, and has so many bytes more
  pub holds : Holds life.cover item.slices
  pub count : covered life.cover ≡ covered item.slices + life.unsaved
  pub same : life.unsaved ≡ 0 → SamePlaces life.cover item.slices
  -- before the first reply was told nothing is live or planned, and before the first plan there are no parts
  pub untold : item.key ≡ None → (life.cover ≡ no_bytes) × (life.round ≡ 0)
  -- of an unknown total there is one slice
  pub one : item.total ≡ None → length life.cover ≡ 1
  pub fresh : life.round ≡ 0 → life.plan ≡ []
  pub plan : ArePlaced 0 life.cover life.plan
  pub ends : EndWithin item.total life.plan

-- a running item has a life, and no other has any
abbrev pub LifeOf : Option Item → Option Life → Type 0
LifeOf None None = Unit {0}
LifeOf None (Some life) = ⊥
LifeOf (Some item) None = is_running item.phase ≡ false
LifeOf (Some item) (Some life) = IsLifeOf item life

abbrev pub AreLives : List Item → List Life → Type 0
AreLives items lives = (id : ℕ) → LifeOf (item_in id items) (life_in id lives)

-- so it is behind the entry
abbrev pub AreAfter : Entry → Listing → List Life → Type 0
AreAfter entry items lives = AreLives (applied entry items).items (lives_after entry (applied entry items) lives)

-- the entry adds no item and opens no list: it begins, saves or ends the attempt of its item, or leaves every one
abbrev pub is_plain : Entry → Bool
is_plain (entries.Broke id reason) = true
is_plain (entries.Paused id) = true
is_plain (entries.Cancelled id) = true
is_plain (entries.Finishing id total) = true
is_plain (entries.Removed id) = true
is_plain (entries.Archived id) = true
is_plain (entries.Described id key last_address total name modified) = true
is_plain (entries.Restarted id epoch because) = true
is_plain (entries.Done id digest at) = true
is_plain (entries.Asked id) = true
is_plain (entries.Added id word address wish digest at) = false
is_plain (entries.Began id attempt by at) = true
is_plain (entries.Progress id slices) = true
is_plain (entries.Reopened next at) = false
is_plain (entries.Restored item) = false

-- The life that the entry begins, where the list is this one behind it: other entries begin none.
abbrev pub IsLifeFor : Entry → Listing → Option Life → Type 0
IsLifeFor (entries.Began id attempt by at) items life = life ≡ option_map begun_life (item_in id.0 items.items)
IsLifeFor _ items life = Unit {0}

-- no attempt has as many unsaved bytes as this
abbrev pub AreBounded : ℕ → List Life → Type 0
AreBounded bound lives = (id : ℕ) → IfSome (life_in id lives) (λ life. life.unsaved < bound)
