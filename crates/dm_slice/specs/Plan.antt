-- Which parts of a content are asked for next: the holes of a normal cover, cut into parts.
use Rattle.std.specs.Prelude.{◌≡◌, ℕ, zero, suc, ◌+◌, ◌-◌, ◌/◌, ◌<◌, ◌≤◌, ◌==◌, nat_lt, min, max, if◌then◌else◌, List, [], ◌∷◌, ◌++◌, length, map, drop, false, Option, Some, None, ◌^◌, ◌⊎◌}
use Rattle.dm_types.specs.declared.slices.Slice.{Slice}
use Rattle.dm_slice.specs.Words.{end_of, HasByte, IsApart, cover_end}
use Rattle.dm_slice.specs.Cover.{limit_at, next_of, normal_of}
use Rattle.dm_slice.specs.declared.plan.Part.{Part}

-- the places from one up to another
pub record Run : Type 0 where
  pub from : ℕ
  pub to : ℕ

abbrev pub run : ℕ → ℕ → Run
run from to = record { from = from; to = to }

-- where the next slice begins, or the content ends
abbrev pub stop_of : ℕ → List Slice → ℕ
stop_of total [] = total
stop_of total (slice ∷ rest) = slice.first

-- the holes behind slices that rise from 0 on, below the total, in order
abbrev pub holes : ℕ → List Slice → List Run
holes total [] = []
holes total (slice ∷ rest) =
    if nat_lt (end_of slice) (stop_of total rest) then (run (end_of slice) (stop_of total rest) ∷ holes total rest)
    else holes total rest

-- How many parts a hole gets, where `left` parts and room for `room` more slices are left and `behind` holes
-- stand behind it: no part has fewer than `least` bytes, and each hole behind it keeps one, but one is given.
abbrev pub share : ℕ → ℕ → ℕ → ℕ → ℕ → ℕ
share least left room behind size = min (min (max (size / least) 1) (max (left - behind) 1)) (room + 1)

-- so many runs of one size, the last of them up to the end
abbrev pub cuts : ℕ → ℕ → ℕ → ℕ → List Run
cuts zero from size end = []
cuts (suc zero) from size end = run from end ∷ []
cuts (suc (suc k)) from size end = run from (from + size) ∷ cuts (suc k) (from + size) size end

abbrev pub cut_in : ℕ → Run → List Run
cut_in k hole = cuts k hole.from ((hole.to - hole.from) / k) hole.to

-- the parts of each hole that gets some: a hole is cut whole, and the walk ends where no part is left
abbrev pub groups : ℕ → ℕ → ℕ → List Run → List (List Run)
groups least left room [] = []
groups least left room (hole ∷ rest) =
    let k = share least left room (length rest) (hole.to - hole.from) in
    if left == 0 then [] else (cut_in k hole ∷ groups least (left - k) (room + 1 - k) rest)

abbrev pub all_of : List (List Run) → List Run
all_of [] = []
all_of (runs ∷ more) = runs ++ all_of more

-- the runs as parts, numbered from a number on
abbrev pub numbered : ℕ → List Run → List Part
numbered at [] = []
numbered at (r ∷ rest) = record { index = at; first = r.from; end = r.to } ∷ numbered (at + 1) rest

abbrev pub empty_at : Run → Slice
empty_at r = record { first = r.from; got = 0; finished = false }

-- the slices with an empty one for each part that doesn't continue one
abbrev pub opened : List Slice → List (List Run) → List Slice
opened [] runs = []
opened (slice ∷ rest) [] = slice ∷ rest
opened (slice ∷ rest) (runs ∷ more) = slice ∷ (map empty_at (drop 1 runs) ++ opened rest more)

-- the groups of a normal cover
abbrev pub groups_of : List Slice → ℕ → ℕ → ℕ → List (List Run)
groups_of cover total n least = groups least n (64 - length cover) (holes total cover)

-- The plan of a normal cover. Each hole of it stands behind a slice, and the first part of a hole continues
-- that slice: so a part's index in the list is its number in the plan.
abbrev pub plan_of : List Slice → ℕ → ℕ → ℕ → List Part
plan_of cover total n least = numbered 0 (all_of (groups_of cover total n least))

abbrev pub opened_of : List Slice → ℕ → ℕ → ℕ → List Slice
opened_of cover total n least = opened cover (groups_of cover total n least)

-- the plan of a cover, and the cover behind it
pub record IsPlanned (total n least : ℕ) (old new : List Slice) (plan : List Part) : Type 0 where
  pub parts : plan ≡ plan_of (normal_of (Some total) old) total n least
  pub slices : new ≡ opened_of (normal_of (Some total) old) total n least

-- Where the total isn't known: one part, which continues the last slice up to the end of the greatest content; none where it ends there.
abbrev pub open_part : List Slice → List Part
open_part cover =
    if nat_lt (cover_end cover) (2 ^ 40) then (record { index = length cover - 1; first = cover_end cover; end = 2 ^ 40 } ∷ []) else []

-- the plan of a cover whose total isn't known, and the cover behind it
pub record IsPlannedOpen (old new : List Slice) (plan : List Part) : Type 0 where
  pub slices : new ≡ normal_of None old
  pub parts : plan ≡ open_part new

-- the parts of a round, and the cover behind its plan
abbrev pub parts_by : Option ℕ → ℕ → ℕ → List Slice → List Part
parts_by None n least cover = open_part (normal_of None cover)
parts_by (Some total) n least cover = plan_of (normal_of (Some total) cover) total n least

abbrev pub opened_by : Option ℕ → ℕ → ℕ → List Slice → List Slice
opened_by None n least cover = normal_of None cover
opened_by (Some total) n least cover = opened_of (normal_of (Some total) cover) total n least

-- how many holes a cover has below the total
abbrev pub gaps : ℕ → List Slice → ℕ
gaps total cover = length (holes total (normal_of (Some total) cover))

-- the place lies in one of the runs
abbrev pub InRuns : List Run → ℕ → Type 0
InRuns [] place = ⊥
InRuns (r ∷ rest) place = ((r.from ≤ place) × (place < r.to)) ⊎ InRuns rest place

-- the place lies in one of the parts
abbrev pub InParts : List Part → ℕ → Type 0
InParts [] place = ⊥
InParts (part ∷ rest) place = ((part.first ≤ place) × (place < part.end)) ⊎ InParts rest place

-- each part has places, and begins at or behind the end of the one before; the first at or behind this place, and none ends above the bound
abbrev pub AreDisjoint : ℕ → ℕ → List Part → Type 0
AreDisjoint from bound [] = Unit {0}
AreDisjoint from bound (part ∷ rest) = (from ≤ part.first) × (part.first < part.end) × (part.end ≤ bound) × AreDisjoint part.end bound rest

-- no place that isn't there lies between two places
abbrev pub NoByteBetween : List Slice → ℕ → ℕ → Type 0
NoByteBetween slices low high = (place : ℕ) → low ≤ place → place ≤ high → ¬ HasByte slices place

-- What a plan promises of a cover.
pub record FillsHoles (total : ℕ) (cover : List Slice) (parts : List Part) : Type 0 where
  -- the parts are disjoint, rise, and lie below the total
  pub disjoint : AreDisjoint 0 total parts
  -- they hold no byte that is there
  pub missing : (place : ℕ) → InParts parts place → ¬ HasByte cover place
  -- the hole of each of their places is planned whole, upwards and downwards
  pub upward : (place further : ℕ) → InParts parts place → place ≤ further → further < total → NoByteBetween cover place further → InParts parts further
  pub downward : (place further : ℕ) → InParts parts place → further ≤ place → NoByteBetween cover further place → InParts parts further

-- Each part begins where the slice with its index ends, and ends where the next slice begins or before: so the
-- slice can grow up to its end.
abbrev pub AreAtSlices : List Slice → List Part → Type 0
AreAtSlices slices [] = Unit {0}
AreAtSlices slices (part ∷ rest) = (next_of slices part.index ≡ Some part.first) × (part.end ≤ limit_at slices part.index) × AreAtSlices slices rest

-- a normal list from some slice on
abbrev pub IsChain : List Slice → Type 0
IsChain [] = Unit {0}
IsChain (slice ∷ rest) = IsApart (end_of slice) rest

-- what a walk over slices adds to both lists
pub record Walked (total least left room : ℕ) (slices : List Slice) (slices_old slices_new : List Slice) (parts_old parts_new : List Part) : Type 0 where
  pub slices_are : slices_new ≡ slices_old ++ opened slices (groups least left room (holes total slices))
  pub parts_are : parts_new ≡ parts_old ++ numbered (length parts_old) (all_of (groups least left room (holes total slices)))

-- what cutting one hole adds to both lists
pub record Cut (k from size end : ℕ) (slices_old slices_new : List Slice) (parts_old parts_new : List Part) : Type 0 where
  pub slices_are : slices_new ≡ slices_old ++ map empty_at (drop 1 (cuts k from size end))
  pub parts_are : parts_new ≡ parts_old ++ numbered (length parts_old) (cuts k from size end)
  pub count : length parts_new ≡ length parts_old + k

-- a hole behind a slice, and the parts that it gets
pub record FilledHole (total least left room : ℕ) (slice : Slice) (rest slices_old slices_new : List Slice) (parts_old parts_new : List Part) (k : ℕ) : Type 0 where
  pub some_left : 0 < left
  pub is_hole : end_of slice < stop_of total rest
  pub share_is : k ≡ share least left room (length (holes total rest)) (stop_of total rest - end_of slice)
  pub some : 0 < k
  pub few : k ≤ left
  pub fits : k ≤ room + 1
  pub is_cut : Cut k (end_of slice) ((stop_of total rest - end_of slice) / k) (stop_of total rest) slices_old slices_new parts_old parts_new

-- no part is left, or no hole is there
pub record FilledNone (total left : ℕ) (slice : Slice) (rest slices_old slices_new : List Slice) (parts_old parts_new : List Part) : Type 0 where
  pub none : (left ≡ 0) ⊎ (stop_of total rest ≤ end_of slice)
  pub slices_are : slices_new ≡ slices_old
  pub parts_are : parts_new ≡ parts_old

abbrev pub Filled : ℕ → ℕ → ℕ → ℕ → Slice → List Slice → List Slice → List Slice → List Part → List Part → ℕ → Type 0
Filled total least left room slice rest slices_old slices_new parts_old parts_new zero = FilledNone total left slice rest slices_old slices_new parts_old parts_new
Filled total least left room slice rest slices_old slices_new parts_old parts_new (suc k) = FilledHole total least left room slice rest slices_old slices_new parts_old parts_new (suc k)
