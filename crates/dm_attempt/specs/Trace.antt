-- What one attempt did, as a value: its connections, its parts, what was landed of them, and what was saved.
use Rattle.std.specs.Prelude.{◌≡◌, ◌⊎◌, ℕ, suc, ◌+◌, List, [], ◌∷◌, ◌++◌, length, map, Option, Some, None, IfSome}
use Rattle.dm_types.specs.declared.address.Address.{Address}
use Rattle.dm_types.specs.declared.entry.Entry.{Entry}
use Rattle.dm_types.specs.declared.entry.Entry.TheVariants as entries
use Rattle.dm_types.specs.declared.item.ItemId.{ItemId}
use Rattle.dm_types.specs.declared.item.Key.{Key}
use Rattle.dm_types.specs.declared.slices.Slice.{Slice}
use Rattle.dm_policy.specs.declared.cause.Cause.{Cause}
use Rattle.dm_policy.specs.Cause.{reason_of_cause}
use Rattle.dm_slice.specs.Cover.{normal_of}
use Rattle.dm_slice.specs.Words.{end_of}
use Rattle.dm_slice.specs.Plan.{opened_by, parts_by}
use Rattle.dm_slice.specs.declared.plan.Part.{Part}
use Rattle.dm_edge.specs.Wire.{Closed}
use Rattle.dm_attempt.specs.Shares.{Share, added}
use Rattle.dm_edge.specs.declared.wanted.Wanted.{Wanted}
use Rattle.dm_reply.specs.declared.head.Head.{Head}
use Rattle.dm_attempt.specs.Asking.{Asking}

-- a closed connection, its part, and what it asked for
pub record Carried : Type 0 where
  pub part : Part
  pub wanted : Wanted
  pub connection : Closed

-- a round: how it asks, the live cover at its start, what was landed of its parts in the plan's order, and its connections in the order of closing
pub record Round : Type 0 where
  pub asking : Asking
  pub cover : List Slice
  pub shares : List Share
  pub wires : List Carried

-- what the first reply told, by its head, and the name that the file got
pub record Tale : Type 0 where
  pub head : Head
  pub address : Address
  pub key : Key
  pub total : Option ℕ
  pub name : List ℕ
  pub modified : List ℕ

-- What an attempt did behind its beginning: the connections that led to the content; those that belong to no round; the wish for a name that the first reply
-- gave; what was told; how many parts a round plans; the rounds, the newest first; what was saved, the oldest first.
pub record Trace : Type 0 where
  pub led : List Closed
  pub lost : List Closed
  pub wish : Option (List ℕ)
  pub told : Option Tale
  pub count : ℕ
  pub rounds : List Round
  pub saves : List (List Slice)

-- how an attempt closes: by a cause, or with a file of this total and SHA-256
pub data Close : Type 0 where
  Broken : Cause → Close
  Done : ℕ → List ℕ → Close

-- the k-th slice has as many bytes more as were landed of the k-th part
abbrev pub filled : List Slice → List Share → List Slice
filled [] shares = []
filled (slice ∷ rest) [] = slice ∷ rest
filled (slice ∷ rest) (share ∷ shares) = record slice { got = slice.got + length share.bytes } ∷ filled rest shares

-- the cover that the rounds made, the newest first
abbrev pub cover_of : List Slice → Option ℕ → ℕ → ℕ → List Round → List Slice
cover_of start total n least [] = start
cover_of start total n least (round ∷ older) = filled (opened_by total n least round.cover) round.shares

-- the connections of the rounds, in the order of closing
abbrev pub wires_of : List Round → List Closed
wires_of [] = []
wires_of (round ∷ older) = wires_of older ++ map (λ (c : Carried). c.connection) round.wires

-- all connections of an attempt, in the order of closing
abbrev pub connections_of : Trace → List Closed
connections_of trace = trace.led ++ (wires_of trace.rounds ++ trace.lost)

-- what is recorded of what was told
abbrev pub told_entries : ItemId → Option Tale → List Entry
told_entries id None = []
told_entries id (Some tale) = entries.Described id tale.key tale.address.text tale.total tale.name tale.modified ∷ []

-- what is recorded at the end
abbrev pub close_entries : ItemId → ℕ → Close → List Entry
close_entries id at (Broken broke) = entries.Broke id (reason_of_cause broke) ∷ []
close_entries id at (Done total digest) = entries.Finishing id total ∷ entries.Done id digest at ∷ []

-- All that an attempt records behind its beginning: what was told, each save, and the end.
abbrev pub entries_behind : ItemId → ℕ → Trace → Close → List Entry
entries_behind id at trace close = told_entries id trace.told ++ (map (entries.Progress id) trace.saves ++ close_entries id at close)

-- what is recorded behind the beginning while an attempt runs
abbrev pub so_far : ItemId → Trace → List Entry
so_far id trace = told_entries id trace.told ++ map (entries.Progress id) trace.saves

-- nothing was told yet, and this will be
abbrev pub untold : List Closed → List Closed → ℕ → Trace
untold led lost count = record { led = led; lost = lost; wish = None; told = None; count = count; rounds = []; saves = [] }

-- there is a wish for a name, and no name yet
abbrev pub wished : List Closed → List Closed → ℕ → List ℕ → Trace
wished led lost count wish = record (untold led lost count) { wish = Some wish }

abbrev pub told_with : List Closed → List Closed → ℕ → List ℕ → Tale → Trace
told_with led lost count wish tale = record (wished led lost count wish) { told = Some tale }

-- one round more
abbrev pub opened : Trace → Round → Trace
opened trace round = record trace { rounds = round ∷ trace.rounds }

-- other saves
abbrev pub with_saves : Trace → List (List Slice) → Trace
with_saves trace saves = record trace { saves = saves }

-- one of the round's parts has a piece more
abbrev pub with_piece : Round → ℕ → List ℕ → Round
with_piece round k piece = record round { shares = added round.shares k piece }

-- the parts of the newest round
abbrev pub plan_by : List Round → List Part
plan_by [] = []
plan_by (round ∷ older) = map (λ (share : Share). share.part) round.shares

-- The round began at this cover, and has the parts of the next plan.
pub record IsRound (total : Option ℕ) (n least : ℕ) (before : List Slice) (round : Round) : Type 0 where
  pub cover_is : round.cover ≡ before
  pub parts_are : map (λ (share : Share). share.part) round.shares ≡ parts_by total n least round.cover

-- the same parts, with fronts of their bytes
abbrev pub AreFronts : List Share → List Share → Type 0
AreFronts [] [] = Unit {0}
AreFronts [] (share ∷ shares) = ⊥
AreFronts (front ∷ fronts) [] = ⊥
AreFronts (front ∷ fronts) (share ∷ shares) = (front.part ≡ share.part) × ((rest : List ℕ) × (share.bytes ≡ front.bytes ++ rest)) × AreFronts fronts shares

-- the rounds as they were at some moment: the newest of them had brought fronts of what it brought
abbrev pub WereRounds : List Round → List Round → Type 0
WereRounds [] [] = Unit {0}
WereRounds [] (round ∷ older) = ⊥
WereRounds (was ∷ before) [] = ⊥
WereRounds (was ∷ before) (round ∷ older) = (was.cover ≡ round.cover) × AreFronts was.shares round.shares × (before ≡ older)

-- The slices are the normal cover of what was landed at some moment.
pub record IsSave (start : List Slice) (total : Option ℕ) (n least : ℕ) (rounds : List Round) (slices : List Slice) : Type 0 where
  pub newer : List Round
  pub rest : List Round
  pub among : rounds ≡ newer ++ rest
  pub earlier : List Round
  pub was : WereRounds earlier rest
  pub is : slices ≡ normal_of total (cover_of start total n least earlier)

-- each round is planned at the cover that the older ones made
abbrev pub ArePlanned : List Slice → Option ℕ → ℕ → ℕ → List Round → Type 0
ArePlanned start total n least [] = Unit {0}
ArePlanned start total n least (round ∷ older) = IsRound total n least (cover_of start total n least older) round × ArePlanned start total n least older

-- the parts are numbered from a number on
abbrev pub AreNumbered : ℕ → List Part → Type 0
AreNumbered at [] = Unit {0}
AreNumbered at (part ∷ rest) = (part.index ≡ at) × AreNumbered (suc at) rest

-- each part begins where the slice of its place ends
abbrev pub AreAtEnds : List Part → List Slice → Type 0
AreAtEnds [] slices = Unit {0}
AreAtEnds (part ∷ rest) [] = ⊥
AreAtEnds (part ∷ rest) (slice ∷ slices) = (end_of slice ≡ part.first) × AreAtEnds rest slices
