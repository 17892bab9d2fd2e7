-- A round whose parts all reached their ends leaves fewer holes.
use Rattle.std.proofs.Common.{◌≡◌, ℕ, zero, suc, ◌+◌, ◌-◌, ◌/◌, ◌<◌, ◌≤◌, ◌⊎◌, ◌↔◌, List, [], ◌∷◌, ◌++◌, length, Some, inl, inr, refl, ap, sym, subst, ◌∙◌, arith}
use Rattle.std.proofs.lemmas.Bool.{cases_lt}
use Rattle.dm_types.specs.declared.slices.Slice.{Slice}
use Rattle.dm_slice.specs.Words.{end_of, HasByte, IsApart, IsNormal, IsWithin}
use Rattle.dm_slice.specs.Cover.{IsCover, SamePlaces, normal_of}
use Rattle.dm_slice.specs.Plan.{AreDisjoint, FillsHoles, InParts, Run, all_of, cut_in, cuts, gaps, groups, groups_of, holes, numbered, parts_by, plan_of, run, share, stop_of}
use Rattle.dm_slice.specs.declared.plan.Part.{Part}
use Rattle.dm_slice.proofs.Filled.{plan_of-fills}
use Rattle.dm_slice.proofs.Joins.{normal_of-meaning}
use Rattle.dm_slice.proofs.Opened.{share-some, within-normal_of}
use Rattle.dm_slice.proofs.Plans.{groups-some, holes-none, holes-there}

-- a run is one of these
abbrev Among : Run → List Run → Type 0
Among r [] = ⊥
Among r (other ∷ rest) = (r ≡ other) ⊎ Among r rest

-- the runs begin at different places, in rising order
abbrev Rises : ℕ → List Run → Type 0
Rises low [] = Unit {0}
Rises low (r ∷ rest) = (low ≤ r.from) × Rises (suc r.from) rest

among-low : (low : ℕ) (r : Run) (runs : List Run) → Rises low runs → Among r runs → low ≤ r.from
among-low low r [] rises here = absurd here
among-low low r (other ∷ rest) rises (inl same) = subst (λ (x : Run). low ≤ x.from) (sym same) rises.0
among-low low r (other ∷ rest) rises (inr later) = let own = rises.0 in let past = among-low (suc other.from) r rest rises.1 later in omega arith

-- a run that begins behind the first is one of the others
among-rest : (r other : Run) (rest : List Run) → other.from < r.from → Among r (other ∷ rest) → Among r rest
among-rest r other rest past (inl same) = let is : r.from ≡ other.from = ap (λ (x : Run). x.from) same in absurd (omega arith)
among-rest r other rest past (inr later) = later

abbrev AllAmong : List Run → List Run → Type 0
AllAmong runs others = (r : Run) → Among r runs → Among r others

fewer : (runs others : List Run) (low high : ℕ) → Rises low runs → Rises high others → AllAmong runs others → length runs ≤ length others
fewer [] others low high rises other_rises all = omega arith
fewer (r ∷ rest) [] low high rises other_rises all = absurd (all r (inl refl))
fewer (r ∷ rest) (other ∷ more) low high rises other_rises all =
    elim (all r (inl refl)) [
      | inl same ↦
          let begins : r.from ≡ other.from = ap (λ (x : Run). x.from) same in
          let later : length rest ≤ length more =
          fewer rest more (suc r.from) (suc other.from) rises.1 other_rises.1 (λ x x_in. let past = among-low (suc r.from) x rest rises.1 x_in in among-rest x other more (omega arith) (all x (inr x_in))) in
          omega arith
      | inr behind ↦
          let past_other = among-low (suc other.from) r more other_rises.1 behind in
          let later : length (r ∷ rest) ≤ length more =
          fewer (r ∷ rest) more low (suc other.from) rises other_rises.1 (λ x x_in. let least = among-low r.from x (r ∷ rest) (omega arith, rises.1) x_in in among-rest x other more (omega arith) (all x x_in)) in
          omega arith
    ]

not-first : (x r : Run) (rest : List Run) → (x ≡ r → ⊥) → Among x (r ∷ rest) → Among x rest
not-first x r rest other (inl same) = absurd (other same)
not-first x r rest other (inr later) = later

counted : (old new : List Run) (low high : ℕ) → Rises low old → Rises high new → AllAmong new old → ((r : Run) (rest : List Run) → old ≡ r ∷ rest → (x : Run) → Among x new → x ≡ r → ⊥)
    → (length old ≡ 0) ⊎ (length new + 1 ≤ length old)
counted [] new low high rises new_rises all never = inl refl
counted (r ∷ rest) new low high rises new_rises all never =
    let few : length new ≤ length rest = fewer new rest high (suc r.from) new_rises rises.1 (λ x x_in. not-first x r rest (never r rest refl x x_in) (all x x_in)) in
    inr (omega arith)

-- A hole: places below the total that aren't there, as far as they go.
record IsHole (total : ℕ) (slices : List Slice) (r : Run) : Type 0 where
  some : r.from < r.to
  low : r.to ≤ total
  missing : (place : ℕ) → r.from ≤ place → place < r.to → HasByte slices place → ⊥
  starts : (r.from ≡ 0) ⊎ HasByte slices (r.from - 1)
  stops : (r.to ≡ total) ⊎ HasByte slices r.to

byte-apart : (end : ℕ) (slices : List Slice) (place : ℕ) → IsApart end slices → HasByte slices place → end < place
byte-apart end [] place far has = absurd has
byte-apart end (slice ∷ rest) place far (inl here) = let past = far.0 in let low = here.0 in omega arith
byte-apart end (slice ∷ rest) place far (inr later) = let past = far.0 in let more = byte-apart (end_of slice) rest place far.2 later in omega arith

byte-stop : (total end : ℕ) (slices : List Slice) (place : ℕ) → IsApart end slices → HasByte slices place → stop_of total slices ≤ place
byte-stop total end [] place far has = absurd has
byte-stop total end (slice ∷ rest) place far (inl here) = here.0
byte-stop total end (slice ∷ rest) place far (inr later) = let more = byte-apart (end_of slice) rest place far.2 later in omega arith

stop-within : (total : ℕ) (slices : List Slice) → IsWithin total slices → stop_of total slices ≤ total
stop-within total [] within = omega arith
stop-within total (slice ∷ rest) within = let own = within.0 in omega arith

-- the hole behind a slice
not-between : (total : ℕ) (slice : Slice) (rest : List Slice) (place : ℕ) → IsApart (end_of slice) rest → end_of slice ≤ place → place < stop_of total rest → HasByte (slice ∷ rest) place → ⊥
not-between total slice rest place far low high (inl here) = let below = here.1 in omega arith
not-between total slice rest place far low high (inr later) = let past = byte-stop total (end_of slice) rest place far later in omega arith

starts-here : (slice : Slice) (rest : List Slice) → (slice.first ≡ 0) ⊎ (0 < slice.got) → (end_of slice ≡ 0) ⊎ HasByte (slice ∷ rest) (end_of slice - 1)
starts-here slice rest begins =
    elim (cases_lt 0 slice.got) [
      | inl full ↦ inr (inl (omega arith, omega arith))
      | inr none ↦ elim begins [ inl first ↦ inl (omega arith) | inr full ↦ absurd (omega arith) ]
    ]

stops-here : (total : ℕ) (slice : Slice) (rest : List Slice) → IsApart (end_of slice) rest → (stop_of total rest ≡ total) ⊎ HasByte (slice ∷ rest) (stop_of total rest)
stops-here total slice [] far = inl refl
stops-here total slice (next ∷ more) far = let full = far.1 in inr (inr (inl (omega arith, omega arith)))

hole-here : (total : ℕ) (slice : Slice) (rest : List Slice) → IsApart (end_of slice) rest → IsWithin total rest → (slice.first ≡ 0) ⊎ (0 < slice.got) → end_of slice < stop_of total rest
    → IsHole total (slice ∷ rest) (run (end_of slice) (stop_of total rest))
hole-here total slice rest far within begins there =
    record {
      some = there;
      low = stop-within total rest within;
      missing = λ place from to has. not-between total slice rest place far from to has;
      starts = starts-here slice rest begins;
      stops = stops-here total slice rest far;
    }

-- a hole of the slices behind another
not-more : (x : Slice) (slices : List Slice) (place : ℕ) → end_of x ≤ place → (HasByte slices place → ⊥) → HasByte (x ∷ slices) place → ⊥
not-more x slices place past none (inl here) = let below = here.1 in omega arith
not-more x slices place past none (inr later) = none later

hole-more : (total : ℕ) (x : Slice) (slices : List Slice) (r : Run) → end_of x ≤ r.from → IsHole total slices r → IsHole total (x ∷ slices) r
hole-more total x slices r past hole =
    record {
      some = hole.some;
      low = hole.low;
      missing = λ place from to has. not-more x slices place (omega arith) (hole.missing place from to) has;
      starts = elim hole.starts [ inl none ↦ inl none | inr there ↦ inr (inr there) ];
      stops = elim hole.stops [ inl ends ↦ inl ends | inr there ↦ inr (inr there) ];
    }

record Behind (total : ℕ) (slice : Slice) (rest : List Slice) (r : Run) : Type 0 where
  hole : IsHole total (slice ∷ rest) r
  past : end_of slice ≤ r.from

hole-cut : (total : ℕ) (slice : Slice) (rest : List Slice) (r : Run) → IsApart (end_of slice) rest → IsWithin total rest → (slice.first ≡ 0) ⊎ (0 < slice.got) → end_of slice < stop_of total rest
    → (Among r (holes total rest) → Behind total slice rest r) → Among r (run (end_of slice) (stop_of total rest) ∷ holes total rest) → Behind total slice rest r
hole-cut total slice rest r far within begins there later (inl same) =
    subst (Behind total slice rest) (sym same) (record { hole = hole-here total slice rest far within begins there; past = omega arith })
hole-cut total slice rest r far within begins there later (inr behind) = later behind

-- each run of the list of holes is a hole
hole-of : (total : ℕ) (slice : Slice) (rest : List Slice) (r : Run) → IsApart (end_of slice) rest → IsWithin total rest → (slice.first ≡ 0) ⊎ (0 < slice.got) → Among r (holes total (slice ∷ rest)) → Behind total slice rest r
hole-of total slice [] r far within begins here =
    elim (cases_lt (end_of slice) total) [
      | inl there ↦ hole-cut total slice [] r far within begins there (λ none. absurd none) (subst (Among r) (holes-there total slice [] there) here)
      | inr none ↦ absurd (subst (Among r) (holes-none total slice [] none) here)
    ]
hole-of total slice (next ∷ rest) r far within begins here =
    let gap = far.0 in
    hole-cut total slice (next ∷ rest) r far within begins gap
    (λ behind.
    let later = hole-of total next rest r far.2 within.1 (inr far.1) behind in
    let past = later.past in
    record { hole = hole-more total slice (next ∷ rest) r (omega arith) later.hole; past = omega arith })
    (subst (Among r) (holes-there total slice (next ∷ rest) gap) here)

-- each hole is a run of the list
starts-at : (total : ℕ) (slice : Slice) (rest : List Slice) (r : Run) → IsHole total (slice ∷ rest) r → end_of slice ≤ r.from → (r.from ≡ end_of slice) ⊎ HasByte rest (r.from - 1)
starts-at total slice rest r hole past =
    elim hole.starts [
      | inl none ↦ inl (omega arith)
      | inr has ↦ elim has [ inl here ↦ let below = here.1 in inl (omega arith) | inr later ↦ inr later ]
    ]

only-here : (slice : Slice) (place : ℕ) → end_of slice ≤ place → HasByte (slice ∷ []) place → ⊥
only-here slice place past (inl here) = let below = here.1 in omega arith
only-here slice place past (inr later) = later

early-not : (total : ℕ) (slice next : Slice) (more : List Slice) (place : ℕ) → IsApart (end_of slice) (next ∷ more) → IsWithin total (next ∷ more) → end_of slice < place → place < next.first
    → (place ≡ total) ⊎ HasByte (slice ∷ next ∷ more) place → ⊥
early-not total slice next more place far within past early (inl ends) = let full = far.1 in let low = within.0 in omega arith
early-not total slice next more place far within past early (inr (inl here)) = let below = here.1 in omega arith
early-not total slice next more place far within past early (inr (inr later)) = let behind = byte-stop total (end_of slice) (next ∷ more) place far later in omega arith

to-stop : (total : ℕ) (slice : Slice) (rest : List Slice) (r : Run) → IsApart (end_of slice) rest → IsWithin total rest → IsHole total (slice ∷ rest) r → r.from ≡ end_of slice → r.to ≡ stop_of total rest
to-stop total slice [] r far within hole at =
    let some = hole.some in
    elim hole.stops [ inl ends ↦ ends | inr has ↦ absurd (only-here slice r.to (omega arith) has) ]
to-stop total slice (next ∷ more) r far within hole at =
    let some = hole.some in
    let gap = far.0 in
    let full = far.1 in
    elim (cases_lt next.first r.to) [
      | inl long ↦ absurd (hole.missing next.first (omega arith) long (inr (inl (omega arith, omega arith))))
      | inr short ↦ elim (cases_lt r.to next.first) [
        | inl early ↦ absurd (early-not total slice next more r.to far within (omega arith) early hole.stops)
        | inr late ↦ omega arith
      ]
    ]

same-run : (r : Run) (from to : ℕ) → r.from ≡ from → r.to ≡ to → r ≡ run from to
same-run r from to begins ends = ap (λ (x : ℕ). run x r.to) begins ∙ ap (run from) ends

found-here : (total : ℕ) (slice : Slice) (rest : List Slice) (r : Run) → IsApart (end_of slice) rest → IsWithin total rest → IsHole total (slice ∷ rest) r → r.from ≡ end_of slice → Among r (holes total (slice ∷ rest))
found-here total slice rest r far within hole at =
    let to = to-stop total slice rest r far within hole at in
    let some = hole.some in
    let there : end_of slice < stop_of total rest = omega arith in
    subst (Among r) (sym (holes-there total slice rest there)) (inl (same-run r (end_of slice) (stop_of total rest) at to))

hole-less : (total : ℕ) (x : Slice) (slices : List Slice) (r : Run) → end_of x ≤ r.from → HasByte slices (r.from - 1) → IsHole total (x ∷ slices) r → IsHole total slices r
hole-less total x slices r past starts hole =
    let some = hole.some in
    record {
      some = hole.some;
      low = hole.low;
      missing = λ place from to has. hole.missing place from to (inr has);
      starts = inr starts;
      stops = elim hole.stops [
        | inl ends ↦ inl ends
        | inr has ↦ elim has [ inl here ↦ let below = here.1 in absurd (omega arith) | inr later ↦ inr later ]
      ];
    }

behind-next : (total end : ℕ) (x next : Slice) (rest : List Slice) (r : Run) → IsApart end (next ∷ rest) → IsHole total (x ∷ next ∷ rest) r → HasByte (next ∷ rest) (r.from - 1) → end_of next ≤ r.from
behind-next total end x next rest r far hole has =
    let low = byte-stop total end (next ∷ rest) (r.from - 1) far has in
    elim (cases_lt r.from (end_of next)) [
      | inl inside ↦ absurd (hole.missing r.from (omega arith) hole.some (inr (inl (omega arith, inside))))
      | inr past ↦ past
    ]

found-in : (total : ℕ) (slice : Slice) (rest : List Slice) (r : Run) → IsApart (end_of slice) rest → IsWithin total rest → IsHole total (slice ∷ rest) r → end_of slice ≤ r.from → Among r (holes total (slice ∷ rest))
found-in total slice [] r far within hole past =
    elim (starts-at total slice [] r hole past) [ inl at ↦ found-here total slice [] r far within hole at | inr later ↦ absurd later ]
found-in total slice (next ∷ rest) r far within hole past =
    elim (starts-at total slice (next ∷ rest) r hole past) [
      | inl at ↦ found-here total slice (next ∷ rest) r far within hole at
      | inr later ↦
          let deeper = hole-less total slice (next ∷ rest) r past later hole in
          let past_next = behind-next total (end_of slice) slice next rest r far hole later in
          subst (Among r) (sym (holes-there total slice (next ∷ rest) far.0)) (inr (found-in total next rest r far.2 within.1 deeper past_next))
    ]

rises-low : (low lower : ℕ) (runs : List Run) → lower ≤ low → Rises low runs → Rises lower runs
rises-low low lower [] below rises = tt
rises-low low lower (r ∷ rest) below rises = let own = rises.0 in (omega arith, rises.1)

holes-rise : (total : ℕ) (slice : Slice) (rest : List Slice) → IsApart (end_of slice) rest → Rises (end_of slice) (holes total (slice ∷ rest))
holes-rise total slice [] far =
    elim (cases_lt (end_of slice) total) [
      | inl there ↦ subst (Rises (end_of slice)) (sym (holes-there total slice [] there)) (omega arith, tt)
      | inr none ↦ subst (Rises (end_of slice)) (sym (holes-none total slice [] none)) tt
    ]
holes-rise total slice (next ∷ rest) far =
    let gap = far.0 in
    subst (Rises (end_of slice)) (sym (holes-there total slice (next ∷ rest) gap))
    (omega arith, rises-low (end_of next) (suc (end_of slice)) (holes total (next ∷ rest)) (omega arith) (holes-rise total next rest far.2))

-- what is there behind a round is what was there, and its parts
abbrev Landed : List Slice → List Part → List Slice → Type 0
Landed cover parts new = (place : ℕ) → HasByte new place ↔ (HasByte cover place ⊎ InParts parts place)

module _ (total : ℕ) (cover new : List Slice) (parts : List Part) (landed : Landed cover parts new) (fills : FillsHoles total cover parts) (r : Run) (hole : IsHole total new r) where
  -- no place of the hole was there
  never : (place : ℕ) → r.from ≤ place → place < r.to → HasByte cover place → ⊥
  never place from to has = hole.missing place from to ((landed place).1 (inl has))

  starts-not : 0 < r.from → InParts parts (r.from - 1) → ⊥
  starts-not some before =
      let long = hole.some in
      let low = hole.low in
      let here = fills.upward (r.from - 1) r.from before (omega arith) (omega arith) (λ place from to has. between place from to has) in
      hole.missing r.from (omega arith) hole.some ((landed r.from).1 (inr here))
    where
      between : (place : ℕ) → r.from - 1 ≤ place → place ≤ r.from → HasByte cover place → ⊥
      between place from to has =
          elim (cases_lt place r.from) [
            | inl below ↦ let same : r.from - 1 ≡ place = omega arith in fills.missing place (subst (InParts parts) same before) has
            | inr past ↦ never place past (let long = hole.some in omega arith) has
          ]

  stops-not : InParts parts r.to → ⊥
  stops-not behind =
      let long = hole.some in
      let here = fills.downward r.to (r.to - 1) behind (omega arith) (λ place from to has. between place from to has) in
      hole.missing (r.to - 1) (omega arith) (omega arith) ((landed (r.to - 1)).1 (inr here))
    where
      between : (place : ℕ) → r.to - 1 ≤ place → place ≤ r.to → HasByte cover place → ⊥
      between place from to has =
          elim (cases_lt place r.to) [
            | inl below ↦ let long = hole.some in never place (omega arith) below has
            | inr past ↦ let same : r.to ≡ place = omega arith in fills.missing place (subst (InParts parts) same behind) has
          ]

  hole-before : IsHole total cover r
  hole-before =
      record {
        some = hole.some;
        low = hole.low;
        missing = never;
        starts = elim (cases_lt 0 r.from) [
          | inl some ↦ elim hole.starts [
            | inl none ↦ inl none
            | inr has ↦ elim ((landed (r.from - 1)).0 has) [ inl there ↦ inr there | inr before ↦ absurd (starts-not some before) ]
          ]
          | inr none ↦ inl (omega arith)
        ];
        stops = elim hole.stops [
          | inl ends ↦ inl ends
          | inr has ↦ elim ((landed r.to).0 has) [ inl there ↦ inr there | inr behind ↦ absurd (stops-not behind) ]
        ];
      }

hole-same : (total : ℕ) (slices others : List Slice) (r : Run) → SamePlaces slices others → IsHole total slices r → IsHole total others r
hole-same total slices others r same hole =
    record {
      some = hole.some;
      low = hole.low;
      missing = λ place from to has. hole.missing place from to ((same place).1 has);
      starts = elim hole.starts [ inl none ↦ inl none | inr has ↦ inr ((same (r.from - 1)).0 has) ];
      stops = elim hole.stops [ inl ends ↦ inl ends | inr has ↦ inr ((same r.to).0 has) ];
    }

same-back : (slices others : List Slice) → SamePlaces slices others → SamePlaces others slices
same-back slices others same = λ place. ((same place).1, (same place).0)

-- a hole lies behind the first slice, which begins at 0
past-first : (total : ℕ) (slice : Slice) (rest : List Slice) (r : Run) → slice.first ≡ 0 → IsHole total (slice ∷ rest) r → end_of slice ≤ r.from
past-first total slice rest r first hole =
    elim (cases_lt r.from (end_of slice)) [
      | inl inside ↦ absurd (hole.missing r.from (omega arith) hole.some (inl (omega arith, inside)))
      | inr past ↦ past
    ]

compared : (total : ℕ) (cover after old new : List Slice) (parts : List Part) → IsNormal (Some total) old → IsNormal (Some total) new → IsWithin total old → IsWithin total new → SamePlaces old cover → SamePlaces new after
    → Landed cover parts after → FillsHoles total cover parts → ((r : Run) (rest : List Run) → holes total old ≡ r ∷ rest → InParts parts r.from)
    → (length (holes total old) ≡ 0) ⊎ (length (holes total new) + 1 ≤ length (holes total old))
compared total cover after [] new parts old_normal new_normal old_within new_within old_same new_same landed fills first = absurd old_normal
compared total cover after (o ∷ os) [] parts old_normal new_normal old_within new_within old_same new_same landed fills first = absurd new_normal
compared total cover after (o ∷ os) (m ∷ ms) parts old_normal new_normal old_within new_within old_same new_same landed fills first =
    let is_hole : (x : Run) → Among x (holes total (m ∷ ms)) → IsHole total after x =
    λ x x_in. hole-same total (m ∷ ms) after x new_same (hole-of total m ms x new_normal.1 new_within.1 (inl new_normal.0) x_in).hole in
    counted (holes total (o ∷ os)) (holes total (m ∷ ms)) (end_of o) (end_of m) (holes-rise total o os old_normal.1) (holes-rise total m ms new_normal.1)
    (λ x x_in.
    let before = hole-same total cover (o ∷ os) x (same-back (o ∷ os) cover old_same) (hole-before total cover after parts landed fills x (is_hole x x_in)) in
    found-in total o os x old_normal.1 old_within.1 before (past-first total o os x old_normal.0 before))
    (λ r rest are x x_in same.
    let hole = is_hole x x_in in
    let there : HasByte after r.from = (landed r.from).1 (inr (first r rest are)) in
    hole.missing x.from (omega arith) hole.some (subst (λ (y : Run). HasByte after y.from) (sym same) there))

-- the first part of a plan begins where the first hole does
record StartsWith (runs : List Run) (from : ℕ) : Type 0 where
  head : Run
  others : List Run
  are : runs ≡ head ∷ others
  begins : head.from ≡ from

starts-cuts : (k from size end : ℕ) → StartsWith (cuts (suc k) from size end) from
starts-cuts zero from size end = record { head = run from end; others = []; are = refl; begins = refl }
starts-cuts (suc k) from size end = record { head = run from (from + size); others = cuts (suc k) (from + size) size end; are = refl; begins = refl }

starts-cut : (k : ℕ) (r : Run) → 0 < k → StartsWith (cut_in k r) r.from
starts-cut zero r some = absurd (omega arith)
starts-cut (suc k) r some = starts-cuts k r.from ((r.to - r.from) / suc k) r.to

starts-groups : (least n room : ℕ) (r : Run) (rest : List Run) → 0 < n → StartsWith (all_of (groups least n room (r ∷ rest))) r.from
starts-groups least n room r rest some =
    let k = share least n room (length rest) (r.to - r.from) in
    let cut = starts-cut k r (share-some least n room (length rest) (r.to - r.from)) in
    let more = all_of (groups least (n - k) (room + 1 - k) rest) in
    record {
      head = cut.head;
      others = cut.others ++ more;
      are = ap all_of (groups-some least n room k r rest some refl) ∙ ap (λ (x : List Run). x ++ more) cut.are;
      begins = cut.begins;
    }

in-first : (total : ℕ) (runs : List Run) (from : ℕ) → StartsWith runs from → AreDisjoint 0 total (numbered 0 runs) → InParts (numbered 0 runs) from
in-first total runs from starts disjoint =
    let apart = subst (λ (x : List Run). AreDisjoint 0 total (numbered 0 x)) starts.are disjoint in
    let some = apart.1 in
    let begins = starts.begins in
    subst (λ (x : List Run). InParts (numbered 0 x) from) (sym starts.are) (inl (omega arith, omega arith))

-- Where the parts of a plan are all there, and nothing else besides, fewer holes are left, or none was.
pub fewer_gaps : (total n least : ℕ) (cover after : List Slice) → IsCover cover → IsCover after → IsWithin total cover → IsWithin total after → 0 < n → 0 < least → Landed cover (parts_by (Some total) n least cover) after
    → (gaps total cover ≡ 0) ⊎ (gaps total after + 1 ≤ gaps total cover)
fewer_gaps total n least cover after is after_is within after_within some least_some landed =
    let normal = normal_of (Some total) cover in
    let fills = plan_of-fills total n least cover is within least_some in
    compared total cover after normal (normal_of (Some total) after) (plan_of normal total n least) (normal_of-meaning (Some total) cover is).normal (normal_of-meaning (Some total) after after_is).normal
    (within-normal_of total (Some total) cover is within) (within-normal_of total (Some total) after after_is after_within) (normal_of-meaning (Some total) cover is).places (normal_of-meaning (Some total) after after_is).places
    landed fills
    (λ r rest are.
    in-first total (all_of (groups_of normal total n least)) r.from (subst (λ (hs : List Run). StartsWith (all_of (groups least n (64 - length normal) hs)) r.from) (sym are) (starts-groups least n (64 - length normal) r rest some)) fills.disjoint)
