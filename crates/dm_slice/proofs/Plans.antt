-- Lemmas on plans: what a step of the walk adds to both lists.
use Rattle.std.proofs.Common.{◌≡◌, ℕ, zero, suc, ◌+◌, ◌-◌, ◌*◌, ◌<◌, ◌≤◌, ◌≢◌, List, [], ◌∷◌, ◌++◌, map, length, drop, take, get_or, inl, inr, refl, ap, sym, subst, ◌∙◌, append_assoc, length-append, arith, false}
use Rattle.std.proofs.lemmas.Bool.Decides.{nat_tests}
use Rattle.std.proofs.lemmas.List.{take_rest}
use Rattle.dm_types.specs.declared.slices.Slice.{Slice}
use Rattle.dm_slice.specs.Words.{end_of}
use Rattle.dm_slice.specs.Plan.{Run, run, stop_of, holes, share, cuts, cut_in, groups, all_of, numbered, empty_at, opened, IsChain, Walked, Cut, FilledHole, FilledNone, Filled}
use Rattle.dm_slice.specs.declared.plan.Part.{Part}

pub length-cuts : (k from size end : ℕ) → length (cuts k from size end) ≡ k
length-cuts zero from size end = refl
length-cuts (suc zero) from size end = refl
length-cuts (suc (suc k)) from size end = ap suc (length-cuts (suc k) (from + size) size end)

pub length-numbered : (at : ℕ) (runs : List Run) → length (numbered at runs) ≡ length runs
length-numbered at [] = refl
length-numbered at (r ∷ rest) = ap suc (length-numbered (at + 1) rest)

pub numbered-append : (at : ℕ) (runs more : List Run) → numbered at (runs ++ more) ≡ numbered at runs ++ numbered (at + length runs) more
numbered-append at [] more = ap (λ (n : ℕ). numbered n more) (omega arith)
numbered-append at (r ∷ rest) more =
    let tail = numbered-append (at + 1) rest more in
    let place : at + 1 + length rest ≡ at + suc (length rest) = omega arith in
    let moved : numbered (at + 1) (rest ++ more) ≡ numbered (at + 1) rest ++ numbered (at + suc (length rest)) more = rw place at tail in
    ap (λ (parts : List Part). record { index = at; first = r.from; end = r.to } ∷ parts) moved

-- the further cuts begin where the first one ends
cuts-head : (k from size end : ℕ) → map empty_at (cuts (suc k) from size end) ≡ record { first = from; got = 0; finished = false } ∷ map empty_at (drop 1 (cuts (suc k) from size end))
cuts-head zero from size end = refl
cuts-head (suc k) from size end = refl

-- one part and one empty slice, and then the further ones
cut_step : (k from size end : ℕ) (s0 s1 s2 : List Slice) (p0 p1 p2 : List Part) →
    s1 ≡ s0 ++ record { first = from + size; got = 0; finished = false } ∷ [] →
    p1 ≡ p0 ++ record { index = length p0; first = from; end = from + size } ∷ [] →
    Cut (suc k) (from + size) size end s1 s2 p1 p2 → Cut (suc (suc k)) from size end s0 s2 p0 p2
cut_step k from size end s0 s1 s2 p0 p1 p2 s p c =
    let next = from + size in
    let longer : length p1 ≡ length p0 + 1 = ap length p ∙ length-append p0 _ in
    record {
      slices_are = c.slices_are ∙ ap (λ (x : List Slice). x ++ map empty_at (drop 1 (cuts (suc k) next size end))) s ∙ append_assoc s0 _ _ ∙ ap (λ (x : List Slice). s0 ++ x) (sym (cuts-head k next size end));
      parts_are = c.parts_are ∙ ap (λ (x : List Part). x ++ numbered (length p1) (cuts (suc k) next size end)) p ∙ append_assoc p0 _ _ ∙ ap (λ (n : ℕ). p0 ++ record { index = length p0; first = from; end = from + size } ∷ numbered n (cuts (suc k) next size end)) longer;
      count = omega (arith, c.count, longer);
    }

pub cut_more : (k from size end : ℕ) (s0 s1 s2 : List Slice) (p0 p1 p2 : List Part) → 0 < k → k ≢ 1 →
    s1 ≡ s0 ++ record { first = from + size; got = 0; finished = false } ∷ [] →
    p1 ≡ p0 ++ record { index = length p0; first = from; end = from + size } ∷ [] →
    Cut (k - 1) (from + size) size end s1 s2 p1 p2 → Cut k from size end s0 s2 p0 p2
cut_more zero from size end s0 s1 s2 p0 p1 p2 some more s p c = absurd (omega arith)
cut_more (suc zero) from size end s0 s1 s2 p0 p1 p2 some more s p c = absurd (more refl)
cut_more (suc (suc k)) from size end s0 s1 s2 p0 p1 p2 some more s p c =
    let fewer : suc (suc k) - 1 ≡ suc k = omega arith in
    cut_step k from size end s0 s1 s2 p0 p1 p2 s p (subst (λ (n : ℕ). Cut n (from + size) size end s1 s2 p1 p2) fewer c)

-- the further parts lie as low as all of them
pub rest_small : (k from size bound : ℕ) → 0 < k → from + k * size ≤ bound → from + size + (k - 1) * size ≤ bound
rest_small zero from size bound some below = absurd (omega arith)
rest_small (suc k) from size bound some below =
    let fewer : suc k - 1 ≡ k = omega arith in
    rw fewer (omega arith)

-- a hole behind a slice, and its parts
opened-none : (slices : List Slice) → opened slices [] ≡ slices
opened-none [] = refl
opened-none (slice ∷ rest) = refl

pub holes-there : (total : ℕ) (slice : Slice) (rest : List Slice) → end_of slice < stop_of total rest → holes total (slice ∷ rest) ≡ run (end_of slice) (stop_of total rest) ∷ holes total rest
holes-there total slice rest there = grind (arith, nat_tests)

pub holes-none : (total : ℕ) (slice : Slice) (rest : List Slice) → stop_of total rest ≤ end_of slice → holes total (slice ∷ rest) ≡ holes total rest
holes-none total slice rest none = grind (arith, nat_tests)

groups-share : (least left room : ℕ) (hole : Run) (rest : List Run) → 0 < left →
    groups least left room (hole ∷ rest) ≡ cut_in (share least left room (length rest) (hole.to - hole.from)) hole ∷ groups least (left - share least left room (length rest) (hole.to - hole.from)) (room + 1 - share least left room (length rest) (hole.to - hole.from)) rest
groups-share least left room hole rest some = grind (arith, nat_tests)

pub groups-none : (least room : ℕ) (hs : List Run) → groups least 0 room hs ≡ []
groups-none least room [] = refl
groups-none least room (hole ∷ rest) = refl

pub groups-some : (least left room k : ℕ) (hole : Run) (rest : List Run) → 0 < left → k ≡ share least left room (length rest) (hole.to - hole.from) →
    groups least left room (hole ∷ rest) ≡ cut_in k hole ∷ groups least (left - k) (room + 1 - k) rest
groups-some least left room k hole rest some is =
    groups-share least left room hole rest some ∙ ap (λ (n : ℕ). cut_in n hole ∷ groups least (left - n) (room + 1 - n) rest) (sym is)

numbered_tail : (at next : ℕ) (runs more : List Run) → next ≡ at + length runs → numbered at runs ++ numbered next more ≡ numbered at (runs ++ more)
numbered_tail at next runs more is = ap (λ (n : ℕ). numbered at runs ++ numbered n more) is ∙ sym (numbered-append at runs more)

-- the walk: a slice alone, or with the parts of its hole
walk_groups : (total least left room : ℕ) (slice : Slice) (rest s0 s1 s2 s3 : List Slice) (p0 p1 p2 : List Part) →
    s1 ≡ s0 ++ slice ∷ [] → s2 ≡ s1 → p1 ≡ p0 → groups least left room (holes total (slice ∷ rest)) ≡ [] → groups least left room (holes total rest) ≡ [] →
    Walked total least left room rest s2 s3 p1 p2 → Walked total least left room (slice ∷ rest) s0 s3 p0 p2
walk_groups total least left room slice rest s0 s1 s2 s3 p0 p1 p2 s same same_parts here behind walked =
    record {
      slices_are =
          walked.slices_are ∙ ap (λ (x : List (List Run)). s2 ++ opened rest x) behind ∙ ap (λ (x : List Slice). s2 ++ x) (opened-none rest)
          ∙ ap (λ (x : List Slice). x ++ rest) (same ∙ s) ∙ append_assoc s0 _ _ ∙ ap (λ (x : List (List Run)). s0 ++ opened (slice ∷ rest) x) (sym here);
      parts_are =
          walked.parts_are ∙ ap (λ (x : List (List Run)). p1 ++ numbered (length p1) (all_of x)) behind ∙ ap (λ (x : List Part). x ++ []) same_parts
          ∙ ap (λ (x : List (List Run)). p0 ++ numbered (length p0) (all_of x)) (sym here);
    }

walk_left : (total least left room : ℕ) (slice : Slice) (rest s0 s1 s2 s3 : List Slice) (p0 p1 p2 : List Part) →
    s1 ≡ s0 ++ slice ∷ [] → FilledNone total left slice rest s1 s2 p0 p1 → left ≡ 0 →
    Walked total least left room rest s2 s3 p1 p2 → Walked total least left room (slice ∷ rest) s0 s3 p0 p2
walk_left total least left room slice rest s0 s1 s2 s3 p0 p1 p2 s none zeroed walked =
    walk_groups total least left room slice rest s0 s1 s2 s3 p0 p1 p2 s none.slices_are none.parts_are
    (ap (λ (n : ℕ). groups least n room (holes total (slice ∷ rest))) zeroed ∙ groups-none least room (holes total (slice ∷ rest)))
    (ap (λ (n : ℕ). groups least n room (holes total rest)) zeroed ∙ groups-none least room (holes total rest)) walked

-- in a normal list only the last slice has no hole behind it
walk_last : (total least left room : ℕ) (slice : Slice) (rest s0 s1 s2 s3 : List Slice) (p0 p1 p2 : List Part) →
    IsChain (slice ∷ rest) → s1 ≡ s0 ++ slice ∷ [] → FilledNone total left slice rest s1 s2 p0 p1 → stop_of total rest ≤ end_of slice →
    Walked total least left room rest s2 s3 p1 p2 → Walked total least left room (slice ∷ rest) s0 s3 p0 p2
walk_last total least left room slice [] s0 s1 s2 s3 p0 p1 p2 chain s none no_hole walked =
    walk_groups total least left room slice [] s0 s1 s2 s3 p0 p1 p2 s none.slices_are none.parts_are
    (ap (groups least left room) (holes-none total slice [] no_hole)) refl walked
walk_last total least left room slice (next ∷ rest) s0 s1 s2 s3 p0 p1 p2 chain s none no_hole walked = let far = chain.0 in absurd (omega arith)

walk_none : (total least left room : ℕ) (slice : Slice) (rest s0 s1 s2 s3 : List Slice) (p0 p1 p2 : List Part) →
    IsChain (slice ∷ rest) → s1 ≡ s0 ++ slice ∷ [] → FilledNone total left slice rest s1 s2 p0 p1 →
    Walked total least left room rest s2 s3 p1 p2 → Walked total least left room (slice ∷ rest) s0 s3 p0 p2
walk_none total least left room slice rest s0 s1 s2 s3 p0 p1 p2 chain s none walked =
    elim none.none [
      | inl no_left ↦ walk_left total least left room slice rest s0 s1 s2 s3 p0 p1 p2 s none no_left walked
      | inr no_hole ↦ walk_last total least left room slice rest s0 s1 s2 s3 p0 p1 p2 chain s none no_hole walked
    ]

walk_hole : (total least left room k : ℕ) (slice : Slice) (rest s0 s1 s2 s3 : List Slice) (p0 p1 p2 : List Part) →
    s1 ≡ s0 ++ slice ∷ [] → FilledHole total least left room slice rest s1 s2 p0 p1 k →
    Walked total least (left - k) (room + 1 - k) rest s2 s3 p1 p2 → Walked total least left room (slice ∷ rest) s0 s3 p0 p2
walk_hole total least left room k slice rest s0 s1 s2 s3 p0 p1 p2 s filled walked =
    let hs = holes total rest in
    let runs = cut_in k (run (end_of slice) (stop_of total rest)) in
    let more = groups least (left - k) (room + 1 - k) hs in
    let there : holes total (slice ∷ rest) ≡ run (end_of slice) (stop_of total rest) ∷ hs = holes-there total slice rest filled.is_hole in
    let grouped : groups least left room (holes total (slice ∷ rest)) ≡ runs ∷ more =
    ap (groups least left room) there ∙ groups-some least left room k (run (end_of slice) (stop_of total rest)) hs filled.some_left filled.share_is in
    record {
      slices_are =
          walked.slices_are ∙ ap (λ (x : List Slice). x ++ opened rest more) (filled.is_cut.slices_are ∙ ap (λ (x : List Slice). x ++ map empty_at (drop 1 runs)) s ∙ append_assoc s0 _ _)
          ∙ append_assoc s0 _ _ ∙ ap (λ (x : List (List Run)). s0 ++ opened (slice ∷ rest) x) (sym grouped);
      parts_are =
          walked.parts_are ∙ ap (λ (x : List Part). x ++ numbered (length p1) (all_of more)) filled.is_cut.parts_are ∙ append_assoc p0 _ _
          ∙ ap (λ (x : List Part). p0 ++ x) (numbered_tail (length p0) (length p1) runs (all_of more) (filled.is_cut.count ∙ ap (λ (n : ℕ). length p0 + n) (sym (length-cuts k _ _ _))))
          ∙ ap (λ (x : List (List Run)). p0 ++ numbered (length p0) (all_of x)) (sym grouped);
    }

pub walk_step : (total least left room k : ℕ) (slice : Slice) (rest s0 s1 s2 s3 : List Slice) (p0 p1 p2 : List Part) →
    s1 ≡ s0 ++ slice ∷ [] → Filled total least left room slice rest s1 s2 p0 p1 k → k ≢ 0 →
    Walked total least (left - k) (room + 1 - k) rest s2 s3 p1 p2 → Walked total least left room (slice ∷ rest) s0 s3 p0 p2
walk_step total least left room zero slice rest s0 s1 s2 s3 p0 p1 p2 s filled some walked = absurd (some refl)
walk_step total least left room (suc k) slice rest s0 s1 s2 s3 p0 p1 p2 s filled some walked =
    walk_hole total least left room (suc k) slice rest s0 s1 s2 s3 p0 p1 p2 s filled walked

-- a list with an element is its first and the others
pub first_and_rest : (slices : List Slice) (d : Slice) → 1 ≤ length slices → slices ≡ get_or slices 0 d ∷ take (length slices - 1) (drop 1 slices)
first_and_rest [] d some = absurd (omega arith)
first_and_rest (slice ∷ rest) d some = ap (λ (x : List Slice). slice ∷ x) (sym (take_rest (slice ∷ rest) 1))
