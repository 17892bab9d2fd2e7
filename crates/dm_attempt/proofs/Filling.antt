-- What a piece makes of the cover that a round made.
use Rattle.std.proofs.Common.{◌≡◌, ◌<◌, ◌≤◌, ℕ, ◌+◌, suc, zero, List, [], ◌∷◌, ◌++◌, length, map, Option, Some, None, refl, sym, ◌∙◌, ap, subst, arith, length-append}
use Rattle.std.specs.Prelude.{slice_get}
use Rattle.std.proofs.lemmas.Option.{none-some, same_Some}
use Rattle.dm_types.specs.declared.slices.Slice.{Slice}
use Rattle.dm_slice.specs.Cover.{grown, next_of}
use Rattle.dm_slice.specs.Plan.{AreAtSlices}
use Rattle.dm_slice.specs.Words.{end_of}
use Rattle.dm_slice.specs.declared.plan.Part.{Part}
use Rattle.dm_attempt.specs.Shares.{Share, added}
use Rattle.dm_attempt.specs.Trace.{AreAtEnds, AreNumbered, filled}

parts : List Share → List Part
parts shares = map (λ (share : Share). share.part) shares

pub filled_grown : (slices : List Slice) (shares : List Share) (k : ℕ) (piece : List ℕ) → k < length shares → filled slices (added shares k piece) ≡ grown (filled slices shares) k (length piece)
filled_grown slices [] k piece short = absurd (omega (arith, short))
filled_grown [] (share ∷ shares) zero piece short = refl
filled_grown [] (share ∷ shares) (suc k) piece short = refl
filled_grown (slice ∷ slices) (share ∷ shares) zero piece short =
    let long : slice.got + length (share.bytes ++ piece) ≡ slice.got + length share.bytes + length piece = omega (arith, length-append share.bytes piece) in
    ap (λ (n : ℕ). record slice { got = n } ∷ filled slices shares) long
filled_grown (slice ∷ slices) (share ∷ shares) (suc k) piece short =
    ap (λ (l : List Slice). record slice { got = slice.got + length share.bytes } ∷ l) (filled_grown slices shares k piece (omega (arith, short)))

-- the next place of a part lies behind what was landed of it
pub filled_next : (slices : List Slice) (shares : List Share) (k : ℕ) (share : Share) → AreAtEnds (map (λ (s : Share). s.part) shares) slices → slice_get shares k ≡ Some share
    → next_of (filled slices shares) k ≡ Some (share.part.first + length share.bytes)
filled_next slices [] k share at is = absurd (none-some share is)
filled_next [] (s ∷ shares) k share at is = absurd at
filled_next (slice ∷ slices) (s ∷ shares) zero share at is =
    let same : s ≡ share = same_Some s share is in
    let place : slice.first + (slice.got + length s.bytes) ≡ s.part.first + length s.bytes = let e = at.0 in omega (arith, e) in
    ap Some place ∙ ap (λ (x : Share). Some (x.part.first + length x.bytes)) same
filled_next (slice ∷ slices) (s ∷ shares) (suc k) share at is = filled_next slices shares k share at.1 is

pub numbered_at : (at : ℕ) (shares : List Share) (k : ℕ) (share : Share) → AreNumbered at (map (λ (s : Share). s.part) shares) → slice_get shares k ≡ Some share → share.part.index ≡ at + k
numbered_at at [] k share are is = absurd (none-some share is)
numbered_at at (s ∷ shares) zero share are is = let same = ap (λ (x : Share). x.part.index) (sym (same_Some s share is)) in let own = are.0 in omega (arith, same, own)
numbered_at at (s ∷ shares) (suc k) share are is = let later = numbered_at (suc at) shares k share are.1 is in omega (arith, later)

-- parts that begin where the slices of their numbers end
pub at_ends : (slices : List Slice) (plan : List Part) (at : ℕ) (rest : List Slice) → ((k : ℕ) → next_of slices (at + k) ≡ next_of rest k) → AreNumbered at plan → AreAtSlices slices plan → AreAtEnds plan rest
at_ends slices [] at rest same are placed = tt
at_ends slices (part ∷ plan) at [] same are placed =
    absurd (none-some part.first (sym (ap (λ (n : ℕ). next_of slices n) (let own = are.0 in let e : part.index ≡ at + 0 = omega (arith, own) in e) ∙ same 0) ∙ placed.0))
at_ends slices (part ∷ plan) at (slice ∷ rest) same are placed =
    let own : part.index ≡ at + 0 = let e = are.0 in omega (arith, e) in (
      same_Some (end_of slice) part.first (sym (same 0) ∙ ap (λ (n : ℕ). next_of slices n) (sym own) ∙ placed.0),
      at_ends slices plan (suc at) rest (λ k. ap (λ (n : ℕ). next_of slices n) (let e : suc at + k ≡ at + suc k = omega arith in e) ∙ same (suc k)) are.1 placed.2,
    )
