-- One part alone, which the first reply brings.
use Rattle.std.proofs.Common.{◌≡◌, inl, inr, ℕ, ◌+◌, true, List, [], ◌∷◌, length, Option, Some, sym, ◌∙◌, ap, subst, arith}
use Rattle.std.specs.Prelude.{is_some, slice_get}
use Rattle.std.proofs.lemmas.Bool.{false≢true}
use Rattle.std.proofs.lemmas.Option.{slice_get_within}
use Rattle.dm_types.specs.declared.slices.Slice.{Slice}
use Rattle.dm_edge.specs.declared.wanted.Wanted.{Wanted}
use Rattle.dm_edge.specs.declared.wanted.Wanted.TheVariants.{Whole}
use Rattle.dm_item.specs.Fields.{no_bytes}
use Rattle.dm_item.specs.History.{get}
use Rattle.dm_slice.specs.Plan.{opened_by, parts_by}
use Rattle.dm_slice.specs.Words.{IsFirstMissing, cover_end}
use Rattle.dm_slice.specs.declared.plan.Part.{Part}
use Rattle.dm_store.specs.declared.pass.Pass.{Pass}
use Rattle.dm_attempt.specs.Asking.{Asking, WantedBy}
use Rattle.dm_attempt.specs.Live.{IsPlanned}
use Rattle.dm_attempt.specs.Scene.{Scene, begun_by, cover_by, told_by}
use Rattle.dm_attempt.specs.Shares.{Share}
use Rattle.dm_attempt.specs.Shows.{total_by}
use Rattle.dm_attempt.specs.Trace.{ArePlanned, Round, Tale, Trace, cover_of, filled}
use Rattle.dm_rounds.specs.First.{first_asking}
use Rattle.dm_rounds.specs.Lanes.{IsRead}
use Rattle.dm_rounds.specs.Trail.{AreRead, WasRead}
use Rattle.dm_rounds.proofs.Ends.{find, same_share}
use Rattle.dm_rounds.proofs.Firsts.{none_missing}

whole_wanted : (pass : Pass) (tale : Tale) (asking : Asking) (part : Part) (wanted : Wanted) → asking ≡ first_asking pass tale → part.index ≡ 0 → WantedBy asking part wanted → wanted ≡ Whole
whole_wanted pass tale asking part wanted is number (inl by) = by.2
whole_wanted pass tale asking part wanted is number (inr (inl unserved, range)) = absurd (false≢true (sym unserved ∙ ap (λ (a : Asking). a.served) is))
whole_wanted pass tale asking part wanted is number (inr (inr other, range)) = absurd (other number)

-- it was brought to its end, where that is known
alone_read : (net : Type 0) (pass : Pass) (tale : Tale) (round : Round) (t : ℕ) → round.asking ≡ first_asking pass tale → WasRead net round → tale.total ≡ Some t → (share : Share) → slice_get round.shares 0 ≡ Some share
    → share.part.first + length share.bytes ≡ share.part.end
alone_read net pass tale round t is was total share at =
    let once = was.once 0 (slice_get_within round.shares 0 share at) in
    let found = find (IsRead net round.asking round.shares) round.wires 0 (omega (arith, once)) was.all in
    let whole = whole_wanted pass tale round.asking found.c.part found.c.wanted is found.number found.holds.asked.wanted_is in
    let known : round.asking.known ≡ true = ap (λ (a : Asking). a.known) is ∙ ap is_some total in
    let same : found.holds.share ≡ share = same_share round.shares 0 found.holds.share share (subst (λ (m : ℕ). slice_get round.shares m ≡ Some found.holds.share) found.number found.holds.share_is) at in
    subst (λ (s : Share). s.part.first + length s.bytes ≡ s.part.end) same (found.holds.alone whole known)

module _ {D O : Type 0} (net : Type 0) (scene : Scene D O) (pass : Pass) (tale : Tale) (trace : Trace) (told_is : trace.told ≡ Some tale) (one : trace.count ≡ 1) (bare : (begun_by scene).slices ≡ no_bytes) (planned : IsPlanned scene trace) (place : ℕ)
    (missing : IsFirstMissing (total_by scene trace) (cover_by scene trace) place) where
  abbrev total : Option ℕ
  total = (told_by scene trace.told).total

  abbrev least : ℕ
  least = scene.start.limits.min_slice

  total_is : total ≡ tale.total
  total_is = ap (λ (t : Option Tale). (told_by scene t).total) told_is

  none_left : (round : Round) → trace.rounds ≡ round ∷ [] → AreRead net (first_asking pass tale) (round ∷ []) → ⊥
  none_left round rounds_are read =
      let plans : ArePlanned (begun_by scene).slices total trace.count least (round ∷ []) = subst (ArePlanned (begun_by scene).slices total trace.count least) rounds_are planned.rounds in
      let cover : round.cover ≡ no_bytes = plans.0.cover_is ∙ bare in
      let parts = plans.0.parts_are ∙ ap (λ (m : ℕ). parts_by total m least round.cover) one ∙ ap (parts_by total 1 least) cover in
      let covers : cover_by scene trace ≡ filled (opened_by total 1 least no_bytes) round.shares =
      ap (cover_of (begun_by scene).slices total trace.count least) rounds_are ∙ ap (λ (m : ℕ). filled (opened_by total m least round.cover) round.shares) one ∙ ap (λ (c : List Slice). filled (opened_by total 1 least c) round.shares) cover in
      none_missing total least round.shares place parts (λ t is. alone_read net pass tale round t read.0 read.1 (sym total_is ∙ is))
      (subst (λ (c : List Slice). IsFirstMissing (get total (cover_end c)) c place) covers missing)

  -- so no place is left
  pub alone_full : (rounds : List Round) → trace.rounds ≡ rounds → length rounds ≡ 1 → AreRead net (first_asking pass tale) rounds → ⊥
  alone_full [] rounds_are long read = omega (arith, long)
  alone_full (round ∷ []) rounds_are long read = none_left round rounds_are read
  alone_full (round ∷ (next ∷ more)) rounds_are long read = omega (arith, long)
