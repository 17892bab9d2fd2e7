use Rattle.std.proofs.Common.{◌-◌, List, length, Some, subst, sym, ap, ◌∙◌, rules, arith}
use Rattle.dm_slice.proofs.Filled.{plan_of-fills}
use Rattle.dm_slice.proofs.Placed.{plan_of-placed}
use Rattle.dm_slice.proofs.Sums.{places-planned}
use Rattle.dm_types.specs.declared.slices.Slice.{Slice}
use Rattle.dm_slice.specs.Cover.{SamePlaces}
use Rattle.dm_slice.specs.Words.{IsWithin}
use Rattle.std.proofs.lemmas.Grind.{common_steps}
use Rattle.dm_slice.specs.Plan.{FillsHoles, IsPlanned, IsChain}
use Rattle.dm_slice.proofs.Opened.{chain-normal_of, within-normal_of, cover-planned, length-planned}
use Rattle.dm_slice.proofs.cover.planned.Goals as goal
use Rattle.dm_slice.proofs.cover.planned.Goals.{In_ok-walk}

pub walk-requires-clause-apart : goal.walk-requires-clause-apart
walk-requires-clause-apart c =
    subst IsChain (sym (c.items.ensures.items ∙ c.in_ok-normal.ensures)) (chain-normal_of (Some c.args.rule.total) c.args.slices.now c.requires.cover)

pub walk-requires-clause-within : goal.walk-requires-clause-within
walk-requires-clause-within c =
    subst (IsWithin c.args.rule.total) (sym (c.items.ensures.items ∙ c.in_ok-normal.ensures)) (within-normal_of c.args.rule.total (Some c.args.rule.total) c.args.slices.now c.requires.cover c.requires.within)

pub returns-clause-cover : goal.returns-clause-cover
returns-clause-cover c =
    cover-planned c.args.rule.total c.args.rule.least c.from.result (64 - c.count.result) c.args.slices.now c.items.result.now c.in_ok-opened.opened.items c.walk.new.opened.items _ _ c.requires.cover
    (c.items.ensures.items ∙ c.in_ok-normal.ensures) c.in_ok-opened.ensures.items c.in_ok-walk.ensures c.requires.total

pub returns-clause-most : goal.returns-clause-most
returns-clause-most c =
    let most = length-planned c.args.rule.total c.args.rule.least c.from.result (64 - c.count.result) c.args.slices.now c.items.result.now c.in_ok-opened.opened.items c.walk.new.opened.items _ _ c.requires.cover
    (c.items.ensures.items ∙ c.in_ok-normal.ensures) c.in_ok-opened.ensures.items c.in_ok-walk.ensures in
    let same = ap length c.items.ensures.items in
    omega (arith, c.count.ensures.count)

pub returns-clause-fills : goal.returns-clause-fills
returns-clause-fills c =
    let planned : IsPlanned c.args.rule.total c.args.n c.args.rule.least c.args.slices.now c.walk.new.opened.items c.walk.new.parts.items = first_of (search rules, grind (arith, common_steps)) in
    subst (FillsHoles c.args.rule.total c.args.slices.now) (sym planned.parts)
    (plan_of-fills c.args.rule.total c.args.n c.args.rule.least c.args.slices.now c.requires.cover c.requires.within (omega arith))

pub returns-clause-grows : goal.returns-clause-grows
returns-clause-grows c =
    let planned : IsPlanned c.args.rule.total c.args.n c.args.rule.least c.args.slices.now c.walk.new.opened.items c.walk.new.parts.items = first_of (search rules, grind (arith, common_steps)) in
    rw (planned.parts, planned.slices) (plan_of-placed c.args.rule.total c.args.n c.args.rule.least c.args.slices.now c.requires.cover c.requires.total (omega arith))

pub returns-clause-places : goal.returns-clause-places
returns-clause-places c =
    let planned : IsPlanned c.args.rule.total c.args.n c.args.rule.least c.args.slices.now c.walk.new.opened.items c.walk.new.parts.items = first_of (search rules, grind (arith, common_steps)) in
    subst (λ (x : List Slice). SamePlaces x c.args.slices.now) (sym planned.slices) (places-planned c.args.rule.total c.args.n c.args.rule.least c.args.slices.now c.requires.cover)
