use Rattle.std.proofs.Common.{◌≡◌, ◌∙◌, List, None, ap, rules, subst, sym}
use Rattle.dm_types.specs.declared.slices.Slice.{Slice}
use Rattle.dm_slice.specs.Cover.{IsCover, SamePlaces, normal_of}
use Rattle.dm_slice.specs.Plan.{AreAtSlices, FillsHoles, open_part}
use Rattle.dm_slice.proofs.Joins.{normal_of-meaning}
use Rattle.dm_slice.proofs.Opened.{cover-normal_of}
use Rattle.dm_slice.proofs.Rounds.{open-fills, open-placed}
use Rattle.dm_slice.proofs.cover.planned_open.Goals as goal

pub open_parts-requires-clause-cover : goal.open_parts-requires-clause-cover
open_parts-requires-clause-cover c = subst IsCover (sym (c.items-2.ensures.items ∙ c.in_ok-normal.ensures)) (cover-normal_of None c.args.slices.now c.requires.cover)

pub returns-clause-cover : goal.returns-clause-cover
returns-clause-cover c =
    let copied : c.extend_from_slice.new.self.items ≡ c.items.result.now = search rules in
    subst IsCover (sym (copied ∙ c.items.ensures.items ∙ c.in_ok-normal.ensures)) (cover-normal_of None c.args.slices.now c.requires.cover)

pub returns-clause-places : goal.returns-clause-places
returns-clause-places c =
    let copied : c.extend_from_slice.new.self.items ≡ c.items.result.now = search rules in
    subst (λ (x : List Slice). SamePlaces x c.args.slices.now) (sym (copied ∙ c.items.ensures.items ∙ c.in_ok-normal.ensures)) (normal_of-meaning None c.args.slices.now c.requires.cover).places

pub returns-clause-grows : goal.returns-clause-grows
returns-clause-grows c =
    let normal : List Slice = normal_of None c.args.slices.now in
    let copied : c.extend_from_slice.new.self.items ≡ c.items.result.now = search rules in
    let parts = c.in_ok-parts.ensures ∙ ap open_part (c.items-2.ensures.items ∙ c.in_ok-normal.ensures) in
    let placed = subst (AreAtSlices normal) (sym parts) (open-placed normal (cover-normal_of None c.args.slices.now c.requires.cover)) in
    subst (λ (x : List Slice). AreAtSlices x c.in_ok-parts.parts.items) (sym (copied ∙ c.items.ensures.items ∙ c.in_ok-normal.ensures)) placed

pub returns-clause-fills : goal.returns-clause-fills
returns-clause-fills c =
    let parts = c.in_ok-parts.ensures ∙ ap open_part (c.items-2.ensures.items ∙ c.in_ok-normal.ensures) in
    subst (FillsHoles 1099511627776 c.args.slices.now) (sym parts) (open-fills c.args.slices.now c.requires.cover)
