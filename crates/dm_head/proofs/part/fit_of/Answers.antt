use Rattle.std.proofs.Common.{sym, subst, map, ℕ, List}
use Rattle.httparse.specs.Spans.{header_bytes}
use Rattle.dm_edge.specs.declared.wanted.Wanted.{Wanted}
use Rattle.dm_edge.specs.declared.wanted.Wanted.TheVariants.{Part}
use Rattle.dm_edge.specs.Part.{IsAskedPart}
use Rattle.dm_edge.specs.Begins.{IsOtherPart}
use Rattle.dm_head.specs.Fit.{IsFit}
use Rattle.dm_head.proofs.part.fit_of.Goals as goal

pub returns-in-Whole : goal.returns-in-Whole
returns-in-Whole c =
    let fields = map (header_bytes c.args.head.now) c.args.fields.now in
    subst (λ (wanted : Wanted). IsFit wanted fields c.args.framing c.whole_fit.result) (sym c.in-Whole.is) (c.whole_fit.ensures fields)

pub returns-in-Some : goal.returns-in-Some
returns-in-Some c =
    let fields = map (header_bytes c.args.head.now) c.args.fields.now in
    let part = c.in-Some.part in
    let last = c.in-Part.last in
    let known = c.in-Part.total in
    let asked = subst (λ (first : ℕ). IsAskedPart first last c.bytes.result.now known fields part.to part.total) (sym c.in-Some.ensures.first)
    c.in-Some.ensures.found in
    let fits = c.part_fit.ensures last c.bytes.result.now known fields asked in
    let first_fits = subst (λ (first : ℕ). IsFit (Part first last c.bytes.result.now known) fields c.args.framing c.part_fit.result) c.in-Some.ensures.first fits in
    let tag_fits = subst (λ (tag : List ℕ). IsFit (Part c.in-Part.first last tag known) fields c.args.framing c.part_fit.result) c.bytes.ensures first_fits in
    subst (λ (wanted : Wanted). IsFit wanted fields c.args.framing c.part_fit.result) (sym c.in-Part.is) tag_fits

pub returns-in-None : goal.returns-in-None
returns-in-None c =
    let fields = map (header_bytes c.args.head.now) c.args.fields.now in
    let other = c.in-None.ensures.none in
    let tag_other = subst (λ (tag : List ℕ). IsOtherPart (Part c.in-Part.first c.in-Part.last tag c.in-Part.total) fields) c.bytes.ensures other in
    subst (λ (wanted : Wanted). IsOtherPart wanted fields) (sym c.in-Part.is) tag_other
