use Rattle.std.proofs.Common.{length, ap, ◌∙◌, rules, arith, length-append}
use Rattle.std.proofs.lemmas.Result.{on_ok_weaker}
use Rattle.dm_slice.proofs.Plans.{cut_more, rest_small}
use Rattle.dm_slice.proofs.plan.+cut.Goals as goal

pub cut-requires : goal.cut-requires
cut-requires t c =
    let small = rest_small c.args.k c.args.first c.args.size 1099511627776 c.requires.some c.requires.within in
    let longer = ap length c.in_ok-push-2.ensures.items ∙ length-append c.args.parts.now.items _ in
    (search rules, (omega arith, (omega arith, small)))

pub returns : goal.returns
returns t c = on_ok_weaker c.cut.result (λ done. cut_more c.args.k c.args.first c.args.size c.args.end _ _ _ _ _ _ c.requires.some c.if-k-eq1.false c.in_ok-push-3.ensures.items (search rules) done) c.cut.ensures
