use Rattle.std.proofs.Common.{◌-◌, List, false, length, take, drop, get_or, subst, sym}
use Rattle.std.proofs.lemmas.Result.{on_ok_weaker}
use Rattle.dm_types.specs.declared.slices.Slice.{Slice}
use Rattle.dm_slice.specs.Plan.{Walked}
use Rattle.dm_slice.proofs.Plans.{walk_step, first_and_rest}
use Rattle.dm_slice.proofs.plan.+walk.Goals as goal

pub returns-else-k-eq0 : goal.returns-else-k-eq0
returns-else-k-eq0 t c =
    let slices = c.args.slices.now in
    let none : Slice = record { first = 0; got = 0; finished = false } in
    let rule = c.args.rule in
    let opened = c.args.opened.now.items in
    let parts = c.args.parts.now.items in
    on_ok_weaker c.walk-else-k-eq0.result
    (λ done. subst (λ (list : List Slice). Walked rule.total rule.least c.args.left c.args.room list opened c.walk-else-k-eq0.new.opened.items parts c.walk-else-k-eq0.new.parts.items)
    (sym (first_and_rest slices none c.in-len1-up.len_at_least))
    (walk_step rule.total rule.least c.args.left c.args.room c.in_ok-k-in-len1-up.k (get_or slices 0 none) (take (length slices - 1) (drop 1 slices)) opened _ _ _ parts _ _
    c.in_ok-push-in-len1-up.ensures.items c.in_ok-k-in-len1-up.ensures c.if-k-eq0.false done))
    c.walk-else-k-eq0.ensures
