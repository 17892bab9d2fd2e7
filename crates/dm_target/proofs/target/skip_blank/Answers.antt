use Rattle.std.proofs.Common.{◌++◌, ◌∷◌, []}
use Rattle.dm_target.proofs.Stripping.{one_more_end}
use Rattle.dm_target.proofs.target.skip_blank.Goals as goal

pub loop-rest-preserved : goal.loop-rest-preserved
loop-rest-preserved c =
    let was = c.loop-rest.invariant in
    let end = c.in-Some.ensures.some in
    record { blank = was.blank ++ end.0 ∷ []; is = one_more_end c.args.front.now c.loop-rest.line.now c.in-Some.rest.now was.blank end.0 was.is end.1 }
