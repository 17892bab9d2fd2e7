use Rattle.std.proofs.Common.{arith, inl, refl}
use Rattle.dm_hear.proofs.Heads.{full_long}
use Rattle.dm_hear.proofs.judge.judge_open.Goals as goal

pub returns-then-front-eq-MOST_REQUEST : goal.returns-then-front-eq-MOST_REQUEST
returns-then-front-eq-MOST_REQUEST c = (refl, full_long c.args.front.now c.requires.open_head c.if-front-eq-MOST_REQUEST.true)

pub returns : goal.returns
returns c =
    (omega (arith, c.requires.front, c.if-front-eq-MOST_REQUEST.false), inl (record { short = omega (arith, c.requires.front, c.if-front-eq-MOST_REQUEST.false); open_head = c.requires.open_head }))
