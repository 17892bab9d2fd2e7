use Rattle.std.proofs.Common.{◌-◌, length, take, ap, ◌∙◌, arith}
use Rattle.std.proofs.lemmas.List.{take_rest}
use Rattle.std.specs.Prelude.{min}
use Rattle.dm_generated_net.proofs.Giving.{by_body, by_head, stream_length}
use Rattle.dm_generated_net.proofs.wire.give.Goals as goal

pub returns-then-from-size : goal.returns-then-from-size
returns-then-from-size c =
    let head = c.args.head.now in
    let rest = take_rest head c.args.given in
    by_head c.args.number c.args.wire c.args.reply head c.args.given (length c.args.buf.now) c.give_head.result c.give_head.new.buf c.requires.good c.requires.head (omega (arith, c.if-from-size.true))
    (c.give_head.ensures.size ∙ ap (λ bytes. min (length c.args.buf.now) (length bytes)) rest)
    (c.give_head.ensures.bytes ∙ ap (take c.give_head.result) rest)

pub give_rest-requires-clause-at : goal.give_rest-requires-clause-at
give_rest-requires-clause-at c =
    let long = stream_length c.args.number c.args.wire c.args.reply c.requires.good in
    omega (arith, long, c.requires.given, ap length c.requires.head, c.if-from-size.false)

pub returns : goal.returns
returns c =
    let long = stream_length c.args.number c.args.wire c.args.reply c.requires.good in
    let head = c.args.head.now in
    by_body c.args.number c.args.wire c.args.reply head c.args.given (c.args.given - length head) (length c.args.buf.now) c.give_rest.result c.give_rest.new.buf c.requires.good c.requires.head (omega (arith, c.if-from-size.false))
    (omega (arith, long, c.requires.given, ap length c.requires.head)) c.give_rest.ensures.size c.give_rest.ensures.bytes
