use Rattle.std.proofs.Common.{◌≡◌, ap, ◌∙◌, arith}
use Rattle.dm_generated.specs.Replies.{brought, count_of}
use Rattle.dm_generated_net.proofs.Giving.{brought_most, first_small}
use Rattle.dm_generated_net.proofs.wire.give_rest.Goals as goal

pub overflow_sub-left : goal.overflow_sub-left
overflow_sub-left c =
    let all : c.brought_of-all.result ≡ brought c.args.number c.args.wire (count_of c.args.number c.args.reply) = c.brought_of-all.ensures ∙ ap (brought c.args.number c.args.wire) c.count.ensures.is in
    omega (arith, all, c.requires.at)

pub overflow_add-first : goal.overflow_add-first
overflow_add-first c =
    let most = brought_most c.args.number c.args.wire (count_of c.args.number c.args.reply) in
    let small = first_small c.args.number c.args.reply c.requires.good in
    omega (arith, c.requires.at, most, c.count.ensures.is, c.count.ensures.most, small, c.first.ensures)

pub give_body-requires-clause-first : goal.give_body-requires-clause-first
give_body-requires-clause-first c =
    let most = brought_most c.args.number c.args.wire (count_of c.args.number c.args.reply) in
    let small = first_small c.args.number c.args.reply c.requires.good in
    omega (arith, c.requires.at, most, c.count.ensures.is, c.count.ensures.most, small, c.first.ensures)

pub give_body-requires-clause-left : goal.give_body-requires-clause-left
give_body-requires-clause-left c =
    let all : c.brought_of-all.result ≡ brought c.args.number c.args.wire (count_of c.args.number c.args.reply) = c.brought_of-all.ensures ∙ ap (brought c.args.number c.args.wire) c.count.ensures.is in
    let most = brought_most c.args.number c.args.wire (count_of c.args.number c.args.reply) in
    omega (arith, all, most, c.count.ensures.is, c.count.ensures.most)
