use Rattle.std.proofs.Common.{◌≢◌, arith}
use Rattle.dm_types.specs.declared.item.Item.{Item}
use Rattle.dm_item.specs.Words.{HasNoWord}
use Rattle.dm_item.proofs.Each.{by_front, word_at}
use Rattle.dm_item.proofs.items.find_word.Goals as goal

pub returns-then-is-clause-some : goal.returns-then-is-clause-some
returns-then-is-clause-some c =
    word_at c.args.word.now c.args.items.now c.loop-item.item-index c.item-item.result c.loop-item.invariant (omega arith) c.item-item.is (c.is.ensures.0 c.if-is.true)

pub returns-clause-none : goal.returns-clause-none
returns-clause-none c =
    let word = c.args.word.now in
    by_front (λ (item : Item). item.word ≢ word) (HasNoWord word) tt (λ item rest here others. (here, others)) c.args.items.now
    (λ k d below. c.loop-item.invariant k d (omega arith))
