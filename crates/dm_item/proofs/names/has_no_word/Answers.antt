use Rattle.std.proofs.Common.{rules, ◌≢◌}
use Rattle.dm_types.specs.declared.item.Item.{Item}
use Rattle.dm_item.specs.Words.{HasNoWord}
use Rattle.dm_item.proofs.Each.{tests}
use Rattle.dm_item.proofs.names.has_no_word.Goals as goal

pub returns : goal.returns
returns c =
    let each = λ (item : Item). item.word ≢ c.args.word.now in
    tests each (HasNoWord c.args.word.now) c.all.result c.args.items.now tt (λ item rest here others. (here, others)) (λ item rest both. both) (search rules)
