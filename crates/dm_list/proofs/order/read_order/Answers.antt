use Rattle.dm_words.specs.Asked.{wish_of}
use Rattle.dm_list.proofs.Reading.{no_order, order_fits, order_read}
use Rattle.dm_list.proofs.order.read_order.Goals as goal

pub returns-in-Ok-make_order-clause-ok : goal.returns-in-Ok-make_order-clause-ok
returns-in-Ok-make_order-clause-ok c = order_read (wish_of c.args.wish.now) c.in-Ok.address c.in-Ok-make_order.order c.in-Ok.ensures.ok c.in-Ok-make_order.ensures

pub returns-in-Ok-make_order-clause-fits : goal.returns-in-Ok-make_order-clause-fits
returns-in-Ok-make_order-clause-fits c = order_fits (wish_of c.args.wish.now) c.in-Ok.address c.in-Ok-make_order.order c.requires c.in-Ok.ensures.short c.in-Ok-make_order.ensures
