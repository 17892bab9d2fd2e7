use Rattle.std.proofs.Common.{sym}
use Rattle.dm_store.specs.Store.{view_of}
use Rattle.dm_begin.proofs.Starts.{end_small, epoch_counted}
use Rattle.dm_begin.proofs.Firsts.{item_sound}
use Rattle.dm_begin.proofs.beginning.check_begin.Goals as goal

pub start_of-requires-clause-epoch : goal.start_of-requires-clause-epoch
start_of-requires-clause-epoch g c anew =
    epoch_counted c.in-Some.item.now (item_sound g.D.Disk.tells g.D.Disk.history (view_of c.args.store.now) c.args.id.0 c.in-Some.item.now c.requires.store.desk (sym c.in-Some.ensures)) anew

pub start_of-requires-clause-end : goal.start_of-requires-clause-end
start_of-requires-clause-end g c =
    end_small c.in-Some.item.now (item_sound g.D.Disk.tells g.D.Disk.history (view_of c.args.store.now) c.args.id.0 c.in-Some.item.now c.requires.store.desk (sym c.in-Some.ensures))
