use Rattle.std.proofs.Common.{sym}
use Rattle.dm_store.specs.Store.{view_of}
use Rattle.dm_begin.proofs.Firsts.{item_sound}
use Rattle.dm_begin.proofs.beginning.ready_began.Goals as goal

pub make_life-requires : goal.make_life-requires
make_life-requires g c =
    (item_sound g.D.Disk.tells g.D.Disk.history (view_of c.ready_body.new.store) c.args.id.0 c.in-Some.item.now c.ready_body.ensures.store.desk (sym c.in-Some.ensures)).covered
