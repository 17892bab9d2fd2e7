use Rattle.std.proofs.Common.{refl}
use Rattle.dm_store.specs.Origin.{said_of}
use Rattle.dm_store.proofs.Keeping.{keeps_same}
use Rattle.dm_archive.proofs.Leaves.{move_put, row_goes, row_numbered, row_total}
use Rattle.dm_archive.proofs.Nexts.{found_row}
use Rattle.dm_archive.proofs.moving.move_row.Goals as goal

pub put-requires-clause-id : goal.put-requires-clause-id
put-requires-clause-id g c = row_numbered c.args.desk.now c.requires.kept c.args.row.now (found_row c.args.desk.now.items.items c.args.row.now c.requires.next)

pub put-requires-clause-total : goal.put-requires-clause-total
put-requires-clause-total g c = row_total c.args.desk.now c.requires.kept c.args.row.now (found_row c.args.desk.now.items.items c.args.row.now c.requires.next)

pub leave-requires-clause-goes : goal.leave-requires-clause-goes
leave-requires-clause-goes g c = row_goes c.args.desk.now c.requires.kept c.args.row.now (found_row c.args.desk.now.items.items c.args.row.now c.requires.next)

pub returns-in-Ok-clause-answers : goal.returns-in-Ok-clause-answers
returns-in-Ok-clause-answers g c =
    move_put g.K.Keeper.tells c.args.desk.now c.leave.new.desk (g.K.Keeper.rows c.args.keeper.now) (g.K.Keeper.rows c.put.new.keeper) c.args.row.now (found_row c.args.desk.now.items.items c.args.row.now c.requires.next)
    c.leave.result c.leave.ensures.answers c.in-Ok.ensures.put

pub returns-in-Err-clause-keeps : goal.returns-in-Err-clause-keeps
returns-in-Err-clause-keeps g c = keeps_same g.D.Disk.tells g.D.Disk.history (λ o. said_of (g.O.Origin.says o)) c.args.desk.now c.args.desk.now refl
