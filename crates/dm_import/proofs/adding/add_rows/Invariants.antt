use Rattle.std.proofs.Common.{◌≡◌, ◌++◌, length}
use Rattle.std.specs.List.{AllByRecursion}
use Rattle.std.specs.Vec.Iter.{into_iter_items, into_iter_len}
use Rattle.dm_store.specs.Keeps.{IsDesk}
use Rattle.dm_store.specs.Origin.{said_of}
use Rattle.dm_past.specs.ByRows.{RowsRest}
use Rattle.dm_past.specs.Past.{past_of}
use Rattle.dm_past.specs.Working.{TaskGoes}
use Rattle.dm_import.specs.Working.{IsGoodRow}
use Rattle.dm_import.proofs.Chains.{SoFar}
use Rattle.dm_import.proofs.adding.add_rows.Given as goal

abbrev pub invariant-rows : goal.invariant-rows
invariant-rows g l = record {
  kept : IsDesk g.D.Disk.tells g.D.Disk.history l.desk;
  far : SoFar g.K.Keeper.tells l.at l.initial.desk l.desk (past_of g.K.Keeper.rows g.K.Keeper.faults l.initial.keeper) l.yielded l.all;
  goes : TaskGoes g.D.Disk.tells g.D.Disk.history g.D.Disk.faults g.D.Disk.far (λ o. said_of (g.O.Origin.says o)) l.initial.desk l.desk (past_of g.K.Keeper.rows g.K.Keeper.faults l.initial.keeper) (past_of g.K.Keeper.rows g.K.Keeper.faults l.keeper);
  rest : RowsRest g.K.Keeper.tells (past_of g.K.Keeper.rows g.K.Keeper.faults l.initial.keeper) (past_of g.K.Keeper.rows g.K.Keeper.faults l.keeper);
  left : l.fn.rows ≡ l.yielded ++ into_iter_items l.row-iterator;
  good : AllByRecursion IsGoodRow (into_iter_items l.row-iterator);
  number : into_iter_len l.row-iterator ≡ length (into_iter_items l.row-iterator);
}
