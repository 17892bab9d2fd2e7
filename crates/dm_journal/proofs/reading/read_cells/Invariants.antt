use Rattle.std.proofs.Common.{◌≡◌, ◌+◌, ◌-◌, ◌^◌, ◌<◌, ◌≤◌, ◌++◌, List, ℕ, length, Some}
use Rattle.dm_disk_model.specs.Disk.{now, bytes_at}
use Rattle.dm_types.specs.Faults.{NoneFell}
use Rattle.dm_journal.specs.Text.{AllFit, front, header}
use Rattle.dm_journal.specs.Reading.{IsFront}
use Rattle.dm_journal.proofs.reading.read_cells.Given as goal

abbrev pub invariant-pieces : goal.invariant-pieces
invariant-pieces g l = record {
  stays : g.D.Disk.history l.disk ≡ g.D.Disk.history l.initial.disk;
  before : g.D.Disk.tells → (file : List ℕ) → bytes_at (now (g.D.Disk.history l.initial.disk)) l.place ≡ Some file → IsFront (header ++ l.initial.ahead.items) file → IsFront (front l.bodies ++ l.ahead.items) file;
  later : NoneFell (g.D.Disk.faults l.initial.disk) (g.D.Disk.faults l.disk);
  far : g.D.Disk.far l.disk ≡ g.D.Disk.far l.initial.disk;
  room : 0 < length l.piece;
  sizes : AllFit l.bodies;
  at : l.at ≡ length (front l.bodies);
  near : l.at + length l.ahead.items ≤ 2 ^ 63;
}

abbrev pub decreases-pieces : goal.decreases-pieces
decreases-pieces g l = 2 ^ 63 - (l.at + length l.ahead.items)
