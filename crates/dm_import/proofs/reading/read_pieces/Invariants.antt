use Rattle.std.proofs.Common.{◌≡◌, ◌-◌, ◌<◌, List, ℕ, length, Some}
use Rattle.dm_types.specs.Faults.{NoneFell}
use Rattle.dm_disk_model.specs.Disk.{bytes_at, now}
use Rattle.dm_journal.specs.Reading.{IsFront}
use Rattle.dm_import.proofs.reading.read_pieces.Given as goal

abbrev pub invariant-pieces : goal.invariant-pieces
invariant-pieces g l = record {
  stays : g.D.Disk.history l.disk ≡ g.D.Disk.history l.initial.disk;
  front : g.D.Disk.tells → (file : List ℕ) → bytes_at (now (g.D.Disk.history l.initial.disk)) l.place ≡ Some file → IsFront l.bytes.items file;
  later : NoneFell (g.D.Disk.faults l.initial.disk) (g.D.Disk.faults l.disk);
  far : g.D.Disk.far l.disk ≡ g.D.Disk.far l.initial.disk;
  room : 0 < length l.piece;
}

abbrev pub decreases-pieces : goal.decreases-pieces
decreases-pieces g l = 1048577 - length l.bytes.items
