use Rattle.std.proofs.Common.{◌≡◌, ◌-◌, ◌<◌, ◌≤◌, List, ℕ, length, take, Some}
use Rattle.sha2.specs.Hashers.{Holds256}
use Rattle.dm_types.specs.Faults.{NoneFell}
use Rattle.dm_disk_model.specs.Disk.{now, bytes_at}
use Rattle.dm_part.proofs.hashing.digest.Given as goal

abbrev pub invariant-pieces : goal.invariant-pieces
invariant-pieces g l = record {
  stays : g.D.Disk.history l.disk ≡ g.D.Disk.history l.initial.disk;
  taken : g.D.Disk.tells → (file : List ℕ) → bytes_at (now (g.D.Disk.history l.initial.disk)) l.part ≡ Some file → (l.at ≤ length file) × Holds256 l.hasher (take l.at file);
  below : l.at ≤ l.total;
  later : NoneFell (g.D.Disk.faults l.initial.disk) (g.D.Disk.faults l.disk);
  far : g.D.Disk.far l.disk ≡ g.D.Disk.far l.initial.disk;
  room : 0 < length l.buf;
}

abbrev pub decreases-pieces : goal.decreases-pieces
decreases-pieces g l = l.total - l.at
