use Rattle.std.proofs.Common.{◌≡◌, List, ℕ, ◌+◌, [], length, Option, IfSome, refl, subst, arith}
use Rattle.dm_disk_model.specs.Disk.{Reads, bytes_at, now}
use Rattle.dm_journal.proofs.Fronts.{read_ahead}
use Rattle.dm_import.proofs.reading.read_more.Goals as goal

pub returns-in-Ok-extend_from_slice-clause-read : goal.returns-in-Ok-extend_from_slice-clause-read
returns-in-Ok-extend_from_slice-clause-read g c tells file reads front =
    let place : c.len.result ≡ 0 + length c.args.bytes.now.items = omega (arith, c.len.ensures, c.args.bytes.now.ok.0) in
    read_ahead file [] c.args.bytes.now.items c.read_at.new.buf c.extend_from_slice.new.self.items 0 c.in-Ok.count
    (omega (arith, c.requires.room, c.read_at.auto.buf)) refl
    (subst (λ (found : Option (List ℕ)). IfSome found (λ whole. Reads whole (0 + length c.args.bytes.now.items) c.in-Ok.count c.read_at.new.buf)) reads
    (subst (λ (at : ℕ). IfSome (bytes_at (now (g.D.Disk.history c.args.disk.now)) c.args.place.now) (λ whole. Reads whole at c.in-Ok.count c.read_at.new.buf)) place (c.in-Ok.ensures.read tells)))
    c.in-Ok-extend_from_slice.ensures.items front
