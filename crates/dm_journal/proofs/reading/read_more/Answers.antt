use Rattle.std.proofs.Common.{List, ℕ, ◌+◌, length, Option, IfSome, ◌∙◌, ap, subst, arith}
use Rattle.dm_disk_model.specs.Disk.{Reads, bytes_at, now}
use Rattle.dm_journal.proofs.Fronts.{read_ahead}
use Rattle.dm_journal.proofs.reading.read_more.Goals as goal

pub returns-in-Ok-extend_from_slice-clause-read : goal.returns-in-Ok-extend_from_slice-clause-read
returns-in-Ok-extend_from_slice-clause-read g c tells before file reads is front =
    read_ahead file before c.args.ahead.now.items c.read_at.new.buf c.extend_from_slice.new.self.items c.args.at c.in-Ok.count
    (omega (arith, c.requires.room, c.read_at.auto.buf)) is
    (subst (λ (found : Option (List ℕ)). IfSome found (λ whole. Reads whole (c.args.at + length c.args.ahead.now.items) c.in-Ok.count c.read_at.new.buf)) reads
    (subst (λ (place : ℕ). IfSome (bytes_at (now (g.D.Disk.history c.args.disk.now)) c.args.place.now) (λ whole. Reads whole place c.in-Ok.count c.read_at.new.buf)) (ap (λ (n : ℕ). c.args.at + n) (c.len.ensures ∙ c.args.ahead.now.ok.0)) (c.in-Ok.ensures.read tells)))
    c.in-Ok-extend_from_slice.ensures.items front
