use Rattle.std.proofs.Common.{◌≡◌, Some, refl, sym, ◌∙◌, ap, subst, arith}
use Rattle.dm_disk_model.specs.Disk.{History, bytes_at, now}
use Rattle.dm_journal.proofs.Fronts.{nothing_read}
use Rattle.dm_import.proofs.Fronts.{long_front}
use Rattle.dm_import.proofs.reading.read_pieces.Goals as goal

pub pieces-init : goal.pieces-init
pieces-init g c = record {
  stays = refl;
  front = λ tells file reads. nothing_read file c.new-bytes.result.items c.new-bytes.ensures.items;
  later = λ kind. omega arith;
  far = refl;
  room = c.requires.room;
}

pub returns-in-Ok-eq0-clause-found : goal.returns-in-Ok-eq0-clause-found
returns-in-Ok-eq0-clause-found g c tells file reads =
    let read =
    c.in-Ok-eq0.ensures.read tells file (subst (λ (h : History). bytes_at (now h) c.args.place.now ≡ Some file) (sym c.pieces.invariant.stays) reads) (c.pieces.invariant.front tells file reads) in
    reads ∙ ap Some (read.1 c.in-Ok-eq0.field-0-test ∙ sym (c.in-Ok-eq0.ensures.same c.in-Ok-eq0.field-0-test) ∙ sym c.from_vec.ensures)

pub returns-clause-found : goal.returns-clause-found
returns-clause-found g c tells file reads =
    long_front (now (g.D.Disk.history c.args.disk.now)) c.args.place.now file c.pieces.bytes.items reads (c.pieces.invariant.front tells file reads) (omega (arith, c.pieces-test.false, c.len.ensures, c.pieces.bytes.ok.0))
