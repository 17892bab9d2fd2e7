use Rattle.std.proofs.Common.{◌≡◌, inl, [], length, Some, refl, sym, ◌∙◌, ap, subst, arith}
use Rattle.dm_disk_model.specs.Disk.{History, now, bytes_at}
use Rattle.dm_journal.proofs.Fronts.{nothing_read, no_header, short_file, header_front}
use Rattle.dm_journal.proofs.reading.read_header.Goals as goal

pub pieces-init : goal.pieces-init
pieces-init g c = record {
  stays = refl;
  front = λ tells file reads. nothing_read file c.args.ahead.now.items c.requires.nothing;
  later = λ kind. omega arith;
  far = refl;
  room = c.requires.room;
  near = omega (arith, ap length c.requires.nothing);
}

pub pieces-preserved : goal.pieces-preserved
pieces-preserved g c = record {
  stays = c.read_more.ensures.stays ∙ c.pieces.invariant.stays;
  front = λ tells file reads.
      (c.in-Ok.ensures.read tells [] file (subst (λ (h : History). bytes_at (now h) c.args.place.now ≡ Some file) (sym c.pieces.invariant.stays) reads) refl
      (c.pieces.invariant.front tells file reads)).0;
  later = λ kind. omega (arith, c.pieces.invariant.later kind, c.read_more.ensures.cause.later kind);
  far = c.read_more.ensures.far ∙ c.pieces.invariant.far;
  room = omega (arith, c.pieces.invariant.room, c.read_more.auto.piece);
  near = omega (arith, c.in-Ok.ensures.more);
}

pub returns-in-Ok-eq0-clause-read : goal.returns-in-Ok-eq0-clause-read
returns-in-Ok-eq0-clause-read g c tells file reads =
    let read = c.in-Ok-eq0.ensures.read tells [] file (subst (λ (h : History). bytes_at (now h) c.args.place.now ≡ Some file) (sym c.pieces.invariant.stays) reads) refl
    (c.pieces.invariant.front tells file reads) in
    let whole : file ≡ c.pieces.ahead.items = read.1 c.in-Ok-eq0.field-0-test in
    inl (short_file file (omega (arith, ap length whole, c.pieces-test.true, c.len.ensures, c.pieces.ahead.ok.0)), refl)

pub returns-in-Some-clause-read : goal.returns-in-Some-clause-read
returns-in-Some-clause-read g c tells file reads =
    header_front file c.pieces.ahead.items c.in-Some.field-0.now c.drop_front.new.bytes.items (c.pieces.invariant.front tells file reads) (sym c.deref.ensures.value ∙ c.in-Some.ensures) c.drop_front.ensures

pub returns-in-None-clause-read : goal.returns-in-None-clause-read
returns-in-None-clause-read g c tells file reads =
    inl (no_header file c.pieces.ahead.items (c.pieces.invariant.front tells file reads) (omega (arith, c.pieces-test.false, c.len.ensures, c.pieces.ahead.ok.0)) (λ rest is. c.in-None.ensures rest (c.deref.ensures.value ∙ is)), refl)
