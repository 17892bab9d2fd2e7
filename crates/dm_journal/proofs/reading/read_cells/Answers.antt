use Rattle.std.proofs.Common.{◌≡◌, ◌+◌, ◌^◌, ◌++◌, ℕ, List, length, drop, Some, refl, sym, ◌∙◌, ap, subst, arith, length-drop}
use Rattle.dm_disk_model.specs.Disk.{History, now, bytes_at}
use Rattle.dm_journal.specs.Text.{AllFit, front}
use Rattle.dm_journal.specs.Taking.{TakesCells, EndsSo}
use Rattle.dm_journal.specs.Reading.{IsFront}
use Rattle.dm_journal.specs.declared.text.End.{End}
use Rattle.dm_journal.proofs.Fronts.{taken_front, taken_place, shut_below, shut_text, broken_text, ended_text}
use Rattle.dm_journal.proofs.reading.read_cells.Goals as goal

pub pieces-init : goal.pieces-init
pieces-init g c = record {
  stays = refl;
  before = λ tells file reads before. subst (λ (bodies : List (List ℕ)). IsFront (front bodies ++ c.args.ahead.now.items) file) (sym c.new-bodies.ensures) before;
  later = λ kind. omega arith;
  far = refl;
  room = c.requires.room;
  sizes = subst AllFit (sym c.new-bodies.ensures) tt;
  at = ap (λ (bodies : List (List ℕ)). length (front bodies)) (sym c.new-bodies.ensures);
  near = c.requires.near;
}

pub overflow_add-at : goal.overflow_add-at
overflow_add-at g c =
    let old = c.pieces.bodies in
    let new = c.take_cells.new.bodies in
    let ahead = c.pieces.ahead.items in
    let taken = c.in-Ok.taken in
    let rest = drop taken.count ahead in
    let took : TakesCells old new ahead taken = subst (λ (xs : List ℕ). TakesCells old new xs taken) c.deref.ensures.value c.in-Ok.ensures in
    omega (arith, took.within, c.pieces.invariant.near)

pub returns-in-Shut-clause-read : goal.returns-in-Shut-clause-read
returns-in-Shut-clause-read g c tells file reads before =
    let old = c.pieces.bodies in
    let new = c.take_cells.new.bodies in
    let ahead = c.pieces.ahead.items in
    let taken = c.in-Ok.taken in
    let rest = drop taken.count ahead in
    let took : TakesCells old new ahead taken = subst (λ (xs : List ℕ). TakesCells old new xs taken) c.deref.ensures.value c.in-Ok.ensures in
    shut_text new (took.takes.sizes c.pieces.invariant.sizes) rest file (subst (λ (end : End). EndsSo end rest) c.in-Shut.is took.ends)
    (taken_front old new ahead rest file took.takes (c.pieces.invariant.before tells file reads before))

pub returns-in-Shut-clause-at : goal.returns-in-Shut-clause-at
returns-in-Shut-clause-at g c =
    let old = c.pieces.bodies in
    let new = c.take_cells.new.bodies in
    let ahead = c.pieces.ahead.items in
    let taken = c.in-Ok.taken in
    let rest = drop taken.count ahead in
    let took : TakesCells old new ahead taken = subst (λ (xs : List ℕ). TakesCells old new xs taken) c.deref.ensures.value c.in-Ok.ensures in
    let place = taken_place old new ahead taken.count c.pieces.at took.within took.takes c.pieces.invariant.at in
    (place, shut_below ahead taken.count c.pieces.at (2 ^ 63) took.within (subst (λ (end : End). EndsSo end rest) c.in-Shut.is took.ends) c.pieces.invariant.near)

pub returns-in-Broken-clause-read : goal.returns-in-Broken-clause-read
returns-in-Broken-clause-read g c tells file reads before =
    let old = c.pieces.bodies in
    let new = c.take_cells.new.bodies in
    let ahead = c.pieces.ahead.items in
    let taken = c.in-Ok.taken in
    let rest = drop taken.count ahead in
    let took : TakesCells old new ahead taken = subst (λ (xs : List ℕ). TakesCells old new xs taken) c.deref.ensures.value c.in-Ok.ensures in
    let place = taken_place old new ahead taken.count c.pieces.at took.within took.takes c.pieces.invariant.at in
    broken_text new (took.takes.sizes c.pieces.invariant.sizes) rest file (c.pieces.at + taken.count) (subst (λ (end : End). EndsSo end rest) c.in-Broken.is took.ends) place
    (taken_front old new ahead rest file took.takes (c.pieces.invariant.before tells file reads before))

pub read_more-requires-clause-near : goal.read_more-requires-clause-near
read_more-requires-clause-near g c =
    let old = c.pieces.bodies in
    let new = c.take_cells.new.bodies in
    let ahead = c.pieces.ahead.items in
    let taken = c.in-Ok.taken in
    let rest = drop taken.count ahead in
    let took : TakesCells old new ahead taken = subst (λ (xs : List ℕ). TakesCells old new xs taken) c.deref.ensures.value c.in-Ok.ensures in
    let cut = length-drop taken.count ahead in
    let left = ap length c.drop_front.ensures in
    omega (arith, cut, left, took.within, c.pieces.invariant.near)

pub returns-in-Ok-eq0-clause-read : goal.returns-in-Ok-eq0-clause-read
returns-in-Ok-eq0-clause-read g c tells file reads before =
    let old = c.pieces.bodies in
    let new = c.take_cells.new.bodies in
    let ahead = c.pieces.ahead.items in
    let taken = c.in-Ok.taken in
    let rest = drop taken.count ahead in
    let took : TakesCells old new ahead taken = subst (λ (xs : List ℕ). TakesCells old new xs taken) c.deref.ensures.value c.in-Ok.ensures in
    let place = taken_place old new ahead taken.count c.pieces.at took.within took.takes c.pieces.invariant.at in
    let there = subst (λ (h : History). bytes_at (now h) c.args.place.now ≡ Some file) (sym c.pieces.invariant.stays) reads in
    let behind = subst (λ (xs : List ℕ). IsFront (front new ++ xs) file) (sym c.drop_front.ensures) (taken_front old new ahead rest file took.takes (c.pieces.invariant.before tells file reads before)) in
    let whole = (c.in-Ok-eq0.ensures.read tells (front new) file there place behind).1 c.in-Ok-eq0.field-0-test in
    ended_text new (took.takes.sizes c.pieces.invariant.sizes) rest file (c.pieces.at + taken.count) (subst (λ (end : End). EndsSo end rest) c.in-More.is took.ends) place
    (whole ∙ ap (λ (xs : List ℕ). front new ++ xs) c.drop_front.ensures)

pub pieces-preserved : goal.pieces-preserved
pieces-preserved g c =
    let old = c.pieces.bodies in
    let new = c.take_cells.new.bodies in
    let ahead = c.pieces.ahead.items in
    let taken = c.in-Ok.taken in
    let rest = drop taken.count ahead in
    let took : TakesCells old new ahead taken = subst (λ (xs : List ℕ). TakesCells old new xs taken) c.deref.ensures.value c.in-Ok.ensures in
    let place = taken_place old new ahead taken.count c.pieces.at took.within took.takes c.pieces.invariant.at in
    record {
      stays = c.read_more.ensures.stays ∙ c.pieces.invariant.stays;
      before = λ tells file reads before.
          let there = subst (λ (h : History). bytes_at (now h) c.args.place.now ≡ Some file) (sym c.pieces.invariant.stays) reads in
          let behind = subst (λ (xs : List ℕ). IsFront (front new ++ xs) file) (sym c.drop_front.ensures) (taken_front old new ahead rest file took.takes (c.pieces.invariant.before tells file reads before)) in
          (c.in-Ok-read_more.ensures.read tells (front new) file there place behind).0;
      later = λ kind. omega (arith, c.pieces.invariant.later kind, c.read_more.ensures.cause.later kind);
      far = c.read_more.ensures.far ∙ c.pieces.invariant.far;
      room = omega (arith, c.pieces.invariant.room, c.read_more.auto.piece);
      sizes = took.takes.sizes c.pieces.invariant.sizes;
      at = place;
      near = omega (arith, c.in-Ok-read_more.ensures.more);
    }

pub pieces-smaller : goal.pieces-smaller
pieces-smaller g c =
    let old = c.pieces.bodies in
    let new = c.take_cells.new.bodies in
    let ahead = c.pieces.ahead.items in
    let taken = c.in-Ok.taken in
    let took : TakesCells old new ahead taken = subst (λ (xs : List ℕ). TakesCells old new xs taken) c.deref.ensures.value c.in-Ok.ensures in
    let cut = length-drop taken.count ahead in
    let left = ap length c.drop_front.ensures in
    omega (arith, cut, left, took.within, c.in-Ok-read_more.ensures.more, c.pieces.invariant.near)
