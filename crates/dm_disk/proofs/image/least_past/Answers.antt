use Rattle.std.proofs.Common.{arith, ◌≡◌, ◌<◌, ◌∙◌, sym, ap, subst, length, get_or, drop, take, List, ℕ, ◌++◌, inl, inr, ⊎_elim}
use Rattle.std.proofs.lemmas.List.{take_at}
use Rattle.dm_disk.specs.Image.{LeastGoesOn}
use Rattle.dm_disk.proofs.Picks.{least_written}
use Rattle.dm_disk.proofs.image.least_past.Goals as goal

pub returns-then-file-written-clause-least : goal.returns-then-file-written-clause-least
returns-then-file-written-clause-least c =
    let old = c.args.bytes.items in
    let new = c.blank.new.bytes in
    let at = c.in-Write.at in
    let long : length new ≡ c.args.bytes.len = omega (arith, c.args.bytes.ok.0) in
    let is : take c.args.bytes.len (new ++ drop (length new) old) ≡ new = take_at new (drop (length new) old) c.args.bytes.len long in
    let within : (k : ℕ) → k < length old → k < length c.deref_mut.result.now = λ k lt. omega (arith, lt, c.deref_mut.ensures.len, c.args.bytes.ok.0) in
    subst (λ (xs : List ℕ). LeastGoesOn c.args.act.now c.args.number c.args.file old xs) (sym is)
    (least_written c.args.act.now c.args.number c.args.file c.in-Write.written at c.in-Write.piece old new c.in-Write.is c.if-file-written.true
    (omega (arith, c.args.bytes.ok.0))
    (λ k lt ge below. c.blank.ensures.inside k (within k lt) ge (omega (arith, below, c.len.ensures)))
    (λ k lt out.
    c.blank.ensures.outside k (within k lt) (⊎_elim (λ front. inl front) (λ back. inr (omega (arith, back, c.len.ensures))) out)
    ∙ ap (λ (xs : List ℕ). get_or xs k 0) c.deref_mut.ensures.value))
