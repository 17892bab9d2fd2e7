use Rattle.std.proofs.Common.{◌≡◌, ℕ, ◌++◌, ◌+◌, length, take, get_or, refl, sym, ap, subst, ◌∙◌, arith}
use Rattle.dm_chunk.specs.Decoded.{Stands, HasDecoded}
use Rattle.dm_chunk.specs.declared.place.Place.{Place}
use Rattle.dm_chunk.specs.Waits.{framing_from}
use Rattle.dm_chunk.proofs.StepLemmas.{step_more}
use Rattle.dm_chunk.proofs.WaitLemmas.{falls}
use Rattle.dm_chunk.proofs.Chunks.skip_framing.Goals as goal

pub loop-at-preserved : goal.loop-at-preserved
loop-at-preserved c = record {
  reads = λ read content h. record {
    stands = subst (λ (p : Place). Stands (read ++ take (c.loop-at.at + 1) c.args.ahead.now) content p) (sym c.after-self.ensures)
        (step_more c.loop-at.self.place read content c.args.ahead.now c.loop-at.at _ (omega arith) refl (sym c.is_stop.ensures ∙ c.if-is_stop.false) (c.loop-at.invariant.reads read content h).stands);
  };
  waits =
      let less = falls c.loop-at.self.place (get_or c.args.ahead.now c.loop-at.at 0) (sym c.is_stop.ensures ∙ c.if-is_stop.false) in
      let now = ap framing_from c.after-self.ensures in
      omega (arith, less, now, c.loop-at.invariant.waits);
}

pub returns-clause-reads : goal.returns-clause-reads
returns-clause-reads c = λ read content h.
    let whole : c.loop-at.at ≡ length c.args.ahead.now = omega arith in
    subst (λ (n : ℕ). HasDecoded (read ++ take n c.args.ahead.now) content c.loop-at.self) whole (c.loop-at.invariant.reads read content h)
