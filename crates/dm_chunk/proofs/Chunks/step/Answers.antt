use Rattle.std.proofs.Common.{arith, ◌≡◌, ℕ, ◌⊎◌, inl, inr, false, ap}
use Rattle.dm_chunk.specs.Machine.{is_stop}
use Rattle.dm_chunk.specs.declared.place.Place.{Place}
use Rattle.dm_chunk.specs.declared.place.Place.TheVariants.{Digits, Blanks, Extension, LineEnd, DataEnd, TrailerStart, Trailer, TrailerEnd, LastEnd}
use Rattle.dm_chunk.proofs.StepLemmas.{end_step, broken_step, more_step}
use Rattle.dm_chunk.proofs.Chunks.step.Goals as goal

pub returns-in-Done-clause-decodes : goal.returns-in-Done-clause-decodes
returns-in-Done-clause-decodes c = λ read content h.
    let now = c.skip_framing-from.ensures.reads read content h in
    (end_step read content c.args.ahead.now c.skip_framing-from.result c.skip_framing-from.new.self c.in-Done.is now, now)

pub returns-in-Broken-clause-decodes : goal.returns-in-Broken-clause-decodes
returns-in-Broken-clause-decodes c = λ read content h.
    broken_step read content c.args.ahead.now c.skip_framing-from.result c.skip_framing-from.new.self c.in-Broken.is (c.skip_framing-from.ensures.reads read content h)

pub returns-in-Data-clause-decodes : goal.returns-in-Data-clause-decodes
returns-in-Data-clause-decodes c = λ read content h.
    c.take_data.ensures.decodes read content (c.skip_framing-from.ensures.reads read content h)

going : (p : Place) → ((x : ℕ) × (y : ℕ) × (p ≡ Digits x y)) ⊎ (((x : ℕ) × (y : ℕ) × (p ≡ Blanks x y)) ⊎ (((x : ℕ) × (y : ℕ) × (p ≡ Extension x y)) ⊎ (((x : ℕ) × (p ≡ LineEnd x)) ⊎ ((p ≡ DataEnd) ⊎ (((x : ℕ) × (p ≡ TrailerStart x)) ⊎ (((x : ℕ) × (p ≡ Trailer x)) ⊎ (((x : ℕ) × (p ≡ TrailerEnd x)) ⊎ ((x : ℕ) × (p ≡ LastEnd x))))))))) → is_stop p ≡ false
going p (inl h) = ap is_stop h.2
going p (inr (inl h)) = ap is_stop h.2
going p (inr (inr (inl h))) = ap is_stop h.2
going p (inr (inr (inr (inl h)))) = ap is_stop h.1
going p (inr (inr (inr (inr (inl h))))) = ap is_stop h
going p (inr (inr (inr (inr (inr (inl h)))))) = ap is_stop h.1
going p (inr (inr (inr (inr (inr (inr (inl h))))))) = ap is_stop h.1
going p (inr (inr (inr (inr (inr (inr (inr (inl h)))))))) = ap is_stop h.1
going p (inr (inr (inr (inr (inr (inr (inr (inr h)))))))) = ap is_stop h.1

pub returns-in-Digits : goal.returns-in-Digits
returns-in-Digits c = record {
  within = tt;
  decodes = λ read content h.
      let goes = going c.skip_framing-from.new.self.place c.in-Digits.is in
      more_step read content c.args.ahead.now c.skip_framing-from.result c.skip_framing-from.new.self goes (c.skip_framing-from.ensures.stops goes) (c.skip_framing-from.ensures.reads read content h);
  waits =
      let all = c.skip_framing-from.ensures.stops (going c.skip_framing-from.new.self.place c.in-Digits.is) in
      omega (arith, all, c.skip_framing-from.ensures.waits);
}
