-- One share grows.
use Rattle.std.proofs.Common.{◌≡◌, ◌≢◌, ℕ, suc, zero, List, [], ◌∷◌, ◌++◌, length, Option, Some, None, refl, sym, ◌∙◌, ap, arith}
use Rattle.std.specs.Prelude.{slice_get}
use Rattle.std.proofs.lemmas.List.{length-map}
use Rattle.std.proofs.lemmas.Option.{slice_get_within}
use Rattle.dm_slice.specs.declared.plan.Part.{Part}
use Rattle.dm_attempt.specs.Shares.{Share, added, Keeps, Grows}

some_same : (s share : Share) (piece : List ℕ) → Some s ≡ Some share → Some (record s { bytes = s.bytes ++ piece }) ≡ Some (record share { bytes = share.bytes ++ piece })
some_same s share piece e = ap (λ (o : Option Share). elim o [ Some (x) ↦ Some (record x { bytes = x.bytes ++ piece }) | None ↦ None ]) e

pub added_at : (shares : List Share) (k : ℕ) (piece : List ℕ) (share : Share) → slice_get shares k ≡ Some share → slice_get (added shares k piece) k ≡ Some (record share { bytes = share.bytes ++ piece })
added_at [] k piece share at = absurd (omega (arith, slice_get_within [] k share at))
added_at (s ∷ shares) zero piece share at = some_same s share piece at
added_at (s ∷ shares) (suc k) piece share at = added_at shares k piece share at

pub added_other : (shares : List Share) (k : ℕ) (piece : List ℕ) (j : ℕ) → j ≢ k → slice_get (added shares k piece) j ≡ slice_get shares j
added_other [] k piece j other = refl
added_other (s ∷ shares) zero piece zero other = absurd (other refl)
added_other (s ∷ shares) zero piece (suc j) other = refl
added_other (s ∷ shares) (suc k) piece zero other = refl
added_other (s ∷ shares) (suc k) piece (suc j) other = added_other shares k piece j (λ e. other (ap suc e))

pub added_keeps : (shares : List Share) (k : ℕ) (piece : List ℕ) → Keeps shares (added shares k piece)
added_keeps [] k piece = refl
added_keeps (s ∷ shares) zero piece = refl
added_keeps (s ∷ shares) (suc k) piece = ap (λ (parts : List Part). s.part ∷ parts) (added_keeps shares k piece)

pub grows : (shares : List Share) (k : ℕ) (piece : List ℕ) → Grows k shares (added shares k piece)
grows shares k piece = record { keeps = added_keeps shares k piece; others = added_other shares k piece }

pub keeps_length : (old new : List Share) → Keeps old new → length new ≡ length old
keeps_length old new keeps =
    let part : Share → Part = λ (share : Share). share.part in
    sym (length-map new part) ∙ ap length keeps ∙ length-map old part
