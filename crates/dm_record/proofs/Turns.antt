-- Reading one field after another of one form, as a loop does.
use Rattle.std.proofs.Common.{◌≡◌, ℕ, zero, suc, ◌-◌, ◌+◌, ◌≤◌, ◌<◌, List, [], ◌∷◌, ◌++◌, Ok, Err, refl, sym, ap, ◌∙◌, append_assoc, arith}
use Rattle.std.proofs.lemmas.List.{append-nil}
use Rattle.dm_record.specs.declared.fault.Stop.{Stop}
use Rattle.dm_record.specs.declared.fault.Stop.TheVariants as stops
use Rattle.dm_record.specs.Reading.{Reading, ◌>>=◌, Stops, times_at}

-- what was read before, and what is still read
abbrev pub with_front : {A : Type 0} → List A → Reading (List A) → Reading (List A)
with_front front read = read >>= λ x. Ok (front ++ x.0, x.1)

module _ {A : Type 0} (field : List ℕ → Reading A) where
  step : (front : List A) (n : ℕ) (bytes : List ℕ) (value : A) (after : List ℕ) (read : Reading (List A)) → field bytes ≡ Ok (value, after) → times_at field n after ≡ read
      → with_front front (times_at field (suc n) bytes) ≡ with_front (front ++ value ∷ []) read
  unfolding times_at
  step front n bytes value after (Ok x) h e = rw (h, e) (ap (λ (values : List A). Ok (values, x.1)) (sym (append_assoc front (value ∷ []) x.0)))
  step front n bytes value after (Err stop) h e = rw (h, e) refl

  pub goes_on : (front : List A) (count i : ℕ) (bytes : List ℕ) (value : A) (after : List ℕ) (total : Reading (List A)) → i < count → field bytes ≡ Ok (value, after)
      → with_front front (times_at field (count - i) bytes) ≡ total → with_front (front ++ value ∷ []) (times_at field (count - (i + 1)) after) ≡ total
  goes_on front count i bytes value after total lt h so_far =
      let k : count - i ≡ suc (count - (i + 1)) = omega arith in
      let one = step front (count - (i + 1)) bytes value after (times_at field (count - (i + 1)) after) h refl in
      sym one ∙ sym (ap (λ (n : ℕ). with_front front (times_at field n bytes)) k) ∙ so_far

  stop_is : (stop : Stop) (count : ℕ) (bytes : List ℕ) (front : List A) → field bytes ≡ Err stop → with_front front (times_at field (suc count) bytes) ≡ Err stop
  unfolding times_at
  stop_is stop count bytes front h = rw h refl

  pub ends : (stop : Stop) (front : List A) (count i : ℕ) (bytes : List ℕ) (total : Reading (List A)) → i < count → Stops stop (field bytes)
      → with_front front (times_at field (count - i) bytes) ≡ total → Stops stop total
  ends stops.NoMemory front count i bytes total lt h so_far = tt
  ends stops.Short front count i bytes total lt h so_far =
      let k : count - i ≡ suc (count - (i + 1)) = omega arith in
      sym so_far ∙ ap (λ (n : ℕ). with_front front (times_at field n bytes)) k ∙ stop_is stops.Short (count - (i + 1)) bytes front h
  ends (stops.Stray left) front count i bytes total lt h so_far =
      let k : count - i ≡ suc (count - (i + 1)) = omega arith in
      sym so_far ∙ ap (λ (n : ℕ). with_front front (times_at field n bytes)) k ∙ stop_is (stops.Stray left) (count - (i + 1)) bytes front h

  none_left : (front : List A) (bytes : List ℕ) → with_front front (times_at field zero bytes) ≡ Ok (front, bytes)
  unfolding times_at
  none_left front bytes = ap (λ (values : List A). Ok (values, bytes)) (append-nil front)

  pub is_done : (front : List A) (count i : ℕ) (bytes : List ℕ) (total : Reading (List A)) → count ≤ i → with_front front (times_at field (count - i) bytes) ≡ total → total ≡ Ok (front, bytes)
  is_done front count i bytes total le so_far =
      let k : count - i ≡ 0 = omega arith in
      sym so_far ∙ ap (λ (n : ℕ). with_front front (times_at field n bytes)) k ∙ none_left front bytes
