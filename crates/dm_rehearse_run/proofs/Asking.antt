-- The number that words ask a rehearsal of.
use Rattle.std.proofs.Common.{◌≡◌, ◌≢◌, ℕ, List, Option, Some, None, IfSome, sym, subst}
use Rattle.std.specs.Prelude.{IfNone}
use Rattle.dm_words.specs.Asked.{Asked, Asks, Rehearses}

pub some_number : (words : List (List ℕ)) (asked : Asked) → Asks words asked → (result : Option ℕ) → IfSome result (λ number. asked ≡ Rehearses number) → IfSome result (λ number. Asks words (Rehearses number))
some_number words asked asks (Some number) is = subst (Asks words) is asks
some_number words asked asks None is = tt

pub no_number : (words : List (List ℕ)) (asked : Asked) → ((other : Asked) → Asks words other → other ≡ asked) → (result : Option ℕ) → IfNone result ((number : ℕ) → asked ≢ Rehearses number)
    → IfNone result ((number : ℕ) → Asks words (Rehearses number) → ⊥)
no_number words asked alone (Some number) none = tt
no_number words asked alone None none = λ number asks. none number (sym (alone (Rehearses number) asks))
