-- `any` over a list, as the word `Any` says it.
use Rattle.std.proofs.Common.{ℕ, ◌<◌, Bool, true, false, List, [], length, get_or, MatchBool, refl}
use Rattle.std.specs.List.{HoldsAt, AllWithin, Any}
use Rattle.std.specs.Prelude.{IsTrue, ◌↔◌}
use Rattle.std.proofs.lemmas.List.{get_or_default}
use Rattle.std.proofs.lemmas.Iterator.Search.{true_from_Any}

pub any_is : (P : List ℕ → Type 0) (r : Bool) (xs : List (List ℕ)) → MatchBool r ((k : ℕ) × (k < length xs) × HoldsAt P xs k) (AllWithin (λ x. P x → ⊥) xs 0 (length xs)) → IsTrue r ↔ Any P xs
any_is P true xs h = (λ _. (h.0, get_or xs h.0 [], h.1, get_or_default xs h.0 (get_or xs h.0 []) [] h.1, h.2 []), λ _. refl)
any_is P false xs h = (λ e. absurd cc, λ a. true_from_Any P (λ x. P x → ⊥) false xs (λ x p q. q p) h a.1 (a.0, a.2, a.3) a.4)
