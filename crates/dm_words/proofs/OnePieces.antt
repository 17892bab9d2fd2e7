-- Words are pieces in one way.
use Rattle.std.proofs.Common.{◌≡◌, ℕ, List, [], ◌∷◌, get_or, refl, sym, ◌∙◌, ap, subst}
use Rattle.dm_words.specs.Pieces.{ArePieces, nothing, with_operand, with_option, IsOperand, IsOption, Setting}

-- an option is no operand
pub apart : (word : List ℕ) → IsOption word → IsOperand word → ⊥
apart word option operand = operand.begins_no_hyphen (ap (λ (w : List ℕ). get_or w 0 0) option.is)

-- what the pieces are whose first word is this one
pub data Begins (word : List ℕ) (rest : List (List ℕ)) (settings : List Setting) (operands : List (List ℕ)) : Type 0 where
  by_operand : (more : List (List ℕ)) → operands ≡ word ∷ more → IsOperand word → ArePieces rest settings more → Begins word rest settings operands
  by_option : (value : List ℕ) (after : List (List ℕ)) (more : List Setting) → rest ≡ value ∷ after → settings ≡ record { option = word; value = value } ∷ more → IsOption word → IsOperand value
      → ArePieces after more operands → Begins word rest settings operands

pub begins : (words : List (List ℕ)) (settings : List Setting) (operands : List (List ℕ)) → ArePieces words settings operands → (word : List ℕ) (rest : List (List ℕ)) → words ≡ word ∷ rest → Begins word rest settings operands
begins _ _ _ nothing word rest is = absurd cc
begins _ _ _ (with_operand first after settings operands good pieces) word rest is =
    let same : first ≡ word = cc in
    let left : after ≡ rest = cc in
    by_operand operands (ap (λ (w : List ℕ). w ∷ operands) same) (subst IsOperand same good) (subst (λ (l : List (List ℕ)). ArePieces l settings operands) left pieces)
begins _ _ _ (with_option first value after settings operands named good pieces) word rest is =
    let same : first ≡ word = cc in
    let left : rest ≡ value ∷ after = cc in
    by_option value after settings left (ap (λ (w : List ℕ). record { option = w; value = value } ∷ settings) same) (subst IsOption same named) good pieces

-- no words say nothing
pub record AreNone (settings : List Setting) (operands : List (List ℕ)) : Type 0 where
  pub settings_are : settings ≡ []
  pub operands_are : operands ≡ []

pub none_said : (words : List (List ℕ)) (settings : List Setting) (operands : List (List ℕ)) → ArePieces words settings operands → words ≡ [] → AreNone settings operands
none_said _ _ _ nothing is = record { settings_are = refl; operands_are = refl }
none_said _ _ _ (with_operand first after settings operands good pieces) is = absurd cc
none_said _ _ _ (with_option first value after settings operands named good pieces) is = absurd cc

pub record AreSame (settings other : List Setting) (operands others : List (List ℕ)) : Type 0 where
  pub settings_are : settings ≡ other
  pub operands_are : operands ≡ others

-- words are pieces in one way
pub one_pieces : (words : List (List ℕ)) (settings : List Setting) (operands : List (List ℕ)) → ArePieces words settings operands
    → (other : List Setting) (others : List (List ℕ)) → ArePieces words other others → AreSame settings other operands others
one_pieces _ _ _ nothing other others pieces =
    let none = none_said [] other others pieces refl in
    record { settings_are = sym none.settings_are; operands_are = sym none.operands_are }
one_pieces _ _ _ (with_operand first after settings operands good pieces) other others again =
    elim (begins (first ∷ after) other others again first after refl) [
      | by_operand more is operand rest ↦
          let same = one_pieces after settings operands pieces other more rest in
          record { settings_are = same.settings_are; operands_are = ap (λ (o : List (List ℕ)). first ∷ o) same.operands_are ∙ sym is }
      | by_option value left more is set_is named filled rest ↦ absurd (apart first named good)
    ]
one_pieces _ _ _ (with_option first value after settings operands named good pieces) other others again =
    elim (begins (first ∷ value ∷ after) other others again first (value ∷ after) refl) [
      | by_operand more is operand rest ↦ absurd (apart first named operand)
      | by_option found left more is set_is again_named filled rest ↦
          let same_value : value ≡ found = cc in
          let same_left : left ≡ after = cc in
          let same = one_pieces after settings operands pieces more others (subst (λ (l : List (List ℕ)). ArePieces l more others) same_left rest) in
          record {
            settings_are = ap (λ (v : List ℕ). record { option = first; value = v } ∷ settings) same_value ∙ ap (λ (s : List Setting). record { option = first; value = found } ∷ s) same.settings_are ∙ sym set_is;
            operands_are = same.operands_are;
          }
    ]
