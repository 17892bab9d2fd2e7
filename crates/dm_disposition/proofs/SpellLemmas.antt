-- The texts of the grammar's parts, regrouped.
use Rattle.std.proofs.Common.{◌≡◌, ℕ, List, [], ◌∷◌, ◌++◌, ap, ◌∙◌, append_assoc}
use Rattle.std.specs.List.{flat_map}
use Rattle.dm_disposition.specs.Grammar.{Mark, mark_text, quoted, value_text, Parameter, parameter_text, Piece, optional_text, piece_text}

pub parameter_regroup : (p : Parameter) (w : List ℕ) → parameter_text p ++ w ≡ p.name ++ (p.before ++ 61 ∷ (p.after ++ (value_text p.value ++ w)))
parameter_regroup p w =
    append_assoc p.name (p.before ++ 61 ∷ (p.after ++ value_text p.value)) w
    ∙ ap (λ (x : List ℕ). p.name ++ x) (append_assoc p.before (61 ∷ (p.after ++ value_text p.value)) w ∙ ap (λ (x : List ℕ). p.before ++ 61 ∷ x) (append_assoc p.after (value_text p.value) w))

pub piece_regroup : (p : Piece) (w : List ℕ) → piece_text p ++ w ≡ p.before ++ 59 ∷ (p.after ++ (optional_text p.parameter ++ w))
piece_regroup p w = append_assoc p.before (59 ∷ (p.after ++ optional_text p.parameter)) w ∙ ap (λ (x : List ℕ). p.before ++ 59 ∷ x) (append_assoc p.after (optional_text p.parameter) w)

pub pieces_regroup : (p : Piece) (ps : List Piece) (back : List ℕ) → flat_map piece_text (p ∷ ps) ++ back ≡ p.before ++ 59 ∷ (p.after ++ (optional_text p.parameter ++ (flat_map piece_text ps ++ back)))
pieces_regroup p ps back = append_assoc (piece_text p) (flat_map piece_text ps) back ∙ piece_regroup p (flat_map piece_text ps ++ back)

pub quoted_regroup : (marks : List Mark) (w : List ℕ) → value_text (quoted marks) ++ w ≡ 34 ∷ (flat_map mark_text marks ++ 34 ∷ w)
quoted_regroup marks w = ap (λ (x : List ℕ). 34 ∷ x) (append_assoc (flat_map mark_text marks) (34 ∷ []) w)

pub marks_regroup : (m : Mark) (ms : List Mark) (w : List ℕ) → flat_map mark_text (m ∷ ms) ++ w ≡ mark_text m ++ (flat_map mark_text ms ++ w)
marks_regroup m ms w = append_assoc (mark_text m) (flat_map mark_text ms) w
