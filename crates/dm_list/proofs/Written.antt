-- A text that is written in several pieces.
use Rattle.std.proofs.Common.{◌≡◌, ℕ, ◌+◌, List, ◌++◌, length, take, drop, sym, ◌∙◌, ap, append_assoc, arith}
use Rattle.std.proofs.Math.Seq.{take-add}
use Rattle.std.proofs.lemmas.List.{append-nil, take_all}
use Rattle.dm_does.specs.Printing.{WritesSome}

-- a piece from the front of what is left comes behind what was written
pub wrote_more : (before text was now rest : List ℕ) (done count : ℕ) → rest ≡ drop done text → was ≡ before ++ take done text → now ≡ was ++ take count rest
    → now ≡ before ++ take (done + count) text
wrote_more before text was now rest done count left so_far more =
    more ∙ ap (λ (w : List ℕ). w ++ take count rest) so_far ∙ append_assoc before (take done text) (take count rest)
    ∙ ap (λ (r : List ℕ). before ++ (take done text ++ take count r)) left ∙ ap (λ (t : List ℕ). before ++ t) (sym (take-add done count text))

-- all of the text is a front of it, and so is nothing
pub wrote_all : (before text now : List ℕ) → now ≡ before ++ text → WritesSome before now text
wrote_all before text now is = (length text, is ∙ ap (λ (t : List ℕ). before ++ t) (sym (take_all (length text) text (omega arith))))

pub wrote_none : (before text : List ℕ) → WritesSome before before text
wrote_none before text = (0, sym (append-nil before))
