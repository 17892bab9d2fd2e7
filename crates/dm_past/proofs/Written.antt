-- The texts that are said.
use Rattle.std.proofs.Common.{◌≡◌, inr, ℕ, ◌+◌, ◌<◌, List, [], ◌∷◌, ◌++◌, length, get_or, take, map, Result, Ok, Err, sym, ◌∙◌, ap, subst}
use Rattle.std.specs.Prelude.{IfOk}
use Rattle.std.specs.List.{concat}
use Rattle.std.proofs.lemmas.List.{append-nil, map_push, take_more}
use Rattle.std.proofs.lemmas.List.Folds.{concat-append}
use Rattle.dm_types.specs.declared.memory.NoMemory.{NoMemory}
use Rattle.dm_report.specs.Said.{EndsAs, Said}
use Rattle.dm_report.specs.declared.verdict.Verdict.{Verdict}
use Rattle.dm_hist.specs.declared.row.Row.{Row}
use Rattle.dm_past.specs.Saying.{row_line_of}
use Rattle.dm_past.specs.Working.{EndsWithText}

-- a text that was made is said, or memory was wanting
pub ends_text : (verdict : Verdict) (made : Result (List ℕ) NoMemory) (text : List ℕ) (said : Said) → EndsWithText verdict made said → IfOk made (λ t. t ≡ text) → EndsAs (record { verdict = verdict; out = text }) said
ends_text verdict (Ok is) text said ends same = subst (λ (t : List ℕ). EndsAs (record { verdict = verdict; out = t }) said) same ends
ends_text verdict (Err fault) text said ends same = inr ends

-- the lines of one row more
lines_push : (rows : List Row) (row : Row) → concat (map row_line_of (rows ++ row ∷ [])) ≡ concat (map row_line_of rows) ++ row_line_of row
lines_push rows row =
    ap concat (map_push row_line_of rows row)
    ∙ concat-append (map row_line_of rows) (row_line_of row ∷ [])
    ∙ ap (λ (last : List ℕ). concat (map row_line_of rows) ++ last) (append-nil (row_line_of row))

pub lines_more : (rows : List Row) (index : ℕ) (row : Row) (text new : List ℕ) → index < length rows → row ≡ get_or rows index row → text ≡ concat (map row_line_of (take index rows))
    → new ≡ text ++ row_line_of row → new ≡ concat (map row_line_of (take (index + 1) rows))
lines_more rows index row text new within here so_far is =
    is
    ∙ ap (λ (front : List ℕ). front ++ row_line_of row) so_far
    ∙ sym (lines_push (take index rows) row)
    ∙ ap (λ (some : List Row). concat (map row_line_of some)) (ap (λ (r : Row). take index rows ++ r ∷ []) here ∙ sym (take_more rows index row within))
