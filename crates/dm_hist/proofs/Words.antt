-- The first row that has a word is the one of least id.
use Rattle.std.proofs.Common.{◌≡◌, ℕ, suc, ◌≤◌, Bool, true, false, cond, List, [], ◌∷◌, Some, refl, ap, arith}
use Rattle.std.specs.Prelude.{bytes_eq}
use Rattle.std.specs.List.{All}
use Rattle.std.proofs.lemmas.Option.{none-some, same_Some}
use Rattle.std.proofs.lemmas.List.Elements.{All-cons}
use Rattle.std.proofs.lemmas.Slice.Eq.{bytes_eq-Decides}
use Rattle.dm_hist.specs.declared.row.Row.{Row}
use Rattle.dm_hist.specs.Rows.{AreRows, row_with}

abbrev IsLeast : List ℕ → Row → Row → Type 0
IsLeast word row other = other.word ≡ word → row.id.0 ≤ other.id.0

later_rows : (first : Row) (rows : List Row) → AreRows (first ∷ rows) → AreRows rows
later_rows first rows are = record {
  numbered = λ k d less. are.numbered (suc k) d (omega arith);
  rising = λ i j d before less. are.rising (suc i) (suc j) d (omega arith) (omega arith);
}

by_test : (word : List ℕ) (first row : Row) (rows : List Row) → AreRows (first ∷ rows) → (row_with word rows ≡ Some row → All (IsLeast word row) rows)
    → (is : Bool) → bytes_eq first.word word ≡ is → cond is (Some first) (row_with word rows) ≡ Some row → All (IsLeast word row) (first ∷ rows)
by_test word first row rows are later true is found =
    let id : first.id.0 ≡ row.id.0 = ap (λ (one : Row). one.id.0) (same_Some first row found) in
    All-cons (IsLeast word row) first rows (λ named. omega (arith, id)) (λ k d less named. omega (arith, id, are.rising 0 (suc k) d (omega arith) (omega arith)))
by_test word first row rows are later false is found =
    All-cons (IsLeast word row) first rows (λ named. absurd (cc (is, (bytes_eq-Decides first.word word).1 named))) (later found)

pub least : (word : List ℕ) (rows : List Row) (row : Row) → AreRows rows → row_with word rows ≡ Some row → All (IsLeast word row) rows
least word [] row are found = absurd (none-some row found)
least word (first ∷ rows) row are found = by_test word first row rows are (least word rows row (later_rows first rows are)) (bytes_eq first.word word) refl found
