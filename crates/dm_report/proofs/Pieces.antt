-- Texts that grow piece by piece.
use Rattle.std.proofs.Common.{◌≡◌, ◌<◌, ◌+◌, ℕ, suc, List, [], ◌∷◌, ◌++◌, length, take, get_or, Option, Some, None, sym, ◌∙◌, ap, subst, arith, append_assoc}
use Rattle.std.specs.Io.KnownBytes.{Appends}
use Rattle.std.proofs.lemmas.List.{append-nil, take_more}
use Rattle.std.proofs.lemmas.List.Sums.{sum_by_more}
use Rattle.dm_types.specs.declared.item.Item.{Item}
use Rattle.dm_slice.specs.Words.{covered}
use Rattle.dm_report.specs.Csv.{csv_row, csv_rows, fields_of}
use Rattle.dm_report.specs.Report.{bytes_of, count_for, reason_line, reasons_below}

pub below_more : (items : List Item) (code : ℕ) (text new : List ℕ) (count : ℕ) → text ≡ reasons_below items code → count ≡ count_for items code → new ≡ text ++ reason_line code count → new ≡ reasons_below items (code + 1)
unfolding reasons_below
below_more items code text new count so_far count_is is =
    let step : suc code ≡ code + 1 = omega arith in
    subst (λ (next : ℕ). new ≡ reasons_below items next) step
    (is ∙ ap (λ (front : List ℕ). front ++ reason_line code count) so_far ∙ ap (λ (n : ℕ). reasons_below items code ++ reason_line code n) count_is)

pub nothing_below : (items : List Item) (text : List ℕ) → text ≡ [] → text ≡ reasons_below items 0
unfolding reasons_below
nothing_below items text is = is

rows_push : (items : List Item) (item : Item) → csv_rows (items ++ item ∷ []) ≡ csv_rows items ++ csv_row (fields_of item)
rows_push [] item = append-nil (csv_row (fields_of item))
rows_push (other ∷ items) item = ap (λ (rest : List ℕ). csv_row (fields_of other) ++ rest) (rows_push items item) ∙ sym (append_assoc (csv_row (fields_of other)) (csv_rows items) (csv_row (fields_of item)))

pub rows_more : (items : List Item) (index : ℕ) (item : Item) → index < length items → item ≡ get_or items index item → csv_rows (take index items) ++ csv_row (fields_of item) ≡ csv_rows (take (index + 1) items)
rows_more items index item within here =
    sym (rows_push (take index items) item) ∙ ap csv_rows (ap (λ (i : Item). take index items ++ i ∷ []) here ∙ sym (take_more items index item within))

pub appends_none : (a : Option (List ℕ)) → Appends a a []
appends_none None = tt
appends_none (Some xs) = sym (append-nil xs)

pub appends_then : (a b c : Option (List ℕ)) (x y all : List ℕ) → x ++ y ≡ all → Appends a b x → Appends b c y → Appends a c all
appends_then None b c x y all is one two = tt
appends_then (Some xs) None c x y all is one two = absurd one
appends_then (Some xs) (Some ys) None x y all is one two = absurd two
appends_then (Some xs) (Some ys) (Some zs) x y all is one two = two ∙ ap (λ (front : List ℕ). front ++ y) one ∙ append_assoc xs x y ∙ ap (λ (more : List ℕ). xs ++ more) is

pub bytes_more : (items : List Item) (index : ℕ) (item : Item) (sum : ℕ) → index < length items → item ≡ get_or items index item → sum ≡ bytes_of (take index items) → sum + covered item.slices ≡ bytes_of (take (index + 1) items)
bytes_more items index item sum within here so_far =
    ap (λ (n : ℕ). n + covered item.slices) so_far ∙ ap (λ (i : Item). bytes_of (take index items) + covered i.slices) here ∙ sym (sum_by_more (λ (i : Item). covered i.slices) items index item within)
