-- How the pieces of a page are the page.
use Rattle.std.proofs.Common.{◌≡◌, ℕ, ◌+◌, ◌-◌, ◌<◌, ◌≤◌, Bool, true, false, cond, List, [], ◌∷◌, ◌++◌, length, get_or, take, drop, Some, None, refl, sym, ◌∙◌, ap, subst, arith, append_assoc}
use Rattle.std.specs.Prelude.{min, nat_lt, not, slice_get}
use Rattle.std.specs.List.{All, AllPairs, filter}
use Rattle.std.proofs.Math.Bool.{and-true}
use Rattle.std.proofs.Math.Seq.{take-append-add}
use Rattle.std.proofs.lemmas.Bool.Decides.{nat_tests}
use Rattle.std.proofs.lemmas.List.{get_or-take, length-append, length-take, length-take-le, take-append-drop, take_all}
use Rattle.std.proofs.lemmas.List.Elements.{All-append, filter-append, filter_passes}
use Rattle.std.proofs.lemmas.List.Kept.{AllPairs-filter}
use Rattle.std.proofs.lemmas.List.Sums.{count_by-le-length, length-filter}
use Rattle.std.proofs.lemmas.Option.{same_Some, slice_get-get_or}
use Rattle.dm_types.specs.declared.item.Item.{Item}
use Rattle.dm_hist.specs.declared.row.Row.{Row}
use Rattle.dm_hist.specs.declared.row.RowFilter.{RowFilter}
use Rattle.dm_hist.specs.Rows.{is_due, page_of, rows_above}
use Rattle.dm_hist.specs.Shown.{is_listed, shown}
use Rattle.dm_hist.proofs.Placing.{filter_behind, less_is, less_not}
use Rattle.dm_shown.specs.Pages.{shown_page}
use Rattle.dm_shown.specs.Paging.{Adds, id_above, next_from}

-- every row is asked for
abbrev pub all_rows : RowFilter
all_rows = record { complete = None }

filters_same : (p q : Row → Bool) → ((row : Row) → p row ≡ q row) → (rows : List Row) → filter p rows ≡ filter q rows
filters_same p q same [] = refl
filters_same p q same (row ∷ rows) =
    ap (λ (b : Bool). cond b (row ∷ filter p rows) (filter p rows)) (same row) ∙ ap (λ (later : List Row). cond (q row) (row ∷ later) later) (filters_same p q same rows)

pub asked_above : (from wanted : ℕ) (rows : List Row) → page_of all_rows from wanted rows ≡ take wanted (rows_above from rows)
asked_above from wanted rows = ap (λ (found : List Row). take wanted found) (filters_same (is_due all_rows from) (λ (row : Row). nat_lt from row.id.0) (λ row. and-true (nat_lt from row.id.0)) rows)

-- a filter of a filter that lets more pass
within : (p q : Row → Bool) (row : Row) (rows : List Row) → ((x : Row) → p x ≡ true → q x ≡ true) → filter p (filter q rows) ≡ filter p rows
    → (a b : Bool) → p row ≡ a → q row ≡ b → filter p (cond b (row ∷ filter q rows) (filter q rows)) ≡ cond a (row ∷ filter p rows) (filter p rows)
within p q row rows leads rest true true one two = ap (λ (b : Bool). cond b (row ∷ filter p (filter q rows)) (filter p (filter q rows))) one ∙ ap (λ (later : List Row). row ∷ later) rest
within p q row rows leads rest false true one two = ap (λ (b : Bool). cond b (row ∷ filter p (filter q rows)) (filter p (filter q rows))) one ∙ rest
within p q row rows leads rest true false one two = absurd (cc (one, two, leads row one))
within p q row rows leads rest false false one two = rest

filter_filter : (p q : Row → Bool) → ((x : Row) → p x ≡ true → q x ≡ true) → (rows : List Row) → filter p (filter q rows) ≡ filter p rows
filter_filter p q leads [] = refl
filter_filter p q leads (row ∷ rows) =
    within p q row rows leads (filter_filter p q leads rows) (p row) (q row) refl refl

less_from : (a b : ℕ) → nat_lt a b ≡ true → a < b
less_from a b is = grind (arith, nat_tests, is)

long_from : (a b : ℕ) → nat_lt a b ≡ false → b ≤ a
long_from a b not_less = grind (arith, nat_tests)

long_enough : (taken w all : ℕ) → w ≤ taken → taken ≡ min w all → w ≤ all
long_enough taken w all long size = grind (arith, long, size)

below_min : (taken w all : ℕ) → taken ≡ min w all → taken < w → all ≤ w
below_min taken w all size short = grind (arith, size, short)

at_most : (taken w all : ℕ) → taken ≡ min w all → taken ≤ w
at_most taken w all size = grind (arith, size)

abbrev Rises : List Row → Type 0
Rises rows = AllPairs (λ (one later : Row). one.id.0 < later.id.0) rows

module _ (rows : List Row) (rise : Rises rows) (from wanted : ℕ) (d : Row) where
  above : List Row
  above = rows_above from rows

  above_rise : Rises (rows_above from rows)
  above_rise = AllPairs-filter (λ (one later : Row). one.id.0 < later.id.0) (λ (row : Row). nat_lt from row.id.0) rows rise

  module _ (some : 1 ≤ wanted) (many : wanted ≤ length (rows_above from rows)) where
    abbrev last : ℕ
    last = (get_or (rows_above from rows) (wanted - 1) d).id.0

    pub last_above : from < last
    last_above = less_from from last (filter_passes (λ (row : Row). nat_lt from row.id.0) rows (wanted - 1) d (omega (arith, some, many)))

    not_later : (k : ℕ) (e : Row) → k < wanted → (get_or (rows_above from rows) k e).id.0 ≤ (get_or (rows_above from rows) (wanted - 1) e).id.0
    not_later k e less = grind (arith, above_rise k (wanted - 1) e, λ (same : k ≡ wanted - 1). ap (λ (i : ℕ). (get_or (rows_above from rows) i e).id.0) same)

    same_last : (e : Row) → get_or (rows_above from rows) (wanted - 1) e ≡ get_or (rows_above from rows) (wanted - 1) d
    same_last e = same_Some (get_or (rows_above from rows) (wanted - 1) e) (get_or (rows_above from rows) (wanted - 1) d)
        (sym (slice_get-get_or (rows_above from rows) (wanted - 1) e (omega (arith, some, many))) ∙ slice_get-get_or (rows_above from rows) (wanted - 1) d (omega (arith, some, many)))

    -- behind the last of so many rows are those above its id
    pub rest_above : rows_above last rows ≡ drop wanted (rows_above from rows)
    rest_above =
        sym (filter_filter (λ (row : Row). nat_lt last row.id.0) (λ (row : Row). nat_lt from row.id.0) (λ x is. less_is from x.id.0 (let far = less_from last x.id.0 is in let near = last_above in omega (arith, far, near))) rows)
        ∙ filter_behind (λ (row : Row). nat_lt last row.id.0) (rows_above from rows) wanted many
        (λ k e less. less_not last (get_or (rows_above from rows) k e).id.0 (subst (λ (row : Row). (get_or (rows_above from rows) k e).id.0 ≤ row.id.0) (same_last e) (not_later k e less)))
        (λ k e le less. less_is last (get_or (rows_above from rows) k e).id.0
        (subst (λ (row : Row). row.id.0 < (get_or (rows_above from rows) k e).id.0) (same_last e) (above_rise (wanted - 1) k e (omega (arith, some, le)) less)))

length_shown : (items : List Item) (rows : List Row) → length (shown items rows) ≤ length rows
length_shown items rows =
    let size = length-filter (λ (row : Row). not (is_listed row.id.0 items)) rows in
    let few = count_by-le-length (λ (row : Row). not (is_listed row.id.0 items)) rows in
    omega (arith, size, few)

-- the first of some rows and others behind them
cut : (w : ℕ) (xs ys : List Row) → length xs ≤ w → take w (xs ++ ys) ≡ xs ++ take (w - length xs) ys
cut w xs ys few = let whole : w ≡ length xs + (w - length xs) = omega (arith, few) in ap (λ (n : ℕ). take n (xs ++ ys)) whole ∙ take-append-add xs ys (w - length xs)

-- A page with one more piece goes on as it did.
pub goes_on : (items : List Item) (page piece rest : List Row) (w limit : ℕ) → w ≡ limit - length page → length piece ≤ w
    → (page ++ shown items piece) ++ take (limit - length (page ++ shown items piece)) (shown items rest) ≡ page ++ take w (shown items (piece ++ rest))
goes_on items page piece rest w limit is few =
    let size : length (page ++ shown items piece) ≡ length page + length (shown items piece) = length-append page (shown items piece) in
    let left : limit - length (page ++ shown items piece) ≡ w - length (shown items piece) = omega (arith, size, is) in
    append_assoc page (shown items piece) (take (limit - length (page ++ shown items piece)) (shown items rest))
    ∙ ap (λ (n : ℕ). page ++ (shown items piece ++ take n (shown items rest))) left
    ∙ ap (λ (behind : List Row). page ++ behind) (sym (cut w (shown items piece) (shown items rest) (let fewer = length_shown items piece in omega (arith, fewer, few))))
    ∙ ap (λ (all : List Row). page ++ take w all) (sym (filter-append (λ (row : Row). not (is_listed row.id.0 items)) piece rest))

-- A piece that is short is the last.
pub ends : (items : List Item) (above : List Row) (w : ℕ) → length (take w above) < w → shown items (take w above) ≡ take w (shown items above)
ends items above w short =
    let all : take w above ≡ above = take_all w above (let size = length-take w above in below_min (length (take w above)) w (length above) size short) in
    ap (shown items) all ∙ sym (take_all w (shown items above) (let fewer = length_shown items above in let size = ap length all in omega (arith, fewer, size, short)))

module _ (items : List Item) (rows : List Row) (rise : Rises rows) (from wanted : ℕ) (some : 1 ≤ wanted) where
  taken_long : (above : List Row) → wanted ≤ length above → length (take wanted above) ≡ wanted
  taken_long above many = length-take-le wanted above many

  last_is : (above : List Row) (d : Row) → wanted ≤ length above → slice_get (take wanted above) (length (take wanted above) - 1) ≡ Some (get_or above (wanted - 1) d)
  last_is above d many =
      let long = taken_long above many in
      ap (λ (n : ℕ). slice_get (take wanted above) (n - 1)) long
      ∙ slice_get-get_or (take wanted above) (wanted - 1) d (omega (arith, long, some))
      ∙ ap (λ (row : Row). Some row) (get_or-take wanted above (wanted - 1) d (omega (arith, some)))

  next_is : (d : Row) → wanted ≤ length (rows_above from rows) → next_from (take wanted (rows_above from rows)) from wanted ≡ Some (get_or (rows_above from rows) (wanted - 1) d).id.0
  next_is d many =
      ap (λ (b : Bool). cond b None (id_above from (slice_get (take wanted (rows_above from rows)) (length (take wanted (rows_above from rows)) - 1))))
      (less_not (length (take wanted (rows_above from rows))) wanted (let long = taken_long (rows_above from rows) many in omega (arith, long)))
      ∙ ap (id_above from) (last_is (rows_above from rows) d many)
      ∙ ap (λ (b : Bool). cond b (Some (get_or (rows_above from rows) (wanted - 1) d).id.0) None)
      (less_is from (get_or (rows_above from rows) (wanted - 1) d).id.0 (last_above rows rise from wanted d some many))

  adds_long : (d : Row) (page : List Row) → wanted ≤ length (rows_above from rows) → Adds items rows from wanted page (page ++ shown items (take wanted (rows_above from rows))) (next_from (take wanted (rows_above from rows)) from wanted)
  adds_long d page many =
      subst (Adds items rows from wanted page (page ++ shown items (take wanted (rows_above from rows)))) (sym (next_is d many))
      (refl, rest_above rows rise from wanted d some many)

  -- a piece is short, or there are as many rows
  adds_by : (page : List Row) (short : Bool) → nat_lt (length (take wanted (rows_above from rows))) wanted ≡ short → (above : List Row) → rows_above from rows ≡ above
      → Adds items rows from wanted page (page ++ shown items (take wanted (rows_above from rows))) (next_from (take wanted (rows_above from rows)) from wanted)
  adds_by page true is above are =
      subst (Adds items rows from wanted page (page ++ shown items (take wanted (rows_above from rows))))
      (sym (ap (λ (b : Bool). cond b None (id_above from (slice_get (take wanted (rows_above from rows)) (length (take wanted (rows_above from rows)) - 1)))) is))
      (ap (λ (behind : List Row). page ++ behind) (ends items (rows_above from rows) wanted (less_from (length (take wanted (rows_above from rows))) wanted is)))
  adds_by page false is [] are =
      let none : length (take wanted (rows_above from rows)) ≡ 0 = ap (λ (l : List Row). length (take wanted l)) are ∙ ap length (take_all wanted [] (omega arith)) in
      absurd (omega (arith, none, some, long_from (length (take wanted (rows_above from rows))) wanted is))
  adds_by page false is (first ∷ more) are =
      adds_long first page (let long = long_from (length (take wanted (rows_above from rows))) wanted is in let size = length-take wanted (rows_above from rows) in long_enough (length (take wanted (rows_above from rows))) wanted (length (rows_above from rows)) long size)

  pub adds : (page page' found : List Row) → found ≡ page_of all_rows from wanted rows → page' ≡ page ++ shown items found → Adds items rows from wanted page page' (next_from found from wanted)
  adds page page' found is are =
      let taken : found ≡ take wanted (rows_above from rows) = is ∙ asked_above from wanted rows in
      subst (λ (f : List Row). Adds items rows from wanted page page' (next_from f from wanted)) (sym taken)
      (subst (λ (p : List Row). Adds items rows from wanted page p (next_from (take wanted (rows_above from rows)) from wanted)) (sym (are ∙ ap (λ (f : List Row). page ++ shown items f) taken))
      (adds_by page (nat_lt (length (take wanted (rows_above from rows))) wanted) refl (rows_above from rows) refl))

-- A piece more, and the page goes on to be the same.
pub paged : (items : List Item) (rows page page' : List Row) (from last wanted limit : ℕ) → wanted ≡ limit - length page → Adds items rows from wanted page page' (Some last)
    → page' ++ shown_page items last (limit - length page') rows ≡ page ++ shown_page items from wanted rows
paged items rows page page' from last wanted limit is adds =
    let piece : List Row = take wanted (rows_above from rows) in
    let rest : List Row = drop wanted (rows_above from rows) in
    ap (λ (p : List Row). p ++ take (limit - length p) (shown items (rows_above last rows))) adds.0
    ∙ ap (λ (r : List Row). (page ++ shown items piece) ++ take (limit - length (page ++ shown items piece)) (shown items r)) adds.1
    ∙ goes_on items page piece rest wanted limit is (let size = length-take wanted (rows_above from rows) in at_most (length piece) wanted (length (rows_above from rows)) size)
    ∙ ap (λ (r : List Row). page ++ take wanted (shown items r)) (take-append-drop wanted (rows_above from rows))

-- the rows that are shown have no item's id
pub unlisted : (items : List Item) (page page' rows : List Row) → page' ≡ page ++ shown items rows → All (λ (row : Row). is_listed row.id.0 items ≡ false) page → All (λ (row : Row). is_listed row.id.0 items ≡ false) page'
unlisted items page page' rows are before =
    subst (All (λ (row : Row). is_listed row.id.0 items ≡ false)) (sym are)
    (All-append (λ (row : Row). is_listed row.id.0 items ≡ false) page (shown items rows) before
    (λ k d less. not_listed (is_listed (get_or (shown items rows) k d).id.0 items) (filter_passes (λ (row : Row). not (is_listed row.id.0 items)) rows k d less)))
  where
    not_listed : (b : Bool) → not b ≡ true → b ≡ false
    not_listed true is = absurd cc
    not_listed false is = refl
