-- Where a row stands among rows that rise, and what they are once it was put there.
use Rattle.std.proofs.Common.{◌≡◌, ℕ, suc, zero, ◌<◌, ◌≤◌, Bool, true, false, List, [], ◌∷◌, ◌++◌, length, get_or, set, take, drop, not, refl, sym, ◌∙◌, ap, subst, Result, Ok, Err, IfOk, IfErr, OnOk, OnErr, arith}
use Rattle.std.specs.Prelude.{nat_lt}
use Rattle.std.specs.List.{All, AllPairs, filter, insert}
use Rattle.std.specs.List.Sorted.{IsSearchInRange, IsBinarySearchResult, IsNonDecreasingBy}
use Rattle.std.specs.Ordering.{nat_cmp, ordering_index}
use Rattle.std.proofs.lemmas.Cmp.{ranked}
use Rattle.std.proofs.lemmas.Bool.Decides.{nat_tests}
use Rattle.std.proofs.lemmas.List.{set_split}
use Rattle.std.proofs.lemmas.List.Elements.{All-append, All-cons, All-filter, filter_passes}
use Rattle.std.proofs.lemmas.List.Kept.{AllPairs-cons, AllPairs-filter}
use Rattle.dm_hist.specs.declared.row.Row.{Row}
use Rattle.dm_hist.specs.Place.{IsAt, IsGapFor}
use Rattle.dm_hist.specs.Rows.{AreRows, is_of, rows_above, rows_below, with_row, without_row}

-- the elements that pass a test are the front, where those alone pass
filter_front : (p : Row → Bool) (rows : List Row) (i : ℕ) → i ≤ length rows
    → ((k : ℕ) (d : Row) → k < i → p (get_or rows k d) ≡ true) → ((k : ℕ) (d : Row) → i ≤ k → k < length rows → p (get_or rows k d) ≡ false)
    → filter p rows ≡ take i rows
filter_front p [] zero within passes fails = refl
filter_front p [] (suc i) within passes fails = absurd (omega (arith, within))
filter_front p (row ∷ rows) zero within passes fails =
    rw (fails 0 row (omega arith) (omega arith))
    (filter_front p rows 0 (omega arith) (λ k d less. absurd (omega (arith, less))) (λ k d from less. fails (suc k) d (omega arith) (omega (arith, less))))
filter_front p (row ∷ rows) (suc i) within passes fails =
    rw (passes 0 row (omega arith))
    (ap (λ (later : List Row). row ∷ later)
    (filter_front p rows i (omega (arith, within)) (λ k d less. passes (suc k) d (omega (arith, less))) (λ k d from less. fails (suc k) d (omega (arith, from)) (omega (arith, less)))))

-- and they are what is behind, where those alone pass
pub filter_behind : (p : Row → Bool) (rows : List Row) (i : ℕ) → i ≤ length rows
    → ((k : ℕ) (d : Row) → k < i → p (get_or rows k d) ≡ false) → ((k : ℕ) (d : Row) → i ≤ k → k < length rows → p (get_or rows k d) ≡ true)
    → filter p rows ≡ drop i rows
filter_behind p [] zero within fails passes = refl
filter_behind p [] (suc i) within fails passes = absurd (omega (arith, within))
filter_behind p (row ∷ rows) zero within fails passes =
    rw (passes 0 row (omega arith) (omega arith))
    (ap (λ (later : List Row). row ∷ later)
    (filter_behind p rows 0 (omega arith) (λ k d less. absurd (omega (arith, less))) (λ k d from less. passes (suc k) d (omega arith) (omega (arith, less)))))
filter_behind p (row ∷ rows) (suc i) within fails passes =
    rw (fails 0 row (omega arith))
    (filter_behind p rows i (omega (arith, within)) (λ k d less. fails (suc k) d (omega (arith, less))) (λ k d from less. passes (suc k) d (omega (arith, from)) (omega (arith, less))))

pub less_is : (a b : ℕ) → a < b → nat_lt a b ≡ true
less_is a b less = grind (arith, nat_tests)

pub less_not : (a b : ℕ) → b ≤ a → nat_lt a b ≡ false
less_not a b least = grind (arith, nat_tests)

module _ (rows : List Row) (are : AreRows rows) (id : ℕ) where
  comparisons_rise : IsNonDecreasingBy (λ (row : Row). ordering_index (nat_cmp row.id.0 id)) rows
  comparisons_rise i j d le within =
      let rise : (get_or rows i d).id.0 ≤ (get_or rows j d).id.0 = grind (arith, are.rising i j d, λ (same : i ≡ j). ap (λ (k : ℕ). (get_or rows k d).id.0) same) in
      grind (arith, nat_tests)

  -- a search by id ends at the row, or at the gap for it
  pub searched : (r : Result ℕ ℕ) → IsSearchInRange r (length rows) → IsBinarySearchResult (λ (row : Row). nat_cmp row.id.0 id) rows r → record { found : IfOk r (IsAt rows id); absent : IfErr r (IsGapFor rows id) }
  searched (Ok at) within equal = record { found = record { within = within; has = λ d. ranked _ id _ (sym (equal d)) }; absent = tt }
  searched (Err at) within parted = record {
    found = tt;
    absent = record {
      within = within;
      below = λ j d less. ranked _ id _ (sym ((parted comparisons_rise).0 j d (omega arith) less));
      above = λ j d from less. ranked _ id _ (sym ((parted comparisons_rise).1 j d from less));
    };
  }

module _ (rows : List Row) (row : Row) where
  -- the rows around a place, as they are below and above a row
  between : (front behind : List Row) → rows_below row.id.0 rows ≡ front → rows_above row.id.0 rows ≡ behind → front ++ row ∷ behind ≡ with_row row rows
  between front behind below above =
      sym (ap (λ (b : List Row). b ++ row ∷ rows_above row.id.0 rows) below ∙ ap (λ (a : List Row). front ++ row ∷ a) above)

  -- a row that is put over the one of its id
  pub put_at : AreRows rows → (at : ℕ) → IsAt rows row.id.0 at → set rows at row ≡ with_row row rows
  put_at are at is = set_split rows at row is.within ∙ between (take at rows) (drop (suc at) rows) below above
    where
      up_to : (k : ℕ) (d : Row) → k ≤ at → (get_or rows k d).id.0 ≤ row.id.0
      up_to k d le = grind (arith, is.has d, is.within, are.rising k at d, λ (same : k ≡ at). ap (λ (j : ℕ). (get_or rows j d).id.0) same)

      from : (k : ℕ) (d : Row) → at ≤ k → k < length rows → row.id.0 ≤ (get_or rows k d).id.0
      from k d le less = grind (arith, is.has d, are.rising at k d, λ (same : at ≡ k). ap (λ (j : ℕ). (get_or rows j d).id.0) same)

      below : rows_below row.id.0 rows ≡ take at rows
      below =
          filter_front (λ (one : Row). nat_lt one.id.0 row.id.0) rows at (omega (arith, is.within))
          (λ k d less. less_is (get_or rows k d).id.0 row.id.0 (omega (arith, is.has d, are.rising k at d less is.within)))
          (λ k d le less. less_not (get_or rows k d).id.0 row.id.0 (from k d le less))

      above : rows_above row.id.0 rows ≡ drop (suc at) rows
      above =
          filter_behind (λ (one : Row). nat_lt row.id.0 one.id.0) rows (suc at) (omega (arith, is.within))
          (λ k d less. less_not row.id.0 (get_or rows k d).id.0 (up_to k d (omega (arith, less))))
          (λ k d le less. less_is row.id.0 (get_or rows k d).id.0 (omega (arith, is.has d, are.rising at k d (omega (arith, le)) less)))

  -- a row that is put into the gap for its id
  pub put_in : (at : ℕ) → IsGapFor rows row.id.0 at → insert rows at row ≡ with_row row rows
  put_in at is = between (take at rows) (drop at rows) below above
    where
      below : rows_below row.id.0 rows ≡ take at rows
      below =
          filter_front (λ (one : Row). nat_lt one.id.0 row.id.0) rows at is.within
          (λ k d less. less_is (get_or rows k d).id.0 row.id.0 (is.below k d less))
          (λ k d le less. less_not (get_or rows k d).id.0 row.id.0 (omega (arith, is.above k d le less)))

      above : rows_above row.id.0 rows ≡ drop at rows
      above =
          filter_behind (λ (one : Row). nat_lt row.id.0 one.id.0) rows at is.within
          (λ k d less. less_not row.id.0 (get_or rows k d).id.0 (omega (arith, is.below k d less)))
          (λ k d le less. less_is row.id.0 (get_or rows k d).id.0 (is.above k d le less))

abbrev Rises : List Row → Type 0
Rises rows = AllPairs (λ (one later : Row). one.id.0 < later.id.0) rows

-- rows below a row, the row, and rows above it
joined : (xs : List Row) (y : Row) (zs : List Row) → Rises xs → Rises zs → All (λ x. x.id.0 < y.id.0) xs → All (λ z. y.id.0 < z.id.0) zs → Rises (xs ++ y ∷ zs)
joined [] y zs front behind below above = AllPairs-cons (λ (one later : Row). one.id.0 < later.id.0) y zs above behind
joined (x ∷ xs) y zs front behind below above =
    let first : x.id.0 < y.id.0 = below 0 x (omega arith) in
    AllPairs-cons (λ (one later : Row). one.id.0 < later.id.0) x (xs ++ y ∷ zs)
    (All-append (λ (z : Row). x.id.0 < z.id.0) xs (y ∷ zs) (λ k d less. front 0 (suc k) d (omega arith) (omega arith))
    (All-cons (λ (z : Row). x.id.0 < z.id.0) y zs first (λ k d less. omega (arith, first, above k d less))))
    (joined xs y zs (λ i j d before less. front (suc i) (suc j) d (omega arith) (omega arith)) behind (λ k d less. below (suc k) d (omega arith)) above)

passed : (p : Row → Bool) (P : Row → Type 0) → ((row : Row) → p row ≡ true → P row) → (rows : List Row) → All P (filter p rows)
passed p P tells rows k d less = tells _ (filter_passes p rows k d less)

-- the rows are rows again
pub rows_with : (row : Row) (rows : List Row) → 1 ≤ row.id.0 → AreRows rows → AreRows (with_row row rows)
rows_with row rows numbered are = record {
  numbered = All-append (λ (one : Row). 1 ≤ one.id.0) (rows_below row.id.0 rows) (row ∷ rows_above row.id.0 rows)
      (All-filter (λ (one : Row). nat_lt one.id.0 row.id.0) (λ (one : Row). 1 ≤ one.id.0) rows are.numbered)
      (All-cons (λ (one : Row). 1 ≤ one.id.0) row (rows_above row.id.0 rows) numbered
      (All-filter (λ (one : Row). nat_lt row.id.0 one.id.0) (λ (one : Row). 1 ≤ one.id.0) rows are.numbered));
  rising = joined (rows_below row.id.0 rows) row (rows_above row.id.0 rows)
      (AllPairs-filter (λ (one later : Row). one.id.0 < later.id.0) (λ (one : Row). nat_lt one.id.0 row.id.0) rows are.rising)
      (AllPairs-filter (λ (one later : Row). one.id.0 < later.id.0) (λ (one : Row). nat_lt row.id.0 one.id.0) rows are.rising)
      (passed (λ (one : Row). nat_lt one.id.0 row.id.0) (λ one. one.id.0 < row.id.0) (λ one is. grind (arith, nat_tests, is)) rows)
      (passed (λ (one : Row). nat_lt row.id.0 one.id.0) (λ one. row.id.0 < one.id.0) (λ one is. grind (arith, nat_tests, is)) rows);
}

pub rows_without : (id : ℕ) (rows : List Row) → AreRows rows → AreRows (without_row id rows)
rows_without id rows are = record {
  numbered = All-filter (λ (one : Row). not (is_of id one)) (λ (one : Row). 1 ≤ one.id.0) rows are.numbered;
  rising = AllPairs-filter (λ (one later : Row). one.id.0 < later.id.0) (λ (one : Row). not (is_of id one)) rows are.rising;
}

-- the rows are rows, whether they changed or stayed
pub rows_after : {E : Type 0} (result : Result (Unit {0}) E) (old changed new : List Row) → AreRows old → AreRows changed → OnOk result (new ≡ changed) → OnErr result (new ≡ old)
    → AreRows new
rows_after (Ok done) old changed new were are ok err = subst AreRows (sym ok) are
rows_after (Err fault) old changed new were are ok err = subst AreRows (sym err) were
