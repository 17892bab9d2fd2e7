-- Rows at the places of their records.
use Rattle.std.proofs.Common.{◌≡◌, ◌<◌, ◌+◌, ℕ, zero, suc, List, [], ◌∷◌, ◌++◌, length, map, take, drop, get_or, refl, sym, ◌∙◌, ap, subst, arith}
use Rattle.std.specs.Option.{unwrap_or}
use Rattle.std.proofs.lemmas.List.{length-take-le, map-append, take_more}
use Rattle.std.proofs.Math.Seq.{split_at}
use Rattle.csv.specs.Records.{Row, field_at, fields_of}
use Rattle.dm_csv.specs.Rows.{AreRows, IsBadUnder, IsRow}
use Rattle.dm_csv.specs.declared.row.ImportRow.{ImportRow}

pub rows_push : (all : List (List (List ℕ))) (rows : List ImportRow) (fields : List (List ℕ)) (row : ImportRow) → AreRows all rows → IsRow fields row → AreRows (all ++ fields ∷ []) (rows ++ row ∷ [])
rows_push [] [] fields row are is = (is, tt)
rows_push [] (other ∷ rows) fields row are is = absurd are
rows_push (others ∷ all) [] fields row are is = absurd are
rows_push (others ∷ all) (other ∷ rows) fields row are is = (are.0, rows_push all rows fields row are.1 is)

-- one more record was read
pub rows_more : (under : List Row) (index : ℕ) (found : Row) (rows new : List ImportRow) (row : ImportRow) → index < length under → found ≡ get_or under index found → AreRows (map fields_of (take index under)) rows
    → IsRow (fields_of found) row → new ≡ rows ++ row ∷ [] → AreRows (map fields_of (take (index + 1) under)) new
rows_more under index found rows new row within here are is new_is =
    subst (λ (all : List Row). AreRows (map fields_of all) new) (ap (λ (r : Row). take index under ++ r ∷ []) here ∙ sym (take_more under index found within))
    (subst (λ (all : List (List (List ℕ))). AreRows all new) (sym (map-append fields_of (take index under) (found ∷ [])))
    (subst (AreRows (map fields_of (take index under) ++ fields_of found ∷ [])) (sym new_is) (rows_push (map fields_of (take index under)) rows (fields_of found) row are is)))

pub map_length : (all : List Row) → length (map fields_of all) ≡ length all
map_length [] = refl
map_length (r ∷ all) = ap suc (map_length all)

-- the next record is bad
pub bad_behind : (under : List Row) (index number : ℕ) (found : Row) (rows : List ImportRow) → index < length under → found ≡ get_or under index found → number ≡ index + 1
    → AreRows (map fields_of (take index under)) rows → ((row : ImportRow) → IsRow (fields_of found) row → ⊥) → IsBadUnder (map fields_of under) number
bad_behind under index number found rows within here number_is are none = (
  index,
  number_is ∙ omega arith,
  record {
    first = map fields_of (take index under);
    fields = fields_of found;
    rest = map fields_of (drop (suc index) under);
    under_are = ap (map fields_of) (split_at under index found within ∙ ap (λ (r : Row). take index under ++ r ∷ drop (suc index) under) (sym here)) ∙ map-append fields_of (take index under) (found ∷ drop (suc index) under);
    count_is = map_length (take index under) ∙ length-take-le index under (omega (arith, within));
    rows = rows;
    are = are;
    none = none;
  },
)

-- the field at a place, where nothing stands for one that isn't there
pub field_or : (fields : List (List ℕ)) (place : ℕ) → unwrap_or (field_at fields place) [] ≡ get_or fields place []
unfolding field_at
field_or [] place = refl
field_or (field ∷ fields) zero = refl
field_or (field ∷ fields) (suc place) = field_or fields place
