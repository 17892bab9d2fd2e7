-- The query of a list: which part of it is shown.
use Rattle.std.specs.Prelude.{ℕ, Bool, ◌||◌, if◌then◌else◌, List, [], ◌∷◌, codes, map, filter, Option, Some, None, option_map, option_and_then}
use Rattle.std.specs.List.{list_all}
use Rattle.std.specs.Str.{bytes_eq}
use Rattle.std.specs.Str.Lossy.{utf8_lossy}
use Rattle.form_urlencoded.specs.Form.{decode, raw_pairs}
use Rattle.dm_call.specs.Numbers.{number_of, within_limit}
use Rattle.dm_call.specs.declared.call.Window.{Window}

-- a name and a value
abbrev pub Pair : Type 0
Pair = List ℕ × List ℕ

-- what a name and a value stand for, as text
abbrev pub decoded : Pair → Pair
decoded pair = (utf8_lossy (decode pair.0), utf8_lossy (decode pair.1))

-- the names and values of a query, in order (URL Standard, section 5.1)
abbrev pub pairs_of : List ℕ → List Pair
pairs_of query = map decoded (raw_pairs query)

abbrev pub has_name : List ℕ → Pair → Bool
has_name name pair = bytes_eq pair.0 name

abbrev pub is_known : Pair → Bool
is_known pair = has_name (codes "after") pair || has_name (codes "limit") pair

-- the values of a name, in order
abbrev pub values_of : List ℕ → List Pair → List (List ℕ)
values_of name pairs = map (λ (pair : Pair). pair.1) (filter (has_name name) pairs)

-- the number that is told once, or where none is told the usual one
abbrev pub told_once : ℕ → (List ℕ → Option ℕ) → List (List ℕ) → Option ℕ
told_once usual read [] = Some usual
told_once usual read (value ∷ []) = read value
told_once usual read (value ∷ again ∷ more) = None

abbrev pub limit_of : List ℕ → Option ℕ
limit_of value = option_and_then within_limit (number_of value)

abbrev pub after_in : List Pair → Option ℕ
after_in pairs = told_once 0 number_of (values_of (codes "after") pairs)

abbrev pub limit_in : List Pair → Option ℕ
limit_in pairs = told_once 50 limit_of (values_of (codes "limit") pairs)

abbrev pub window_by : Option ℕ → Option ℕ → Option Window
window_by after limit = option_and_then (λ from. option_map (λ most. record { after = from; limit = most }) limit) after

-- The part of the list: no other name stands there, and none twice.
abbrev pub window_in : List Pair → Option Window
window_in pairs = if list_all is_known pairs then window_by (after_in pairs) (limit_in pairs) else None

abbrev pub window_of : List ℕ → Option Window
window_of query = window_in (pairs_of query)
