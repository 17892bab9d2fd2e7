-- No item and no row has a number with a fraction.
use Rattle.std.proofs.Common.{◌≡◌, ℕ, Bool, false, true, ◌||◌, List, [], ◌∷◌, map, Option, Some, None, refl, sym, ap, ◌∙◌}
use Rattle.std.proofs.lemmas.Bool.{false≢true}
use Rattle.serde_json.specs.Data.{Data}
use Rattle.serde_json.specs.View.{items_of}
use Rattle.serde_json.specs.Written.{has_float, items_have_float}
use Rattle.dm_types.specs.declared.item.Item.{Item}
use Rattle.dm_types.specs.declared.reason.Reason.{Reason}
use Rattle.dm_hist.specs.declared.row.Row.{Row}
use Rattle.dm_response.specs.Json.{item_data, items_data, may_digest, may_name, may_number, may_reason, may_text, row_data, rows_data}

no_text : (text : Option (List ℕ)) → has_float (may_text text) ≡ false
no_text None = refl
no_text (Some text) = refl

no_number : (number : Option ℕ) → has_float (may_number number) ≡ false
no_number None = refl
no_number (Some number) = refl

no_digest : (digest : Option (List ℕ)) → has_float (may_digest digest) ≡ false
no_digest None = refl
no_digest (Some digest) = refl

no_reason : (reason : Option Reason) → has_float (may_reason reason) ≡ false
no_reason None = refl
no_reason (Some reason) = refl

pub no_item : (item : Item) → has_float (item_data item) ≡ false
no_item item = rw (no_text item.name, no_reason item.reason, no_digest item.have, no_number item.total) refl

neither : (a b : Bool) → a ≡ false → b ≡ false → (a || b) ≡ false
neither true b p q = absurd (false≢true (sym p))
neither false b p q = q

each : (items : List Item) → items_have_float (items_of (map item_data items)) ≡ false
each [] = refl
each (item ∷ items) = neither (has_float (item_data item)) (items_have_float (items_of (map item_data items))) (no_item item) (each items)

pub no_items : (items : List Item) → has_float (items_data items) ≡ false
no_items items = neither (items_have_float (items_of (map item_data items))) false (each items) refl

no_name : (name : List ℕ) → has_float (may_name name) ≡ false
no_name [] = refl
no_name (byte ∷ rest) = refl

pub no_row : (row : Row) → has_float (row_data row) ≡ false
no_row row = rw (no_name row.name, no_digest row.digest, no_number row.total) refl

each_row : (rows : List Row) → items_have_float (items_of (map row_data rows)) ≡ false
each_row [] = refl
each_row (row ∷ rows) = neither (has_float (row_data row)) (items_have_float (items_of (map row_data rows))) (no_row row) (each_row rows)

pub no_rows : (rows : List Row) → has_float (rows_data rows) ≡ false
no_rows rows = neither (items_have_float (items_of (map row_data rows))) false (each_row rows) refl
