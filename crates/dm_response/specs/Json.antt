-- Items and rows of the history as JSON. An object's keys stand in the order of their bytes, each once (`put`).
use Rattle.std.specs.Prelude.{ℕ, ◌^◌, ◌-◌, Bool, true, false, min, List, [], ◌∷◌, map, codes, Option, Some, None}
use Rattle.std.specs.Str.Lossy.{utf8_lossy}
use Rattle.hex.specs.Hex.{encode_lower}
use Rattle.serde_json.specs.Data.{Data, null, number, string, array, object, unsigned, Members, no_members, put}
use Rattle.serde_json.specs.View.{items_of}
use Rattle.dm_types.specs.Reason.{code_of}
use Rattle.dm_types.specs.declared.item.Item.{Item}
use Rattle.dm_types.specs.declared.item.Phase.{Phase}
use Rattle.dm_types.specs.declared.item.Phase.TheVariants.{Waiting, Running, Paused, Finishing, Complete, Cancelled, Interrupted}
use Rattle.dm_types.specs.declared.reason.Reason.{Reason}
use Rattle.dm_slice.specs.Words.{covered}
use Rattle.dm_hist.specs.declared.row.Row.{Row}

-- the word of a state, without the number of a reason
abbrev pub word_of : Phase → List ℕ
word_of Waiting = codes "waiting"
word_of Running = codes "running"
word_of Paused = codes "paused"
word_of Finishing = codes "finishing"
word_of Complete = codes "complete"
word_of Cancelled = codes "cancelled"
word_of (Interrupted reason) = codes "interrupted"

-- bytes as text: what isn't UTF-8 in them becomes U+FFFD
abbrev pub text_data : List ℕ → Data
text_data bytes = string (utf8_lossy bytes)

abbrev pub may_text : Option (List ℕ) → Data
may_text None = null
may_text (Some bytes) = text_data bytes

abbrev pub number_data : ℕ → Data
number_data n = number (unsigned n)

abbrev pub may_number : Option ℕ → Data
may_number None = null
may_number (Some n) = number_data n

-- a digest in lower-case hexadecimal
abbrev pub may_digest : Option (List ℕ) → Data
may_digest None = null
may_digest (Some digest) = string (encode_lower digest)

-- the number of a reason
abbrev pub may_reason : Option Reason → Data
may_reason None = null
may_reason (Some reason) = number_data (code_of reason)

-- how many bytes are there. No content has as many as a number of 64 bits holds
abbrev pub covered_by : Item → ℕ
covered_by item = min (covered item.slices) (2 ^ 64 - 1)

abbrev pub with_texts : Item → Members → Members
with_texts item members =
    put (codes "name") (may_text item.name) (put (codes "address") (text_data item.first_address) (put (codes "word") (text_data item.word) members))

abbrev pub with_numbers : Item → Members → Members
with_numbers item members =
    put (codes "total") (may_number item.total) (put (codes "covered") (number_data (covered_by item)) (put (codes "autos") (number_data item.autos) (put (codes "id") (number_data item.id.0) members)))

abbrev pub with_state : Item → Members → Members
with_state item members =
    put (codes "sha256") (may_digest item.have) (put (codes "reason") (may_reason item.reason) (put (codes "phase") (string (word_of item.phase)) members))

-- An item: what is not there is null, and an empty word is empty.
abbrev pub item_data : Item → Data
item_data item = object (with_state item (with_numbers item (with_texts item no_members)))

-- part of a list
abbrev pub items_data : List Item → Data
items_data items = object (put (codes "items") (array (items_of (map item_data items))) no_members)

-- the word of a row's state: it is complete, or it was cancelled
abbrev pub word_of_row : Bool → List ℕ
word_of_row true = codes "complete"
word_of_row false = codes "cancelled"

-- the name of a row, which is null where it has none
abbrev pub may_name : List ℕ → Data
may_name [] = null
may_name (byte ∷ rest) = text_data (byte ∷ rest)

abbrev pub with_row_texts : Row → Members → Members
with_row_texts row members =
    put (codes "name") (may_name row.name) (put (codes "address") (text_data row.address) (put (codes "word") (text_data row.word) members))

abbrev pub with_row_numbers : Row → Members → Members
with_row_numbers row members =
    put (codes "total") (may_number row.total) (put (codes "at") (number_data row.at_ms) (put (codes "id") (number_data row.id.0) members))

abbrev pub with_row_state : Row → Members → Members
with_row_state row members =
    put (codes "sha256") (may_digest row.digest) (put (codes "phase") (string (word_of_row row.complete)) members)

-- A row of the history: what is not there is null, and an empty word is empty.
abbrev pub row_data : Row → Data
row_data row = object (with_row_state row (with_row_numbers row (with_row_texts row no_members)))

-- part of the history
abbrev pub rows_data : List Row → Data
rows_data rows = object (put (codes "rows") (array (items_of (map row_data rows))) no_members)
