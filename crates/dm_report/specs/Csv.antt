-- The list as CSV: a header, and a record for each item. `row_text default_writer` is the text of one record, with its line feed: a field that holds a comma, a quote, a line feed or a carriage
-- return stands between quotes, with each quote in it doubled.
use Rattle.std.specs.Prelude.{◌≡◌, ℕ, false, List, [], ◌∷◌, ◌++◌, map, Option, Some, None, codes}
use Rattle.std.specs.Fmt.{decimal}
use Rattle.std.specs.List.{concat}
use Rattle.csv.specs.Writing.{default_writer, fields_written, has_written, row_text, writer_setup}
use Rattle.csv.specs.declared.writer.Writer.{Writer}
use Rattle.dm_types.specs.Reason.{code_of}
use Rattle.dm_types.specs.declared.item.Item.{Item}
use Rattle.dm_types.specs.declared.reason.Reason.{Reason}
use Rattle.dm_report.specs.Texts.{digest_of, number_or, state_of, text_of}

abbrev pub export_header : List (List ℕ)
export_header = codes "id" ∷ codes "word" ∷ codes "address" ∷ codes "name" ∷ codes "state" ∷ codes "reason" ∷ codes "total" ∷ codes "sha256" ∷ []

-- the number of a reason that is there, or nothing
abbrev pub code_in : Option Reason → List ℕ
code_in None = []
code_in (Some reason) = decimal (code_of reason)

-- its number, word, first address and name; its state as in its line, and the number of its reason; how long it is, and the SHA-256 of its file. What isn't there is empty.
abbrev pub fields_of : Item → List (List ℕ)
fields_of item =
    decimal item.id.0 ∷ item.word ∷ item.first_address ∷ text_of item.name ∷ state_of item.phase ∷ code_in item.reason ∷ number_or [] item.total ∷ digest_of item.have ∷ []

abbrev pub csv_row : List (List ℕ) → List ℕ
csv_row fields = row_text default_writer fields

abbrev pub csv_rows : List Item → List ℕ
csv_rows items = concat (map (λ item. csv_row (fields_of item)) items)

abbrev pub csv_of : List Item → List ℕ
csv_of items = csv_row export_header ++ csv_rows items

-- a writer at the start of a record
pub record IsReady {W : Type 0} (writer : Writer W) : Type 0 where
  pub setup : writer_setup writer ≡ default_writer
  pub none : fields_written writer ≡ 0
  pub clean : has_written writer ≡ false
