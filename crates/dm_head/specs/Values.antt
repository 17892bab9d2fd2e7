-- What the code holds of the values of the fields of one name.
use Rattle.std.specs.Prelude.{◌≡◌, ◌≢◌, ℕ, ◌<◌, Bool, ◌&&◌, not, List, [], ◌∷◌, length, All, Option, Some, None, codes, if◌then◌else◌, ◌==◌, ◌-◌, nat_le}
use Rattle.std.specs.Str.{str_eq_ignore_ascii_case}
use Rattle.httparse.specs.declared.spans.Span.{Span}
use Rattle.httparse.specs.Spans.{IsWithin, span_bytes}
use Rattle.dm_tag.specs.Length.{IsLength}
use Rattle.dm_edge.specs.Fields.{NameAndValue, has_name}
use Rattle.dm_edge.specs.Metadata.{most_modified}
use Rattle.dm_head.specs.declared.fields.Values.{Values}
use Rattle.dm_head.specs.declared.fields.Values.TheVariants as found
use Rattle.dm_head.specs.declared.lengths.ToldLength.{ToldLength}
use Rattle.dm_head.specs.declared.lengths.ToldLength.TheVariants as told

abbrev pub AreValues : List ℕ → Values → List (List ℕ) → Type 0
AreValues head found.Absent texts = texts ≡ []
AreValues head (found.One span) texts = (texts ≡ span_bytes head span ∷ []) × IsWithin (length head) span
AreValues head found.Several texts = 1 < length texts

-- with one more value
abbrev pub one_more : Values → Span → Values
one_more found.Absent value = found.One value
one_more (found.One first) value = found.Several
one_more found.Several value = found.Several

-- a Content-Encoding other than identity
abbrev pub is_coded : NameAndValue → Bool
is_coded field = has_name (codes "content-encoding") field && not (str_eq_ignore_ascii_case field.1 (codes "identity"))

-- what the values of Content-Length tell, all together
abbrev pub Tells : List (List ℕ) → ToldLength → Type 0
Tells values told.Absent = values ≡ []
Tells values (told.Count count) = (values ≢ []) × All (λ value. IsLength value count) values
Tells values told.Unreadable = (count : ℕ) → All (λ value. IsLength value count) values → ⊥

-- one more value was read so
abbrev pub joined : ToldLength → Option ℕ → ToldLength
joined told.Absent None = told.Unreadable
joined told.Absent (Some next) = told.Count next
joined (told.Count count) None = told.Unreadable
joined (told.Count count) (Some next) = if next == count then told.Count count else told.Unreadable
joined told.Unreadable next = told.Unreadable

-- the span, where it is short enough, and else nothing
abbrev pub kept : Span → Span
kept span = if nat_le (span.end - span.start) most_modified then span else record { start = 0; end = 0 }
