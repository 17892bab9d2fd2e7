-- What the code holds of a query and of an id.
use Rattle.std.specs.Prelude.{◌≡◌, ◌⊎◌, ℕ, ◌<◌, List, [], ◌∷◌, length, String, string_bytes, Option, None, option_map, option_and_then}
use Rattle.std.specs.declared.alloc.Global.{Global}
use Rattle.dm_types.specs.declared.item.ItemId.{ItemId}
use Rattle.dm_call.specs.Numbers.{number_of}
use Rattle.dm_call.specs.Query.{Pair}
use Rattle.dm_call.specs.Content.{Texts}
use Rattle.dm_call.specs.declared.call.CallFault.{CallFault}
use Rattle.dm_call.specs.declared.call.CallFault.TheVariants as faults
use Rattle.dm_call.specs.declared.call.Refusal.TheVariants.{Query}
use Rattle.dm_call.specs.declared.call.Window.{Window}
use Rattle.dm_call.specs.declared.content.Told.{Told}
use Rattle.std.specs.Option.{option_copied}
use Rattle.dm_call.specs.declared.query.Values.{Values}
use Rattle.dm_call.specs.declared.query.Values.TheVariants as held

abbrev pub text_pair : String Global × String Global → Pair
text_pair pair = (string_bytes pair.0, string_bytes pair.1)

-- these are the values of one name
abbrev pub AreValues : Values → List (List ℕ) → Type 0
AreValues held.Absent texts = texts ≡ []
AreValues (held.One text) texts = texts ≡ text.now ∷ []
AreValues held.Several texts = 1 < length texts

-- the id that is told, where it is a number
abbrev pub id_told : Option (List ℕ) → Option ItemId
id_told text = option_map (λ id. record { 0 = id }) (option_and_then number_of text)

abbrev pub texts_told : Told → Texts
texts_told told = record { url = told.url.now; word = told.word.now; name = option_copied told.name; sha256 = option_copied told.sha256 }

-- the query tells no part of a list, or memory was wanting
abbrev pub RefusesQuery : Option Window → CallFault → Type 0
RefusesQuery window fault = ((window ≡ None) × (fault ≡ faults.Refused Query)) ⊎ (fault ≡ faults.NoMemory)
