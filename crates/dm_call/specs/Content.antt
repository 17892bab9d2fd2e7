-- The content that adds an item: a JSON object of texts.
use Rattle.std.specs.Prelude.{ℕ, Bool, true, false, ◌&&◌, ◌||◌, nat_lt, nat_le, if◌then◌else◌, List, [], ◌∷◌, length, codes, Option, Some, None, option_map, option_and_then, is_some, Result, Ok, Err}
use Rattle.std.specs.List.{list_all}
use Rattle.std.specs.Str.{bytes_eq, is_utf8}
use Rattle.hex.specs.Hex.{decode_sized}
use Rattle.serde_json.specs.Data.{Data, Members, no_members, member}
use Rattle.serde_json.specs.Read.{read}
use Rattle.serde_json.specs.Find.{as_object, as_str, get}
use Rattle.dm_types.specs.declared.address.Address.{Address}
use Rattle.dm_request.specs.Reading.{address_read}
use Rattle.dm_words.specs.Values.{is_word_byte}
use Rattle.dm_call.specs.declared.call.Named.{Named}
use Rattle.dm_call.specs.declared.call.Refusal.{Refusal}
use Rattle.dm_call.specs.declared.call.Refusal.TheVariants as refusals

-- the texts of an object
pub record Texts : Type 0 where
  pub url : List ℕ
  pub word : List ℕ
  pub name : Option (List ℕ)
  pub sha256 : Option (List ℕ)

abbrev pub is_key : List ℕ → Bool
is_key key = bytes_eq key (codes "name") || bytes_eq key (codes "sha256") || bytes_eq key (codes "url") || bytes_eq key (codes "word")

-- each key is known, and each value is a text
abbrev pub are_texts : Members → Bool
are_texts no_members = true
are_texts (member key value rest) = is_key key && is_some (as_str value) && are_texts rest

abbrev pub text_at : List ℕ → Data → Option (List ℕ)
text_at key value = option_and_then as_str (get key value)

-- an address and a word have to be there
abbrev pub texts_by : Option (List ℕ) → Option (List ℕ) → Option (List ℕ) → Option (List ℕ) → Option Texts
texts_by None word name sha256 = None
texts_by (Some url) None name sha256 = None
texts_by (Some url) (Some word) name sha256 = Some (record { url = url; word = word; name = name; sha256 = sha256 })

abbrev pub texts_with : Data → Members → Option Texts
texts_with value members =
    if are_texts members then texts_by (text_at (codes "url") value) (text_at (codes "word") value) (text_at (codes "name") value) (text_at (codes "sha256") value) else None

-- the texts of a value, where it is an object of such texts
abbrev pub texts_in : Data → Option Texts
texts_in value = option_and_then (texts_with value) (as_object value)

-- the texts of the content, where it is such an object
abbrev pub texts_of : List ℕ → Option Texts
texts_of body = if is_utf8 body then option_and_then texts_in (read body) else None

-- 1 to 64 letters, digits, dots, underscores and hyphens
abbrev pub is_word : List ℕ → Bool
is_word word = nat_lt 0 (length word) && nat_le (length word) 64 && list_all is_word_byte word

-- at most 255 bytes; a name that isn't told is the empty one
abbrev pub name_of : Option (List ℕ) → Option (List ℕ)
name_of None = Some []
name_of (Some name) = if nat_le (length name) 255 then Some name else None

abbrev pub sized : {E : Type 0} → Result (List ℕ) E → Option (Option (List ℕ))
sized (Ok digest) = Some (Some digest)
sized (Err error) = None

-- 64 hexadecimal digits, of either case, where they are told
abbrev pub digest_of : Option (List ℕ) → Option (Option (List ℕ))
digest_of None = Some None
digest_of (Some digits) = sized (decode_sized digits 32)

abbrev pub with_digest : List ℕ → Address → List ℕ → Option (Option (List ℕ)) → Result Named Refusal
with_digest word address name None = Err refusals.Sha256
with_digest word address name (Some digest) = Ok (record { word = word; address = address; name = name; digest = digest })

abbrev pub with_name : Texts → Address → Option (List ℕ) → Result Named Refusal
with_name texts address None = Err refusals.Name
with_name texts address (Some name) = with_digest texts.word address name (digest_of texts.sha256)

abbrev pub with_address : {E : Type 0} → Texts → Result Address E → Result Named Refusal
with_address texts (Err fault) = Err refusals.Url
with_address texts (Ok address) = with_name texts address (name_of texts.name)

-- the word's rule comes first, then those of the address, the name and the digest
abbrev pub named_by : Texts → Result Named Refusal
named_by texts = if is_word texts.word then with_address texts (address_read None texts.url) else Err refusals.Word

abbrev pub named_in : Option Texts → Result Named Refusal
named_in None = Err refusals.Json
named_in (Some texts) = named_by texts

-- what the content adds
abbrev pub named_of : List ℕ → Result Named Refusal
named_of body = named_in (texts_of body)
