-- What an address is made of: a URL record of the URL Standard, section 4.1, without its fragment. The record, its
-- parser and its text are those of the crate `url`.
use Rattle.std.specs.Prelude.{ℕ, ◌<◌, All, List, [], ◌∷◌, ◌++◌, ◌==◌, ◌&&◌, not, if◌then◌else◌, Bool, codes, Option, Some, None, unwrap_or}
use Rattle.std.specs.Str.{bytes_eq}
use Rattle.std.specs.Fmt.{decimal}
use Rattle.url.specs.Host.{host_text}
use Rattle.url.specs.Parts.{Parts, serialize, host_or_empty, has_credentials}
use Rattle.dm_types.specs.declared.address.Address.{Address}

-- the URL without its fragment
abbrev pub without_fragment : Parts → Parts
without_fragment url = record url { fragment = None }

-- the text of that URL
abbrev pub text_of : Parts → List ℕ
text_of url = serialize (without_fragment url)

-- a query after its mark, where there is one
abbrev pub query_part : Option (List ℕ) → List ℕ
query_part None = []
query_part (Some query) = codes "?" ++ query

-- what a request line asks for: the path, and the query
abbrev pub target_of : Parts → List ℕ
target_of url = url.path ++ query_part url.query

-- The address of a URL. An IPv6 host has its brackets, and the port is 80 where the URL has none.
abbrev pub address_of : Parts → Address
address_of url = record {
  text = text_of url;
  host = host_text (host_or_empty url);
  port = unwrap_or url.port 80;
  target = target_of url;
}

-- the scheme is `http`, and there is neither a user name nor a password, where an empty one is none
abbrev pub is_http : Parts → Bool
is_http url = bytes_eq url.scheme (codes "http") && not (has_credentials url)

-- no byte is a space or below it, as the ends of lines are
abbrev pub IsUnbroken : List ℕ → Type 0
IsUnbroken bytes = All (λ b. 32 < b) bytes

-- what a request says of the address stays in its line
pub record FitsLines (address : Address) : Type 0 where
  pub host : IsUnbroken address.host
  pub target : IsUnbroken address.target

-- nothing for the port 80, else a colon and the port in decimal, without a leading zero
abbrev pub port_part : ℕ → List ℕ
port_part port = if port == 80 then [] else 58 ∷ decimal port
