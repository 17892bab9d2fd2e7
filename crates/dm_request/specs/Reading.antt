-- How a text is read as an address, and how one is refused. The first of these refusals is the one that is told:
-- TooLong of the text, NotUrl, TooLong of the URL's text, NotHttp.
use Rattle.std.specs.Prelude.{◌≡◌, IsAscii, ℕ, List, length, nat_lt, if◌then◌else◌, Option, Some, None, Result, Ok, Err}
use Rattle.std.specs.Str.{is_utf8}
use Rattle.url.specs.Parts.{Parts, IsValid}
use Rattle.url.specs.Parser.{Parsed, parse_url}
use Rattle.dm_types.specs.declared.address.Address.{Address}
use Rattle.dm_request.specs.declared.address.AddressFault.{AddressFault}
use Rattle.dm_request.specs.declared.address.AddressFault.TheVariants.{TooLong, NotUrl, NotHttp}
use Rattle.dm_request.specs.Address.{text_of, is_http, address_of}

-- the most bytes of an address, as it is written and as it is kept
abbrev pub most : ℕ
most = 4096

-- the URL, where it is one that `dm` fetches
abbrev pub fetched : Parts → Result Parts AddressFault
fetched url =
    if nat_lt most (length (text_of url)) then Err (TooLong (length (text_of url)))
    else (if is_http url then Ok url else Err NotHttp)

-- a text that the URL Standard's parser refuses is no URL
abbrev pub fetched_of : Parsed Parts → Result Parts AddressFault
fetched_of (Ok url) = fetched url
fetched_of (Err error) = Err NotUrl

-- the URL that is read of a text, against a base where there is one
unfoldable pub url_of : Option Parts → List ℕ → Result Parts AddressFault
url_of base text =
    if nat_lt most (length text) then Err (TooLong (length text))
    else (if is_utf8 text then fetched_of (parse_url base text) else Err NotUrl)

-- the address of the URL, where there is one
abbrev pub addressed : Result Parts AddressFault → Result Address AddressFault
addressed (Ok url) = Ok (address_of url)
addressed (Err fault) = Err fault

-- the address that is read of a text
abbrev pub address_read : Option Parts → List ℕ → Result Address AddressFault
address_read base text = addressed (url_of base text)

-- the address that is read of a text against the URL that another text gave
abbrev pub address_after : Result Parts AddressFault → List ℕ → Result Address AddressFault
address_after (Ok url) text = address_read (Some url) text
address_after (Err fault) text = Err fault

-- The address that a Location leads to (RFC 9110, section 10.2.2). The base is read again from its text, which an
-- address that was read always lets.
abbrev pub address_next : Address → List ℕ → Result Address AddressFault
address_next base location = address_after (url_of None base.text) location

-- a URL that is fetched as it is
pub record IsFetched (url : Parts) : Type 0 where
  pub valid : IsValid url
  pub ascii : IsAscii (text_of url)
  pub fetched : fetched url ≡ Ok url
