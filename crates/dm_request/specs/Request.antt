-- The text of a request (RFC 9112, sections 3 and 9.6, and RFC 9110, sections 7.2, 7.6.1, 10.1.5, 12.5.1, 12.5.3, 13.1.5 and 14.2). Lines end with CR LF.
use Rattle.std.specs.Prelude.{ℕ, List, [], ◌∷◌, ◌++◌, codes, Option, Some, None}
use Rattle.std.specs.Fmt.{decimal}
use Rattle.dm_request.specs.Address.{port_part}
use Rattle.dm_request.specs.declared.request.Ask.{Ask}
use Rattle.dm_types.specs.declared.address.Address.{Address}

abbrev pub line : List ℕ → List ℕ
line text = text ++ 13 ∷ 10 ∷ []

-- the lines that ask for a range of the content, if it still has this tag
abbrev pub range_lines : Option Ask → List ℕ
range_lines None = []
range_lines (Some ask) =
    line (codes "Range: bytes=" ++ decimal ask.first ++ codes "-" ++ decimal ask.last)
    ++ line (codes "If-Range: " ++ ask.tag)

-- the whole content is asked for, or a range of it
abbrev pub request_of : Address → Option Ask → List ℕ
request_of address ask =
    line (codes "GET " ++ address.target ++ codes " HTTP/1.1")
    ++ line (codes "Host: " ++ address.host ++ port_part address.port)
    ++ line (codes "User-Agent: dm/1")
    ++ line (codes "Accept: */*")
    ++ line (codes "Accept-Encoding: identity")
    ++ line (codes "Connection: close")
    ++ range_lines ask
    ++ line []
