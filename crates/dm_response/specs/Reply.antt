-- The bytes of a reply (RFC 9112, sections 4 and 5).
use Rattle.std.specs.Prelude.{ℕ, Bool, false, List, [], ◌∷◌, ◌++◌, length, codes, Option, Some, None}
use Rattle.std.specs.Fmt.{decimal}
use Rattle.http.specs.StatusCode.{status_text}
use Rattle.serde_json.specs.Written.{compact_text}
use Rattle.dm_call.specs.declared.call.Target.{Target}
use Rattle.dm_call.specs.declared.call.Target.TheVariants as targets
use Rattle.dm_response.specs.Trouble.{status_of, target_told, trouble_data}
use Rattle.dm_response.specs.declared.reply.ApiReply.{ApiReply}
use Rattle.dm_response.specs.declared.reply.Media.{Media}
use Rattle.dm_response.specs.declared.reply.Media.TheVariants as media
use Rattle.dm_response.specs.declared.trouble.Trouble.{Trouble}

abbrev pub crlf : List ℕ
crlf = 13 ∷ 10 ∷ []

-- <name>: <value>, and the line's end
abbrev pub field : List ℕ → List ℕ → List ℕ
field name value = name ++ codes ": " ++ value ++ crlf

abbrev pub media_text : Media → List ℕ
media_text media.Json = codes "application/json"
media_text media.Plain = codes "text/plain; charset=utf-8"

-- the methods of a target
abbrev pub allowed : Target → List ℕ
allowed targets.Items = codes "GET, POST"
allowed (targets.Item id) = codes "GET, DELETE"
allowed (targets.Pause id) = codes "POST"
allowed (targets.Resume id) = codes "POST"
allowed (targets.Cancel id) = codes "POST"
allowed targets.Archive = codes "POST"
allowed targets.History = codes "GET"
allowed targets.Report = codes "GET"
allowed targets.Stop = codes "POST"

abbrev pub allow_field : Option Target → List ℕ
allow_field None = []
allow_field (Some target) = field (codes "Allow") (allowed target)

-- the status line and the fields, and the empty line
abbrev pub head_of : ℕ → Media → Option Target → ℕ → List ℕ
head_of status kind target size =
    codes "HTTP/1.1 " ++ status_text status ++ crlf ++ field (codes "Content-Type") (media_text kind) ++ field (codes "Content-Length") (decimal size)
    ++ field (codes "Connection") (codes "close") ++ allow_field target ++ crlf

-- a whole reply
abbrev pub bytes_of : ℕ → Media → Option Target → List ℕ → List ℕ
bytes_of status kind target content = head_of status kind target (length content) ++ content

abbrev pub reply_of : ℕ → Media → Option Target → List ℕ → Bool → ApiReply
reply_of status kind target content stop = record { status = status; bytes = bytes_of status kind target content; stop = stop }

-- the reply to a request that isn't done
abbrev pub trouble_of : Trouble → ApiReply
trouble_of trouble = reply_of (status_of trouble) media.Json (target_told trouble) (compact_text (trouble_data trouble)) false
