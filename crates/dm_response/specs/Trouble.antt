-- Why a request isn't done, as a status and as JSON.
use Rattle.std.specs.Prelude.{ℕ, List, codes, Option, Some, None}
use Rattle.serde_json.specs.Data.{Data, string, object, no_members, put}
use Rattle.dm_call.specs.declared.call.Refusal.{Refusal}
use Rattle.dm_call.specs.declared.call.Refusal.TheVariants as refusals
use Rattle.dm_call.specs.declared.call.Target.{Target}
use Rattle.dm_response.specs.Json.{number_data, word_of}
use Rattle.dm_response.specs.declared.trouble.Trouble.{Trouble}
use Rattle.dm_response.specs.declared.trouble.Trouble.TheVariants as troubles

abbrev pub error_data : List ℕ → Data
error_data word = object (put (codes "error") (string word) no_members)

abbrev pub word_of_refusal : Refusal → List ℕ
word_of_refusal refusals.Path = codes "path"
word_of_refusal (refusals.Method target) = codes "method"
word_of_refusal refusals.Query = codes "query"
word_of_refusal refusals.Json = codes "json"
word_of_refusal refusals.Word = codes "word"
word_of_refusal refusals.Url = codes "url"
word_of_refusal refusals.Name = codes "name"
word_of_refusal refusals.Sha256 = codes "sha256"

abbrev pub status_of_refusal : Refusal → ℕ
status_of_refusal refusals.Path = 404
status_of_refusal (refusals.Method target) = 405
status_of_refusal refusals.Query = 400
status_of_refusal refusals.Json = 400
status_of_refusal refusals.Word = 400
status_of_refusal refusals.Url = 400
status_of_refusal refusals.Name = 400
status_of_refusal refusals.Sha256 = 400

-- what is told with a trouble
abbrev pub trouble_data : Trouble → Data
trouble_data troubles.Head = error_data (codes "head")
trouble_data troubles.Length = error_data (codes "length")
trouble_data troubles.Size = error_data (codes "size")
trouble_data (troubles.Refused refusal) = error_data (word_of_refusal refusal)
trouble_data troubles.NoItem = error_data (codes "item")
trouble_data (troubles.WrongState phase) = object (put (codes "phase") (string (word_of phase)) (put (codes "error") (string (codes "phase")) no_members))
trouble_data (troubles.OtherWord id) = object (put (codes "item") (number_data id.0) (put (codes "error") (string (codes "word")) no_members))
trouble_data (troubles.Full count) = object (put (codes "count") (number_data count) (put (codes "error") (string (codes "full")) no_members))
trouble_data troubles.Memory = error_data (codes "memory")
trouble_data troubles.Disk = error_data (codes "disk")
trouble_data troubles.Broken = error_data (codes "broken")
trouble_data troubles.History = error_data (codes "history")

-- its status
abbrev pub status_of : Trouble → ℕ
status_of troubles.Head = 400
status_of troubles.Length = 400
status_of troubles.Size = 413
status_of (troubles.Refused refusal) = status_of_refusal refusal
status_of troubles.NoItem = 404
status_of (troubles.WrongState phase) = 409
status_of (troubles.OtherWord id) = 409
status_of (troubles.Full count) = 409
status_of troubles.Memory = 500
status_of troubles.Disk = 503
status_of troubles.Broken = 503
status_of troubles.History = 503

-- the target whose methods are told
abbrev pub target_of_refusal : Refusal → Option Target
target_of_refusal (refusals.Method target) = Some target
target_of_refusal _ = None

abbrev pub target_told : Trouble → Option Target
target_told (troubles.Refused refusal) = target_of_refusal refusal
target_told _ = None
