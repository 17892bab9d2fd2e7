-- The line of an item, and the text that shows it whole. Each line ends with a line feed, 10. 32 is a blank.
use Rattle.std.specs.Prelude.{ℕ, List, [], ◌∷◌, ◌++◌, Option, Some, None, codes}
use Rattle.std.specs.Fmt.{decimal}
use Rattle.hex.specs.Hex.{encode_lower}
use Rattle.dm_types.specs.Reason.{code_of}
use Rattle.dm_types.specs.declared.item.Item.{Item}
use Rattle.dm_types.specs.declared.item.Phase.{Phase}
use Rattle.dm_types.specs.declared.item.Phase.TheVariants.{Waiting, Running, Paused, Finishing, Complete, Cancelled, Interrupted}
use Rattle.dm_slice.specs.Words.{covered}

-- the word of a state. An interrupted one has its reason's number
abbrev pub state_of : Phase → List ℕ
state_of Waiting = codes "waiting"
state_of Running = codes "running"
state_of Paused = codes "paused"
state_of Finishing = codes "finishing"
state_of Complete = codes "complete"
state_of Cancelled = codes "cancelled"
state_of (Interrupted reason) = codes "interrupted:" ++ decimal (code_of reason)

-- a value that is there, or nothing
abbrev pub text_of : Option (List ℕ) → List ℕ
text_of None = []
text_of (Some text) = text

-- a number that is known, or this word
abbrev pub number_or : List ℕ → Option ℕ → List ℕ
number_or word None = word
number_or word (Some number) = decimal number

-- a digest in lower-case hexadecimal, or nothing
abbrev pub digest_of : Option (List ℕ) → List ℕ
digest_of None = []
digest_of (Some digest) = encode_lower digest

-- a value, or a hyphen where it is empty
abbrev pub or_hyphen : List ℕ → List ℕ
or_hyphen [] = codes "-"
or_hyphen (byte ∷ bytes) = byte ∷ bytes

-- a value and a blank
abbrev pub field : List ℕ → List ℕ
field value = value ++ 32 ∷ []

abbrev pub line : List ℕ → List ℕ
line text = text ++ 10 ∷ []

-- <label> <value or ->
abbrev pub labelled : List ℕ → List ℕ → List ℕ
labelled label value = field label ++ line (or_hyphen value)

-- <id> <state> <covered> <total or ?> <name or ->
abbrev pub row_of : ℕ → Phase → ℕ → Option ℕ → List ℕ → List ℕ
row_of id phase got total name =
    field (decimal id) ++ field (state_of phase) ++ field (decimal got) ++ field (number_or (codes "?") total) ++ line (or_hyphen name)

-- the line of an item
abbrev pub item_line_of : Item → List ℕ
item_line_of item = row_of item.id.0 item.phase (covered item.slices) item.total (text_of item.name)

-- which item it is, and how it is called
abbrev pub naming_of : Item → List ℕ
naming_of item =
    labelled (codes "id") (decimal item.id.0) ++ labelled (codes "state") (state_of item.phase)
    ++ labelled (codes "word") item.word ++ labelled (codes "address") item.first_address
    ++ labelled (codes "last") (text_of item.last_address) ++ labelled (codes "name") (text_of item.name)

-- how far it has come
abbrev pub progress_of : Item → List ℕ
progress_of item =
    labelled (codes "covered") (decimal (covered item.slices)) ++ labelled (codes "total") (number_or [] item.total)
    ++ labelled (codes "epoch") (decimal item.epoch.0) ++ labelled (codes "attempts") (decimal item.attempt.0)
    ++ labelled (codes "automatic") (decimal item.autos)

-- what its content is
abbrev pub content_of : Item → List ℕ
content_of item = labelled (codes "modified") (text_of item.modified) ++ labelled (codes "sha256") (digest_of item.have)

-- thirteen lines: id, state, word, address, last, name, covered, total, epoch, attempts, automatic, modified, sha256
abbrev pub item_text_of : Item → List ℕ
item_text_of item = naming_of item ++ progress_of item ++ content_of item
