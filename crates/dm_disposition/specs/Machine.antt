-- The reader's own automaton. No public clause cites it.
use Rattle.std.specs.Char.{is_ascii_hexdigit}
use Rattle.std.specs.Prelude.{◌≡◌, zero, suc, ◌<◌, ◌⊎◌, length, take, slice_index, ℕ, ◌+◌, ◌==◌, Bool, true, false, if◌then◌else◌, Option, Some, None, option_and_then, List, [], ◌∷◌, ◌++◌}
use Rattle.dm_types.specs.Bytes.{is_blank}
use Rattle.dm_disposition.specs.Bytes.{is_token_byte, is_quoted_text, is_escapable}
use Rattle.dm_disposition.specs.Names.{Named}
use Rattle.dm_disposition.specs.Told.{is_attr_byte}
use Rattle.dm_disposition.specs.declared.state.State.{State}
use Rattle.dm_disposition.specs.declared.state.State.TheVariants.{Start, Kind, Between, Semicolon, Name, AfterName, Equals, Token, Quoted, Escaped, Closed}

-- behind a kind or a value: a blank, or the next piece
abbrev pub between : ℕ → Option State
between b = if is_blank b then Some Between else (if b == 59 then Some Semicolon else None)

-- behind a name: a blank, or the equals sign
abbrev pub equals : ℕ → Option State
equals b = if is_blank b then Some AfterName else (if b == 61 then Some Equals else None)

-- where the reader stands after one byte more, if a value may go on so
abbrev pub next : State → ℕ → Option State
next Start b = if is_blank b then Some Start else (if is_token_byte b then Some Kind else None)
next Kind b = if is_token_byte b then Some Kind else between b
next Between b = between b
next Semicolon b = if is_blank b then Some Semicolon else (if b == 59 then Some Semicolon else (if is_token_byte b then Some Name else None))
next Name b = if is_token_byte b then Some Name else equals b
next AfterName b = equals b
next Equals b = if is_blank b then Some Equals else (if b == 34 then Some Quoted else (if is_token_byte b then Some Token else None))
next Token b = if is_token_byte b then Some Token else between b
next Quoted b = if b == 34 then Some Closed else (if b == 92 then Some Escaped else (if is_quoted_text b then Some Quoted else None))
next Escaped b = if is_escapable b then Some Quoted else None
next Closed b = between b

-- a value may end here
abbrev pub is_end : State → Bool
is_end Start = false
is_end Kind = true
is_end Between = true
is_end Semicolon = true
is_end Name = false
is_end AfterName = false
is_end Equals = false
is_end Token = true
is_end Quoted = false
is_end Escaped = false
is_end Closed = true

-- what was read so far: the kind, the parameters that are whole, and the one that is under way
pub record Notes : Type 0 where
  pub state : State
  pub kind : List ℕ
  pub done : List Named
  pub place : ℕ
  pub name : List ℕ
  pub text : List ℕ

abbrev pub finished : Notes → Notes
finished n = record n { done = n.done ++ record { place = n.place; name = n.name; text = n.text } ∷ []; name = []; text = [] }

-- behind a value its parameter is whole
abbrev pub settled_by : State → Notes → Notes
settled_by Token n = finished n
settled_by Closed n = finished n
settled_by Start n = n
settled_by Kind n = n
settled_by Between n = n
settled_by Semicolon n = n
settled_by Name n = n
settled_by AfterName n = n
settled_by Equals n = n
settled_by Quoted n = n
settled_by Escaped n = n

abbrev pub settled : Notes → Notes
settled n = settled_by n.state n

-- a name begins behind a semicolon
abbrev pub begins_at : State → ℕ → ℕ → ℕ
begins_at Semicolon at place = at
begins_at Start at place = place
begins_at Kind at place = place
begins_at Between at place = place
begins_at Name at place = place
begins_at AfterName at place = place
begins_at Equals at place = place
begins_at Token at place = place
begins_at Quoted at place = place
begins_at Escaped at place = place
begins_at Closed at place = place

-- the notes with one byte more, which leads to this state
abbrev pub taken : Notes → ℕ → ℕ → State → Notes
taken n at b Start = record n { state = Start }
taken n at b Kind = record n { state = Kind; kind = n.kind ++ b ∷ [] }
taken n at b Between = record (settled n) { state = Between }
taken n at b Semicolon = record (settled n) { state = Semicolon }
taken n at b Name = record n { state = Name; place = begins_at n.state at n.place; name = n.name ++ b ∷ [] }
taken n at b AfterName = record n { state = AfterName }
taken n at b Equals = record n { state = Equals }
taken n at b Token = record n { state = Token; text = n.text ++ b ∷ [] }
taken n at b Quoted = record n { state = Quoted; text = n.text ++ b ∷ [] }
taken n at b Escaped = record n { state = Escaped; text = n.text ++ b ∷ [] }
taken n at b Closed = record n { state = Closed; text = n.text ++ b ∷ [] }

-- the notes after these bytes, of which the first stands at this place
unfoldable pub run : Notes → ℕ → List ℕ → Option Notes
run n at [] = Some n
run n at (b ∷ bytes) = option_and_then (λ s. run (taken n at b s) (at + 1) bytes) (next n.state b)

abbrev pub nothing : Notes
nothing = record { state = Start; kind = []; done = []; place = 0; name = []; text = [] }

-- no value goes on with the byte at k, or the text ends there where no value may end
pub record StopsAt (text : List ℕ) (k : ℕ) : Type 0 where
  pub last : Notes
  pub ran : run nothing 0 (take k text) ≡ Some last
  pub stops : ((k < length text) × (next last.state (slice_index text k) ≡ None)) ⊎ ((k ≡ length text) × (is_end last.state ≡ false))

-- the text is run to its end, and these notes were made
pub record EndsWith (text : List ℕ) (notes : Notes) : Type 0 where
  pub last : Notes
  pub ran : run nothing 0 text ≡ Some last
  pub end : is_end last.state ≡ true
  pub same : notes ≡ settled last

-- the bytes between double quotes, where the first is behind a backslash or isn't
abbrev pub unescaped : Bool → List ℕ → List ℕ
unescaped true [] = []
unescaped false [] = []
unescaped true (b ∷ bytes) = b ∷ unescaped false bytes
unescaped false (b ∷ bytes) = if b == 92 then unescaped true bytes else b ∷ unescaped false bytes

-- how many hexadecimal digits are to come behind this byte of an ext-value, where so many were to come
abbrev pub digits_after : ℕ → ℕ → Option ℕ
digits_after zero b = if b == 37 then Some 2 else (if is_attr_byte b then Some 0 else None)
digits_after (suc digits) b = if is_ascii_hexdigit b then Some digits else None

-- and behind all these bytes
unfoldable pub digits_behind : ℕ → List ℕ → Option ℕ
digits_behind digits [] = Some digits
digits_behind digits (b ∷ bytes) = option_and_then (λ d. digits_behind d bytes) (digits_after digits b)
