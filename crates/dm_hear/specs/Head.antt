-- The head of a request at the front of a stream, or what stands there in its place (RFC 9112, sections 2 to 5).
use Rattle.std.specs.Prelude.{◌≡◌, ℕ, ◌<◌, ◌≤◌, List, [], ◌∷◌, ◌++◌, length, take}
use Rattle.httparse.specs.Grammar.{lf, print_end, RequestHead, print_request, ReadsRequest, EndsInTarget, HasNoRequest, NeverHasRequest, MayBecomeRequest}
use Rattle.dm_edge.specs.Head.{IsInLine, most_fields}

-- the most bytes of a request, its head and its content together
abbrev pub most_request : ℕ
most_request = 16384

-- The stream is a whole head, which keeps the limits, and then the rest.
pub record BeginsRequest (stream : List ℕ) (head : RequestHead) (rest : List ℕ) : Type 0 where
  pub reads : ReadsRequest stream head rest
  pub size : length (print_request head) ≤ most_request
  pub count : length head.fields ≤ most_fields

-- A request line and a hundred field lines stand there, and the first byte of one more line, which isn't the empty one.
pub record HasManyLines (text : List ℕ) : Type 0 where
  pub lines : List ℕ
  pub next : ℕ
  pub rest : List ℕ
  pub is : text ≡ lines ++ next ∷ rest
  pub head : RequestHead
  pub reads : ReadsRequest (lines ++ print_end lf) head []
  pub last : head.last ≡ lf
  pub count : length head.fields ≡ most_fields
  pub in_line : IsInLine next

-- No head stands at the front, and none can come.
pub data IsBadHead (stream : List ℕ) : Type 0 where
  -- the bytes can't begin a head, and don't end inside a request target, which is looked at where it ends
  never : NeverHasRequest (take most_request stream) → (EndsInTarget (take most_request stream) → ⊥) → IsBadHead stream
  -- one more field begins than a head may have
  many : HasManyLines (take most_request stream) → IsBadHead stream

-- There is no whole head so far, and one may come. Whether a request target is UTF-8 is looked at where it ends.
pub record IsOpen (front : List ℕ) : Type 0 where
  pub none : HasNoRequest front
  pub open_head : MayBecomeRequest front
  pub few : HasManyLines front → ⊥

-- the stream ended inside a head
pub record IsHeadCut (stream : List ℕ) : Type 0 where
  pub short : length stream < most_request
  pub open_head : IsOpen stream

-- there is no whole head in as many bytes as a request may have
pub record IsHeadLong (stream : List ℕ) : Type 0 where
  pub long : most_request ≤ length stream
  pub open_head : IsOpen (take most_request stream)
