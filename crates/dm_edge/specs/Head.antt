-- The heads at the front of a stream, or what stands there in their place (RFC 9112, sections 2 to 5; RFC 9110, section 15).
use Rattle.std.specs.Prelude.{◌≡◌, ◌≢◌, ℕ, ◌<◌, ◌≤◌, Bool, false, ◌||◌, ◌&&◌, ◌==◌, nat_le, List, [], ◌∷◌, ◌++◌, length, take, IsTrue}
use Rattle.httparse.specs.Grammar.{lf, print_end, ResponseHead, print_response, ReadsResponse, HasNoResponse, NeverHasResponse, MayBecomeResponse, status_code}

-- the most bytes of a head, with its empty line
abbrev pub most_head : ℕ
most_head = 65536

-- the most fields of a head
abbrev pub most_fields : ℕ
most_fields = 100

-- the most interim heads that are passed over
abbrev pub most_interim : ℕ
most_interim = 8

-- The stream is a whole head, which keeps the limits, and then the rest.
pub record BeginsWith (stream : List ℕ) (head : ResponseHead) (rest : List ℕ) : Type 0 where
  pub reads : ReadsResponse stream head rest
  pub size : length (print_response head) ≤ most_head
  pub count : length head.fields ≤ most_fields

-- a byte that no line end begins with
abbrev pub IsInLine : ℕ → Type 0
IsInLine byte = (byte ≢ 13) × (byte ≢ 10)

-- A status line and a hundred field lines stand there, and the first byte of one more line, which isn't the
-- empty one (RFC 9112, sections 4 and 5).
pub record HasManyLines (text : List ℕ) : Type 0 where
  pub lines : List ℕ
  pub next : ℕ
  pub rest : List ℕ
  pub is : text ≡ lines ++ next ∷ rest
  pub head : ResponseHead
  pub reads : ReadsResponse (lines ++ print_end lf) head []
  pub last : head.last ≡ lf
  pub count : length head.fields ≡ most_fields
  pub in_line : IsInLine next

-- No head within the limits stands at the front, and none can come.
pub data IsBadHead (stream : List ℕ) : Type 0 where
  -- the bytes can't begin a head
  never : NeverHasResponse (take most_head stream) → IsBadHead stream
  -- there is no whole head in as many bytes as one may have
  long : most_head ≤ length stream → HasNoResponse (take most_head stream) → IsBadHead stream
  -- one more field begins than a head may have
  many : HasManyLines (take most_head stream) → IsBadHead stream

-- The stream ended inside a head.
pub record IsHeadCut (stream : List ℕ) : Type 0 where
  pub short : length stream < most_head
  pub none : HasNoResponse stream
  pub open_head : MayBecomeResponse stream
  pub few : HasManyLines stream → ⊥

-- 100 and 102 to 199: another head follows (RFC 9110, section 15.2). 101 isn't passed over: nothing asked for it
abbrev pub is_interim : ℕ → Bool
is_interim status = (status == 100) || (nat_le 102 status && nat_le status 199)

-- the statuses that lead to another address (RFC 9110, section 15.4)
abbrev pub is_redirect : ℕ → Bool
is_redirect status = (status == 301) || (status == 302) || (status == 303) || (status == 307) || (status == 308)

-- one more interim head at the end of those that were passed over
pub record PassesOne (before : List ℕ) (head : ResponseHead) (from : List ℕ) : Type 0 where
  pub begins : BeginsWith before head from
  pub interim : IsTrue (is_interim (status_code head))

-- The stream has these interim heads at its front, the newest first, and then the rest.
abbrev pub Passes : List ℕ → List ResponseHead → List ℕ → Type 0
Passes stream [] from = stream ≡ from
Passes stream (head ∷ older) from = (before : List ℕ) × Passes stream older before × PassesOne before head from

-- behind its interim heads, at most eight, the stream goes on so
pub record ComesTo (stream from : List ℕ) : Type 0 where
  pub passed : List ResponseHead
  pub passes : Passes stream passed from
  pub few : length passed ≤ most_interim

-- A head that isn't passed over stands at the front, and then comes the rest.
pub record BeginsFinal (from : List ℕ) (head : ResponseHead) (rest : List ℕ) : Type 0 where
  pub begins : BeginsWith from head rest
  pub final : is_interim (status_code head) ≡ false

-- The stream's head, behind its interim heads, and what follows it.
pub record HasHead (stream : List ℕ) (head : ResponseHead) (rest : List ℕ) : Type 0 where
  pub from : List ℕ
  pub comes : ComesTo stream from
  pub final : BeginsFinal from head rest

-- One interim head too many comes, of this status.
pub record HasNinthInterim (stream : List ℕ) (status : ℕ) : Type 0 where
  pub passed : List ResponseHead
  pub from : List ℕ
  pub passes : Passes stream passed from
  pub all : length passed ≡ most_interim
  pub head : ResponseHead
  pub rest : List ℕ
  pub one : PassesOne from head rest
  pub status_is : status_code head ≡ status
