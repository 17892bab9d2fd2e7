-- The journal's text, form 1: a header, cells with an open gate, a closed gate, and then anything.
use Rattle.std.specs.Prelude.{◌≡◌, ◌≢◌, ◌⊎◌, ℕ, ◌+◌, ◌/◌, ◌%◌, ◌^◌, ◌≤◌, List, [], ◌∷◌, ◌++◌, length}

-- `DMJRNL1` and a line feed
abbrev pub header : List ℕ
header = 68 ∷ 77 ∷ 74 ∷ 82 ∷ 78 ∷ 76 ∷ 49 ∷ 10 ∷ []

-- the most bytes of a body
abbrev pub largest_body : ℕ
largest_body = 16384

-- the most bytes that are written behind a gate at once: a length, a body, and the next gate
abbrev pub largest_tail : ℕ
largest_tail = 5 + largest_body

-- a body has 1 to 16,384 bytes
abbrev pub FitsCell : List ℕ → Type 0
FitsCell body = (1 ≤ length body) × (length body ≤ largest_body)

-- a number in 4 bytes, the highest first
abbrev pub in_four : ℕ → List ℕ
in_four n = n / 2 ^ 24 ∷ n / 2 ^ 16 % 256 ∷ n / 2 ^ 8 % 256 ∷ n % 256 ∷ []

-- an open gate, the body's length and the body
abbrev pub cell : List ℕ → List ℕ
cell body = 1 ∷ in_four (length body) ++ body

abbrev pub cells : List (List ℕ) → List ℕ
cells [] = []
cells (body ∷ bodies) = cell body ++ cells bodies

abbrev pub AllFit : List (List ℕ) → Type 0
AllFit [] = Unit {0}
AllFit (body ∷ bodies) = FitsCell body × AllFit bodies

-- up to where the next gate stands
abbrev pub front : List (List ℕ) → List ℕ
front bodies = header ++ cells bodies

-- The bytes are a journal of these bodies.
pub record IsJournalText (bodies : List (List ℕ)) (bytes : List ℕ) : Type 0 where
  pub sizes : AllFit bodies
  pub gate : ℕ
  pub rest : List ℕ
  pub shut : gate ≢ 1
  pub is : bytes ≡ front bodies ++ gate ∷ rest

-- no gate stands here, or an open one whose cell isn't whole
abbrev pub IsBroken : List ℕ → Type 0
IsBroken [] = Unit {0}
IsBroken (gate ∷ after) = (gate ≡ 1) × ((body tail : List ℕ) → FitsCell body → gate ∷ after ≢ cell body ++ tail)

-- whole cells, and then the place where the text is broken
pub record IsBrokenAt (bytes : List ℕ) (place : ℕ) : Type 0 where
  pub bodies : List (List ℕ)
  pub sizes : AllFit bodies
  pub rest : List ℕ
  pub is : bytes ≡ front bodies ++ rest
  pub at : place ≡ length (front bodies)
  pub broken : IsBroken rest

-- the header doesn't stand at the front
abbrev pub HasNoHeader : List ℕ → Type 0
HasNoHeader bytes = (rest : List ℕ) → bytes ≢ header ++ rest

-- The bytes are no journal, and this is the first place that shows it.
abbrev pub IsDamagedAt : List ℕ → ℕ → Type 0
IsDamagedAt bytes place = (HasNoHeader bytes × (place ≡ 0)) ⊎ IsBrokenAt bytes place
