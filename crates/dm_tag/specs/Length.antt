-- Content-Length (RFC 9110, section 8.6): a number, or one that a sender or a proxy repeated.
use Rattle.std.specs.Prelude.{◌≡◌, ℕ, List, ◌∷◌, ◌++◌}
use Rattle.std.specs.List.{flat_map, AllByRecursion}
use Rattle.std.specs.Char.{is_ascii_digit}
use Rattle.dm_types.specs.Bytes.{is_blank, Each, Stops}
use Rattle.dm_tag.specs.Number.{IsNumber}

-- OWS "," OWS 1*DIGIT
pub record Repeat : Type 0 where
  pub before : List ℕ
  pub after : List ℕ
  pub digits : List ℕ

abbrev pub spelled : Repeat → List ℕ
spelled again = again.before ++ 44 ∷ (again.after ++ again.digits)

-- the number is n once more
pub record Repeats (n : ℕ) (again : Repeat) : Type 0 where
  pub before : Each is_blank again.before
  pub after : Each is_blank again.after
  pub number : IsNumber again.digits n

-- the bytes begin with n once more, and the rest begins with no digit
pub record BeginsRepeat (n : ℕ) (bytes rest : List ℕ) : Type 0 where
  pub again : Repeat
  pub repeats : Repeats n again
  pub parts : bytes ≡ spelled again ++ rest
  pub stops : Stops is_ascii_digit rest

-- nothing but repetitions of n
pub record IsTail (n : ℕ) (bytes : List ℕ) : Type 0 where
  pub repeats : List Repeat
  pub each : AllByRecursion (Repeats n) repeats
  pub text : bytes ≡ flat_map spelled repeats

-- Content-Length = 1*DIGIT *( OWS "," OWS 1*DIGIT ), all of one value
pub record IsLength (value : List ℕ) (n : ℕ) : Type 0 where
  pub digits : List ℕ
  pub tail : List ℕ
  pub number : IsNumber digits n
  pub is_tail : IsTail n tail
  pub text : value ≡ digits ++ tail
