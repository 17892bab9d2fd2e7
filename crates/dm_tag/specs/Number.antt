-- Numbers: 1 to 19 decimal digits, leading zeros allowed, as RFC 9110's 1*DIGIT. They fit 64 bits.
use Rattle.std.specs.Prelude.{◌≡◌, ℕ, ◌+◌, ◌-◌, ◌*◌, ◌^◌, ◌<◌, ◌≤◌, List, [], ◌∷◌, ◌++◌, length}
use Rattle.std.specs.Char.{is_ascii_digit}
use Rattle.dm_types.specs.Bytes.{Each, Stops}

-- what decimal digits stand for: each counts by its place. 48 is '0'
abbrev pub decimal : List ℕ → ℕ
decimal [] = 0
decimal (d ∷ ds) = (d - 48) * 10 ^ length ds + decimal ds

-- the digits are a number, n
pub record IsNumber (digits : List ℕ) (n : ℕ) : Type 0 where
  pub each : Each is_ascii_digit digits
  pub some : 0 < length digits
  pub most : length digits ≤ 19
  pub value : n ≡ decimal digits

-- the bytes begin with the digits of n, and the rest begins with no digit
pub record BeginsNumber (bytes : List ℕ) (n : ℕ) (rest : List ℕ) : Type 0 where
  pub digits : List ℕ
  pub number : IsNumber digits n
  pub parts : bytes ≡ digits ++ rest
  pub stops : Stops is_ascii_digit rest
