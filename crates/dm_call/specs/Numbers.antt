-- Numbers in a path and in a query.
use Rattle.std.specs.Prelude.{ℕ, ◌^◌, Bool, ◌&&◌, nat_lt, nat_le, if◌then◌else◌, List, length, Option, Some, None}
use Rattle.std.specs.List.{list_all}
use Rattle.std.specs.Char.{is_ascii_digit}
use Rattle.std.specs.Str.Parse.{digits_value}

-- 1 to 10 decimal digits, leading zeros allowed, and at most 4,294,967,295
abbrev pub is_number : List ℕ → Bool
is_number digits = nat_lt 0 (length digits) && nat_le (length digits) 10 && list_all is_ascii_digit digits && nat_lt (digits_value 10 digits) (2 ^ 32)

-- the number that the digits are
abbrev pub number_of : List ℕ → Option ℕ
number_of digits = if is_number digits then Some (digits_value 10 digits) else None

-- the number, where it is one of 1 to 100
abbrev pub within_limit : ℕ → Option ℕ
within_limit number = if nat_le 1 number && nat_le number 100 then Some number else None
