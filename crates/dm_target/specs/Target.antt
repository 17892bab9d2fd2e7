-- The front of a request line, up to some byte of its target.
use Rattle.std.specs.Prelude.{◌≡◌, ℕ, Bool, ◌&&◌, ◌==◌, nat_lt, List, ◌++◌, length, take, drop, ◌+◌}
use Rattle.std.specs.List.{list_all, position_or_len}
use Rattle.httparse.specs.Grammar.{EndsInTarget, LineEnd, NeverHasRequest, is_token, is_uri_byte, print_blank, print_end}

-- the place of the first space, 32, or the length
abbrev pub space_in : List ℕ → ℕ
space_in line = position_or_len (λ b. b == 32) line

-- a method, a space, and some bytes that a target may have
abbrev pub is_front : List ℕ → Bool
is_front line = nat_lt (space_in line) (length line) && is_token (take (space_in line) line) && list_all is_uri_byte (drop (space_in line + 1) line)

-- no line's end stands at the front
abbrev pub BeginsLine : List ℕ → Type 0
BeginsLine line = (end : LineEnd) (more : List ℕ) → line ≡ print_end end ++ more → ⊥

-- a line's end stands at the front, and then this
abbrev pub BeginsEnd : List ℕ → List ℕ → Type 0
BeginsEnd line rest = (end : LineEnd) × (line ≡ print_end end ++ rest)

-- behind the empty lines
pub record Skips (front line : List ℕ) : Type 0 where
  pub blank : List LineEnd
  pub is : front ≡ print_blank blank ++ line
  pub begins : BeginsLine line

abbrev pub NoTargetComes : Type 0
NoTargetComes = (front more : List ℕ) → NeverHasRequest front → (EndsInTarget front → ⊥) → EndsInTarget (front ++ more) → ⊥
