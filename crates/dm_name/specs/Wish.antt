-- The raw wish.
use Rattle.std.specs.Prelude.{ℕ, ◌==◌, Option, Some, None, List, [], ◌∷◌}
use Rattle.std.specs.List.{after_last, take_while}
use Rattle.std.specs.Str.Lossy.{utf8_lossy}
use Rattle.std.specs.Prelude.{not}
use Rattle.percent_encoding.specs.Percent.{percent_decode}
use Rattle.dm_disposition.specs.declared.Disposition.{Disposition}

-- the first that is there and not empty
abbrev pub or_else : List ℕ → List ℕ → List ℕ
or_else [] other = other
or_else (b ∷ name) other = b ∷ name

abbrev pub name_in : Option (List ℕ) → List ℕ
name_in None = []
name_in (Some name) = name

abbrev pub extended_in : Option Disposition → List ℕ
extended_in None = []
extended_in (Some told) = name_in told.extended

abbrev pub plain_in : Option Disposition → List ℕ
plain_in None = []
plain_in (Some told) = name_in told.plain

-- the path's last segment, decoded, with U+FFFD for what isn't UTF-8. The path ends at a question mark
abbrev pub path_of : List ℕ → List ℕ
path_of target = take_while (λ b. not (b == 63)) target

unfoldable pub segment_name : List ℕ → List ℕ
segment_name target = utf8_lossy (percent_decode (after_last (λ b. b == 47) (path_of target)))

abbrev pub told_name : List ℕ → Option Disposition → List ℕ
told_name handed told = or_else handed (or_else (extended_in told) (plain_in told))

abbrev pub raw_wish : List ℕ → Option Disposition → List ℕ → List ℕ
raw_wish handed told target = or_else (told_name handed told) (segment_name target)
