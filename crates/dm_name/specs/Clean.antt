-- How a name is cleaned. The rules are this project's own.
use Rattle.std.specs.Prelude.{ℕ, ◌+◌, ◌-◌, ◌==◌, ◌&&◌, ◌||◌, not, Bool, if◌then◌else◌, nat_lt, nat_le, List, [], ◌∷◌, ◌++◌, map, length, take, drop, codes, slice_index}
use Rattle.std.specs.List.{after_last, suffix_len, prefix_len, list_any}
use Rattle.std.specs.Int.{is_in_range}
use Rattle.std.specs.Str.{bytes_eq}
use Rattle.dm_types.specs.Name.{fold_case, part_ending}

-- 1. Only what follows the last `/` or `\` is kept.
abbrev pub is_separator : ℕ → Bool
is_separator b = b == 47 || b == 92

-- 2. A control character, and each of these marks, becomes `_`.
abbrev pub is_unsafe : ℕ → Bool
is_unsafe b = nat_lt b 32 || b == 127 || list_any (λ c. c == b) (34 ∷ codes "*:<>?|")

abbrev pub harmless : ℕ → ℕ
harmless b = if is_unsafe b then 95 else b

-- 3. Dots and spaces at the end, and spaces in front, are taken off.
abbrev pub is_loose : ℕ → Bool
is_loose b = b == 46 || b == 32

abbrev pub is_space : ℕ → Bool
is_space b = b == 32

abbrev pub without_end : List ℕ → List ℕ
without_end name = take (length name - suffix_len is_loose name) name

abbrev pub without_front : List ℕ → List ℕ
without_front name = drop (prefix_len is_space name) name

-- 4. A dot in front becomes `_`.
abbrev pub without_dot : List ℕ → List ℕ
without_dot [] = []
without_dot (b ∷ name) = (if b == 46 then 95 else b) ∷ name

-- 5. An empty name is `download`.
abbrev pub or_download : List ℕ → List ℕ
or_download [] = codes "download"
or_download (b ∷ name) = b ∷ name

-- 6. Where it ends as a part's does, in any case, `_` is added.
abbrev pub ends_as_part : List ℕ → Bool
ends_as_part name = bytes_eq (fold_case (drop (length name - 11) name)) part_ending

abbrev pub guarded : List ℕ → List ℕ
guarded name = if ends_as_part name then name ++ 95 ∷ [] else name

-- The extension begins at the last dot, where that isn't the first character and 1 to 16 bytes follow it.
abbrev pub is_no_dot : ℕ → Bool
is_no_dot b = not (b == 46)

abbrev pub stem_length_by : ℕ → ℕ → ℕ
stem_length_by size behind = if nat_le 1 behind && nat_le behind 16 && nat_lt (behind + 1) size then size - (behind + 1) else size

abbrev pub stem_length : List ℕ → ℕ
stem_length name = stem_length_by (length name) (suffix_len is_no_dot name)

abbrev pub stem : List ℕ → List ℕ
stem name = take (stem_length name) name

abbrev pub extension : List ℕ → List ℕ
extension name = drop (stem_length name) name

-- 7. Where it is above 200 bytes, characters are taken from the stem's end. In UTF-8 a character begins at each
-- byte outside 0x80 to 0xBF, and has four bytes at most. Where none begins at one of the four last places, the
-- bytes are cut as they stand.
abbrev pub begins_character : List ℕ → ℕ → Bool
begins_character text i = not (is_in_range 0x80 0xBF (slice_index text i))

abbrev pub cut_length : List ℕ → ℕ → ℕ
cut_length text room =
    if begins_character text room then room
    else (if begins_character text (room - 1) then room - 1
    else (if begins_character text (room - 2) then room - 2
    else (if begins_character text (room - 3) then room - 3 else room)))

abbrev pub shortened : List ℕ → List ℕ
shortened name =
    if nat_le (length name) 200 then name
    else take (cut_length name (200 - length (extension name))) name ++ extension name

abbrev pub harmless_end : List ℕ → List ℕ
harmless_end raw = map harmless (after_last is_separator raw)

abbrev pub trimmed : List ℕ → List ℕ
trimmed name = without_front (without_end name)

unfoldable pub cleaned : List ℕ → List ℕ
cleaned raw = shortened (guarded (or_download (without_dot (trimmed (harmless_end raw)))))
