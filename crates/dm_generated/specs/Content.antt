-- What a number generates: a content, its address and its tag.
use Rattle.std.specs.Prelude.{ℕ, ◌+◌, ◌%◌, List, [], ◌∷◌, ◌++◌, map, codes}
use Rattle.std.specs.Fmt.{decimal}
use Rattle.std.specs.List.{range_with_len}
use Rattle.dm_edge.specs.Origin.{generated_byte}

-- so many of its bytes, from a place on
abbrev pub bytes_from : (number first count : ℕ) → List ℕ
bytes_from number first count = map (generated_byte number) (range_with_len first count)

-- how many bytes the content has
abbrev pub size_of : ℕ → ℕ
size_of number = 4194304 + number % 1048576

abbrev pub content_of : ℕ → List ℕ
content_of number = bytes_from number 0 (size_of number)

-- the content's strong entity tag, with its quotes. 34 is the quote
abbrev pub tag_of : ℕ → List ℕ
tag_of number = 34 ∷ ((codes "g" ++ decimal number) ++ 34 ∷ [])

abbrev pub address_text : ℕ → List ℕ
address_text number = codes "http://rehearse.test/g" ++ decimal number ++ codes ".bin"
