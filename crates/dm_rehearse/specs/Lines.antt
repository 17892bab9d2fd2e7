-- The four lines of a rehearsal. 32 is a blank, 10 a line feed.
use Rattle.std.specs.Prelude.{ℕ, List, [], ◌∷◌, ◌++◌, codes}
use Rattle.std.specs.Fmt.{decimal}
use Rattle.hex.specs.Hex.{encode_lower}
use Rattle.dm_generated.specs.Content.{size_of}

-- <label> <value>
abbrev pub line : List ℕ → List ℕ → List ℕ
line label value = label ++ 32 ∷ (value ++ 10 ∷ [])

-- how many bytes the content has, how many attempts began, how many of them were interrupted, and the digest in lower-case hexadecimal
abbrev pub lines_of : (number attempts broke : ℕ) → List ℕ → List ℕ
lines_of number attempts broke sum =
    line (codes "bytes") (decimal (size_of number))
    ++ line (codes "attempts") (decimal attempts)
    ++ line (codes "broke") (decimal broke)
    ++ line (codes "sha256") (encode_lower sum)
