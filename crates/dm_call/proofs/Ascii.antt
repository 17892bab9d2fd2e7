-- Parts of texts of ASCII are texts.
use Rattle.std.proofs.Common.{◌≡◌, ℕ, zero, suc, ◌<◌, ◌-◌, Bool, true, false, cond, ◌&&◌, List, [], ◌∷◌, length, take, drop, leb, arith}
use Rattle.std.specs.List.{list_all}
use Rattle.std.specs.Char.{is_ascii}
use Rattle.std.specs.Str.{IsAscii, IsUtf8}
use Rattle.std.proofs.lemmas.Bool.{ltb-true}
use Rattle.std.proofs.lemmas.Str.{IsAscii-drop, IsAscii-take, IsUtf8-from_ascii}
use Rattle.matchit.specs.Params.{AllText, after_token, part_of, walk, wild_from, wild_stop}
use Rattle.dm_call.proofs.Numerals.{both}

pub ascii_of : (bytes : List ℕ) → list_all is_ascii bytes ≡ true → IsAscii bytes
ascii_of [] all i = omega arith
ascii_of (b ∷ bytes) all zero = ltb-true b 128 (both (is_ascii b) (list_all is_ascii bytes) all).0
ascii_of (b ∷ bytes) all (suc i) = ascii_of bytes (both (is_ascii b) (list_all is_ascii bytes) all).1 i

ascii_if : (b : Bool) (xs ys : List ℕ) → IsAscii xs → IsAscii ys → IsAscii (cond b xs ys)
ascii_if true xs ys x y = x
ascii_if false xs ys x y = y

ascii_none : IsAscii []
ascii_none i = omega arith

text_part : (bytes : List ℕ) (start end : ℕ) → IsAscii bytes → IsUtf8 (part_of bytes start end)
text_part bytes start end plain =
    IsUtf8-from_ascii (part_of bytes start end)
    (ascii_if (leb start end && leb end (length bytes)) (take (end - start) (drop start bytes)) [] (IsAscii-take (drop start bytes) (end - start) (IsAscii-drop bytes start plain)) ascii_none)

pub all_text : (pattern text path : List ℕ) (names : List (ℕ × ℕ)) (token at : ℕ) → IsAscii text → IsAscii path → AllText (walk pattern text path names token at)
all_text pattern text path [] token at t p = tt
all_text pattern text path (name ∷ rest) token at t p = (
  text_part text name.0 name.1 t,
  text_part path (wild_from (drop token pattern) (length path) token at).1
      (wild_stop pattern (wild_from (drop token pattern) (length path) token at).0 path (wild_from (drop token pattern) (length path) token at).1) p,
  all_text pattern text path rest (after_token (wild_from (drop token pattern) (length path) token at).0)
      (wild_stop pattern (wild_from (drop token pattern) (length path) token at).0 path (wild_from (drop token pattern) (length path) token at).1) t p,
)
