-- A request tells whether a range is asked for, and which: no two of one address have the same text.
use Rattle.std.proofs.Common.{◌≡◌, ◌≢◌, ◌∙◌, ℕ, ◌<◌, ◌^◌, List, [], ◌∷◌, ◌++◌, Option, Some, None, codes, refl, sym, ap, subst, append_assoc, arith}
use Rattle.std.specs.Prelude.{IfSome}
use Rattle.std.specs.List.{AllByRecursion}
use Rattle.std.specs.Char.{digit_value}
use Rattle.std.specs.Fmt.{decimal}
use Rattle.std.specs.Str.Parse.{AllDigits}
use Rattle.std.proofs.lemmas.Fmt.{decimal_injective, decimal_is_IsNumeral}
use Rattle.std.proofs.lemmas.List.{append_cancel_left, append_cancel_right}
use Rattle.dm_types.specs.declared.address.Address.{Address}
use Rattle.dm_request.specs.declared.request.Ask.{Ask}
use Rattle.dm_request.specs.Address.{port_part}
use Rattle.dm_request.specs.Request.{line, range_lines, request_of}

-- the places are those that a computer counts
pub record Fits (ask : Ask) : Type 0 where
  pub first : ask.first < 2 ^ 64
  pub last : ask.last < 2 ^ 64

-- two texts that go on with a byte which isn't in them end at the same place
same_until : (b : ℕ) (xs ys rest more : List ℕ) → AllByRecursion (λ c. c ≢ b) xs → AllByRecursion (λ c. c ≢ b) ys → xs ++ b ∷ rest ≡ ys ++ b ∷ more
    → (xs ≡ ys) × (rest ≡ more)
same_until b [] [] rest more none other same = (refl, let tail : rest ≡ more = cc in tail)
same_until b [] (y ∷ ys) rest more none other same = let head : y ≡ b = cc in absurd (other.0 head)
same_until b (x ∷ xs) [] rest more none other same = let head : x ≡ b = cc in absurd (none.0 head)
same_until b (x ∷ xs) (y ∷ ys) rest more none other same =
    let head : x ≡ y = cc in
    let tail : xs ++ b ∷ rest ≡ ys ++ b ∷ more = cc in
    let later = same_until b xs ys rest more none.1 other.1 tail in
    let same_xs : xs ≡ ys = later.0 in
    (let all : x ∷ xs ≡ y ∷ ys = cc in all, later.1)

-- digits have no byte that isn't one
no_other : (ds : List ℕ) (b : ℕ) → (digit_value b < 10 → ⊥) → AllDigits 10 ds → AllByRecursion (λ c. c ≢ b) ds
no_other [] b other all = tt
no_other (d ∷ ds) b other all = (λ same. other (subst (λ (c : ℕ). digit_value c < 10) same all.0), no_other ds b other all.1)

no_mark : (n : ℕ) → n < 2 ^ 64 → AllByRecursion (λ c. c ≢ 45) (decimal n)
no_mark n fits = no_other (decimal n) 45 (λ below. omega (arith, below)) (decimal_is_IsNumeral n fits).0.1

no_end : (n : ℕ) → n < 2 ^ 64 → AllByRecursion (λ c. c ≢ 13) (decimal n)
no_end n fits = no_other (decimal n) 13 (λ below. omega (arith, below)) (decimal_is_IsNumeral n fits).0.1

general : (p first m last e i tag : List ℕ) → (((p ++ first ++ m ++ last) ++ e) ++ ((i ++ tag) ++ e)) ++ e ≡ p ++ (first ++ (m ++ (last ++ (e ++ (i ++ (tag ++ (e ++ e)))))))
general p first m last e i tag = simp append_assoc

abbrev line_end : List ℕ
line_end = 13 ∷ 10 ∷ []

abbrev between : List ℕ
between = 10 ∷ codes "If-Range: "

-- the lines of a range, and the end of the request, piece by piece
spread : (ask : Ask) → range_lines (Some ask) ++ line []
    ≡ codes "Range: bytes=" ++ (decimal ask.first ++ 45 ∷ (decimal ask.last ++ 13 ∷ (between ++ (ask.tag ++ (line_end ++ line_end)))))
spread ask = general (codes "Range: bytes=") (decimal ask.first) (codes "-") (decimal ask.last) line_end (codes "If-Range: ") ask.tag

same_range : (x y : Ask) → Fits x → Fits y → range_lines (Some x) ++ line [] ≡ range_lines (Some y) ++ line [] → x ≡ y
same_range x y small other same =
    let marks = append_cancel_left (codes "Range: bytes=") _ _ (sym (spread x) ∙ same ∙ spread y) in
    let first = same_until 45 (decimal x.first) (decimal y.first) _ _ (no_mark x.first small.first) (no_mark y.first other.first) marks in
    let last = same_until 13 (decimal x.last) (decimal y.last) _ _ (no_end x.last small.last) (no_end y.last other.last) first.1 in
    let tags = append_cancel_left between _ _ last.1 in
    let tag : x.tag ≡ y.tag = append_cancel_right x.tag y.tag (line_end ++ line_end) tags in
    let from : x.first ≡ y.first = decimal_injective x.first y.first small.first other.first first.0 in
    let to : x.last ≡ y.last = decimal_injective x.last y.last small.last other.last last.0 in
    by_fields x y from to tag
  where
    by_fields : (a b : Ask) → a.first ≡ b.first → a.last ≡ b.last → a.tag ≡ b.tag → a ≡ b
    by_fields a b first last tag =
        let build : ℕ → ℕ → List ℕ → Ask = λ f l t. record { first = f; last = l; tag = t } in
        ap (λ f. build f a.last a.tag) first ∙ ap (λ l. build b.first l a.tag) last ∙ ap (build b.first b.last) tag

no_range : (y : Ask) → range_lines None ++ line [] ≡ range_lines (Some y) ++ line [] → ⊥
no_range y same =
    let spelled : 13 ∷ 10 ∷ [] ≡ codes "Range: bytes=" ++ (decimal y.first ++ 45 ∷ (decimal y.last ++ 13 ∷ (between ++ (y.tag ++ (line_end ++ line_end))))) = same ∙ spread y in
    absurd cc

same_lines : (x y : Option Ask) → IfSome x Fits → IfSome y Fits → range_lines x ++ line [] ≡ range_lines y ++ line [] → x ≡ y
same_lines None None small other same = refl
same_lines None (Some y) small other same = absurd (no_range y same)
same_lines (Some x) None small other same = absurd (no_range x (sym same))
same_lines (Some x) (Some y) small other same = ap Some (same_range x y small other same)

all_lines : (g h u a e c r o : List ℕ) → g ++ h ++ u ++ a ++ e ++ c ++ r ++ o ≡ (g ++ h ++ u ++ a ++ e ++ c) ++ (r ++ o)
all_lines g h u a e c r o = simp append_assoc

-- the lines that each request of an address has
abbrev fixed_lines : Address → List ℕ
fixed_lines address =
    line (codes "GET " ++ address.target ++ codes " HTTP/1.1")
    ++ line (codes "Host: " ++ address.host ++ port_part address.port)
    ++ line (codes "User-Agent: dm/1")
    ++ line (codes "Accept: */*")
    ++ line (codes "Accept-Encoding: identity")
    ++ line (codes "Connection: close")

two_parts : (address : Address) (ask : Option Ask) → request_of address ask ≡ fixed_lines address ++ (range_lines ask ++ line [])
two_parts address ask =
    all_lines (line (codes "GET " ++ address.target ++ codes " HTTP/1.1")) (line (codes "Host: " ++ address.host ++ port_part address.port))
    (line (codes "User-Agent: dm/1")) (line (codes "Accept: */*")) (line (codes "Accept-Encoding: identity")) (line (codes "Connection: close")) (range_lines ask) (line [])

-- Two requests of one address with the same text ask for the same.
pub same_request : (address : Address) (x y : Option Ask) → IfSome x Fits → IfSome y Fits → request_of address x ≡ request_of address y → x ≡ y
same_request address x y small other same =
    same_lines x y small other
    (append_cancel_left (fixed_lines address) (range_lines x ++ line []) (range_lines y ++ line []) (sym (two_parts address x) ∙ same ∙ two_parts address y))
