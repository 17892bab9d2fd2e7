-- The pieces of a request, as they are written and as they are read.
use Rattle.std.proofs.Common.{◌≡◌, ℕ, List, [], ◌∷◌, ◌++◌, append_assoc, codes, ◌∙◌}
use Rattle.dm_request.specs.Request.{line}

general : (g t a c b h p k l m n r o : List ℕ) → g ++ t ++ (a ++ c ++ b) ++ h ++ p ++ (c ++ k ++ l ++ m ++ n) ++ r ++ o
    ≡ (g ++ t ++ a ++ c) ++ (b ++ h ++ p ++ c) ++ k ++ l ++ m ++ n ++ r ++ o
general g t a c b h p k l m n r o = simp append_assoc

abbrev pub middle : List ℕ
middle = codes " HTTP/1.1" ++ 13 ∷ 10 ∷ [] ++ codes "Host: "

abbrev pub fixed : List ℕ
fixed = 13 ∷ 10 ∷ [] ++ line (codes "User-Agent: dm/1") ++ line (codes "Accept: */*") ++ line (codes "Accept-Encoding: identity") ++ line (codes "Connection: close")

pub regrouped : (target host port range : List ℕ) →
    codes "GET " ++ target ++ middle ++ host ++ port ++ fixed ++ range ++ line []
    ≡ line (codes "GET " ++ target ++ codes " HTTP/1.1")
    ++ line (codes "Host: " ++ host ++ port)
    ++ line (codes "User-Agent: dm/1")
    ++ line (codes "Accept: */*")
    ++ line (codes "Accept-Encoding: identity")
    ++ line (codes "Connection: close")
    ++ range
    ++ line []
regrouped target host port range = general (codes "GET ") target (codes " HTTP/1.1") (13 ∷ 10 ∷ []) (codes "Host: ") host port (line (codes "User-Agent: dm/1")) (line (codes "Accept: */*")) (line (codes "Accept-Encoding: identity")) (line (codes "Connection: close")) range (line [])

-- eight pieces, written one after another
pub pieces : {a b c d e f g k t' h' : List ℕ} (start target middle host port fixed range ending : List ℕ) → a ≡ start → t' ≡ target → b ≡ a ++ t' → c ≡ b ++ middle → h' ≡ host → d ≡ c ++ h' → e ≡ d ++ port → f ≡ e ++ fixed → g ≡ f ++ range → k ≡ g ++ ending
    → k ≡ start ++ target ++ middle ++ host ++ port ++ fixed ++ range ++ ending
pieces start target middle host port fixed range ending ea et eb ec eh ed ee ef eg ek = cc

-- four pieces, and how the lines of a range are made of them
abbrev pub between : List ℕ
between = 13 ∷ 10 ∷ [] ++ codes "If-Range: "

range_general : (old p first m last e i tag : List ℕ) → old ++ (p ++ (first ++ (m ++ (last ++ (e ++ i))))) ++ tag ++ e ≡ old ++ ((p ++ first ++ m ++ last ++ e) ++ (i ++ tag ++ e))
range_general old p first m last e i tag = simp append_assoc

pub range_pieces : {a b c v w t' : List ℕ} (old first last tag : List ℕ) → w ≡ codes "Range: bytes=" ++ (first ++ (codes "-" ++ (last ++ between))) → v ≡ w → a ≡ old ++ v → t' ≡ tag → b ≡ a ++ t' → c ≡ b ++ (13 ∷ 10 ∷ [])
    → c ≡ old ++ (line (codes "Range: bytes=" ++ first ++ codes "-" ++ last) ++ line (codes "If-Range: " ++ tag))
range_pieces {a} {b} {c} {v} {w} {t'} old first last tag ew ev ea et eb ec =
    let joined : c ≡ old ++ (codes "Range: bytes=" ++ (first ++ (codes "-" ++ (last ++ between)))) ++ tag ++ (13 ∷ 10 ∷ []) = cc in
    joined ∙ range_general old (codes "Range: bytes=") first (codes "-") last (13 ∷ 10 ∷ []) (codes "If-Range: ") tag
