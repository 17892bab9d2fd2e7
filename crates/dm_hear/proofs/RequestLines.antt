-- The lines of a request's head: its request line and one for each field.
use Rattle.std.proofs.Common.{◌≡◌, ℕ, suc, zero, ◌+◌, ◌<◌, ◌≤◌, true, false, List, [], ◌∷◌, ◌++◌, length, get_or, refl, sym, ap, ◌∙◌, subst, arith, append_assoc, IsTrue}
use Rattle.std.specs.List.{flat_map}
use Rattle.std.proofs.lemmas.Bool.{false≢true}
use Rattle.httparse.specs.Grammar.{AllPass, IsRequestHead, IsToken, RequestHead, is_uri_byte, print_blank, print_end, print_field, print_request, print_version}
use Rattle.httparse.proofs.GrammarLemmas.{print_request-append}
use Rattle.dm_edge.specs.Head.{IsInLine}
use Rattle.dm_head.specs.Lines.{lines_begun}
use Rattle.dm_head.proofs.LineLemmas.{Passes, all_in_line, at_end, blank_end, blank_lines, field_lines, first_in_line, passes}
use Rattle.dm_head.proofs.ManyLines.{token_in_line}

-- the lines before the fields
abbrev pub start_of : RequestHead → List ℕ
start_of h = print_blank h.blank ++ (h.method ++ 32 ∷ (h.target ++ 32 ∷ (print_version h.minor ++ print_end h.line_end)))

pub printed : (h : RequestHead) (rest : List ℕ)
    → print_request h ++ rest ≡ start_of h ++ (flat_map print_field h.fields ++ (print_end h.last ++ rest))
printed h rest =
    print_request-append h rest
    ∙ regroup (print_blank h.blank) h.method h.target (print_version h.minor) (print_end h.line_end) (flat_map print_field h.fields) (print_end h.last) rest
  where
    regroup : (a b c d e f g r : List ℕ)
        → a ++ (b ++ 32 ∷ (c ++ 32 ∷ (d ++ (e ++ ((f ++ g) ++ r))))) ≡ (a ++ (b ++ 32 ∷ (c ++ 32 ∷ (d ++ e)))) ++ (f ++ (g ++ r))
    regroup a b c d e f g r = simp append_assoc

uri_in_line : (byte : ℕ) → IsTrue (is_uri_byte byte) → IsInLine byte
uri_in_line byte is =
    (λ e. false≢true (subst (λ b. IsTrue (is_uri_byte b)) e is), λ e. false≢true (subst (λ b. IsTrue (is_uri_byte b)) e is))

method_line : (name : List ℕ) → IsToken name → Passes false name 1 true
method_line [] is = absurd (omega (arith, is.0))
method_line (c ∷ cs) is =
    passes (c ∷ []) cs (first_in_line c (token_in_line c (is.1 0 0 (omega arith))))
    (all_in_line cs (λ i h. token_in_line (get_or cs i 0) (is.1 (suc i) 0 (omega arith))))

target_line : (target : List ℕ) → AllPass is_uri_byte target → Passes true target 0 true
target_line target all = all_in_line target (λ i h. uri_in_line (get_or target i 0) (all i 0 h))

blank_in_line : Passes true (32 ∷ []) 0 true
blank_in_line = record { begun = refl; open_line = refl }

last_line : (minor : ℕ) → minor ≤ 1 → Passes true (print_version minor) 0 true
last_line minor small =
    passes (72 ∷ 84 ∷ 84 ∷ 80 ∷ 47 ∷ 49 ∷ 46 ∷ []) ((48 + minor) ∷ []) (record { begun = refl; open_line = refl })
    (all_in_line ((48 + minor) ∷ []) one)
  where
    one : (i : ℕ) → i < 1 → IsInLine (get_or ((48 + minor) ∷ []) i 0)
    one zero h = (λ e. omega arith, λ e. omega arith)
    one (suc i) h = absurd (omega arith)

-- a method and the front of a target
pub target_begun : (method target : List ℕ) → IsToken method → AllPass is_uri_byte target → Passes false (method ++ 32 ∷ target) 1 true
target_begun method target token all = passes method (32 ∷ target) (method_line method token) (passes (32 ∷ []) target blank_in_line (target_line target all))

-- the request line, with the empty lines before it
pub request_line : (h : RequestHead) → IsRequestHead h → Passes false (start_of h) 1 false
request_line h is =
    passes (print_blank h.blank) _ (blank_lines h.blank)
    (passes h.method _ (method_line h.method is.method)
    (passes (32 ∷ []) (h.target ++ 32 ∷ (print_version h.minor ++ print_end h.line_end)) blank_in_line
    (passes h.target _ (target_line h.target is.target.1)
    (passes (32 ∷ []) (print_version h.minor ++ print_end h.line_end) blank_in_line
    (passes (print_version h.minor) (print_end h.line_end) (last_line h.minor is.minor) (at_end h.line_end))))))

pub head_lines : (h : RequestHead) → IsRequestHead h → lines_begun false (print_request h ++ []) ≡ 1 + length h.fields
head_lines h is =
    ap (lines_begun false) (printed h [])
    ∙ (passes (start_of h) _ (request_line h is)
    (passes (flat_map print_field h.fields) _ (field_lines h.fields is.fields)
    (passes (print_end h.last) [] (blank_end h.last) (record { begun = refl; open_line = refl })))).begun
    ∙ omega arith
