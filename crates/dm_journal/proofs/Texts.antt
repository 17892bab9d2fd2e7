-- The journal's text: one cell more, and that its bodies and the place where it breaks are unique.
use Rattle.std.proofs.Common.{◌≡◌, ◌≢◌, inl, inr, ℕ, ◌+◌, ◌*◌, ◌/◌, ◌%◌, ◌^◌, ◌<◌, List, [], ◌∷◌, ◌++◌, length, get_or, take, drop, refl, sym, ◌∙◌, ap, subst, arith, length-append, append_assoc}
use Rattle.std.proofs.lemmas.List.{take_at, drop_at, append-nil}
use Rattle.dm_journal.specs.Text.{FitsCell, in_four, cell, cells, AllFit, front, IsJournalText, IsBroken, IsDamagedAt}
use Rattle.dm_journal.specs.AtRest.{cell_tail}
use Rattle.dm_journal.specs.Cell.{IsShut}

pub cells_push : (bodies : List (List ℕ)) (body : List ℕ) → cells (bodies ++ body ∷ []) ≡ cells bodies ++ cell body
cells_push [] body = append-nil (cell body)
cells_push (first ∷ bodies) body = ap (λ (xs : List ℕ). cell first ++ xs) (cells_push bodies body) ∙ sym (append_assoc (cell first) (cells bodies) (cell body))

pub AllFit-push : (bodies : List (List ℕ)) (body : List ℕ) → AllFit bodies → FitsCell body → AllFit (bodies ++ body ∷ [])
AllFit-push [] body fit here = (here, tt)
AllFit-push (first ∷ bodies) body fit here = (fit.0, AllFit-push bodies body fit.1 here)

pub length-cell : (body : List ℕ) → length (cell body) ≡ 5 + length body
length-cell body = omega (arith, length-append (in_four (length body)) body)

pub length-tail : (body : List ℕ) → length (cell_tail body) ≡ 5 + length body
length-tail body = omega (arith, length-append (in_four (length body) ++ body) (0 ∷ []), length-append (in_four (length body)) body)

-- four bytes and the number that they stand for
pub four_of : (n : ℕ) → n < 2 ^ 32 → ((n / 2 ^ 24 * 256 + n / 2 ^ 16 % 256) * 256 + n / 2 ^ 8 % 256) * 256 + n % 256 ≡ n
four_of n lt = omega arith

pub of_four : (a b c d n : ℕ) → a < 256 → b < 256 → c < 256 → d < 256 → n ≡ ((a * 256 + b) * 256 + c) * 256 + d → in_four n ≡ a ∷ b ∷ c ∷ d ∷ []
of_four a b c d n ha hb hc hd is =
    let first : n / 2 ^ 24 ≡ a = omega arith in
    let second : n / 2 ^ 16 % 256 ≡ b = omega arith in
    let third : n / 2 ^ 8 % 256 ≡ c = omega arith in
    let fourth : n % 256 ≡ d = omega arith in
    cc

-- no whole cell begins here
abbrev NoWholeCell : List ℕ → Type 0
NoWholeCell bytes = (body tail : List ℕ) → FitsCell body → bytes ≢ cell body ++ tail

shut_no_cell : (bytes : List ℕ) → IsShut bytes → NoWholeCell bytes
shut_no_cell bytes shut body tail fit is = shut.shut (ap (λ (xs : List ℕ). get_or xs 0 0) (sym shut.is ∙ is))

broken_no_cell : (bytes : List ℕ) → IsBroken bytes → NoWholeCell bytes
broken_no_cell [] broken body tail fit is = let long = ap length is in absurd (omega (arith, long))
broken_no_cell (gate ∷ after) broken body tail fit is = broken.1 body tail fit is

shut_not_broken : (bytes : List ℕ) → IsShut bytes → IsBroken bytes → ⊥
shut_not_broken bytes shut broken = shut.shut (subst IsBroken shut.is broken).0

-- two whole cells at one place are the same
cell_same : (a b x y : List ℕ) → FitsCell a → FitsCell b → cell a ++ x ≡ cell b ++ y → (a ≡ b) × (x ≡ y)
cell_same a b x y fit_a fit_b is =
    let low : length a % 256 ≡ length b % 256 = ap (λ (xs : List ℕ). get_or xs 4 0) is in
    let high : length a / 2 ^ 8 % 256 ≡ length b / 2 ^ 8 % 256 = ap (λ (xs : List ℕ). get_or xs 3 0) is in
    let long : length a ≡ length b = omega (arith, low, high, fit_a.1, fit_b.1) in
    let behind : a ++ x ≡ b ++ y = ap (drop 5) is in (
      sym (take_at a x (length a) refl) ∙ ap (take (length a)) behind ∙ take_at b y (length a) (sym long),
      sym (drop_at a x (length a) refl) ∙ ap (drop (length a)) behind ∙ drop_at b y (length a) (sym long),
    )

cells_same : (a b : List (List ℕ)) (x y : List ℕ) → AllFit a → AllFit b → NoWholeCell x → NoWholeCell y → cells a ++ x ≡ cells b ++ y → (a ≡ b) × (x ≡ y)
cells_same [] [] x y fit_a fit_b end_x end_y is = (refl, is)
cells_same [] (b ∷ bs) x y fit_a fit_b end_x end_y is = absurd (end_x b (cells bs ++ y) fit_b.0 (is ∙ append_assoc (cell b) (cells bs) y))
cells_same (a ∷ as') [] x y fit_a fit_b end_x end_y is = absurd (end_y a (cells as' ++ x) fit_a.0 (sym is ∙ append_assoc (cell a) (cells as') x))
cells_same (a ∷ as') (b ∷ bs) x y fit_a fit_b end_x end_y is =
    let first = cell_same a b (cells as' ++ x) (cells bs ++ y) fit_a.0 fit_b.0 (sym (append_assoc (cell a) (cells as') x) ∙ is ∙ append_assoc (cell b) (cells bs) y) in
    let later = cells_same as' bs x y fit_a.1 fit_b.1 end_x end_y first.1 in
    let whole : a ∷ as' ≡ b ∷ bs = let head = first.0 in let tail = later.0 in cc in
    (whole, later.1)

shut_of : (bodies : List (List ℕ)) (bytes : List ℕ) → (text : IsJournalText bodies bytes) → IsShut (text.gate ∷ text.rest)
shut_of bodies bytes text = record { gate = text.gate; rest = text.rest; shut = text.shut; is = refl }

-- the bodies of a journal are unique
pub journal_unique : (a b : List (List ℕ)) (bytes : List ℕ) → IsJournalText a bytes → IsJournalText b bytes → a ≡ b
journal_unique a b bytes text other =
    (cells_same a b (text.gate ∷ text.rest) (other.gate ∷ other.rest) text.sizes other.sizes (shut_no_cell _ (shut_of a bytes text)) (shut_no_cell _ (shut_of b bytes other))
    (ap (drop 8) (sym text.is ∙ other.is))).0

-- a journal isn't damaged
pub never_both : (bodies : List (List ℕ)) (bytes : List ℕ) (place : ℕ) → IsJournalText bodies bytes → IsDamagedAt bytes place → ⊥
never_both bodies bytes place text (inl without) = without.0 (cells bodies ++ text.gate ∷ text.rest) text.is
never_both bodies bytes place text (inr break) =
    let shut = shut_of bodies bytes text in
    let same = (cells_same bodies break.bodies (text.gate ∷ text.rest) break.rest text.sizes break.sizes (shut_no_cell _ shut) (broken_no_cell _ break.broken) (ap (drop 8) (sym text.is ∙ break.is))).1 in
    shut_not_broken (text.gate ∷ text.rest) shut (subst IsBroken (sym same) break.broken)

-- the place of the damage is unique
pub damage_unique : (bytes : List ℕ) (a b : ℕ) → IsDamagedAt bytes a → IsDamagedAt bytes b → a ≡ b
damage_unique bytes a b (inl first) (inl second) = first.1 ∙ sym second.1
damage_unique bytes a b (inl first) (inr second) = absurd (first.0 (cells second.bodies ++ second.rest) second.is)
damage_unique bytes a b (inr first) (inl second) = absurd (second.0 (cells first.bodies ++ first.rest) first.is)
damage_unique bytes a b (inr first) (inr second) =
    let same = (cells_same first.bodies second.bodies first.rest second.rest first.sizes second.sizes (broken_no_cell _ first.broken) (broken_no_cell _ second.broken) (ap (drop 8) (sym first.is ∙ second.is))).0 in
    first.at ∙ ap (λ (bodies : List (List ℕ)). length (front bodies)) same ∙ sym second.at
