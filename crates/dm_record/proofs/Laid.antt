-- Runs of bytes that are written one behind another over the bytes of an array.
use Rattle.std.proofs.Common.{◌≡◌, ℕ, zero, suc, drop, List, [], ◌∷◌, ◌++◌, length, refl, ap, sym, ◌∙◌, append_assoc, length-append, arith}
use Rattle.std.proofs.lemmas.List.{append-nil, drop_at, take_at}
use borrow.Rule.Slice.PartMut.{put_mid}

-- a run in the place of another
put_run : (front mid rest ys : List ℕ) (n k : ℕ) → length front ≡ n → length mid ≡ k → put_mid n k (front ++ (mid ++ rest)) ys ≡ front ++ (ys ++ rest)
put_run front mid rest ys n k before under =
    ap (λ (x : List ℕ). x ++ (ys ++ drop k (drop n (front ++ (mid ++ rest))))) (take_at front (mid ++ rest) n before)
    ∙ ap (λ (x : List ℕ). front ++ (ys ++ drop k x)) (drop_at front (mid ++ rest) n before)
    ∙ ap (λ (x : List ℕ). front ++ (ys ++ x)) (drop_at mid rest k under)

abbrev tens : ℕ → List ℕ
tens zero = []
tens (suc n) = 10 ∷ tens n

-- an id, a digest and a time behind the kind of a Done
pub laid : (id digest time : List ℕ) → length id ≡ 4 → length digest ≡ 32 → length time ≡ 8 → put_mid 37 8 (put_mid 5 32 (put_mid 1 4 (tens 45) id) digest) time ≡ 10 ∷ (id ++ (digest ++ time))
laid id digest time four many eight =
    ap (λ (x : List ℕ). put_mid 37 8 (put_mid 5 32 x digest) time) (put_run (10 ∷ []) (tens 4) (tens 40) id 1 4 refl refl)
    ∙ ap (λ (x : List ℕ). put_mid 37 8 x time) (put_run (10 ∷ id) (tens 32) (tens 8) digest 5 32 (omega (arith, four)) refl)
    ∙ ap (λ (x : List ℕ). put_mid 37 8 (10 ∷ x) time) (sym (append_assoc id digest (tens 8)))
    ∙ put_run (10 ∷ (id ++ digest)) (tens 8) [] time 37 8 (omega (arith, length-append id digest, four, many)) refl
    ∙ ap (λ (x : List ℕ). 10 ∷ ((id ++ digest) ++ x)) (append-nil time)
    ∙ ap (λ (x : List ℕ). 10 ∷ x) (append_assoc id digest time)
