-- A run of one kind at the front is one, and ends at one place.
use Rattle.std.proofs.Common.{◌≡◌, ℕ, zero, suc, ◌+◌, ◌<◌, Bool, true, false, cond, List, [], ◌∷◌, ◌++◌, length, get_or, take, drop, refl, sym, ap, ◌∙◌, subst, arith}
use Rattle.std.specs.List.{prefix_len, list_all}
use Rattle.std.proofs.Math.Numerals.{one-add}
use Rattle.std.proofs.lemmas.Bool.{false≢true, and_parts, and_from}
use Rattle.dm_types.specs.Bytes.{Each, Stops, Cuts}

cut_at : (kind : ℕ → Bool) (b : ℕ) (bs : List ℕ) (n : ℕ) (t : Bool) → kind b ≡ t → Cuts kind bs (take n bs) (drop n bs) → Cuts kind (b ∷ bs) (take (cond t (1 + n) 0) (b ∷ bs)) (drop (cond t (1 + n) 0) (b ∷ bs))
cut_at kind b bs n true e h = rw one-add (record { parts = ap (λ (x : List ℕ). b ∷ x) h.parts; each = (e, h.each); stops = h.stops })
cut_at kind b bs n false e h = record { parts = refl; each = tt; stops = e }

-- the longest front of the kind
pub cut_is : (kind : ℕ → Bool) (bytes : List ℕ) → Cuts kind bytes (take (prefix_len kind bytes) bytes) (drop (prefix_len kind bytes) bytes)
cut_is kind [] = record { parts = refl; each = tt; stops = tt }
cut_is kind (b ∷ bs) = cut_at kind b bs (prefix_len kind bs) (kind b) refl (cut_is kind bs)

pub cons_parts : (a b : ℕ) (x y : List ℕ) → a ∷ x ≡ b ∷ y → (a ≡ b) × (x ≡ y)
cons_parts a b x y e = (cc, cc)

-- a run and what follows it are told by the bytes
pub run_one : (kind : ℕ → Bool) (a b x y : List ℕ) → Each kind a → Each kind b → Stops kind x → Stops kind y → a ++ x ≡ b ++ y → (a ≡ b) × (x ≡ y)
run_one kind [] [] x y ea eb sx sy e = (refl, e)
run_one kind [] (b ∷ bs) x y ea eb sx sy e = absurd (false≢true (sym (subst (Stops kind) e sx) ∙ eb.0))
run_one kind (a ∷ az) [] x y ea eb sx sy e = absurd (false≢true (sym (subst (Stops kind) (sym e) sy) ∙ ea.0))
run_one kind (a ∷ az) (b ∷ bs) x y ea eb sx sy e =
    let heads = cons_parts a b (az ++ x) (bs ++ y) e in
    let rest = run_one kind az bs x y ea.1 eb.1 sx sy heads.1 in
    (cc, rest.1)

pub Each-take : (kind : ℕ → Bool) (n : ℕ) (bs : List ℕ) → Each kind bs → Each kind (take n bs)
Each-take kind zero bs h = tt
Each-take kind (suc n) [] h = tt
Each-take kind (suc n) (b ∷ bs) h = (h.0, Each-take kind n bs h.1)

pub Each-at : (kind : ℕ → Bool) (bs : List ℕ) (i d : ℕ) → i < length bs → Each kind bs → kind (get_or bs i d) ≡ true
Each-at kind [] i d lt h = absurd (omega arith)
Each-at kind (b ∷ bs) zero d lt h = h.0
Each-at kind (b ∷ bs) (suc i) d lt h = Each-at kind bs i d (omega arith) h.1

pub Each-from_list_all : (kind : ℕ → Bool) (bs : List ℕ) → list_all kind bs ≡ true → Each kind bs
Each-from_list_all kind [] h = tt
Each-from_list_all kind (b ∷ bs) h = let parts = and_parts (kind b) (list_all kind bs) h in (parts.0, Each-from_list_all kind bs parts.1)

pub list_all-from_Each : (kind : ℕ → Bool) (bs : List ℕ) → Each kind bs → list_all kind bs ≡ true
list_all-from_Each kind [] h = refl
list_all-from_Each kind (b ∷ bs) h = and_from (kind b) (list_all kind bs) h.0 (list_all-from_Each kind bs h.1)

pub cons_tail : (b : ℕ) (x y : List ℕ) → b ∷ x ≡ b ∷ y → x ≡ y
cons_tail b x y e = cc
