-- What the four calls of an append leave, each on the disk before it.
use Rattle.std.proofs.Common.{◌≡◌, ◌≢◌, ◌⊎◌, inl, inr, ⊎_elim, ℕ, zero, suc, ◌+◌, ◌-◌, ◌<◌, ◌≤◌, List, [], ◌∷◌, ◌++◌, length, get_or, take, drop, replicate, refl, sym, ◌∙◌, ap, subst, arith, length-append, append_assoc, get_or-take}
use Rattle.std.proofs.lemmas.List.{take_at, drop_at, drop-drop, ext_get_or, get_or_append_left, get_or-append_right, take-append-drop, length-take-le, get_or_at}
use Rattle.std.proofs.lemmas.Bool.{cases_eq, cases_order}
use Rattle.dm_disk_model.specs.File.{File, FileLeaves, IsClean, IsUntouched, SameOutside, IsTorn, IsWritten, overwrite, settled_file}
use Rattle.dm_disk_model.proofs.FileBytes.{overwrite_outside}
use Rattle.dm_journal.specs.Text.{header, FitsCell, in_four, cell, AllFit, front, IsJournalText}
use Rattle.dm_journal.proofs.Texts.{cells_push, AllFit-push}

-- a write where one part ends
pub overwrite_at_seam : (a r p : List ℕ) → overwrite (a ++ r) (length a) p ≡ (a ++ p) ++ drop (length p) r
overwrite_at_seam a r p =
    let zeros : List ℕ = replicate (length a - length (a ++ r)) 0 in
    ap (λ (xs : List ℕ). (take (length a) xs ++ p) ++ drop (length a + length p) (a ++ r)) (append_assoc a r zeros)
    ∙ ap (λ (xs : List ℕ). (xs ++ p) ++ drop (length a + length p) (a ++ r)) (take_at a (r ++ zeros) (length a) refl)
    ∙ ap (λ (xs : List ℕ). (a ++ p) ++ xs) (sym (drop-drop (length p) (length a) (a ++ r)) ∙ ap (drop (length p)) (drop_at a r (length a) refl))

-- the bytes begin with these
begins : (a b : List ℕ) → length a ≤ length b → ((i : ℕ) → i < length a → get_or b i 0 ≡ get_or a i 0) → b ≡ a ++ drop (length a) b
begins a b le same =
    let first : take (length a) b ≡ a =
    ext_get_or 0 (take (length a) b) a (length-take-le (length a) b le)
    (λ i lt. let low : i < length a = let long = length-take-le (length a) b le in omega (arith, lt, long) in get_or-take (length a) b i 0 low ∙ same i low) in
    sym (take-append-drop (length a) b) ∙ ap (λ (xs : List ℕ). xs ++ drop (length a) b) first

-- what stands before the place of the write: the whole cells and the closed gate
abbrev pub shut_front : List (List ℕ) → ℕ → List ℕ
shut_front bodies gate = front bodies ++ gate ∷ []

-- the cells and the closed gate are durable, whatever stands behind
pub record KeepsFront (bodies : List (List ℕ)) (file : File) : Type 0 where
  pub sizes : AllFit bodies
  pub gate : ℕ
  pub shut : gate ≢ 1
  pub same : (i : ℕ) → i < length (shut_front bodies gate) → get_or file.bytes i 0 ≡ get_or (shut_front bodies gate) i 0
  pub clean : (i : ℕ) → i < length (shut_front bodies gate) → IsClean file i

-- so each crash leaves the bodies
pub front_left : (bodies : List (List ℕ)) (file : File) (bytes : List ℕ) → KeepsFront bodies file → FileLeaves file bytes → IsJournalText bodies bytes
front_left bodies file bytes keeps left =
    let whole : List ℕ = shut_front bodies keeps.gate in
    let more = length-append (front bodies) (keeps.gate ∷ []) in
    let last = keeps.clean (length (front bodies)) (omega (arith, more)) in
    let long : length whole ≤ length bytes = let below = last.below in let least = left.no_shorter in omega (arith, more, below, least) in
    let is = begins whole bytes long (λ i lt. left.clean i (keeps.clean i lt) ∙ keeps.same i lt) in
    record { sizes = keeps.sizes; gate = keeps.gate; rest = drop (length whole) bytes; shut = keeps.shut; is = is ∙ append_assoc (front bodies) (keeps.gate ∷ []) (drop (length whole) bytes) }

-- a durable journal keeps its front
pub front_settled : (bodies : List (List ℕ)) (bytes : List ℕ) → IsJournalText bodies bytes → KeepsFront bodies (settled_file bytes)
front_settled bodies bytes text =
    let whole : List ℕ = shut_front bodies text.gate in
    let is : bytes ≡ whole ++ text.rest = text.is ∙ sym (append_assoc (front bodies) (text.gate ∷ []) text.rest) in
    let long = ap length is in
    let parts = length-append whole text.rest in
    record {
      sizes = text.sizes;
      gate = text.gate;
      shut = text.shut;
      same = λ i lt. ap (λ (xs : List ℕ). get_or xs i 0) is ∙ get_or_append_left whole text.rest 0 i lt;
      clean = λ i lt. record { below = omega (arith, long, parts, lt); untouched = tt };
    }

-- a write behind the gate, also one that was only begun, leaves the front
pub front_torn : (bodies : List (List ℕ)) (at count : ℕ) (old new : File) → at ≡ length (front bodies) + 1 → KeepsFront bodies old → IsTorn at count old new → KeepsFront bodies new
front_torn bodies at count old new is keeps torn =
    let more = length-append (front bodies) (keeps.gate ∷ []) in
    record {
      sizes = keeps.sizes;
      gate = keeps.gate;
      shut = keeps.shut;
      same = λ i lt. torn.bytes.others i (inl (omega (arith, is, more, lt))) ∙ keeps.same i lt;
      clean = λ i lt.
          let was = keeps.clean i lt in
          record {
            below = let below = was.below in let synced = torn.synced in omega (arith, below, synced);
            untouched = subst (λ (ranges : List (ℕ × ℕ)). IsUntouched ranges i) (sym torn.touched) (inl (omega (arith, is, more, lt)), was.untouched);
          };
    }

pub written_is_torn : (at : ℕ) (piece : List ℕ) (old new : File) → IsWritten at piece old new → IsTorn at (length piece) old new
written_is_torn at piece old new written = record {
  bytes = subst (λ (xs : List ℕ). SameOutside at (at + length piece) old.bytes xs) (sym written.bytes) (overwrite_outside old.bytes at piece);
  synced = written.synced;
  touched = written.touched;
}

-- a durable file of cells, any byte for a gate, a cell's length and body, and a closed gate behind
abbrev pub opening : List (List ℕ) → List ℕ → ℕ → List ℕ → List ℕ
opening bodies body gate rest = front bodies ++ gate ∷ ((in_four (length body) ++ body) ++ 0 ∷ rest)

-- the closed gate leaves it a journal without the body
opening_shut : (bodies : List (List ℕ)) (body : List ℕ) (gate : ℕ) (rest bytes : List ℕ) → AllFit bodies → gate ≢ 1 → bytes ≡ opening bodies body gate rest → IsJournalText bodies bytes
opening_shut bodies body gate rest bytes sizes shut is = record { sizes = sizes; gate = gate; rest = (in_four (length body) ++ body) ++ 0 ∷ rest; shut = shut; is = is }

-- an open one makes it a journal with it
pub opening_open : (bodies : List (List ℕ)) (body : List ℕ) (rest bytes : List ℕ) → AllFit bodies → FitsCell body → bytes ≡ opening bodies body 1 rest → IsJournalText (bodies ++ body ∷ []) bytes
opening_open bodies body rest bytes sizes fits is =
    let all : front (bodies ++ body ∷ []) ≡ front bodies ++ cell body = ap (λ (xs : List ℕ). header ++ xs) (cells_push bodies body) in
    record {
      sizes = AllFit-push bodies body sizes fits;
      gate = 0;
      rest = rest;
      shut = λ e. cc;
      is = is ∙ sym (append_assoc (front bodies) (cell body) (0 ∷ rest)) ∙ ap (λ (xs : List ℕ). xs ++ 0 ∷ rest) (sym all);
    }

opening_either : (bodies : List (List ℕ)) (body : List ℕ) (gate : ℕ) (rest bytes : List ℕ) → AllFit bodies → FitsCell body → bytes ≡ opening bodies body gate rest
    → IsJournalText bodies bytes ⊎ IsJournalText (bodies ++ body ∷ []) bytes
opening_either bodies body gate rest bytes sizes fits is =
    ⊎_elim
    (λ (opened : gate ≡ 1). inr (opening_open bodies body rest bytes sizes fits (is ∙ ap (λ (g : ℕ). opening bodies body g rest) opened)))
    (λ (shut : gate ≡ 1 → ⊥). inl (opening_shut bodies body gate rest bytes sizes shut is))
    (cases_eq gate 1)

-- a write of the gate alone, also one that was only begun, leaves all else
one_byte : (a r : List ℕ) (g : ℕ) (bytes : List ℕ) → length bytes ≡ length (a ++ g ∷ r) → ((i : ℕ) → ((i < length a) ⊎ (length a + 1 ≤ i)) → i < length (a ++ g ∷ r) → get_or bytes i 0 ≡ get_or (a ++ g ∷ r) i 0)
    → bytes ≡ a ++ get_or bytes (length a) 0 ∷ r
one_byte a r g bytes long same =
    let x : ℕ = get_or bytes (length a) 0 in
    let total = length-append a (g ∷ r) in
    let total_new = length-append a (x ∷ r) in
    ext_get_or 0 bytes (a ++ x ∷ r) (omega (arith, long, total, total_new))
    (λ i lt.
    let within : i < length (a ++ g ∷ r) = omega (arith, long, lt) in
    ⊎_elim
    (λ (here : i ≡ length a). ap (λ (k : ℕ). get_or bytes k 0) here ∙ sym (get_or_at a x r 0 i (sym here)))
    (λ (beside : (i < length a) ⊎ (length a < i)).
    ⊎_elim
    (λ (low : i < length a). same i (inl low) within ∙ get_or_append_left a (g ∷ r) 0 i low ∙ sym (get_or_append_left a (x ∷ r) 0 i low))
    (λ (high : length a < i).
    same i (inr (omega (arith, high))) within
    ∙ get_or-append_right a (g ∷ r) (length a) i 0 refl (omega (arith, high))
    ∙ behind (i - length a) x (omega (arith, high))
    ∙ sym (get_or-append_right a (x ∷ r) (length a) i 0 refl (omega (arith, high))))
    beside)
    (cases_order i (length a)))
  where
    behind : (k x : ℕ) → 0 < k → get_or (g ∷ r) k 0 ≡ get_or (x ∷ r) k 0
    behind zero x some = absurd (omega arith)
    behind (suc k) x some = refl

-- what a crash leaves of a durable opening whose gate was written since
pub gate_left : (bodies : List (List ℕ)) (body : List ℕ) (gate at : ℕ) (rest : List ℕ) (new : File) (bytes : List ℕ) → AllFit bodies → FitsCell body → at ≡ length (front bodies)
    → IsTorn at 1 (settled_file (opening bodies body gate rest)) new → FileLeaves new bytes → IsJournalText bodies bytes ⊎ IsJournalText (bodies ++ body ∷ []) bytes
gate_left bodies body gate at rest new bytes sizes fits is torn left =
    let a : List ℕ = front bodies in
    let r : List ℕ = (in_four (length body) ++ body) ++ 0 ∷ rest in
    let total = length-append a (gate ∷ r) in
    let long : length bytes ≡ length (a ++ gate ∷ r) =
    let least = left.no_shorter in let most = left.no_longer in let synced = torn.synced in let longer = torn.bytes.no_longer in omega (arith, least, most, synced, longer, total, is) in
    opening_either bodies body (get_or bytes (length a) 0) rest bytes sizes fits
    (one_byte a r gate bytes long
    (λ i beside within.
    let apart : (i < at) ⊎ (at + 1 ≤ i) = ⊎_elim (λ (low : i < length a). inl (omega (arith, low, is))) (λ (high : length a + 1 ≤ i). inr (omega (arith, high, is))) beside in
    left.clean i (record {
      below = let synced = torn.synced in omega (arith, synced, within);
      untouched = subst (λ (ranges : List (ℕ × ℕ)). IsUntouched ranges i) (sym torn.touched) (apart, tt);
    })
    ∙ torn.bytes.others i apart))
