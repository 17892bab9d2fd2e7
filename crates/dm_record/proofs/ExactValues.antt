-- The parts of entries are read exactly.
use Rattle.std.proofs.Common.{◌≡◌, ℕ, zero, suc, ◌^◌, ◌<◌, ◌≤◌, Bool, true, false, cond, eqb, find, List, [], ◌∷◌, ◌++◌, length, Option, Some, None, Err, refl, sym, ap, subst, ◌∙◌, arith, inl, inr, IfSome, IfNone}
use Rattle.std.specs.Int.{w32, w64}
use Rattle.std.specs.List.{AllByRecursion, flat_map}
use Rattle.std.proofs.lemmas.Bool.{cases_lt, le-ltb, lt-ltb, eqb-true}
use Rattle.dm_types.specs.Reason.{code_of}
use Rattle.dm_types.specs.declared.item.ItemId.{ItemId}
use Rattle.dm_types.specs.declared.item.Epoch.{Epoch}
use Rattle.dm_types.specs.declared.item.Attempt.{Attempt}
use Rattle.dm_types.specs.declared.item.Key.{Key}
use Rattle.dm_types.specs.declared.item.Key.TheVariants.{Strong, Once}
use Rattle.dm_types.specs.declared.item.Phase.{Phase}
use Rattle.dm_types.specs.declared.item.Phase.TheVariants as phases
use Rattle.dm_types.specs.declared.kinds.By.{By}
use Rattle.dm_types.specs.declared.kinds.By.TheVariants.{User, Itself}
use Rattle.dm_types.specs.declared.reason.Reason.{Reason}
use Rattle.dm_types.specs.declared.reason.Reason.TheVariants.{FileFailed, FileAccessDenied, FileNoSpace, FileNameTooLong, FileTooLarge, FileTooShort, FileHashMismatch, NetworkFailed, NetworkTimeout, NetworkDisconnected, NetworkServerDown, NetworkInvalidRequest, ServerFailed, ServerNoRange, ServerBadContent, ServerUnauthorized, ServerForbidden, ServerContentLengthMismatch, UserCanceled, UserShutdown, Crash, NoMemory}
use Rattle.dm_types.specs.declared.slices.Slice.{Slice}
use Rattle.dm_record.specs.declared.fault.Stop.TheVariants as stops
use Rattle.dm_record.specs.Spelling.{number, text, optional, flag_byte, by_byte, phase_byte, reason, key, slice, slices, digest}
use Rattle.dm_record.specs.Limits.{IsBytes, AtMost, IsDigest, IsTag, IsKey, IsSlice, IsCount, HasReason}
use Rattle.dm_record.specs.Reading.{Reading, in_turn, coded_at, number_at, text_at, optional_at, times_at, flag_of, by_of, within, reasons, reason_of, id_at, epoch_at, attempt_at, digest_at, reason_at, key_at, slice_at, slices_at, phased_at, interrupted_at, phase_at}
use Rattle.dm_record.proofs.Exact.{Exact, Branch, Image, made, made_image, respelled, turn, next, tagged}
use Rattle.dm_record.proofs.ExactFields.{run_exact, number_exact, wide32, wide64, IsCode, coded_exact, text_exact, IsText, optional_exact, one_exact}

abbrev known : {A : Type 0} → A → Option A
known a = Some a

-- ---- bytes that have a meaning

flag_code : IsCode flag_byte (λ _. Unit {0}) flag_of
flag_code = record { some = (false, tt); again = flag_again; back = flag_back }
  where
    flag_again : (b : Bool) → Unit {0} → flag_of (flag_byte b) ≡ Some b
    flag_again true fits = refl
    flag_again false fits = refl

    flag_back : (tag : ℕ) (b : Bool) → flag_of tag ≡ Some b → Unit {0} × (flag_byte b ≡ tag)
    flag_back zero true e = absurd cc
    flag_back zero false e = (tt, refl)
    flag_back (suc zero) true e = (tt, refl)
    flag_back (suc zero) false e = absurd cc
    flag_back (suc (suc n)) b e = absurd cc

by_code : IsCode by_byte (λ _. Unit {0}) by_of
by_code = record { some = (User, tt); again = by_again; back = by_back }
  where
    by_again : (b : By) → Unit {0} → by_of (by_byte b) ≡ Some b
    by_again User fits = refl
    by_again Itself fits = refl

    by_back : (tag : ℕ) (b : By) → by_of tag ≡ Some b → Unit {0} × (by_byte b ≡ tag)
    by_back zero b e = absurd cc
    by_back (suc zero) User e = (tt, refl)
    by_back (suc zero) Itself e = absurd cc
    by_back (suc (suc zero)) User e = absurd cc
    by_back (suc (suc zero)) Itself e = (tt, refl)
    by_back (suc (suc (suc n))) b e = absurd cc

abbrev pub Between : ℕ → ℕ → ℕ → Type 0
Between low high n = (low ≤ n) × (n ≤ high)

abbrev same : ℕ → ℕ
same n = n

within_again : (low high n : ℕ) → Between low high n → within low high n ≡ Some n
within_again low high n fits = rw (le-ltb n low fits.0, le-ltb high n fits.1) refl

within_back : (low high tag n : ℕ) → within low high tag ≡ Some n → Between low high n × (n ≡ tag)
within_back low high tag n e =
    elim (cases_lt tag low) [
      | inl below ↦
          let none : within low high tag ≡ None = rw (lt-ltb tag low below) refl in
          absurd cc
      | inr above ↦ elim (cases_lt high tag) [
        | inl over ↦
            let none : within low high tag ≡ None = rw (le-ltb tag low above, lt-ltb high tag over) refl in
            absurd cc
        | inr fits ↦
            let one : within low high tag ≡ Some tag = rw (le-ltb tag low above, le-ltb high tag fits) refl in
            let is : tag ≡ n = cc in
            subst (λ (m : ℕ). Between low high m × (m ≡ tag)) is ((above, fits), refl)
      ]
    ]

within_code : (low high : ℕ) → low ≤ high → IsCode same (Between low high) (within low high)
within_code low high order = record { some = (low, (omega arith, order)); again = within_again low high; back = within_back low high }

pub flag_exact : Exact (λ b. flag_byte b ∷ []) (λ _. Unit {0}) (coded_at flag_of)
flag_exact = coded_exact flag_byte (λ _. Unit {0}) flag_of flag_code

pub by_exact : Exact (λ b. by_byte b ∷ []) (λ _. Unit {0}) (coded_at by_of)
by_exact = coded_exact by_byte (λ _. Unit {0}) by_of by_code

pub within_exact : (low high : ℕ) → low ≤ high → Exact (λ n. n ∷ []) (Between low high) (coded_at (within low high))
within_exact low high order = coded_exact same (Between low high) (within low high) (within_code low high order)

-- ---- reasons

find_first : {A : Type 0} (b : Bool) (p : A → Bool) (y : A) (xs : List A) (x : A) → p y ≡ b → (find p xs ≡ Some x → p x ≡ true) → cond b (Some y) (find p xs) ≡ Some x → p x ≡ true
find_first {A} true p y xs x is later e = let one : y ≡ x = cc in subst (λ (z : A). p z ≡ true) one is
find_first false p y xs x is later e = later e

find_passes : {A : Type 0} (p : A → Bool) (xs : List A) (x : A) → find p xs ≡ Some x → p x ≡ true
find_passes p [] x e = absurd cc
find_passes {A} p (y ∷ xs) x e = find_first (p y) p y xs x refl (λ e'. find_passes p xs x e') e

reason_again : (r : Reason) → Unit {0} → reason_of (code_of r) ≡ Some r
unfolding reason_of
reason_again FileFailed fits = refl
reason_again FileAccessDenied fits = refl
reason_again FileNoSpace fits = refl
reason_again FileNameTooLong fits = refl
reason_again FileTooLarge fits = refl
reason_again FileTooShort fits = refl
reason_again FileHashMismatch fits = refl
reason_again NetworkFailed fits = refl
reason_again NetworkTimeout fits = refl
reason_again NetworkDisconnected fits = refl
reason_again NetworkServerDown fits = refl
reason_again NetworkInvalidRequest fits = refl
reason_again ServerFailed fits = refl
reason_again ServerNoRange fits = refl
reason_again ServerBadContent fits = refl
reason_again ServerUnauthorized fits = refl
reason_again ServerForbidden fits = refl
reason_again ServerContentLengthMismatch fits = refl
reason_again UserCanceled fits = refl
reason_again UserShutdown fits = refl
reason_again Crash fits = refl
reason_again NoMemory fits = refl

reason_back : (tag : ℕ) (r : Reason) → reason_of tag ≡ Some r → Unit {0} × (code_of r ≡ tag)
unfolding reason_of
reason_back tag r e = (tt, eqb-true (code_of r) tag (find_passes (λ x. eqb (code_of x) tag) reasons r e))

pub reason_code : IsCode code_of (λ _. Unit {0}) reason_of
reason_code = record { some = (FileFailed, tt); again = reason_again; back = reason_back }

pub reason_is : (tag : ℕ) (o : Option Reason) → IfSome o (λ r. code_of r ≡ tag) → IfNone o ((r : Reason) → code_of r ≡ tag → ⊥) → o ≡ reason_of tag
reason_is tag (Some r) some none = sym (subst (λ (n : ℕ). reason_of n ≡ Some r) some (reason_again r tt))
reason_is tag None some none = sym (no_reason (reason_of tag) refl)
  where
    no_reason : (o : Option Reason) → reason_of tag ≡ o → reason_of tag ≡ None
    no_reason None e = e
    no_reason (Some r) e = absurd (none r (reason_back tag r e).1)

reason_bytes : (r : Reason) → reason r ≡ 0 ∷ code_of r ∷ []
unfolding number
reason_bytes FileFailed = refl
reason_bytes FileAccessDenied = refl
reason_bytes FileNoSpace = refl
reason_bytes FileNameTooLong = refl
reason_bytes FileTooLarge = refl
reason_bytes FileTooShort = refl
reason_bytes FileHashMismatch = refl
reason_bytes NetworkFailed = refl
reason_bytes NetworkTimeout = refl
reason_bytes NetworkDisconnected = refl
reason_bytes NetworkServerDown = refl
reason_bytes NetworkInvalidRequest = refl
reason_bytes ServerFailed = refl
reason_bytes ServerNoRange = refl
reason_bytes ServerBadContent = refl
reason_bytes ServerUnauthorized = refl
reason_bytes ServerForbidden = refl
reason_bytes ServerContentLengthMismatch = refl
reason_bytes UserCanceled = refl
reason_bytes UserShutdown = refl
reason_bytes Crash = refl
reason_bytes NoMemory = refl

abbrev Anything : {A : Type 0} → A → Type 0
Anything a = Unit {0}

only_zero : (n : ℕ) → Between 0 0 n → n ≡ 0
only_zero n fits = omega (arith, fits.0, fits.1)

only_one : (n : ℕ) → Between 1 1 n → n ≡ 1
only_one n fits = omega (arith, fits.0, fits.1)

pub reason_exact : Exact reason Anything reason_at
unfolding reason_at
reason_exact =
    made (λ (x : ℕ × Reason). x.0 ∷ code_of x.1 ∷ []) (λ (x : ℕ × Reason). Between 0 0 x.0 × Unit {0}) (in_turn (coded_at (within 0 0)) (λ _. coded_at reason_of)) reason Anything (λ (x : ℕ × Reason). x.1)
    (λ x fits. (tt, reason_bytes x.1 ∙ ap (λ (n : ℕ). n ∷ code_of x.1 ∷ []) (sym (only_zero x.0 fits.0))))
    (λ r fits. ((0, r), refl, ((omega arith, omega arith), tt)))
    (next (within_exact 0 0 (omega arith)) (coded_exact code_of (λ _. Unit {0}) reason_of reason_code))

-- ---- numbers with a name

pub u32_exact : Exact (number w32) (λ n. n < 2 ^ 32) (number_at w32)
u32_exact = number_exact w32 (2 ^ 32) wide32

pub u64_exact : Exact (number w64) (λ n. n < 2 ^ 64) (number_at w64)
u64_exact = number_exact w64 (2 ^ 64) wide64

abbrev make_id : ℕ → ItemId
make_id n = record { 0 = n }

pub id_exact : Exact (λ (id : ItemId). number w32 id.0) (λ id. id.0 < 2 ^ 32) id_at
unfolding id_at
id_exact = made (number w32) (λ n. n < 2 ^ 32) (number_at w32) (λ (id : ItemId). number w32 id.0) (λ (id : ItemId). id.0 < 2 ^ 32) make_id (λ n fits. (fits, refl)) (λ id fits. (id.0, refl, fits)) u32_exact

abbrev make_epoch : ℕ → Epoch
make_epoch n = record { 0 = n }

pub epoch_exact : Exact (λ (epoch : Epoch). number w32 epoch.0) (λ epoch. epoch.0 < 2 ^ 32) epoch_at
unfolding epoch_at
epoch_exact = made (number w32) (λ n. n < 2 ^ 32) (number_at w32) (λ (epoch : Epoch). number w32 epoch.0) (λ (epoch : Epoch). epoch.0 < 2 ^ 32) make_epoch (λ n fits. (fits, refl)) (λ epoch fits. (epoch.0, refl, fits)) u32_exact

abbrev make_attempt : ℕ → Attempt
make_attempt n = record { 0 = n }

pub attempt_exact : Exact (λ (attempt : Attempt). number w32 attempt.0) (λ attempt. attempt.0 < 2 ^ 32) attempt_at
unfolding attempt_at
attempt_exact = made (number w32) (λ n. n < 2 ^ 32) (number_at w32) (λ (attempt : Attempt). number w32 attempt.0) (λ (attempt : Attempt). attempt.0 < 2 ^ 32) make_attempt (λ n fits. (fits, refl)) (λ attempt fits. (attempt.0, refl, fits)) u32_exact

pub digest_exact : Exact digest IsDigest digest_at
unfolding digest_at
digest_exact = run_exact 32

-- ---- keys

abbrev key_byte : Key → ℕ
key_byte (Strong tag) = 1
key_byte (Once id attempt) = 2

abbrev key_bytes : Key → List ℕ
key_bytes (Strong tag) = text tag
key_bytes (Once id attempt) = number w32 id.0 ++ number w32 attempt.0

abbrev pub FitsKey : Key → Type 0
FitsKey k = IsTag k × IsKey k

abbrev make_once : ItemId × Attempt → Key
make_once x = Once x.0 x.1

abbrev FitsOnce : ItemId × Attempt → Type 0
FitsOnce x = (x.0.0 < 2 ^ 32) × (x.1.0 < 2 ^ 32)

abbrev KeyOf : ℕ → Key → Type 0
KeyOf zero k = ⊥
KeyOf (suc zero) k = Image Strong (λ tag. AtMost 1024 tag × IsBytes tag) k
KeyOf (suc (suc zero)) k = Image make_once FitsOnce k
KeyOf (suc (suc (suc n))) k = ⊥

key_into : (k : Key) → FitsKey k → KeyOf (key_byte k) k
key_into (Strong tag) fits = (tag, refl, fits)
key_into (Once id attempt) fits = ((id, attempt), refl, fits.1)

key_out : (tag : ℕ) (k : Key) → KeyOf tag k → FitsKey k × (key_byte k ≡ tag)
key_out zero k of = absurd of
key_out (suc zero) k of = subst (λ (x : Key). FitsKey x × (key_byte x ≡ 1)) of.1 (of.2, refl)
key_out (suc (suc zero)) k of = subst (λ (x : Key). FitsKey x × (key_byte x ≡ 2)) of.1 ((tt, of.2), refl)
key_out (suc (suc (suc n))) k of = absurd of

key_branch : (tag : ℕ) → Branch key_bytes (KeyOf tag) key_at tag
unfolding key_at
key_branch zero = inr ((λ rest. refl), λ k of. of)
key_branch (suc zero) = inl (made_image text (IsText 1024 (omega arith)) (text_at 1024) key_bytes Strong (λ tag fits. refl) (text_exact 1024 (omega arith)))
key_branch (suc (suc zero)) = inl (made_image (λ (x : ItemId × Attempt). number w32 x.0.0 ++ number w32 x.1.0) FitsOnce (in_turn id_at (λ _. attempt_at)) key_bytes make_once (λ x fits. refl) (next id_exact attempt_exact))
key_branch (suc (suc (suc n))) = inr ((λ rest. refl), λ k of. of)

key_empty : key_at [] ≡ Err stops.Short
unfolding key_at
key_empty = refl

same_key : (k : Key) → key k ≡ key_byte k ∷ key_bytes k
same_key (Strong tag) = refl
same_key (Once id attempt) = refl

pub key_exact : Exact key FitsKey key_at
key_exact =
    let exact = tagged key_byte key_bytes FitsKey KeyOf key_at key_into key_out key_empty key_branch (Strong [], (omega arith, tt)) in
    respelled (λ k. key_byte k ∷ key_bytes k) FitsKey key_at key FitsKey (λ k fits. fits) (λ k fits. fits) same_key exact

-- ---- slices

abbrev make_slice : ℕ × (ℕ × Bool) → Slice
make_slice x = record { first = x.0; got = x.1.0; finished = x.1.1 }

pub slice_exact : Exact slice IsSlice slice_at
unfolding slice_at
slice_exact =
    made (λ (x : ℕ × (ℕ × Bool)). number w64 x.0 ++ (number w64 x.1.0 ++ flag_byte x.1.1 ∷ [])) (λ (x : ℕ × (ℕ × Bool)). (x.0 < 2 ^ 64) × ((x.1.0 < 2 ^ 64) × Unit {0})) (in_turn (number_at w64) (λ _. in_turn (number_at w64) (λ _. coded_at flag_of))) slice IsSlice make_slice
    (λ x fits. ((fits.0, fits.1.0), refl))
    (λ s fits. ((s.first, (s.got, s.finished)), refl, (fits.0, (fits.1, tt))))
    (next u64_exact (next u64_exact flag_exact))

module _ {A : Type 0} (spell : A → List ℕ) (Fits : A → Type 0) (read : List ℕ → Reading A) (exact : Exact spell Fits read) where
  abbrev Times : ℕ → List A → Type 0
  Times n xs = (length xs ≡ n) × AllByRecursion Fits xs

  nil_is : (xs : List A) → length xs ≡ 0 → xs ≡ []
  nil_is [] e = refl
  nil_is (x ∷ xs) e = absurd (omega arith)

  cons_from : (n : ℕ) (xs : List A) → Times (suc n) xs → (x : A × List A) × (x.0 ∷ x.1 ≡ xs) × (Fits x.0 × Times n x.1)
  cons_from n [] fits = absurd (omega (arith, fits.0))
  cons_from n (x ∷ xs) fits = ((x, xs), refl, (fits.1.0, (omega (arith, fits.0), fits.1.1)))

  pub times_exact : (n : ℕ) → Exact (flat_map spell) (Times n) (times_at read n)
  unfolding times_at
  times_exact zero = one_exact [] (flat_map spell) (Times 0) refl (refl, tt) (λ xs fits. nil_is xs fits.0)
  times_exact (suc n) =
      made (λ (x : A × List A). spell x.0 ++ flat_map spell x.1) (λ (x : A × List A). Fits x.0 × Times n x.1) (in_turn read (λ _. times_at read n)) (flat_map spell) (Times (suc n)) (λ (x : A × List A). x.0 ∷ x.1)
      (λ x fits. ((omega (arith, fits.1.0), (fits.0, fits.1.1)), refl))
      (cons_from n)
      (next exact (times_exact n))

abbrev pub FitsSlices : List Slice → Type 0
FitsSlices xs = IsCount xs × AllByRecursion IsSlice xs

pub slices_exact : Exact slices FitsSlices slices_at
unfolding slices_at
slices_exact =
    made (λ (x : ℕ × List Slice). x.0 ∷ flat_map slice x.1) (λ (x : ℕ × List Slice). Between 1 64 x.0 × Times slice IsSlice slice_at slice_exact x.0 x.1) (in_turn (coded_at (within 1 64)) (times_at slice_at)) slices FitsSlices (λ (x : ℕ × List Slice). x.1)
    (λ x fits. (((omega (arith, fits.0.0, fits.1.0), omega (arith, fits.0.1, fits.1.0)), fits.1.1), ap (λ (n : ℕ). n ∷ flat_map slice x.1) fits.1.0))
    (λ xs fits. ((length xs, xs), refl, (fits.0, (refl, fits.1))))
    (turn (λ n. n ∷ []) (Between 1 64) (coded_at (within 1 64)) (λ (n : ℕ) (xs : List Slice). flat_map slice xs) (Times slice IsSlice slice_at slice_exact) (times_at slice_at) (within_exact 1 64 (omega arith)) (λ n _. times_exact slice IsSlice slice_at slice_exact n))

-- ---- a phase and its reason

abbrev pub phase_spelling : Phase × Option Reason → List ℕ
phase_spelling p = phase_byte p.0 ∷ optional reason p.1

abbrev reason_field : Phase × Option Reason → List ℕ
reason_field p = optional reason p.1

abbrev pub FitsPhase : Phase × Option Reason → Type 0
FitsPhase p = HasReason p.0 p.1

abbrev phased : Phase → Option Reason → Phase × Option Reason
phased phase field = (phase, field)

abbrev interrupted : Reason → Phase × Option Reason
interrupted r = (phases.Interrupted r, Some r)

abbrev Phased : Phase → Phase × Option Reason → Type 0
Phased phase p = Image (phased phase) (λ field. IfSome field Anything) p

abbrev PhaseOf : ℕ → Phase × Option Reason → Type 0
PhaseOf zero p = ⊥
PhaseOf (suc zero) p = Phased phases.Waiting p
PhaseOf (suc (suc zero)) p = Phased phases.Running p
PhaseOf (suc (suc (suc zero))) p = Phased phases.Paused p
PhaseOf (suc (suc (suc (suc zero)))) p = Phased phases.Finishing p
PhaseOf (suc (suc (suc (suc (suc zero))))) p = Phased phases.Complete p
PhaseOf (suc (suc (suc (suc (suc (suc zero)))))) p = Phased phases.Cancelled p
PhaseOf (suc (suc (suc (suc (suc (suc (suc zero))))))) p = (r : Reason) × (interrupted r ≡ p)
PhaseOf (suc (suc (suc (suc (suc (suc (suc (suc n)))))))) p = ⊥

any_reason : (field : Option Reason) → IfSome field Anything
any_reason None = tt
any_reason (Some r) = tt

phase_into : (phase : Phase) (field : Option Reason) → HasReason phase field → PhaseOf (phase_byte phase) (phase, field)
phase_into phases.Waiting field fits = (field, refl, any_reason field)
phase_into phases.Running field fits = (field, refl, any_reason field)
phase_into phases.Paused field fits = (field, refl, any_reason field)
phase_into phases.Finishing field fits = (field, refl, any_reason field)
phase_into phases.Complete field fits = (field, refl, any_reason field)
phase_into phases.Cancelled field fits = (field, refl, any_reason field)
phase_into (phases.Interrupted r) field fits = (r, ap (λ (f : Option Reason). (phases.Interrupted r, f)) (sym fits))

abbrev Here : ℕ → Phase × Option Reason → Type 0
Here tag p = FitsPhase p × (phase_byte p.0 ≡ tag)

phase_out : (tag : ℕ) (p : Phase × Option Reason) → PhaseOf tag p → Here tag p
phase_out zero p of = absurd of
phase_out (suc zero) p of = subst (Here 1) of.1 (tt, refl)
phase_out (suc (suc zero)) p of = subst (Here 2) of.1 (tt, refl)
phase_out (suc (suc (suc zero))) p of = subst (Here 3) of.1 (tt, refl)
phase_out (suc (suc (suc (suc zero)))) p of = subst (Here 4) of.1 (tt, refl)
phase_out (suc (suc (suc (suc (suc zero))))) p of = subst (Here 5) of.1 (tt, refl)
phase_out (suc (suc (suc (suc (suc (suc zero)))))) p of = subst (Here 6) of.1 (tt, refl)
phase_out (suc (suc (suc (suc (suc (suc (suc zero))))))) p of = subst (Here 7) of.1 (refl, refl)
phase_out (suc (suc (suc (suc (suc (suc (suc (suc n)))))))) p of = absurd of

phased_exact : (phase : Phase) → Exact reason_field (Phased phase) (phased_at phase)
unfolding phased_at
phased_exact phase = made_image (optional reason) (λ field. IfSome field Anything) (optional_at reason_at) reason_field (phased phase) (λ field fits. refl) (optional_exact reason Anything reason_at reason_exact)

make_interrupted : ℕ × Reason → Phase × Option Reason
make_interrupted x = (phases.Interrupted x.1, Some x.1)

interrupted_exact : Exact reason_field (PhaseOf 7) interrupted_at
unfolding interrupted_at make_interrupted
interrupted_exact =
    made (λ (x : ℕ × Reason). x.0 ∷ reason x.1) (λ (x : ℕ × Reason). Between 1 1 x.0 × Unit {0}) (in_turn (coded_at (within 1 1)) (λ _. reason_at)) reason_field (PhaseOf 7) make_interrupted
    (λ x fits. ((x.1, refl), ap (λ (n : ℕ). n ∷ reason x.1) (sym (only_one x.0 fits.0))))
    (λ p of. ((1, of.0), of.1, ((omega arith, omega arith), tt)))
    (next (within_exact 1 1 (omega arith)) reason_exact)

phase_branch : (tag : ℕ) → Branch reason_field (PhaseOf tag) phase_at tag
unfolding phase_at
phase_branch zero = inr ((λ rest. refl), λ p of. of)
phase_branch (suc zero) = inl (phased_exact phases.Waiting)
phase_branch (suc (suc zero)) = inl (phased_exact phases.Running)
phase_branch (suc (suc (suc zero))) = inl (phased_exact phases.Paused)
phase_branch (suc (suc (suc (suc zero)))) = inl (phased_exact phases.Finishing)
phase_branch (suc (suc (suc (suc (suc zero))))) = inl (phased_exact phases.Complete)
phase_branch (suc (suc (suc (suc (suc (suc zero)))))) = inl (phased_exact phases.Cancelled)
phase_branch (suc (suc (suc (suc (suc (suc (suc zero))))))) = inl interrupted_exact
phase_branch (suc (suc (suc (suc (suc (suc (suc (suc n)))))))) = inr ((λ rest. refl), λ p of. of)

phase_empty : phase_at [] ≡ Err stops.Short
unfolding phase_at
phase_empty = refl

pub phase_exact : Exact phase_spelling FitsPhase phase_at
phase_exact = tagged (λ (p : Phase × Option Reason). phase_byte p.0) reason_field FitsPhase PhaseOf phase_at (λ p fits. phase_into p.0 p.1 fits) phase_out phase_empty phase_branch ((phases.Waiting, None), tt)
