-- How long spellings are.
use Rattle.std.proofs.Common.{◌≡◌, ℕ, suc, ◌+◌, ◌*◌, ◌≤◌, List, [], ◌∷◌, ◌++◌, length, Option, Some, None, refl, ap, arith, Result, Ok, Err, IfOk, IfSome}
use Rattle.std.specs.Int.{w16, w32, w64}
use Rattle.std.specs.List.{flat_map}
use Rattle.std.proofs.lemmas.List.{length-append}
use Rattle.dm_types.specs.declared.entry.Entry.{Entry}
use Rattle.dm_types.specs.declared.entry.Entry.TheVariants.{Added, Began, Described, Progress, Broke, Paused, Cancelled, Restarted, Finishing, Done, Removed, Archived, Reopened, Restored, Asked}
use Rattle.dm_types.specs.declared.item.Item.{Item}
use Rattle.dm_types.specs.declared.item.Key.{Key}
use Rattle.dm_types.specs.declared.item.Key.TheVariants.{Strong, Once}
use Rattle.dm_types.specs.declared.reason.Reason.{Reason}
use Rattle.dm_types.specs.declared.slices.Slice.{Slice}
use Rattle.dm_types.specs.Reason.{code_of}
use Rattle.dm_record.specs.Spelling.{number, text, optional, digest, reason, key, slice, slices, flag_byte, by_byte, order_fields, phase_fields, course_fields, told_fields, kept_fields, item_fields, fields_of, spelling_of}
use Rattle.dm_record.specs.Limits.{AtMost, IsDigest, IsTag, IsCount, IsEntry, IsSpellableItem, IsItem}

n16 : (n : ℕ) → length (number w16 n) ≡ 2
unfolding number
n16 n = refl

n32 : (n : ℕ) → length (number w32 n) ≡ 4
unfolding number
n32 n = refl

n64 : (n : ℕ) → length (number w64 n) ≡ 8
unfolding number
n64 n = refl

length-text : (t : List ℕ) → length (text t) ≡ 2 + length t
length-text t = omega (arith, length-append (number w16 (length t)) t, n16 (length t))

text-at_most : (limit : ℕ) (t : List ℕ) → length t ≤ limit → length (text t) ≤ limit + 2
text-at_most limit t le = omega (arith, length-text t)

optional-at_most : {A : Type 0} (field : A → List ℕ) (limit : ℕ) (o : Option A) → IfSome o (λ x. length (field x) ≤ limit) → length (optional field o) ≤ suc limit
optional-at_most field limit None le = omega arith
optional-at_most field limit (Some x) le = omega (arith, le)

if_some : {A : Type 0} (P Q : A → Type 0) (o : Option A) → ((x : A) → P x → Q x) → IfSome o P → IfSome o Q
if_some P Q None f p = tt
if_some P Q (Some x) f p = f x p

digest-at_most : (o : Option (List ℕ)) → IfSome o IsDigest → length (optional digest o) ≤ 33
digest-at_most o is = optional-at_most digest 32 o (if_some IsDigest (λ x. length (digest x) ≤ 32) o (λ x p. omega (arith, p.0)) is)

number-at_most : (o : Option ℕ) → length (optional (number w64) o) ≤ 9
number-at_most None = omega arith
number-at_most (Some n) = omega (arith, n64 n)

known_text-at_most : (limit : ℕ) (o : Option (List ℕ)) → IfSome o (AtMost limit) → length (optional text o) ≤ limit + 3
known_text-at_most limit None le = omega arith
known_text-at_most limit (Some t) le = omega (arith, text-at_most limit t le)

key-at_most : (k : Key) → IsTag k → length (key k) ≤ 1027
key-at_most (Strong tag) is = omega (arith, text-at_most 1024 tag is)
key-at_most (Once id attempt) is = omega (arith, length-append (number w32 id.0) (number w32 attempt.0), n32 id.0, n32 attempt.0)

known_key-at_most : (o : Option Key) → IfSome o IsTag → length (optional key o) ≤ 1028
known_key-at_most None is = omega arith
known_key-at_most (Some k) is = omega (arith, key-at_most k is)

reason-at_most : (o : Option Reason) → length (optional reason o) ≤ 3
reason-at_most None = omega arith
reason-at_most (Some r) = omega (arith, n16 (code_of r))

length-slice : (s : Slice) → length (slice s) ≡ 17
length-slice s = omega (arith, length-append (number w64 s.first) (number w64 s.got ++ flag_byte s.finished ∷ []), length-append (number w64 s.got) (flag_byte s.finished ∷ []), n64 s.first, n64 s.got)

length-each : (xs : List Slice) → length (flat_map slice xs) ≡ 17 * length xs
length-each [] = refl
length-each (s ∷ xs) = omega (arith, length-append (slice s) (flat_map slice xs), length-slice s, length-each xs)

slices-at_most : (xs : List Slice) → IsCount xs → length (slices xs) ≤ 1089
slices-at_most xs is = omega (arith, length-each xs, is.1)

order-at_most : (i : Item) → IsSpellableItem i → IsItem i → length (order_fields i) ≤ 4458
order-at_most i s r =
    omega (
      arith,
      length-append (number w32 i.id.0) (text i.word ++ (text i.first_address ++ (text i.wish ++ optional digest i.digest))),
      length-append (text i.word) (text i.first_address ++ (text i.wish ++ optional digest i.digest)),
      length-append (text i.first_address) (text i.wish ++ optional digest i.digest),
      length-append (text i.wish) (optional digest i.digest),
      n32 i.id.0,
      text-at_most 64 i.word s.word,
      text-at_most 4096 i.first_address s.first_address,
      text-at_most 255 i.wish s.wish,
      digest-at_most i.digest r.digest,
    )

phase-at_most : (i : Item) → length (phase_fields i) ≤ 4
phase-at_most i = omega (arith, reason-at_most i.reason)

course-at_most : (i : Item) → length (course_fields i) ≤ 13
course-at_most i =
    omega (
      arith,
      length-append (number w32 i.epoch.0) (number w32 i.attempt.0 ++ (number w32 i.autos ++ flag_byte i.begun ∷ [])),
      length-append (number w32 i.attempt.0) (number w32 i.autos ++ flag_byte i.begun ∷ []),
      length-append (number w32 i.autos) (flag_byte i.begun ∷ []),
      n32 i.epoch.0,
      n32 i.attempt.0,
      n32 i.autos,
    )

told-at_most : (i : Item) → IsSpellableItem i → length (told_fields i) ≤ 5525
told-at_most i s =
    omega (
      arith,
      length-append (optional key i.key) (optional text i.last_address ++ (optional (number w64) i.total ++ (optional text i.name ++ optional text i.modified))),
      length-append (optional text i.last_address) (optional (number w64) i.total ++ (optional text i.name ++ optional text i.modified)),
      length-append (optional (number w64) i.total) (optional text i.name ++ optional text i.modified),
      length-append (optional text i.name) (optional text i.modified),
      known_key-at_most i.key s.key,
      known_text-at_most 4096 i.last_address s.last_address,
      number-at_most i.total,
      known_text-at_most 255 i.name s.name,
      known_text-at_most 128 i.modified s.modified,
    )

kept-at_most : (i : Item) → IsSpellableItem i → IsItem i → length (kept_fields i) ≤ 1130
kept-at_most i s r = omega (arith, length-append (slices i.slices) (optional digest i.have ++ number w64 i.at_ms), length-append (optional digest i.have) (number w64 i.at_ms), slices-at_most i.slices s.slices, digest-at_most i.have r.have, n64 i.at_ms)

item-at_most : (i : Item) → IsSpellableItem i → IsItem i → length (item_fields i) ≤ 11130
item-at_most i s r =
    omega (
      arith,
      length-append (order_fields i) (phase_fields i ++ (course_fields i ++ (told_fields i ++ kept_fields i))),
      length-append (phase_fields i) (course_fields i ++ (told_fields i ++ kept_fields i)),
      length-append (course_fields i) (told_fields i ++ kept_fields i),
      length-append (told_fields i) (kept_fields i),
      order-at_most i s r,
      phase-at_most i,
      course-at_most i,
      told-at_most i s,
      kept-at_most i s r,
    )

fields-at_most : (entry : Entry) → IsEntry entry → length (fields_of entry) ≤ 11130
fields-at_most (Added id word address wish stated at) is =
    omega (
      arith,
      length-append (number w32 id.0) (text word ++ (text address ++ (text wish ++ (optional digest stated ++ number w64 at)))),
      length-append (text word) (text address ++ (text wish ++ (optional digest stated ++ number w64 at))),
      length-append (text address) (text wish ++ (optional digest stated ++ number w64 at)),
      length-append (text wish) (optional digest stated ++ number w64 at),
      length-append (optional digest stated) (number w64 at),
      n32 id.0,
      text-at_most 64 word is.0.0,
      text-at_most 4096 address is.0.1,
      text-at_most 255 wish is.0.2,
      digest-at_most stated is.1.4,
      n64 at,
    )
fields-at_most (Began id attempt by at) is = omega (arith, length-append (number w32 id.0) (number w32 attempt.0 ++ by_byte by ∷ number w64 at), length-append (number w32 attempt.0) (by_byte by ∷ number w64 at), n32 id.0, n32 attempt.0, n64 at)
fields-at_most (Described id k last_address total name modified) is =
    omega (
      arith,
      length-append (number w32 id.0) (key k ++ (text last_address ++ (optional (number w64) total ++ (text name ++ text modified)))),
      length-append (key k) (text last_address ++ (optional (number w64) total ++ (text name ++ text modified))),
      length-append (text last_address) (optional (number w64) total ++ (text name ++ text modified)),
      length-append (optional (number w64) total) (text name ++ text modified),
      length-append (text name) (text modified),
      n32 id.0,
      key-at_most k is.0.0,
      text-at_most 4096 last_address is.0.1,
      number-at_most total,
      text-at_most 255 name is.0.2,
      text-at_most 128 modified is.0.3,
    )
fields-at_most (Progress id cover) is = omega (arith, length-append (number w32 id.0) (slices cover), n32 id.0, slices-at_most cover is.0)
fields-at_most (Broke id r) is = omega (arith, length-append (number w32 id.0) (reason r), n32 id.0, n16 (code_of r))
fields-at_most (Paused id) is = omega (arith, n32 id.0)
fields-at_most (Cancelled id) is = omega (arith, n32 id.0)
fields-at_most (Restarted id epoch because) is = omega (arith, length-append (number w32 id.0) (number w32 epoch.0 ++ because ∷ []), length-append (number w32 epoch.0) (because ∷ []), n32 id.0, n32 epoch.0)
fields-at_most (Finishing id total) is = omega (arith, length-append (number w32 id.0) (number w64 total), n32 id.0, n64 total)
fields-at_most (Done id have at) is = omega (arith, length-append (number w32 id.0) (digest have ++ number w64 at), length-append (digest have) (number w64 at), n32 id.0, is.1.1.0, n64 at)
fields-at_most (Removed id) is = omega (arith, n32 id.0)
fields-at_most (Archived id) is = omega (arith, n32 id.0)
fields-at_most (Reopened next at) is = omega (arith, length-append (number w32 next) (number w64 at), n32 next, n64 at)
fields-at_most (Restored item) is = item-at_most item is.0 is.1
fields-at_most (Asked id) is = omega (arith, n32 id.0)

pub spelling-at_most : (entry : Entry) → IsEntry entry → length (spelling_of entry) ≤ 11131
spelling-at_most entry is = omega (arith, fields-at_most entry is)

pub written-at_most : {E : Type 0} (entry : Entry) (result : Result (List ℕ) E) → IfOk result (λ bytes. bytes ≡ spelling_of entry) → IfOk result (λ _. IsEntry entry)
    → IfOk result (λ bytes. (1 ≤ length bytes) × (length bytes ≤ 11131))
written-at_most entry (Ok bytes) is fits =
    let size : length bytes ≡ suc (length (fields_of entry)) = ap length is in
    (omega (arith, size), omega (arith, size, fields-at_most entry fits))
written-at_most entry (Err e) is fits = tt
