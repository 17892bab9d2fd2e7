-- Reading from the front: a value and the bytes after it, or why there is none.
use Rattle.std.specs.Prelude.{◌≡◌, ℕ, zero, suc, ◌+◌, ◌-◌, ◌*◌, Bool, true, false, List, [], ◌∷◌, length, take, drop, Option, Some, None, Result, Ok, Err, nat_lt, ◌==◌, find, if◌then◌else◌}
use Rattle.std.specs.Int.{Width, w32, w64, byte_len, from_be_bytes}
use Rattle.dm_types.specs.declared.entry.Entry.{Entry}
use Rattle.dm_types.specs.declared.entry.Entry.TheVariants.{Added, Began, Described, Progress, Broke, Paused, Cancelled, Restarted, Finishing, Done, Removed, Archived, Reopened, Restored, Asked}
use Rattle.dm_types.specs.declared.item.Item.{Item}
use Rattle.dm_types.specs.declared.item.ItemId.{ItemId}
use Rattle.dm_types.specs.declared.item.Epoch.{Epoch}
use Rattle.dm_types.specs.declared.item.Attempt.{Attempt}
use Rattle.dm_types.specs.declared.item.Key.{Key}
use Rattle.dm_types.specs.declared.item.Key.TheVariants.{Strong, Once}
use Rattle.dm_types.specs.declared.item.Phase.{Phase}
use Rattle.dm_types.specs.declared.item.Phase.TheVariants as phases
use Rattle.dm_types.specs.declared.kinds.By.{By}
use Rattle.dm_types.specs.declared.kinds.By.TheVariants.{User, Itself}
use Rattle.dm_types.specs.declared.reason.Reason.{Reason}
use Rattle.dm_types.specs.declared.reason.Reason.TheVariants.{FileFailed, FileAccessDenied, FileNoSpace, FileNameTooLong, FileTooLarge, FileTooShort, FileHashMismatch, NetworkFailed, NetworkTimeout, NetworkDisconnected, NetworkServerDown, NetworkInvalidRequest, ServerFailed, ServerNoRange, ServerBadContent, ServerUnauthorized, ServerForbidden, ServerContentLengthMismatch, UserCanceled, UserShutdown, Crash, NoMemory}
use Rattle.dm_types.specs.declared.slices.Slice.{Slice}
use Rattle.dm_types.specs.Reason.{code_of}
use Rattle.dm_record.specs.declared.parts.Order.{Order}
use Rattle.dm_record.specs.declared.parts.Course.{Course}
use Rattle.dm_record.specs.declared.parts.Told.{Told}
use Rattle.dm_record.specs.declared.parts.Kept.{Kept}
use Rattle.dm_record.specs.declared.fault.RecordFault.{RecordFault}
use Rattle.dm_record.specs.declared.fault.RecordFault.TheVariants as faults
use Rattle.dm_record.specs.declared.fault.Stop.{Stop}
use Rattle.dm_record.specs.declared.fault.Stop.TheVariants as stops

abbrev pub Reading : Type 0 → Type 0
Reading A = Result (A × List ℕ) Stop

infixl 10 ◌>>=◌
abbrev pub ◌>>=◌ : {A B : Type 0} → Result A Stop → (A → Result B Stop) → Result B Stop
(Ok x) >>= f = f x
(Err e) >>= f = Err e

-- What a function answered is what reading gives, unless memory ran out.
abbrev pub Stops : {Y : Type 0} → Stop → Result Y Stop → Type 0
Stops stops.NoMemory read = Unit {0}
Stops stops.Short read = read ≡ Err stops.Short
Stops (stops.Stray left) read = read ≡ Err (stops.Stray left)

abbrev pub Gives : {X Y : Type 0} → (X → Y) → Result X Stop → Result Y Stop → Type 0
Gives view (Ok x) read = read ≡ Ok (view x)
Gives view (Err e) read = Stops e read

-- one field, and then another that may depend on it
abbrev pub in_turn : {A B : Type 0} → (List ℕ → Reading A) → (A → List ℕ → Reading B) → List ℕ → Reading (A × B)
in_turn first second bytes = first bytes >>= λ x. second x.0 x.1 >>= λ y. Ok ((x.0, y.0), y.1)

-- a field, made into another value
abbrev pub made_by : {A B : Type 0} → (A → B) → (List ℕ → Reading A) → List ℕ → Reading B
made_by make field bytes = field bytes >>= λ x. Ok (make x.0, x.1)

-- no field goes on with the first byte
abbrev pub stray : {A : Type 0} → List ℕ → Reading A
stray rest = Err (stops.Stray (suc (length rest)))

-- ---- fields

-- what a byte stands for, if it stands for anything
abbrev pub coded : {A : Type 0} → Option A → List ℕ → Reading A
coded None rest = stray rest
coded (Some x) rest = Ok (x, rest)

-- so many bytes
unfoldable pub run_at : ℕ → List ℕ → Reading (List ℕ)
run_at n bytes = if nat_lt (length bytes) n then Err stops.Short else Ok (take n bytes, drop n bytes)

unfoldable pub number_at : Width → List ℕ → Reading ℕ
number_at w bytes = made_by (from_be_bytes w) (run_at (byte_len w)) bytes

-- one byte that has a meaning
unfoldable pub coded_at : {A : Type 0} → (ℕ → Option A) → List ℕ → Reading A
coded_at decode [] = Err stops.Short
coded_at decode (b ∷ rest) = coded (decode b) rest

-- a length of two bytes that keeps a limit
unfoldable pub length_at : ℕ → List ℕ → Reading ℕ
length_at limit [] = Err stops.Short
length_at limit (high ∷ []) = if nat_lt limit (256 * high) then stray [] else Err stops.Short
length_at limit (high ∷ low ∷ rest) = if nat_lt limit (256 * high) then stray (low ∷ rest) else (if nat_lt limit (256 * high + low) then stray rest else Ok (256 * high + low, rest))

unfoldable pub text_at : ℕ → List ℕ → Reading (List ℕ)
text_at limit bytes = made_by (λ x. x.1) (in_turn (length_at limit) run_at) bytes

unfoldable pub optional_at : {A : Type 0} → (List ℕ → Reading A) → List ℕ → Reading (Option A)
optional_at field [] = Err stops.Short
optional_at field (zero ∷ rest) = Ok (None, rest)
optional_at field (suc zero ∷ rest) = made_by Some field rest
optional_at field (suc (suc b) ∷ rest) = stray rest

-- that many fields of one form
unfoldable pub times_at : {A : Type 0} → (List ℕ → Reading A) → ℕ → List ℕ → Reading (List A)
times_at field zero bytes = Ok ([], bytes)
times_at field (suc n) bytes = made_by (λ x. x.0 ∷ x.1) (in_turn field (λ _. times_at field n)) bytes

-- ---- what one byte means

abbrev pub flag_of : ℕ → Option Bool
flag_of zero = Some false
flag_of (suc zero) = Some true
flag_of (suc (suc n)) = None

abbrev pub by_of : ℕ → Option By
by_of zero = None
by_of (suc zero) = Some User
by_of (suc (suc zero)) = Some Itself
by_of (suc (suc (suc n))) = None

abbrev pub within : ℕ → ℕ → ℕ → Option ℕ
within low high n = if nat_lt n low then None else (if nat_lt high n then None else Some n)

abbrev pub reasons : List Reason
reasons = FileFailed ∷ FileAccessDenied ∷ FileNoSpace ∷ FileNameTooLong ∷ FileTooLarge ∷ FileTooShort ∷ FileHashMismatch ∷ NetworkFailed ∷ NetworkTimeout ∷ NetworkDisconnected ∷ NetworkServerDown ∷ NetworkInvalidRequest ∷ ServerFailed ∷ ServerNoRange ∷ ServerBadContent ∷ ServerUnauthorized ∷ ServerForbidden ∷ ServerContentLengthMismatch ∷ UserCanceled ∷ UserShutdown ∷ Crash ∷ NoMemory ∷ []

unfoldable pub reason_of : ℕ → Option Reason
reason_of n = find (λ r. code_of r == n) reasons

-- ---- fields of items and entries

unfoldable pub id_at : List ℕ → Reading ItemId
id_at bytes = made_by (λ n. record { 0 = n }) (number_at w32) bytes

unfoldable pub epoch_at : List ℕ → Reading Epoch
epoch_at bytes = made_by (λ n. record { 0 = n }) (number_at w32) bytes

unfoldable pub attempt_at : List ℕ → Reading Attempt
attempt_at bytes = made_by (λ n. record { 0 = n }) (number_at w32) bytes

unfoldable pub digest_at : List ℕ → Reading (List ℕ)
digest_at bytes = run_at 32 bytes

-- the high byte of a reason's number is 0
unfoldable pub reason_at : List ℕ → Reading Reason
reason_at bytes = made_by (λ x. x.1) (in_turn (coded_at (within 0 0)) (λ _. coded_at reason_of)) bytes

unfoldable pub key_at : List ℕ → Reading Key
key_at [] = Err stops.Short
key_at (zero ∷ rest) = stray rest
key_at (suc zero ∷ rest) = made_by Strong (text_at 1024) rest
key_at (suc (suc zero) ∷ rest) = made_by (λ x. Once x.0 x.1) (in_turn id_at (λ _. attempt_at)) rest
key_at (suc (suc (suc n)) ∷ rest) = stray rest

unfoldable pub slice_at : List ℕ → Reading Slice
slice_at bytes = made_by (λ x. record { first = x.0; got = x.1.0; finished = x.1.1 }) (in_turn (number_at w64) (λ _. in_turn (number_at w64) (λ _. coded_at flag_of))) bytes

unfoldable pub slices_at : List ℕ → Reading (List Slice)
slices_at bytes = made_by (λ x. x.1) (in_turn (coded_at (within 1 64)) (times_at slice_at)) bytes

-- a phase, and a reason that may be there
unfoldable pub phased_at : Phase → List ℕ → Reading (Phase × Option Reason)
phased_at phase bytes = made_by (λ field. (phase, field)) (optional_at reason_at) bytes

-- the reason of an interrupted item, which has to be there
unfoldable pub interrupted_at : List ℕ → Reading (Phase × Option Reason)
interrupted_at bytes = made_by (λ x. (phases.Interrupted x.1, Some x.1)) (in_turn (coded_at (within 1 1)) (λ _. reason_at)) bytes

unfoldable pub phase_at : List ℕ → Reading (Phase × Option Reason)
phase_at [] = Err stops.Short
phase_at (zero ∷ rest) = stray rest
phase_at (suc zero ∷ rest) = phased_at phases.Waiting rest
phase_at (suc (suc zero) ∷ rest) = phased_at phases.Running rest
phase_at (suc (suc (suc zero)) ∷ rest) = phased_at phases.Paused rest
phase_at (suc (suc (suc (suc zero))) ∷ rest) = phased_at phases.Finishing rest
phase_at (suc (suc (suc (suc (suc zero)))) ∷ rest) = phased_at phases.Complete rest
phase_at (suc (suc (suc (suc (suc (suc zero))))) ∷ rest) = phased_at phases.Cancelled rest
phase_at (suc (suc (suc (suc (suc (suc (suc zero)))))) ∷ rest) = interrupted_at rest
phase_at (suc (suc (suc (suc (suc (suc (suc (suc n))))))) ∷ rest) = stray rest

-- ---- entries

abbrev pub make_added : ItemId × (List ℕ × (List ℕ × (List ℕ × (Option (List ℕ) × ℕ)))) → Entry
make_added x = Added x.0 x.1.0 x.1.1.0 x.1.1.1.0 x.1.1.1.1.0 x.1.1.1.1.1

unfoldable pub added_at : List ℕ → Reading Entry
added_at bytes = made_by make_added (in_turn id_at (λ _. in_turn (text_at 64) (λ _. in_turn (text_at 4096) (λ _. in_turn (text_at 255) (λ _. in_turn (optional_at digest_at) (λ _. number_at w64)))))) bytes

abbrev pub make_began : ItemId × (Attempt × (By × ℕ)) → Entry
make_began x = Began x.0 x.1.0 x.1.1.0 x.1.1.1

unfoldable pub began_at : List ℕ → Reading Entry
began_at bytes = made_by make_began (in_turn id_at (λ _. in_turn attempt_at (λ _. in_turn (coded_at by_of) (λ _. number_at w64)))) bytes

abbrev pub make_described : ItemId × (Key × (List ℕ × (Option ℕ × (List ℕ × List ℕ)))) → Entry
make_described x = Described x.0 x.1.0 x.1.1.0 x.1.1.1.0 x.1.1.1.1.0 x.1.1.1.1.1

unfoldable pub described_at : List ℕ → Reading Entry
described_at bytes = made_by make_described (in_turn id_at (λ _. in_turn key_at (λ _. in_turn (text_at 4096) (λ _. in_turn (optional_at (number_at w64)) (λ _. in_turn (text_at 255) (λ _. text_at 128)))))) bytes

abbrev pub make_progress : ItemId × List Slice → Entry
make_progress x = Progress x.0 x.1

unfoldable pub progress_at : List ℕ → Reading Entry
progress_at bytes = made_by make_progress (in_turn id_at (λ _. slices_at)) bytes

abbrev pub make_broke : ItemId × Reason → Entry
make_broke x = Broke x.0 x.1

unfoldable pub broke_at : List ℕ → Reading Entry
broke_at bytes = made_by make_broke (in_turn id_at (λ _. reason_at)) bytes

unfoldable pub paused_at : List ℕ → Reading Entry
paused_at bytes = made_by Paused id_at bytes

unfoldable pub cancelled_at : List ℕ → Reading Entry
cancelled_at bytes = made_by Cancelled id_at bytes

abbrev pub make_restarted : ItemId × (Epoch × ℕ) → Entry
make_restarted x = Restarted x.0 x.1.0 x.1.1

unfoldable pub restarted_at : List ℕ → Reading Entry
restarted_at bytes = made_by make_restarted (in_turn id_at (λ _. in_turn epoch_at (λ _. coded_at (within 1 4)))) bytes

abbrev pub make_finishing : ItemId × ℕ → Entry
make_finishing x = Finishing x.0 x.1

unfoldable pub finishing_at : List ℕ → Reading Entry
finishing_at bytes = made_by make_finishing (in_turn id_at (λ _. number_at w64)) bytes

abbrev pub make_done : ItemId × (List ℕ × ℕ) → Entry
make_done x = Done x.0 x.1.0 x.1.1

unfoldable pub done_at : List ℕ → Reading Entry
done_at bytes = made_by make_done (in_turn id_at (λ _. in_turn digest_at (λ _. number_at w64))) bytes

unfoldable pub removed_at : List ℕ → Reading Entry
removed_at bytes = made_by Removed id_at bytes

unfoldable pub archived_at : List ℕ → Reading Entry
archived_at bytes = made_by Archived id_at bytes

abbrev pub make_reopened : ℕ × ℕ → Entry
make_reopened x = Reopened x.0 x.1

unfoldable pub reopened_at : List ℕ → Reading Entry
reopened_at bytes = made_by make_reopened (in_turn (number_at w32) (λ _. number_at w64)) bytes

unfoldable pub asked_at : List ℕ → Reading Entry
asked_at bytes = made_by Asked id_at bytes

-- ---- an item, in five parts

unfoldable pub order_at : List ℕ → Reading Order
order_at bytes = made_by (λ x. record { id = x.0; word = x.1.0; first_address = x.1.1.0; wish = x.1.1.1.0; digest = x.1.1.1.1 })
    (in_turn id_at (λ _. in_turn (text_at 64) (λ _. in_turn (text_at 4096) (λ _. in_turn (text_at 255) (λ _. optional_at digest_at))))) bytes

unfoldable pub course_at : List ℕ → Reading Course
course_at bytes = made_by (λ x. record { epoch = x.0; attempt = x.1.0; autos = x.1.1.0; begun = x.1.1.1 })
    (in_turn epoch_at (λ _. in_turn attempt_at (λ _. in_turn (number_at w32) (λ _. coded_at flag_of)))) bytes

unfoldable pub told_at : List ℕ → Reading Told
told_at bytes = made_by (λ x. record { key = x.0; last_address = x.1.0; total = x.1.1.0; name = x.1.1.1.0; modified = x.1.1.1.1 })
    (in_turn (optional_at key_at) (λ _. in_turn (optional_at (text_at 4096)) (λ _. in_turn (optional_at (number_at w64)) (λ _. in_turn (optional_at (text_at 255)) (λ _. optional_at (text_at 128)))))) bytes

unfoldable pub kept_at : List ℕ → Reading Kept
kept_at bytes = made_by (λ x. record { slices = x.0; have = x.1.0; at_ms = x.1.1 }) (in_turn slices_at (λ _. in_turn (optional_at digest_at) (λ _. number_at w64))) bytes

abbrev pub make_item : Order × ((Phase × Option Reason) × (Course × (Told × Kept))) → Item
make_item x = record {
  id = x.0.id;
  word = x.0.word;
  first_address = x.0.first_address;
  wish = x.0.wish;
  digest = x.0.digest;
  phase = x.1.0.0;
  reason = x.1.0.1;
  epoch = x.1.1.0.epoch;
  attempt = x.1.1.0.attempt;
  autos = x.1.1.0.autos;
  begun = x.1.1.0.begun;
  key = x.1.1.1.0.key;
  last_address = x.1.1.1.0.last_address;
  total = x.1.1.1.0.total;
  name = x.1.1.1.0.name;
  modified = x.1.1.1.0.modified;
  slices = x.1.1.1.1.slices;
  have = x.1.1.1.1.have;
  at_ms = x.1.1.1.1.at_ms;
}

abbrev pub make_restored : Order × ((Phase × Option Reason) × (Course × (Told × Kept))) → Entry
make_restored x = Restored (make_item x)

unfoldable pub restored_at : List ℕ → Reading Entry
restored_at bytes = made_by make_restored (in_turn order_at (λ _. in_turn phase_at (λ _. in_turn course_at (λ _. in_turn told_at (λ _. kept_at))))) bytes

-- ---- by the kind

abbrev pub fields_at : ℕ → List ℕ → Reading Entry
fields_at zero rest = stray rest
fields_at (suc zero) rest = added_at rest
fields_at (suc (suc zero)) rest = began_at rest
fields_at (suc (suc (suc zero))) rest = described_at rest
fields_at (suc (suc (suc (suc zero)))) rest = progress_at rest
fields_at (suc (suc (suc (suc (suc zero))))) rest = broke_at rest
fields_at (suc (suc (suc (suc (suc (suc zero)))))) rest = paused_at rest
fields_at (suc (suc (suc (suc (suc (suc (suc zero))))))) rest = cancelled_at rest
fields_at (suc (suc (suc (suc (suc (suc (suc (suc zero)))))))) rest = restarted_at rest
fields_at (suc (suc (suc (suc (suc (suc (suc (suc (suc zero))))))))) rest = finishing_at rest
fields_at (suc (suc (suc (suc (suc (suc (suc (suc (suc (suc zero)))))))))) rest = done_at rest
fields_at (suc (suc (suc (suc (suc (suc (suc (suc (suc (suc (suc zero))))))))))) rest = removed_at rest
fields_at (suc (suc (suc (suc (suc (suc (suc (suc (suc (suc (suc (suc zero)))))))))))) rest = archived_at rest
fields_at (suc (suc (suc (suc (suc (suc (suc (suc (suc (suc (suc (suc (suc zero))))))))))))) rest = reopened_at rest
fields_at (suc (suc (suc (suc (suc (suc (suc (suc (suc (suc (suc (suc (suc (suc zero)))))))))))))) rest = restored_at rest
fields_at (suc (suc (suc (suc (suc (suc (suc (suc (suc (suc (suc (suc (suc (suc (suc zero))))))))))))))) rest = asked_at rest
fields_at (suc (suc (suc (suc (suc (suc (suc (suc (suc (suc (suc (suc (suc (suc (suc (suc n)))))))))))))))) rest = stray rest

unfoldable pub entry_at : List ℕ → Reading Entry
entry_at [] = Err stops.Short
entry_at (kind ∷ rest) = fields_at kind rest

-- the same, with places counted from the front
abbrev pub with_place : List ℕ → Reading Entry → Result (Entry × ℕ) RecordFault
with_place bytes (Ok x) = Ok (x.0, length bytes - length x.1)
with_place bytes (Err stops.Short) = Err faults.Short
with_place bytes (Err (stops.Stray left)) = Err (faults.Bad (length bytes - left))
with_place bytes (Err stops.NoMemory) = Err faults.NoMemory

unfoldable pub record_at : List ℕ → Result (Entry × ℕ) RecordFault
record_at bytes = with_place bytes (entry_at bytes)
