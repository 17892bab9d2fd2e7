-- Histories as bodies, and one entry more.
use Rattle.std.proofs.Common.{◌≡◌, ℕ, ◌≤◌, List, [], ◌∷◌, ◌++◌, reverse, Option, Some, None, refl, sym, ◌∙◌, ap, subst, arith}
use Rattle.std.proofs.lemmas.List.{append-nil, reverse-append}
use Rattle.dm_types.specs.declared.entry.Entry.{Entry}
use Rattle.dm_types.specs.declared.entry.Entry.TheVariants as entries
use Rattle.dm_record.specs.Spelling.{spelling_of}
use Rattle.dm_record.specs.Limits.{IsEntry}
use Rattle.dm_record.proofs.Places.{one_spelling}
use Rattle.dm_item.specs.Lawful.{History, IsLawfulBack, left_by}
use Rattle.dm_item.specs.Listing.{HasRoomFor}
use Rattle.dm_journal.proofs.Texts.{journal_unique}
use Rattle.dm_kept.specs.Room.{HadRoomBack, IsTaken, MayFollow}
use Rattle.dm_kept.specs.Spelled.{AllEntries, Records, bodies_of}

pub bodies_push : (history : History) (entry : Entry) → bodies_of (history ++ entry ∷ []) ≡ bodies_of history ++ spelling_of entry ∷ []
bodies_push [] entry = refl
bodies_push (first ∷ history) entry = ap (λ (bodies : List (List ℕ)). spelling_of first ∷ bodies) (bodies_push history entry)

pub entries_push : (history : History) (entry : Entry) → AllEntries history → IsEntry entry → AllEntries (history ++ entry ∷ [])
entries_push [] entry all is = (is, tt)
entries_push (first ∷ history) entry all is = (all.0, entries_push history entry all.1 is)

-- a body is the spelling of one entry
pub same_entry : (a b : Entry) → IsEntry a → IsEntry b → spelling_of a ≡ spelling_of b → a ≡ b
same_entry a b is_a is_b same =
    (one_spelling a b [] [] is_a is_b (append-nil (spelling_of a) ∙ same ∙ sym (append-nil (spelling_of b)))).0

heads : {A : Type 0} (a b : A) (x y : List A) → a ∷ x ≡ b ∷ y → a ≡ b
heads a b x y same = cc

tails : {A : Type 0} (a b : A) (x y : List A) → a ∷ x ≡ b ∷ y → x ≡ y
tails a b x y same = cc

pub same_history : (a b : History) → AllEntries a → AllEntries b → bodies_of a ≡ bodies_of b → a ≡ b
same_history [] [] is_a is_b same = refl
same_history [] (second ∷ b) is_a is_b same = absurd cc
same_history (first ∷ a) [] is_a is_b same = absurd cc
same_history (first ∷ a) (second ∷ b) is_a is_b same =
    let head : first ≡ second = same_entry first second is_a.0 is_b.0 (heads (spelling_of first) (spelling_of second) (bodies_of a) (bodies_of b) same) in
    let tail : a ≡ b = same_history a b is_a.1 is_b.1 (tails (spelling_of first) (spelling_of second) (bodies_of a) (bodies_of b) same) in
    cc

-- one history at most is recorded
pub records_one : (found : Option (List ℕ)) (a b : History) → Records found a → Records found b → a ≡ b
records_one None a b is_a is_b = is_a ∙ sym is_b
records_one (Some bytes) a b is_a is_b =
    same_history a b is_a.entries is_b.entries (journal_unique (bodies_of a) (bodies_of b) bytes is_a.text is_b.text)

pub reverse_push : (history : History) (entry : Entry) → reverse (history ++ entry ∷ []) ≡ entry ∷ reverse history
reverse_push history entry = reverse-append history (entry ∷ [])

-- one entry that may follow
pub taken_push : (limit : ℕ) (history : History) (entry : Entry) → IsTaken limit history → MayFollow limit history entry → IsTaken limit (history ++ entry ∷ [])
taken_push limit history entry taken follows = record {
  lawful = subst IsLawfulBack (sym (reverse_push history entry)) (follows.meets, taken.lawful);
  room = subst (HadRoomBack limit) (sym (reverse_push history entry)) (follows.room, taken.room);
}

-- room under a limit is room under a higher one
room_more : (low high : ℕ) (entry : Entry) (older : List Entry) → low ≤ high → HasRoomFor (left_by low older) entry → HasRoomFor (left_by high older) entry
room_more low high (entries.Added id word address wish digest at) older le has = record { room = let few = has.room in omega arith; number = has.number }
room_more low high (entries.Began id attempt by at) older le has = tt
room_more low high (entries.Described id key last_address total name modified) older le has = tt
room_more low high (entries.Progress id slices) older le has = tt
room_more low high (entries.Broke id reason) older le has = tt
room_more low high (entries.Paused id) older le has = tt
room_more low high (entries.Cancelled id) older le has = tt
room_more low high (entries.Restarted id epoch because) older le has = tt
room_more low high (entries.Finishing id total) older le has = tt
room_more low high (entries.Done id digest at) older le has = tt
room_more low high (entries.Removed id) older le has = tt
room_more low high (entries.Archived id) older le has = tt
room_more low high (entries.Reopened next at) older le has = tt
room_more low high (entries.Restored item) older le has = tt
room_more low high (entries.Asked id) older le has = tt

had_room_more : (low high : ℕ) (back : List Entry) → low ≤ high → HadRoomBack low back → HadRoomBack high back
had_room_more low high [] le had = tt
had_room_more low high (entry ∷ older) le had = (room_more low high entry older le had.0, had_room_more low high older le had.1)

pub taken_more : (low high : ℕ) (history : History) → low ≤ high → IsTaken low history → IsTaken high history
taken_more low high history le taken = record { lawful = taken.lawful; room = had_room_more low high (reverse history) le taken.room }

pub follows_more : (low high : ℕ) (history : History) (entry : Entry) → low ≤ high → MayFollow low history entry → MayFollow high history entry
follows_more low high history entry le follows = record { room = room_more low high entry (reverse history) le follows.room; meets = follows.meets }
