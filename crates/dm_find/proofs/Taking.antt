-- What is read of a body, and of the bodies so far.
use Rattle.std.proofs.Common.{◌≡◌, ◌≢◌, ℕ, ◌+◌, ◌<◌, ◌≤◌, List, [], ◌∷◌, ◌++◌, length, take, drop, get_or, Result, Ok, Err, refl, sym, ◌∙◌, ap, subst, arith, append_assoc, length-append, length-drop}
use Rattle.std.proofs.lemmas.List.{append-nil, take_all, take_more, take-append-drop, length-take}
use Rattle.dm_types.specs.declared.entry.Entry.{Entry}
use Rattle.dm_record.specs.Spelling.{spelling_of}
use Rattle.dm_record.specs.Limits.{Answers, IsEntry}
use Rattle.dm_record.specs.declared.fault.RecordFault.{RecordFault}
use Rattle.dm_record.specs.declared.fault.RecordFault.TheVariants as records
use Rattle.dm_record.proofs.Places.{one_spelling}
use Rattle.dm_item.specs.Lawful.{History, IsOf}
use Rattle.dm_item.specs.Listing.{Listing}
use Rattle.dm_item.specs.Declines.{Declines}
use Rattle.dm_item.specs.declared.fault.ApplyFault.{ApplyFault}
use Rattle.dm_item.specs.declared.fault.ApplyFault.TheVariants as applies
use Rattle.dm_item.proofs.Histories.{keeps_step, limit_applied}
use Rattle.dm_journal.specs.Text.{cell, cells, front, header}
use Rattle.dm_journal.proofs.Texts.{cells_push, length-cell}
use Rattle.dm_kept.specs.Damage.{IsRefused}
use Rattle.dm_kept.specs.Room.{IsTaken, MayFollow}
use Rattle.dm_kept.specs.Spelled.{AllEntries, bodies_of}
use Rattle.dm_kept.proofs.Histories.{bodies_push, entries_push, same_entry, taken_push}
use Rattle.dm_item.proofs.Declined.{declined}
use Rattle.dm_kept.proofs.Listings.{follows_of, meets_of, room_of}
use Rattle.dm_find.specs.Bodies.{IsEntryTaken, IsListOf, IsRefusedAt, ReadsBody, TakesBody, TakesEntry, WholeEntry, apply_fault, read_fault}
use Rattle.dm_find.specs.declared.bodies.BodyFault.{BodyFault}
use Rattle.dm_find.specs.declared.bodies.BodyFault.TheVariants as faults

not_taken : (v : Listing) (entry : Entry) (fault : ApplyFault) → Declines v entry fault → fault ≢ applies.NoMemory → (history : History) → IsOf history v → MayFollow v.limit history entry → ⊥
not_taken v entry fault declines other history is follows = other (declined v entry fault (room_of v entry history is follows) (meets_of v entry history is follows) declines)

refused : (v w : Listing) (entry : Entry) (fault : ApplyFault) → Declines v entry fault → TakesEntry entry v w (Err (apply_fault fault))
refused v w entry (applies.NoItem id) declines = not_taken v entry (applies.NoItem id) declines (λ e. absurd cc)
refused v w entry (applies.WrongPhase phase) declines = not_taken v entry (applies.WrongPhase phase) declines (λ e. absurd cc)
refused v w entry (applies.Full count) declines = not_taken v entry (applies.Full count) declines (λ e. absurd cc)
refused v w entry (applies.Unlawful kind) declines = not_taken v entry (applies.Unlawful kind) declines (λ e. absurd cc)
refused v w entry applies.NoMemory declines = tt

-- an entry that the list declines
pub take_failed : (v w : Listing) (entry : Entry) (fault : ApplyFault) (result : BodyFault) → Declines v entry fault → result ≡ apply_fault fault → TakesEntry entry v w (Err result)
take_failed v w entry fault result declines is = subst (λ (r : BodyFault). TakesEntry entry v w (Err r)) (sym is) (refused v w entry fault declines)

-- an entry at the front of a body
pub read_ok : (body : List ℕ) (entry : Entry) (count : ℕ) (result : Result Entry BodyFault) → Answers body (Ok (entry, count)) → WholeEntry entry count (length body) result → ReadsBody body result
read_ok body entry count (Ok found) answers whole =
    let all : body ≡ spelling_of entry = sym (take_all (length body) body (omega arith)) ∙ ap (λ (n : ℕ). take n body) (sym whole.1) ∙ answers.2 in
    (subst IsEntry (sym whole.0) answers.0, all ∙ ap spelling_of (sym whole.0))
read_ok body entry count (Err faults.Refused) answers whole = λ other is spelled.
    let same : spelling_of entry ++ drop count body ≡ spelling_of other ++ [] =
    ap (λ (front : List ℕ). front ++ drop count body) (sym answers.2) ∙ take-append-drop count body ∙ spelled ∙ sym (append-nil (spelling_of other)) in
    let none : length (drop count body) ≡ 0 = ap length (one_spelling entry other (drop count body) [] answers.0 is same).1 in
    let long : count ≡ length (take count body) = answers.1 ∙ ap length (sym answers.2) in
    whole (omega (arith, none, long, length-drop count body, length-take count body))
read_ok body entry count (Err faults.NoMemory) answers whole = absurd whole

no_entry : (body : List ℕ) (fault : RecordFault) → Answers body (Err fault) → ReadsBody body (Err (read_fault fault))
no_entry body records.Short cut = λ entry is spelled.
    let same : spelling_of entry ++ cut.1 ∷ cut.2 ≡ spelling_of cut.0 ++ [] =
    ap (λ (front : List ℕ). front ++ cut.1 ∷ cut.2) (sym spelled) ∙ sym cut.4 ∙ sym (append-nil (spelling_of cut.0)) in
    let none : cut.1 ∷ cut.2 ≡ [] = (one_spelling entry cut.0 (cut.1 ∷ cut.2) [] is cut.3 same).1 in
    absurd cc
no_entry body (records.Bad place) bad = λ entry is spelled. bad.no_entry (entry, [], is, spelled ∙ sym (append-nil (spelling_of entry)))
no_entry body records.NoMemory memory = tt

-- no entry is read
pub read_failed : (body : List ℕ) (fault : RecordFault) (result : BodyFault) → Answers body (Err fault) → result ≡ read_fault fault → ReadsBody body (Err result)
read_failed body fault result answers is = subst (λ (r : BodyFault). ReadsBody body (Err r)) (sym is) (no_entry body fault answers)

-- an entry that was read is taken or not
pub body_taken : (body : List ℕ) (entry : Entry) (v w : Listing) (result : Result (Unit {0}) BodyFault) → IsEntry entry → body ≡ spelling_of entry → TakesEntry entry v w result → TakesBody body v w result
body_taken body entry v w (Ok done) is spelled takes = record { entry = entry; entry_is = is; spelled = spelled; takes = takes }
body_taken body entry v w (Err faults.Refused) is spelled takes = λ history list other other_is other_spelled follows.
    takes history list (subst (MayFollow v.limit history) (same_entry other entry other_is is (sym other_spelled ∙ spelled)) follows)
body_taken body entry v w (Err faults.NoMemory) is spelled takes = tt

-- the bodies before a place are taken
pub record SoFar (limit : ℕ) (bodies : List (List ℕ)) (index : ℕ) (items : Listing) (place : ℕ) : Type 0 where
  pub history : History
  pub entries : AllEntries history
  pub is : bodies_of history ≡ take index bodies
  pub list : IsOf history items
  pub taken : IsTaken limit history
  pub at : place ≡ length (front (bodies_of history))
  pub limit_is : items.limit ≡ limit

pub none_so_far : (bodies : List (List ℕ)) (items : Listing) → IsOf [] items → SoFar items.limit bodies 0 items 8
none_so_far bodies items list = record { history = []; entries = tt; is = refl; list = list; taken = record { lawful = tt; room = tt }; at = refl; limit_is = refl }

front_push : (bodies : List (List ℕ)) (body : List ℕ) → length (front (bodies ++ body ∷ [])) ≡ length (front bodies) + (5 + length body)
front_push bodies body =
    let longer : length (cells (bodies ++ body ∷ [])) ≡ length (cells bodies ++ cell body) = ap length (cells_push bodies body) in
    omega (arith, longer, length-append (cells bodies) (cell body), length-cell body, length-append header (cells bodies), length-append header (cells (bodies ++ body ∷ [])))

cells_append : (a b : List (List ℕ)) → cells (a ++ b) ≡ cells a ++ cells b
cells_append [] b = refl
cells_append (first ∷ a) b = ap (λ (xs : List ℕ). cell first ++ xs) (cells_append a b) ∙ sym (append_assoc (cell first) (cells a) (cells b))

pub front_within : (bodies : List (List ℕ)) (count : ℕ) → length (front (take count bodies)) ≤ length (front bodies)
front_within bodies count =
    let whole : length (cells bodies) ≡ length (cells (take count bodies) ++ cells (drop count bodies)) =
    ap (λ (bs : List (List ℕ)). length (cells bs)) (sym (take-append-drop count bodies)) ∙ ap length (cells_append (take count bodies) (drop count bodies)) in
    omega (arith, whole, length-append (cells (take count bodies)) (cells (drop count bodies)), length-append header (cells bodies), length-append header (cells (take count bodies)))

module _ (limit : ℕ) (bodies : List (List ℕ)) (index : ℕ) (items : Listing) (place : ℕ) (so_far : SoFar limit bodies index items place) (within : index < length bodies) (body : List ℕ) (here : body ≡ get_or bodies index body) where
  one_more : take (index + 1) bodies ≡ bodies_of so_far.history ++ body ∷ []
  one_more =
      take_more bodies index body within
      ∙ ap (λ (b : List ℕ). take index bodies ++ b ∷ []) (sym here)
      ∙ ap (λ (bs : List (List ℕ)). bs ++ body ∷ []) (sym so_far.is)

  -- the next gate's place
  pub next_place : place + (5 + length body) ≤ length (front bodies)
  next_place =
      let longer : length (front (take (index + 1) bodies)) ≡ length (front (bodies_of so_far.history)) + (5 + length body) =
      ap (λ (bs : List (List ℕ)). length (front bs)) one_more ∙ front_push (bodies_of so_far.history) body in
      let at = so_far.at in
      omega (arith, longer, at, front_within bodies (index + 1))

  pub more_so_far : (new : Listing) (next : ℕ) → next ≡ place + (5 + length body) → IsEntryTaken body items new → SoFar limit bodies (index + 1) new next
  more_so_far new next next_is took =
      let h = so_far.history in
      let follows = subst (λ (n : ℕ). MayFollow n h took.entry) so_far.limit_is (follows_of items took.entry h so_far.list took.takes.room took.takes.meets) in
      let bodies_are : bodies_of (h ++ took.entry ∷ []) ≡ bodies_of h ++ body ∷ [] = bodies_push h took.entry ∙ ap (λ (b : List ℕ). bodies_of h ++ b ∷ []) (sym took.spelled) in
      record {
        history = h ++ took.entry ∷ [];
        entries = entries_push h took.entry so_far.entries took.entry_is;
        is = bodies_are ∙ sym one_more;
        list = keeps_step h took.entry items new so_far.list took.takes;
        taken = taken_push limit h took.entry so_far.taken follows;
        at = next_is ∙ ap (λ (n : ℕ). n + (5 + length body)) so_far.at ∙ sym (front_push (bodies_of h) body) ∙ ap (λ (bs : List (List ℕ)). length (front bs)) (sym bodies_are);
        limit_is = ap (λ (v : Listing). v.limit) took.takes.value ∙ limit_applied took.entry items ∙ so_far.limit_is;
      }

  pub refused_here : ((history : History) → IsOf history items → IsRefused items.limit history body) → IsRefusedAt limit bodies place
  refused_here not = record {
    history = so_far.history;
    entries = so_far.entries;
    taken = so_far.taken;
    body = body;
    later = drop (index + 1) bodies;
    is = sym (take-append-drop (index + 1) bodies) ∙ ap (λ (bs : List (List ℕ)). bs ++ drop (index + 1) bodies) one_more ∙ append_assoc (bodies_of so_far.history) (body ∷ []) (drop (index + 1) bodies);
    refused = subst (λ (n : ℕ). IsRefused n so_far.history body) so_far.limit_is (not so_far.history so_far.list);
    at = so_far.at;
  }

pub all_so_far : (limit : ℕ) (bodies : List (List ℕ)) (index : ℕ) (items : Listing) (place : ℕ) → length bodies ≤ index → SoFar limit bodies index items place → IsListOf limit bodies items
all_so_far limit bodies index items place past so_far =
    record { history = so_far.history; entries = so_far.entries; is = so_far.is ∙ take_all index bodies past; list = so_far.list; taken = so_far.taken }
