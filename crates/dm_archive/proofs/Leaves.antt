-- What the answers of the list are to the calls of this crate.
use Rattle.std.proofs.Common.{◌≡◌, inl, inr, ℕ, ◌≤◌, ◌^◌, Bool, true, false, List, [], ◌∷◌, ◌++◌, not, cond, ◌||◌, Option, Some, None, refl, sym, ◌∙◌, ap, subst}
use Rattle.std.specs.Prelude.{Result, Ok, Err, IfSome, IsSomeAnd}
use Rattle.std.proofs.lemmas.Bool.{false≢true}
use Rattle.dm_types.specs.Faults.{HasCause, NoneFell, Rose}
use Rattle.dm_types.specs.declared.entry.Entry.{Entry}
use Rattle.dm_types.specs.declared.entry.Entry.TheVariants as entries
use Rattle.dm_types.specs.declared.item.Item.{Item}
use Rattle.dm_types.specs.declared.item.ItemId.{ItemId}
use Rattle.dm_types.specs.declared.kinds.DiskKind.{DiskKind}
use Rattle.dm_disk_model.specs.Disk.{History as Clock}
use Rattle.dm_item.specs.Kept.{IsNumbered}
use Rattle.dm_item.specs.Lawful.{History}
use Rattle.dm_item.specs.Listing.{Row, item_in}
use Rattle.dm_item.proofs.Shorts.{numbered_of, sound_in}
use Rattle.dm_store.specs.Becomes.{Becomes, Fell, Recorded}
use Rattle.dm_store.specs.Keeps.{IsDesk}
use Rattle.dm_store.specs.View.{View}
use Rattle.dm_answers.specs.Change.{ChangeAnswers, IsWrong, in_no_phase, stands_in}
use Rattle.dm_answers.specs.Faults.{desk_kind}
use Rattle.dm_answers.specs.declared.fault.DeskFault.{DeskFault}
use Rattle.dm_answers.specs.declared.fault.DeskFault.TheVariants as desks
use Rattle.dm_hist.specs.declared.row.Row.{Row as TheRow}
use Rattle.dm_hist.specs.Rows.{is_of, is_there, with_row, without_row}
use Rattle.dm_hist.specs.Shown.{row_of_item}
use Rattle.dm_archive.specs.declared.fault.ArchiveFault.{ArchiveFault}
use Rattle.dm_archive.specs.declared.fault.ArchiveFault.TheVariants as faults
use Rattle.dm_archive.specs.Faults.{desk_fault, disk_kind}
use Rattle.dm_archive.specs.Leaving.{GoesAt, IsOutside, LeaveAnswers, MoveAnswers, moved}
use Rattle.dm_archive.specs.Removing.{BehindAnswers, DropAnswers, RemovesOf}
use Rattle.dm_archive.proofs.Nexts.{FoundRow, found_goes, found_low, found_there, over_phases}

-- one entry was tried, and it failed
fell_alone : {D O : Type 0} (old new : View D O) (entry : Entry) → Fell old new (entry ∷ []) → Becomes old new [] (entry ∷ []) true
fell_alone old new entry fell = by fell.recorded fell.rest fell.tries_are fell.becomes
  where
    by : (recorded rest : History) → entry ∷ [] ≡ recorded ++ fell.entry ∷ rest → Becomes old new recorded (fell.entry ∷ []) true → Becomes old new [] (entry ∷ []) true
    by [] rest are becomes = let same : fell.entry ≡ entry = cc in subst (λ (e : Entry). Becomes old new [] (e ∷ []) true) same becomes
    by (first ∷ more) rest are becomes = absurd (longer more rest (tail are))
      where
        tail : entry ∷ [] ≡ first ∷ (more ++ fell.entry ∷ rest) → [] ≡ more ++ fell.entry ∷ rest
        tail is = cc

        longer : (some behind : History) → [] ≡ some ++ fell.entry ∷ behind → ⊥
        longer [] behind is = cc
        longer (one ∷ some) behind is = cc

-- nothing is ever done of an item that is to leave
never_left : (id : ItemId) (found : Option Item) → stands_in in_no_phase found ≡ true → ⊥
never_left id None is = false≢true is
never_left id (Some item) is = false≢true is

some_none : {A : Type 0} (a : A) → Some a ≡ None → ⊥
some_none a same = cc

some_is : {A : Type 0} (a b : A) → Some a ≡ Some b → a ≡ b
some_is a b same = cc

module _ {D O : Type 0} (id : ItemId) (old new : View D O) where
  -- an item that goes leaves the list
  module _ (at : GoesAt id old.items.items) where
    pub leave_ok : ChangeAnswers in_no_phase (entries.Archived id) id old new (Ok tt) → LeaveAnswers id old new (Ok tt)
    leave_ok (inl refused) = absurd (never_left id (item_in id.0 old.items.items) refused.cause)
    leave_ok (inr due) = due.1

    pub leave_err : (fault : DeskFault) → ChangeAnswers in_no_phase (entries.Archived id) id old new (Err fault) → LeaveAnswers id old new (Err (desk_fault fault))
    leave_err desks.Broken is = is
    leave_err (desks.NoItem other) is = absurd (some_none at.item (sym at.there ∙ is.cause.none))
    leave_err (desks.WrongState phase) is = absurd (mistaken (item_in id.0 old.items.items) refl is.cause)
      where
        mistaken : (found : Option Item) → item_in id.0 old.items.items ≡ found → IsSomeAnd found (IsWrong in_no_phase (entries.Archived id) old.items phase) → ⊥
        mistaken None there cause = absurd (some_none at.item (sym at.there ∙ there))
        mistaken (Some item) there cause =
            let same : at.item ≡ item = some_is at.item item (sym at.there ∙ there) in
            cause.row (subst (λ (i : Item). Row (entries.Archived id) old.items.items (Some i)) same (over_phases at.item.phase at.goes, tt))
    leave_err desks.NoMemory is = is.same
    leave_err (desks.Journal kind) is = fell_alone old new (entries.Archived id) is.1
    leave_err (desks.Stale attempt round) is = absurd is
    leave_err (desks.NotNext place) is = absurd is
    leave_err (desks.PastEnd end) is = absurd is
    leave_err (desks.CheckpointDue bytes) is = absurd is
    leave_err (desks.ItemsFull count) is = absurd is
    leave_err (desks.WordTaken other) is = absurd is
    leave_err (desks.File kind) is = absurd is
    leave_err (desks.Damaged place) is = absurd is

  -- An item is removed, or a row.
  module _ (tells : Type 0) (rows rows' : List TheRow) where
    gone_ok : (found : Option Item) → item_in id.0 old.items.items ≡ found → ChangeAnswers in_no_phase (entries.Removed id) id old new (Ok tt) → (tells → rows' ≡ rows) → RemovesOf found tells id old new rows rows' (Ok tt)
    gone_ok (Some item) there is same = (is, same)
    gone_ok None there (inl refused) same = absurd (never_left id (item_in id.0 old.items.items) refused.cause)
    gone_ok None there (inr due) same = absurd (subst (λ (found : Option Item). Row (entries.Removed id) old.items.items found) there due.0.admits.meets)

    pub remove_ok : ChangeAnswers in_no_phase (entries.Removed id) id old new (Ok tt) → (tells → rows' ≡ rows) → RemovesOf (item_in id.0 old.items.items) tells id old new rows rows' (Ok tt)
    remove_ok is same = gone_ok (item_in id.0 old.items.items) refl is same

    dropped : (result : Result (Unit {0}) ArchiveFault) → old.broken ≡ false → new ≡ old → DropAnswers tells id rows rows' result → RemovesOf None tells id old new rows rows' result
    dropped (Ok done) whole same drops = ((whole, same), drops)
    dropped (Err faults.Keeper) whole same drops = ((whole, same), drops)
    dropped (Err faults.NoMemory) whole same drops = ((whole, same), drops)
    dropped (Err (faults.Desk (desks.NoItem other))) whole same drops = ((whole, same), drops.0, drops.1)
    dropped (Err (faults.Desk fault)) whole same drops = absurd drops

    gone : (result : Result (Unit {0}) ArchiveFault) (fault : DeskFault) → result ≡ Err (desk_fault fault) → (found : Option Item) → RemovesOf found tells id old new rows rows' (Err (desk_fault fault)) → RemovesOf found tells id old new rows rows' result
    gone result fault is found removes = subst (λ (r : Result (Unit {0}) ArchiveFault). RemovesOf found tells id old new rows rows' r) (sym is) removes

    no_row : Row (entries.Removed id) old.items.items (item_in id.0 old.items.items) → item_in id.0 old.items.items ≡ None → ⊥
    no_row row there = subst (λ (found : Option Item). Row (entries.Removed id) old.items.items found) there row

    removes_by : (result : Result (Unit {0}) ArchiveFault) (fault : DeskFault) → ChangeAnswers in_no_phase (entries.Removed id) id old new (Err fault) → BehindAnswers tells id fault rows rows' result
        → (found : Option Item) → item_in id.0 old.items.items ≡ found → RemovesOf found tells id old new rows rows' result
    removes_by result (desks.NoItem other) is behind (Some item) there = absurd (some_none item (sym there ∙ is.cause.none))
    removes_by result (desks.NoItem other) is behind None there = dropped result is.whole is.same behind
    removes_by result desks.Broken is behind (Some item) there = gone result desks.Broken behind.0 (Some item) (is, behind.1)
    removes_by result desks.Broken is behind None there = gone result desks.Broken behind.0 None (is, behind.1)
    removes_by result (desks.WrongState phase) is behind (Some item) there = gone result (desks.WrongState phase) behind.0 (Some item) (is, behind.1)
    removes_by result (desks.WrongState phase) is behind None there =
        absurd (subst (λ (found : Option Item). IsSomeAnd found (IsWrong in_no_phase (entries.Removed id) old.items phase)) there is.cause)
    removes_by result desks.NoMemory is behind (Some item) there = gone result desks.NoMemory behind.0 (Some item) (is, behind.1)
    removes_by result desks.NoMemory is behind None there = absurd (no_row is.cause.admits.meets there)
    removes_by result (desks.Journal kind) is behind (Some item) there = gone result (desks.Journal kind) behind.0 (Some item) (is, behind.1)
    removes_by result (desks.Journal kind) is behind None there = absurd (no_row is.0.admits.meets there)
    removes_by result (desks.Stale attempt round) is behind found there = absurd is
    removes_by result (desks.NotNext place) is behind found there = absurd is
    removes_by result (desks.PastEnd end) is behind found there = absurd is
    removes_by result (desks.CheckpointDue bytes) is behind found there = absurd is
    removes_by result (desks.ItemsFull count) is behind found there = absurd is
    removes_by result (desks.WordTaken other) is behind found there = absurd is
    removes_by result (desks.File kind) is behind found there = absurd is
    removes_by result (desks.Damaged place) is behind found there = absurd is

    pub remove_err : (result : Result (Unit {0}) ArchiveFault) (fault : DeskFault) → ChangeAnswers in_no_phase (entries.Removed id) id old new (Err fault) → BehindAnswers tells id fault rows rows' result
        → RemovesOf (item_in id.0 old.items.items) tells id old new rows rows' result
    remove_err result fault is behind = removes_by result fault is behind (item_in id.0 old.items.items) refl

-- what isn't there isn't dropped
not_there : (id : ℕ) (row : TheRow) (rows : List TheRow) (test : Bool) → is_of id row ≡ test → (test || is_there id rows) ≡ false → (is_there id rows ≡ false → without_row id rows ≡ rows)
    → cond (not test) (row ∷ without_row id rows) (without_row id rows) ≡ row ∷ rows
not_there id row rows true is none later = absurd (false≢true (sym none))
not_there id row rows false is none later = ap (λ (r : List TheRow). row ∷ r) (later none)

pub none_dropped : (id : ℕ) (rows : List TheRow) → is_there id rows ≡ false → without_row id rows ≡ rows
none_dropped id [] none = refl
none_dropped id (row ∷ rows) none = not_there id row rows (is_of id row) refl none (none_dropped id rows)

-- Faults of the disk.

kinds_same : (fault : DeskFault) → disk_kind (desk_fault fault) ≡ desk_kind fault
kinds_same desks.Broken = refl
kinds_same (desks.NoItem other) = refl
kinds_same (desks.WrongState phase) = refl
kinds_same desks.NoMemory = refl
kinds_same (desks.Journal kind) = refl
kinds_same (desks.Stale attempt round) = refl
kinds_same (desks.NotNext place) = refl
kinds_same (desks.PastEnd end) = refl
kinds_same (desks.CheckpointDue bytes) = refl
kinds_same (desks.ItemsFull count) = refl
kinds_same (desks.WordTaken other) = refl
kinds_same (desks.File kind) = refl
kinds_same (desks.Damaged place) = refl

module _ (before after : DiskKind → ℕ) where
  pub cause_ok : HasCause {T = Unit {0}} desk_kind before after (Ok tt) → HasCause {T = Unit {0}} disk_kind before after (Ok tt)
  cause_ok is = record { later = is.later; cause = tt }

  pub cause_err : (fault : DeskFault) → HasCause {T = Unit {0}} desk_kind before after (Err fault) → HasCause {T = Unit {0}} disk_kind before after (Err (desk_fault fault))
  cause_err fault is = record {
    later = is.later;
    cause = subst (λ (kind : Option DiskKind). IfSome kind (λ k. Rose (before k) (after k))) (sym (kinds_same fault)) is.cause;
  }

  drop_cause : (tells : Type 0) (id : ItemId) (rows rows' : List TheRow) (result : Result (Unit {0}) ArchiveFault) → DropAnswers tells id rows rows' result → NoneFell before after → HasCause {T = Unit {0}} disk_kind before after result
  drop_cause tells id rows rows' (Ok done) is later = record { later = later; cause = tt }
  drop_cause tells id rows rows' (Err faults.Keeper) is later = record { later = later; cause = tt }
  drop_cause tells id rows rows' (Err faults.NoMemory) is later = record { later = later; cause = tt }
  drop_cause tells id rows rows' (Err (faults.Desk (desks.NoItem other))) is later = record { later = later; cause = tt }
  drop_cause tells id rows rows' (Err (faults.Desk fault)) is later = absurd is

  said_cause : (fault : DeskFault) (result : Result (Unit {0}) ArchiveFault) → result ≡ Err (desk_fault fault) → HasCause {T = Unit {0}} desk_kind before after (Err fault) → HasCause {T = Unit {0}} disk_kind before after result
  said_cause fault result is cause = subst (λ (r : Result (Unit {0}) ArchiveFault). HasCause {T = Unit {0}} disk_kind before after r) (sym is) (cause_err fault cause)

  pub behind_cause : (tells : Type 0) (id : ItemId) (rows rows' : List TheRow) (fault : DeskFault) (result : Result (Unit {0}) ArchiveFault) → BehindAnswers tells id fault rows rows' result → HasCause {T = Unit {0}} desk_kind before after (Err fault)
      → HasCause {T = Unit {0}} disk_kind before after result
  behind_cause tells id rows rows' (desks.NoItem other) result is cause = drop_cause tells id rows rows' result is cause.later
  behind_cause tells id rows rows' desks.Broken result is cause = said_cause desks.Broken result is.0 cause
  behind_cause tells id rows rows' (desks.WrongState phase) result is cause = said_cause (desks.WrongState phase) result is.0 cause
  behind_cause tells id rows rows' desks.NoMemory result is cause = said_cause desks.NoMemory result is.0 cause
  behind_cause tells id rows rows' (desks.Journal kind) result is cause = said_cause (desks.Journal kind) result is.0 cause
  behind_cause tells id rows rows' (desks.Stale attempt round) result is cause = said_cause (desks.Stale attempt round) result is.0 cause
  behind_cause tells id rows rows' (desks.NotNext place) result is cause = said_cause (desks.NotNext place) result is.0 cause
  behind_cause tells id rows rows' (desks.PastEnd end) result is cause = said_cause (desks.PastEnd end) result is.0 cause
  behind_cause tells id rows rows' (desks.CheckpointDue bytes) result is cause = said_cause (desks.CheckpointDue bytes) result is.0 cause
  behind_cause tells id rows rows' (desks.ItemsFull count) result is cause = said_cause (desks.ItemsFull count) result is.0 cause
  behind_cause tells id rows rows' (desks.WordTaken other) result is cause = said_cause (desks.WordTaken other) result is.0 cause
  behind_cause tells id rows rows' (desks.File kind) result is cause = said_cause (desks.File kind) result is.0 cause
  behind_cause tells id rows rows' (desks.Damaged place) result is cause = said_cause (desks.Damaged place) result is.0 cause

-- The next item.

module _ {D O : Type 0} (tells : Type 0) (old new : View D O) (rows rows' : List TheRow) (row : TheRow) (found : FoundRow old.items.items row) where
  -- its row was put, and it left, or the list refused it
  pub move_put : (result : Result (Unit {0}) ArchiveFault) → LeaveAnswers row.id old new result → (tells → rows' ≡ with_row row rows) → MoveAnswers tells old new rows rows' (moved result)
  move_put (Ok done) leaves put = record {
    item = found.item;
    is = found.is;
    does = (subst (λ (r : TheRow). Recorded old new (entries.Archived r.id ∷ [])) found.row_is leaves, put_of put);
  }
    where
      put_of : (tells → rows' ≡ with_row row rows) → tells → rows' ≡ with_row (row_of_item found.item) rows
      put_of is knows = is knows ∙ ap (λ (r : TheRow). with_row r rows) found.row_is
  move_put (Err faults.NoMemory) leaves put = record { item = found.item; is = found.is; does = (leaves, λ knows. inr (put knows ∙ ap (λ (r : TheRow). with_row r rows) found.row_is)) }
  move_put (Err (faults.Desk (desks.Journal kind))) leaves put = record {
    item = found.item;
    is = found.is;
    does = (subst (λ (r : TheRow). Becomes old new [] (entries.Archived r.id ∷ []) true) found.row_is leaves, λ knows. put knows ∙ ap (λ (r : TheRow). with_row r rows) found.row_is);
  }
  move_put (Err (faults.Desk desks.Broken)) leaves put = record { item = found.item; is = found.is; does = (leaves, λ knows. put knows ∙ ap (λ (r : TheRow). with_row r rows) found.row_is) }
  move_put (Err faults.Keeper) leaves put = absurd leaves
  move_put (Err (faults.Desk fault)) leaves put = absurd leaves

  -- its row wasn't put
  pub move_unput : (fault : ArchiveFault) → IsOutside fault → new ≡ old → (tells → rows' ≡ rows) → MoveAnswers tells old new rows rows' (moved (Err fault))
  move_unput faults.Keeper outside same stay = record { item = found.item; is = found.is; does = (same, stay) }
  move_unput faults.NoMemory outside same stay = record { item = found.item; is = found.is; does = (same, λ knows. inl (stay knows)) }
  move_unput (faults.Desk fault) outside same stay = absurd outside

-- The row may be put.
module _ {D O : Type 0} {tells : Type 0} {clock : D → Clock} (desk : View D O) (is : IsDesk tells clock desk) (row : TheRow) (found : FoundRow desk.items.items row) where
  numbered : IsNumbered 1 desk.items.items desk.items.next
  numbered = numbered_of (is.founded.before ++ desk.list) desk.items is.founded.items

  pub row_numbered : 1 ≤ row.id.0
  row_numbered = subst (λ (r : TheRow). 1 ≤ r.id.0) (sym found.row_is) (found_low 1 desk.items.next desk.items.items found.item numbered found.is)

  pub row_total : IfSome row.total (λ total. total ≤ 2 ^ 40)
  row_total =
      subst (λ (r : TheRow). IfSome r.total (λ total. total ≤ 2 ^ 40)) (sym found.row_is)
      (sound_in (is.founded.before ++ desk.list) desk.items found.item.id.0 found.item is.founded.items (found_there 1 desk.items.next desk.items.items found.item numbered found.is)).covered.small

  pub row_goes : GoesAt row.id desk.items.items
  row_goes = subst (λ (r : TheRow). GoesAt r.id desk.items.items) (sym found.row_is) (record {
    item = found.item;
    there = found_there 1 desk.items.next desk.items.items found.item numbered found.is;
    goes = found_goes desk.items.items found.item found.is;
  })

pub dropped_none : (id : ℕ) (rows rows' : List TheRow) → is_there id rows ≡ false → rows' ≡ without_row id rows → (is_there id rows ≡ false) × (rows' ≡ rows)
dropped_none id rows rows' none dropped = (none, dropped ∙ none_dropped id rows none)
