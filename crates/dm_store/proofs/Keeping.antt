-- What recording an entry keeps, and how calls compose.
use Rattle.std.proofs.Common.{◌≡◌, ℕ, ◌+◌, ◌<◌, ◌≤◌, ◌^◌, Bool, true, false, List, [], ◌∷◌, ◌++◌, length, drop, Result, refl, sym, ◌∙◌, ap, subst, append_assoc, arith}
use Rattle.std.proofs.lemmas.List.{append-nil}
use Rattle.std.proofs.lemmas.Bool.{false≢true}
use Rattle.std.proofs.Math.Seq.{drop-append_seam, drop-length}
use Rattle.dm_types.specs.Limits.{IsLimits, most_items}
use Rattle.dm_types.specs.declared.entry.Entry.{Entry}
use Rattle.dm_types.specs.declared.item.Limits.{Limits}
use Rattle.dm_disk_model.specs.declared.place.Area.TheVariants.{Files}
use Rattle.dm_disk_model.specs.declared.place.DiskFault.{DiskFault}
use Rattle.dm_disk_model.specs.Disk.{DiskState, History as Clock, IsSoundDisk, Next, Stands, SyncNamesStep, now}
use Rattle.dm_disk_model.specs.File.{settled_file}
use Rattle.dm_disk_model.specs.Folder.{Folder}
use Rattle.dm_disk_model.specs.Moments.{KeepsFiles, LeavesOnly, Throughout}
use Rattle.dm_disk_model.proofs.FirmNames.{has_now}
use Rattle.dm_disk_model.proofs.Places.{stands_from}
use Rattle.dm_disk_model.proofs.Reaching.{at_end, at_start, joined, weaker}
use Rattle.dm_record.specs.Spelling.{spelling_of}
use Rattle.dm_record.specs.Limits.{IsEntry}
use Rattle.dm_types.specs.declared.item.Item.{Item}
use Rattle.dm_item.specs.Lawful.{History, IsOf, items_of}
use Rattle.dm_item.specs.Listing.{Admits, Listing, Takes, applied}
use Rattle.dm_item.proofs.Histories.{keeps_step, limit_applied}
use Rattle.dm_journal.specs.AtRest.{AtRest, MayLeaveJust, WithOrWithout, journal_name, journal_place}
use Rattle.dm_part.proofs.Turns.{over_one}
use Rattle.dm_kept.specs.Files.{Covers, EndsLive, Facts, IfGood, PartsStand, Says, says_all}
use Rattle.dm_kept.proofs.Entered.{entered_is}
use Rattle.dm_kept.specs.Kept.{Kept, LeavesJust, Sits, StaysKept}
use Rattle.dm_kept.specs.Recovery.{Through}
use Rattle.dm_kept.specs.Room.{MayFollow}
use Rattle.dm_kept.specs.Spelled.{AllEntries, bodies_of}
use Rattle.dm_kept.proofs.Frame.{names_stay}
use Rattle.dm_kept.proofs.Histories.{entries_push, follows_more}
use Rattle.dm_kept.proofs.Listings.{follows_of}
use Rattle.dm_kept.proofs.Resting as resting
use Rattle.dm_store.specs.declared.life.Life.{Life}
use Rattle.dm_store.specs.Keeps.{Allows, Founded, Goes, HoldsOf, IsDesk, Keeps, LosesFailed, RecordGoes, RestsBy, SoFar, StandBehind, added}
use Rattle.dm_store.specs.Lives.{AreAfter, AreBounded, AreLives, covers_of, lives_after}
use Rattle.dm_store.specs.View.{View, spelled}

-- of a disk that isn't good it doesn't matter what is said
rests_by_any : (broken : Bool) (says other : Says) (history failed : History) (gate : ℕ) (covers : Covers) (disk : DiskState) → RestsBy broken false says history failed gate covers disk → RestsBy broken false other history failed gate covers disk
rests_by_any false says other history failed gate covers disk rests = resting.sits_any says other history gate covers disk rests
rests_by_any true says other history failed gate covers disk kept = resting.kept_any says other (Through history failed) disk kept

pub holds_any : {D O : Type 0} (says other : Says) (clock : D → Clock) (desk : View D O) (history : History) → HoldsOf false says clock desk history → HoldsOf false other clock desk history
holds_any says other clock desk history holds =
    record { items = holds.items; rests = rests_by_any desk.broken says other history desk.failed desk.gate (covers_of desk.lives) (now (clock desk.disk)) holds.rests }

-- at any time each image recovers
rests_by_kept : (broken good : Bool) (says : Says) (history failed : History) (gate : ℕ) (covers : Covers) (disk : DiskState) → RestsBy broken good says history failed gate covers disk → Kept good says (Through history failed) disk
rests_by_kept false good says history failed gate covers disk sits = resting.sits_kept good says history failed gate covers disk sits
rests_by_kept true good says history failed gate covers disk kept = kept

-- of a desk that isn't broken the history sits
pub at_rest : {D O : Type 0} (good : Bool) (says : Says) (clock : D → Clock) (desk : View D O) (history : History) → desk.broken ≡ false → HoldsOf good says clock desk history → Sits good says history desk.gate (covers_of desk.lives) (now (clock desk.disk))
at_rest good says clock desk history whole holds =
    subst (λ (b : Bool). RestsBy b good says history desk.failed desk.gate (covers_of desk.lives) (now (clock desk.disk))) whole holds.rests

pub desk_stands : {D O : Type 0} (tells : Type 0) (clock : D → Clock) (desk : View D O) → IsDesk tells clock desk → desk.broken ≡ false → tells → Stands (now (clock desk.disk)) journal_place
desk_stands tells clock desk is whole told =
    let sits = at_rest false says_all clock desk (is.founded.before ++ desk.list) whole (is.founded.holds told) in
    let journal = sits.rests.journal in
    stands_from (now (clock desk.disk)) journal_place journal.bytes (has_now (now (clock desk.disk)).state journal_name (settled_file journal.bytes) journal.file)

-- nothing was done
pub keeps_same : {D O : Type 0} (tells : Type 0) (clock : D → Clock) (says : O → Says) (old new : View D O) → new ≡ old → Keeps tells clock says old new
keeps_same {D = D} {O = O} tells clock says old new same = subst (λ (v : View D O). Keeps tells clock says old v) (sym same) nothing
  where
    nothing : Keeps tells clock says old old
    nothing told good before holds = subst (λ (h : History). Goes good (says old.origin) clock old old before h) (sym (drop-length old.list)) (record {
      longer = sym (append-nil old.list);
      moments = at_start (clock old.disk) (Kept good (says old.origin) (Through before old.failed))
          (rests_by_kept old.broken good (says old.origin) before old.failed old.gate (covers_of old.lives) (now (clock old.disk)) holds.rests);
      holds = subst (HoldsOf good (says old.origin) clock old) (sym (append-nil before)) holds;
      loses = λ was broken. subst (λ (h : History). LeavesJust h (now (clock old.disk))) (sym (append-nil before)) (was broken);
    })

-- one entry was recorded, or failed
module _ {D O : Type 0} (tells : Type 0) (clock : D → Clock) (says : O → Says) (old new : View D O) (entry : Entry) (is : IsEntry entry) (may : Admits old.items entry) (few : old.items.limit ≤ most_items)
    (whole : old.broken ≡ false)
    (keeps : tells → KeepsFiles (clock old.disk) (clock new.disk))
    (only : tells → (bodies : List (List ℕ)) → AtRest (now (clock old.disk)) old.gate bodies → LeavesOnly (clock old.disk) (clock new.disk) (WithOrWithout bodies (spelling_of entry))) where
  follows : (history : History) → IsOf history old.items → MayFollow most_items history entry
  follows history is_of = follows_more old.items.limit most_items history entry few (follows_of old.items entry history is_of may.room may.meets)

  -- what the entry owes, of the items of the longer history
  owed : (good : Bool) (before : History) → IsOf before old.items → (P : List Item → Type 0) → IfGood good (P (applied entry old.items).items) → IfGood good (P (items_of (before ++ entry ∷ [])))
  owed good before is_of P = subst (λ (items : List Item). IfGood good (P items)) (entered_is before entry old.items is_of may)

  each_moment : tells → (good : Bool) (before : History) → HoldsOf good (says old.origin) clock old before → Allows good (says old.origin) clock old entry
      → Throughout (clock old.disk) (clock new.disk) (Kept good (says old.origin) (Through before (entry ∷ [])))
  each_moment told good before holds allows =
      let rests = (at_rest good (says old.origin) clock old before whole holds).rests in
      let covers = covers_of (lives_after entry (applied entry old.items) old.lives) in
      resting.moments good (says old.origin) before old.gate (covers_of old.lives) covers (clock old.disk) (clock new.disk) entry is (follows before holds.items) rests (keeps told)
      (owed good before holds.items (λ (items : List Item). Facts (says old.origin) covers items (now (clock old.disk)).files) allows.facts) (only told (bodies_of before) rests.journal)

  pub record_fell : new.broken ≡ true → new.items ≡ old.items → new.list ≡ old.list → new.failed ≡ entry ∷ [] → (tells → (bodies : List (List ℕ)) → AtRest (now (clock old.disk)) old.gate bodies → MayLeaveJust bodies (now (clock new.disk)).state)
      → RecordGoes tells clock says old new entry
  record_fell broken items list failed lost told good before holds allows =
      let moments = each_moment told good before holds allows in
      subst (λ (h : History). Goes good (says old.origin) clock old new before h) (sym (ap (λ (h : History). drop (length old.list) h) list ∙ drop-length old.list)) (record {
        longer = list ∙ sym (append-nil old.list);
        moments = subst (λ (h : History). Throughout (clock old.disk) (clock new.disk) (Kept good (says old.origin) (Through before h))) (sym failed) moments;
        holds = record {
          items = subst (λ (h : History). IsOf h new.items) (sym (append-nil before)) (subst (IsOf before) (sym items) holds.items);
          rests = subst (λ (b : Bool). RestsBy b good (says old.origin) (before ++ []) new.failed new.gate (covers_of new.lives) (now (clock new.disk))) (sym broken)
              (subst (λ (h : History). Kept good (says old.origin) (Through h new.failed) (now (clock new.disk))) (sym (append-nil before))
              (subst (λ (h : History). Kept good (says old.origin) (Through before h) (now (clock new.disk))) (sym failed)
              (at_end (clock old.disk) (clock new.disk) (Kept good (says old.origin) (Through before (entry ∷ []))) moments)));
        };
        loses = λ was broke. subst (λ (h : History). LeavesJust h (now (clock new.disk))) (sym (append-nil before))
            (let rests = (at_rest good (says old.origin) clock old before whole holds).rests in resting.bodies_leave before (now (clock new.disk)) rests.entries (lost told (bodies_of before) rests.journal));
      })

  pub record_goes : (tells → StandBehind clock old entry) → new.lives ≡ lives_after entry (applied entry old.items) old.lives → new.broken ≡ false → Takes entry old.items new.items → new.list ≡ old.list ++ entry ∷ [] → new.failed ≡ []
      → (tells → (bodies : List (List ℕ)) → AtRest (now (clock old.disk)) old.gate bodies → AtRest (now (clock new.disk)) new.gate (bodies ++ spelling_of entry ∷ [])) → RecordGoes tells clock says old new entry
  record_goes stand lives broken takes list failed rest told good before holds allows =
      let moments = each_moment told good before holds allows in
      let sits = at_rest good (says old.origin) clock old before whole holds in
      let same = at_end (clock old.disk) (clock new.disk) (λ disk. disk.files ≡ (now (clock old.disk)).files) (keeps told) in
      let longer : History = before ++ entry ∷ [] in
      let folder : Folder = (now (clock old.disk)).files in
      let covers : Covers = covers_of (lives_after entry (applied entry old.items) old.lives) in
      subst (λ (h : History). Goes good (says old.origin) clock old new before h) (sym (ap (λ (h : History). drop (length old.list) h) list ∙ drop-append_seam old.list (entry ∷ []))) (record {
        longer = list;
        moments = subst (λ (h : History). Throughout (clock old.disk) (clock new.disk) (Kept good (says old.origin) (Through before (entry ∷ h)))) (sym failed) moments;
        holds = record {
          items = keeps_step before entry old.items new.items holds.items takes;
          rests = subst (λ (b : Bool). RestsBy b good (says old.origin) longer new.failed new.gate (covers_of new.lives) (now (clock new.disk))) (sym broken)
              (subst (λ (c : List Life). Sits good (says old.origin) longer new.gate (covers_of c) (now (clock new.disk))) (sym lives)
              (resting.sits_of good (says old.origin) longer new.gate covers (now (clock old.disk)) (now (clock new.disk)) same
              (resting.rests_more good (says old.origin) before old.gate (covers_of old.lives) covers (clock old.disk) (clock new.disk) entry is (follows before holds.items) sits.rests (keeps told)
              (owed good before holds.items (λ (items : List Item). Facts (says old.origin) covers items folder) allows.facts) new.gate (rest told (bodies_of before) sits.rests.journal) same)
              sits.quiet (subst (λ (items : List Item). PartsStand items folder) (entered_is before entry old.items holds.items may) (stand told))
              (owed good before holds.items (λ (items : List Item). EndsLive covers items folder) allows.ends)));
        };
        loses = λ was broke. absurd (false≢true (sym broken ∙ broke));
      })

-- What a desk keeps behind a recording.

pub few_items : {D O : Type 0} (tells : Type 0) (clock : D → Clock) (desk : View D O) → IsDesk tells clock desk → desk.items.limit ≤ most_items
few_items tells clock desk is = subst (λ (n : ℕ). n ≤ most_items) (sym is.limit) is.limits_are.items.1

-- of a disk that isn't good an entry owes nothing more
owes_nothing : {D O : Type 0} (says : Says) (clock : D → Clock) (desk : View D O) (entry : Entry) → Allows false says clock desk entry
owes_nothing says clock desk entry = record { facts = tt; ends = tt }

pub founded_next : {D O : Type 0} (tells : Type 0) (clock : D → Clock) (says : O → Says) (old new : View D O) (entry : Entry) (recorded : History) → Founded tells clock old → new.list ≡ old.list ++ recorded
    → ((h : History) → AllEntries h → AllEntries (h ++ recorded)) → ((h : History) → IsOf h old.items → IsOf (h ++ recorded) new.items) → RecordGoes tells clock says old new entry → Founded tells clock new
founded_next {D = D} {O = O} tells clock says old new entry recorded is list entries items goes =
    let before : History = is.before in
    let longer : (before ++ old.list) ++ recorded ≡ before ++ new.list = append_assoc before old.list recorded ∙ ap (λ (h : History). before ++ h) (sym list) in
    record {
      before = before;
      entries = subst AllEntries longer (entries (before ++ old.list) is.entries);
      items = subst (λ (h : History). IsOf h new.items) longer (items (before ++ old.list) is.items);
      holds = λ told.
          let held = holds_any says_all (says old.origin) clock old (before ++ old.list) (is.holds told) in
          holds_any (says old.origin) says_all clock new (before ++ new.list)
          (subst (HoldsOf false (says old.origin) clock new)
          (ap (λ (h : History). (before ++ old.list) ++ h) (ap (λ (h : History). drop (length old.list) h) list ∙ drop-append_seam old.list recorded) ∙ longer)
          (goes told false (before ++ old.list) held (owes_nothing (says old.origin) clock old entry)).holds);
    }

pub positive : {limits : Limits} → IsLimits limits → 0 < limits.checkpoint + limits.piece
positive {limits = limits} are = let few = are.checkpoint in let least = are.piece in omega (arith, few, least)

module _ {D O : Type 0} (tells : Type 0) (clock : D → Clock) (says : O → Says) (old new : View D O) (entry : Entry) (is : IsDesk tells clock old) (limits : new.limits ≡ old.limits) (goes : RecordGoes tells clock says old new entry) where
  bound_same : (lives : List Life) → AreBounded (old.limits.checkpoint + old.limits.piece) lives → AreBounded (new.limits.checkpoint + new.limits.piece) lives
  bound_same lives = subst (λ (l : Limits). AreBounded (l.checkpoint + l.piece) lives) (sym limits)

  -- the desk behind an entry that was recorded
  pub recorded_desk : IsEntry entry → AreBounded (old.limits.checkpoint + old.limits.piece) (lives_after entry (applied entry old.items) old.lives) → Takes entry old.items new.items → AreAfter entry old.items old.lives → new.lives ≡ lives_after entry (applied entry old.items) old.lives → new.list ≡ old.list ++ entry ∷ [] → new.failed ≡ []
      → IsDesk tells clock new
  recorded_desk entry_is bounded takes after lives list failed = record {
    limits_are = subst IsLimits (sym limits) is.limits_are;
    limit = ap (λ (v : Listing). v.limit) takes.value ∙ limit_applied entry old.items ∙ is.limit ∙ sym (ap (λ (l : Limits). l.items) limits);
    founded = founded_next tells clock says old new entry (entry ∷ []) is.founded list (λ h all. entries_push h entry all entry_is) (λ h is_of. keeps_step h entry old.items new.items is_of takes) goes;
    failed = λ unbroken. failed;
    lives = λ unbroken. subst (λ (v : Listing). AreLives v.items new.lives) (sym takes.value) (subst (AreLives (applied entry old.items).items) (sym lives) after);
    bounded = bound_same new.lives (subst (AreBounded (old.limits.checkpoint + old.limits.piece)) (sym lives) bounded);
  }

  -- and behind one that failed
  pub fallen_desk : new.items ≡ old.items → new.lives ≡ old.lives → new.list ≡ old.list → new.broken ≡ true → IsDesk tells clock new
  fallen_desk items lives list broken = record {
    limits_are = subst IsLimits (sym limits) is.limits_are;
    limit = ap (λ (v : Listing). v.limit) items ∙ is.limit ∙ sym (ap (λ (l : Limits). l.items) limits);
    founded = founded_next tells clock says old new entry [] is.founded (list ∙ sym (append-nil old.list)) (λ h all. subst AllEntries (sym (append-nil h)) all)
        (λ h is_of. subst (λ (x : History). IsOf x new.items) (sym (append-nil h)) (subst (IsOf h) (sym items) is_of)) goes;
    failed = λ unbroken. absurd (false≢true (sym unbroken ∙ broken));
    lives = λ unbroken. absurd (false≢true (sym unbroken ∙ broken));
    bounded = bound_same new.lives (subst (AreBounded (old.limits.checkpoint + old.limits.piece)) (sym lives) is.bounded);
  }

-- The count of far writes stays, where one entry was recorded or failed.
pub near_one : (gate : ℕ) (list longer failed : History) (entry : Entry) (body : List ℕ) (far far' : ℕ) → drop (length list) longer ++ failed ≡ entry ∷ [] → body ≡ spelling_of entry → (gate + (6 + length body) ≤ 2 ^ 62 → far' ≡ far)
    → gate + (spelled (drop (length list) longer ++ failed) + 1) ≤ 2 ^ 62 → far' ≡ far
near_one gate list longer failed entry body far far' tried is near short =
    let size : spelled (drop (length list) longer ++ failed) ≡ (5 + length (spelling_of entry)) + 0 = ap spelled tried in
    let long : length body ≡ length (spelling_of entry) = ap length is in
    near (omega (arith, short, size, long))

-- Two calls from one history, of which the first left no failed entry.
pub goes_then : {D O : Type 0} (good : Bool) (said : Says) (clock : D → Clock) (old mid new : View D O) (before : History) → Goes good said clock old mid before (added old mid) → mid.failed ≡ []
    → Goes good said clock mid new (before ++ added old mid) (added mid new) → Goes good said clock old new before (added old new)
goes_then {D = D} {O = O} good said clock old mid new before went failed goes =
    let first : History = added old mid in
    let second : History = added mid new in
    let longer : new.list ≡ old.list ++ (first ++ second) = goes.longer ∙ ap (λ (h : History). h ++ second) went.longer ∙ append_assoc old.list first second in
    let both_is : added old new ≡ first ++ second = ap (λ (h : History). drop (length old.list) h) longer ∙ drop-append_seam old.list (first ++ second) in
    subst (λ (h : History). Goes good said clock old new before h) (sym both_is) (record {
      longer = longer;
      moments = joined (clock old.disk) (clock mid.disk) (clock new.disk) (Kept good said (Through before ((first ++ second) ++ new.failed)))
          (weaker (clock old.disk) (clock mid.disk) (Kept good said (Through before (first ++ mid.failed))) (Kept good said (Through before ((first ++ second) ++ new.failed)))
          (λ disk. resting.kept_weaker good said (Through before (first ++ mid.failed)) (Through before ((first ++ second) ++ new.failed)) disk
          (λ found is. subst (λ (h : History). Through before h found) (sym (append_assoc first second new.failed))
          (resting.through_front before first (second ++ new.failed) found
          (subst (λ (h : History). Through before h found) (ap (λ (h : History). first ++ h) failed ∙ append-nil first) is)))) went.moments)
          (weaker (clock mid.disk) (clock new.disk) (Kept good said (Through (before ++ first) (second ++ new.failed))) (Kept good said (Through before ((first ++ second) ++ new.failed)))
          (λ disk. resting.kept_weaker good said (Through (before ++ first) (second ++ new.failed)) (Through before ((first ++ second) ++ new.failed)) disk
          (λ found is. subst (λ (h : History). Through before h found) (sym (append_assoc first second new.failed)) (resting.through_back before first (second ++ new.failed) found is))) goes.moments);
      holds = subst (HoldsOf good said clock new) (append_assoc before first second) goes.holds;
      loses = λ was broken. subst (λ (h : History). LeavesJust h (now (clock new.disk))) (append_assoc before first second) (goes.loses (went.loses was) broken);
    })

-- So two calls compose.
pub keeps_then : {D O : Type 0} (tells : Type 0) (clock : D → Clock) (says : O → Says) (old mid new : View D O) → Keeps tells clock says old mid → mid.origin ≡ old.origin → mid.failed ≡ []
    → Keeps tells clock says mid new → Keeps tells clock says old new
keeps_then {D = D} {O = O} tells clock says old mid new one origin failed two told good before holds =
    let went : Goes good (says old.origin) clock old mid before (added old mid) = one told good before holds in
    let held : HoldsOf good (says mid.origin) clock mid (before ++ added old mid) = subst (λ (o : O). HoldsOf good (says o) clock mid (before ++ added old mid)) (sym origin) went.holds in
    goes_then good (says old.origin) clock old mid new before went failed
    (subst (λ (o : O). Goes good (says o) clock mid new (before ++ added old mid) (added mid new)) origin (two told good (before ++ added old mid) held))

-- a desk that isn't broken lost nothing
pub whole_loses : {D O : Type 0} (tells : Type 0) (clock : D → Clock) (old new : View D O) → new.broken ≡ false → tells → (good : Bool) (said : Says) (before : History) → HoldsOf good said clock old before → LosesFailed clock new before
whole_loses tells clock old new whole told good said before holds broken = absurd (false≢true (sym whole ∙ broken))

-- A step on the files of a desk, of which it is known what it leaves of each history that the desk holds.
module _ {D O : Type 0} (tells : Type 0) (clock : D → Clock) (says : O → Says) (old new : View D O) (list : new.list ≡ old.list) (failed : new.failed ≡ [])
    (goes : tells → (good : Bool) (said : Says) (before : History) → HoldsOf good said clock old before → Throughout (clock old.disk) (clock new.disk) (Kept good said (Through before [])) × HoldsOf good said clock new before) where
  pub step_keeps : (tells → (good : Bool) (said : Says) (before : History) → HoldsOf good said clock old before → LosesFailed clock new before) → Keeps tells clock says old new
  step_keeps loses told good before holds =
      let both = goes told good (says old.origin) before holds in
      subst (λ (h : History). Goes good (says old.origin) clock old new before h) (sym (ap (λ (h : History). drop (length old.list) h) list ∙ drop-length old.list)) (record {
        longer = list ∙ sym (append-nil old.list);
        moments = subst (λ (h : History). Throughout (clock old.disk) (clock new.disk) (Kept good (says old.origin) (Through before h))) (sym failed) both.0;
        holds = subst (HoldsOf good (says old.origin) clock new) (sym (append-nil before)) both.1;
        loses = λ was broken. subst (λ (h : History). LeavesJust h (now (clock new.disk))) (sym (append-nil before)) (loses told good (says old.origin) before holds broken);
      })

  pub step_desk : IsDesk tells clock old → new.items ≡ old.items → new.lives ≡ old.lives → new.limits ≡ old.limits → (new.broken ≡ false → AreLives new.items.items new.lives) → IsDesk tells clock new
  step_desk is items lives limits are = record {
    limits_are = subst IsLimits (sym limits) is.limits_are;
    limit = ap (λ (v : Listing). v.limit) items ∙ is.limit ∙ sym (ap (λ (l : Limits). l.items) limits);
    founded = record {
      before = is.founded.before;
      entries = subst (λ (h : History). AllEntries (is.founded.before ++ h)) (sym list) is.founded.entries;
      items = subst (λ (h : History). IsOf (is.founded.before ++ h) new.items) (sym list) (subst (IsOf (is.founded.before ++ old.list)) (sym items) is.founded.items);
      holds = λ told. subst (λ (h : History). HoldsOf false says_all clock new (is.founded.before ++ h)) (sym list) (goes told false says_all (is.founded.before ++ old.list) (is.founded.holds told)).1;
    };
    failed = λ unbroken. failed;
    lives = are;
    bounded = subst (λ (l : Limits). AreBounded (l.checkpoint + l.piece) new.lives) (sym limits) (subst (AreBounded (old.limits.checkpoint + old.limits.piece)) (sym lives) is.bounded);
  }

-- A step on the files alone, at whatever state of the journal.

rests_by_stay : (broken good : Bool) (says : Says) (history failed : History) (gate : ℕ) (covers : Covers) (old new : DiskState) → IsSoundDisk old → StaysKept says old new → RestsBy broken good says history failed gate covers old
    → RestsBy broken good says history failed gate covers new
rests_by_stay false good says history failed gate covers old new sound stays sits = resting.sits_stay good says history gate covers old new stays sits
rests_by_stay true good says history failed gate covers old new sound stays kept = resting.kept_stays good says (Through history failed) old new sound stays kept

module _ {D O : Type 0} (tells : Type 0) (clock : D → Clock) (says : O → Says) (old : View D O) (disk : D) (sound : tells → IsSoundDisk (now (clock old.disk)))
    (stays : tells → (said : Says) → Throughout (clock old.disk) (clock disk) (StaysKept said (now (clock old.disk)))) where
  holds_stays : tells → (good : Bool) (said : Says) (before : History) → HoldsOf good said clock old before → HoldsOf good said clock (record old { disk = disk }) before
  holds_stays told good said before holds = record {
    items = holds.items;
    rests = rests_by_stay old.broken good said before old.failed old.gate (covers_of old.lives) (now (clock old.disk)) (now (clock disk)) (sound told)
        (at_end (clock old.disk) (clock disk) (StaysKept said (now (clock old.disk))) (stays told said)) holds.rests;
  }

  pub files_keep : Keeps tells clock says old (record old { disk = disk })
  files_keep told good before holds = subst (λ (h : History). Goes good (says old.origin) clock old (record old { disk = disk }) before h) (sym (drop-length old.list)) (record {
    longer = sym (append-nil old.list);
    moments = weaker (clock old.disk) (clock disk) (StaysKept (says old.origin) (now (clock old.disk))) (Kept good (says old.origin) (Through before old.failed))
        (λ other is. resting.kept_stays good (says old.origin) (Through before old.failed) (now (clock old.disk)) other (sound told) is
        (rests_by_kept old.broken good (says old.origin) before old.failed old.gate (covers_of old.lives) (now (clock old.disk)) holds.rests))
        (stays told (says old.origin));
    holds = subst (HoldsOf good (says old.origin) clock (record old { disk = disk })) (sym (append-nil before)) (holds_stays told good (says old.origin) before holds);
    loses = λ was broken. subst (λ (h : History). LeavesJust h (now (clock disk))) (sym (append-nil before))
        (resting.leaves_stays before (now (clock old.disk)) (now (clock disk)) (at_end (clock old.disk) (clock disk) (StaysKept (says old.origin) (now (clock old.disk))) (stays told (says old.origin))).state (was broken));
  })

  pub files_desk : IsDesk tells clock old → IsDesk tells clock (record old { disk = disk })
  files_desk is = record {
    limits_are = is.limits_are;
    limit = is.limit;
    failed = is.failed;
    lives = is.lives;
    bounded = is.bounded;
    founded = record {
      before = is.founded.before;
      entries = is.founded.entries;
      items = is.founded.items;
      holds = λ told. holds_stays told false says_all (is.founded.before ++ old.list) (is.founded.holds told);
    };
  }

stays_self : (said : Says) (disk : DiskState) → StaysKept said disk disk
stays_self said disk = record { state = refl; names = refl; reads = λ name. refl; quiet = λ quiet. quiet; facts = λ covers items facts. facts }

-- a sync of the files' names is such a step
pub names_over : (old new : Clock) (result : Result (Unit {0}) DiskFault) (said : Says) → Next old new (SyncNamesStep Files result) → Throughout old new (StaysKept said (now old))
names_over old new result said next =
    over_one old new (StaysKept said (now old)) (SyncNamesStep Files result) next (stays_self said (now old)) (λ disk taken. names_stay said result (now old) disk taken)

-- So far in a loop.
pub so_far_start : {D O : Type 0} (tells : Type 0) (clock : D → Clock) (says : O → Says) (start : View D O) → IsDesk tells clock start → start.broken ≡ false → SoFar tells clock says start start
so_far_start tells clock says start is whole = record { keeps = keeps_same tells clock says start start refl; origin = refl; failed = is.failed whole }
