-- What an opening leaves, from the start of the disk on.
use Rattle.std.proofs.Common.{◌≡◌, ◌⊎◌, inl, inr, ℕ, ◌+◌, ◌≤◌, Bool, true, false, List, [], ◌∷◌, ◌++◌, length, drop, Option, Result, Ok, Err, refl, sym, ◌∙◌, ap, subst, arith, length-append}
use Rattle.std.specs.Option.{option_map}
use Rattle.std.proofs.lemmas.List.{append-nil, append_assoc}
use Rattle.dm_types.specs.Limits.{most_items}
use Rattle.dm_disk_model.specs.Beside.{Besides}
use Rattle.dm_disk_model.specs.Disk.{DiskState, Image, History as Clock, IsSoundDisk, MayLeave, StandsNot, bytes_at, folder_in, now, reading}
use Rattle.dm_disk_model.specs.Folder.{Folder, names_of}
use Rattle.dm_disk_model.specs.Moments.{KeepsFiles, LeavesOnly, Throughout}
use Rattle.dm_disk_model.proofs.Beside.{besides_more, besides_same, besides_then}
use Rattle.dm_disk_model.proofs.Images.{as_read}
use Rattle.dm_disk_model.proofs.Reaching.{at_end, both, joined, weaker}
use Rattle.dm_record.specs.Spelling.{spelling_of}
use Rattle.dm_item.specs.Lawful.{History, items_of}
use Rattle.dm_item.specs.Listing.{item_in}
use Rattle.dm_item.specs.Row.{is_finishing}
use Rattle.dm_journal.specs.AtRest.{journal_name, journal_place}
use Rattle.dm_journal.specs.Starting.{NoneOrBlank, WasLeft}
use Rattle.dm_journal.specs.Text.{cell, cells, front, header}
use Rattle.dm_journal.proofs.Texts.{cells_push, length-cell}
use Rattle.dm_kept.specs.Files.{Facts, IfGood, Says, Sound, no_covers, says_all}
use Rattle.dm_kept.specs.Kept.{Kept, Recovers, Rests, WasKept}
use Rattle.dm_kept.specs.Recovery.{Found, Through, recovered}
use Rattle.dm_kept.specs.Room.{IsTaken}
use Rattle.dm_kept.specs.Spelled.{Records, bodies_of}
use Rattle.dm_kept.proofs.Entered.{items_are}
use Rattle.dm_kept.proofs.Flags.{if_is}
use Rattle.dm_kept.proofs.Histories.{bodies_push, records_one, taken_more}
use Rattle.dm_kept.proofs.Resting as resting
use Rattle.dm_store.specs.Keeps.{HoldsOf, StaysNear, added}
use Rattle.dm_store.specs.Lives.{covers_of, part_place}
use Rattle.dm_store.specs.View.{View, spelled}
use Rattle.dm_store.proofs.Composing.{spelled_then}
use Rattle.dm_answers.specs.Opening.{IsNear, IsOpened, IsRead, IsTried, LeavesSome, OpenKeeps, OpenLeaves, OpenRuns, OpensTo, StaysRead, reopening}
use Rattle.dm_answers.specs.Reads.{IsSettledName}
use Rattle.dm_answers.specs.Settling.{AreSettlings, finishing, name_place}
use Rattle.dm_find.specs.Finding.{FindLeaves, IsFound}
use Rattle.dm_find.specs.Reopening.{IsHere}
use Rattle.dm_find.specs.declared.hindered.Hindered.{Hindered}
use Rattle.dm_find.proofs.Founds.{was_left}
use Rattle.dm_settle.specs.Settled.{IsPartOrGiven}
use Rattle.dm_open.specs.Refused.{KeepsOneOf, KeepsTried, ReadAndTried, RunsOn}
use Rattle.dm_open.specs.Resuming.{EndsAs, Resumes}
use Rattle.dm_open.proofs.Resumed.{rests_broken, settlings_earlier, stands_same}

-- the journal of a longer history is longer by what is spelled of it
front_push : (bodies : List (List ℕ)) (body : List ℕ) → length (front (bodies ++ body ∷ [])) ≡ length (front bodies) + (5 + length body)
front_push bodies body =
    let longer = ap (length {A = ℕ}) (cells_push bodies body) in
    omega (arith, longer, length-append (cells bodies) (cell body), length-cell body, length-append header (cells bodies), length-append header (cells (bodies ++ body ∷ [])))

pub front_more : (history more : History) → length (front (bodies_of (history ++ more))) ≡ length (front (bodies_of history)) + spelled more
front_more history [] = let same = ap (λ (h : History). length (front (bodies_of h))) (append-nil history) in omega (arith, same)
front_more history (entry ∷ more) =
    let rest = front_more (history ++ entry ∷ []) more in
    let one = ap (λ (bs : List (List ℕ)). length (front bs)) (bodies_push history entry) ∙ front_push (bodies_of history) (spelling_of entry) in
    let same = ap (λ (h : History). length (front (bodies_of h))) (append_assoc history (entry ∷ []) more) in
    omega (arith, rest, one, same)

-- none of the later entries
pub through_none : (before more : History) → Through before more (recovered before)
through_none before [] = refl
through_none before (entry ∷ more) = inl refl

pub reads_none : (start : DiskState) → StandsNot start journal_place → Records (bytes_at start journal_place) []
reads_none start nothing = subst (λ (found : Option (List ℕ)). Records found []) (sym (ap (option_map (λ number. ((folder_in journal_place.area start).file number).bytes)) nothing)) refl

-- Nothing stood as the journal, and none or one of no entries is left.
blank_records : (image : Image) → NoneOrBlank image → Records (image.state journal_name) []
blank_records image (inl none) = subst (λ (found : Option (List ℕ)). Records found []) (sym none) refl
blank_records image (inr has) = subst (λ (found : Option (List ℕ)). Records found []) (sym has.found) (record { entries = tt; text = has.text })

opens_blank : (tells : Type 0) (start end : Clock) (at : ℕ) → StandsNot (now start) journal_place → OpensTo tells start end at (recovered [])
opens_blank tells start end at nothing = record {
  found = [];
  tried = reopening [] at;
  left = finishing (items_of ([] ++ reopening [] at));
  is = record { reads = λ told. reads_none (now start) nothing; settled = []; tried_is = refl; settles = refl };
  through = through_none [] (reopening [] at);
}

pub blank_recovers : (good : Bool) (says : Says) (P : Found → Type 0) → P (recovered []) → (folder : Folder) (image : Image) → NoneOrBlank image → Recovers good says P folder image
blank_recovers good says P holds folder image blank = record {
  history = [];
  recorded = blank_records image blank;
  taken = record { lawful = tt; room = tt };
  items = holds;
  facts = if_is good (Facts says no_covers [] folder) (λ id item there. absurd cc);
  sound = if_is good (Sound says [] image) (λ id item there. absurd cc);
}

-- what an opening over a kept disk recovers to
abbrev KeptOr : Type 0 → Clock → Clock → ℕ → History → History → Found → Type 0
KeptOr tells start end at earlier more recovered = Through earlier more recovered ⊎ OpensTo tells start end at recovered

-- or to what was kept before
abbrev pub RunsOr : History → History → History → History → Found → Type 0
RunsOr kept rest found tried recovered = Through kept rest recovered ⊎ Through found tried recovered

-- From each kept disk it stays kept, at each moment.
module _ (start end : Clock) (moments : LeavesOnly start end (FindLeaves (now start))) (files : KeepsFiles start end) (sound : IsSoundDisk (now start)) (good : Bool) (says : Says) (earlier more : History) (was : Kept good says (Through earlier more) (now start)) where
  pub left_recovers : (disk : DiskState) → disk.files ≡ (now start).files → (image : Image) → FindLeaves (now start) image → Recovers good says (Through earlier more) disk.files image
  left_recovers disk same image (inl left) = subst (λ (f : Folder). Recovers good says (Through earlier more) f image) (sym same) (was image left)
  left_recovers disk same image (inr nothing) =
      let read = was (reading (now start)) (as_read (now start) sound) in
      let none : read.history ≡ [] = records_one (bytes_at (now start) journal_place) read.history [] read.recorded (reads_none (now start) nothing.0) in
      blank_recovers good says (Through earlier more) (subst (λ (h : History). Through earlier more (recovered h)) none read.items) disk.files image nothing.1

  pub stays_kept : Throughout start end (Kept good says (Through earlier more))
  stays_kept =
      weaker start end (λ disk. ((image : Image) → MayLeave disk image → FindLeaves (now start) image) × (disk.files ≡ (now start).files)) (Kept good says (Through earlier more))
      (λ disk here image left. left_recovers disk here.1 image (here.0 image left)) (both start end (λ disk. (image : Image) → MayLeave disk image → FindLeaves (now start) image) (λ disk. disk.files ≡ (now start).files) moments files)

-- Over the finding of the journal.
module _ (tells : Type 0) (start mid end : Clock) (at : ℕ) (moments : LeavesOnly start mid (FindLeaves (now start))) (files : KeepsFiles start mid) where
  find_leaves : (image : Image) (folder : Folder) → FindLeaves (now start) image → WasLeft (now start) image ⊎ Recovers false says_all (OpensTo tells start end at) folder image
  find_leaves image folder (inl left) = inl (was_left (now start) image left)
  find_leaves image folder (inr nothing) = inr (blank_recovers false says_all (OpensTo tells start end at) (opens_blank tells start end at nothing.0) folder image nothing.1)

  pub found_opens : Throughout start mid (OpenLeaves tells start end at)
  found_opens =
      weaker start mid (λ disk. (image : Image) → MayLeave disk image → FindLeaves (now start) image) (OpenLeaves tells start end at) (λ disk each image left. find_leaves image disk.files (each image left)) moments

  left_keeps : (says : Says) (earlier more : History) → Kept true says (Through earlier more) (now start) → (disk : DiskState) → disk.files ≡ (now start).files → (image : Image) → FindLeaves (now start) image → Recovers true says (KeptOr tells start end at earlier more) disk.files image
  left_keeps says earlier more kept disk same image (inl left) =
      subst (λ (f : Folder). Recovers true says (KeptOr tells start end at earlier more) f image) (sym same)
      (resting.recovers_weaker true says (Through earlier more) (KeptOr tells start end at earlier more) (now start).files image (λ found is. inl is) (kept image left))
  left_keeps says earlier more kept disk same image (inr nothing) = blank_recovers true says (KeptOr tells start end at earlier more) (inr (opens_blank tells start end at nothing.0)) disk.files image nothing.1

  pub found_keeps : (says : Says) (earlier more : History) → Kept true says (Through earlier more) (now start) → Throughout start mid (Kept true says (λ recovered. Through earlier more recovered ⊎ OpensTo tells start end at recovered))
  found_keeps says earlier more kept =
      weaker start mid (λ disk. ((image : Image) → MayLeave disk image → FindLeaves (now start) image) × (disk.files ≡ (now start).files)) (Kept true says (KeptOr tells start end at earlier more))
      (λ disk here image left. left_keeps says earlier more kept disk here.1 image (here.0 image left)) (both start mid (λ disk. (image : Image) → MayLeave disk image → FindLeaves (now start) image) (λ disk. disk.files ≡ (now start).files) moments files)

-- From a store of what was found on.
module _ {D O : Type 0} (tells : Type 0) (clock : D → Clock) (says : O → Says) (start : D) (at limit : ℕ) (old new : View D O) (found : IsFound tells (clock start) (clock old.disk) limit old.gate old.items) (files : tells → KeepsFiles (clock start) (clock old.disk))
    (few : limit ≤ most_items) (sound : tells → IsSoundDisk (now (clock start))) (result : Result (Unit {0}) Hindered) (resumes : Resumes tells clock says at found.found old new result) where
  same_names : tells → names_of (now (clock old.disk)).files ≡ names_of (now (clock start)).files
  same_names told = ap names_of (at_end (clock start) (clock old.disk) (λ disk. disk.files ≡ (now (clock start)).files) (files told))

  rests : tells → (good : Bool) → WasKept good (says old.origin) (now (clock start)) → Rests good (says old.origin) found.found old.gate no_covers (now (clock old.disk))
  rests told good was = record {
    journal = found.rest told;
    entries = found.entries;
    taken = taken_more limit most_items found.found few found.taken;
    facts = subst (λ (f : Folder). IfGood good (Facts (says old.origin) no_covers (items_of found.found) f)) (sym (at_end (clock start) (clock old.disk) (λ disk. disk.files ≡ (now (clock start)).files) (files told)))
        (resting.found_facts good (says old.origin) found.found (now (clock start)) (sound told) was (found.reads told));
  }

  settles_start : AreSettlings tells (clock start) (clock new.disk) at (finishing (items_of (found.found ++ reopening found.found at))) resumes.settled resumes.left
  settles_start = settlings_earlier tells (clock start) (clock old.disk) (clock new.disk) (λ told. (files told).later) same_names at (finishing (items_of (found.found ++ reopening found.found at))) resumes.settled resumes.left resumes.tries.settles

  pub is_tried : (tried : History) → tried ≡ new.list ++ (new.failed ++ resumes.rest) → IsTried tells (clock start) (clock new.disk) at found.found tried resumes.left
  is_tried tried is = record {
    reads = found.reads;
    settled = resumes.settled;
    tried_is = is ∙ resumes.tries.tried_is;
    settles = settles_start;
  }

  abbrev all : History
  all = new.list ++ (new.failed ++ resumes.rest)

  pub holds_new : tells → (good : Bool) → WasKept good (says old.origin) (now (clock start)) → HoldsOf good (says old.origin) clock new (found.found ++ new.list)
  holds_new told good was = (resumes.tries.goes told good (rests told good was)).1

  kept_behind : tells → (good : Bool) → WasKept good (says old.origin) (now (clock start)) → Throughout (clock old.disk) (clock new.disk) (Kept good (says old.origin) (Through found.found all))
  kept_behind told good was =
      subst (λ (h : History). Throughout (clock old.disk) (clock new.disk) (Kept good (says old.origin) (Through found.found h))) (sym resumes.tries.tried_is) (resumes.tries.goes told good (rests told good was)).0

  opens_to : (f : Found) → Through found.found all f → OpensTo tells (clock start) (clock new.disk) at f
  opens_to f is = record { found = found.found; tried = all; left = resumes.left; is = is_tried all refl; through = is }

  pub open_moments : tells → LeavesOnly (clock start) (clock old.disk) (FindLeaves (now (clock start))) → Throughout (clock start) (clock new.disk) (OpenLeaves tells (clock start) (clock new.disk) at)
  open_moments told moments =
      joined (clock start) (clock old.disk) (clock new.disk) (OpenLeaves tells (clock start) (clock new.disk) at) (found_opens tells (clock start) (clock old.disk) (clock new.disk) at moments (files told))
      (weaker (clock old.disk) (clock new.disk) (Kept false (says old.origin) (Through found.found all)) (OpenLeaves tells (clock start) (clock new.disk) at)
      (λ disk kept image left. inr (resting.kept_any (says old.origin) says_all (OpensTo tells (clock start) (clock new.disk) at) disk
      (resting.kept_weaker false (says old.origin) (Through found.found all) (OpensTo tells (clock start) (clock new.disk) at) disk opens_to kept) image left)) (kept_behind told false tt))

  pub open_keeps : tells → LeavesOnly (clock start) (clock old.disk) (FindLeaves (now (clock start))) → OpenKeeps tells (says old.origin) (clock start) (clock new.disk) at
  open_keeps told moments earlier more kept =
      joined (clock start) (clock old.disk) (clock new.disk) (Kept true (says old.origin) (KeptOr tells (clock start) (clock new.disk) at earlier more)) (found_keeps tells (clock start) (clock old.disk) (clock new.disk) at moments (files told) (says old.origin) earlier more kept)
      (weaker (clock old.disk) (clock new.disk) (Kept true (says old.origin) (Through found.found all)) (Kept true (says old.origin) (KeptOr tells (clock start) (clock new.disk) at earlier more))
      (λ disk. resting.kept_weaker true (says old.origin) (Through found.found all) (KeptOr tells (clock start) (clock new.disk) at earlier more) disk (λ f is. inr (opens_to f is)))
      (kept_behind told true (record { earlier = earlier; more = more; kept = kept })))

  -- Where nothing stood as the journal, none was found.
  through_blank : tells → StandsNot (now (clock start)) journal_place → Through found.found all (recovered [])
  through_blank told nothing =
      subst (λ (h : History). Through h all (recovered [])) (sym (records_one (bytes_at (now (clock start)) journal_place) found.found [] (found.reads told) (reads_none (now (clock start)) nothing))) (through_none [] all)

  runs_left : tells → (disk : DiskState) (image : Image) → FindLeaves (now (clock start)) image → WasLeft (now (clock start)) image ⊎ Recovers false says_all (Through found.found all) disk.files image
  runs_left told disk image (inl left) = inl (was_left (now (clock start)) image left)
  runs_left told disk image (inr nothing) = inr (blank_recovers false says_all (Through found.found all) (through_blank told nothing.0) disk.files image nothing.1)

  runs_kept : tells → (kept rest : History) → Kept true (says old.origin) (Through kept rest) (now (clock start)) → (disk : DiskState) → disk.files ≡ (now (clock start)).files → (image : Image) → FindLeaves (now (clock start)) image
      → Recovers true (says old.origin) (RunsOr kept rest found.found all) disk.files image
  runs_kept told kept rest is disk same image (inl left) =
      subst (λ (f : Folder). Recovers true (says old.origin) (RunsOr kept rest found.found all) f image) (sym same)
      (resting.recovers_weaker true (says old.origin) (Through kept rest) (RunsOr kept rest found.found all) (now (clock start)).files image (λ f through. inl through) (is image left))
  runs_kept told kept rest is disk same image (inr nothing) = blank_recovers true (says old.origin) (RunsOr kept rest found.found all) (inr (through_blank told nothing.0)) disk.files image nothing.1

  pub open_runs : tells → LeavesOnly (clock start) (clock old.disk) (FindLeaves (now (clock start))) → OpenRuns (says old.origin) (clock start) (clock new.disk) found.found all
  open_runs told moments = record {
    leaves = joined (clock start) (clock old.disk) (clock new.disk) (LeavesSome (now (clock start)) found.found all)
        (weaker (clock start) (clock old.disk) (λ disk. (image : Image) → MayLeave disk image → FindLeaves (now (clock start)) image) (LeavesSome (now (clock start)) found.found all) (λ disk each image left. runs_left told disk image (each image left)) moments)
        (weaker (clock old.disk) (clock new.disk) (Kept false (says old.origin) (Through found.found all)) (LeavesSome (now (clock start)) found.found all)
        (λ disk kept image left. inr (resting.kept_any (says old.origin) says_all (Through found.found all) disk kept image left)) (kept_behind told false tt));
    keeps = λ kept rest is.
        joined (clock start) (clock old.disk) (clock new.disk) (Kept true (says old.origin) (RunsOr kept rest found.found all))
        (weaker (clock start) (clock old.disk) (λ disk. ((image : Image) → MayLeave disk image → FindLeaves (now (clock start)) image) × (disk.files ≡ (now (clock start)).files)) (Kept true (says old.origin) (RunsOr kept rest found.found all))
        (λ disk here image left. runs_kept told kept rest is disk here.1 image (here.0 image left))
        (both (clock start) (clock old.disk) (λ disk. (image : Image) → MayLeave disk image → FindLeaves (now (clock start)) image) (λ disk. disk.files ≡ (now (clock start)).files) moments (files told)))
        (weaker (clock old.disk) (clock new.disk) (Kept true (says old.origin) (Through found.found all)) (Kept true (says old.origin) (RunsOr kept rest found.found all))
        (λ disk. resting.kept_weaker true (says old.origin) (Through found.found all) (RunsOr kept rest found.found all) disk (λ f through. inr through))
        (kept_behind told true (record { earlier = kept; more = rest; kept = is })));
  }

  -- at each moment one of the two is kept
  pub open_on : tells → LeavesOnly (clock start) (clock old.disk) (FindLeaves (now (clock start))) → RunsOn (says old.origin) (clock start) (clock new.disk) found.found all
  open_on told moments kept rest is =
      joined (clock start) (clock old.disk) (clock new.disk) (KeepsOneOf (says old.origin) kept rest found.found all)
      (weaker (clock start) (clock old.disk) (Kept true (says old.origin) (Through kept rest)) (KeepsOneOf (says old.origin) kept rest found.found all) (λ disk k. inl k)
      (stays_kept (clock start) (clock old.disk) moments (files told) (sound told) true (says old.origin) kept rest is))
      (weaker (clock old.disk) (clock new.disk) (Kept true (says old.origin) (Through found.found all)) (KeepsOneOf (says old.origin) kept rest found.found all) (λ disk k. inr k)
      (kept_behind told true (record { earlier = kept; more = rest; kept = is })))

  gate_here : new.gate ≡ length (front (bodies_of found.found)) + spelled new.list
  gate_here = let a = resumes.tries.gate_is in let b = found.gate_is in omega (arith, a, b)

  -- the count of far writes
  module _ (far : D → ℕ) (bare : old.list ≡ []) (far_same : far old.disk ≡ far start) (near : StaysNear (far old.disk) (far new.disk) old new) where
    near_by : (more : History) → spelled (new.list ++ new.failed) ≤ spelled more → IsNear (found.found ++ more) (far start) (far new.disk)
    near_by more most short =
        let whole = front_more found.found more in
        let gate = found.gate_is in
        let tried : spelled (added old new ++ new.failed) ≡ spelled (new.list ++ new.failed) = ap (λ (h : History). spelled (drop (length h) new.list ++ new.failed)) bare in
        near (omega (arith, whole, gate, tried, most, short)) ∙ far_same

    pub near_tried : IsNear (found.found ++ all) (far start) (far new.disk)
    near_tried =
        let split = ap spelled (sym (append_assoc new.list new.failed resumes.rest)) ∙ spelled_then (new.list ++ new.failed) resumes.rest in
        near_by all (omega (arith, split))

    pub near_some : IsNear (found.found ++ (new.list ++ new.failed)) (far start) (far new.disk)
    near_some = near_by (new.list ++ new.failed) (omega arith)

    pub is_read : tells → LeavesOnly (clock start) (clock old.disk) (FindLeaves (now (clock start))) → IsRead tells clock far (says old.origin) start new.disk at
    is_read told moments = record {
      found = found.found;
      recorded = new.list;
      failed = new.failed;
      rest = resumes.rest;
      left = resumes.left;
      is = is_tried all refl;
      runs = open_runs told moments;
      kept = λ good was. rests_broken new.broken good (says old.origin) (found.found ++ new.list) new.failed new.gate (covers_of new.lives) (now (clock new.disk)) (holds_new told good was).rests;
      near = near_tried;
    }

    pub read_and_tried : (tells → LeavesOnly (clock start) (clock old.disk) (FindLeaves (now (clock start)))) → ReadAndTried tells clock far (says old.origin) start new.disk limit at found.found new.list new.failed resumes.rest
    read_and_tried moments = record {
      taken = found.taken;
      lawful = resumes.tries.lawful;
      one = resumes.tries.one;
      left = resumes.left;
      tried = is_tried all refl;
      runs = λ told. open_runs told (moments told);
      on = λ told. open_on told (moments told);
      kept = λ told good was. rests_broken new.broken good (says old.origin) (found.found ++ new.list) new.failed new.gate (covers_of new.lives) (now (clock new.disk)) (holds_new told good was).rests;
      near = near_tried;
    }

    -- of an opening that was answered Ok
    pub opened_on : result ≡ Ok tt → (tells → LeavesOnly (clock start) (clock old.disk) (FindLeaves (now (clock start)))) → tells → (read : History) → Records (bytes_at (now (clock start)) journal_place) read
        → RunsOn (says old.origin) (clock start) (clock new.disk) read new.list
    opened_on ok moments told read reads =
        let ends = subst (EndsAs tells clock says found.found old new resumes.settled resumes.rest resumes.left) ok resumes.ends in
        let listed : new.list ≡ all = sym (append-nil new.list) ∙ ap (λ (h : History). new.list ++ h) (sym (ap (λ (h : History). h ++ resumes.rest) ends.none_failed ∙ ends.none_rest)) in
        subst (λ (h : History). RunsOn (says old.origin) (clock start) (clock new.disk) h new.list) (records_one (bytes_at (now (clock start)) journal_place) found.found read (found.reads told) reads)
        (subst (RunsOn (says old.origin) (clock start) (clock new.disk) found.found) (sym listed) (open_on told (moments told)))

    pub is_opened : result ≡ Ok tt → new.limits.items ≡ limit → (tells → LeavesOnly (clock start) (clock old.disk) (FindLeaves (now (clock start)))) → IsOpened tells clock far (says old.origin) start at new
    is_opened ok same moments =
        let ends = subst (EndsAs tells clock says found.found old new resumes.settled resumes.rest resumes.left) ok resumes.ends in
        let listed : new.list ≡ all = sym (append-nil new.list) ∙ ap (λ (h : History). new.list ++ h) (sym (ap (λ (h : History). h ++ resumes.rest) ends.none_failed ∙ ends.none_rest)) in
        record {
          whole = ends.whole;
          none_failed = ends.none_failed;
          found = found.found;
          taken = subst (λ (n : ℕ). IsTaken n found.found) (sym same) found.taken;
          tried = record {
            reads = found.reads;
            settled = resumes.settled;
            tried_is = listed ∙ resumes.tries.tried_is;
            settles = subst (AreSettlings tells (clock start) (clock new.disk) at (finishing (items_of (found.found ++ reopening found.found at))) resumes.settled) ends.none_left settles_start;
          };
          runs = λ told. subst (OpenRuns (says old.origin) (clock start) (clock new.disk) found.found) (sym listed) (open_runs told (moments told));
          items = resumes.tries.items;
          gate_is = gate_here;
          holds = holds_new;
          never_breaks = λ told was. ends.never_breaks told (rests told true was);
          swept = ends.swept;
          near = λ told. subst (λ (h : History). IsNear (found.found ++ h) (far start) (far new.disk)) (sym listed) near_tried;
        }

-- A reopening that was hindered behind what it read.
module _ {D O : Type 0} (tells : Type 0) (clock : D → Clock) (says : O → Says) (at : ℕ) (first old new : View D O) (found : IsFound tells (clock first.disk) (clock old.disk) first.limits.items old.gate old.items) (files : tells → KeepsFiles (clock first.disk) (clock old.disk))
    (few : first.limits.items ≤ most_items) (sound : tells → IsSoundDisk (now (clock first.disk))) (origin : old.origin ≡ first.origin) (limits : old.limits ≡ first.limits) (far : D → ℕ) (bare : old.list ≡ []) (far_same : far old.disk ≡ far first.disk) (near : StaysNear (far old.disk) (far new.disk) old new) where
  pub stays_read : (fault : Hindered) → Resumes tells clock says at found.found old new (Err fault) → (tells → LeavesOnly (clock first.disk) (clock old.disk) (FindLeaves (now (clock first.disk)))) → new.broken ≡ true → StaysRead tells clock far (says first.origin) at first new
  stays_read fault resumes moments broken = record {
    broken = broken;
    origin = resumes.tries.origin ∙ origin;
    limits = resumes.tries.limits ∙ limits;
    none_live = resumes.tries.none_live;
    found = found.found;
    taken = found.taken;
    rest = resumes.rest;
    left = resumes.left;
    tried = is_tried tells clock says first.disk at first.limits.items old new found files few sound (Err fault) resumes (new.list ++ (new.failed ++ resumes.rest)) refl;
    runs = λ told. subst (λ (o : O). OpenRuns (says o) (clock first.disk) (clock new.disk) found.found (new.list ++ (new.failed ++ resumes.rest))) origin
        (open_runs tells clock says first.disk at first.limits.items old new found files few sound (Err fault) resumes told (moments told));
    items = resumes.tries.items;
    holds = subst (λ (o : O). tells → (good : Bool) → WasKept good (says o) (now (clock first.disk)) → HoldsOf good (says o) clock new (found.found ++ new.list)) origin
        (holds_new tells clock says first.disk at first.limits.items old new found files few sound (Err fault) resumes);
    near = λ told. near_some tells clock says first.disk at first.limits.items old new found files few sound (Err fault) resumes far bare far_same near;
  }

  pub keeps_tried : (fault : Hindered) → Resumes tells clock says at found.found old new (Err fault) → (tells → LeavesOnly (clock first.disk) (clock old.disk) (FindLeaves (now (clock first.disk)))) → KeepsTried tells clock far (says first.origin) at first new
  keeps_tried fault resumes moments = record {
    found = found.found;
    rest = resumes.rest;
    is = subst (λ (o : O). ReadAndTried tells clock far (says o) first.disk new.disk first.limits.items at found.found new.list new.failed resumes.rest) origin
        (read_and_tried tells clock says first.disk at first.limits.items old new found files few sound (Err fault) resumes far bare far_same near moments);
  }

-- the name that an item gets, in what reads as the journal
pub given_name : {D O : Type 0} (tells : Type 0) (clock : D → Clock) (start : D) (limit : ℕ) (old : View D O) (found : IsFound tells (clock start) (clock old.disk) limit old.gate old.items) → tells → KeepsFiles (clock start) (clock old.disk) → (name : List ℕ) → IsPartOrGiven clock old name → IsSettledName clock start name
given_name tells clock start limit old found told files name (inl part) = inl part
given_name tells clock start limit old found told files name (inr given) =
    let names = ap names_of (at_end (clock start) (clock old.disk) (λ disk. disk.files ≡ (now (clock start)).files) files) in
    inr (record {
      found = found.found;
      reads = found.reads told;
      id = given.id;
      item = given.item;
      there = sym (ap (item_in given.id) (items_are found.found old.items found.list)) ∙ given.there;
      finishing = ap is_finishing given.finishing;
      named = given.named;
      parted = sym (stands_same (clock start) (clock old.disk) (clock old.disk) files.later names (part_place given.item.id.0 given.item.epoch.0)) ∙ given.parted;
      free = sym (stands_same (clock start) (clock old.disk) (clock old.disk) files.later names (name_place given.item)) ∙ given.free;
    })

pub open_beside : {D O : Type 0} (tells : Type 0) (clock : D → Clock) (start : D) (limit : ℕ) (old new : View D O) (found : IsFound tells (clock start) (clock old.disk) limit old.gate old.items) → tells → KeepsFiles (clock start) (clock old.disk)
    → Besides (IsPartOrGiven clock old) (clock old.disk) (clock new.disk) → Besides (IsSettledName clock start) (clock start) (clock new.disk)
open_beside tells clock start limit old new found told files besides =
    besides_then (IsSettledName clock start) (clock start) (clock old.disk) (clock new.disk) (besides_same (IsSettledName clock start) (clock start) (clock old.disk) files)
    (besides_more (IsPartOrGiven clock old) (IsSettledName clock start) (clock old.disk) (clock new.disk) (given_name tells clock start limit old found told files) besides)

-- what was found is here
pub found_here : {D O : Type 0} (tells : Type 0) (clock : D → Clock) (start : D) (old : View D O) (found : IsFound tells (clock start) (clock old.disk) old.limits.items old.gate old.items) → IsHere tells clock old
found_here tells clock start old found = record { found = found.found; entries = found.entries; taken = found.taken; list = found.list; gate_is = found.gate_is; rest = found.rest }
