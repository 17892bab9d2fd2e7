-- What finding a list did, from the calls that it makes.
use Rattle.std.proofs.Common.{◌≡◌, ◌⊎◌, inl, inr, ℕ, ◌≤◌, List, [], length, Option, Some, None, Result, Ok, Err, IfOk, IfErr, refl, sym, ◌∙◌, ap, subst}
use Rattle.std.specs.Option.{option_map}
use Rattle.dm_disk_model.specs.declared.place.Place.{Place}
use Rattle.dm_disk_model.specs.Disk.{DiskState, Image, History as Clock, MayLeave, StandsNot, bytes_at, folder_in, now}
use Rattle.dm_disk_model.specs.Moments.{LeavesOnly}
use Rattle.dm_disk_model.specs.Names.{NeverStands}
use Rattle.dm_disk_model.proofs.Reaching.{at_end, joined, weaker}
use Rattle.dm_item.specs.Lawful.{IsOf}
use Rattle.dm_item.specs.Listing.{Listing, empty_list}
use Rattle.dm_item.proofs.Histories.{empty_is}
use Rattle.dm_journal.specs.AtRest.{AtRest, ReadsJournal, journal_place}
use Rattle.dm_journal.specs.Fault.{IsNoDamage}
use Rattle.dm_journal.specs.Finding.{Finds, ReadsDamaged}
use Rattle.dm_journal.specs.Finding as finding
use Rattle.dm_journal.specs.Starting.{NoneOrBlank, WasLeft}
use Rattle.dm_journal.specs.Text.{IsJournalText, front, header}
use Rattle.dm_journal.specs.declared.fault.JournalFault.{JournalFault}
use Rattle.dm_journal.specs.declared.fault.JournalFault.TheVariants as faults
use Rattle.dm_kept.specs.Spelled.{Records, bodies_of}
use Rattle.dm_answers.specs.Opening.{OnlyBefore}
use Rattle.dm_find.specs.Bodies.{IsListOf, ListFails}
use Rattle.dm_find.specs.Finding.{FindFails, FindLeaves, IsFound}
use Rattle.dm_find.specs.declared.finding.FoundList.{FoundList}

pub was_left : (disk : DiskState) (image : Image) → MayLeave disk image → WasLeft disk image
was_left disk image left = record { before = image; left = left; journal = refl; files = refl }

-- what was found, in the variant that it is
pub found_some : (start middle : DiskState) (field : finding.Found) (journal : ℕ) (bodies : List (List ℕ)) → Finds start middle (Ok field) → field ≡ Some (journal, bodies) → ReadsJournal start journal bodies × AtRest middle journal bodies
found_some start middle field journal bodies finds is = subst (λ (found : finding.Found). Finds start middle (Ok found)) is finds

pub in_some : (field : finding.Found) (journal : ℕ) (bodies : List (List ℕ)) → finding.IsBehind field → field ≡ Some (journal, bodies) → journal ≡ length (front bodies)
in_some field journal bodies behind is = subst finding.IsBehind is behind

pub found_none : (start middle : DiskState) (field : finding.Found) → Finds start middle (Ok field) → field ≡ None → StandsNot start journal_place × NeverStands journal_place middle
found_none start middle field finds is = subst (λ (found : finding.Found). Finds start middle (Ok found)) is finds

module _ (start middle : Clock) (only : LeavesOnly start middle (MayLeave (now start))) where
  -- a crash leaves what one at the start might have
  pub found_moments : LeavesOnly start middle (FindLeaves (now start))
  found_moments =
      weaker start middle (λ disk. (image : Image) → MayLeave disk image → MayLeave (now start) image) (λ disk. (image : Image) → MayLeave disk image → FindLeaves (now start) image)
      (λ disk each image left. inl (each image left)) only

  pub found_before : OnlyBefore start middle
  found_before image left = was_left (now start) image (at_end start middle (λ disk. (image : Image) → MayLeave disk image → MayLeave (now start) image) only image left)

  -- nothing was found
  pub find_failed : (limit : ℕ) (fault : JournalFault) → ((other : Place) → bytes_at (now middle) other ≡ bytes_at (now start) other) → Finds (now start) (now middle) (Err fault) → FindFails start middle limit fault
  find_failed limit (faults.Damaged place) reads finds = (record { bytes = finds.bytes; reads = finds.reads; damage = inl finds.damaged }, record { images = found_before; reads = reads })
  find_failed limit (faults.Disk kind) reads finds = inl found_before
  find_failed limit faults.NoMemory reads finds = inl found_before

  -- a body isn't taken, or memory was wanting
  list_failed : (limit gate : ℕ) (bodies : List (List ℕ)) (fault : JournalFault) → ((other : Place) → bytes_at (now middle) other ≡ bytes_at (now start) other) → ReadsJournal (now start) gate bodies
      → ListFails limit bodies fault → FindFails start middle limit fault
  list_failed limit gate bodies (faults.Damaged place) reads journal refused = (
    record {
      bytes = journal.bytes;
      reads = journal.reads;
      damage = inr (record {
        history = refused.history;
        entries = refused.entries;
        taken = refused.taken;
        body = refused.body;
        later = refused.later;
        text = subst (λ (bs : List (List ℕ)). IsJournalText bs journal.bytes) refused.is journal.text;
        refused = refused.refused;
        at = refused.at;
      });
    },
    record { images = found_before; reads = reads },
  )
  list_failed limit gate bodies faults.NoMemory reads journal refused = inl found_before
  list_failed limit gate bodies (faults.Disk kind) reads journal refused = absurd refused

  pub list_refused : (limit gate : ℕ) (bodies : List (List ℕ)) (result : Result FoundList JournalFault) → ((other : Place) → bytes_at (now middle) other ≡ bytes_at (now start) other)
      → ReadsJournal (now start) gate bodies → IfErr result (ListFails limit bodies) → IfErr result (FindFails start middle limit)
  list_refused limit gate bodies (Ok list) reads journal refused = tt
  list_refused limit gate bodies (Err fault) reads journal refused = list_failed limit gate bodies fault reads journal refused

-- The bodies that were read are a history, which is durable now.
pub lists_found : (tells : Type 0) (start end : Clock) (limit gate : ℕ) (bodies : List (List ℕ)) (result : Result FoundList JournalFault) → (tells → ReadsJournal (now start) gate bodies × AtRest (now end) gate bodies)
    → gate ≡ length (front bodies) → IfOk result (λ list. list.journal ≡ gate) → IfOk result (λ list. IsListOf limit bodies list.items) → IfOk result (λ list. IsFound tells start end limit list.journal list.items)
lists_found tells start end limit gate bodies (Err fault) both behind at is = tt
lists_found tells start end limit gate bodies (Ok list) both behind at is = record {
  found = is.history;
  entries = is.entries;
  taken = is.taken;
  list = is.list;
  gate_is = at ∙ behind ∙ ap (λ (bs : List (List ℕ)). length (front bs)) (sym is.is);
  reads = λ told.
      let journal = (both told).0 in
      subst (λ (found : Option (List ℕ)). Records found is.history) (sym journal.reads) (record { entries = is.entries; text = subst (λ (bs : List (List ℕ)). IsJournalText bs journal.bytes) (sym is.is) journal.text });
  rest = λ told. subst (λ (n : ℕ). AtRest (now end) n (bodies_of is.history)) (sym at) (subst (AtRest (now end) gate) (sym is.is) (both told).1);
}

-- Nothing stood as the journal.
nothing_read : (start : DiskState) → StandsNot start journal_place → bytes_at start journal_place ≡ None
nothing_read start nothing = ap (option_map (λ number. ((folder_in journal_place.area start).file number).bytes)) nothing

module _ (start middle end : Clock) (nothing : StandsNot (now start) journal_place) (before : LeavesOnly start middle (MayLeave (now start))) (only : LeavesOnly middle end NoneOrBlank) where
  pub started_moments : LeavesOnly start end (FindLeaves (now start))
  started_moments =
      joined start middle end (λ disk. (image : Image) → MayLeave disk image → FindLeaves (now start) image) (found_moments start middle before)
      (weaker middle end (λ disk. (image : Image) → MayLeave disk image → NoneOrBlank image) (λ disk. (image : Image) → MayLeave disk image → FindLeaves (now start) image)
      (λ disk each image left. inr (nothing, each image left)) only)

  pub start_refused : (limit : ℕ) (result : Result FoundList JournalFault) → IfErr result IsNoDamage → IfErr result (FindFails start end limit)
  start_refused limit (Ok list) whole = tt
  start_refused limit (Err (faults.Damaged place)) whole = absurd whole
  start_refused limit (Err (faults.Disk kind)) whole =
      inr (nothing_read (now start) nothing, at_end middle end (λ disk. (image : Image) → MayLeave disk image → NoneOrBlank image) only)
  start_refused limit (Err faults.NoMemory) whole =
      inr (nothing_read (now start) nothing, at_end middle end (λ disk. (image : Image) → MayLeave disk image → NoneOrBlank image) only)

-- The journal was started.
pub started_found : (tells : Type 0) (start end : Clock) (limit : ℕ) (result : Result FoundList JournalFault) → (tells → StandsNot (now start) journal_place) → (tells → IfOk result (λ list. AtRest (now end) list.journal []))
    → IfOk result (λ list. list.items ≡ empty_list limit) → IfOk result (λ list. list.journal ≡ length header) → IfOk result (λ list. IsFound tells start end limit list.journal list.items)
started_found tells start end limit (Err fault) nothing rest empty at = tt
started_found tells start end limit (Ok list) nothing rest empty at = record {
  found = [];
  entries = tt;
  taken = record { lawful = tt; room = tt };
  list = subst (IsOf []) (sym empty) (empty_is limit);
  gate_is = at;
  reads = λ told. subst (λ (found : Option (List ℕ)). Records found []) (sym (nothing_read (now start) (nothing told))) refl;
  rest = rest;
}
