-- What is kept of a rehearsal's disk, from its start to the file that is published.
use Rattle.std.proofs.Common.{◌≡◌, ℕ, Bool, true, false, List, [], ◌++◌, length, take, Some, None, Result, Ok, Err, IfOk, ◌⊎◌, inl, inr, refl, sym, ◌∙◌, ap, subst}
use Rattle.std.specs.Prelude.{OnOk}
use Rattle.std.proofs.lemmas.Bool.{true≢false}
use Rattle.std.proofs.lemmas.Option.{same_Some}
use Rattle.dm_types.specs.declared.entry.Entry.{Entry}
use Rattle.dm_types.specs.declared.item.Item.{Item}
use Rattle.dm_types.specs.declared.item.ItemId.{ItemId}
use Rattle.dm_types.specs.declared.item.Phase.{Phase}
use Rattle.dm_types.specs.declared.item.Phase.TheVariants as phases
use Rattle.dm_types.specs.declared.memory.NoMemory.{NoMemory}
use Rattle.dm_disk_model.specs.Disk.{DiskState, History as Clock, Image, IsSoundDisk, MayLeave, now, reading}
use Rattle.dm_disk_model.specs.Folder.{Names}
use Rattle.dm_disk_model.proofs.PendingNames.{each_synced}
use Rattle.dm_disk_model.proofs.Reaching.{joined, weaker}
use Rattle.dm_disk.specs.declared.memory.MemoryDisk.{MemoryDisk}
use Rattle.dm_disk.specs.declared.image.Pick.{Pick}
use Rattle.dm_disk.specs.Calls.{empty_disk, empty_folder, history_of}
use Rattle.dm_disk.specs.Image.{HoldsPicked}
use Rattle.dm_disk.specs.Memory.{IsFresh, held_in, history_in}
use Rattle.dm_disk.specs.SoundCalls.{sound_after}
use Rattle.dm_edge.specs.declared.origin.Generated.{Generated}
use Rattle.dm_item.specs.Lawful.{History, items_of}
use Rattle.dm_item.specs.Listing.{item_in}
use Rattle.dm_item.specs.Row.{is_complete}
use Rattle.dm_journal.specs.AtRest.{journal_name}
use Rattle.dm_journal.proofs.Resting.{image_as_read}
use Rattle.dm_kept.specs.Files.{Covers, Says}
use Rattle.dm_kept.specs.Kept.{Kept, Recovers}
use Rattle.dm_kept.specs.Recovery.{Found, Through}
use Rattle.dm_kept.proofs.Entered.{items_are}
use Rattle.dm_kept.proofs.Resting.{empty_kept, kept_weaker, sits_kept}
use Rattle.dm_store.specs.Keeps.{HoldsOf, Keeps, RestsBy, added}
use Rattle.dm_store.specs.Lives.{covers_of}
use Rattle.dm_answers.specs.Change.{ChangeAnswers}
use Rattle.dm_answers.specs.Opening.{OpenKeeps, OpensTo}
use Rattle.dm_does.specs.Headline.{BeginsWith, IsThere}
use Rattle.dm_does.proofs.Begun.{begins_kept}
use Rattle.dm_does.proofs.Whole.{there}
use Rattle.dm_generated_net.specs.Wired.{NetState}
use Rattle.dm_rehearse.specs.Picking.{pick_of}
use Rattle.dm_rehearse_run.specs.Kept.{Desk, Holds, IsComplete, IsGenerated, IsGuarded, IsKeptFor, IsOpen, says_of}
use Rattle.dm_rehearse_run.specs.Sessions.{Brings, Continues, GoesOn, HasFile, IsCrashed, IsEmpty, Resumes}

-- an empty disk is kept
empty_now : (number : ℕ) → IsKeptFor number empty_disk
empty_now number = record {
  earlier = [];
  more = [];
  kept = empty_kept true (says_of number) empty_disk (each_synced empty_folder (λ (names : Names). names journal_name ≡ None) refl refl);
}

pub new_kept : (number : ℕ) (disk : MemoryDisk) → history_in disk ≡ history_of [] → IsKeptFor number (held_in disk)
new_kept number disk is = subst (λ (h : Clock). IsKeptFor number (now h)) (sym is) (empty_now number)

-- what a crash leaves is kept by the disk that begins with it
pub crashed_kept : (number : ℕ) (pick : Pick) (old new : DiskState) → HoldsPicked pick old new → MayLeave old (reading new) → IsKeptFor number old → IsKeptFor number new
crashed_kept number pick old new picked leaves was =
    let begins : BeginsWith new (reading new) = record {
      state = record { reads = λ name. refl; settled = picked.state.settled; none_pending = picked.state.named };
      files = record { reads = λ name. refl; settled = picked.files.settled; none_pending = picked.files.named };
    } in
    let is : Recovers true (says_of number) (Through was.earlier was.more) old.files (reading new) = was.kept (reading new) leaves in
    record { earlier = is.history; more = []; kept = begins_kept (says_of number) (Through was.earlier was.more) old new (reading new) leaves begins is }

-- a desk that was opened on a kept disk
pub opened_holds : (origin : Generated) (desk : Desk) (history : History) → desk.origin ≡ origin → HoldsOf true (says_of origin.seed) history_in desk history → Holds desk
opened_holds origin desk history is holds = record {
  history = history;
  holds = subst (λ (o : Generated). HoldsOf true (says_of o.seed) history_in desk history) (sym is) holds;
}

-- calls on a desk
pub goes_holds : (old new : Desk) → Keeps (Unit {0}) history_in (λ (o : Generated). says_of o.seed) old new → new.origin ≡ old.origin → Holds old → Holds new
goes_holds old new keeps origin held =
    let goes = keeps tt true held.history held.holds in
    let behind : History = held.history ++ added old new in
    record { history = behind; holds = subst (λ (o : Generated). HoldsOf true (says_of o.seed) history_in new behind) (sym origin) goes.holds }

by_whole : (broken good : Bool) (says : Says) (history failed : History) (gate : ℕ) (covers : Covers) (disk : DiskState) → RestsBy broken good says history failed gate covers disk → Kept good says (Through history failed) disk
by_whole false good says history failed gate covers disk sits = sits_kept good says history failed gate covers disk sits
by_whole true good says history failed gate covers disk kept = kept

unbroken : (broken good : Bool) (says : Says) (history failed : History) (gate : ℕ) (covers : Covers) (disk : DiskState) → broken ≡ false → RestsBy broken good says history failed gate covers disk → Kept good says (Through history []) disk
unbroken false good says history failed gate covers disk whole sits = sits_kept good says history [] gate covers disk sits
unbroken true good says history failed gate covers disk whole kept = absurd (true≢false whole)

-- a disk in memory was sound at each moment
pub memory_sound : (disk : MemoryDisk) (t : ℕ) → IsSoundDisk ((history_in disk).at t)
memory_sound disk t = sound_after (take t disk.log.calls.items)

-- the disk of a desk is kept, also where the desk is broken
pub disk_kept : (desk : Desk) → Holds desk → IsKeptFor desk.origin.seed (held_in desk.disk)
disk_kept desk held = record {
  earlier = held.history;
  more = desk.failed;
  kept = by_whole desk.broken true (says_of desk.origin.seed) held.history desk.failed desk.gate (covers_of desk.lives) (held_in desk.disk) held.holds.rests;
}

complete_passes : (phase : Phase) → phase ≡ phases.Complete → is_complete phase ≡ true
complete_passes phase is = ap is_complete is

-- the file of a complete item of a desk that isn't broken
pub complete_generated : (desk : Desk) (id : ℕ) (item : Item) (name : List ℕ) → desk.broken ≡ false → Holds desk → item_in id desk.items.items ≡ Some item → IsComplete item name → IsGenerated (held_in desk.disk) name desk.origin.seed
complete_generated desk id item name whole held found complete =
    let disk : DiskState = held_in desk.disk in
    let says : Says = says_of desk.origin.seed in
    let kept : Kept true says (Through held.history []) disk =
    unbroken desk.broken true says held.history desk.failed desk.gate (covers_of desk.lives) disk whole held.holds.rests in
    let is : Recovers true says (Through held.history []) disk.files (reading disk) =
    image_as_read disk (λ (image : Image). Recovers true says (Through held.history []) disk.files image) (memory_sound desk.disk (length desk.disk.log.calls.items)) kept in
    let same : items_of is.history ≡ desk.items.items = ap (λ (f : Found). f.items) is.items ∙ sym (items_are held.history desk.items held.holds.items) in
    let stands : IsThere says (reading disk) item =
    there says (reading disk) is.history is.taken.lawful is.sound id item (ap (item_in id) same ∙ found) (complete_passes item.phase complete.phase_is) in
    let named : stands.name ≡ name = same_Some stands.name name (sym stands.named ∙ complete.name_is) in
    record {
      file = stands.holds.bytes;
      reads = subst (λ (n : List ℕ). (reading disk).files n ≡ Some stands.holds.bytes) named stands.holds.stands;
      generated = λ place byte here. (stands.holds.said place byte here).said;
    }

-- a change of the list that was made, or for which nothing was left to do
pub changed_origin : (is_done : Phase → Bool) (entry : Entry) (id : ItemId) (old new : Desk) → ChangeAnswers is_done entry id old new (Ok tt) → new.origin ≡ old.origin
changed_origin is_done entry id old new (inl refuses) = ap (λ (d : Desk). d.origin) refuses.same
changed_origin is_done entry id old new (inr change) = change.1.origin

pub changed_open : (is_done : Phase → Bool) (entry : Entry) (id : ItemId) (old new : Desk) → Keeps (Unit {0}) history_in (λ (o : Generated). says_of o.seed) old new → ChangeAnswers is_done entry id old new (Ok tt) → IsOpen old → IsOpen new
changed_open is_done entry id old new keeps (inl refuses) is = subst IsOpen (sym refuses.same) is
changed_open is_done entry id old new keeps (inr change) is = record {
  whole = change.1.broken_is;
  none_failed = change.1.failed_is;
  held = goes_holds old new keeps change.1.origin is.held;
}

-- the same of what a call answers
pub new_kept_if : (result : Result MemoryDisk NoMemory) → IfOk result (λ disk. history_in disk ≡ history_of []) → IfOk result (λ disk. (number : ℕ) → IsKeptFor number (held_in disk))
new_kept_if (Ok disk) empty = λ number. new_kept number disk empty
new_kept_if (Err fault) empty = tt

pub crashed_kept_if : (number : ℕ) (pick : Pick) (old : DiskState) (result : Result MemoryDisk NoMemory) → IfOk result (λ left. HoldsPicked pick old (held_in left)) → IfOk result (λ left. MayLeave old (reading (held_in left)))
    → IsKeptFor number old → IfOk result (λ left. IsKeptFor number (held_in left))
crashed_kept_if number pick old (Ok left) picked leaves was = crashed_kept number pick old (held_in left) picked leaves was
crashed_kept_if number pick old (Err fault) picked leaves was = tt

pub complete_generated_if : (desk : Desk) (id : ℕ) (item : Item) (result : Result (List ℕ) NoMemory) → desk.broken ≡ false → Holds desk → item_in id desk.items.items ≡ Some item → IfOk result (IsComplete item)
    → IfOk result (λ name. IsGenerated (held_in desk.disk) name desk.origin.seed)
complete_generated_if desk id item (Ok name) whole held found complete = complete_generated desk id item name whole held found complete
complete_generated_if desk id item (Err fault) whole held found complete = tt

-- At each moment of some calls on a desk its disk is guarded.
pub calls_go_on : (old new : Desk) → Keeps (Unit {0}) history_in (λ (o : Generated). says_of o.seed) old new → Holds old → GoesOn old.origin.seed old.disk new.disk
calls_go_on old new keeps held =
    let goes = keeps tt true held.history held.holds in
    let P : Found → Type 0 = Through held.history (added old new ++ new.failed) in
    weaker (history_in old.disk) (history_in new.disk) (Kept true (says_of old.origin.seed) P) (IsGuarded old.origin.seed)
    (λ disk. kept_weaker true (says_of old.origin.seed) P (λ found. Unit {0}) disk (λ found is. tt)) goes.moments

-- the same of an opening
pub opening_goes_on : (number at : ℕ) (disk left : MemoryDisk) → OpenKeeps (Unit {0}) (says_of number) (history_in disk) (history_in left) at → IsKeptFor number (held_in disk) → GoesOn number disk left
opening_goes_on number at disk left keeps was =
    let P : Found → Type 0 = λ found. Through was.earlier was.more found ⊎ OpensTo (Unit {0}) (history_in disk) (history_in left) at found in
    weaker (history_in disk) (history_in left) (Kept true (says_of number) P) (IsGuarded number)
    (λ d. kept_weaker true (says_of number) P (λ found. Unit {0}) d (λ found is. tt)) (keeps was.earlier was.more was.kept)

-- so one behind another
pub goes_on_then : (number : ℕ) (first middle last : MemoryDisk) → GoesOn number first middle → GoesOn number middle last → GoesOn number first last
goes_on_then number first middle last = joined (history_in first) (history_in middle) (history_in last) (IsGuarded number)

-- an empty disk, and what a crash leaves
pub empty_if : (result : Result MemoryDisk NoMemory) → IfOk result (λ disk. history_in disk ≡ history_of []) → IfOk result (IsFresh [] None) → IfOk result IsEmpty
empty_if (Ok disk) empty fresh = record { empty = empty; fresh = fresh }
empty_if (Err fault) empty fresh = tt

pub crash_if : (number : ℕ) (pick : Pick) (old : MemoryDisk) (result : Result MemoryDisk NoMemory) → pick ≡ pick_of number → IfOk result (λ left. HoldsPicked pick (held_in old) (held_in left))
    → IfOk result (λ left. MayLeave (held_in old) (reading (held_in left))) → IfOk result (IsFresh [] None) → IfOk result (IsCrashed number old)
crash_if number pick old (Ok left) is picked leaves fresh =
    record { picked = subst (λ (p : Pick). HoldsPicked p (held_in old) (held_in left)) is picked; leaves = leaves; fresh = fresh }
crash_if number pick old (Err fault) is picked leaves fresh = tt

-- the file of a complete item
pub file_if : (desk : Desk) (item : Item) (result : Result (List ℕ) NoMemory) → item_in 1 desk.items.items ≡ Some item → IfOk result (IsComplete item) → IfOk result (HasFile desk)
file_if desk item (Ok name) there complete = record { item = item; there = there; complete = complete }
file_if desk item (Err fault) there complete = tt

-- what the second session does on its desk
pub continues_if : (old asked new : Desk) (before after : NetState) (result : Result (List ℕ) NoMemory) → Resumes old asked → Brings asked new before after → IfOk result (HasFile new) → IfOk result (λ name. Continues old new name before after)
continues_if old asked new before after (Ok name) resumes brings file = record { asked = asked; resumes = resumes; brings = brings; file = file }
continues_if old asked new before after (Err fault) resumes brings file = tt

pub on_ok : {T E P : Type 0} (result : Result T E) → P → OnOk result P
on_ok (Ok value) is = is
on_ok (Err fault) is = tt
