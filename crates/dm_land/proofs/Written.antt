-- A piece is written at a free place of the part of an item that runs: what the disk keeps.
use Rattle.std.proofs.Common.{◌≡◌, ◌≢◌, ◌⊎◌, inl, inr, ℕ, ◌+◌, ◌<◌, ◌≤◌, ◌==◌, Bool, true, false, IsTrue, List, [], length, get_or, Option, Some, None, Result, Ok, Err, refl, sym, ◌∙◌, ap, subst, arith}
use Rattle.std.specs.Prelude.{IfSome, IsSome, is_some, slice_get}
use Rattle.std.proofs.lemmas.Bool.{false≢true}
use Rattle.std.proofs.lemmas.Option.{slice_get-get_or}
use Rattle.dm_types.specs.Name.{IsPart, part_name}
use Rattle.dm_types.specs.declared.item.Item.{Item}
use Rattle.dm_types.specs.declared.item.ItemId.{ItemId}
use Rattle.dm_types.specs.declared.item.Key.{Key}
use Rattle.dm_types.specs.declared.slices.Slice.{Slice}
use Rattle.dm_slice.specs.Cover.{IsAdded, IsCover, grown, limit_at, next_of}
use Rattle.dm_slice.specs.Words.{HasByte, Holds, cover_end}
use Rattle.dm_slice.proofs.Covers.{length-grown, places-grown}
use Rattle.dm_slice.proofs.Ends.{added_range, free_at}
use Rattle.dm_disk_model.specs.declared.place.DiskFault.{DiskFault}
use Rattle.dm_disk_model.specs.declared.place.Place.{Place}
use Rattle.dm_disk_model.specs.Disk.{DiskState, IsSoundDisk, WriteStep}
use Rattle.dm_disk_model.specs.File.{IsTorn, IsWritten, overwrite}
use Rattle.dm_disk_model.specs.Folder.{FileSteps, Folder, Names, after_changes, contents_of, names_of}
use Rattle.dm_disk_model.proofs.FileBytes.{length-overwrite}
use Rattle.dm_disk_model.proofs.Places.{write_others, write_reads}
use Rattle.dm_disk_model.proofs.Reading.{stepped_read}
use Rattle.dm_item.specs.Fields.{is_running}
use Rattle.dm_item.specs.History.{get}
use Rattle.dm_item.specs.Lawful.{History, IsOf, items_of}
use Rattle.dm_item.specs.Listing.{Listing, item_in}
use Rattle.dm_item.proofs.Shorts.{sound_in}
use Rattle.dm_part.specs.Keeping.{Going, IsFree, Held, Lands, Stage}
use Rattle.dm_part.specs.Laws.{files_place}
use Rattle.dm_part.proofs.Calls.{put_held}
use Rattle.dm_part.proofs.Names.{one_name}
use Rattle.dm_kept.specs.Files.{Covers, EachItem, EndsLive, Fact, Facts, FileKept, IsSmall, PartsStand, Says, brings, claim_of, live_of, stage_of}
use Rattle.dm_kept.specs.Spelled.{AllEntries}
use Rattle.dm_kept.proofs.Entered.{fact_of, items_are}
use Rattle.dm_kept.proofs.Frame.{facts_of_one, facts_write}
use Rattle.dm_kept.proofs.Lists.{eq_is, eq_not, id_in, some_is}
use Rattle.dm_kept.proofs.Ranges.{small_items}
use Rattle.dm_store.proofs.Found.{There, there_is}
use Rattle.dm_store.proofs.Saved.{going_is}
use Rattle.dm_land.proofs.Grown.{end_one, next_grown}

-- The step leaves the journal's folder and the names.

pub state_written : (part : List ℕ) (at : ℕ) (piece : List ℕ) (answer : Result (Unit {0}) DiskFault) (old disk : DiskState) → WriteStep (files_place part) at piece answer old disk → disk.state ≡ old.state
state_written part at piece (Ok done) old disk taken = taken.1
state_written part at piece (Err fault) old disk (inl taken) = taken.1
state_written part at piece (Err fault) old disk (inr same) = ap (λ (d : DiskState). d.state) same

pub names_written : (part : List ℕ) (at : ℕ) (piece : List ℕ) (answer : Result (Unit {0}) DiskFault) (old disk : DiskState) → WriteStep (files_place part) at piece answer old disk → names_of disk.files ≡ names_of old.files
names_written part at piece (Ok done) old disk taken = ap (λ (s : Names). after_changes s disk.files.changes) taken.0.synced ∙ ap (after_changes old.files.synced) taken.0.changes
names_written part at piece (Err fault) old disk (inl taken) = ap (λ (s : Names). after_changes s disk.files.changes) taken.0.synced ∙ ap (after_changes old.files.synced) taken.0.changes
names_written part at piece (Err fault) old disk (inr same) = ap (λ (d : DiskState). names_of d.files) same

-- so the parts that stood stand
pub stand_written : (part : List ℕ) (at : ℕ) (piece : List ℕ) (answer : Result (Unit {0}) DiskFault) (items : List Item) (old disk : DiskState) → WriteStep (files_place part) at piece answer old disk → PartsStand items old.files → PartsStand items disk.files
stand_written part at piece answer items old disk taken stand k item is brought =
    subst (λ (names : Names). IsSome (names (part_name item.id.0 item.epoch.0))) (sym (names_written part at piece answer old disk taken)) (stand k item is brought)

-- An item with an id, described, of which an attempt runs, and a place behind one of the slices of its live cover.
module _ (says : Says) (covers : Covers) (history : History) (v : Listing) (is_of : IsOf history v) (entries : AllEntries history) (id : ItemId) (one : Item) (there : item_in id.0 v.items ≡ Some one) (runs : IsTrue (is_running one.phase)) (told : is_some one.key ≡ true)
    (cover : List Slice) (live : covers id.0 ≡ Some cover) (is_cover : IsCover cover) (index at : ℕ) (piece : List ℕ) (next : next_of cover index ≡ Some at) (room : at + length piece ≤ limit_at cover index) (low : IfSome one.total (λ t. at + length piece ≤ t))
    (old : DiskState) (sound : IsSoundDisk old) where
  abbrev part : List ℕ
  part = part_name one.id.0 one.epoch.0

  there_in : item_in id.0 (items_of history) ≡ Some one
  there_in = subst (λ (list : List Item). item_in id.0 list ≡ Some one) (items_are history v is_of) there

  small : EachItem IsSmall (items_of history)
  small = small_items history is_of.lawful entries

  key_there : There one.key
  key_there = there_is one.key told

  address_there : There one.last_address
  address_there = there_is one.last_address ((sound_in history v id.0 one is_of there).told.has_address ∙ told)

  name_there : There one.name
  name_there = there_is one.name ((sound_in history v id.0 one is_of there).told.has_name ∙ told)

  ids : one.id.0 ≡ id.0
  ids = id_in id.0 one (items_of history) there_in

  live_is : live_of covers one ≡ cover
  live_is = ap (λ (found : Option (List Slice)). get found one.slices) (ap covers ids ∙ live)

  free : (name : List ℕ) → IsFree (claim_of name (live_of covers one) one) at (length piece)
  free name = record { beside = λ place has. free_at cover index at (length piece) place is_cover next room (subst (λ (l : List Slice). HasByte l place) live_is has); within = low }

  -- Whatever it answers, the facts stay.
  pub facts_written : (answer : Result (Unit {0}) DiskFault) (disk : DiskState) → WriteStep (files_place part) at piece answer old disk → Facts says covers (items_of history) old.files → Facts says covers (items_of history) disk.files
  facts_written answer disk taken =
      facts_write says covers (items_of history) old disk answer id.0 one key_there.it address_there.it name_there.it there_in small sound key_there.is address_there.is name_there.is at piece (going_is one.phase runs) (free name_there.it) taken

  -- Another part reads as before.

  other_part : (k : ℕ) (item : Item) → k ≢ id.0 → item_in k (items_of history) ≡ Some item → part_name item.id.0 item.epoch.0 ≡ part → ⊥
  other_part k item apart is same =
      let theirs = small k item is in
      let mine = small id.0 one there_in in
      apart (sym (id_in k item (items_of history) is) ∙ (one_name item.id.0 item.epoch.0 one.id.0 one.epoch.0 theirs.id theirs.epoch mine.id mine.epoch same).0 ∙ ids)

  pub other_reads : (answer : Result (Unit {0}) DiskFault) (disk : DiskState) → WriteStep (files_place part) at piece answer old disk → (k : ℕ) (item : Item) → k ≢ id.0 → item_in k (items_of history) ≡ Some item
      → contents_of disk.files (part_name item.id.0 item.epoch.0) ≡ contents_of old.files (part_name item.id.0 item.epoch.0)
  other_reads answer disk taken k item apart is =
      write_others (files_place part) old disk sound at piece answer taken (files_place (part_name item.id.0 item.epoch.0)) (λ same. other_part k item apart is (ap (λ (p : Place). p.name) same))

  -- After Ok the live cover may have grown by the piece.
  module _ (holds : Holds cover one.slices) (single : one.total ≡ None → length cover ≡ 1) (after : Covers) (mine : after id.0 ≡ Some (grown cover index (length piece))) (others : (k : ℕ) → k ≢ id.0 → after k ≡ covers k) where
    live_after : live_of after one ≡ grown cover index (length piece)
    live_after = ap (λ (found : Option (List Slice)). get found one.slices) (ap after ids ∙ mine)

    moved : (folder : Folder) (k : ℕ) (item : Item) → k ≢ id.0 → item_in k (items_of history) ≡ Some item → live_of after item ≡ live_of covers item
    moved folder k item apart is = ap (λ (found : Option (List Slice)). get found item.slices) (others item.id.0 (λ same. apart (sym (id_in k item (items_of history) is) ∙ same)))

    module _ (said : (key : Key) (address : List ℕ) → one.key ≡ Some key → one.last_address ≡ Some address → (i byte : ℕ) → slice_get piece i ≡ Some byte → says address key (at + i) byte) where
      lands : Lands (says address_there.it key_there.it) (claim_of name_there.it (live_of covers one) one) at piece (grown cover index (length piece))
      lands = record {
        free = free name_there.it;
        said = λ i below. said key_there.it address_there.it key_there.is address_there.is i (get_or piece i 0) (slice_get-get_or piece i 0 below);
        grown = λ place has. by place ((places-grown cover index (length piece) place).0 has);
        holds = λ place has. (places-grown cover index (length piece) place).1 (inl (holds place has));
      }
        where
          by : (place : ℕ) → HasByte cover place ⊎ IsAdded cover index (length piece) place → HasByte (live_of covers one) place ⊎ ((at ≤ place) × (place < at + length piece))
          by place (inl has) = inl (subst (λ (l : List Slice). HasByte l place) (sym live_is) has)
          by place (inr added) = inr ((added_range cover index at (length piece) place next).0 added)

      own : (disk : DiskState) → WriteStep (files_place part) at piece (Ok tt) old disk → Facts says covers (items_of history) old.files → Fact says after disk.files one
      own disk taken facts =
          let kept : FileKept (says address_there.it key_there.it) old.files (Some Going) (claim_of name_there.it (live_of covers one) one) =
          subst (λ (s : Option Stage). FileKept (says address_there.it key_there.it) old.files s (claim_of name_there.it (live_of covers one) one)) (going_is one.phase runs)
          (facts id.0 one there_in key_there.it address_there.it name_there.it key_there.is address_there.is name_there.is) in
          let held : Held (says address_there.it key_there.it) disk.files (claim_of name_there.it (grown cover index (length piece)) one) =
          put_held (says address_there.it key_there.it) (claim_of name_there.it (live_of covers one) one) (grown cover index (length piece)) at piece (Ok tt) old disk refl lands kept.0 taken in
          fact_of says after disk.files one key_there.it address_there.it name_there.it key_there.is address_there.is name_there.is
          (subst (λ (s : Option Stage). FileKept (says address_there.it key_there.it) disk.files s (claim_of name_there.it (live_of after one) one)) (sym (going_is one.phase runs))
          (subst (λ (l : List Slice). Held (says address_there.it key_there.it) disk.files (claim_of name_there.it l one)) (sym live_after) held, kept.1))

      pub facts_landed : (disk : DiskState) → WriteStep (files_place part) at piece (Ok tt) old disk → Facts says covers (items_of history) old.files → Facts says after (items_of history) disk.files
      facts_landed disk taken facts =
          facts_of_one says covers after (items_of history) old.files disk.files id.0
          (λ k item apart is fact key address name key_is address_is name_is.
          subst (λ (l : List Slice). FileKept (says address key) disk.files (stage_of item.phase) (claim_of name l item)) (sym (moved disk.files k item apart is))
          (facts_written (Ok tt) disk taken facts k item is key address name key_is address_is name_is))
          (λ item is fact. subst (λ (i : Item). Fact says after disk.files i) (some_is one item (sym there_in ∙ is)) (own disk taken facts)) facts

    -- Where its total isn't known, the part ends where the live cover does.

    own_end : (disk : DiskState) → WriteStep (files_place part) at piece (Ok tt) old disk → EndsLive covers (items_of history) old.files → IsTrue (brings one) → one.total ≡ None → (bytes : List ℕ) → contents_of disk.files part ≡ Some bytes
        → length bytes ≡ cover_end (live_of after one)
    own_end disk taken ends brought none bytes reads =
        let file : List ℕ = (old.files.file taken.0.number).bytes in
        let was : contents_of old.files part ≡ Some file = stepped_read part (IsWritten at piece) old.files disk.files taken.0 in
        let now_is : contents_of disk.files part ≡ Some (overwrite file at piece) = write_reads (files_place part) at piece file old disk was taken in
        let same : bytes ≡ overwrite file at piece = some_is bytes (overwrite file at piece) (sym reads ∙ now_is) in
        let size = length-overwrite file at piece in
        let ended : length file ≡ cover_end (live_of covers one) = ends id.0 one there_in brought none file was in
        let front : cover_end (live_of covers one) ≡ at = ap cover_end live_is ∙ end_one cover index at (single none) next in
        let back : cover_end (live_of after one) ≡ at + length piece =
        ap cover_end live_after ∙ end_one (grown cover index (length piece)) index (at + length piece) (length-grown cover index (length piece) ∙ single none) (next_grown cover index (length piece) at next) in
        let long : length bytes ≡ length (overwrite file at piece) = ap length same in
        omega (arith, long, size, ended, front, back)

    pub ends_landed : (disk : DiskState) → WriteStep (files_place part) at piece (Ok tt) old disk → EndsLive covers (items_of history) old.files → EndsLive after (items_of history) disk.files
    ends_landed disk taken ends k item is brought none bytes reads = by (k == id.0) refl
      where
        by : (test : Bool) → (k == id.0) ≡ test → length bytes ≡ cover_end (live_of after item)
        by true same =
            let here : k ≡ id.0 = eq_is k id.0 same in
            let it : one ≡ item = some_is one item (sym there_in ∙ subst (λ (n : ℕ). item_in n (items_of history) ≡ Some item) here is) in
            subst (λ (i : Item). IsTrue (brings i) → i.total ≡ None → contents_of disk.files (part_name i.id.0 i.epoch.0) ≡ Some bytes → length bytes ≡ cover_end (live_of after i)) it
            (λ b n r. own_end disk taken ends b n bytes r) brought none reads
        by false other =
            let apart : k ≢ id.0 = eq_not k id.0 other in
            ends k item is brought none bytes (sym (other_reads (Ok tt) disk taken k item apart is) ∙ reads) ∙ ap cover_end (sym (moved disk.files k item apart is))
