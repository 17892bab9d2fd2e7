-- What is kept of the journal alone, and of a folder in which the files of all items are kept, is kept together.
use Rattle.std.proofs.Common.{◌≡◌, inl, inr, ℕ, Bool, true, false, List, [], ◌∷◌, ◌++◌, sym, ap, subst}
use Rattle.dm_types.specs.declared.entry.Entry.{Entry}
use Rattle.dm_types.specs.declared.item.Item.{Item}
use Rattle.dm_disk_model.specs.Beside.{IsFirmBut}
use Rattle.dm_disk_model.specs.Disk.{DiskState}
use Rattle.dm_disk_model.specs.Folder.{Folder}
use Rattle.dm_types.specs.Name.{IsPart}
use Rattle.dm_item.specs.Lawful.{History, items_of}
use Rattle.dm_kept.specs.Files.{Covers, EndsLive, Facts, IfGood, PartsStand, Says, no_covers}
use Rattle.dm_kept.specs.Kept.{Kept, Rests, Sits}
use Rattle.dm_kept.specs.Recovery.{Found, Through, recovered}
use Rattle.dm_kept.proofs.FilesKept.{facts_sound}

-- the journal has the one history or the other
either_of : (before : History) (entry : Entry) (history : History) (P : List Item → Type 0) → P (items_of before) → P (items_of (before ++ entry ∷ [])) → Through before (entry ∷ []) (recovered history) → P (items_of history)
either_of before entry history P one two (inl same) = subst P (sym (ap (λ (f : Found). f.items) same)) one
either_of before entry history P one two (inr same) = subst P (sym (ap (λ (f : Found). f.items) same)) two

pub lift_kept : (good : Bool) (says : Says) (before : History) (entry : Entry) (disk : DiskState) → IfGood good (Facts says no_covers (items_of before) disk.files) → IfGood good (Facts says no_covers (items_of (before ++ entry ∷ [])) disk.files)
    → Kept false says (Through before (entry ∷ [])) disk → Kept good says (Through before (entry ∷ [])) disk
lift_kept false says before entry disk one two kept = kept
lift_kept true says before entry disk one two kept = λ image left.
    let is = kept image left in
    let facts : Facts says no_covers (items_of is.history) disk.files = either_of before entry is.history (λ (items : List Item). Facts says no_covers items disk.files) one two is.items in
    record { history = is.history; recorded = is.recorded; taken = is.taken; items = is.items; facts = facts; sound = facts_sound says (items_of is.history) disk image left facts }

pub lift_sits : (good : Bool) (says : Says) (history : History) (gate : ℕ) (covers : Covers) (disk : DiskState) → IfGood good (Facts says covers (items_of history) disk.files) → IfGood good (EndsLive covers (items_of history) disk.files)
    → Sits false says history gate covers disk → Sits good says history gate covers disk
lift_sits good says history gate covers disk facts ends sits = record {
  rests = record { journal = sits.rests.journal; entries = sits.rests.entries; taken = sits.rests.taken; facts = facts };
  quiet = sits.quiet;
  stand = sits.stand;
  ends = ends;
}

-- of a disk that isn't good less is asked for
pub less_sits : (good : Bool) (says : Says) (history : History) (gate : ℕ) (covers : Covers) (disk : DiskState) → Rests good says history gate covers disk → IsFirmBut IsPart disk.files → PartsStand (items_of history) disk.files → Sits false says history gate covers disk
less_sits good says history gate covers disk rests quiet stand = record {
  rests = record { journal = rests.journal; entries = rests.entries; taken = rests.taken; facts = tt };
  quiet = quiet;
  stand = stand;
  ends = tt;
}
