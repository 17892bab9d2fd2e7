-- What finding the list of a disk did.
use Rattle.std.specs.Prelude.{◌≡◌, ◌⊎◌, ℕ, None, length}
use Rattle.dm_disk_model.specs.Disk.{DiskState, Image, History as Clock, MayLeave, StandsNot, bytes_at, now}
use Rattle.dm_item.specs.Lawful.{History, IsOf}
use Rattle.dm_item.specs.Listing.{Listing}
use Rattle.dm_journal.specs.AtRest.{AtRest, journal_place}
use Rattle.dm_journal.specs.Starting.{NoneOrBlank}
use Rattle.dm_journal.specs.Text.{front}
use Rattle.dm_journal.specs.declared.fault.JournalFault.{JournalFault}
use Rattle.dm_journal.specs.declared.fault.JournalFault.TheVariants as faults
use Rattle.dm_kept.specs.Room.{IsTaken}
use Rattle.dm_kept.specs.Spelled.{AllEntries, Records, bodies_of}
use Rattle.dm_answers.specs.Opening.{IsUnchanged, OnlyBefore, ReadsDamage}

-- a crash leaves what one at the start might have, or, where nothing stood as the journal, none or one of no entries
abbrev pub FindLeaves : DiskState → Image → Type 0
FindLeaves start image = MayLeave start image ⊎ (StandsNot start journal_place × NoneOrBlank image)

-- What read as the journal is this history, which a desk with this limit takes. The items are those that it leaves, and it is durable now.
pub record IsFound (tells : Type 0) (start end : Clock) (limit gate : ℕ) (items : Listing) : Type 0 where
  pub found : History
  pub entries : AllEntries found
  pub taken : IsTaken limit found
  pub list : IsOf found items
  pub gate_is : gate ≡ length (front (bodies_of found))
  pub reads : tells → Records (bytes_at (now start) journal_place) found
  pub rest : tells → AtRest (now end) gate (bodies_of found)

-- No journal was read: every image has what one at the start might have, or nothing stood as the journal, and none or one of no entries is left.
abbrev pub IsUnread : Clock → Clock → Type 0
IsUnread start end = OnlyBefore start end ⊎ ((bytes_at (now start) journal_place ≡ None) × ((image : Image) → MayLeave (now end) image → NoneOrBlank image))

-- why no list was found
abbrev pub FindFails : Clock → Clock → ℕ → JournalFault → Type 0
FindFails start end limit (faults.Damaged place) = ReadsDamage (now start) limit place × IsUnchanged start end
FindFails start end limit (faults.Disk kind) = IsUnread start end
FindFails start end limit faults.NoMemory = IsUnread start end
