-- What the journal's calls leave of the other places of its folder.
use Rattle.std.proofs.Common.{◌≡◌, None, Result, Ok, Err, OnOk, sym, ◌∙◌, ap}
use Rattle.dm_disk_model.specs.declared.place.Area.TheVariants.{State}
use Rattle.dm_disk_model.specs.declared.place.Place.{Place}
use Rattle.dm_disk_model.specs.declared.place.DiskFault.{DiskFault}
use Rattle.dm_disk_model.specs.Folder.{Names, Renamed, with_name, names_of}
use Rattle.dm_disk_model.specs.Names.{NeverStands}
use Rattle.dm_disk_model.specs.Disk.{DiskState, History, ChangesOnly, RenameStep, SyncNamesStep, bytes_at, now}
use Rattle.dm_disk_model.proofs.PendingNames.{names_more, each_synced, with_name_same, with_name_other}
use Rattle.dm_journal.specs.AtRest.{journal_name, journal_place}
use Rattle.dm_journal.specs.Starting.{spare_name, spare_place, ChangesTheTwo}
use Rattle.dm_journal.proofs.Beginning.{apart}

-- one call after another, at one place and at both
pub only_then : (place : Place) (first middle last : DiskState) → ChangesOnly place first middle → ChangesOnly place middle last → ChangesOnly place first last
only_then place first middle last earlier later other differ = later other differ ∙ earlier other differ

pub two_then : (first middle last : DiskState) → ChangesTheTwo first middle → ChangesTheTwo middle last → ChangesTheTwo first last
two_then first middle last earlier later other not_home not_spare = later other not_home not_spare ∙ earlier other not_home not_spare

-- a call at `journal.new`, a sync of names, and no call
pub two_spare : (old new : DiskState) → ChangesOnly spare_place old new → ChangesTheTwo old new
two_spare old new only other not_home not_spare = only other not_spare

pub two_names : (old new : DiskState) → ((place : Place) → bytes_at new place ≡ bytes_at old place) → ChangesTheTwo old new
two_names old new same other not_home not_spare = same other

pub two_same : (old new : History) → new ≡ old → ChangesTheTwo (now old) (now new)
two_same old new same other not_home not_spare = ap (λ (h : History). bytes_at (now h) other) same

-- once it has its name, nothing stands as `journal.new`
pub spare_gone : (result : Result (Unit {0}) DiskFault) (old middle new : DiskState) → RenameStep spare_place journal_place (Ok tt) old middle → SyncNamesStep State result middle new
    → OnOk result (NeverStands spare_place new)
spare_gone (Ok done) old middle new renamed synced =
    each_synced new.state (λ names. names spare_name ≡ None) synced.0.changes
    (ap (λ (names : Names). names spare_name) synced.0.synced
    ∙ ap (λ (names : Names). names spare_name) (names_more old.state middle.state (Renamed spare_name journal_name) renamed.0.synced renamed.0.changes)
    ∙ with_name_other (with_name (names_of old.state) spare_name None) journal_name (names_of old.state spare_name) spare_name (λ e. apart (sym e))
    ∙ with_name_same (names_of old.state) spare_name None)
spare_gone (Err fault) old middle new renamed synced = tt
