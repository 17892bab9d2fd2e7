-- The names and the journal are made durable.
use Rattle.std.proofs.Common.{◌≡◌, ℕ, List, Some, None, Ok, sym, ◌∙◌, ap, subst}
use Rattle.std.specs.Option.{option_map}
use Rattle.dm_disk_model.specs.declared.place.Area.TheVariants.{State}
use Rattle.dm_disk_model.specs.File.{File, IsSynced}
use Rattle.dm_disk_model.specs.Folder.{Folder, Names, SyncsNames, after_changes, names_of}
use Rattle.dm_disk_model.specs.Firm.{HasFile}
use Rattle.dm_disk_model.specs.Names.{NeverStands}
use Rattle.dm_disk_model.specs.Disk.{DiskState, StandsNot, SyncStep, SyncNamesStep}
use Rattle.dm_disk_model.proofs.PendingNames.{each_synced}
use Rattle.dm_disk_model.proofs.FirmNames.{has_after_sync, steps}
use Rattle.dm_journal.specs.AtRest.{journal_name, journal_place}
use Rattle.dm_journal.specs.Reading.{IsDurable}

names_stay : (old new : Folder) → SyncsNames old new → names_of new ≡ names_of old
names_stay old new taken = ap (λ (s : Names). after_changes s new.changes) taken.synced ∙ ap (after_changes (names_of old)) taken.changes

-- what stands is durable
pub settled_stands : (old mid new : DiskState) → SyncNamesStep State (Ok tt) old mid → SyncStep journal_place (Ok tt) mid new → (bytes : List ℕ) × IsDurable old new bytes
settled_stands old mid new names file =
    let number = file.0.number in
    let named : names_of old.state journal_name ≡ Some number = ap (λ (n : Names). n journal_name) (sym (names_stay old.state mid.state names.0)) ∙ file.0.stands in
    let was : File = old.state.file number in
    let moved = steps mid.state new.state journal_name IsSynced was (has_after_sync old.state mid.state journal_name number named names.0) file.0 in
    (was.bytes, record { reads = ap (option_map (λ k. (old.state.file k).bytes)) named; file = subst (λ (f : File). HasFile new.state journal_name f) moved.stepped moved.has })

-- where nothing stands, no crash puts something there
pub settled_missing : (old mid : DiskState) → SyncNamesStep State (Ok tt) old mid → StandsNot mid journal_place → StandsNot old journal_place × NeverStands journal_place mid
settled_missing old mid names missing =
    let none : names_of old.state journal_name ≡ None = ap (λ (n : Names). n journal_name) (sym (names_stay old.state mid.state names.0)) ∙ missing in
    (none, each_synced mid.state (λ n. n journal_name ≡ None) names.0.changes (ap (λ (n : Names). n journal_name) names.0.synced ∙ none))
