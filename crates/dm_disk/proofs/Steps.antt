-- What each call that is recorded does, as a step of the disk.
use Rattle.std.proofs.Common.{◌≡◌, ℕ, List, [], ◌∷◌, ◌++◌, length, Some, Ok, refl, sym, subst, arith}
use Rattle.dm_disk_model.specs.File.{File, IsWritten, IsSynced, empty_file, synced_file}
use Rattle.dm_disk_model.specs.Folder.{Folder, Renamed, Removed, Creates, Changes, SyncsNames, FileSteps, names_of}
use Rattle.dm_disk_model.specs.Disk.{Next, folder_in, CreateStep, WriteStep, SyncStep, RenameStep, RemoveStep, SyncNamesStep}
use Rattle.dm_disk_model.specs.declared.place.Area.{Area}
use Rattle.dm_disk_model.specs.declared.place.Area.TheVariants.{State, Files}
use Rattle.dm_disk_model.specs.declared.place.Place.{Place}
use Rattle.dm_disk.specs.declared.call.Call.{Call}
use Rattle.dm_disk.specs.declared.call.Act.TheVariants.{Create, Write, Sync, Rename, Remove, SyncNames}
use Rattle.dm_disk.specs.Calls.{folder_after, disk_after, history_of, written_file}
use Rattle.dm_disk.specs.Made.{IsMade}
use Rattle.dm_disk.specs.SoundCalls.{made_after}
use Rattle.dm_disk.proofs.Moments.{pushed_to}
use Rattle.dm_disk.proofs.Replay.{in_area, with_file_same, with_file_other}

made_in : (area : Area) (calls : List Call) → IsMade (length calls) (folder_in area (disk_after calls))
made_in State calls = (made_after calls).state
made_in Files calls = (made_after calls).files

creates : (number : ℕ) (name : List ℕ) (folder : Folder) → IsMade number folder → Creates name folder (folder_after number (Create name) folder)
creates number name folder made = record {
  number = number;
  unused = λ count other has. let low = made.below count other number has in absurd (omega (arith, low));
  empty = with_file_same folder.file number empty_file;
  others = λ other apart. with_file_other folder.file number empty_file other apart;
  synced = refl;
  changes = refl;
}

pub created : (calls later : List Call) (place : Place) → later ≡ calls ++ record { area = place.area; act = Create place.name } ∷ []
    → Next (history_of calls) (history_of later) (CreateStep place (Ok tt))
created calls later place is =
    pushed_to calls later (record { area = place.area; act = Create place.name }) (CreateStep place (Ok tt)) is
    (in_area place.area (Creates place.name) (folder_after (length calls) (Create place.name)) (disk_after calls)
    (creates (length calls) place.name (folder_in place.area (disk_after calls)) (made_in place.area calls)))

writes : (number file : ℕ) (name : List ℕ) (at : ℕ) (bytes : List ℕ) (folder : Folder) → names_of folder name ≡ Some file
    → FileSteps name (IsWritten at bytes) folder (folder_after number (Write file at bytes) folder)
writes number file name at bytes folder stands =
    let written : File = written_file at bytes (folder.file file) in
    record {
      number = file;
      stands = stands;
      stepped = subst (λ (new : File). IsWritten at bytes (folder.file file) new) (sym (with_file_same folder.file file written)) (record { bytes = refl; synced = refl; touched = refl });
      others = λ other apart. with_file_other folder.file file written other apart;
      synced = refl;
      changes = refl;
    }

pub wrote : (calls later : List Call) (place : Place) (file at : ℕ) (bytes : List ℕ) → names_of (folder_in place.area (disk_after calls)) place.name ≡ Some file
    → later ≡ calls ++ record { area = place.area; act = Write file at bytes } ∷ [] → Next (history_of calls) (history_of later) (WriteStep place at bytes (Ok tt))
wrote calls later place file at bytes stands is =
    pushed_to calls later (record { area = place.area; act = Write file at bytes }) (WriteStep place at bytes (Ok tt)) is
    (in_area place.area (FileSteps place.name (IsWritten at bytes)) (folder_after (length calls) (Write file at bytes)) (disk_after calls)
    (writes (length calls) file place.name at bytes (folder_in place.area (disk_after calls)) stands))

syncs : (number file : ℕ) (name : List ℕ) (folder : Folder) → names_of folder name ≡ Some file → FileSteps name IsSynced folder (folder_after number (Sync file) folder)
syncs number file name folder stands =
    let synced : File = synced_file (folder.file file) in
    record {
      number = file;
      stands = stands;
      stepped = with_file_same folder.file file synced;
      others = λ other apart. with_file_other folder.file file synced other apart;
      synced = refl;
      changes = refl;
    }

pub synced : (calls later : List Call) (place : Place) (file : ℕ) → names_of (folder_in place.area (disk_after calls)) place.name ≡ Some file
    → later ≡ calls ++ record { area = place.area; act = Sync file } ∷ [] → Next (history_of calls) (history_of later) (SyncStep place (Ok tt))
synced calls later place file stands is =
    pushed_to calls later (record { area = place.area; act = Sync file }) (SyncStep place (Ok tt)) is
    (in_area place.area (FileSteps place.name IsSynced) (folder_after (length calls) (Sync file)) (disk_after calls)
    (syncs (length calls) file place.name (folder_in place.area (disk_after calls)) stands))

pub renamed : (calls later : List Call) (from to : Place) → later ≡ calls ++ record { area = from.area; act = Rename from.name to.name } ∷ []
    → Next (history_of calls) (history_of later) (RenameStep from to (Ok tt))
renamed calls later from to is =
    pushed_to calls later (record { area = from.area; act = Rename from.name to.name }) (RenameStep from to (Ok tt)) is
    (in_area from.area (Changes (Renamed from.name to.name)) (folder_after (length calls) (Rename from.name to.name)) (disk_after calls) (record { files = refl; synced = refl; changes = refl }))

pub removed : (calls later : List Call) (place : Place) → later ≡ calls ++ record { area = place.area; act = Remove place.name } ∷ []
    → Next (history_of calls) (history_of later) (RemoveStep place (Ok tt))
removed calls later place is =
    pushed_to calls later (record { area = place.area; act = Remove place.name }) (RemoveStep place (Ok tt)) is
    (in_area place.area (Changes (Removed place.name)) (folder_after (length calls) (Remove place.name)) (disk_after calls) (record { files = refl; synced = refl; changes = refl }))

pub names_synced : (calls later : List Call) (area : Area) → later ≡ calls ++ record { area = area; act = SyncNames } ∷ []
    → Next (history_of calls) (history_of later) (SyncNamesStep area (Ok tt))
names_synced calls later area is =
    pushed_to calls later (record { area = area; act = SyncNames }) (SyncNamesStep area (Ok tt)) is
    (in_area area SyncsNames (folder_after (length calls) SyncNames) (disk_after calls) (record { files = refl; synced = refl; changes = refl }))
