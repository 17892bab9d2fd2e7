-- After any calls the disk is sound: no two names share a file, and no file was synced longer than it is.
-- These proofs stand in specs since the ghost member `sound` of the disk is one of them, and such a member imports from nowhere else.
use Rattle.std.specs.Prelude.{◌≡◌, ◌≢◌, ℕ, ◌+◌, ◌<◌, ◌==◌, Bool, true, false, List, [], ◌∷◌, length, Some, refl}
use Rattle.std.proofs.Common.{subst, ⊎_elim, cond, arith, zero-add}
use Rattle.std.proofs.lemmas.Option.{none-some}
use Rattle.dm_disk_model.specs.File.{File, empty_file, synced_file}
use Rattle.dm_disk_model.specs.Folder.{Names, Change, Created, Renamed, Removed, Folder, AreApart, names_of}
use Rattle.dm_disk_model.specs.Disk.{DiskState, IsSoundDisk}
use Rattle.dm_disk_model.specs.declared.place.Area.{Area}
use Rattle.dm_disk_model.specs.declared.place.Area.TheVariants.{State, Files}
use Rattle.dm_disk_model.proofs.FileBytes.{length-overwrite}
use Rattle.dm_disk_model.proofs.PendingNames.{each_more, each_now, each_synced, had_created, had_renamed, had_removed, AreApart-created, AreApart-renamed, AreApart-removed}
use Rattle.dm_disk.specs.declared.call.Call.{Call}
use Rattle.dm_disk.specs.declared.call.Act.{Act}
use Rattle.dm_disk.specs.declared.call.Act.TheVariants.{Create, Write, Sync, Rename, Remove, SyncNames}
use Rattle.dm_disk.specs.Made.{AreBelow, IsWithin, IsMade, IsMadeDisk}
use Rattle.dm_disk.specs.Calls.{with_file, written_file, folder_after, in_folder, disk_from, disk_after, empty_folder, empty_disk}

later : (bound : ℕ) (folder : Folder) → IsMade bound folder → IsMade (bound + 1) folder
later bound folder made = record {
  below = λ count name number has. let here = made.below count name number has in omega (arith, here);
  apart = made.apart;
  within = made.within;
}

pub each_file : (files : ℕ → File) (number : ℕ) (file : File) (P : File → Type 0) → P file → ((other : ℕ) → P (files other)) → (other : ℕ) → P (with_file files number file other)
each_file files number file P here others other = by (other == number)
  where
    by : (test : Bool) → P (cond test file (files other))
    by true = here
    by false = others other

created : (bound : ℕ) (name : List ℕ) (folder : Folder) → IsMade bound folder → IsMade (bound + 1) (folder_after bound (Create name) folder)
created bound name folder made =
    let change : Change = Created name bound in
    let next : Folder = folder_after bound (Create name) folder in
    let names : Names = names_of folder in
    let below_now = each_now folder (AreBelow bound) made.below in
    let apart_now = each_now folder AreApart made.apart in
    let unused : (other : List ℕ) → names other ≢ Some bound = λ other has. let low = below_now other bound has in absurd (omega (arith, low)) in
    record {
      below = each_more folder next change (AreBelow (bound + 1)) refl refl (later bound folder made).below
          (λ other number has. ⊎_elim
          (λ new. subst (λ (n : ℕ). n < bound + 1) new.1 (omega arith))
          (λ old. let low = below_now other number old.1 in omega (arith, low))
          (had_created names name bound other number has));
      apart = each_more folder next change AreApart refl refl made.apart (AreApart-created names name bound unused apart_now);
      within = each_file folder.file bound empty_file IsWithin (omega arith) made.within;
    }

renamed : (bound : ℕ) (from to : List ℕ) (folder : Folder) → IsMade bound folder → IsMade (bound + 1) (folder_after bound (Rename from to) folder)
renamed bound from to folder made =
    let change : Change = Renamed from to in
    let next : Folder = folder_after bound (Rename from to) folder in
    let names : Names = names_of folder in
    let below_now = each_now folder (AreBelow bound) made.below in
    record {
      below = each_more folder next change (AreBelow (bound + 1)) refl refl (later bound folder made).below
          (λ other number has. ⊎_elim
          (λ new. let low = below_now from number new.1 in omega (arith, low))
          (λ old. let low = below_now other number old.2 in omega (arith, low))
          (had_renamed names from to other number has));
      apart = each_more folder next change AreApart refl refl made.apart (AreApart-renamed names from to (each_now folder AreApart made.apart));
      within = made.within;
    }

removed : (bound : ℕ) (name : List ℕ) (folder : Folder) → IsMade bound folder → IsMade (bound + 1) (folder_after bound (Remove name) folder)
removed bound name folder made =
    let change : Change = Removed name in
    let next : Folder = folder_after bound (Remove name) folder in
    let names : Names = names_of folder in
    let below_now = each_now folder (AreBelow bound) made.below in
    record {
      below = each_more folder next change (AreBelow (bound + 1)) refl refl (later bound folder made).below
          (λ other number has. let low = below_now other number (had_removed names name other number has).1 in omega (arith, low));
      apart = each_more folder next change AreApart refl refl made.apart (AreApart-removed names name (each_now folder AreApart made.apart));
      within = made.within;
    }

written : (bound file at : ℕ) (bytes : List ℕ) (folder : Folder) → IsMade bound folder → IsMade (bound + 1) (folder_after bound (Write file at bytes) folder)
written bound file at bytes folder made = record {
  below = (later bound folder made).below;
  apart = made.apart;
  within = each_file folder.file file (written_file at bytes (folder.file file)) IsWithin
      (let old = made.within file in omega (arith, old, length-overwrite (folder.file file).bytes at bytes)) made.within;
}

synced : (bound file : ℕ) (folder : Folder) → IsMade bound folder → IsMade (bound + 1) (folder_after bound (Sync file) folder)
synced bound file folder made = record {
  below = (later bound folder made).below;
  apart = made.apart;
  within = each_file folder.file file (synced_file (folder.file file)) IsWithin (omega arith) made.within;
}

names_synced : (bound : ℕ) (folder : Folder) → IsMade bound folder → IsMade (bound + 1) (folder_after bound SyncNames folder)
names_synced bound folder made =
    let next : Folder = folder_after bound SyncNames folder in
    record {
      below = each_synced next (AreBelow (bound + 1)) refl (each_now folder (AreBelow (bound + 1)) (later bound folder made).below);
      apart = each_synced next AreApart refl (each_now folder AreApart made.apart);
      within = made.within;
    }

acted : (bound : ℕ) (act : Act) (folder : Folder) → IsMade bound folder → IsMade (bound + 1) (folder_after bound act folder)
acted bound (Create name) folder made = created bound name folder made
acted bound (Write file at bytes) folder made = written bound file at bytes folder made
acted bound (Sync file) folder made = synced bound file folder made
acted bound (Rename from to) folder made = renamed bound from to folder made
acted bound (Remove name) folder made = removed bound name folder made
acted bound SyncNames folder made = names_synced bound folder made

called : (bound : ℕ) (area : Area) (act : Act) (disk : DiskState) → IsMadeDisk bound disk → IsMadeDisk (bound + 1) (in_folder area (folder_after bound act) disk)
called bound State act disk made = record { state = acted bound act disk.state made.state; files = later bound disk.files made.files }
called bound Files act disk made = record { state = later bound disk.state made.state; files = acted bound act disk.files made.files }

made_from : (bound : ℕ) (calls : List Call) (disk : DiskState) → IsMadeDisk bound disk → IsMadeDisk (bound + length calls) (disk_from bound calls disk)
made_from bound [] disk made =
    let same : bound ≡ bound + 0 = omega arith in subst (λ (n : ℕ). IsMadeDisk n disk) same made
made_from bound (call ∷ calls) disk made =
    let next : DiskState = in_folder call.area (folder_after bound call.act) disk in
    let last = made_from (bound + 1) calls next (called bound call.area call.act disk made) in
    let same : (bound + 1) + length calls ≡ bound + length (call ∷ calls) = omega arith in
    subst (λ (n : ℕ). IsMadeDisk n (disk_from (bound + 1) calls next)) same last

nothing : IsMade 0 empty_folder
nothing = record {
  below = each_synced empty_folder (AreBelow 0) refl (λ name number has. absurd (none-some number has));
  apart = each_synced empty_folder AreApart refl (λ a b number has_a has_b. absurd (none-some number has_a));
  within = λ number. omega arith;
}

-- each file that has a name was made by one of the calls
pub made_after : (calls : List Call) → IsMadeDisk (length calls) (disk_after calls)
made_after calls =
    subst (λ (n : ℕ). IsMadeDisk n (disk_after calls)) (zero-add (length calls)) (made_from 0 calls empty_disk (record { state = nothing; files = nothing }))

pub sound_after : (calls : List Call) → IsSoundDisk (disk_after calls)
sound_after calls =
    let made = made_after calls in
    record {
      state = record { apart = made.state.apart; within = made.state.within };
      files = record { apart = made.files.apart; within = made.files.within };
    }
