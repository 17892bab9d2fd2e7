-- What a disk holds that was made of a picked image: one of the old disk's images, and no other.
use Rattle.std.proofs.Common.{◌≡◌, ℕ, ◌≤◌, List, [], length, take, Option, Some, None, refl, sym, ◌∙◌, ap, subst, arith}
use Rattle.std.specs.Option.{option_map}
use Rattle.std.proofs.lemmas.List.{take_all}
use Rattle.dm_disk_model.specs.File.{File, FileLeaves, IsAllClean}
use Rattle.dm_disk_model.specs.Folder.{Folder, Contents, Change, FolderLeaves, NameLeaves, IsSoundFolder, names_of, contents_of, after_changes}
use Rattle.dm_disk_model.specs.Disk.{DiskState, Image, MayLeave, IsSoundDisk, reading, now}
use Rattle.dm_disk_model.proofs.Images.{file_as_read, settled_leaves}
use Rattle.dm_disk.specs.declared.image.Pick.{Pick}
use Rattle.dm_disk.specs.declared.image.Pick.TheVariants.{Least, Present}
use Rattle.dm_disk.specs.Image.{IsPicked, NamePicked, FolderPicked, HoldsPicked, HasSame}
use Rattle.dm_disk.specs.declared.call.Call.{Call}
use Rattle.dm_disk.specs.Calls.{disk_after, history_of}
use Rattle.dm_disk.specs.SoundCalls.{sound_after}
use Rattle.dm_disk.proofs.Moments.{now_is}

file_may_leave : (pick : Pick) (file : File) (bytes : List ℕ) → file.synced ≤ length file.bytes → IsPicked pick file bytes → FileLeaves file bytes
file_may_leave Present file bytes within is = subst (λ (xs : List ℕ). FileLeaves file xs) (sym is) (file_as_read file within)
file_may_leave Least file bytes within is = record { clean = is.clean; no_shorter = let l = is.long in omega (arith, l); no_longer = let l = is.long in omega (arith, l, within) }

name_may_leave : (pick : Pick) (files : ℕ → File) (number : Option ℕ) (found : Option (List ℕ)) → ((n : ℕ) → (files n).synced ≤ length (files n).bytes)
    → NamePicked pick files number found → NameLeaves files number found
name_may_leave pick files None None within is = tt
name_may_leave pick files (Some number) (Some bytes) within is = file_may_leave pick (files number) bytes (within number) is
name_may_leave pick files None (Some bytes) within is = absurd is
name_may_leave pick files (Some number) None within is = absurd is

folder_may_leave : (pick : Pick) (old new : Folder) → IsSoundFolder old → FolderPicked pick old new → FolderLeaves old (contents_of new)
folder_may_leave Present old new sound picked =
    let all : take (length old.changes) old.changes ≡ old.changes = take_all (length old.changes) old.changes (omega arith) in
    record {
      survive = length old.changes;
      each = λ name.
          subst (λ (changes : List Change). NameLeaves old.file (after_changes old.synced changes name) (contents_of new name)) (sym all)
          (name_may_leave Present old.file (names_of old name) (contents_of new name) sound.within (picked.each name));
    }
folder_may_leave Least old new sound picked = record {
  survive = 0;
  each = λ name. name_may_leave Least old.file (old.synced name) (contents_of new name) sound.within (picked.each name);
}

-- it is one of the old disk's images
pub may_leave : (pick : Pick) (old new : DiskState) → IsSoundDisk old → HoldsPicked pick old new → MayLeave old (reading new)
may_leave pick old new sound picked = record {
  state = folder_may_leave pick old.state new.state sound.state picked.state;
  files = folder_may_leave pick old.files new.files sound.files picked.files;
}

name_present : (files : ℕ → File) (number : Option ℕ) (found : Option (List ℕ)) → NamePicked Present files number found → found ≡ option_map (λ n. (files n).bytes) number
name_present files None None is = refl
name_present files (Some number) (Some bytes) is = ap Some is
name_present files None (Some bytes) is = absurd is
name_present files (Some number) None is = absurd is

-- the present image is as the old disk reads
pub folder_present : (old new : Folder) → FolderPicked Present old new → (name : List ℕ) → contents_of new name ≡ contents_of old name
folder_present old new picked name = name_present old.file (names_of old name) (contents_of new name) (picked.each name)

file_only : (file : File) (bytes : List ℕ) → IsAllClean file → FileLeaves file bytes → bytes ≡ file.bytes
file_only file bytes clean left = settled_leaves file.bytes bytes (subst (λ (f : File). FileLeaves f bytes) clean left)

name_only : (files : ℕ → File) (number : Option ℕ) (found : Option (List ℕ)) → ((n : ℕ) → number ≡ Some n → IsAllClean (files n)) → NameLeaves files number found → found ≡ option_map (λ n. (files n).bytes) number
name_only files None None settled left = refl
name_only files (Some number) (Some bytes) settled left = ap Some (file_only (files number) bytes (settled number refl) left)
name_only files None (Some bytes) settled left = absurd left
name_only files (Some number) None settled left = absurd left

-- it has no other image than what it reads
pub folder_only : (pick : Pick) (old new : Folder) (contents : Contents) → FolderPicked pick old new → FolderLeaves new contents → (name : List ℕ) → contents name ≡ contents_of new name
folder_only pick old new contents picked left name =
    let none : take left.survive new.changes ≡ new.changes = ap (take left.survive) picked.named ∙ take_all left.survive [] (omega arith) ∙ sym picked.named in
    name_only new.file (names_of new name) (contents name) (picked.settled name)
    (subst (λ (changes : List Change). NameLeaves new.file (after_changes new.synced changes name) (contents name)) none (left.each name))

-- the same over what is held now
pub held_may_leave : (pick : Pick) (old new : List Call) → HoldsPicked pick (disk_after old) (disk_after new) → MayLeave (now (history_of old)) (reading (now (history_of new)))
held_may_leave pick old new picked =
    subst (λ (disk : DiskState). MayLeave disk (reading (now (history_of new)))) (sym (now_is old))
    (subst (λ (disk : DiskState). MayLeave (disk_after old) (reading disk)) (sym (now_is new)) (may_leave pick (disk_after old) (disk_after new) (sound_after old) picked))

pub held_picked : (pick : Pick) (old new : List Call) → HoldsPicked pick (disk_after old) (disk_after new) → HoldsPicked pick (now (history_of old)) (now (history_of new))
held_picked pick old new picked =
    subst (λ (disk : DiskState). HoldsPicked pick disk (now (history_of new))) (sym (now_is old))
    (subst (λ (disk : DiskState). HoldsPicked pick (disk_after old) disk) (sym (now_is new)) picked)

pub held_only : (pick : Pick) (old new : List Call) → HoldsPicked pick (disk_after old) (disk_after new) → (image : Image) → MayLeave (now (history_of new)) image → HasSame image (reading (now (history_of new)))
held_only pick old new picked image left =
    let held = held_picked pick old new picked in
    record {
      state = folder_only pick (now (history_of old)).state (now (history_of new)).state image.state held.state left.state;
      files = folder_only pick (now (history_of old)).files (now (history_of new)).files image.files held.files left.files;
    }
