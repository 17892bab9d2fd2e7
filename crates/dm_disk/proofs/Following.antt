-- An index that told of the disk before a call tells of it after the call.
use Rattle.std.proofs.Common.{◌≡◌, ◌≢◌, ⊎_elim, ℕ, ◌+◌, List, [], ◌∷◌, ◌++◌, length, map, Option, Some, None, sym, ◌∙◌, ap, subst}
use Rattle.std.specs.Option.{option_map}
use Rattle.dm_disk_model.specs.Folder.{Folder}
use Rattle.dm_disk_model.specs.Disk.{DiskState, folder_in}
use Rattle.dm_disk_model.specs.declared.place.Area.{Area}
use Rattle.dm_disk_model.specs.declared.place.Area.TheVariants.{State, Files}
use Rattle.dm_disk.specs.declared.call.Call.{Call}
use Rattle.dm_disk.specs.declared.call.Act.{Act}
use Rattle.dm_disk.specs.declared.call.Act.TheVariants.{Create, Write, Rename, Remove}
use Rattle.dm_disk.specs.declared.index.Named.{Named}
use Rattle.dm_disk.specs.declared.index.Standing.{Standing}
use Rattle.dm_disk.specs.Calls.{folder_after, in_folder, disk_after}
use Rattle.dm_disk.specs.Made.{IsMade, IsMadeDisk}
use Rattle.dm_disk.specs.SoundCalls.{made_after}
use Rattle.dm_disk.specs.Index.{look, standing_of, standing_in, IsIndexOf, Sets, Moves, Follows, grown_in, entry_grown}
use Rattle.dm_disk.proofs.Entries.{place_cases, look_grown, once_grown}
use Rattle.dm_disk.proofs.Replay.{disk_after_push}
use Rattle.dm_disk.proofs.Standings.{standing_here, others_stay, written_in_both, standing_created, standing_beside_created, standing_renamed, standing_renamed_away, standing_beside_renamed, standing_removed, standing_beside_removed}

made_here : (area : Area) (number : ℕ) (disk : DiskState) → IsMadeDisk number disk → IsMade number (folder_in area disk)
made_here State number disk made = made.state
made_here Files number disk made = made.files

-- both say the same of this place, and so of one that is it
at_place : (disk : DiskState) (entries : List Named) (area a : Area) (name other : List ℕ) → look area name entries ≡ standing_in area name disk → a ≡ area → other ≡ name
    → look a other entries ≡ standing_in a other disk
at_place disk entries area a name other here same_folder same_name =
    subst (λ (x : Area). look x other entries ≡ standing_in x other disk) (sym same_folder)
    (subst (λ (n : List ℕ). look area n entries ≡ standing_in area n disk) (sym same_name) here)

-- one name was set, on the disk and in the index
set_in_both : (area : Area) (name : List ℕ) (found : Option Standing) (old new : List Named) (step : Folder → Folder) (disk : DiskState)
    → Sets area name found old new → standing_of (step (folder_in area disk)) name ≡ found
    → ((other : List ℕ) → other ≢ name → standing_of (step (folder_in area disk)) other ≡ standing_of (folder_in area disk) other)
    → IsIndexOf disk old → IsIndexOf (in_folder area step disk) new
set_in_both area name found old new step disk sets here stay told = record {
  each = λ a other. ⊎_elim
      (λ (same : (a ≡ area) × (other ≡ name)).
      at_place (in_folder area step disk) new area a name other (sets.here ∙ sym here ∙ sym (standing_here area step disk name)) same.0 same.1)
      (λ (apart : a ≡ area → other ≡ name → ⊥).
      sets.others a other apart ∙ told.each a other ∙ sym (others_stay area step disk (λ (n : List ℕ). n ≢ name) stay a other apart))
      (place_cases a area other name);
  once = sets.once told.once;
}

pub follows_create : (number : ℕ) (area : Area) (act : Act) (name : List ℕ) (old new : List Named) → act ≡ Create name → Sets area name (Some (record { file = number; size = 0 })) old new
    → Follows number area act old new
follows_create number area act name old new is sets =
    subst (λ (a : Act). Follows number area a old new) (sym is)
    (λ disk made told.
    let folder : Folder = folder_in area disk in
    set_in_both area name (Some (record { file = number; size = 0 })) old new (folder_after number (Create name)) disk sets
    (standing_created number name folder) (standing_beside_created number name folder (made_here area number disk made)) told)

pub follows_remove : (number : ℕ) (area : Area) (act : Act) (name : List ℕ) (old new : List Named) → act ≡ Remove name → Sets area name None old new → Follows number area act old new
follows_remove number area act name old new is sets =
    subst (λ (a : Act). Follows number area a old new) (sym is)
    (λ disk made told.
    let folder : Folder = folder_in area disk in
    set_in_both area name None old new (folder_after number (Remove name)) disk sets (standing_removed number name folder) (standing_beside_removed number name folder) told)

pub follows_write : (number : ℕ) (area : Area) (act : Act) (file at end : ℕ) (bytes : List ℕ) (old new : List Named) → act ≡ Write file at bytes → end ≡ at + length bytes
    → new ≡ map (entry_grown area file end) old → Follows number area act old new
follows_write number area act file at end bytes old new is ends grows =
    subst (λ (a : Act). Follows number area a old new) (sym is)
    (subst (λ (entries : List Named). Follows number area (Write file at bytes) old entries) (sym (grows ∙ ap (λ (n : ℕ). map (entry_grown area file n) old) ends))
    (λ disk made told. record {
      each = λ a name.
          look_grown area file (at + length bytes) a name old
          ∙ ap (option_map (grown_in area file (at + length bytes) a)) (told.each a name)
          ∙ sym (written_in_both number area file at bytes disk a name);
      once = once_grown area file (at + length bytes) old told.once;
    }))

pub follows_rename : (number : ℕ) (area : Area) (act : Act) (from to : List ℕ) (old new : List Named) → act ≡ Rename from to → Moves area from to old new → Follows number area act old new
follows_rename number area act from to old new is moves =
    subst (λ (a : Act). Follows number area a old new) (sym is)
    (λ disk made told.
    let folder : Folder = folder_in area disk in
    let step : Folder → Folder = folder_after number (Rename from to) in
    let later : DiskState = in_folder area step disk in
    let at_to : look area to new ≡ standing_in area to later =
    moves.here ∙ told.each area from ∙ sym (standing_renamed number from to folder) ∙ sym (standing_here area step disk to) in
    record {
      each = λ a other. ⊎_elim
          (λ (same : (a ≡ area) × (other ≡ to)). at_place later new area a to other at_to same.0 same.1)
          (λ (not_to : a ≡ area → other ≡ to → ⊥).
          ⊎_elim
          (λ (same : (a ≡ area) × (other ≡ from)).
          let differ : from ≢ to = λ (e : from ≡ to). not_to same.0 (same.1 ∙ e) in
          at_place later new area a from other
          (moves.gone differ ∙ sym (standing_renamed_away number from to folder differ) ∙ sym (standing_here area step disk from)) same.0 same.1)
          (λ (not_from : a ≡ area → other ≡ from → ⊥).
          moves.others a other not_to not_from
          ∙ told.each a other
          ∙ sym (others_stay area step disk (λ (n : List ℕ). (n ≢ to) × (n ≢ from)) (λ n apart. standing_beside_renamed number from to folder n apart.0 apart.1) a other (λ e. (not_to e, not_from e))))
          (place_cases a area other from))
          (place_cases a area other to);
      once = moves.once told.once;
    })

-- the index followed the call that was recorded
pub tells_more : (calls : List Call) (call : Call) (number : ℕ) (old new : List Named) → number ≡ length calls → Follows number call.area call.act old new → IsIndexOf (disk_after calls) old
    → IsIndexOf (disk_after (calls ++ call ∷ [])) new
tells_more calls call number old new is follows told =
    subst (λ (disk : DiskState). IsIndexOf disk new) (sym (disk_after_push calls call))
    (subst (λ (n : ℕ). Follows n call.area call.act old new) is follows (disk_after calls) (made_after calls) told)
