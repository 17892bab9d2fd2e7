-- What nothing makes of a desk.
use Rattle.std.proofs.Common.{◌≡◌, ℕ, false, List, [], refl, sym, ap, arith}
use Rattle.std.proofs.lemmas.List.{append-nil}
use Rattle.dm_disk_model.specs.Disk.{DiskState, History as Clock, bytes_at, now}
use Rattle.dm_disk_model.specs.Folder.{Folder, contents_of}
use Rattle.dm_disk_model.specs.Moments.{KeepsFiles}
use Rattle.dm_disk_model.proofs.Reaching.{at_end}
use Rattle.dm_part.specs.Laws.{files_place}
use Rattle.dm_store.specs.Becomes.{Recorded}
use Rattle.dm_store.specs.View.{View}
use Rattle.dm_store.proofs.Composing.{lawful_none}

-- nothing was done
pub recorded_none : {D O : Type 0} (desk : View D O) → desk.broken ≡ false → desk.failed ≡ [] → Recorded desk desk []
recorded_none desk whole failed = record {
  whole = whole;
  items_are = refl;
  lives_are = refl;
  list_is = sym (append-nil desk.list);
  lawful = lawful_none desk.items;
  gate_is = omega arith;
  failed_is = failed;
  may = tt;
  broken_is = whole;
  origin = refl;
  limits = refl;
}

-- each of the user's files reads as before where they stay
pub reads_stay : (old new : Clock) → KeepsFiles old new → (name : List ℕ) → bytes_at (now new) (files_place name) ≡ bytes_at (now old) (files_place name)
reads_stay old new keeps name = ap (λ (f : Folder). contents_of f name) (at_end old new (λ (d : DiskState). d.files ≡ (now old).files) keeps)
