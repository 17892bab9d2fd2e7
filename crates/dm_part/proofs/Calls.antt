-- The calls on an item's own part, by their answers and at each moment.
use Rattle.std.proofs.Common.{◌≡◌, ◌≢◌, inl, inr, ℕ, List, length, Option, None, Result, Ok, Err, OnOk, sym, subst}
use Rattle.std.specs.Prelude.{IsSome}
use Rattle.dm_types.specs.declared.slices.Slice.{Slice}
use Rattle.dm_slice.specs.Words.{Holds}
use Rattle.dm_disk_model.specs.declared.place.Area.TheVariants.{Files}
use Rattle.dm_disk_model.specs.declared.place.DiskFault.{DiskFault}
use Rattle.dm_disk_model.specs.File.{IsWritten, IsTorn}
use Rattle.dm_disk_model.specs.Folder.{Folder, Names, Change, Renamed, Removed, after_change, FileSteps, Changes, names_of, with_name}
use Rattle.dm_disk_model.specs.Disk.{DiskState, History, Next, Stands, now, CreateStep, WriteStep, SyncStep, RenameStep, RemoveStep, SyncNamesStep}
use Rattle.dm_disk_model.specs.Moments.{Throughout}
use Rattle.dm_disk_model.proofs.Places.{after_done}
use Rattle.dm_disk_model.proofs.PendingNames.{names_more, with_name_same}
use Rattle.dm_part.specs.Keeping.{Going, Moving, Published, Claim, Held, IsShort, IsFree, Lands, IsEmpty}
use Rattle.dm_part.specs.Laws.{files_place, HeldOn, ShortOn, landed, settled}
use Rattle.dm_part.specs.Runs.{Twice, InTurn}
use Rattle.dm_part.proofs.Own.{torn_by_write, held_written, held_torn, held_saved, held_renamed, held_published, held_made, held_swept, short_removed}
use Rattle.dm_part.proofs.Turns.{over_one, over_two}
use Rattle.dm_part.proofs.Beside.{names_beside}

module _ (says : ℕ → ℕ → Type 0) (claim : Claim) where
  -- a piece is landed
  pub put_held : (live : List Slice) (at : ℕ) (piece : List ℕ) (result : Result (Unit {0}) DiskFault) (old new : DiskState) → claim.stage ≡ Going → Lands says claim at piece live
      → Held says old.files claim → WriteStep (files_place claim.part) at piece result old new → Held says new.files (landed result live claim)
  put_held live at piece (Ok done) old new going lands held taken = held_written says old.files new.files claim going held live at piece lands taken.0
  put_held live at piece (Err fault) old new going lands held (inl taken) = held_torn says old.files new.files claim going held at (length piece) lands.free taken.0
  put_held live at piece (Err fault) old new going lands held (inr same) = subst (λ (disk : DiskState). Held says disk.files claim) (sym same) held

  -- before what was landed counts, the claim holds as it was: its live places are untouched
  pub put_keeps : (at : ℕ) (piece : List ℕ) (result : Result (Unit {0}) DiskFault) (old new : DiskState) → claim.stage ≡ Going → IsFree claim at (length piece)
      → Held says old.files claim → WriteStep (files_place claim.part) at piece result old new → Held says new.files claim
  put_keeps at piece (Ok done) old new going free held taken = held_torn says old.files new.files claim going held at (length piece) free (torn taken.0)
    where
      torn : FileSteps claim.part (IsWritten at piece) old.files new.files → FileSteps claim.part (IsTorn at (length piece)) old.files new.files
      torn steps = record {
        number = steps.number;
        stands = steps.stands;
        stepped = torn_by_write at piece (old.files.file steps.number) (new.files.file steps.number) steps.stepped;
        others = steps.others;
        synced = steps.synced;
        changes = steps.changes;
      }
  put_keeps at piece (Err fault) old new going free held (inl taken) = held_torn says old.files new.files claim going held at (length piece) free taken.0
  put_keeps at piece (Err fault) old new going free held (inr same) = subst (λ (disk : DiskState). Held says disk.files claim) (sym same) held

  -- the part is synced
  -- so at each moment of a put
  pub put_moments : (at : ℕ) (piece : List ℕ) (result : Result (Unit {0}) DiskFault) (old new : History) → claim.stage ≡ Going → IsFree claim at (length piece)
      → Next old new (WriteStep (files_place claim.part) at piece result) → HeldOn says claim (now old) → Throughout old new (HeldOn says claim)
  put_moments at piece result old new going free next held =
      over_one old new (HeldOn says claim) (WriteStep (files_place claim.part) at piece result) next held (λ disk taken. put_keeps at piece result (now old) disk going free held taken)

  -- what is live may be saved after a sync
  pub settle_held : (saved : List Slice) (result : Result (Unit {0}) DiskFault) (old new : DiskState) → claim.stage ≡ Going → Holds claim.live saved
      → Held says old.files claim → SyncStep (files_place claim.part) result old new → Held says new.files (settled result saved claim)
  settle_held saved (Ok done) old new going holds held taken = held_saved says old.files new.files claim going held saved holds taken.0
  settle_held saved (Err fault) old new going holds held same = subst (λ (disk : DiskState). Held says disk.files claim) (sym same) held

  -- a sync alone leaves the claim
  pub settle_keeps : (result : Result (Unit {0}) DiskFault) (old new : DiskState) → claim.stage ≡ Going → Held says old.files claim → SyncStep (files_place claim.part) result old new → Held says new.files claim
  settle_keeps (Ok done) old new going held taken = settle_held claim.saved (Ok tt) old new going held.filed.holds held taken
  settle_keeps (Err fault) old new going held taken = settle_held claim.saved (Err fault) old new going held.filed.holds held taken

  -- and at each moment of it
  pub settle_moments : (result : Result (Unit {0}) DiskFault) (old new : History) → claim.stage ≡ Going → Next old new (SyncStep (files_place claim.part) result) → HeldOn says claim (now old)
      → Throughout old new (HeldOn says claim)
  settle_moments result old new going next held =
      over_one old new (HeldOn says claim) (SyncStep (files_place claim.part) result) next held (λ disk taken. settle_keeps result (now old) disk going held taken)

  -- the file that is moved is given its name
  pub rename_held : (result : Result (Unit {0}) DiskFault) (old new : DiskState) → claim.stage ≡ Moving → Stands old (files_place claim.part)
      → Held says old.files claim → RenameStep (files_place claim.part) (files_place claim.name) result old new → Held says new.files claim
  rename_held result old new moving stands held taken =
      let keeps = λ (folder : Folder) (step : Changes (Renamed claim.part claim.name) old.files folder). held_renamed says old.files folder claim moving held stands step in
      after_done (λ folder. Held says folder claim) Files (Changes (Renamed claim.part claim.name)) (Changes (Renamed claim.part claim.name)) result old new keeps keeps held taken

  -- a publication, at each moment
  pub publish_moments : (result : Result (Unit {0}) DiskFault) (old new : History) → claim.stage ≡ Moving → Stands (now old) (files_place claim.part)
      → InTurn (RenameStep (files_place claim.part) (files_place claim.name)) (SyncNamesStep Files) result old new → Held says (now old).files claim → Throughout old new (HeldOn says claim)
  publish_moments result old new moving stands run held =
      over_two old new (HeldOn says claim) (RenameStep (files_place claim.part) (files_place claim.name)) (SyncNamesStep Files) result run held
      (λ answer disk taken. rename_held answer (now old) disk moving stands held taken)
      (λ answer middle disk there renamed taken. names_beside says claim answer middle disk there Files taken)

  -- once it was renamed it stands under its name
  renamed_stands : (old new : Folder) → IsSome (names_of old claim.part) → Changes (Renamed claim.part claim.name) old new → IsSome (names_of new claim.name)
  renamed_stands old new stands taken =
      let change : Change = Renamed claim.part claim.name in
      let names : names_of new ≡ after_change (names_of old) change = names_more old new change taken.synced taken.changes in
      subst (λ (ns : Names). IsSome (ns claim.name)) (sym names) (subst (λ (n : Option ℕ). IsSome n) (sym (with_name_same (with_name (names_of old) claim.part None) claim.name (names_of old claim.part))) stands)

  pub names_publish : (old new : DiskState) → claim.stage ≡ Moving → Stands old (files_place claim.name) → SyncNamesStep Files (Ok tt) old new
      → Held says old.files claim → Held says new.files (record claim { stage = Published })
  names_publish old new moving stands taken held = held_published says old.files new.files claim moving held stands taken.0

  -- and after Ok
  pub publish_done : (result : Result (Unit {0}) DiskFault) (old new : History) → claim.stage ≡ Moving → Stands (now old) (files_place claim.part)
      → InTurn (RenameStep (files_place claim.part) (files_place claim.name)) (SyncNamesStep Files) result old new → Held says (now old).files claim
      → OnOk result (Held says (now new).files (record claim { stage = Published }))
  publish_done (Ok done) old new moving stands run held =
      let middle = now run.middle in
      let there = rename_held (Ok tt) (now old) middle moving stands held run.before.stepped in
      names_publish middle (now new) moving (renamed_stands (now old).files middle.files stands run.before.stepped.0) run.after.stepped there
  publish_done (Err fault) old new moving stands run held = tt

  -- a part is made for a free name
  pub make_held : (old new : History) → claim.stage ≡ Going → IsEmpty claim.saved → IsEmpty claim.live → claim.name ≢ claim.part → names_of (now old).files claim.name ≡ None
      → Twice old new (CreateStep (files_place claim.part) (Ok tt)) (SyncNamesStep Files (Ok tt)) → Held says (now new).files claim
  make_held old new going none_saved none_live apart free run =
      held_made says (now old).files (now run.middle).files (now new).files claim going none_saved none_live apart free run.before.stepped.0 run.after.stepped.0

  -- a part that was left beside a published file is removed
  pub sweep_held : (result : Result (Unit {0}) DiskFault) (old new : DiskState) → claim.stage ≡ Published → claim.name ≢ claim.part
      → Held says old.files claim → RemoveStep (files_place claim.part) result old new → Held says new.files claim
  sweep_held result old new published apart held taken =
      let keeps = λ (folder : Folder) (step : Changes (Removed claim.part) old.files folder). held_swept says old.files folder claim published apart step held in
      after_done (λ folder. Held says folder claim) Files (Changes (Removed claim.part)) (Changes (Removed claim.part)) result old new keeps keeps held taken

  -- and at each moment
  pub sweep_moments : (result : Result (Unit {0}) DiskFault) (old new : History) → claim.stage ≡ Published → claim.name ≢ claim.part → Next old new (RemoveStep (files_place claim.part) result)
      → HeldOn says claim (now old) → Throughout old new (HeldOn says claim)
  sweep_moments result old new published apart next held =
      over_one old new (HeldOn says claim) (RemoveStep (files_place claim.part) result) next held (λ disk taken. sweep_held result (now old) disk published apart held taken)

-- a part that is removed stays short
pub discard_short : (part : List ℕ) (total : Option ℕ) (result : Result (Unit {0}) DiskFault) (old new : DiskState) → IsShort part total old.files → RemoveStep (files_place part) result old new → IsShort part total new.files
discard_short part total result old new short taken =
    let keeps = λ (folder : Folder) (step : Changes (Removed part) old.files folder). short_removed old.files folder part total step short in
    after_done (IsShort part total) Files (Changes (Removed part)) (Changes (Removed part)) result old new keeps keeps short taken

pub discard_moments : (part : List ℕ) (total : Option ℕ) (result : Result (Unit {0}) DiskFault) (old new : History) → Next old new (RemoveStep (files_place part) result) → ShortOn part total (now old)
    → Throughout old new (ShortOn part total)
discard_moments part total result old new next short =
    over_one old new (ShortOn part total) (RemoveStep (files_place part) result) next short (λ disk taken. discard_short part total result (now old) disk short taken)
