-- What the desk shows of an end.
use Rattle.std.specs.Prelude.{◌≡◌, ◌≢◌, ◌⊎◌, ℕ, ◌<◌, Bool, List, [], ◌∷◌, ◌++◌, Option, Some, None, IfSome, IsTrue, true}
use Rattle.dm_types.specs.Faults.{Rose}
use Rattle.dm_types.specs.declared.entry.Entry.TheVariants as entries
use Rattle.dm_types.specs.declared.item.ItemId.{ItemId}
use Rattle.dm_types.specs.declared.kinds.DiskKind.{DiskKind}
use Rattle.dm_types.specs.declared.slices.Slice.{Slice}
use Rattle.dm_disk_model.specs.Disk.{History as Clock}
use Rattle.dm_policy.specs.declared.cause.Cause.{Cause}
use Rattle.dm_policy.specs.declared.cause.Cause.TheVariants as causes
use Rattle.dm_name.specs.Forms.{AreAllTaken}
use Rattle.dm_slice.specs.Words.{IsFull, cover_end}
use Rattle.dm_item.specs.History.{get}
use Rattle.dm_item.specs.Lawful.{History}
use Rattle.dm_kept.specs.Files.{Says}
use Rattle.dm_store.specs.declared.pass.Pass.{Pass}
use Rattle.dm_store.specs.View.{View}
use Rattle.dm_answers.specs.Begin.{FallsShort, pass_of}
use Rattle.dm_answers.specs.Describe.{WithNames}
use Rattle.dm_answers.specs.Finish.{HasSum}
use Rattle.dm_answers.specs.Running.{length_of, part_bytes}
use Rattle.dm_attempt.specs.Goes.{DeskGoes}
use Rattle.dm_attempt.specs.Live.{IsPlanned, IsSpared, LiveDesk, all_entries}
use Rattle.dm_attempt.specs.Scene.{Scene, cover_by, told_by}
use Rattle.dm_attempt.specs.Trace.{Broken, Close, Done, Trace, with_saves}

-- how many bytes the content has: the known total, or where the live cover ends
abbrev pub total_by : {D O : Type 0} → Scene D O → Trace → ℕ
total_by scene trace = get (told_by scene trace.told).total (cover_end (cover_by scene trace))

-- What the desk shows of a cause by which it ends an attempt itself: all forms of the told wish are taken, and so the item gets no name; or all came, and the part has another sum than the
-- stated one, or ends early, as it reads.
abbrev pub ShowsEnd : {D O : Type 0} → Type 0 → (D → Clock) → Scene D O → View D O → Trace → Cause → Type 0
ShowsEnd tells clock scene desk trace causes.NamesTaken = (wish : List ℕ) × (trace.wish ≡ Some wish) × (trace.told ≡ None) × WithNames tells clock desk (AreAllTaken wish)
ShowsEnd tells clock scene desk trace (causes.DigestDiffers have wanted) =
    IsFull (total_by scene trace) (cover_by scene trace) × ((told_by scene trace.told).digest ≡ Some wanted) × (have ≢ wanted)
    × (tells → HasSum (part_bytes clock desk.disk (told_by scene trace.told)) (total_by scene trace) have)
ShowsEnd tells clock scene desk trace (causes.PartShort have wanted) =
    IsFull (total_by scene trace) (cover_by scene trace) × (wanted ≡ total_by scene trace) × (have < wanted)
    × (tells → have ≡ length_of (part_bytes clock desk.disk (told_by scene trace.told)))
ShowsEnd tells clock scene desk trace _ = ⊥

-- so it was while the attempt ran
pub record DeskMet {D O : Type 0} (tells : Type 0) (clock : D → Clock) (says : O → Says) (far : D → ℕ) (counts : D → DiskKind → ℕ) (scene : Scene D O) (pass : Pass) (trace : Trace) (cause : Cause) : Type 0 where
  pub desk : View D O
  pub live : LiveDesk tells clock says far counts scene pass desk trace
  pub is : ShowsEnd tells clock scene desk trace cause

-- All came while the attempt ran: every byte below the total was landed, and the part has this sum, as it reads, and no other is stated.
pub record DeskDone {D O : Type 0} (tells : Type 0) (clock : D → Clock) (says : O → Says) (far : D → ℕ) (counts : D → DiskKind → ℕ) (scene : Scene D O) (pass : Pass) (trace : Trace) (digest : List ℕ) : Type 0 where
  pub desk : View D O
  pub live : LiveDesk tells clock says far counts scene pass desk trace
  pub full : IsFull (total_by scene trace) (cover_by scene trace)
  pub stated : IfSome (told_by scene trace.told).digest (λ d. d ≡ digest)
  pub sum : tells → HasSum (part_bytes clock desk.disk (told_by scene trace.told)) (total_by scene trace) digest

-- as the attempt began, the part was shorter than what was saved, and nothing was brought
pub record BeginMet {D O : Type 0} (tells : Type 0) (clock : D → Clock) (scene : Scene D O) (trace : Trace) (cause : Cause) : Type 0 where
  pub have : ℕ
  pub wanted : ℕ
  pub is : cause ≡ causes.PartShort have wanted
  pub short : FallsShort tells clock scene.start.disk have wanted scene.item
  pub untold : trace.told ≡ None
  pub none : trace.rounds ≡ []

-- a call on the files failed, and its count rose
pub record FileMet (before after : DiskKind → ℕ) (cause : Cause) : Type 0 where
  pub kind : DiskKind
  pub is : cause ≡ causes.File kind
  pub rose : Rose (before kind) (after kind)

-- no cause
abbrev pub NoCause : Cause → Type 0
NoCause cause = ⊥

-- What shows how an attempt was to close where the journal failed: memory was wanting, which nothing has to show; a cause with P; a call on the files failed; or
-- what the desk shows. By a file it was to close only where all came and the desk was asked to finish.
abbrev pub ShowsClose : {D O : Type 0} → Bool → Type 0 → (D → Clock) → (O → Says) → (D → ℕ) → (D → DiskKind → ℕ) → Scene D O → View D O → Trace → (Cause → Type 0) → Close → Type 0
ShowsClose came tells clock says far counts scene present trace P (Broken cause) =
    (cause ≡ causes.Memory) ⊎ (P cause ⊎ (FileMet (counts scene.start.disk) (counts present.disk) cause
    ⊎ (DeskMet tells clock says far counts scene (pass_of scene.item) trace cause ⊎ BeginMet tells clock scene trace cause)))
ShowsClose came tells clock says far counts scene present trace P (Done total digest) =
    IsTrue came × (total ≡ total_by scene trace) × DeskDone tells clock says far counts scene (pass_of scene.item) trace digest

-- the attempt was to close with a file, and of its entries the last one alone is missing
abbrev pub IsUnpublished : ItemId → ℕ → Close → History → Type 0
IsUnpublished id at (Broken cause) rest = ⊥
IsUnpublished id at (Done total digest) rest = rest ≡ entries.Done id digest at ∷ []

-- The journal failed: of the entries of an attempt that might have gone on and closed so those before some place are recorded, and the next one failed.
-- What was to close it was shown, where it was no cause with P. What was told of the content stays as it was told. Where no entry failed, the publication did.
pub record DeskFell {D O : Type 0} (came : Bool) (tells : Type 0) (clock : D → Clock) (says : O → Says) (far : D → ℕ) (counts : D → DiskKind → ℕ) (scene : Scene D O) (present : View D O) (trace : Trace) (P : Cause → Type 0) : Type 0 where
  pub after : Trace
  pub led_is : after.led ≡ trace.led
  pub lost_is : after.lost ≡ trace.lost
  pub rounds_are : after.rounds ≡ trace.rounds
  pub told_is : (trace.told ≡ None) ⊎ (after.told ≡ trace.told)
  pub close : Close
  pub seen : List (List Slice)
  pub shows : ShowsClose came tells clock says far counts scene present (with_saves trace seen) P close
  pub recorded : History
  pub failed : History
  pub rest : History
  pub unpublished : failed ≡ [] → IsUnpublished scene.item.id scene.at close rest
  pub is : all_entries scene after close ≡ (recorded ++ failed) ++ rest
  pub goes : DeskGoes tells clock says far counts (IsSpared scene recorded) scene.start present recorded failed true
  pub planned : IsPlanned scene after
