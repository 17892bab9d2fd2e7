-- One attempt: what it asked for, what it did at the desk, and how it ended, by one witness.
use Rattle.std.specs.Prelude.{◌≡◌, ◌≢◌, ◌⊎◌, ◌≤◌, ℕ, List, [], length, Option, Some, None, IfSome, Bool, IsTrue}
use Rattle.dm_types.specs.declared.address.Address.{Address}
use Rattle.dm_types.specs.declared.item.Item.{Item}
use Rattle.dm_types.specs.declared.item.ItemId.{ItemId}
use Rattle.dm_types.specs.declared.item.Key.{Key}
use Rattle.dm_types.specs.declared.item.Key.TheVariants.{Strong}
use Rattle.dm_types.specs.declared.kinds.By.{By}
use Rattle.dm_types.specs.declared.kinds.DiskKind.{DiskKind}
use Rattle.dm_types.specs.declared.reason.Reason.{Reason}
use Rattle.dm_types.specs.declared.slices.Slice.{Slice}
use Rattle.dm_disk_model.specs.Disk.{History as Clock}
use Rattle.dm_policy.specs.Cause.{reason_of_cause}
use Rattle.dm_policy.specs.declared.cause.Cause.{Cause}
use Rattle.dm_policy.specs.declared.cause.Cause.TheVariants as causes
use Rattle.dm_request.specs.Fault.{IsRead}
use Rattle.dm_slice.specs.Cover.{SamePlaces}
use Rattle.dm_edge.specs.Wire.{Closed}
use Rattle.dm_edge.specs.declared.fault.NetFault.{NetFault}
use Rattle.dm_item.specs.History.{get}
use Rattle.dm_kept.specs.Files.{Says}
use Rattle.dm_store.specs.declared.pass.Pass.{Pass}
use Rattle.dm_store.specs.View.{View}
use Rattle.dm_answers.specs.Begin.{pass_of}
use Rattle.dm_answers.specs.Running.{ItemWith}
use Rattle.dm_answers.specs.declared.fault.DeskFault.{DeskFault}
use Rattle.dm_answers.specs.declared.fault.DeskFault.TheVariants as faults
use Rattle.dm_attempt.specs.declared.ended.Ended.{Ended}
use Rattle.dm_attempt.specs.declared.ended.Ended.TheVariants as ended
use Rattle.dm_attempt.specs.declared.source.Source.{Source}
use Rattle.dm_attempt.specs.Asking.{Asking}
use Rattle.dm_attempt.specs.Ending.{FaultEnds, IsDeskCause, ShownBy}
use Rattle.dm_attempt.specs.Live.{DeskOver, LiveDesk}
use Rattle.dm_attempt.specs.Scene.{Scene, begun_by, cover_by, item_by}
use Rattle.dm_attempt.specs.Shows.{DeskDone, total_by}
use Rattle.dm_attempt.specs.Trace.{Broken, Done, Round, Trace, untold, with_saves}
use Rattle.dm_rounds.specs.First.{IsFreshTrace, IsReplyOf, ToldRounds}
use Rattle.dm_rounds.specs.Reading.{closed_before}
use Rattle.dm_rounds.specs.Trail.{AreCut, AreRead, IsShown, kept_asking}
use Rattle.dm_fetch.specs.Starts.{BeginRefuses, scene_of}

-- the address is read of the text, and has this text
pub record IsStable (text : List ℕ) (address : Address) : Type 0 where
  pub read : IsRead text address
  pub same : address.text ≡ text

-- no address is read of the text that has this text
abbrev pub IsUnstable : List ℕ → Type 0
IsUnstable text = (address : Address) → IsStable text address → ⊥

-- the content's kept address, tag and total
pub record IsSourceOf (item : Item) (source : Source) : Type 0 where
  pub text : List ℕ
  pub text_is : item.last_address ≡ Some text
  pub stable : IsStable text source.address
  pub key_is : item.key ≡ Some (Strong source.tag)
  pub total_is : item.total ≡ Some source.total

-- nothing was asked for
pub record AsksNothing (trace : Trace) : Type 0 where
  pub led : trace.led ≡ []
  pub lost : trace.lost ≡ []
  pub wish : trace.wish ≡ None
  pub told : trace.told ≡ None
  pub rounds : trace.rounds ≡ []

-- The first address was asked without a range, and then each one that a redirect led to. The first reply serves the first part of the first round, and all
-- other parts are asked for by their ranges. What was told, and the wish for a name, is what the head of that reply says, on its own connection: how many bytes come,
-- under which tag, whether ranges are given, the Content-Disposition and the Last-Modified.
pub record AsksAnew {D O : Type 0} (tells : Type 0) (clock : D → Clock) (says : O → Says) (far : D → ℕ) (counts : D → DiskKind → ℕ) (net : Type 0) (scene : Scene D O) (pass : Pass) (slices : ℕ) (P : Asking → List Round → Type 0) (trace : Trace) : Type 0 where
  pub none : (begun_by scene).key ≡ None
  pub first : Address
  pub stable : IsStable (begun_by scene).first_address first
  pub desk : View D O
  pub live : LiveDesk tells clock says far counts scene pass desk (untold [] [] 0)
  pub fresh : IsFreshTrace tells clock net desk pass first (begun_by scene).wish slices trace
  pub replied : net → IfSome trace.wish (IsReplyOf pass (begun_by scene).wish trace)
  pub rounds : ToldRounds P pass trace.told trace.rounds

-- Ranges alone were asked for, at the last address and under the kept tag.
pub record AsksOn {D O : Type 0} (scene : Scene D O) (pass : Pass) (slices : ℕ) (P : Asking → List Round → Type 0) (trace : Trace) : Type 0 where
  pub source : Source
  pub is : IsSourceOf (begun_by scene) source
  pub few : length (begun_by scene).slices ≤ 64
  pub led : trace.led ≡ []
  pub lost : trace.lost ≡ []
  pub wish : trace.wish ≡ None
  pub told : trace.told ≡ None
  pub count : trace.count ≡ slices
  pub rounds : P (kept_asking pass source) trace.rounds

-- What an attempt asked for. P says how its rounds were.
pub data Asks {D O : Type 0} (tells : Type 0) (clock : D → Clock) (says : O → Says) (far : D → ℕ) (counts : D → DiskKind → ℕ) (net : Type 0) (scene : Scene D O) (pass : Pass) (slices : ℕ) (P : Asking → List Round → Type 0) (trace : Trace) : Type 0 where
  nothing : AsksNothing trace → Asks tells clock says far counts net scene pass slices P trace
  anew : AsksAnew tells clock says far counts net scene pass slices P trace → Asks tells clock says far counts net scene pass slices P trace
  on : AsksOn scene pass slices P trace → Asks tells clock says far counts net scene pass slices P trace

-- the address that an attempt begins with: the first where nothing is known of the content, and else the last
abbrev pub begins_at : Option Key → Item → List ℕ
begins_at None item = item.first_address
begins_at (Some key) item = get item.last_address item.first_address

-- that address is no longer read
pub record IsUnread {D O : Type 0} (scene : Scene D O) (cause : Cause) : Type 0 where
  pub cause_is : cause ≡ causes.BadLocation
  pub unstable : IsUnstable (begins_at (begun_by scene).key (begun_by scene))

-- what shows a cause that was met at the net
abbrev pub MetAtNet : {D O : Type 0} → Type 0 → (NetFault → ℕ) → (NetFault → ℕ) → Scene D O → Trace → Cause → Type 0
MetAtNet net before after scene trace cause = IsUnread scene cause ⊎ IsShown net before after scene trace cause

-- All was brought, in one round at least, and the attempt is over by that.
pub record IsFinished {D O : Type 0} (tells : Type 0) (clock : D → Clock) (says : O → Says) (far : D → ℕ) (counts : D → DiskKind → ℕ) (scene : Scene D O) (pass : Pass) (new : View D O) (trace : Trace) : Type 0 where
  pub some : trace.rounds ≢ []
  pub digest : List ℕ
  pub done : DeskDone tells clock says far counts scene pass trace digest
  pub saves : List (List Slice)
  pub over : DeskOver tells clock says far counts scene new (with_saves trace saves) (Done (total_by scene trace) digest)

-- what shows a cause by which an attempt was interrupted: the desk, or the net, and then all that was landed is saved
pub data IsMetBy {D O : Type 0} (came : Bool) (tells : Type 0) (clock : D → Clock) (says : O → Says) (far : D → ℕ) (counts : D → DiskKind → ℕ) (net : Type 0) (scene : Scene D O) (pass : Pass) (before after : NetFault → ℕ) (trace : Trace) (saves : List (List Slice)) (cause : Cause) : Type 0 where
  at_desk : IsDeskCause tells clock says far counts scene pass trace cause → ShownBy came cause → IsMetBy came tells clock says far counts net scene pass before after trace saves cause
  at_net : MetAtNet net before after scene trace cause → SamePlaces (cover_by scene trace) (item_by scene (with_saves trace saves)).slices → IsMetBy came tells clock says far counts net scene pass before after trace saves cause

-- The item was interrupted by a cause that the attempt met, perhaps while what came was finished.
pub record WasStopped {D O : Type 0} (came : Bool) (tells : Type 0) (clock : D → Clock) (says : O → Says) (far : D → ℕ) (counts : D → DiskKind → ℕ) (net : Type 0) (scene : Scene D O) (pass : Pass) (new : View D O) (before after : NetFault → ℕ) (trace : Trace) (reason : Reason) : Type 0 where
  pub cause : Cause
  pub reason_is : reason ≡ reason_of_cause cause
  pub saves : List (List Slice)
  pub met : IsMetBy came tells clock says far counts net scene pass before after trace saves cause
  pub over : DeskOver tells clock says far counts scene new (with_saves trace saves) (Broken cause)

-- how each answer was reached, perhaps while what came was finished
abbrev pub EndedBy : {D O : Type 0} → Bool → Type 0 → (D → Clock) → (O → Says) → (D → ℕ) → (D → DiskKind → ℕ) → Type 0 → Scene D O → Pass → View D O → (NetFault → ℕ) → (NetFault → ℕ) → Trace → Ended → Type 0
EndedBy came tells clock says far counts net scene pass new before after trace ended.Complete = IsFinished tells clock says far counts scene pass new trace
EndedBy came tells clock says far counts net scene pass new before after trace (ended.Stopped reason) = WasStopped came tells clock says far counts net scene pass new before after trace reason
EndedBy came tells clock says far counts net scene pass new before after trace (ended.Fault fault) =
    FaultEnds came tells clock says far counts scene new trace (λ cause. IsDeskCause tells clock says far counts scene pass trace cause ⊎ MetAtNet net before after scene trace cause) fault

-- all rounds of an attempt that is complete were brought whole, and of another one all but the newest
abbrev pub RoundsOf : Type 0 → Ended → Asking → List Round → Type 0
RoundsOf net ended.Complete = AreRead net
RoundsOf net (ended.Stopped reason) = AreCut net
RoundsOf net (ended.Fault fault) = AreCut net

-- The attempt was begun: by one trace it asked for what it asked, had these connections and no others, and ended so. What came was finished only where there
-- is a round, and all were brought whole.
pub record TriedBy {D O : Type 0} (tells : Type 0) (clock : D → Clock) (says : O → Says) (far : D → ℕ) (counts : D → DiskKind → ℕ) (net : Type 0) (scene : Scene D O) (pass : Pass) (new : View D O) (closed : List Closed) (before after : NetFault → ℕ) (slices : ℕ) (end : Ended) : Type 0 where
  pub trace : Trace
  pub asks : Asks tells clock says far counts net scene pass slices (RoundsOf net end) trace
  pub closed_is : net → closed ≡ closed_before scene trace
  pub came : Bool
  pub some : IsTrue came → trace.rounds ≢ []
  pub all : IsTrue came → Asks tells clock says far counts net scene pass slices (AreRead net) trace
  pub ends : EndedBy came tells clock says far counts net scene pass new before after trace end

abbrev pub Tried : {D O : Type 0} → Type 0 → (D → Clock) → (O → Says) → (D → ℕ) → (D → DiskKind → ℕ) → Type 0 → View D O → View D O → List Closed → List Closed → (NetFault → ℕ) → (NetFault → ℕ) → By → ℕ → ℕ → Ended → Item → Type 0
Tried tells clock says far counts net old new was closed before after by slices at end item = TriedBy tells clock says far counts net (scene_of old item by at was before) (pass_of item) new closed before after slices end

-- One attempt: memory was wanting before it began, the desk refused to begin it, or it was begun.
pub data Attempts {D O : Type 0} (tells : Type 0) (clock : D → Clock) (says : O → Says) (far : D → ℕ) (counts : D → DiskKind → ℕ) (net : Type 0) (old new : View D O) (was closed : List Closed) (before after : NetFault → ℕ) (id : ItemId) (by : By) (slices at : ℕ) (end : Ended) : Type 0 where
  wanting : end ≡ ended.Fault faults.NoMemory → new ≡ old → (net → closed ≡ was) → Attempts tells clock says far counts net old new was closed before after id by slices at end
  refused : (fault : DeskFault) → end ≡ ended.Fault fault → BeginRefuses tells clock counts old new id by at fault → (net → closed ≡ was) → Attempts tells clock says far counts net old new was closed before after id by slices at end
  tried : ItemWith old id (Tried tells clock says far counts net old new was closed before after by slices at end) → Attempts tells clock says far counts net old new was closed before after id by slices at end
