-- The asking and reading of an attempt, before it is ended.
use Rattle.std.specs.Prelude.{◌≡◌, ◌≢◌, ℕ, List, [], Some, None, Result, Ok, Err, Bool, IsTrue}
use Rattle.dm_types.specs.declared.address.Address.{Address}
use Rattle.dm_types.specs.declared.item.Item.{Item}
use Rattle.dm_types.specs.declared.kinds.DiskKind.{DiskKind}
use Rattle.dm_disk_model.specs.Disk.{History as Clock}
use Rattle.dm_policy.specs.declared.cause.Cause.TheVariants as causes
use Rattle.dm_request.specs.declared.address.Unread.{Unread}
use Rattle.dm_request.specs.declared.address.Unread.TheVariants as unreads
use Rattle.dm_edge.specs.Wire.{Closed}
use Rattle.dm_edge.specs.declared.fault.NetFault.{NetFault}
use Rattle.dm_kept.specs.Files.{Says}
use Rattle.dm_store.specs.declared.pass.Pass.{Pass}
use Rattle.dm_store.specs.View.{View}
use Rattle.dm_attempt.specs.declared.source.Source.{Source}
use Rattle.dm_attempt.specs.declared.stop.Stop.{Stop}
use Rattle.dm_attempt.specs.declared.stop.Stop.TheVariants as stops
use Rattle.dm_attempt.specs.Ending.{IfBroke, StopHolds}
use Rattle.dm_attempt.specs.Live.{LiveDesk}
use Rattle.dm_attempt.specs.Scene.{Scene, begun_by}
use Rattle.dm_attempt.specs.Trace.{Trace, untold}
use Rattle.dm_rounds.specs.Reading.{closed_before}
use Rattle.dm_rounds.specs.Trail.{AreCut, AreRead}
use Rattle.dm_fetch.specs.declared.keeping.Asked.{Asked}
use Rattle.dm_fetch.specs.Attempts.{Asks, IsFinished, IsSourceOf, IsStable, IsUnstable, MetAtNet}
use Rattle.dm_fetch.specs.Starts.{IsKept}

-- The attempt has just begun.
pub record HasBegun {D O : Type 0} (tells : Type 0) (clock : D → Clock) (says : O → Says) (far : D → ℕ) (counts : D → DiskKind → ℕ) (net : Type 0) (scene : Scene D O) (pass : Pass) (desk : View D O) (closed : List Closed) (faults : NetFault → ℕ) (there : O) (at : ℕ) : Type 0 where
  pub live : (n : ℕ) → LiveDesk tells clock says far counts scene pass desk (untold [] [] n)
  pub closed_is : closed ≡ scene.closed
  pub counts_are : faults ≡ scene.counts
  pub origin : there ≡ scene.start.origin
  pub at_is : at ≡ scene.at

-- some attempt has just begun whose content is to be asked for from the start
pub record MayAsk {D O : Type 0} (tells : Type 0) (clock : D → Clock) (says : O → Says) (far : D → ℕ) (counts : D → DiskKind → ℕ) (net : Type 0) (pass : Pass) (desk : View D O) (closed : List Closed) (faults : NetFault → ℕ) (there : O) (at : ℕ) : Type 0 where
  pub scene : Scene D O
  pub begun : HasBegun tells clock says far counts net scene pass desk closed faults there at
  pub none : (begun_by scene).key ≡ None

-- some attempt has just begun that asks for what is missing
pub record MayGo {D O : Type 0} (tells : Type 0) (clock : D → Clock) (says : O → Says) (far : D → ℕ) (counts : D → DiskKind → ℕ) (net : Type 0) (pass : Pass) (desk : View D O) (closed : List Closed) (faults : NetFault → ℕ) (there : O) (at : ℕ) : Type 0 where
  pub scene : Scene D O
  pub begun : HasBegun tells clock says far counts net scene pass desk closed faults there at
  pub kept : IsKept (begun_by scene)

-- no address is read of the text that has this text, or memory was wanting
abbrev pub Unreads : List ℕ → Stop → Type 0
Unreads text (stops.Broke cause) = (cause ≡ causes.BadLocation) × IsUnstable text
Unreads text stops.NoMemory = Unit {0}
Unreads text (stops.Fault fault) = ⊥
Unreads text (stops.Recorded reason) = ⊥

-- how an attempt stops whose address is no longer read
abbrev pub unread_stop : Unread → Stop
unread_stop unreads.Refused = stops.Broke causes.BadLocation
unread_stop unreads.NoMemory = stops.NoMemory

abbrev pub AddressOf : List ℕ → Result Address Stop → Type 0
AddressOf text (Ok address) = IsStable text address
AddressOf text (Err stop) = Unreads text stop

-- what the item is first asked by
pub record IsAskedOf (item : Item) (asked : Asked) : Type 0 where
  pub stable : IsStable item.first_address asked.address
  pub wish_is : asked.wish ≡ item.wish

abbrev pub AskedOf : Item → Result Asked Stop → Type 0
AskedOf item (Ok asked) = IsAskedOf item asked
AskedOf item (Err stop) = Unreads item.first_address stop

-- a source of this text, tag and total
pub record IsSourceAt (text tag : List ℕ) (total : ℕ) (source : Source) : Type 0 where
  pub stable : IsStable text source.address
  pub tag_is : source.tag ≡ tag
  pub total_is : source.total ≡ total

abbrev pub SourceAt : List ℕ → List ℕ → ℕ → Result Source Stop → Type 0
SourceAt text tag total (Ok source) = IsSourceAt text tag total source
SourceAt text tag total (Err stop) = Unreads text stop

-- the kept address is no longer read, or memory was wanting
pub record HasNoSource (item : Item) (stop : Stop) : Type 0 where
  pub text : List ℕ
  pub text_is : item.last_address ≡ Some text
  pub unreads : Unreads text stop

abbrev pub SourceOf : Item → Result Source Stop → Type 0
SourceOf item (Ok source) = IsSourceOf item source
SourceOf item (Err stop) = HasNoSource item stop

-- all was brought
pub record DriveDone {D O : Type 0} (tells : Type 0) (clock : D → Clock) (says : O → Says) (far : D → ℕ) (counts : D → DiskKind → ℕ) (net : Type 0) (scene : Scene D O) (pass : Pass) (new : View D O) (closed : List Closed) (slices : ℕ) : Type 0 where
  pub trace : Trace
  pub asks : Asks tells clock says far counts net scene pass slices (AreRead net) trace
  pub closed_is : net → closed ≡ closed_before scene trace
  pub finished : IsFinished tells clock says far counts scene pass new trace

-- The attempt stopped, and is to be ended. The desk was asked to finish only where there is a round, and all were brought whole.
pub record DriveStops {D O : Type 0} (tells : Type 0) (clock : D → Clock) (says : O → Says) (far : D → ℕ) (counts : D → DiskKind → ℕ) (net : Type 0) (scene : Scene D O) (pass : Pass) (new : View D O) (closed : List Closed) (before after : NetFault → ℕ) (slices : ℕ) (stop : Stop) : Type 0 where
  pub trace : Trace
  pub asks : Asks tells clock says far counts net scene pass slices (AreCut net) trace
  pub closed_is : net → closed ≡ closed_before scene trace
  pub came : Bool
  pub some : IsTrue came → trace.rounds ≢ []
  pub all : IsTrue came → Asks tells clock says far counts net scene pass slices (AreRead net) trace
  pub holds : StopHolds came tells clock says far counts scene pass new trace stop
  pub shown : IfBroke stop (MetAtNet net before after scene trace)

abbrev pub DriveLeaves : {D O : Type 0} → Type 0 → (D → Clock) → (O → Says) → (D → ℕ) → (D → DiskKind → ℕ) → Type 0 → Scene D O → Pass → View D O → List Closed → (NetFault → ℕ) → (NetFault → ℕ) → ℕ → Result (Unit {0}) Stop → Type 0
DriveLeaves tells clock says far counts net scene pass new closed before after slices (Ok done) = DriveDone tells clock says far counts net scene pass new closed slices
DriveLeaves tells clock says far counts net scene pass new closed before after slices (Err stop) = DriveStops tells clock says far counts net scene pass new closed before after slices stop
