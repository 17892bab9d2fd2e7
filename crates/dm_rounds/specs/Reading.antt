-- The reading of a round, and what a turn leaves of it.
use Rattle.std.specs.Prelude.{◌≡◌, ◌≤◌, ℕ, ◌+◌, List, [], ◌++◌, length, Some, is_some, Result, Ok, Err, false}
use Rattle.std.specs.List.{AllByRecursion}
use Rattle.dm_types.specs.declared.item.Item.{Item}
use Rattle.dm_types.specs.declared.kinds.DiskKind.{DiskKind}
use Rattle.dm_types.specs.declared.slices.Slice.{Slice}
use Rattle.dm_disk_model.specs.Disk.{History as Clock}
use Rattle.dm_edge.specs.Wire.{Purpose, Told, Closed}
use Rattle.dm_request.specs.Fault.{IsRead}
use Rattle.dm_ask.specs.Redirects.{purpose_of}
use Rattle.dm_kept.specs.Files.{Says}
use Rattle.dm_store.specs.declared.pass.Pass.{Pass}
use Rattle.dm_store.specs.View.{View}
use Rattle.dm_attempt.specs.declared.stop.Going.{Going}
use Rattle.dm_attempt.specs.declared.stop.Stop.{Stop}
use Rattle.dm_attempt.specs.Asking.{Asking, source_by}
use Rattle.dm_attempt.specs.Ending.{IfBroke, StopHolds}
use Rattle.dm_attempt.specs.Live.{LiveDesk}
use Rattle.dm_attempt.specs.Scene.{Scene, told_by}
use Rattle.dm_attempt.specs.Shares.{Grows, Keeps, Share, total}
use Rattle.dm_attempt.specs.Trace.{Round, Trace, connections_of, opened, with_saves}
use Rattle.dm_rounds.specs.declared.lane.Lane.{Lane}
use Rattle.dm_rounds.specs.declared.lane.Turn.{Turn}
use Rattle.dm_rounds.specs.Lanes.{InRound, IsCutRound, IsLeft, IsReady, IsWholeRound, LaneAsks, LaneStops, SomeBroke, StopSays, TurnSays, is_at}

-- the live round: how it asks, the cover that it began with, and what was landed of its parts
abbrev pub live_round : Asking → List Slice → List Share → Round
live_round asking cover shares = record { asking = asking; cover = cover; shares = shares; wires = [] }

-- The content stands under the item's key and last address, which is read of its own text. The round is this attempt's, its length is known just where the item's
-- is, and it asks for ranges just where the item has a strong tag and a total.
pub record IsKeyed (pass : Pass) (asking : Asking) (item : Item) : Type 0 where
  pub key_is : item.key ≡ Some asking.key
  pub address_is : item.last_address ≡ Some asking.purpose.address.text
  pub reads : IsRead asking.purpose.address.text asking.purpose.address
  pub purpose_is : asking.purpose ≡ purpose_of pass.id pass.attempt asking.purpose.address
  pub source_is : asking.source ≡ source_by asking.purpose.address asking.key item.total
  pub known_is : asking.known ≡ is_some item.total

-- the attempt runs, and its live round has these shares
pub record HasRound {D O : Type 0} (tells : Type 0) (clock : D → Clock) (says : O → Says) (far : D → ℕ) (counts : D → DiskKind → ℕ) (scene : Scene D O) (going : Going) (desk : View D O) (older : Trace) (asking : Asking) (cover : List Slice) (shares : List Share) : Type 0 where
  pub live : LiveDesk tells clock says far counts scene going.pass desk (opened older (live_round asking cover shares))
  pub turn_is : going.round ≡ length older.rounds + 1
  pub keyed : IsKeyed going.pass asking (told_by scene older.told)

-- a lane of that round may be read on
pub record IsTurn {W O : Type 0} (wires : Type 0) (made_for : W → Purpose) (told : W → Told) (origin : W → O) (at : O) (asking : Asking) (shares : List Share) (lane : Lane W) : Type 0 where
  pub ready : IsReady wires made_for told asking.key shares lane
  pub asks : LaneAsks wires made_for told asking lane
  pub origin_is : origin lane.wire ≡ at

-- some round and its share of a lane are such
pub record MayTurn {D O W : Type 0} (tells : Type 0) (clock : D → Clock) (says : O → Says) (far : D → ℕ) (counts : D → DiskKind → ℕ) (wires : Type 0) (made_for : W → Purpose) (told : W → Told) (origin : W → O) (going : Going) (desk : View D O) (lane : Lane W) : Type 0 where
  pub scene : Scene D O
  pub older : Trace
  pub asking : Asking
  pub cover : List Slice
  pub shares : List Share
  pub round : HasRound tells clock says far counts scene going desk older asking cover shares
  pub turn : IsTurn wires made_for told origin scene.start.origin asking shares lane

-- a turn went on: its lane's share grew, perhaps, and more was saved, perhaps
pub record TurnGoes {D O W : Type 0} (tells : Type 0) (clock : D → Clock) (says : O → Says) (far : D → ℕ) (counts : D → DiskKind → ℕ) (wires : Type 0) (made_for : W → Purpose) (told : W → Told) (scene : Scene D O) (going : Going) (desk : View D O) (older : Trace) (asking : Asking) (cover : List Slice) (shares : List Share) (lane : Lane W) (turn : Turn) : Type 0 where
  pub saves : List (List Slice)
  pub after : List Share
  pub live : LiveDesk tells clock says far counts scene going.pass desk (opened (with_saves older saves) (live_round asking cover after))
  pub grows : Grows lane.part.index shares after
  pub is : TurnSays wires made_for told asking.key after lane turn

-- a turn stopped the attempt
pub record TurnStops {D O W : Type 0} (tells : Type 0) (clock : D → Clock) (says : O → Says) (far : D → ℕ) (counts : D → DiskKind → ℕ) (wires : Type 0) (told : W → Told) (scene : Scene D O) (going : Going) (desk : View D O) (older : Trace) (asking : Asking) (cover : List Slice) (shares : List Share) (lane : Lane W) (stop : Stop) : Type 0 where
  pub saves : List (List Slice)
  pub holds : StopHolds false tells clock says far counts scene going.pass desk (opened (with_saves older saves) (live_round asking cover shares)) stop
  pub left : IsLeft wires told shares lane
  pub stops : wires → LaneStops told shares lane stop

abbrev pub TurnLeaves : {D O W : Type 0} → Type 0 → (D → Clock) → (O → Says) → (D → ℕ) → (D → DiskKind → ℕ) → Type 0 → (W → Purpose) → (W → Told) → Scene D O → Going → View D O → Trace → Asking → List Slice → List Share → Lane W → Result Turn Stop → Type 0
TurnLeaves tells clock says far counts wires made_for told scene going desk older asking cover shares lane (Ok turn) =
    TurnGoes tells clock says far counts wires made_for told scene going desk older asking cover shares lane turn
TurnLeaves tells clock says far counts wires made_for told scene going desk older asking cover shares lane (Err stop) =
    TurnStops tells clock says far counts wires told scene going desk older asking cover shares lane stop

-- the connections that were closed before the round
abbrev pub closed_before : {D O : Type 0} → Scene D O → Trace → List Closed
closed_before scene older = scene.closed ++ connections_of older

-- The live round is read: each lane may be read on, no two are of one part, and each part has a lane or was brought whole.
pub record IsReading {D O W : Type 0} (tells : Type 0) (clock : D → Clock) (says : O → Says) (far : D → ℕ) (counts : D → DiskKind → ℕ) (net wires : Type 0) (made_for : W → Purpose) (told : W → Told) (origin : W → O) (scene : Scene D O) (going : Going) (desk : View D O) (closed : List Closed) (older : Trace) (asking : Asking) (cover : List Slice) (shares : List Share) (lanes : List (Lane W)) : Type 0 where
  pub has : HasRound tells clock says far counts scene going desk older asking cover shares
  pub ready : AllByRecursion (IsReady wires made_for told asking.key shares) lanes
  pub origins : AllByRecursion (λ lane. origin lane.wire ≡ scene.start.origin) lanes
  pub few : (n : ℕ) → total (is_at n) lanes ≤ 1
  pub round : InRound net wires made_for told asking (closed_before scene older) closed shares lanes

-- some round is read
pub record MayRead {D O W : Type 0} (tells : Type 0) (clock : D → Clock) (says : O → Says) (far : D → ℕ) (counts : D → DiskKind → ℕ) (net wires : Type 0) (made_for : W → Purpose) (told : W → Told) (origin : W → O) (going : Going) (desk : View D O) (closed : List Closed) (lanes : List (Lane W)) : Type 0 where
  pub scene : Scene D O
  pub older : Trace
  pub asking : Asking
  pub cover : List Slice
  pub shares : List Share
  pub is : IsReading tells clock says far counts net wires made_for told origin scene going desk closed older asking cover shares lanes

-- the reading went on
pub record ReadsOn {D O W : Type 0} (tells : Type 0) (clock : D → Clock) (says : O → Says) (far : D → ℕ) (counts : D → DiskKind → ℕ) (net wires : Type 0) (made_for : W → Purpose) (told : W → Told) (origin : W → O) (scene : Scene D O) (going : Going) (desk : View D O) (closed : List Closed) (older : Trace) (asking : Asking) (cover : List Slice) (shares : List Share) (lanes : List (Lane W)) : Type 0 where
  pub saves : List (List Slice)
  pub after : List Share
  pub keeps : Keeps shares after
  pub is : IsReading tells clock says far counts net wires made_for told origin scene going desk closed (with_saves older saves) asking cover after lanes

-- the reading stopped, and the lanes are to be closed
pub record ReadStops {D O W : Type 0} (tells : Type 0) (clock : D → Clock) (says : O → Says) (far : D → ℕ) (counts : D → DiskKind → ℕ) (net wires : Type 0) (made_for : W → Purpose) (told : W → Told) (scene : Scene D O) (going : Going) (desk : View D O) (closed : List Closed) (older : Trace) (asking : Asking) (cover : List Slice) (shares : List Share) (lanes : List (Lane W)) (stop : Stop) : Type 0 where
  pub saves : List (List Slice)
  pub after : List Share
  pub keeps : Keeps shares after
  pub holds : StopHolds false tells clock says far counts scene going.pass desk (opened (with_saves older saves) (live_round asking cover after)) stop
  pub left : AllByRecursion (IsLeft wires told after) lanes
  pub round : InRound net wires made_for told asking (closed_before scene older) closed after lanes
  pub stops : wires → StopSays told after lanes stop

abbrev pub ReadLeaves : {D O W : Type 0} → Type 0 → (D → Clock) → (O → Says) → (D → ℕ) → (D → DiskKind → ℕ) → Type 0 → Type 0 → (W → Purpose) → (W → Told) → (W → O) → Scene D O → Going → View D O → List Closed → Trace → Asking → List Slice → List Share → List (Lane W) → Result (Unit {0}) Stop → Type 0
ReadLeaves tells clock says far counts net wires made_for told origin scene going desk closed older asking cover shares lanes (Ok done) =
    ReadsOn tells clock says far counts net wires made_for told origin scene going desk closed older asking cover shares lanes
ReadLeaves tells clock says far counts net wires made_for told origin scene going desk closed older asking cover shares lanes (Err stop) =
    ReadStops tells clock says far counts net wires made_for told scene going desk closed older asking cover shares lanes stop

-- the round was read whole
pub record RoundGoes {D O : Type 0} (tells : Type 0) (clock : D → Clock) (says : O → Says) (far : D → ℕ) (counts : D → DiskKind → ℕ) (net : Type 0) (scene : Scene D O) (going : Going) (desk : View D O) (closed : List Closed) (older : Trace) (asking : Asking) (cover : List Slice) (shares : List Share) : Type 0 where
  pub saves : List (List Slice)
  pub after : List Share
  pub keeps : Keeps shares after
  pub live : LiveDesk tells clock says far counts scene going.pass desk (opened (with_saves older saves) (live_round asking cover after))
  pub round : IsWholeRound net asking (closed_before scene older) closed after

-- the round stopped the attempt, and all its wires are closed
pub record RoundStops {D O : Type 0} (tells : Type 0) (clock : D → Clock) (says : O → Says) (far : D → ℕ) (counts : D → DiskKind → ℕ) (net : Type 0) (scene : Scene D O) (going : Going) (desk : View D O) (closed : List Closed) (older : Trace) (asking : Asking) (cover : List Slice) (shares : List Share) (stop : Stop) : Type 0 where
  pub saves : List (List Slice)
  pub after : List Share
  pub keeps : Keeps shares after
  pub holds : StopHolds false tells clock says far counts scene going.pass desk (opened (with_saves older saves) (live_round asking cover after)) stop
  pub round : IsCutRound net asking (closed_before scene older) closed after
  pub shown : net → IfBroke stop (SomeBroke round.wires after)

abbrev pub RoundLeaves : {D O : Type 0} → Type 0 → (D → Clock) → (O → Says) → (D → ℕ) → (D → DiskKind → ℕ) → Type 0 → Scene D O → Going → View D O → List Closed → Trace → Asking → List Slice → List Share → Result (Unit {0}) Stop → Type 0
RoundLeaves tells clock says far counts net scene going desk closed older asking cover shares (Ok done) = RoundGoes tells clock says far counts net scene going desk closed older asking cover shares
RoundLeaves tells clock says far counts net scene going desk closed older asking cover shares (Err stop) = RoundStops tells clock says far counts net scene going desk closed older asking cover shares stop
