-- All rounds of an attempt: how they ask, which connections they had, and how one more attempt of them stops.
use Rattle.std.specs.Prelude.{◌≡◌, ◌≢◌, ◌⊎◌, ◌<◌, ◌≤◌, ℕ, Bool, List, [], ◌∷◌, ◌++◌, length, slice_get, Some, None, true, false, Result, Ok, Err, IfSome, IsTrue}
use Rattle.std.specs.List.{AllByRecursion, Contains}
use Rattle.dm_types.specs.Faults.{Rose}
use Rattle.dm_types.specs.declared.item.Key.TheVariants.{Strong}
use Rattle.dm_types.specs.declared.kinds.DiskKind.{DiskKind}
use Rattle.dm_types.specs.declared.slices.Slice.{Slice}
use Rattle.dm_disk_model.specs.Disk.{History as Clock}
use Rattle.dm_policy.specs.declared.cause.Cause.{Cause}
use Rattle.dm_policy.specs.declared.cause.Cause.TheVariants as causes
use Rattle.dm_edge.specs.declared.fault.NetFault.{NetFault}
use Rattle.dm_edge.specs.declared.wanted.Wanted.{Wanted}
use Rattle.dm_edge.specs.declared.wanted.Wanted.TheVariants.{Whole}
use Rattle.dm_edge.specs.Causes.{CutsNet, IsNetFault}
use Rattle.dm_edge.specs.Fair.{ask_of}
use Rattle.dm_edge.specs.Wire.{Closed, Purpose}
use Rattle.dm_request.specs.Request.{request_of}
use Rattle.dm_ask.specs.Causes.{MeetsHead, net_kind_of}
use Rattle.dm_ask.specs.Following.{SentUntil}
use Rattle.dm_ask.specs.Redirects.{purpose_of}
use Rattle.dm_slice.specs.Words.{IsFirstMissing}
use Rattle.dm_slice.specs.declared.plan.Part.{Part}
use Rattle.dm_kept.specs.Files.{Says}
use Rattle.dm_store.specs.declared.pass.Pass.{Pass}
use Rattle.dm_store.specs.View.{View}
use Rattle.dm_answers.specs.Plan.{last_round}
use Rattle.dm_attempt.specs.declared.source.Source.{Source}
use Rattle.dm_attempt.specs.declared.stop.Stop.{Stop}
use Rattle.dm_attempt.specs.Asking.{Asking, IsRangeOf}
use Rattle.dm_attempt.specs.Ending.{IfBroke, StopHolds}
use Rattle.dm_attempt.specs.Heads.{SaysReply}
use Rattle.dm_attempt.specs.Live.{DeskOver, LiveDesk}
use Rattle.dm_attempt.specs.Scene.{Scene, begun_by, cover_by}
use Rattle.dm_attempt.specs.Shares.{Share, total}
use Rattle.dm_attempt.specs.Shows.{DeskDone, total_by}
use Rattle.dm_attempt.specs.Trace.{Done, Round, Trace, connections_of, untold, wires_of, with_saves}
use Rattle.dm_rounds.specs.Lanes.{IsRead, SomeBroke, is_net_cause, is_of}
use Rattle.dm_rounds.specs.Opened.{WasTried}
use Rattle.dm_rounds.specs.Reading.{IsKeyed, closed_before}

-- how the next round asks behind these: the oldest one as the attempt begins, and each other one for all parts by their ranges
abbrev pub asking_behind : Asking → List Round → Asking
asking_behind first [] = first
asking_behind first (round ∷ older) = record first { served = false }

-- Each part was asked for and brought whole by one connection, and the round has no others.
pub record WasRead (net : Type 0) (round : Round) : Type 0 where
  pub once : (n : ℕ) → n < length round.shares → total (is_of n) round.wires ≡ 1
  pub all : AllByRecursion (IsRead net round.asking round.shares) round.wires

-- Each part was asked for on one connection at most, with its whole request or a front of it, and the round has no others. What was landed came from them.
pub record WasCut (net : Type 0) (round : Round) : Type 0 where
  pub once : net → (n : ℕ) → n < length round.shares → total (is_of n) round.wires ≤ 1
  pub each : net → AllByRecursion (WasTried round.asking round.shares) round.wires
  pub landed : net → (n : ℕ) (share : Share) → slice_get round.shares n ≡ Some share → (share.bytes ≡ []) ⊎ (total (is_of n) round.wires ≡ 1)

-- all rounds were read whole
abbrev pub AreRead : Type 0 → Asking → List Round → Type 0
AreRead net first [] = Unit {0}
AreRead net first (round ∷ older) = (round.asking ≡ asking_behind first older) × WasRead net round × AreRead net first older

-- all but the newest were
abbrev pub AreCut : Type 0 → Asking → List Round → Type 0
AreCut net first [] = Unit {0}
AreCut net first (round ∷ older) = (round.asking ≡ asking_behind first older) × WasCut net round × AreRead net first older

-- the same attempt, later: there are more rounds, and other saves
pub record GoesFrom (older later : Trace) : Type 0 where
  pub led_is : later.led ≡ older.led
  pub lost_is : later.lost ≡ older.lost
  pub wish_is : later.wish ≡ older.wish
  pub told_is : later.told ≡ older.told
  pub count_is : later.count ≡ older.count
  pub newer : List Round
  pub rounds_are : later.rounds ≡ newer ++ older.rounds

-- the newest round makes connections for this, and asks on them for what is wanted, as the range of a part of its source
abbrev pub IsAskedIn : List Round → Purpose → Wanted → Type 0
IsAskedIn [] purpose wanted = ⊥
IsAskedIn (round ∷ older) purpose wanted = (purpose ≡ round.asking.purpose) × (part : Part) × IsRangeOf round.asking.source part wanted

-- The head on one of the attempt's connections shows the cause, where so many connections had led on: of a whole content just those before it, of all that belong to
-- no round. It was sent the whole request for what was wanted, or the cause cut it off. A range that was wanted is one of the newest round's source, of the total that
-- is known of it.
pub record HeadShows (before after : NetFault → ℕ) (trace : Trace) (cause : Cause) : Type 0 where
  pub connection : Closed
  pub among : Contains (connections_of trace) connection
  pub wanted : Wanted
  pub asked : (wanted ≡ Whole) ⊎ IsAskedIn trace.rounds connection.purpose wanted
  pub followed : ℕ
  pub last : wanted ≡ Whole → (led : List Closed) × (trace.led ++ trace.lost ≡ led ++ connection ∷ []) × (followed ≡ length led)
  pub sent : SentUntil (CutsNet before after) (request_of connection.purpose.address (ask_of wanted)) connection.sent cause
  pub met : MeetsHead wanted connection.purpose.address followed connection.stream cause

-- the stream of one of the newest round's connections shows it
abbrev pub ContentShows : List Round → Cause → Type 0
ContentShows [] cause = ⊥
ContentShows (round ∷ older) cause = SomeBroke round.wires round.shares cause

-- a count of the net that rose, a head or a content shows the cause
abbrev pub NetShowsIt : (NetFault → ℕ) → (NetFault → ℕ) → Trace → Cause → Type 0
NetShowsIt before after trace cause = IsNetFault before after cause ⊎ (HeadShows before after trace cause ⊎ ContentShows trace.rounds cause)

-- the rounds are used up, and a place below the total hasn't come
pub record AreUsedUp {D O : Type 0} (scene : Scene D O) (trace : Trace) (cause : Cause) : Type 0 where
  pub cause_is : cause ≡ causes.RangeRefused 206
  pub last : length trace.rounds ≡ last_round
  pub place : ℕ
  pub missing : IsFirstMissing (total_by scene trace) (cover_by scene trace) place

-- A cause is one of asking or reading, and not want of memory, and where it is the net's, the net counted it, over any net; and where the net tells, it shows. Or the
-- rounds are used up.
abbrev pub IsShown : {D O : Type 0} → Type 0 → (NetFault → ℕ) → (NetFault → ℕ) → Scene D O → Trace → Cause → Type 0
IsShown net before after scene trace cause =
    AreUsedUp scene trace cause ⊎ (IsTrue (is_net_cause cause) × IfSome (net_kind_of cause) (λ kind. Rose (before kind) (after kind)) × (net → NetShowsIt before after trace cause))

-- The attempt brought all that the trace has, of one round at least, and is over by that. These are all its connections.
pub record HasEnded {D O : Type 0} (tells : Type 0) (clock : D → Clock) (says : O → Says) (far : D → ℕ) (counts : D → DiskKind → ℕ) (net : Type 0) (scene : Scene D O) (pass : Pass) (present : View D O) (closed : List Closed) (trace : Trace) : Type 0 where
  pub some : trace.rounds ≢ []
  pub closed_is : net → closed ≡ closed_before scene trace
  pub digest : List ℕ
  pub done : DeskDone tells clock says far counts scene pass trace digest
  pub saves : List (List Slice)
  pub over : DeskOver tells clock says far counts scene present (with_saves trace saves) (Done (total_by scene trace) digest)

-- The attempt stopped, perhaps while it finished what came of one round at least, and what the desk has is what ends it. All its wires are closed, and the cause is shown.
pub record HasStopped {D O : Type 0} (tells : Type 0) (clock : D → Clock) (says : O → Says) (far : D → ℕ) (counts : D → DiskKind → ℕ) (net : Type 0) (scene : Scene D O) (pass : Pass) (present : View D O) (closed : List Closed) (before after : NetFault → ℕ) (trace : Trace) (stop : Stop) : Type 0 where
  pub closed_is : net → closed ≡ closed_before scene trace
  pub came : Bool
  pub some : IsTrue came → trace.rounds ≢ []
  pub holds : StopHolds came tells clock says far counts scene pass present trace stop
  pub shown : IfBroke stop (IsShown net before after scene trace)

-- One of the rounds' connections is that of the first reply: it was made for the rounds, was sent the whole request without a range, and its stream begins with that head.
pub record HasFirst (first : Asking) (rounds : List Round) : Type 0 where
  pub connection : Closed
  pub among : Contains (wires_of rounds) connection
  pub purpose_is : connection.purpose ≡ first.purpose
  pub sent : connection.sent ≡ request_of connection.purpose.address None
  pub says : SaysReply first.reply connection.stream

-- where the first reply serves a part, its connection is one of the rounds'
abbrev pub IsServedIn : Type 0 → Asking → List Round → Type 0
IsServedIn net first rounds = net → first.served ≡ true → HasFirst first rounds

-- further rounds of an attempt brought all
pub record RunEnds {D O : Type 0} (tells : Type 0) (clock : D → Clock) (says : O → Says) (far : D → ℕ) (counts : D → DiskKind → ℕ) (net : Type 0) (scene : Scene D O) (pass : Pass) (present : View D O) (closed : List Closed) (older : Trace) (first : Asking) : Type 0 where
  pub trace : Trace
  pub from : GoesFrom older trace
  pub rounds : AreRead net first trace.rounds
  pub served : IsServedIn net first trace.rounds
  pub ended : HasEnded tells clock says far counts net scene pass present closed trace

-- One of them stopped it. The desk was asked to finish only where all of them were read whole.
pub record RunStops {D O : Type 0} (tells : Type 0) (clock : D → Clock) (says : O → Says) (far : D → ℕ) (counts : D → DiskKind → ℕ) (net : Type 0) (scene : Scene D O) (pass : Pass) (present : View D O) (closed : List Closed) (before after : NetFault → ℕ) (older : Trace) (first : Asking) (stop : Stop) : Type 0 where
  pub trace : Trace
  pub from : GoesFrom older trace
  pub rounds : AreCut net first trace.rounds
  pub served : IsServedIn net first trace.rounds
  pub stopped : HasStopped tells clock says far counts net scene pass present closed before after trace stop
  pub all : IsTrue stopped.came → AreRead net first trace.rounds

abbrev pub RunLeaves : {D O : Type 0} → Type 0 → (D → Clock) → (O → Says) → (D → ℕ) → (D → DiskKind → ℕ) → Type 0 → Scene D O → Pass → View D O → List Closed → (NetFault → ℕ) → (NetFault → ℕ) → Trace → Asking → Result (Unit {0}) Stop → Type 0
RunLeaves tells clock says far counts net scene pass present closed before after older first (Ok done) = RunEnds tells clock says far counts net scene pass present closed older first
RunLeaves tells clock says far counts net scene pass present closed before after older first (Err stop) = RunStops tells clock says far counts net scene pass present closed before after older first stop

-- how an attempt asks that goes on with what was saved of a content: for all parts by their ranges, of this source
abbrev pub kept_asking : Pass → Source → Asking
kept_asking pass source = record { served = false; source = Some source; purpose = purpose_of pass.id pass.attempt source.address; key = Strong source.tag; known = true; reply = None }

-- The attempt has just begun, and goes on with what was saved of the source's content.
pub record IsKeptStart {D O : Type 0} (tells : Type 0) (clock : D → Clock) (says : O → Says) (far : D → ℕ) (counts : D → DiskKind → ℕ) (net : Type 0) (scene : Scene D O) (pass : Pass) (desk : View D O) (closed : List Closed) (there : O) (source : Source) (n at : ℕ) : Type 0 where
  pub live : LiveDesk tells clock says far counts scene pass desk (untold [] [] n)
  pub keyed : IsKeyed pass (kept_asking pass source) (begun_by scene)
  pub still : net → closed ≡ scene.closed
  pub origin : there ≡ scene.start.origin
  pub at_is : at ≡ scene.at

-- so it is in some scene
pub record MayKeep {D O : Type 0} (tells : Type 0) (clock : D → Clock) (says : O → Says) (far : D → ℕ) (counts : D → DiskKind → ℕ) (net : Type 0) (pass : Pass) (desk : View D O) (closed : List Closed) (there : O) (source : Source) (n at : ℕ) : Type 0 where
  pub scene : Scene D O
  pub is : IsKeptStart tells clock says far counts net scene pass desk closed there source n at
