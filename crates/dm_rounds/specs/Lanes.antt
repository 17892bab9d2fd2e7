-- A lane, and a round of lanes.
use Rattle.std.specs.Prelude.{◌≡◌, ◌⊎◌, ◌<◌, ◌≤◌, ◌==◌, ℕ, ◌+◌, ◌-◌, Bool, true, false, cond, List, ◌++◌, length, map, take, slice_get, Option, Some, None, Result, Ok, Err, IfSome, IsTrue}
use Rattle.std.specs.List.{AllByRecursion, Contains}
use Rattle.httparse.specs.Grammar.{ResponseHead}
use Rattle.dm_types.specs.Faults.{Rose}
use Rattle.dm_types.specs.declared.item.Key.{Key}
use Rattle.dm_policy.specs.declared.cause.Cause.{Cause}
use Rattle.dm_policy.specs.declared.cause.Cause.TheVariants as causes
use Rattle.dm_edge.specs.declared.fault.NetFault.{NetFault}
use Rattle.dm_edge.specs.declared.fault.WireFault.{WireFault}
use Rattle.dm_edge.specs.declared.wanted.Wanted.{Wanted}
use Rattle.dm_edge.specs.declared.wanted.Wanted.TheVariants.{Whole}
use Rattle.dm_edge.specs.Begins.{most_content}
use Rattle.dm_edge.specs.Fair.{HasTag, ask_of, key_of}
use Rattle.dm_edge.specs.Fields.{fields_of}
use Rattle.dm_edge.specs.Metadata.{IsStrongTag}
use Rattle.dm_edge.specs.Reply.{IsWhole, ContentBroke}
use Rattle.dm_edge.specs.Wire.{Purpose, Told, Closed, closed_of, stream_of}
use Rattle.dm_request.specs.Request.{request_of}
use Rattle.dm_ask.specs.Causes.{net_kind_of}
use Rattle.dm_reply.specs.declared.got.Got.{Got}
use Rattle.dm_reply.specs.declared.got.Got.TheVariants.{Bytes, End}
use Rattle.dm_reply.specs.Content.{Reader, HasRead, counted_of, first_some}
use Rattle.dm_reply.specs.Faults.{cause_kind}
use Rattle.dm_reply.specs.Steps.{least_of}
use Rattle.dm_attempt.specs.declared.stop.Stop.{Stop}
use Rattle.dm_attempt.specs.declared.stop.Stop.TheVariants as stops
use Rattle.dm_attempt.specs.Asking.{Asking, IsAsked}
use Rattle.dm_attempt.specs.Ending.{IfBroke}
use Rattle.dm_attempt.specs.Shares.{Share, total}
use Rattle.dm_attempt.specs.Trace.{Carried}
use Rattle.dm_rounds.specs.declared.lane.Lane.{Lane}
use Rattle.dm_rounds.specs.declared.lane.Turn.{Turn}
use Rattle.dm_rounds.specs.declared.lane.Turn.TheVariants as turns

-- the stream has content that begins with these bytes, or it broke behind them
pub data Brought (wanted : Wanted) (stream bytes : List ℕ) : Type 0 where
  read : (given rest more : List ℕ) (reader : Reader) (head : ResponseHead) → stream ≡ given ++ rest → HasRead wanted head given reader (bytes ++ more) → Brought wanted stream bytes
  broke : (cause : Cause) → ContentBroke wanted stream bytes cause → Brought wanted stream bytes

-- what was landed of a lane's part is a front of what its stream brought
pub record IsLeft {W : Type 0} (tells : Type 0) (told : W → Told) (shares : List Share) (lane : Lane W) : Type 0 where
  pub share : Share
  pub share_is : slice_get shares lane.part.index ≡ Some share
  pub part_is : share.part ≡ lane.part
  pub brought : tells → Brought lane.reader.wanted (stream_of (told lane.wire)) share.bytes

-- a content of no told length has at most this many bytes
abbrev pub most_by : Option ℕ → ℕ
most_by None = most_content
most_by (Some n) = n

-- how many bytes a reader gives at most
abbrev pub most_given : Reader → ℕ
most_given reader = least_of reader.size (most_by (counted_of reader.reading.body))

-- A place of its part comes next, or the part is open and ends where no content goes on.
abbrev pub GoesOn : {W : Type 0} → Lane W → Type 0
GoesOn lane = (lane.at < lane.part.end) ⊎ ((lane.bounded ≡ false) × (lane.part.first + most_given lane.reader ≤ lane.part.end))

-- a reader behind a head with content that stands under this key gave these bytes from what its wire gave
pub record HasGiven (key : Key) (purpose : Purpose) (wanted : Wanted) (given : List ℕ) (reader : Reader) (bytes : List ℕ) : Type 0 where
  pub head : ResponseHead
  pub has : HasRead wanted head given reader bytes
  pub tag : Option (List ℕ)
  pub tag_is : IsStrongTag (fields_of head) tag
  pub key_is : key ≡ key_of purpose tag

-- how many bytes a reader is to give, where it is told
abbrev pub told_count : Reader → Option ℕ
told_count reader = first_some reader.size (counted_of reader.reading.body)

-- it is told, and the part ends within so many
pub record TellsEnd {W : Type 0} (lane : Lane W) : Type 0 where
  pub count : ℕ
  pub told : told_count lane.reader ≡ Some count
  pub within : lane.part.end ≤ lane.part.first + count

-- what was landed of a lane's part is all that it gave, and more is to come
pub record IsReady {W : Type 0} (tells : Type 0) (made_for : W → Purpose) (told : W → Told) (key : Key) (shares : List Share) (lane : Lane W) : Type 0 where
  pub left : IsLeft tells told shares lane
  pub at : lane.at ≡ lane.part.first + length left.share.bytes
  pub within : lane.at ≤ lane.part.end
  pub on : GoesOn lane
  pub open_end : lane.bounded ≡ false → lane.part.first + most_given lane.reader ≤ lane.part.end
  pub given : lane.reader.reading.given ≡ length left.share.bytes
  pub unbroken : lane.reader.reading.broke ≡ None
  pub whole : lane.bounded ≡ true → lane.reader.wanted ≡ Whole → TellsEnd lane
  pub reads : tells → HasGiven key (made_for lane.wire) lane.reader.wanted (told lane.wire).given lane.reader left.share.bytes

-- the stream has a head with the wanted content, under whose tag the content's key stands
pub record StandsUnder (key : Key) (purpose : Purpose) (wanted : Wanted) (stream : List ℕ) : Type 0 where
  pub tag : Option (List ℕ)
  pub has : HasTag wanted stream tag
  pub key_is : key ≡ key_of purpose tag

-- All of the part was landed, or all that the stream has, whose head has the content's key. Of a part of known end that a whole reply brings all was landed.
pub record IsFull {W : Type 0} (tells : Type 0) (made_for : W → Purpose) (told : W → Told) (key : Key) (shares : List Share) (lane : Lane W) : Type 0 where
  pub left : IsLeft tells told shares lane
  pub whole : (lane.part.first + length left.share.bytes ≡ lane.part.end) ⊎ (tells → IsWhole lane.reader.wanted (stream_of (told lane.wire)) left.share.bytes)
  pub alone : lane.bounded ≡ true → lane.reader.wanted ≡ Whole → lane.part.first + length left.share.bytes ≡ lane.part.end
  pub stands : tells → StandsUnder key (made_for lane.wire) lane.reader.wanted (stream_of (told lane.wire))

-- what an answer does to a lane's place and reader
abbrev pub PieceMoves : {W : Type 0} → Lane W → Lane W → Result Got Cause → ℕ → Type 0
PieceMoves old new (Ok (Bytes n)) room =
    (0 < n) × (n ≤ room) × (new.at ≡ old.at + n) × (new.at ≤ new.part.end) × (new.reader.reading.given ≡ old.reader.reading.given + n) × (new.reader.reading.broke ≡ None)
PieceMoves old new (Ok End) room = new.at ≡ old.at
PieceMoves old new (Err cause) room = new.at ≡ old.at

-- what an answer says of the stream, where these bytes were given before
abbrev pub PieceSays : {W : Type 0} → Key → (W → Purpose) → (W → Told) → Lane W → Lane W → Result Got Cause → List ℕ → List ℕ → Type 0
PieceSays key made_for told old new (Ok (Bytes n)) buffer bytes = HasGiven key (made_for old.wire) old.reader.wanted (told new.wire).given new.reader (bytes ++ take n buffer)
PieceSays key made_for told old new (Ok End) buffer bytes = IsWhole old.reader.wanted (stream_of (told new.wire)) bytes × HasGiven key (made_for old.wire) old.reader.wanted (told new.wire).given new.reader bytes
PieceSays key made_for told old new (Err cause) buffer bytes = ContentBroke old.reader.wanted (stream_of (told new.wire)) bytes cause

-- a lane is at its part's end just where its end is known and reached
abbrev pub TurnIs : {W : Type 0} → Lane W → Turn → Type 0
TurnIs lane turns.More = (lane.at < lane.part.end) ⊎ (lane.bounded ≡ false)
TurnIs lane turns.Whole = lane.at ≡ lane.part.end

abbrev pub TurnSays : {W : Type 0} → Type 0 → (W → Purpose) → (W → Told) → Key → List Share → Lane W → Turn → Type 0
TurnSays tells made_for told key shares lane turns.More = IsReady tells made_for told key shares lane
TurnSays tells made_for told key shares lane turns.Whole = IsFull tells made_for told key shares lane

abbrev pub TurnMoves : {W : Type 0} → Lane W → Lane W → Result Turn Stop → Type 0
TurnMoves old new (Ok turns.More) = (old.at < new.at) × (new.at ≤ new.part.end)
TurnMoves old new (Ok turns.Whole) = Unit {0}
TurnMoves old new (Err stop) = Unit {0}

-- a lane's stream has this cause behind what was landed of its part
pub record LaneBroke {W : Type 0} (told : W → Told) (shares : List Share) (lane : Lane W) (cause : Cause) : Type 0 where
  pub share : Share
  pub share_is : slice_get shares lane.part.index ≡ Some share
  pub is : ContentBroke lane.reader.wanted (stream_of (told lane.wire)) share.bytes cause

-- want of memory is no cause of the content
abbrev pub stop_met : Cause → Stop
stop_met causes.Memory = stops.NoMemory
stop_met cause = stops.Broke cause

-- why reading stopped, as the lane's stream shows it
abbrev pub LaneStops : {W : Type 0} → (W → Told) → List Share → Lane W → Stop → Type 0
LaneStops told shares lane (stops.Broke cause) = LaneBroke told shares lane cause
LaneStops told shares lane stops.NoMemory = Unit {0}
LaneStops told shares lane (stops.Fault fault) = Unit {0}
LaneStops told shares lane (stops.Recorded reason) = Unit {0}

-- one of the lanes stopped it
pub record StopSays {W : Type 0} (told : W → Told) (shares : List Share) (lanes : List (Lane W)) (stop : Stop) : Type 0 where
  pub lane : Lane W
  pub among : Contains lanes lane
  pub stops : LaneStops told shares lane stop

-- a cause that is a fault of a wire shows in its count
abbrev pub ShownOn : {W : Type 0} → (W → WireFault → ℕ) → Lane W → Stop → Type 0
ShownOn counts lane (stops.Broke cause) = IfSome (cause_kind cause) (λ kind. 0 < counts lane.wire kind)
ShownOn counts lane stops.NoMemory = Unit {0}
ShownOn counts lane (stops.Fault fault) = Unit {0}
ShownOn counts lane (stops.Recorded reason) = Unit {0}

pub record SomeShows {W : Type 0} (counts : W → WireFault → ℕ) (lanes : List (Lane W)) (stop : Stop) : Type 0 where
  pub lane : Lane W
  pub among : Contains lanes lane
  pub shown : ShownOn counts lane stop

-- a connection asked for its part, whose end is known just where the content's length is
pub record LaneAsks {W : Type 0} (tells : Type 0) (made_for : W → Purpose) (told : W → Told) (asking : Asking) (lane : Lane W) : Type 0 where
  pub asked : IsAsked tells asking lane.part lane.reader.wanted (made_for lane.wire) (told lane.wire).sent (told lane.wire).given
  pub bounded_is : lane.bounded ≡ asking.known

-- a closed connection asked for its part
abbrev pub WasAsked : Type 0 → Asking → Carried → Type 0
WasAsked net asking c = IsAsked net asking c.part c.wanted c.connection.purpose c.connection.sent c.connection.stream

-- Its part was landed whole from it, under the content's key: to its end, or to the stream's. To the part's end where a whole reply of known length brought it.
pub record IsRead (net : Type 0) (asking : Asking) (shares : List Share) (c : Carried) : Type 0 where
  pub share : Share
  pub share_is : slice_get shares c.part.index ≡ Some share
  pub part_is : share.part ≡ c.part
  pub asked : WasAsked net asking c
  pub brought : net → Brought c.wanted c.connection.stream share.bytes
  pub whole : (share.part.first + length share.bytes ≡ share.part.end) ⊎ (net → IsWhole c.wanted c.connection.stream share.bytes)
  pub alone : c.wanted ≡ Whole → asking.known ≡ true → share.part.first + length share.bytes ≡ share.part.end
  pub stands : net → StandsUnder asking.key c.connection.purpose c.wanted c.connection.stream

-- 1 where the lane's part has this number
abbrev pub is_at : {W : Type 0} → ℕ → Lane W → ℕ
is_at n lane = cond (lane.part.index == n) 1 0

abbrev pub is_of : ℕ → Carried → ℕ
is_of n c = cond (c.part.index == n) 1 0

-- how many turns may come
abbrev pub left_of : {W : Type 0} → List (Lane W) → ℕ
left_of lanes = total (λ lane. 1 + (lane.part.end - lane.at)) lanes

-- Each part has a lane, or a connection that is closed and brought it whole. Nothing else was closed. Where the first reply serves the first part, there are parts.
pub record InRound {W : Type 0} (net tells : Type 0) (made_for : W → Purpose) (told : W → Told) (asking : Asking) (start now : List Closed) (shares : List Share) (lanes : List (Lane W)) : Type 0 where
  pub wires : List Carried
  pub closed : net → now ≡ start ++ map (λ (c : Carried). c.connection) wires
  pub each : AllByRecursion (IsRead net asking shares) wires
  pub asks : AllByRecursion (LaneAsks tells made_for told asking) lanes
  pub once : (n : ℕ) → n < length shares → total (is_of n) wires + total (is_at n) lanes ≡ 1
  pub first : asking.served ≡ true → 0 < length shares

-- the lanes' connections, in their order
abbrev pub closed_lanes : {W : Type 0} → (W → Purpose) → (W → Told) → List (Lane W) → List Closed
closed_lanes {W} made_for told lanes = map (λ (lane : Lane W). closed_of (made_for lane.wire) (told lane.wire)) lanes

abbrev pub Closes : {W : Type 0} → (W → Purpose) → (W → Told) → List Closed → List Closed → List (Lane W) → Type 0
Closes made_for told before after lanes = after ≡ before ++ closed_lanes made_for told lanes

-- what was landed of this part came from one of these connections, and is all of it
pub record IsBroughtBy (net : Type 0) (asking : Asking) (wires : List Carried) (n : ℕ) (share : Share) : Type 0 where
  pub c : Carried
  pub among : Contains wires c
  pub number : c.part.index ≡ n
  pub asked : WasAsked net asking c
  pub brought : net → Brought c.wanted c.connection.stream share.bytes
  pub whole : (share.part.first + length share.bytes ≡ share.part.end) ⊎ (net → IsWhole c.wanted c.connection.stream share.bytes)

-- Each part was brought whole by one connection, and these are all that were closed.
pub record IsWholeRound (net : Type 0) (asking : Asking) (start now : List Closed) (shares : List Share) : Type 0 where
  pub wires : List Carried
  pub closed : net → now ≡ start ++ map (λ (c : Carried). c.connection) wires
  pub once : (n : ℕ) → n < length shares → total (is_of n) wires ≡ 1
  pub first : asking.served ≡ true → 0 < length shares
  pub all : AllByRecursion (IsRead net asking shares) wires
  pub each : (n : ℕ) (share : Share) → slice_get shares n ≡ Some share → IsBroughtBy net asking wires n share

-- its part was landed from it as far as it was landed
pub record IsCarried (net : Type 0) (asking : Asking) (shares : List Share) (c : Carried) : Type 0 where
  pub share : Share
  pub share_is : slice_get shares c.part.index ≡ Some share
  pub part_is : share.part ≡ c.part
  pub asked : WasAsked net asking c
  pub brought : net → Brought c.wanted c.connection.stream share.bytes

-- Each part was brought so far by one connection, and these are all that were closed.
pub record IsCutRound (net : Type 0) (asking : Asking) (start now : List Closed) (shares : List Share) : Type 0 where
  pub wires : List Carried
  pub closed : net → now ≡ start ++ map (λ (c : Carried). c.connection) wires
  pub once : (n : ℕ) → n < length shares → total (is_of n) wires ≡ 1
  pub first : asking.served ≡ true → 0 < length shares
  pub each : AllByRecursion (IsCarried net asking shares) wires

-- one of the connections was sent its whole request, and has this cause behind what was landed of its part
pub record SomeBroke (wires : List Carried) (shares : List Share) (cause : Cause) : Type 0 where
  pub c : Carried
  pub among : Contains wires c
  pub share : Share
  pub share_is : slice_get shares c.part.index ≡ Some share
  pub is : ContentBroke c.wanted c.connection.stream share.bytes cause
  pub sent : c.connection.sent ≡ request_of c.connection.purpose.address (ask_of c.wanted)

-- the causes that asking and reading may have, but for want of memory
abbrev pub is_net_cause : Cause → Bool
is_net_cause causes.NetFailed = true
is_net_cause causes.NetTimeout = true
is_net_cause causes.NetNoRoute = true
is_net_cause causes.NetRefused = true
is_net_cause causes.HeadCut = true
is_net_cause causes.BadHead = true
is_net_cause causes.BadLocation = true
is_net_cause causes.TooManyRedirects = true
is_net_cause (causes.Status status) = true
is_net_cause causes.Encoded = true
is_net_cause causes.BadFraming = true
is_net_cause (causes.RangeRefused status) = true
is_net_cause (causes.TooLarge total) = true
is_net_cause (causes.ContentShort have told) = true
is_net_cause _ = false

-- A cause that is to be recorded is one of asking or reading, and not want of memory; where it is a fault of the net or of a wire, the net counted it meanwhile.
abbrev pub NetCounts : (NetFault → ℕ) → (NetFault → ℕ) → Stop → Type 0
NetCounts before after stop = IfBroke stop (λ cause. IsTrue (is_net_cause cause) × IfSome (net_kind_of cause) (λ kind. Rose (before kind) (after kind)))

-- the causes that end the reading of a content, but for want of memory
abbrev pub is_reading_cause : Cause → Bool
is_reading_cause causes.NetFailed = true
is_reading_cause causes.NetTimeout = true
is_reading_cause (causes.ContentShort have told) = true
is_reading_cause causes.BadFraming = true
is_reading_cause (causes.TooLarge total) = true
is_reading_cause _ = false

-- a cause that is to be recorded is one of these
abbrev pub IsOfContent : Stop → Type 0
IsOfContent stop = IfBroke stop (λ cause. IsTrue (is_reading_cause cause))
