-- An attempt that brings its content anew: its first reply, which serves the first part.
use Rattle.std.specs.Prelude.{◌≡◌, ◌⊎◌, ℕ, ◌≤◌, ◌^◌, List, [], ◌∷◌, ◌++◌, length, true, Option, Some, None, is_some, Result, Ok, Err, IfSome, IsTrue}
use Rattle.dm_types.specs.declared.address.Address.{Address}
use Rattle.dm_types.specs.declared.kinds.DiskKind.{DiskKind}
use Rattle.dm_disk_model.specs.Disk.{History as Clock}
use Rattle.dm_policy.specs.declared.cause.Cause.TheVariants as causes
use Rattle.dm_name.specs.Forms.{IsFirstFree}
use Rattle.dm_edge.specs.declared.fault.NetFault.{NetFault}
use Rattle.dm_edge.specs.declared.wanted.Wanted.TheVariants.{Whole}
use Rattle.dm_edge.specs.Fair.{ask_of, key_of}
use Rattle.dm_edge.specs.Wire.{Purpose, Told, Closed}
use Rattle.dm_request.specs.Fault.{IsRead}
use Rattle.dm_request.specs.Request.{request_of}
use Rattle.dm_reply.specs.declared.head.Head.{Head}
use Rattle.dm_ask.specs.Asked.{IsReady}
use Rattle.dm_ask.specs.Following.{IsAnswered, IsStopped}
use Rattle.dm_ask.specs.Redirects.{Led, most_redirects, purpose_of}
use Rattle.dm_kept.specs.Files.{Says}
use Rattle.dm_store.specs.declared.pass.Pass.{Pass}
use Rattle.dm_store.specs.View.{View}
use Rattle.dm_answers.specs.Describe.{WithNames}
use Rattle.dm_attempt.specs.declared.stop.Stop.{Stop}
use Rattle.dm_attempt.specs.declared.stop.Stop.TheVariants as stops
use Rattle.dm_attempt.specs.Asking.{Asking, count_by, source_by}
use Rattle.dm_attempt.specs.Live.{LiveDesk}
use Rattle.dm_attempt.specs.Replied.{HasReplied}
use Rattle.dm_attempt.specs.Scene.{Scene, begun_by}
use Rattle.dm_attempt.specs.Trace.{Round, Tale, Trace, untold, wires_of}
use Rattle.dm_rounds.specs.declared.first.Reply.{Reply}
use Rattle.dm_rounds.specs.Opened.{IsFrontSent}
use Rattle.dm_rounds.specs.Telling.{IsWishOf}
use Rattle.dm_rounds.specs.Trail.{AreCut, AreRead, HasEnded, HasStopped}

-- The first reply that came, over any net: its head is one of content, nothing was given, and its key is that of its tag.
abbrev pub IsReplied : {W : Type 0} → Pass → Address → Reply W → Type 0
IsReplied pass first reply = IsReady Whole (purpose_of pass.id pass.attempt) first reply.reader reply.head reply.address reply.key

-- its connection was made for its address and was sent the whole request, and its head was read
abbrev pub IsHeard : {W : Type 0} → (W → Purpose) → (W → Told) → Pass → Reply W → Type 0
IsHeard made_for told pass reply =
    IsAnswered Whole (purpose_of pass.id pass.attempt reply.address) (request_of reply.address (ask_of Whole)) (made_for reply.wire) (told reply.wire) reply.reader reply.head

-- at most ten connections led from the first address to this one, each to the address of the next, and these were closed meanwhile
pub record IsLedTo (pass : Pass) (first address : Address) (before after led : List Closed) : Type 0 where
  pub closed : after ≡ before ++ led
  pub leads : Led (purpose_of pass.id pass.attempt) first led address
  pub few : length led ≤ most_redirects

-- no content was reached at the first address or where it leads
abbrev pub StopsFirst : Pass → Address → (NetFault → ℕ) → (NetFault → ℕ) → List Closed → List Closed → Stop → Type 0
StopsFirst pass first net_before net_after before after (stops.Broke cause) = IsStopped Whole (purpose_of pass.id pass.attempt) first net_before net_after before after cause
StopsFirst pass first net_before net_after before after stops.NoMemory = IsStopped Whole (purpose_of pass.id pass.attempt) first net_before net_after before after causes.Memory
StopsFirst pass first net_before net_after before after (stops.Fault fault) = ⊥
StopsFirst pass first net_before net_after before after (stops.Recorded reason) = ⊥

-- no connection is left over, or just one, which was made for the address and was sent its whole request, or a front of it
abbrev pub IsLostAt : Pass → Address → List Closed → Type 0
IsLostAt pass address [] = Unit {0}
IsLostAt pass address (connection ∷ []) = (connection.purpose ≡ purpose_of pass.id pass.attempt address) × IsFrontSent (request_of address None) connection.sent
IsLostAt pass address (connection ∷ (next ∷ more)) = ⊥

-- at most ten connections led from the first address to some other, each to the address of the next, and at most one more was made for that
pub record IsLedAndLost (pass : Pass) (first : Address) (connections : List Closed) : Type 0 where
  pub at : Address
  pub led : List Closed
  pub last : List Closed
  pub are : connections ≡ led ++ last
  pub leads : Led (purpose_of pass.id pass.attempt) first led at
  pub few : length led ≤ most_redirects
  pub last_is : IsLostAt pass at last

-- the wish for a name by what a head tells, of a content that some address brought
pub record IsWished (handed wish : List ℕ) : Type 0 where
  pub head : Head
  pub address : Address
  pub is : IsWishOf handed head.disposition address.target wish

-- What the told head tells of the file, of a content that the told address brought, to which the connections led: its key, total and Last-Modified; how many parts
-- are asked for; and the first free form of the wish among the names that stood.
pub record IsTold {D O : Type 0} (tells : Type 0) (clock : D → Clock) (net : Type 0) (old : View D O) (pass : Pass) (first : Address) (handed : List ℕ) (slices : ℕ) (trace : Trace) (tale : Tale) : Type 0 where
  pub wish : List ℕ
  pub wish_is : trace.wish ≡ Some wish
  pub by : IsWishOf handed tale.head.disposition tale.address.target wish
  pub named : WithNames tells clock old (λ taken. IsFirstFree wish taken tale.name)
  pub key_is : tale.key ≡ key_of (purpose_of pass.id pass.attempt tale.address) tale.head.strong
  pub total_is : tale.total ≡ tale.head.total
  pub small : IfSome tale.total (λ bytes. bytes ≤ 2 ^ 40)
  pub modified_is : tale.modified ≡ tale.head.modified
  pub count_is : trace.count ≡ count_by slices tale.head.strong tale.head.total tale.head.ranges
  pub reads : IsRead tale.address.text tale.address
  pub leads : net → Led (purpose_of pass.id pass.attempt) first trace.led tale.address

-- Where the net tells, the connections that belong to no round led on, but for one at most, and for none where a round has a connection. What was told is what a
-- head tells.
pub record IsFreshTrace {D O : Type 0} (tells : Type 0) (clock : D → Clock) (net : Type 0) (old : View D O) (pass : Pass) (first : Address) (handed : List ℕ) (slices : ℕ) (trace : Trace) : Type 0 where
  pub led : net → IsLedAndLost pass first (trace.led ++ trace.lost)
  pub alone : (wires_of trace.rounds ≡ []) ⊎ (trace.lost ≡ [])
  pub wished : IfSome trace.wish (IsWished handed)
  pub told : IfSome trace.told (IsTold tells clock net old pass first handed slices trace)

-- how the first round asks: the first reply serves its first part, and the others are asked for by their ranges
abbrev pub first_asking : Pass → Tale → Asking
first_asking pass tale = record {
  served = true;
  source = source_by tale.address tale.key tale.total;
  purpose = purpose_of pass.id pass.attempt tale.address;
  key = tale.key;
  known = is_some tale.total;
  reply = Some tale.head;
}

-- before anything was told there is no round
abbrev pub ToldRounds : (Asking → List Round → Type 0) → Pass → Option Tale → List Round → Type 0
ToldRounds P pass None rounds = rounds ≡ []
ToldRounds P pass (Some tale) rounds = P (first_asking pass tale) rounds

-- this was told
pub record IsTaleOf (head : Head) (address : Address) (tale : Tale) : Type 0 where
  pub head_is : tale.head ≡ head
  pub address_is : tale.address ≡ address

-- The wish for a name is that of the head of the first reply, which one of the attempt's connections had, at its address. Where something was told, that head was.
pub record IsReplyOf (pass : Pass) (handed : List ℕ) (trace : Trace) (wish : List ℕ) : Type 0 where
  pub head : Head
  pub address : Address
  pub has : HasReplied (purpose_of pass.id pass.attempt address) trace head
  pub wish_is : IsWishOf handed head.disposition address.target wish
  pub told : IfSome trace.told (IsTaleOf head address)

-- the attempt brought all, and is over
pub record FreshEnds {D O : Type 0} (tells : Type 0) (clock : D → Clock) (says : O → Says) (far : D → ℕ) (counts : D → DiskKind → ℕ) (net : Type 0) (scene : Scene D O) (pass : Pass) (old present : View D O) (closed : List Closed) (first : Address) (handed : List ℕ) (slices : ℕ) : Type 0 where
  pub trace : Trace
  pub fresh : IsFreshTrace tells clock net old pass first handed slices trace
  pub replied : net → IfSome trace.wish (IsReplyOf pass handed trace)
  pub rounds : ToldRounds (AreRead net) pass trace.told trace.rounds
  pub ended : HasEnded tells clock says far counts net scene pass present closed trace

-- It stopped. The desk was asked to finish only where all rounds were read whole.
pub record FreshStops {D O : Type 0} (tells : Type 0) (clock : D → Clock) (says : O → Says) (far : D → ℕ) (counts : D → DiskKind → ℕ) (net : Type 0) (scene : Scene D O) (pass : Pass) (old present : View D O) (closed : List Closed) (before after : NetFault → ℕ) (first : Address) (handed : List ℕ) (slices : ℕ) (stop : Stop) : Type 0 where
  pub trace : Trace
  pub fresh : IsFreshTrace tells clock net old pass first handed slices trace
  pub replied : net → IfSome trace.wish (IsReplyOf pass handed trace)
  pub rounds : ToldRounds (AreCut net) pass trace.told trace.rounds
  pub stopped : HasStopped tells clock says far counts net scene pass present closed before after trace stop
  pub all : IsTrue stopped.came → ToldRounds (AreRead net) pass trace.told trace.rounds

abbrev pub FreshLeaves : {D O : Type 0} → Type 0 → (D → Clock) → (O → Says) → (D → ℕ) → (D → DiskKind → ℕ) → Type 0 → Scene D O → Pass → View D O → View D O → List Closed → (NetFault → ℕ) → (NetFault → ℕ) → Address → List ℕ → ℕ → Result (Unit {0}) Stop → Type 0
FreshLeaves tells clock says far counts net scene pass old present closed before after first handed slices (Ok done) = FreshEnds tells clock says far counts net scene pass old present closed first handed slices
FreshLeaves tells clock says far counts net scene pass old present closed before after first handed slices (Err stop) =
    FreshStops tells clock says far counts net scene pass old present closed before after first handed slices stop

-- The attempt has just begun, and nothing of its content is known.
pub record IsFreshStart {D O : Type 0} (tells : Type 0) (clock : D → Clock) (says : O → Says) (far : D → ℕ) (counts : D → DiskKind → ℕ) (net : Type 0) (scene : Scene D O) (pass : Pass) (desk : View D O) (closed : List Closed) (there : O) (at : ℕ) : Type 0 where
  pub live : LiveDesk tells clock says far counts scene pass desk (untold [] [] 0)
  pub none : (begun_by scene).key ≡ None
  pub still : net → closed ≡ scene.closed
  pub origin : there ≡ scene.start.origin
  pub at_is : at ≡ scene.at

-- so it is in some scene
pub record MayBegin {D O : Type 0} (tells : Type 0) (clock : D → Clock) (says : O → Says) (far : D → ℕ) (counts : D → DiskKind → ℕ) (net : Type 0) (pass : Pass) (desk : View D O) (closed : List Closed) (there : O) (at : ℕ) : Type 0 where
  pub scene : Scene D O
  pub is : IsFreshStart tells clock says far counts net scene pass desk closed there at
