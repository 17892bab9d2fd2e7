-- The first round of an attempt that brings its content anew: the first reply serves its first part.
use Rattle.std.specs.Prelude.{◌≡◌, ◌≤◌, ℕ, List, [], ◌++◌, length, Option, Some, None, Ok, is_some}
use Rattle.dm_types.specs.declared.address.Address.{Address}
use Rattle.dm_types.specs.declared.kinds.DiskKind.{DiskKind}
use Rattle.dm_disk_model.specs.Disk.{History as Clock}
use Rattle.dm_edge.specs.Wire.{Purpose, Told, Closed}
use Rattle.dm_item.specs.Fields.{no_bytes}
use Rattle.dm_request.specs.Fault.{IsRead}
use Rattle.dm_ask.specs.Redirects.{Led, most_redirects, purpose_of}
use Rattle.dm_kept.specs.Files.{Says}
use Rattle.dm_slice.specs.declared.plan.Part.{Part}
use Rattle.dm_store.specs.declared.pass.Pass.{Pass}
use Rattle.dm_store.specs.View.{View}
use Rattle.dm_answers.specs.declared.answer.SlicePass.{SlicePass}
use Rattle.dm_attempt.specs.declared.source.Source.{Source}
use Rattle.dm_attempt.specs.Asking.{count_by, source_by}
use Rattle.dm_attempt.specs.Ends.{PlanLeaves}
use Rattle.dm_attempt.specs.Live.{LiveDesk}
use Rattle.dm_attempt.specs.Scene.{Scene, begun_by, told_by}
use Rattle.dm_attempt.specs.Trace.{Tale, Trace, untold}
use Rattle.dm_rounds.specs.declared.first.Reply.{Reply}
use Rattle.dm_rounds.specs.declared.lane.Lane.{Lane}
use Rattle.dm_rounds.specs.Beginning.{HasPlanned}
use Rattle.dm_rounds.specs.First.{IsHeard, IsReplied, first_asking}
use Rattle.dm_rounds.specs.Opening.{IsOpening}
use Rattle.dm_rounds.specs.Reading.{IsKeyed, closed_before}
use Rattle.dm_rounds.specs.Rounding.{next_shares}

-- the lane of the first part
abbrev pub first_lane : {W : Type 0} → Reply W → Part → Lane W
first_lane reply part = record { wire = reply.wire; reader = reply.reader; part = part; at = part.first; bounded = is_some reply.head.total }

-- The first reply is there, and nothing else is open: connections led to its address.
pub record HasReply {D O W : Type 0} (net wires : Type 0) (made_for : W → Purpose) (told : W → Told) (origin : W → O) (scene : Scene D O) (pass : Pass) (closed : List Closed) (there : O) (first : Address) (reply : Reply W) (led : List Closed) (at : ℕ) : Type 0 where
  pub replied : IsReplied pass first reply
  pub reads : IsRead reply.address.text reply.address
  pub heard : wires → IsHeard made_for told pass reply
  pub origin_is : origin reply.wire ≡ there
  pub there_is : there ≡ scene.start.origin
  pub closed_is : net → closed ≡ scene.closed ++ led
  pub leads : net → Led (purpose_of pass.id pass.attempt) first led reply.address
  pub few : net → length led ≤ most_redirects
  pub at_is : at ≡ scene.at

-- the attempt has just begun, and its first reply is there
pub record IsAnswered {D O W : Type 0} (tells : Type 0) (clock : D → Clock) (says : O → Says) (far : D → ℕ) (counts : D → DiskKind → ℕ) (net wires : Type 0) (made_for : W → Purpose) (told : W → Told) (origin : W → O) (scene : Scene D O) (pass : Pass) (desk : View D O) (closed : List Closed) (there : O) (first : Address) (reply : Reply W) (led : List Closed) (at : ℕ) : Type 0 where
  pub has : HasReply net wires made_for told origin scene pass closed there first reply led at
  pub live : LiveDesk tells clock says far counts scene pass desk (untold [] [] 0)
  pub none : (begun_by scene).key ≡ None

-- The first reply was told, and the first round is planned, whatever connections belong to no round.
pub record IsServing {D O W : Type 0} (tells : Type 0) (clock : D → Clock) (says : O → Says) (far : D → ℕ) (counts : D → DiskKind → ℕ) (net wires : Type 0) (made_for : W → Purpose) (told : W → Told) (origin : W → O) (scene : Scene D O) (pass : Pass) (old desk : View D O) (closed : List Closed) (there : O) (first : Address) (handed : List ℕ) (slices : ℕ) (reply : Reply W) (led : List Closed)
    (count : ℕ) (passes : List SlicePass) (at : ℕ) : Type 0 where
  pub has : HasReply net wires made_for told origin scene pass closed there first reply led at
  pub planned : (lost : List Closed) → HasPlanned tells clock says far counts scene pass old desk led lost count handed reply.head reply.address reply.key passes
  pub bare : (begun_by scene).slices ≡ no_bytes
  pub count_is : count ≡ count_by slices reply.head.strong reply.head.total reply.head.ranges

-- The first round is planned, and its first lane is open. The trace has no round yet, and no connection that belongs to none.
pub record IsFirstOpen {D O W : Type 0} (tells : Type 0) (clock : D → Clock) (says : O → Says) (far : D → ℕ) (counts : D → DiskKind → ℕ) (net wires : Type 0) (made_for : W → Purpose) (told : W → Told) (origin : W → O) (scene : Scene D O) (pass : Pass) (desk : View D O) (closed : List Closed) (there : O) (trace : Trace) (tale : Tale) (passes : List SlicePass)
    (lanes : List (Lane W)) (at : ℕ) : Type 0 where
  pub planned : PlanLeaves tells clock says far counts scene pass desk trace (first_asking pass tale) (Ok passes)
  pub opening : IsOpening net wires made_for told origin there (first_asking pass tale) (closed_before scene trace) closed (next_shares scene trace) 1 lanes
  pub keyed : IsKeyed pass (first_asking pass tale) (told_by scene trace.told)
  pub told_is : trace.told ≡ Some tale
  pub none : trace.rounds ≡ []
  pub none_lost : trace.lost ≡ []
  pub there_is : there ≡ scene.start.origin
  pub at_is : at ≡ scene.at

-- so it is in some scene, and the other parts are asked for of this source
pub record MayBring {D O W : Type 0} (tells : Type 0) (clock : D → Clock) (says : O → Says) (far : D → ℕ) (counts : D → DiskKind → ℕ) (net wires : Type 0) (made_for : W → Purpose) (told : W → Told) (origin : W → O) (pass : Pass) (desk : View D O) (closed : List Closed) (there : O) (source : Option Source) (count : ℕ) (passes : List SlicePass) (lanes : List (Lane W)) (at : ℕ) : Type 0 where
  pub scene : Scene D O
  pub trace : Trace
  pub tale : Tale
  pub is : IsFirstOpen tells clock says far counts net wires made_for told origin scene pass desk closed there trace tale passes lanes at
  pub source_is : source_by tale.address tale.key tale.total ≡ source
  pub count_is : trace.count ≡ count

-- the reply is there, and the round is planned, in some scene
pub record MayServe {D O W : Type 0} (tells : Type 0) (clock : D → Clock) (says : O → Says) (far : D → ℕ) (counts : D → DiskKind → ℕ) (net wires : Type 0) (made_for : W → Purpose) (told : W → Told) (origin : W → O) (pass : Pass) (desk : View D O) (closed : List Closed) (there : O) (reply : Reply W) (count : ℕ) (passes : List SlicePass) (at : ℕ) : Type 0 where
  pub scene : Scene D O
  pub old : View D O
  pub first : Address
  pub handed : List ℕ
  pub slices : ℕ
  pub led : List Closed
  pub is : IsServing tells clock says far counts net wires made_for told origin scene pass old desk closed there first handed slices reply led count passes at

-- the reply is there, in some scene
pub record MayTake {D O W : Type 0} (tells : Type 0) (clock : D → Clock) (says : O → Says) (far : D → ℕ) (counts : D → DiskKind → ℕ) (net wires : Type 0) (made_for : W → Purpose) (told : W → Told) (origin : W → O) (pass : Pass) (desk : View D O) (closed : List Closed) (there : O) (reply : Reply W) (at : ℕ) : Type 0 where
  pub scene : Scene D O
  pub first : Address
  pub led : List Closed
  pub is : IsAnswered tells clock says far counts net wires made_for told origin scene pass desk closed there first reply led at
