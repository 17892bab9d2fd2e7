-- How an attempt takes its first reply: it is told to the desk, and the first round is planned.
use Rattle.std.specs.Prelude.{◌≡◌, ◌⊎◌, ℕ, List, Result, Ok, Err, false}
use Rattle.dm_types.specs.declared.address.Address.{Address}
use Rattle.dm_types.specs.declared.item.Key.{Key}
use Rattle.dm_types.specs.declared.kinds.DiskKind.{DiskKind}
use Rattle.dm_disk_model.specs.Disk.{History as Clock}
use Rattle.dm_name.specs.Forms.{IsFirstFree}
use Rattle.dm_edge.specs.Wire.{Closed}
use Rattle.dm_reply.specs.declared.head.Head.{Head}
use Rattle.dm_kept.specs.Files.{Says}
use Rattle.dm_store.specs.declared.pass.Pass.{Pass}
use Rattle.dm_store.specs.View.{View}
use Rattle.dm_answers.specs.Describe.{WithNames}
use Rattle.dm_answers.specs.declared.answer.SlicePass.{SlicePass}
use Rattle.dm_answers.specs.declared.answer.Told.{Told}
use Rattle.dm_attempt.specs.declared.stop.Stop.{Stop}
use Rattle.dm_attempt.specs.Ending.{IsOfDesk, StopHolds}
use Rattle.dm_attempt.specs.Ends.{IsNamedBy, PlanLeaves, tale_of}
use Rattle.dm_attempt.specs.Scene.{Scene}
use Rattle.dm_attempt.specs.Trace.{Trace, told_with, untold, wished}
use Rattle.dm_rounds.specs.First.{first_asking}
use Rattle.dm_rounds.specs.Telling.{IsToldOf}

-- the head was told, and the item has a name
pub record HasTold {D O : Type 0} (tells : Type 0) (clock : D → Clock) (says : O → Says) (far : D → ℕ) (counts : D → DiskKind → ℕ) (scene : Scene D O) (pass : Pass) (old new : View D O) (led lost : List Closed) (count : ℕ) (handed : List ℕ) (head : Head) (address : Address) (key : Key) : Type 0 where
  pub told : Told
  pub is : IsToldOf handed head address key told
  pub named : WithNames tells clock old (IsNamedBy tells clock says far counts scene pass new led lost count head told address)

-- nothing was told yet, or there is the wish that the head gives
abbrev pub IsBefore : List Closed → List Closed → ℕ → List ℕ → Head → Address → Key → Trace → Type 0
IsBefore led lost count handed head address key trace = (trace ≡ untold led lost count) ⊎ ((told : Told) × IsToldOf handed head address key told × (trace ≡ wished led lost count told.wish))

-- it wasn't told
pub record NotTold {D O : Type 0} (tells : Type 0) (clock : D → Clock) (says : O → Says) (far : D → ℕ) (counts : D → DiskKind → ℕ) (scene : Scene D O) (pass : Pass) (new : View D O) (led lost : List Closed) (count : ℕ) (handed : List ℕ) (head : Head) (address : Address) (key : Key) (stop : Stop) : Type 0 where
  pub trace : Trace
  pub before : IsBefore led lost count handed head address key trace
  pub apart : IsOfDesk stop
  pub holds : StopHolds false tells clock says far counts scene pass new trace stop

abbrev pub TellLeaves : {D O : Type 0} → Type 0 → (D → Clock) → (O → Says) → (D → ℕ) → (D → DiskKind → ℕ) → Scene D O → Pass → View D O → View D O → List Closed → List Closed → ℕ → List ℕ → Head → Address → Key → Result (Unit {0}) Stop → Type 0
TellLeaves tells clock says far counts scene pass old new led lost count handed head address key (Ok done) = HasTold tells clock says far counts scene pass old new led lost count handed head address key
TellLeaves tells clock says far counts scene pass old new led lost count handed head address key (Err stop) = NotTold tells clock says far counts scene pass new led lost count handed head address key stop

-- it was told, with this name, and the first round is planned
pub record IsPlannedAs {D O : Type 0} (tells : Type 0) (clock : D → Clock) (says : O → Says) (far : D → ℕ) (counts : D → DiskKind → ℕ) (scene : Scene D O) (pass : Pass) (new : View D O) (led lost : List Closed) (count : ℕ) (head : Head) (told : Told) (address : Address) (passes : List SlicePass) (taken : List (List ℕ)) : Type 0 where
  pub name : List ℕ
  pub free : IsFirstFree told.wish taken name
  pub planned : PlanLeaves tells clock says far counts scene pass new (told_with led lost count told.wish (tale_of head address told name)) (first_asking pass (tale_of head address told name)) (Ok passes)

pub record HasPlanned {D O : Type 0} (tells : Type 0) (clock : D → Clock) (says : O → Says) (far : D → ℕ) (counts : D → DiskKind → ℕ) (scene : Scene D O) (pass : Pass) (old new : View D O) (led lost : List Closed) (count : ℕ) (handed : List ℕ) (head : Head) (address : Address) (key : Key) (passes : List SlicePass) : Type 0 where
  pub told : Told
  pub is : IsToldOf handed head address key told
  pub named : WithNames tells clock old (IsPlannedAs tells clock says far counts scene pass new led lost count head told address passes)

-- the first free form of the wish, and memory was wanting for the plan
pub record IsNamedAs (led lost : List Closed) (count : ℕ) (head : Head) (told : Told) (address : Address) (trace : Trace) (taken : List (List ℕ)) : Type 0 where
  pub name : List ℕ
  pub free : IsFirstFree told.wish taken name
  pub trace_is : trace ≡ told_with led lost count told.wish (tale_of head address told name)

-- no round was planned: the head wasn't told, or it was
pub record NotPlanned {D O : Type 0} (tells : Type 0) (clock : D → Clock) (says : O → Says) (far : D → ℕ) (counts : D → DiskKind → ℕ) (scene : Scene D O) (pass : Pass) (old new : View D O) (led lost : List Closed) (count : ℕ) (handed : List ℕ) (head : Head) (address : Address) (key : Key) (stop : Stop) : Type 0 where
  pub trace : Trace
  pub before : IsBefore led lost count handed head address key trace
      ⊎ ((told : Told) × IsToldOf handed head address key told × WithNames tells clock old (IsNamedAs led lost count head told address trace))
  pub apart : IsOfDesk stop
  pub holds : StopHolds false tells clock says far counts scene pass new trace stop

abbrev pub BeginLeaves : {D O : Type 0} → Type 0 → (D → Clock) → (O → Says) → (D → ℕ) → (D → DiskKind → ℕ) → Scene D O → Pass → View D O → View D O → List Closed → List Closed → ℕ → List ℕ → Head → Address → Key → Result (List SlicePass) Stop → Type 0
BeginLeaves tells clock says far counts scene pass old new led lost count handed head address key (Ok passes) =
    HasPlanned tells clock says far counts scene pass old new led lost count handed head address key passes
BeginLeaves tells clock says far counts scene pass old new led lost count handed head address key (Err stop) = NotPlanned tells clock says far counts scene pass old new led lost count handed head address key stop
