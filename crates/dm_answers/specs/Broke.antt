-- How an attempt is interrupted by what it met.
use Rattle.std.specs.Prelude.{◌≢◌, [], ◌∷◌, Result, Ok, Err}
use Rattle.dm_types.specs.declared.entry.Entry.{Entry}
use Rattle.dm_types.specs.declared.entry.Entry.TheVariants as entries
use Rattle.dm_types.specs.declared.item.Item.{Item}
use Rattle.dm_policy.specs.Cause.{reason_of_cause}
use Rattle.dm_policy.specs.declared.cause.Cause.{Cause}
use Rattle.dm_policy.specs.declared.cause.Cause.TheVariants as causes
use Rattle.dm_store.specs.declared.life.Life.{Life}
use Rattle.dm_store.specs.declared.pass.Gone.TheVariants as gones
use Rattle.dm_store.specs.declared.pass.Pass.{Pass}
use Rattle.dm_store.specs.Becomes.{Fell, Recorded, Refuses}
use Rattle.dm_store.specs.Passes.{PassDeclines}
use Rattle.dm_store.specs.View.{View}
use Rattle.dm_answers.specs.declared.fault.DeskFault.{DeskFault}
use Rattle.dm_answers.specs.declared.fault.DeskFault.TheVariants as faults
use Rattle.dm_answers.specs.Frame.{IsBroken}
use Rattle.dm_answers.specs.Running.{RunsWith}

-- an attempt may meet the cause: it is none of those that come from outside
pub record IsMet (cause : Cause) : Type 0 where
  pub cancel : cause ≢ causes.Cancel
  pub shutdown : cause ≢ causes.Shutdown
  pub crash : cause ≢ causes.Crash

-- the interruption by a cause
abbrev pub broke_by : Pass → Cause → Entry
broke_by pass cause = entries.Broke pass.id (reason_of_cause cause)

-- an attempt runs
abbrev pub IsUnderWay : Item → Life → Type 0
IsUnderWay item life = Unit {0}

-- Each answer, with its cause and what it makes of the desk. It wants no memory.
abbrev pub BrokeAnswers : {D O : Type 0} → View D O → View D O → Pass → Cause → Result (Unit {0}) DeskFault → Type 0
BrokeAnswers old new pass cause (Ok done) = RunsWith old pass.id pass.attempt IsUnderWay × Recorded old new (broke_by pass cause ∷ [])
BrokeAnswers old new pass cause (Err faults.Broken) = IsBroken old new
BrokeAnswers old new pass cause (Err (faults.NoItem id)) = Refuses old new (PassDeclines old pass.id pass.attempt (gones.NoItem id))
BrokeAnswers old new pass cause (Err (faults.Stale attempt round)) = Refuses old new (PassDeclines old pass.id pass.attempt (gones.Stale attempt round))
BrokeAnswers old new pass cause (Err (faults.Journal kind)) = RunsWith old pass.id pass.attempt IsUnderWay × Fell old new (broke_by pass cause ∷ [])
BrokeAnswers old new pass cause _ = ⊥
