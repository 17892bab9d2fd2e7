-- Which place of a part comes next.
use Rattle.std.specs.Prelude.{◌≡◌, ℕ, true, false, Result, Ok, Err}
use Rattle.dm_store.specs.declared.pass.Gone.TheVariants as gones
use Rattle.dm_store.specs.View.{View}
use Rattle.dm_answers.specs.declared.answer.SlicePass.{SlicePass}
use Rattle.dm_answers.specs.declared.fault.DeskFault.{DeskFault}
use Rattle.dm_answers.specs.declared.fault.DeskFault.TheVariants as faults
use Rattle.dm_answers.specs.Running.{RunsWith}
use Rattle.dm_answers.specs.Slices.{ComesNext, SliceDeclines}

-- Each answer, with its cause. It wants no memory, and changes nothing.
abbrev pub CheckAnswers : {D O : Type 0} → View D O → SlicePass → Result ℕ DeskFault → Type 0
CheckAnswers desk pass (Ok place) = (desk.broken ≡ false) × RunsWith desk pass.id pass.attempt (ComesNext pass place)
CheckAnswers desk pass (Err faults.Broken) = desk.broken ≡ true
CheckAnswers desk pass (Err (faults.NoItem id)) = (desk.broken ≡ false) × SliceDeclines desk pass (gones.NoItem id)
CheckAnswers desk pass (Err (faults.Stale attempt round)) = (desk.broken ≡ false) × SliceDeclines desk pass (gones.Stale attempt round)
CheckAnswers desk pass _ = ⊥
