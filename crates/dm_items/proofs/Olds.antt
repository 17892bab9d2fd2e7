-- Passes of an attempt that is over are refused at each later desk.
use Rattle.std.proofs.Common.{◌≡◌, inl, inr, ℕ, ◌<◌, ◌++◌, List, reverse, None, Some, false, Result, Ok, Err, subst}
use Rattle.dm_types.specs.declared.item.Item.{Item}
use Rattle.dm_types.specs.declared.kinds.DiskKind.{DiskKind}
use Rattle.dm_disk_model.specs.Disk.{History as Clock}
use Rattle.dm_item.specs.Fields.{item_at, next_of}
use Rattle.dm_item.specs.Lawful.{History, IsOf, KeepsHistory, left_by}
use Rattle.dm_item.specs.Listing.{Listing, item_in}
use Rattle.dm_item.proofs.Below.{in_below}
use Rattle.dm_item.proofs.Gone.{IsGone}
use Rattle.dm_item.proofs.Steps.{sane_lawful}
use Rattle.dm_store.specs.Keeps.{IsDesk}
use Rattle.dm_store.specs.View.{View}
use Rattle.dm_store.specs.declared.life.Life.{Life}
use Rattle.dm_answers.proofs.Old.{HasEnded, IsOver as IsOverBehind, never_runs}
use Rattle.dm_answers.specs.declared.answer.SlicePass.{SlicePass}
use Rattle.dm_answers.specs.declared.fault.DeskFault.{DeskFault}
use Rattle.dm_answers.specs.declared.fault.DeskFault.TheVariants as faults
use Rattle.dm_answers.specs.Check.{CheckAnswers}
use Rattle.dm_answers.specs.Land.{LandAnswers}
use Rattle.dm_answers.specs.Running.{RunsWith}
use Rattle.dm_items.specs.Over.{HasStopped, IsLost, IsOver, RefusesOld}

module _ (history : History) (v : Listing) (id attempt : ℕ) (is : IsOf history v) where
  ended_behind : HasStopped v id attempt → HasEnded history id attempt
  ended_behind stopped = record {
    item = stopped.item;
    there = (in_below (item_at (reverse history)) id (next_of (reverse history)) stopped.item (sane_lawful (reverse history) is.lawful).indexed
        (subst (λ (x : Listing). item_in id x.items ≡ Some stopped.item) is.value stopped.there)).is;
    idle = stopped.idle;
    had = stopped.had;
  }

  gone_behind : IsLost v id → IsGone id (left_by 0 (reverse history))
  gone_behind lost = record {
    late = subst (λ (x : Listing). x.is_early ≡ false) is.value lost.late;
    given = subst (λ (x : Listing). id < x.next) is.value lost.given;
    none = subst (λ (x : Listing). item_in id x.items ≡ None) is.value lost.none;
  }

  over_behind : IsOver v id attempt → IsOverBehind history id attempt
  over_behind (inl stopped) = inl (ended_behind stopped)
  over_behind (inr lost) = inr (gone_behind lost)

module _ {D O : Type 0} (tells : Type 0) (clock : D → Clock) (old later : View D O) (recorded : History) (pass : SlicePass) (desk : IsDesk tells clock old) (over : IsOver old.items pass.id.0 pass.attempt.0) (keeps : KeepsHistory old.items later.items recorded) where
  abbrev before : History
  before = desk.founded.before ++ old.list

  behind : IsOf (before ++ recorded) later.items
  behind = keeps before desk.founded.items

  runs_not : (P : Item → Life → Type 0) → RunsWith later pass.id pass.attempt P → ⊥
  runs_not = never_runs before recorded later pass.id pass.attempt (over_behind before old.items pass.id.0 pass.attempt.0 desk.founded.items over) behind.lawful behind

  pub old_checks : (answer : Result ℕ DeskFault) → CheckAnswers later pass answer → RefusesOld answer
  old_checks (Ok place) is = absurd (runs_not _ is.1)
  old_checks (Err faults.Broken) is = tt
  old_checks (Err (faults.NoItem id)) is = tt
  old_checks (Err (faults.Stale attempt round)) is = tt
  old_checks (Err (faults.NotNext place)) is = is
  old_checks (Err (faults.PastEnd end)) is = is
  old_checks (Err (faults.CheckpointDue bytes)) is = is
  old_checks (Err (faults.File kind)) is = is
  old_checks (Err (faults.Journal kind)) is = is
  old_checks (Err faults.NoMemory) is = is
  old_checks (Err (faults.WrongState phase)) is = is
  old_checks (Err (faults.ItemsFull count)) is = is
  old_checks (Err (faults.WordTaken id)) is = is
  old_checks (Err (faults.Damaged place)) is = is

  pub old_lands : (counts : D → DiskKind → ℕ) (new : View D O) (at : ℕ) (piece : List ℕ) (answer : Result (Unit {0}) DeskFault) → LandAnswers counts later new pass at piece answer → RefusesOld answer × (new ≡ later)
  old_lands counts new at piece (Ok done) is = absurd (runs_not _ is.0)
  old_lands counts new at piece (Err faults.Broken) is = (tt, is.same)
  old_lands counts new at piece (Err (faults.NoItem id)) is = (tt, is.same)
  old_lands counts new at piece (Err (faults.Stale attempt round)) is = (tt, is.same)
  old_lands counts new at piece (Err (faults.NotNext place)) is = absurd (runs_not _ is.cause)
  old_lands counts new at piece (Err (faults.PastEnd end)) is = absurd (runs_not _ is.cause)
  old_lands counts new at piece (Err (faults.CheckpointDue bytes)) is = absurd (runs_not _ is.cause)
  old_lands counts new at piece (Err (faults.File kind)) is = absurd (runs_not _ is.0)
  old_lands counts new at piece (Err (faults.Journal kind)) is = absurd (runs_not _ is.0)
  old_lands counts new at piece (Err faults.NoMemory) is = absurd is
  old_lands counts new at piece (Err (faults.WrongState phase)) is = absurd is
  old_lands counts new at piece (Err (faults.ItemsFull count)) is = absurd is
  old_lands counts new at piece (Err (faults.WordTaken id)) is = absurd is
  old_lands counts new at piece (Err (faults.Damaged place)) is = absurd is
