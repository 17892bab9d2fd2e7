-- How a desk's sweep came out, from its clauses.
use Rattle.std.proofs.Common.{◌≡◌, ℕ, ◌≤◌, false, Result, Ok, Err, sym, ◌∙◌, subst, arith}
use Rattle.std.proofs.lemmas.Bool.{false≢true}
use Rattle.dm_types.specs.Faults.{HasCause, NoneFell, Rose}
use Rattle.dm_types.specs.declared.kinds.DiskKind.{DiskKind}
use Rattle.dm_disk_model.specs.Disk.{History as Clock, StandsNot, now}
use Rattle.dm_item.specs.Listing.{Listing}
use Rattle.dm_part.specs.Laws.{files_place}
use Rattle.dm_store.specs.View.{View}
use Rattle.dm_answers.specs.Faults.{desk_kind}
use Rattle.dm_answers.specs.Sweep.{IsLeftover, SweepAnswers}
use Rattle.dm_answers.specs.declared.fault.DeskFault.{DeskFault}
use Rattle.dm_answers.specs.declared.fault.DeskFault.TheVariants as faults
use Rattle.dm_does.specs.Sweeping.{Sweeps, hindered, swept, wanting}
use Rattle.dm_does.specs.World.{World}

-- a count that rose meanwhile rose
pub rose_wider : (a b c d : ℕ) → a ≤ b → Rose b c → c ≤ d → Rose a d
rose_wider a b c d first rose last = omega (arith, first, rose, last)

-- The sweep of a desk at the end of a run: its list is the one that the run leaves, and its disk is the last.
pub record IsLastSweep {D O : Type 0} (clock : D → Clock) (counts : D → DiskKind → ℕ) (old new : View D O) (before after : World) (list : Listing) : Type 0 where
  pub whole : old.broken ≡ false
  pub items : old.items ≡ list
  pub disk : clock new.disk ≡ after.disk
  pub earlier : NoneFell before.disk_faults (counts old.disk)
  pub counts_are : counts new.disk ≡ after.disk_faults

pub sweep_came : {D O : Type 0} (tells : Type 0) (clock : D → Clock) (counts : D → DiskKind → ℕ) (old new : View D O) (before after : World) (list : Listing) (answer : Result (Unit {0}) DeskFault) → IsLastSweep clock counts old new before after list
    → SweepAnswers tells clock old new answer → HasCause desk_kind (counts old.disk) (counts new.disk) answer → Sweeps tells before after list
sweep_came tells clock counts old new before after list (Ok done) is answers cause =
    swept (λ told name leftover. subst (λ (c : Clock). StandsNot (now c) (files_place name)) is.disk (answers.1 told name (subst (λ (l : Listing). IsLeftover l name) (sym is.items) leftover)))
sweep_came tells clock counts old new before after list (Err (faults.File kind)) is answers cause =
    hindered kind (subst (λ (count : DiskKind → ℕ). Rose (before.disk_faults kind) (count kind)) is.counts_are
    (rose_wider (before.disk_faults kind) (counts old.disk kind) (counts new.disk kind) (counts new.disk kind) (is.earlier kind) cause.cause (same (counts new.disk kind))))
  where
    same : (n : ℕ) → n ≤ n
    same n = omega arith
sweep_came tells clock counts old new before after list (Err faults.NoMemory) is answers cause = wanting
sweep_came tells clock counts old new before after list (Err faults.Broken) is answers cause = absurd (false≢true (sym is.whole ∙ answers.broken))
sweep_came tells clock counts old new before after list (Err fault) is answers cause = absurd answers
