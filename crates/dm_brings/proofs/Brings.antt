-- What `fetch` did is what a run's clause says of its driver.
use Rattle.std.proofs.Common.{◌≡◌, ℕ, Bool, false, List, [], ◌++◌, refl, sym, ◌∙◌, subst, arith}
use Rattle.std.specs.List.{AllByRecursion}
use Rattle.std.specs.Prelude.{IfSome, is_some}
use Rattle.dm_types.specs.Faults.{Rose}
use Rattle.dm_types.specs.declared.item.ItemId.{ItemId}
use Rattle.dm_types.specs.declared.kinds.By.TheVariants.{User}
use Rattle.dm_types.specs.declared.kinds.DiskKind.{DiskKind}
use Rattle.dm_disk_model.specs.Disk.{DiskState, History as Clock}
use Rattle.dm_disk_model.proofs.Reaching.{at_start}
use Rattle.dm_edge.specs.Wire.{Closed}
use Rattle.dm_edge.specs.declared.fault.NetFault.{NetFault}
use Rattle.dm_item.specs.Lawful.{History}
use Rattle.dm_kept.specs.Files.{Says}
use Rattle.dm_store.specs.View.{View}
use Rattle.dm_answers.specs.declared.fault.DeskFault.TheVariants as faults
use Rattle.dm_attempt.specs.Ending.{journal_kind_of}
use Rattle.dm_attempt.specs.declared.ended.Ended.{Ended}
use Rattle.dm_attempt.specs.declared.ended.Ended.TheVariants as ended
use Rattle.dm_fetch.specs.Fetches.{Fetched}
use Rattle.dm_does.specs.Answering.{IsOfAttempt}
use Rattle.dm_does.specs.World.{IsLater, World}
use Rattle.dm_brings.specs.Bringing.{Brought, world_of}
use Rattle.dm_brings.proofs.Resting.{fetch_rests}
use Rattle.dm_brings.proofs.Steps.{BrokeBy, Stepped, fetch_step}

-- the kind that an answer tells is one that was counted
counted_by : (before after : DiskKind → ℕ) (end : Ended) (failed : History) (broken : Bool) → BrokeBy before after end failed broken → IfSome (journal_kind_of end) (λ kind. Rose (before kind) (after kind))
counted_by before after (ended.Fault (faults.Journal kind)) failed broken is = is.1
counted_by before after end failed broken is = tt

broken_by : (before after : DiskKind → ℕ) (end : Ended) (failed : History) (broken : Bool) → BrokeBy before after end failed broken → broken ≡ is_some (journal_kind_of end)
broken_by before after (ended.Fault (faults.Journal kind)) failed broken is = is.0
broken_by before after end failed broken is = is.1

-- nothing came between
at_once : (tells : Type 0) (world : World) → IsLater tells world world
at_once tells world = record { disk_later = λ kind. omega arith; net_later = λ kind. omega arith; moments_stay = λ told. at_start world.disk (λ (disk : DiskState). Unit {0}) tt }

pub brought_of : {D O : Type 0} (tells : Type 0) (clock : D → Clock) (says : O → Says) (far : D → ℕ) (counts : D → DiskKind → ℕ) (net : Type 0) (id : ItemId) (slices at : ℕ) (old new : View D O) (was now : List Closed) (before after : NetFault → ℕ) (end : Ended)
    → old.broken ≡ false → old.failed ≡ [] → Fetched tells clock says far counts net old new was now before after id slices at end
    → Brought tells clock says far counts net old new was now before after id slices at end
brought_of tells clock says far counts net id slices at old new was now before after end whole none did =
    let step : Stepped tells clock says far counts net id slices at old new was now before after end = fetch_step tells clock says far counts net id slices at new now after end old was before User did.more whole none did.all in
    record {
      fetched = step.recorded;
      list = step.went.list_is;
      broken = step.went.broken_is ∙ broken_by (counts old.disk) (counts new.disk) end step.failed step.broken step.by;
      brought = λ history held limits_are. record {
        from = world_of clock counts old was before;
        to = world_of clock counts new now after;
        first = at_once tells (world_of clock counts old was before);
        last = at_once tells (world_of clock counts new now after);
        none_first = refl;
        none_last = refl;
        is = record { old = old; new = new; end = end; held = held; limits_are = limits_are; from_is = refl; to_is = refl; did = did; list = step.went.list_is; failed_is = refl; broke_is = refl };
        only = subst (λ (failed : History). AllByRecursion (IsOfAttempt (world_of clock counts old was before) (world_of clock counts new now after) id at) (step.recorded ++ failed)) (sym step.went.failed_is) step.only;
        counted = counted_by (counts old.disk) (counts new.disk) end step.failed step.broken step.by;
      };
      rests = λ waits. fetch_rests tells clock says far counts net id slices at new now after end old was before did.more whole none waits did.all;
    }
