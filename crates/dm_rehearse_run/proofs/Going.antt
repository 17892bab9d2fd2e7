-- What attempts keep of a desk.
use Rattle.std.proofs.Common.{◌≡◌, ℕ, Bool, false, [], List, sym, ◌∙◌, ap, subst}
use Rattle.dm_types.specs.declared.item.Item.{Item}
use Rattle.dm_types.specs.declared.item.ItemId.{ItemId}
use Rattle.dm_types.specs.declared.kinds.By.{By}
use Rattle.dm_types.specs.declared.kinds.By.TheVariants.{Itself, User}
use Rattle.dm_types.specs.declared.kinds.DiskKind.{DiskKind}
use Rattle.dm_disk_model.specs.Disk.{History as Clock}
use Rattle.dm_edge.specs.Wire.{Closed}
use Rattle.dm_edge.specs.declared.fault.NetFault.{NetFault}
use Rattle.dm_kept.specs.Files.{Says}
use Rattle.dm_store.specs.Keeps.{Keeps}
use Rattle.dm_store.specs.View.{View}
use Rattle.dm_store.proofs.Keeping.{keeps_same, keeps_then}
use Rattle.dm_answers.specs.Begin.{pass_of}
use Rattle.dm_answers.specs.declared.fault.DeskFault.{DeskFault}
use Rattle.dm_answers.specs.declared.fault.DeskFault.TheVariants as faults
use Rattle.dm_attempt.specs.Scene.{Scene}
use Rattle.dm_attempt.specs.Trace.{Trace}
use Rattle.dm_attempt.specs.declared.ended.Ended.{Ended}
use Rattle.dm_attempt.specs.declared.ended.Ended.TheVariants as ended
use Rattle.dm_fetch.specs.Attempts.{Attempts, EndedBy, refused, tried, wanting}
use Rattle.dm_fetch.specs.Fetches.{Fetched, Fetches, again, once}
use Rattle.dm_fetch.specs.Starts.{BeginRefuses, scene_of}
use Rattle.dm_disk.specs.Memory.{far_in, faults_in, history_in}
use Rattle.dm_edge.specs.declared.origin.Generated.{Generated}
use Rattle.dm_generated_net.specs.Wired.{NetState}
use Rattle.dm_rehearse_run.specs.Kept.{Desk, says_of}
use Rattle.dm_rehearse_run.specs.Sessions.{Brings, no_faults, only_item, parts_at_once}

-- what one call or several keep of a desk
pub record Goes {D O : Type 0} (tells : Type 0) (clock : D → Clock) (says : O → Says) (old new : View D O) : Type 0 where
  pub keeps : Keeps tells clock says old new
  pub origin : new.origin ≡ old.origin

-- An attempt that isn't ended by a fault leaves the desk whole, with no entry that failed.
abbrev pub EndsWhole : {D O : Type 0} → Ended → View D O → Type 0
EndsWhole ended.Complete new = (new.broken ≡ false) × (new.failed ≡ [])
EndsWhole (ended.Stopped reason) new = (new.broken ≡ false) × (new.failed ≡ [])
EndsWhole (ended.Fault fault) new = Unit {0}

module _ {D O : Type 0} (tells : Type 0) (clock : D → Clock) (says : O → Says) (far : D → ℕ) (counts : D → DiskKind → ℕ) (net : Type 0) (id : ItemId) (slices at : ℕ) where
  stayed : (old new : View D O) → new ≡ old → Goes tells clock says old new
  stayed old new same = record { keeps = keeps_same tells clock says old new same; origin = ap (λ (v : View D O). v.origin) same }

  not_begun : (old new : View D O) (by : By) (fault : DeskFault) → BeginRefuses tells clock counts old new id by at fault → Goes tells clock says old new
  not_begun old new by faults.Broken refuses = stayed old new refuses.same
  not_begun old new by (faults.NoItem other) refuses = stayed old new refuses.same
  not_begun old new by (faults.WrongState phase) refuses = stayed old new refuses.same
  not_begun old new by faults.NoMemory refuses = stayed old new refuses.same
  not_begun old new by fault refuses = absurd refuses

  module _ (old new : View D O) (was : List Closed) (before after : NetFault → ℕ) (by : By) (item : Item) where
    abbrev scene : Scene D O
    scene = scene_of old item by at was before

    ended_goes : (came : Bool) (trace : Trace) (end : Ended) → EndedBy came tells clock says far counts net scene (pass_of item) new before after trace end → Goes tells clock says old new
    ended_goes came trace ended.Complete ends = record { keeps = ends.over.goes.keeps; origin = ends.over.goes.went.origin }
    ended_goes came trace (ended.Stopped reason) ends = record { keeps = ends.over.goes.keeps; origin = ends.over.goes.went.origin }
    ended_goes came trace (ended.Fault faults.NoMemory) ends = record { keeps = ends.1.goes.keeps; origin = ends.1.goes.went.origin }
    ended_goes came trace (ended.Fault (faults.File kind)) ends = record { keeps = ends.1.1.goes.keeps; origin = ends.1.1.goes.went.origin }
    ended_goes came trace (ended.Fault (faults.Journal kind)) ends = record { keeps = ends.1.goes.keeps; origin = ends.1.goes.went.origin }
    ended_goes came trace (ended.Fault fault) ends = absurd ends

  pub attempt_goes : (old new : View D O) (was closed : List Closed) (before after : NetFault → ℕ) (by : By) (end : Ended)
      → Attempts tells clock says far counts net old new was closed before after id by slices at end → Goes tells clock says old new
  attempt_goes old new was closed before after by end (wanting end_is same still) = stayed old new same
  attempt_goes old new was closed before after by end (refused fault end_is refuses still) = not_begun old new by fault refuses
  attempt_goes old new was closed before after by end (tried found) = ended_goes old new was before after by found.item found.is.came found.is.trace end found.is.ends

  by_fault : (end : Ended) (fault : DeskFault) (new : View D O) → end ≡ ended.Fault fault → EndsWhole end new
  by_fault end fault new is = subst (λ (e : Ended). EndsWhole e new) (sym is) tt

  ended_whole : (old new : View D O) (was : List Closed) (before after : NetFault → ℕ) (by : By) (item : Item) (came : Bool) (trace : Trace) (end : Ended)
      → EndedBy came tells clock says far counts net (scene_of old item by at was before) (pass_of item) new before after trace end → EndsWhole end new
  ended_whole old new was before after by item came trace ended.Complete ends = (ends.over.goes.went.broken_is, ends.over.goes.went.failed_is)
  ended_whole old new was before after by item came trace (ended.Stopped reason) ends = (ends.over.goes.went.broken_is, ends.over.goes.went.failed_is)
  ended_whole old new was before after by item came trace (ended.Fault fault) ends = tt

  attempt_whole : (old new : View D O) (was closed : List Closed) (before after : NetFault → ℕ) (by : By) (end : Ended)
      → Attempts tells clock says far counts net old new was closed before after id by slices at end → EndsWhole end new
  attempt_whole old new was closed before after by end (wanting end_is same still) = by_fault end faults.NoMemory new end_is
  attempt_whole old new was closed before after by end (refused fault end_is refuses still) = by_fault end fault new end_is
  attempt_whole old new was closed before after by end (tried found) = ended_whole old new was before after by found.item found.is.came found.is.trace end found.is.ends

  pub record FetchGoes (old new : View D O) (end : Ended) : Type 0 where
    pub goes : Goes tells clock says old new
    pub whole : EndsWhole end new

  fetches_goes : (new : View D O) (now : List Closed) (after : NetFault → ℕ) (end : Ended) (old : View D O) (was : List Closed) (before : NetFault → ℕ) (by : By) (more : ℕ)
      → Fetches tells clock says far counts net id slices at new now after end old was before by more → FetchGoes old new end
  fetches_goes new now after end old was before by more (once _ _ _ _ did later no_more) = record {
    goes = attempt_goes old new was now before after by end did;
    whole = attempt_whole old new was now before after by end did;
  }
  fetches_goes new now after end old was before by _ (again _ _ _ _ mid between amid reason more did later goes rest) =
      let one = attempt_goes old mid was between before amid by (ended.Stopped reason) did in
      let none = attempt_whole old mid was between before amid by (ended.Stopped reason) did in
      let two = fetches_goes new now after end mid between amid Itself more rest in
      record {
        goes = record { keeps = keeps_then tells clock says old mid new one.keeps one.origin none.1 two.goes.keeps; origin = two.goes.origin ∙ one.origin };
        whole = two.whole;
      }

  pub fetched_goes : (old new : View D O) (was now : List Closed) (before after : NetFault → ℕ) (end : Ended)
      → Fetched tells clock says far counts net old new was now before after id slices at end → FetchGoes old new end
  fetched_goes old new was now before after end did = fetches_goes new now after end old was before User did.more did.all

-- a fetch that came to its end
pub whole_brings : (old new : Desk) (before after : NetState) (end : Ended) → end ≡ ended.Complete
    → Fetched (Unit {0}) history_in (λ (o : Generated). says_of o.seed) far_in faults_in (Unit {0}) old new before.closed after.closed no_faults no_faults only_item parts_at_once 0 end → Brings old new before after
whole_brings old new before after end is =
    subst (λ (e : Ended). Fetched (Unit {0}) history_in (λ (o : Generated). says_of o.seed) far_in faults_in (Unit {0}) old new before.closed after.closed no_faults no_faults only_item parts_at_once 0 e) is
