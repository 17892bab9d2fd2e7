-- A command that brings an item says that it is complete, where nothing stands in the way.
use Rattle.std.proofs.Common.{◌≡◌, ◌⊎◌, inl, inr, ℕ, List, Some, ◌∙◌, ap, subst}
use Rattle.dm_types.specs.declared.item.Item.{Item}
use Rattle.dm_types.specs.declared.item.ItemId.{ItemId}
use Rattle.dm_types.specs.declared.item.Phase.{Phase}
use Rattle.dm_types.specs.declared.item.Phase.TheVariants as phases
use Rattle.dm_types.specs.declared.kinds.By.TheVariants.{User}
use Rattle.dm_types.specs.declared.kinds.DiskKind.{DiskKind}
use Rattle.dm_types.specs.declared.reason.Reason.TheVariants as reasons
use Rattle.dm_disk_model.specs.Disk.{History as Clock}
use Rattle.dm_edge.specs.Wire.{Closed}
use Rattle.dm_edge.specs.declared.fault.NetFault.{NetFault}
use Rattle.dm_item.specs.Listing.{item_in}
use Rattle.dm_kept.specs.Files.{Says}
use Rattle.dm_store.specs.View.{View}
use Rattle.dm_attempt.specs.declared.ended.Ended.{Ended}
use Rattle.dm_fetch.specs.Attempts.{Attempts}
use Rattle.dm_fetch.specs.Completes.{CompletesAtOnce, IsLeftIn}
use Rattle.dm_fetch.proofs.Completed.{complete_left, wanting_left}
use Rattle.dm_report.specs.Said.{Said, only}
use Rattle.dm_report.specs.Texts.{item_line_of}
use Rattle.dm_report.specs.declared.verdict.Verdict.TheVariants.{NoMemory}
use Rattle.dm_does.specs.declared.course.Course.TheVariants.{Brings}
use Rattle.dm_does.specs.Laws.{Waits}
use Rattle.dm_does.specs.Saying.{said_by, said_in, said_of}
use Rattle.dm_brings.specs.Completed.{EndsWell, completed, wanting}

module _ {D O : Type 0} (tells : Type 0) (clock : D → Clock) (says : O → Says) (far : D → ℕ) (counts : D → DiskKind → ℕ) (net : Type 0) (old new : View D O) (was now : List Closed) (before after : NetFault → ℕ) (id : ItemId) (slices at : ℕ) (said : Said)
    (said_is : said ≡ said_by new.items.items (Brings id slices)) where
  -- what is said of the item in this phase
  said_phase : (item : Item) (phase : Phase) → item_in id.0 new.items.items ≡ Some item → item.phase ≡ phase → said ≡ said_in phase (item_line_of item)
  said_phase item phase there is = said_is ∙ ap said_of there ∙ ap (λ (p : Phase). said_in p (item_line_of item)) is

  -- where nothing changed the item still waits
  still_waits : Waits id old.items.items → new ≡ old → said ≡ only NoMemory
  still_waits waits same = said_phase waits.item phases.Waiting (ap (λ (v : View D O). item_in id.0 v.items.items) same ∙ waits.there) waits.waits

  wanting_said : Waits id old.items.items → (new ≡ old) ⊎ IsLeftIn old new id (phases.Interrupted reasons.NoMemory) → said ≡ only NoMemory
  wanting_said waits (inl same) = still_waits waits same
  wanting_said waits (inr left) = said_phase left.item (phases.Interrupted reasons.NoMemory) left.there left.phase_is

  -- The item waited, and this is how all that it made ended.
  pub ends_well : (end : Ended) → Waits id old.items.items → CompletesAtOnce tells clock says far counts net old new was now before after id User slices at end → EndsWell old new id said
  ends_well end waits (inl done, did) =
      let left = complete_left tells clock says far counts net old new was now before after id User slices at (subst (λ (e : Ended). Attempts tells clock says far counts net old new was now before after id User slices at e) done did) in
      completed left (ap (λ (s : Said). s.verdict) (said_phase left.item phases.Complete left.there left.phase_is))
  ends_well end waits (inr none, did) =
      wanting (wanting_said waits (wanting_left tells clock says far counts net old new was now before after id User slices at (subst (λ (e : Ended). Attempts tells clock says far counts net old new was now before after id User slices at e) none did)))
