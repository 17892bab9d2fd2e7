-- What the asking and reading of an attempt leave.
use Rattle.std.proofs.Common.{◌≡◌, inl, inr, ◌≤◌, ℕ, List, [], length, Option, None, Some, Result, Ok, Err, refl, sym, ◌∙◌, ap, subst, false}
use Rattle.std.proofs.lemmas.Bool.{false≢true}
use Rattle.std.specs.Prelude.{IsSome, is_some}
use Rattle.std.proofs.lemmas.List.{append-nil}
use Rattle.std.proofs.lemmas.Option.{same_Some}
use Rattle.dm_types.specs.declared.address.Address.{Address}
use Rattle.dm_types.specs.declared.item.Item.{Item}
use Rattle.dm_types.specs.declared.item.Key.{Key}
use Rattle.dm_types.specs.declared.item.Key.TheVariants.{Strong}
use Rattle.dm_types.specs.declared.kinds.DiskKind.{DiskKind}
use Rattle.dm_disk_model.specs.Disk.{History as Clock}
use Rattle.dm_request.specs.Fault.{IsRead}
use Rattle.dm_edge.specs.Wire.{Closed}
use Rattle.dm_edge.specs.declared.fault.NetFault.{NetFault}
use Rattle.dm_item.specs.History.{get}
use Rattle.dm_item.specs.Listing.{item_in}
use Rattle.dm_kept.specs.Files.{Says}
use Rattle.dm_store.specs.View.{View}
use Rattle.dm_store.specs.declared.pass.Pass.{Pass}
use Rattle.dm_answers.specs.Running.{ItemWith}
use Rattle.dm_attempt.specs.declared.source.Source.{Source}
use Rattle.dm_attempt.specs.declared.stop.Stop.{Stop}
use Rattle.dm_attempt.specs.declared.stop.Stop.TheVariants as stops
use Rattle.dm_attempt.specs.Ending.{IfBroke, StopHolds}
use Rattle.dm_attempt.specs.Scene.{Scene, begun_by}
use Rattle.dm_attempt.specs.Trace.{Trace, untold}
use Rattle.dm_attempt.specs.Asking.{source_by}
use Rattle.dm_rounds.specs.First.{FreshLeaves}
use Rattle.dm_rounds.specs.Reading.{IsKeyed}
use Rattle.dm_rounds.specs.Trail.{IsShown, RunLeaves, kept_asking}
use Rattle.dm_fetch.specs.Attempts.{IsSourceOf, IsStable, IsUnstable, MetAtNet, anew, begins_at, nothing, on}
use Rattle.dm_fetch.specs.Drive.{DriveLeaves, DriveStops, HasBegun, Unreads}
use Rattle.dm_fetch.specs.Starts.{IsKept}

module _ {D O : Type 0} (tells : Type 0) (clock : D → Clock) (says : O → Says) (far : D → ℕ) (counts : D → DiskKind → ℕ) (net : Type 0) (scene : Scene D O) (pass : Pass) (old : View D O) (was : List Closed) (before : NetFault → ℕ) (there : O) (at : ℕ)
    (begun : HasBegun tells clock says far counts net scene pass old was before there at) where
  -- the item that the desk has is the one of the attempt that began
  pub begun_item : (P : Item → Type 0) → (found : ItemWith old pass.id P) → found.item ≡ begun_by scene
  begun_item P found = let live = begun.live 0 in sym (same_Some live.runs.item found.item (sym live.runs.there ∙ found.there)) ∙ live.runs.is.item_is

  pub begun_there : IsSome (item_in pass.id.0 old.items.items)
  begun_there = let live = begun.live 0 in subst IsSome (sym live.runs.there) refl

  pub begun_at : IsKept (begun_by scene) → ItemWith old pass.id IsKept
  begun_at kept = let live = begun.live 0 in record { item = live.runs.item; there = live.runs.there; is = subst IsKept (sym live.runs.is.item_is) kept }

  -- the address that the attempt begins with is no longer read, or memory was wanting
  unread_holds : (text : List ℕ) (stop : Stop) → Unreads text stop → StopHolds false tells clock says far counts scene pass old (untold [] [] 0) stop
  unread_holds text (stops.Broke cause) unread = begun.live 0
  unread_holds text stops.NoMemory unread = begun.live 0
  unread_holds text (stops.Fault fault) unread = absurd unread
  unread_holds text (stops.Recorded reason) unread = absurd unread

  unread_shown : (text : List ℕ) (stop : Stop) → begins_at (begun_by scene).key (begun_by scene) ≡ text → Unreads text stop → (after : NetFault → ℕ) → IfBroke stop (MetAtNet net before after scene (untold [] [] 0))
  unread_shown text (stops.Broke cause) is unread after = inl (record { cause_is = unread.0; unstable = subst IsUnstable (sym is) unread.1 })
  unread_shown text stops.NoMemory is unread after = tt
  unread_shown text (stops.Fault fault) is unread after = tt
  unread_shown text (stops.Recorded reason) is unread after = tt

  pub unread_stops : (text : List ℕ) (stop : Stop) (slices : ℕ) → begins_at (begun_by scene).key (begun_by scene) ≡ text → Unreads text stop → DriveStops tells clock says far counts net scene pass old was before before slices stop
  unread_stops text stop slices is unread = record {
    trace = untold [] [] 0;
    asks = nothing (record { led = refl; lost = refl; wish = refl; told = refl; rounds = refl });
    closed_is = λ t. begun.closed_is ∙ sym (append-nil scene.closed);
    came = false;
    some = λ never. absurd (false≢true never);
    all = λ never. absurd (false≢true never);
    holds = unread_holds text stop unread;
    shown = unread_shown text stop is unread before;
  }

  pub first_text : (begun_by scene).key ≡ None → begins_at (begun_by scene).key (begun_by scene) ≡ (begun_by scene).first_address
  first_text none = ap (λ (k : Option Key). begins_at k (begun_by scene)) none

  pub last_text : (tag text : List ℕ) → (begun_by scene).key ≡ Some (Strong tag) → (begun_by scene).last_address ≡ Some text → begins_at (begun_by scene).key (begun_by scene) ≡ text
  last_text tag text key_is text_is = ap (λ (k : Option Key). begins_at k (begun_by scene)) key_is ∙ ap (λ (a : Option (List ℕ)). get a (begun_by scene).first_address) text_is

  if_net : (after : NetFault → ℕ) (trace : Trace) (stop : Stop) → IfBroke stop (IsShown net before after scene trace) → IfBroke stop (MetAtNet net before after scene trace)
  if_net after trace (stops.Broke cause) shown = inr shown
  if_net after trace stops.NoMemory shown = tt
  if_net after trace (stops.Fault fault) shown = tt
  if_net after trace (stops.Recorded reason) shown = tt

  module _ (new : View D O) (closed : List Closed) (after : NetFault → ℕ) (slices : ℕ) where
    -- all that a fresh attempt brought, or where it stopped
    pub fresh_drives : (first : Address) → (begun_by scene).key ≡ None → IsStable (begun_by scene).first_address first → (result : Result (Unit {0}) Stop)
        → FreshLeaves tells clock says far counts net scene pass old new closed before after first (begun_by scene).wish slices result → DriveLeaves tells clock says far counts net scene pass new closed before after slices result
    fresh_drives first none stable (Ok done) leaves = record {
      trace = leaves.trace;
      asks = anew (record { none = none; first = first; stable = stable; desk = old; live = begun.live 0; fresh = leaves.fresh; replied = leaves.replied; rounds = leaves.rounds });
      closed_is = leaves.ended.closed_is;
      finished = record { some = leaves.ended.some; digest = leaves.ended.digest; done = leaves.ended.done; saves = leaves.ended.saves; over = leaves.ended.over };
    }
    fresh_drives first none stable (Err stop) leaves = record {
      trace = leaves.trace;
      asks = anew (record { none = none; first = first; stable = stable; desk = old; live = begun.live 0; fresh = leaves.fresh; replied = leaves.replied; rounds = leaves.rounds });
      closed_is = leaves.stopped.closed_is;
      came = leaves.stopped.came;
      some = leaves.stopped.some;
      all = λ came. anew (record { none = none; first = first; stable = stable; desk = old; live = begun.live 0; fresh = leaves.fresh; replied = leaves.replied; rounds = leaves.all came });
      holds = leaves.stopped.holds;
      shown = if_net after leaves.trace stop leaves.stopped.shown;
    }

    -- the same of one that goes on
    pub kept_drives : (source : Source) → IsSourceOf (begun_by scene) source → length (begun_by scene).slices ≤ 64 → (result : Result (Unit {0}) Stop)
        → RunLeaves tells clock says far counts net scene pass new closed before after (untold [] [] slices) (kept_asking pass source) result → DriveLeaves tells clock says far counts net scene pass new closed before after slices result
    kept_drives source is few (Ok done) leaves = record {
      trace = leaves.trace;
      asks = on (record { source = source; is = is; few = few; led = leaves.from.led_is; lost = leaves.from.lost_is; wish = leaves.from.wish_is; told = leaves.from.told_is; count = leaves.from.count_is; rounds = leaves.rounds });
      closed_is = leaves.ended.closed_is;
      finished = record { some = leaves.ended.some; digest = leaves.ended.digest; done = leaves.ended.done; saves = leaves.ended.saves; over = leaves.ended.over };
    }
    kept_drives source is few (Err stop) leaves = record {
      trace = leaves.trace;
      asks = on (record { source = source; is = is; few = few; led = leaves.from.led_is; lost = leaves.from.lost_is; wish = leaves.from.wish_is; told = leaves.from.told_is; count = leaves.from.count_is; rounds = leaves.rounds });
      closed_is = leaves.stopped.closed_is;
      came = leaves.stopped.came;
      some = leaves.stopped.some;
      all = λ came. on (record { source = source; is = is; few = few; led = leaves.from.led_is; lost = leaves.from.lost_is; wish = leaves.from.wish_is; told = leaves.from.told_is; count = leaves.from.count_is; rounds = leaves.all came });
      holds = leaves.stopped.holds;
      shown = if_net after leaves.trace stop leaves.stopped.shown;
    }

-- an address that was read of a text that is its own is read of its own text
pub own_text : (text : List ℕ) (address : Address) → IsStable text address → IsRead address.text address
own_text text address stable = subst (λ (t : List ℕ). IsRead t address) (sym stable.same) stable.read

-- a kept item's source is what ranges are asked for by
pub kept_keyed : (pass : Pass) (item : Item) (source : Source) → IsSourceOf item source → IsKeyed pass (kept_asking pass source) item
kept_keyed pass item source is = record {
  key_is = is.key_is;
  address_is = is.text_is ∙ ap (λ (t : List ℕ). Some t) (sym is.stable.same);
  reads = own_text is.text source.address is.stable;
  purpose_is = refl;
  source_is = ap (λ (t : Option ℕ). source_by source.address (Strong source.tag) t) (sym is.total_is);
  known_is = ap (λ (t : Option ℕ). is_some t) (sym is.total_is);
}
