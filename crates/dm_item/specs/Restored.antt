-- What an item is that a lawful history leaves, and which item may be restored behind others.
use Rattle.std.specs.Prelude.{◌≡◌, ◌≢◌, ℕ, ◌+◌, ◌≤◌, ◌<◌, ◌^◌, Bool, true, false, cond, ◌⊎◌, List, [], ◌∷◌, Option, Some, None, is_some, IsSome, ◌||◌, IfSome, IsTrue}
use Rattle.dm_types.specs.declared.item.Item.{Item}
use Rattle.dm_types.specs.declared.item.Key.{Key}
use Rattle.dm_types.specs.declared.item.Phase.{Phase}
use Rattle.dm_types.specs.declared.item.Phase.TheVariants as phases
use Rattle.dm_types.specs.declared.slices.Slice.{Slice}
use Rattle.dm_types.specs.declared.reason.Reason.{Reason}
use Rattle.dm_types.specs.declared.reason.Reason.TheVariants as reasons
use Rattle.dm_policy.specs.Mode.{is_invalid}
use Rattle.dm_slice.specs.Words.{IsFull, IsNormal, IsWithin}
use Rattle.dm_slice.specs.Cover.{IsWithinTotal}
use Rattle.dm_item.specs.Fields.{is_running, no_bytes}
use Rattle.dm_item.specs.Row.{HasName, is_cancelled, is_complete, is_finishing, is_waiting, mode_of_item}
use Rattle.dm_item.specs.Words.{IsFreeWord}

-- the id is above those of all items
abbrev pub IsAbove : ℕ → List Item → Type 0
IsAbove id [] = Unit {0}
IsAbove id (item ∷ rest) = (item.id.0 < id) × IsAbove id rest

-- the names of two items differ, where both have one and neither is cancelled
abbrev pub IsApartFrom : Item → Item → Type 0
IsApartFrom item other = is_cancelled item.phase ≡ false → is_cancelled other.phase ≡ false → IfSome item.name (λ name. ¬ HasName other name)

abbrev pub HasOwnName : Item → List Item → Type 0
HasOwnName item [] = Unit {0}
HasOwnName item (other ∷ rest) = IsApartFrom item other × HasOwnName item rest

-- The conditions on an item that a compaction wrote, each over the fields that it reads.

-- a known total is small, and the cover is normal and lies within it
pub record IsCovered (total : Option ℕ) (slices : List Slice) : Type 0 where
  pub small : IfSome total (λ bytes. bytes ≤ 2 ^ 40)
  pub normal : IsNormal total slices ⊎ IsNormal None slices
  pub greatest : IsWithin (2 ^ 40) slices
  pub within : IsWithinTotal total slices

-- what a Described tells is there as a whole, and in a begun item, or not at all
pub record IsTold (key : Option Key) (last_address name modified : Option (List ℕ)) (begun : Bool) (total : Option ℕ) (slices : List Slice) : Type 0 where
  pub has_address : is_some last_address ≡ is_some key
  pub has_name : is_some name ≡ is_some key
  pub has_modified : is_some modified ≡ is_some key
  pub is_begun : IsTrue (is_some key) → IsTrue begun
  pub untold : is_some key ≡ false → (is_some total ≡ false) × (slices ≡ no_bytes)

-- the reason that a phase asks for
abbrev pub IsReasonOf : Phase → Option Reason → Type 0
IsReasonOf (phases.Interrupted why) reason = (reason ≡ Some why) × (why ≢ reasons.UserCanceled)
IsReasonOf phases.Cancelled reason = reason ≡ Some reasons.UserCanceled
IsReasonOf phases.Running reason = reason ≡ None
IsReasonOf phases.Finishing reason = reason ≡ None
IsReasonOf phases.Complete reason = reason ≡ None
IsReasonOf phases.Waiting reason = reason ≢ Some reasons.UserCanceled
IsReasonOf phases.Paused reason = reason ≢ Some reasons.UserCanceled

-- a running item is begun, and the epoch rises with the attempts
pub record IsCounted (phase : Phase) (begun : Bool) (epoch attempt : ℕ) : Type 0 where
  pub running : IsTrue (is_running phase) → IsTrue begun
  pub epoch_low : 1 ≤ epoch
  pub epoch_high : epoch ≤ attempt + cond begun 0 1

-- every byte below the total is there
abbrev pub IsFullFor : Option ℕ → List Slice → Type 0
IsFullFor None slices = ⊥
IsFullFor (Some total) slices = IsFull total slices

-- the whole content of a finished item is there
pub record IsWhole (key : Option Key) (total : Option ℕ) (slices : List Slice) : Type 0 where
  pub has_key : IsSome key
  pub full : IsFullFor total slices

-- the digest is there, and is the stated one
abbrev pub IsDigest : Option (List ℕ) → Option (List ℕ) → Type 0
IsDigest digest None = ⊥
IsDigest digest (Some have) = IfSome digest (λ stated. stated ≡ have)

-- a complete item, and no other, has its digest
abbrev pub IsDigestOf : Bool → Option (List ℕ) → Option (List ℕ) → Type 0
IsDigestOf true digest have = IsDigest digest have
IsDigestOf false digest have = is_some have ≡ false

-- an item as a lawful history leaves it
pub record IsSound (item : Item) : Type 0 where
  pub covered : IsCovered item.total item.slices
  pub told : IsTold item.key item.last_address item.name item.modified item.begun item.total item.slices
  pub reason : IsReasonOf item.phase item.reason
  pub mode : IsTrue (is_waiting item.phase) → is_invalid (mode_of_item item) ≡ false
  pub counted : IsCounted item.phase item.begun item.epoch.0 item.attempt.0
  pub whole : IsTrue (is_finishing item.phase || is_complete item.phase) → IsWhole item.key item.total item.slices
  pub digest : IsDigestOf (is_complete item.phase) item.digest item.have

-- an item that a compaction wrote may follow these
pub record IsRestorable (early : Bool) (next : ℕ) (items : List Item) (item : Item) : Type 0 where
  pub is_early : IsTrue early
  pub first : 1 ≤ item.id.0
  pub above : IsAbove item.id.0 items
  pub below : item.id.0 < next
  pub word : IsFreeWord item.word items
  pub sound : IsSound item
  pub name : HasOwnName item items
