-- An attempt by the user, and those that the item makes by itself behind it.
use Rattle.std.specs.Prelude.{ℕ, suc, ◌≤◌, List, IsTrue, Option, Some, None}
use Rattle.dm_types.specs.Faults.{NoneFell}
use Rattle.dm_types.specs.declared.item.Item.{Item}
use Rattle.dm_types.specs.declared.item.ItemId.{ItemId}
use Rattle.dm_types.specs.declared.kinds.By.{By}
use Rattle.dm_types.specs.declared.kinds.By.TheVariants.{Itself, User}
use Rattle.dm_types.specs.declared.kinds.DiskKind.{DiskKind}
use Rattle.dm_types.specs.declared.reason.Reason.{Reason}
use Rattle.dm_disk_model.specs.Disk.{History as Clock}
use Rattle.dm_policy.specs.Mode.{is_immediate}
use Rattle.dm_edge.specs.Wire.{Closed}
use Rattle.dm_edge.specs.declared.fault.NetFault.{NetFault}
use Rattle.dm_item.specs.Row.{mode_of_item}
use Rattle.dm_kept.specs.Files.{Says}
use Rattle.dm_store.specs.View.{View}
use Rattle.dm_answers.specs.Running.{ItemWith}
use Rattle.dm_attempt.specs.declared.ended.Ended.{Ended}
use Rattle.dm_attempt.specs.declared.ended.Ended.TheVariants as ended
use Rattle.dm_fetch.specs.Attempts.{Attempts}

-- how many attempts an item made by itself since the user's last one
abbrev pub autos_of : Option Item → ℕ
autos_of None = 0
autos_of (Some item) = item.autos

-- the item goes on by itself
abbrev pub MayGoOn : {D O : Type 0} → View D O → ItemId → Type 0
MayGoOn desk id = ItemWith desk id (λ item. IsTrue (is_immediate (mode_of_item item)))

-- the attempt was stopped, and the item goes on by itself
abbrev pub GoesOn : {D O : Type 0} → View D O → ItemId → Ended → Type 0
GoesOn desk id ended.Complete = ⊥
GoesOn desk id (ended.Stopped reason) = MayGoOn desk id
GoesOn desk id (ended.Fault fault) = ⊥

-- An attempt, and so many further ones by the item itself, as long as it goes on so. No count of the net fell over any of them.
pub data Fetches {D O : Type 0} (tells : Type 0) (clock : D → Clock) (says : O → Says) (far : D → ℕ) (counts : D → DiskKind → ℕ) (net : Type 0) (id : ItemId) (slices at : ℕ) (new : View D O) (now : List Closed) (after : NetFault → ℕ) (end : Ended) : View D O → List Closed → (NetFault → ℕ) → By → ℕ → Type 0 where
  once : (old : View D O) (was : List Closed) (before : NetFault → ℕ) (by : By) → Attempts tells clock says far counts net old new was now before after id by slices at end → NoneFell before after → (GoesOn new id end → ⊥)
      → Fetches tells clock says far counts net id slices at new now after end old was before by 0
  again : (old : View D O) (was : List Closed) (before : NetFault → ℕ) (by : By) (mid : View D O) (between : List Closed) (amid : NetFault → ℕ) (reason : Reason) (more : ℕ)
      → Attempts tells clock says far counts net old mid was between before amid id by slices at (ended.Stopped reason) → NoneFell before amid → MayGoOn mid id
      → Fetches tells clock says far counts net id slices at new now after end mid between amid Itself more
      → Fetches tells clock says far counts net id slices at new now after end old was before by (suc more)

-- An attempt by the user, and at most five by the item itself.
pub record Fetched {D O : Type 0} (tells : Type 0) (clock : D → Clock) (says : O → Says) (far : D → ℕ) (counts : D → DiskKind → ℕ) (net : Type 0) (old new : View D O) (was now : List Closed) (before after : NetFault → ℕ) (id : ItemId) (slices at : ℕ) (end : Ended) : Type 0 where
  pub more : ℕ
  pub few : more ≤ 5
  pub all : Fetches tells clock says far counts net id slices at new now after end old was before User more
