-- What the rest of an opening makes, once the list was begun.
use Rattle.std.specs.Prelude.{◌≡◌, ℕ, [], Result, Ok, Err}
use Rattle.dm_disk_model.specs.Disk.{History as Clock}
use Rattle.dm_store.specs.Becomes.{Recorded}
use Rattle.dm_store.specs.View.{View}
use Rattle.dm_answers.specs.Sweep.{IsSwept}
use Rattle.dm_find.specs.declared.hindered.Hindered.{Hindered}
use Rattle.dm_find.specs.declared.hindered.Hindered.TheVariants as hindrances
use Rattle.dm_settle.specs.Settled.{AreSettled, IsUnsettled}

-- nothing was recorded, and after Ok no part stands that none needs
abbrev pub SweptOr : {D O : Type 0} → Type 0 → (D → Clock) → View D O → View D O → Result (Unit {0}) Hindered → Type 0
SweptOr tells clock old new (Ok done) = Recorded old new [] × (tells → IsSwept clock new new)
SweptOr tells clock old new (Err fault) = Recorded old new []

-- All items that were being finished were settled, and no part stands that none needs; or it was hindered somewhere.
abbrev pub FinishMakes : {D O : Type 0} → Type 0 → (D → Clock) → View D O → View D O → ℕ → Result (Unit {0}) Hindered → Type 0
FinishMakes tells clock old new at (Ok done) = AreSettled tells clock old new at × (tells → IsSwept clock new new)
FinishMakes tells clock old new at (Err (hindrances.Disk kind)) = IsUnsettled tells clock old new at
FinishMakes tells clock old new at (Err hindrances.NoMemory) = IsUnsettled tells clock old new at × (new.failed ≡ [])
