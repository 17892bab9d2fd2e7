-- What opening the list of a store makes, from what was found on.
use Rattle.std.specs.Prelude.{◌≡◌, ℕ, ◌+◌, ◌≤◌, Bool, true, false, List, [], ◌++◌, length, Result, Ok, Err}
use Rattle.dm_types.specs.declared.item.Item.{Item}
use Rattle.dm_disk_model.specs.Disk.{History as Clock, now}
use Rattle.dm_disk_model.specs.Moments.{Throughout}
use Rattle.dm_item.specs.Lawful.{History, IsLawful, IsOf, items_of}
use Rattle.dm_kept.specs.Files.{Says, no_covers}
use Rattle.dm_kept.specs.Kept.{Kept, Rests}
use Rattle.dm_kept.specs.Recovery.{Through}
use Rattle.dm_store.specs.Keeps.{HoldsOf}
use Rattle.dm_store.specs.View.{View, spelled}
use Rattle.dm_answers.specs.Opening.{reopening}
use Rattle.dm_answers.specs.Settling.{AreDone, AreSettlings, finishing}
use Rattle.dm_answers.specs.Sweep.{IsSwept}
use Rattle.dm_find.specs.declared.hindered.Hindered.{Hindered}
use Rattle.dm_find.specs.declared.hindered.Hindered.TheVariants as hindrances

-- All was settled and swept.
pub record EndsWhole {D O : Type 0} (tells : Type 0) (clock : D → Clock) (says : O → Says) (found : History) (old new : View D O) (settled rest : History) (left : List Item) : Type 0 where
  pub whole : new.broken ≡ false
  pub none_failed : new.failed ≡ []
  pub none_rest : rest ≡ []
  pub none_left : left ≡ []
  -- of a good disk each was complete
  pub never_breaks : tells → Rests true (says old.origin) found old.gate no_covers (now (clock old.disk)) → AreDone settled
  pub swept : tells → IsSwept clock new new

-- by the result
abbrev pub EndsAs : {D O : Type 0} → Type 0 → (D → Clock) → (O → Says) → History → View D O → View D O → History → History → List Item → Result (Unit {0}) Hindered → Type 0
EndsAs tells clock says found old new settled rest left (Ok done) = EndsWhole tells clock says found old new settled rest left
EndsAs tells clock says found old new settled rest left (Err (hindrances.Disk kind)) = new.broken ≡ true
EndsAs tells clock says found old new settled rest left (Err hindrances.NoMemory) = (new.broken ≡ true) × (new.failed ≡ [])

-- Behind what was found one Reopened and the settlings were tried, up to the items that are left; those up to some place were recorded.
pub record Tries {D O : Type 0} (tells : Type 0) (clock : D → Clock) (says : O → Says) (at : ℕ) (found : History) (old new : View D O) (settled rest : History) (left : List Item) : Type 0 where
  pub tried_is : new.list ++ (new.failed ++ rest) ≡ reopening found at ++ settled
  pub lawful : IsLawful (found ++ (new.list ++ (new.failed ++ rest)))
  pub one : length new.failed ≤ 1
  pub settles : AreSettlings tells (clock old.disk) (clock new.disk) at (finishing (items_of (found ++ reopening found at))) settled left
  pub items : IsOf (found ++ new.list) new.items
  pub gate_is : new.gate ≡ old.gate + spelled new.list
  pub none_live : new.lives ≡ []
  pub origin : new.origin ≡ old.origin
  pub limits : new.limits ≡ old.limits
  -- a crash at each moment leaves what was found with some of what was tried, and then the desk holds what was recorded
  pub goes : tells → (good : Bool) → Rests good (says old.origin) found old.gate no_covers (now (clock old.disk))
      → Throughout (clock old.disk) (clock new.disk) (Kept good (says old.origin) (Through found (reopening found at ++ settled))) × HoldsOf good (says old.origin) clock new (found ++ new.list)

pub record Resumes {D O : Type 0} (tells : Type 0) (clock : D → Clock) (says : O → Says) (at : ℕ) (found : History) (old new : View D O) (result : Result (Unit {0}) Hindered) : Type 0 where
  pub settled : History
  pub rest : History
  pub left : List Item
  pub tries : Tries tells clock says at found old new settled rest left
  pub ends : EndsAs tells clock says found old new settled rest left result

-- so from each history that leaves the items
abbrev pub ResumeMakes : {D O : Type 0} → Type 0 → (D → Clock) → (O → Says) → ℕ → View D O → View D O → Result (Unit {0}) Hindered → Type 0
ResumeMakes tells clock says at old new result = (found : History) → IsOf found old.items → Resumes tells clock says at found old new result
