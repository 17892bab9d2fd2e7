-- Whether something stands at a place, by the length that is told.
use Rattle.std.proofs.Common.{◌≡◌, ℕ, length, Option, Some, None, is_some, false, refl, sym, ◌∙◌, ap, subst}
use Rattle.std.specs.Option.{option_map}
use Rattle.std.proofs.lemmas.Bool.{false≢true}
use Rattle.dm_disk_model.specs.Disk.{DiskState, History, now, Stands, StandsNot, bytes_at, folder_in}
use Rattle.dm_disk_model.specs.Folder.{names_of}
use Rattle.dm_disk_model.specs.declared.place.Place.{Place}

option_is : {A B : Type 0} (f : A → B) (found : Option A) → is_some (option_map f found) ≡ is_some found
option_is f (Some value) = refl
option_is f None = refl

-- it has a length
pub stands_if_long : (disk : DiskState) (place : Place) (long : ℕ) → Some long ≡ option_map length (bytes_at disk place) → Stands disk place
stands_if_long disk place long is =
    sym (option_is (λ number. ((folder_in place.area disk).file number).bytes) (names_of (folder_in place.area disk) place.name))
    ∙ sym (option_is length (bytes_at disk place))
    ∙ ap is_some (sym is)

none_of : {A : Type 0} (found : Option A) → is_some found ≡ false → found ≡ None
none_of (Some value) is = absurd (false≢true (sym is))
none_of None is = refl

-- it has none
pub stands_not_if_none : (disk : DiskState) (place : Place) → None ≡ option_map length (bytes_at disk place) → StandsNot disk place
stands_not_if_none disk place is =
    none_of (names_of (folder_in place.area disk) place.name)
    (sym (option_is (λ number. ((folder_in place.area disk).file number).bytes) (names_of (folder_in place.area disk) place.name))
    ∙ sym (option_is length (bytes_at disk place))
    ∙ ap is_some (sym is))

-- the same after the call that told it
pub stands_told : (old new : History) (place : Place) (found : Option ℕ) (long : ℕ) → new ≡ old → found ≡ option_map length (bytes_at (now old) place) → found ≡ Some long → Stands (now new) place
stands_told old new place found long stays told is =
    subst (λ (history : History). Stands (now history) place) (sym stays) (stands_if_long (now old) place long (sym is ∙ told))

pub stands_not_told : (old new : History) (place : Place) (found : Option ℕ) → new ≡ old → found ≡ option_map length (bytes_at (now old) place) → found ≡ None → StandsNot (now new) place
stands_not_told old new place found stays told is =
    subst (λ (history : History). StandsNot (now history) place) (sym stays) (stands_not_if_none (now old) place (sym is ∙ told))
