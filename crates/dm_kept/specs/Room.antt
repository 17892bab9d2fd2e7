-- Histories that a desk takes: lawful, and with room for each item when it was added.
use Rattle.std.specs.Prelude.{ℕ, List, [], ◌∷◌, reverse}
use Rattle.dm_types.specs.declared.entry.Entry.{Entry}
use Rattle.dm_item.specs.Lawful.{History, IsLawful, left_by}
use Rattle.dm_item.specs.Listing.{HasRoomFor, Meets}

-- each Added found room in a list with this limit, newest entry first
abbrev pub HadRoomBack : ℕ → List Entry → Type 0
HadRoomBack limit [] = Unit {0}
HadRoomBack limit (entry ∷ older) = HasRoomFor (left_by limit older) entry × HadRoomBack limit older

abbrev pub HadRoom : ℕ → History → Type 0
HadRoom limit history = HadRoomBack limit (reverse history)

-- what a desk with this limit takes
pub record IsTaken (limit : ℕ) (history : History) : Type 0 where
  pub lawful : IsLawful history
  pub room : HadRoom limit history

-- a desk with this limit takes the entry behind this history
pub record MayFollow (limit : ℕ) (history : History) (entry : Entry) : Type 0 where
  pub room : HasRoomFor (left_by limit (reverse history)) entry
  pub meets : Meets (left_by 0 (reverse history)) entry
