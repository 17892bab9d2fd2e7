-- What a journal keeps in memory.
use Rattle.std.specs.Prelude.{◌≡◌, ℕ, ◌^◌, ◌<◌, ◌≤◌, List, vec_capacity}
use Rattle.std.specs.Global.{Vec}
use Rattle.dm_disk_model.specs.declared.place.Area.TheVariants.{State}
use Rattle.dm_disk_model.specs.declared.place.Place.{Place}
use Rattle.dm_journal.specs.declared.journal.Journal.TheInside.{Inside}
use Rattle.dm_journal.specs.Text.{largest_tail}
use Rattle.dm_journal.specs.AtRest.{journal_place}
use Rattle.dm_journal.specs.Starting.{spare_place}

-- the place of the closed gate
abbrev pub gate_of : Inside → ℕ
gate_of journal = journal.gate

-- it is at its own place, and has room for the largest cell
pub record IsJournal (journal : Inside) : Type 0 where
  pub home : journal.place ≡ journal_place
  pub near : journal.gate < 2 ^ 63
  pub room : largest_tail ≤ vec_capacity journal.buffer

abbrev pub state_place : List ℕ → Place
state_place name = record { area = State; name = name }

-- both places, and room for the largest cell
abbrev pub IsRoom : Place × Place × Vec ℕ → Type 0
IsRoom room = (room.0 ≡ journal_place) × (room.1 ≡ spare_place) × (largest_tail ≤ vec_capacity room.2)
