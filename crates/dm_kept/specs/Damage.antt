-- When a journal can't be opened, and the place that shows it.
use Rattle.std.specs.Prelude.{◌≡◌, ◌⊎◌, ℕ, List, ◌∷◌, ◌++◌, length}
use Rattle.dm_types.specs.declared.entry.Entry.{Entry}
use Rattle.dm_record.specs.Spelling.{spelling_of}
use Rattle.dm_record.specs.Limits.{IsEntry}
use Rattle.dm_item.specs.Lawful.{History}
use Rattle.dm_journal.specs.Text.{IsDamagedAt, IsJournalText, front}
use Rattle.dm_kept.specs.Spelled.{AllEntries, bodies_of}
use Rattle.dm_kept.specs.Room.{IsTaken, MayFollow}

-- the body isn't exactly one entry that a desk with this limit takes behind this history
abbrev pub IsRefused : ℕ → History → List ℕ → Type 0
IsRefused limit history body = (entry : Entry) → IsEntry entry → body ≡ spelling_of entry → MayFollow limit history entry → ⊥

-- The bytes are a journal, and this is the place of the gate of its first body that isn't taken.
pub record IsSpoiledAt (limit : ℕ) (bytes : List ℕ) (place : ℕ) : Type 0 where
  pub history : History
  pub entries : AllEntries history
  pub taken : IsTaken limit history
  pub body : List ℕ
  pub later : List (List ℕ)
  pub text : IsJournalText (bodies_of history ++ body ∷ later) bytes
  pub refused : IsRefused limit history body
  pub at : place ≡ length (front (bodies_of history))

-- The bytes are no journal, or one with a body that a desk with this limit doesn't take. The text of the journal comes first.
abbrev pub IsDamage : ℕ → List ℕ → ℕ → Type 0
IsDamage limit bytes place = IsDamagedAt bytes place ⊎ IsSpoiledAt limit bytes place
