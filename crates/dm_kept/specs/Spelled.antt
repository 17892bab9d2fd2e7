-- A history as the bodies of a journal.
use Rattle.std.specs.Prelude.{◌≡◌, ℕ, List, [], ◌∷◌, map, Option, Some, None}
use Rattle.dm_record.specs.Spelling.{spelling_of}
use Rattle.dm_record.specs.Limits.{IsEntry}
use Rattle.dm_item.specs.Lawful.{History}
use Rattle.dm_journal.specs.Text.{IsJournalText}

-- the body of each entry is its one spelling
abbrev pub bodies_of : History → List (List ℕ)
bodies_of history = map spelling_of history

-- each entry is one that has a spelling
abbrev pub AllEntries : History → Type 0
AllEntries [] = Unit {0}
AllEntries (entry ∷ later) = IsEntry entry × AllEntries later

-- the bytes are the journal of this history: each body is exactly one entry
pub record IsJournalOf (history : History) (bytes : List ℕ) : Type 0 where
  pub entries : AllEntries history
  pub text : IsJournalText (bodies_of history) bytes

-- What is found under the journal's name records this history. Where nothing stands there it is empty.
abbrev pub Records : Option (List ℕ) → History → Type 0
Records None history = history ≡ []
Records (Some bytes) history = IsJournalOf history bytes
