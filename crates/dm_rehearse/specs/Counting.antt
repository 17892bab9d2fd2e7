-- What a rehearsal counts: the entries of its journal.
use Rattle.std.specs.Prelude.{◌≡◌, ℕ, ◌+◌, ◌≤◌, Bool, true, false, List}
use Rattle.dm_types.specs.declared.entry.Entry.{Entry}
use Rattle.dm_types.specs.declared.entry.Entry.TheVariants as entries
use Rattle.dm_types.specs.Kind.{kind_of}
use Rattle.dm_record.specs.Limits.{IsEntry}
use Rattle.dm_record.specs.Spelling.{spelling_of}
use Rattle.dm_item.specs.History.{count_of}
use Rattle.dm_item.specs.Lawful.{History}
use Rattle.dm_kept.specs.Spelled.{AllEntries, bodies_of}
use Rattle.dm_rehearse.specs.declared.counting.Counts.{Counts}

-- an attempt began
abbrev pub is_began : Entry → Bool
is_began (entries.Began id attempt by at) = true
is_began _ = false

-- an attempt was interrupted
abbrev pub is_broke : Entry → Bool
is_broke (entries.Broke id reason) = true
is_broke _ = false

-- how many entries there are of both kinds
abbrev pub counts_of : History → Counts
counts_of history = record { attempts = count_of is_began history; broke = count_of is_broke history }

-- the bodies are those of a history, and these are its counts
pub record AreCounted (bodies : List (List ℕ)) (counts : Counts) : Type 0 where
  pub history : History
  pub entries : AllEntries history
  pub is : bodies_of history ≡ bodies
  pub counts_are : counts ≡ counts_of history

-- the body is exactly one entry, and this is its kind
pub record IsOfKind (body : List ℕ) (kind : ℕ) : Type 0 where
  pub entry : Entry
  pub entry_is : IsEntry entry
  pub spelled : body ≡ spelling_of entry
  pub kind_is : kind ≡ kind_of entry

-- one attempt of at most four was whole, and each of the others was interrupted
pub record AddUp (counts : Counts) : Type 0 where
  pub some : 1 ≤ counts.broke
  pub few : counts.broke ≤ 3
  pub more : counts.attempts ≡ counts.broke + 1
