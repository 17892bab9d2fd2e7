-- A desk, seen from outside.
use Rattle.std.specs.Prelude.{◌+◌, ℕ, Bool, List, [], ◌∷◌, length}
use Rattle.dm_types.specs.declared.item.Limits.{Limits}
use Rattle.dm_record.specs.Spelling.{spelling_of}
use Rattle.dm_item.specs.Lawful.{History}
use Rattle.dm_item.specs.Listing.{Listing}
use Rattle.dm_store.specs.declared.life.Life.{Life}

pub record View (D O : Type 0) : Type 0 where
  pub disk : D
  pub origin : O
  pub limits : Limits
  pub items : Listing
  pub lives : List Life
  -- the place of the journal's closed gate
  pub gate : ℕ
  -- the journal failed, or a reopening was refused, and the desk wasn't reopened since
  pub broken : Bool
  -- the entries that were recorded since the opening, or since the last reopening that read the journal whole
  pub list : History
  -- the entry whose append failed, where one did
  pub failed : History

-- how many bytes the entries have in the journal: each has a gate, four bytes of length, and its spelling
abbrev pub spelled : History → ℕ
spelled [] = 0
spelled (entry ∷ more) = (5 + length (spelling_of entry)) + spelled more
