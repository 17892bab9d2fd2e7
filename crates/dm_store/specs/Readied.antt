-- What is made of an entry before it is recorded.
use Rattle.std.specs.Prelude.{◌≡◌}
use Rattle.dm_types.specs.declared.entry.Entry.{Entry}
use Rattle.dm_record.specs.Limits.{IsEntry}
use Rattle.dm_record.specs.Spelling.{spelling_of}
use Rattle.dm_item.specs.Listing.{Listing}
use Rattle.dm_item.specs.Ready.{IsReady}
use Rattle.dm_journal.specs.Text.{FitsCell}
use Rattle.dm_store.specs.declared.readying.Readied.{Readied}

-- The entry's one spelling, which fits a cell of the journal, and what the list wants of it.
pub record IsReadied (items : Listing) (entry : Entry) (ready : Readied) : Type 0 where
  pub is : IsEntry entry
  pub body : ready.body ≡ spelling_of entry
  pub size : FitsCell ready.body
  pub item : IsReady items entry ready.item
