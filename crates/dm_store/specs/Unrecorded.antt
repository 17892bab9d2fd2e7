-- What comes of recording an entry, where its memory is taken with it.
use Rattle.std.specs.Prelude.{◌≡◌, true, [], ◌∷◌, Option, Some, None, Result, Ok, Err}
use Rattle.dm_types.specs.declared.entry.Entry.{Entry}
use Rattle.dm_types.specs.declared.kinds.DiskKind.{DiskKind}
use Rattle.dm_store.specs.declared.unrecorded.Unrecorded.{Unrecorded}
use Rattle.dm_store.specs.declared.unrecorded.Unrecorded.TheVariants.{NoMemory, Journal}
use Rattle.dm_store.specs.Becomes.{Becomes, Recorded}
use Rattle.dm_store.specs.View.{View}

-- want of memory is counted nowhere
abbrev pub unrecorded_kind : Unrecorded → Option DiskKind
unrecorded_kind NoMemory = None
unrecorded_kind (Journal kind) = Some kind

-- It is recorded; or nothing was done; or the journal failed.
abbrev pub UnrecordedMakes : {D O : Type 0} → View D O → View D O → Entry → Result (Unit {0}) Unrecorded → Type 0
UnrecordedMakes old new entry (Ok done) = Recorded old new (entry ∷ [])
UnrecordedMakes old new entry (Err NoMemory) = new ≡ old
UnrecordedMakes old new entry (Err (Journal kind)) = Becomes old new [] (entry ∷ []) true
