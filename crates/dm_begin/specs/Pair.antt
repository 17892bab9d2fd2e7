-- An attempt that begins and ends in a row.
use Rattle.std.specs.Prelude.{[], ◌∷◌, Result, Ok, Err}
use Rattle.dm_types.specs.declared.entry.Entry.{Entry}
use Rattle.dm_types.specs.declared.entry.Entry.TheVariants as entries
use Rattle.dm_types.specs.declared.kinds.DiskKind.{DiskKind}
use Rattle.dm_store.specs.Becomes.{Fell, Recorded}
use Rattle.dm_store.specs.View.{View}
use Rattle.dm_begin.specs.declared.entering.Begins.{Begins}

-- the entry of an attempt that begins
abbrev pub began_of : Begins → Entry
began_of what = entries.Began what.id what.attempt what.by what.at

-- both are recorded; or the journal failed at the one or the other
abbrev pub BothMakes : {D O : Type 0} → View D O → View D O → Entry → Entry → Result (Unit {0}) DiskKind → Type 0
BothMakes old new began broke (Ok done) = Recorded old new (began ∷ broke ∷ [])
BothMakes old new began broke (Err kind) = Fell old new (began ∷ broke ∷ [])
