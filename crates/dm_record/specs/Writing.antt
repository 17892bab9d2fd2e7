-- What writing adds at the end of a text, and what the types of the written values say.
use Rattle.std.specs.Prelude.{◌≡◌, ◌<◌, ◌^◌, ◌++◌, ℕ, List, IfSome, Result, OnOk}
use Rattle.std.specs.List.{AllByRecursion}
use Rattle.dm_types.specs.declared.entry.Entry.{Entry}
use Rattle.dm_types.specs.declared.item.Item.{Item}
use Rattle.dm_record.specs.Spelling.{fields_of}
use Rattle.dm_record.specs.Limits.{IsBytes, IsDigest, IsKey, IsSlice, IsInRange}

-- on success these bytes stand at the end, and this holds of what was written
abbrev pub Adds : {T E : Type 0} → List ℕ → List ℕ → Result T E → List ℕ → Type 0 → Type 0
Adds old new result bytes Holds = OnOk result ((new ≡ old ++ bytes) × Holds)

-- the fields of an entry
abbrev pub AddsFields : {T E : Type 0} → List ℕ → List ℕ → Result T E → Entry → Type 0
AddsFields old new result entry = Adds old new result (fields_of entry) (IsInRange entry)

abbrev pub IsOrder : Item → Type 0
IsOrder i = (i.id.0 < 2 ^ 32) × IsBytes i.word × IsBytes i.first_address × IsBytes i.wish × IfSome i.digest IsDigest

abbrev pub IsCourse : Item → Type 0
IsCourse i = (i.epoch.0 < 2 ^ 32) × (i.attempt.0 < 2 ^ 32) × (i.autos < 2 ^ 32)

abbrev pub IsTold : Item → Type 0
IsTold i = IfSome i.key IsKey × IfSome i.last_address IsBytes × IfSome i.total (λ total. total < 2 ^ 64) × IfSome i.name IsBytes × IfSome i.modified IsBytes

abbrev pub IsKept : Item → Type 0
IsKept i = AllByRecursion IsSlice i.slices × IfSome i.have IsDigest × (i.at_ms < 2 ^ 64)
