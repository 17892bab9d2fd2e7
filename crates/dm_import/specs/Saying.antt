-- What an import says at its end.
use Rattle.std.specs.Prelude.{◌≡◌, ℕ, List, map}
use Rattle.std.specs.List.{concat}
use Rattle.dm_types.specs.declared.item.Item.{Item}
use Rattle.dm_item.specs.Listing.{item_in}
use Rattle.dm_report.specs.Said.{EndsAs, Said, only}
use Rattle.dm_report.specs.Texts.{item_line_of}
use Rattle.dm_report.specs.declared.verdict.Verdict.{Verdict}
use Rattle.dm_report.specs.declared.verdict.Verdict.TheVariants.{DiskFailed, HistoryFailed, NoMemory}
use Rattle.dm_shown.specs.declared.named.Named.{Named}
use Rattle.dm_shown.specs.declared.named.Named.TheVariants as names
use Rattle.dm_does.specs.Saying.{text_in}
use Rattle.dm_past.specs.Saying.{row_line_of}

-- the line of an item, as it is at the end, or of a row of the history
abbrev pub line_in : List Item → Named → List ℕ
line_in items (names.Item id) = text_in item_line_of (item_in id.0 items)
line_in items (names.Row row) = row_line_of row

abbrev pub lines_in : List Item → List Named → List ℕ
lines_in items all = concat (map (line_in items) all)

-- A failure is told alone. Else the lines are printed, and how it ended is told, or memory was wanting for that.
abbrev pub SaysSo : List Item → List Named → Verdict → Said → Type 0
SaysSo items all (DiskFailed kind) said = said ≡ only (DiskFailed kind)
SaysSo items all HistoryFailed said = said ≡ only HistoryFailed
SaysSo items all NoMemory said = said ≡ only NoMemory
SaysSo items all verdict said = EndsAs (record { verdict = verdict; out = lines_in items all }) said
