-- The clause of a run, put together.
use Rattle.std.proofs.Common.{◌≡◌, ◌≤◌, inl, inr, ℕ, List, [], ◌∷◌, length, Result, Ok, Err, sym, subst, arith}
use Rattle.std.specs.Prelude.{IfErr, IfOk}
use Rattle.std.specs.List.{AllByRecursion}
use Rattle.dm_types.specs.Faults.{NoneFell}
use Rattle.dm_types.specs.declared.kinds.DiskKind.{DiskKind}
use Rattle.dm_disk_model.specs.declared.place.Place.{Place}
use Rattle.dm_disk_model.specs.Disk.{DiskState, History as Clock, now}
use Rattle.dm_edge.specs.declared.fault.NetFault.{NetFault}
use Rattle.dm_edge.specs.Wire.{Closed}
use Rattle.dm_kept.specs.Files.{Says}
use Rattle.dm_part.specs.Laws.{files_place}
use Rattle.dm_report.specs.Said.{Said}
use Rattle.dm_report.specs.declared.verdict.Verdict.{Verdict}
use Rattle.dm_csv.specs.Rows.{AreRows, IsNameIn, IsRow}
use Rattle.dm_csv.specs.declared.row.ImportRow.{ImportRow}
use Rattle.dm_does.specs.Log.{Opened}
use Rattle.dm_list.specs.Running.{world_of}
use Rattle.dm_past.specs.Past.{Past}
use Rattle.dm_import.specs.Explaining.{RunsImport}
use Rattle.dm_import.specs.Reading.{FileTells, ReadsFile, TellsNone}
use Rattle.dm_import.specs.Running.{ImportRan, ImportRuns}
use Rattle.dm_import.specs.Working.{IsGoodRow}
use Rattle.dm_import.proofs.Closed.{refused_runs}
use Rattle.dm_import.proofs.Left as left
use Rattle.dm_import.proofs.Sooner.{world}

-- The rows of a file keep the limits of an order.

short_name : (name : List ℕ) → IsNameIn name → length name ≤ 255
short_name name (inl none) = subst (λ (n : List ℕ). length n ≤ 255) (sym none) (omega arith)
short_name name (inr is) = is.short

good_row : (fields : List (List ℕ)) (row : ImportRow) → IsRow fields row → IsGoodRow row
good_row fields row is = record { word = is.good.is_word.short; address = is.short; wish = short_name row.wish is.good.is_name }

good_rows : (under : List (List (List ℕ))) (rows : List ImportRow) → AreRows under rows → AllByRecursion IsGoodRow rows
good_rows [] [] are = tt
good_rows [] (row ∷ rows) are = absurd are
good_rows (fields ∷ more) [] are = absurd are
good_rows (fields ∷ more) (row ∷ rows) are = (good_row fields row are.0, good_rows more rows are.1)

pub reads_good : (tells : Type 0) (disk : DiskState) (place : Place) (read : Result (List ImportRow) Verdict) → IfOk read (FileTells tells disk place) → IfOk read (AllByRecursion IsGoodRow)
reads_good tells disk place (Ok rows) told = good_rows told.import_is.under rows told.import_is.are
reads_good tells disk place (Err verdict) told = tt

pub reads_by : (tells : Type 0) (disk : DiskState) (place : Place) (before after : DiskKind → ℕ) (read : Result (List ImportRow) Verdict) → IfOk read (FileTells tells disk place) → IfErr read (TellsNone tells disk place before after)
    → ReadsFile tells disk place before after read
reads_by tells disk place before after (Ok rows) told none = told
reads_by tells disk place before after (Err verdict) told none = none

module _ {D O : Type 0} (tells told : Type 0) (clock : D → Clock) (counts : D → DiskKind → ℕ) (far : D → ℕ) (says : O → Says) (origin : O) (name : List ℕ) (read : Result (List ImportRow) Verdict) (at : ℕ) (start : D) (past past' : Past) (said : Said) (first : DiskKind → ℕ)
    (earlier : NoneFell first (counts start)) (reads : ReadsFile tells (now (clock start)) (files_place name) first (counts start) read) (net_faults : NetFault → ℕ) (closed : List Closed) where
  abbrev Ran : D → Type 0
  Ran end = RunsImport tells told (says origin) name at (world (clock start) first net_faults closed) (world_of clock counts net_faults closed end) past past' (far start) (far end) said

  ran : (end : D) (w : ImportRan tells told clock counts far says origin read at start end past past' said) → Ran w.ended.disk
  ran end w = record {
    run = Opened (left.log tells told clock counts far says origin name read at start end past past' said w first earlier reads);
    answers = left.works tells told clock counts far says origin name read at start end past past' said w first earlier reads net_faults closed;
    later = left.later tells told clock counts far says origin name read at start end past past' said w first earlier reads net_faults closed;
    rest = w.rest;
    leaves = left.leaves tells told clock counts far says origin name read at start end past past' said w first earlier reads;
    keeps = left.keeps tells told clock counts far says origin name read at start end past past' said w first earlier reads;
  }

  runs : (end : D) → ImportRuns tells told clock counts far says origin read at start end past past' said → Ran end
  runs end (inl w) = subst Ran (sym w.end_is) (ran end w)
  runs end (inr (r, same)) = refused_runs tells told clock counts far (says origin) name at start end past past' said first earlier net_faults closed r same

-- the file was read from the disk that was handed in, which is as it was but for the counts
pub import_runs : {D O : Type 0} (tells told : Type 0) (clock : D → Clock) (counts : D → DiskKind → ℕ) (far : D → ℕ) (says : O → Says) (origin : O) (name : List ℕ) (read : Result (List ImportRow) Verdict) (at : ℕ) (given start end : D) (past past' : Past) (said : Said)
    → clock start ≡ clock given → far start ≡ far given → NoneFell (counts given) (counts start) → ReadsFile tells (now (clock given)) (files_place name) (counts given) (counts start) read
    → ImportRuns tells told clock counts far says origin read at start end past past' said → (net_faults : NetFault → ℕ) (closed : List Closed)
    → RunsImport tells told (says origin) name at (world_of clock counts net_faults closed given) (world_of clock counts net_faults closed end) past past' (far given) (far end) said
import_runs tells told clock counts far says origin name read at given start end past past' said stays near earlier reads ran net_faults closed =
    subst (λ (c : Clock). RunsImport tells told (says origin) name at (world c (counts given) net_faults closed) (world_of clock counts net_faults closed end) past past' (far given) (far end) said) stays
    (subst (λ (n : ℕ). RunsImport tells told (says origin) name at (world (clock start) (counts given) net_faults closed) (world_of clock counts net_faults closed end) past past' n (far end) said) near
    (runs tells told clock counts far says origin name read at start past past' said (counts given) earlier
    (subst (λ (c : Clock). ReadsFile tells (now c) (files_place name) (counts given) (counts start) read) (sym stays) reads) net_faults closed end ran))
