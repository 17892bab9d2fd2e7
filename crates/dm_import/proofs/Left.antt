-- What an import leaves whose list was opened: the same as a task on the list and the history that records the same entries.
use Rattle.std.proofs.Common.{◌≡◌, inl, inr, ℕ, Bool, true, false, if◌then◌else◌, List, [], ◌++◌, length, drop, Option, Some, None, Result, Ok, Err, refl, sym, ◌∙◌, ap, subst, append_assoc}
use Rattle.std.specs.Prelude.{reverse}
use Rattle.std.specs.Str.{bytes_eq}
use Rattle.std.proofs.lemmas.List.{append-nil}
use Rattle.std.proofs.Math.Seq.{drop-append_seam}
use Rattle.dm_types.specs.Faults.{NoneFell}
use Rattle.dm_types.specs.declared.item.Item.{Item}
use Rattle.dm_types.specs.declared.kinds.DiskKind.{DiskKind}
use Rattle.dm_disk_model.specs.declared.place.Place.{Place}
use Rattle.dm_disk_model.specs.Disk.{DiskState, History as Clock, now}
use Rattle.dm_edge.specs.declared.fault.NetFault.{NetFault}
use Rattle.dm_edge.specs.Wire.{Closed}
use Rattle.dm_item.specs.Lawful.{History, items_of, left_by}
use Rattle.dm_item.specs.Listing.{Listing}
use Rattle.dm_kept.specs.Files.{Says}
use Rattle.dm_kept.specs.Kept.{Kept}
use Rattle.dm_kept.specs.Recovery.{Through}
use Rattle.dm_kept.proofs.Entered.{items_are}
use Rattle.dm_part.specs.Laws.{files_place}
use Rattle.dm_store.proofs.Saved.{later_then}
use Rattle.dm_report.specs.Said.{EndsAs, Said, only}
use Rattle.dm_report.specs.declared.verdict.Verdict.{Verdict}
use Rattle.dm_report.specs.declared.verdict.Verdict.TheVariants as verdicts
use Rattle.dm_answers.specs.Add.{added_by}
use Rattle.dm_answers.specs.declared.order.Order.{Order}
use Rattle.dm_archive.specs.Doing.{Doing, drops, nothing, stay}
use Rattle.dm_hist.specs.declared.row.Row.{Row}
use Rattle.dm_csv.specs.declared.row.ImportRow.{ImportRow}
use Rattle.dm_shown.specs.declared.named.Named.{Named}
use Rattle.dm_does.specs.declared.course.Course.TheVariants.{Ends}
use Rattle.dm_does.specs.declared.course.Show.TheVariants.{Line}
use Rattle.dm_does.specs.Doing.{Given as DoesGiven, ends, has_room, named_by, records, refuses, with_word}
use Rattle.dm_does.specs.Leaving.{KeepsAll, Leaves, ShowsDamage}
use Rattle.dm_does.specs.Log.{Log, Opened, kept_of, opened_of}
use Rattle.dm_does.specs.World.{IsLater, World}
use Rattle.dm_list.specs.Running.{world_of}
use Rattle.dm_past.specs.Answering.{Works as TaskWorks}
use Rattle.dm_past.specs.Coming as came
use Rattle.dm_past.specs.Past.{Past}
use Rattle.dm_past.specs.Running.{TaskRan}
use Rattle.dm_past.specs.Tasks.{DoingFor}
use Rattle.dm_past.proofs.Left as left
use Rattle.dm_import.specs.Adding.{Answer, Comes, EndsSo, RecordDoes, all_added, answer_of, by_list, by_past, by_verdict, fell, lost, refused, wanted}
use Rattle.dm_import.specs.Answering.{Works, list_by}
use Rattle.dm_import.specs.Reading.{ReadsFile, TellsNone}
use Rattle.dm_import.specs.Running.{ImportRan}
use Rattle.dm_import.specs.Saying.{SaysSo, lines_in}
use Rattle.dm_import.proofs.Fronts.{reads_later}
use Rattle.dm_import.proofs.Sooner.{comes_since, later_sooner, sooner_world}

-- What is said is no damage.

abbrev IsSpared : Verdict → Type 0
IsSpared (verdicts.Damaged place) = ⊥
IsSpared verdict = Unit {0}

spared_shows : (start end : Clock) (verdict : Verdict) → IsSpared verdict → ShowsDamage start end verdict
spared_shows start end (verdicts.Damaged place) spared = absurd spared
spared_shows start end verdict spared = tt

abbrev IsSparedAnswer : Answer → Type 0
IsSparedAnswer (Ok one) = Unit {0}
IsSparedAnswer (Err verdict) = IsSpared verdict

new_spared : (given : DoesGiven) (order : Order) (room : Bool)
    → IsSparedAnswer (answer_of (if room then records (added_by given.list order given.at) (Ends verdicts.Done (Line (record { 0 = given.list.next }))) else refuses (verdicts.ItemsFull (length given.list.items))).course)
new_spared given order true = tt
new_spared given order false = tt

known_spared : (order : Order) (item : Item) (same : Bool) → IsSparedAnswer (answer_of (if same then ends verdicts.Done (Line item.id) else refuses (verdicts.OtherWord item.id)).course)
known_spared order item true = tt
known_spared order item false = tt

named_spared : (given : DoesGiven) (order : Order) (found : Option Item) → IsSparedAnswer (answer_of (named_by given order (λ item. ends verdicts.Done (Line item.id)) (λ id. Ends verdicts.Done (Line id)) found).course)
named_spared given order None = new_spared given order (has_room given.list)
named_spared given order (Some item) = known_spared order item (bytes_eq item.first_address order.address.text)

row_spared : (row : Row) (same : Bool) → IsSparedAnswer (by_verdict row (if same then verdicts.Done else verdicts.OtherWord row.id))
row_spared row true = tt
row_spared row false = tt

does_spared : (told : Type 0) (rows : List Row) (at : ℕ) (list : Listing) (order : Order) (recorded : History) (answer : Answer) → RecordDoes told rows at list order recorded answer → IsSparedAnswer answer
does_spared told rows at list order recorded answer (by_list none is answer_is) = subst IsSparedAnswer (sym answer_is) (named_spared (record { list = list; at = at }) order (with_word order.word list.items))
does_spared told rows at list order recorded answer (by_past row free is none answer_is) = subst IsSparedAnswer (sym answer_is) (row_spared row (bytes_eq row.address order.address.text))

ends_spared : (told : Type 0) (counts counts' : DiskKind → ℕ) (past past' : Past) (at : ℕ) (list : Listing) (rest : List ImportRow) (failed : History) (broken : Bool) (verdict : Verdict) → EndsSo told counts counts' past past' at list rest failed broken verdict → IsSpared verdict
ends_spared told counts counts' past past' at list rest failed broken verdict (all_added none none_failed whole is) = subst IsSpared (sym is) tt
ends_spared told counts counts' past past' at list rest failed broken verdict (refused row more rest_is does none_failed whole) = does_spared told past.rows at list _ [] (Err verdict) does
ends_spared told counts counts' past past' at list rest failed broken verdict (fell row more entry one kind rest_is does failed_is is_broken rose is) = subst IsSpared (sym is) tt
ends_spared told counts counts' past past' at list rest failed broken verdict (lost row more rest_is free has_failed none_failed whole is) = subst IsSpared (sym is) tt
ends_spared told counts counts' past past' at list rest failed broken verdict (wanted none_failed whole is) = subst IsSpared (sym is) tt

none_spared : (tells : Type 0) (disk : DiskState) (place : Place) (before after : DiskKind → ℕ) (verdict : Verdict) → TellsNone tells disk place before after verdict → IsSpared verdict
none_spared tells disk place before after (verdicts.Damaged number) none = none
none_spared tells disk place before after verdict none = tt

comes_spared : (tells told : Type 0) (disk : DiskState) (place : Place) (before after : DiskKind → ℕ) (counts counts' : DiskKind → ℕ) (past past' : Past) (at : ℕ) (list : Listing) (read : Result (List ImportRow) Verdict) (all : List Named) (recorded failed : History) (broken : Bool) (verdict : Verdict)
    → ReadsFile tells disk place before after read → Comes told counts counts' past past' at list read all recorded failed broken verdict → IsSpared verdict
comes_spared tells told disk place before after counts counts' past past' at list (Ok rows) all recorded failed broken verdict reads comes = ends_spared told counts counts' past past' at _ comes.rest failed broken verdict comes.ends
comes_spared tells told disk place before after counts counts' past past' at list (Err why) all recorded failed broken verdict reads comes = subst IsSpared (sym comes.is) (none_spared tells disk place before after why reads)

shows_as : (start end : Clock) (said other : Said) → said ≡ other → ShowsDamage start end other.verdict → ShowsDamage start end said.verdict
shows_as start end said other same shows = subst (λ (s : Said). ShowsDamage start end s.verdict) (sym same) shows

ends_shows : (start end : Clock) (verdict : Verdict) (out : List ℕ) (said : Said) → IsSpared verdict → EndsAs (record { verdict = verdict; out = out }) said → ShowsDamage start end said.verdict
ends_shows start end verdict out said spared (inl is) = shows_as start end said (record { verdict = verdict; out = out }) is (spared_shows start end verdict spared)
ends_shows start end verdict out said spared (inr is) = shows_as start end said (only verdicts.NoMemory) is tt

says_shows : (start end : Clock) (items : List Item) (all : List Named) (verdict : Verdict) (said : Said) → IsSpared verdict → SaysSo items all verdict said → ShowsDamage start end said.verdict
says_shows start end items all (verdicts.DiskFailed kind) said spared is = shows_as start end said (only (verdicts.DiskFailed kind)) is tt
says_shows start end items all verdicts.HistoryFailed said spared is = shows_as start end said (only verdicts.HistoryFailed) is tt
says_shows start end items all verdicts.NoMemory said spared is = shows_as start end said (only verdicts.NoMemory) is tt
says_shows start end items all verdict said spared is = ends_shows start end verdict (lines_in items all) said spared is

-- A task that records the same, and ends for want of memory or by the same failure of the disk.

abbrev pub any_task : DoingFor
any_task given doing = doing.verdict ≡ verdicts.NoMemory

pub any_tells : left.TellsNoDamage any_task
any_tells given doing is start end = subst (ShowsDamage start end) (sym is) tt

abbrev pub doing_of : History → Doing
doing_of entries = record { entries = entries; change = stay; verdict = verdicts.NoMemory; tells = nothing }

pub record AsTask (told : Type 0) (counts counts' : DiskKind → ℕ) (past past' : Past) (recorded failed : History) (broken : Bool) : Type 0 where
  pub said : Said
  pub comes : came.Came told counts counts' past past' (doing_of (recorded ++ failed)) recorded failed broken said

module _ (told : Type 0) (counts counts' : DiskKind → ℕ) (past past' : Past) (same : told → past'.rows ≡ past.rows) (recorded failed : History) (broken : Bool) where
  cut : came.WasCut told past.rows past'.rows (doing_of (recorded ++ failed)) recorded failed
  cut = record {
    rest = [];
    entries_are = ap (λ (h : History). recorded ++ h) (sym (append-nil failed));
    begun = λ knows. record { steps = length recorded; steps_are = inl refl; rows_are = same knows };
  }

  stops : broken ≡ false → failed ≡ [] → AsTask told counts counts' past past' recorded failed broken
  stops whole none = record { said = only verdicts.NoMemory; comes = came.stopped whole none cut refl }

  ends_task : (at : ℕ) (list : Listing) (rest : List ImportRow) (verdict : Verdict) → EndsSo told counts counts' past past' at list rest failed broken verdict → AsTask told counts counts' past past' recorded failed broken
  ends_task at list rest verdict (all_added none none_failed whole is) = stops whole none_failed
  ends_task at list rest verdict (refused row more rest_is does none_failed whole) = stops whole none_failed
  ends_task at list rest verdict (fell row more entry one kind rest_is does failed_is is_broken rose is) = record { said = only (verdicts.DiskFailed kind); comes = came.fell kind entry is_broken failed_is cut rose refl }
  ends_task at list rest verdict (lost row more rest_is free has_failed none_failed whole is) = stops whole none_failed
  ends_task at list rest verdict (wanted none_failed whole is) = stops whole none_failed

  comes_task : (at : ℕ) (list : Listing) (read : Result (List ImportRow) Verdict) (all : List Named) (verdict : Verdict) → Comes told counts counts' past past' at list read all recorded failed broken verdict → AsTask told counts counts' past past' recorded failed broken
  comes_task at list (Ok rows) all verdict comes = ends_task at _ comes.rest verdict comes.ends
  comes_task at list (Err why) all verdict comes = stops comes.whole comes.none_failed

module _ {D O : Type 0} (tells told : Type 0) (clock : D → Clock) (counts : D → DiskKind → ℕ) (far : D → ℕ) (says : O → Says) (origin : O) (name : List ℕ) (read : Result (List ImportRow) Verdict) (at : ℕ) (start end : D) (past past' : Past) (said : Said)
    (w : ImportRan tells told clock counts far says origin read at start end past past' said) (first : DiskKind → ℕ) (earlier : NoneFell first (counts start))
    (reads : ReadsFile tells (now (clock start)) (files_place name) first (counts start) read) where
  pub as_task : AsTask told (counts w.opened.disk) (counts w.ended.disk) past past' w.worked.recorded w.worked.failed w.worked.broken
  as_task = comes_task told (counts w.opened.disk) (counts w.ended.disk) past past' w.rest.same w.worked.recorded w.worked.failed w.worked.broken at w.opened.items read w.worked.named w.worked.verdict w.worked.comes

  abbrev pub task : TaskRan tells told clock counts far says origin any_task at start end past past' as_task.said
  task = record {
    opened = w.opened;
    ended = w.ended;
    end_is = w.end_is;
    origin_is = w.origin_is;
    limits = w.limits;
    is = w.is;
    beside = w.beside;
    on = w.on;
    later = w.later;
    worked = record {
      doing = doing_of (w.worked.recorded ++ w.worked.failed);
      is = refl;
      recorded = w.worked.recorded;
      failed = w.worked.failed;
      broken = w.worked.broken;
      becomes = w.worked.becomes;
      plain = w.worked.plain;
      came = as_task.comes;
    };
    goes = w.goes;
    shows = λ never. absurd (never (record { items = []; rows = [] }) (record { entries = []; change = drops 0; verdict = verdicts.NoMemory; tells = nothing }) refl);
  }

  abbrev found : History
  found = w.is.found

  abbrev pub log : Log
  log = left.log tells told clock counts far says origin any_task any_tells at start end past past' as_task.said task

  more_is : log.more ≡ w.worked.recorded
  more_is = ap (drop (length w.opened.list)) w.worked.becomes.list_is ∙ drop-append_seam w.opened.list w.worked.recorded

  list_is : w.opened.items ≡ list_by (opened_of log)
  list_is = w.is.items.value ∙ ap (λ (limit : ℕ). left_by limit (reverse (found ++ w.opened.list))) w.limit

  comes : Comes told first (counts w.ended.disk) past past' at (list_by (opened_of log)) read w.worked.named log.more log.failed log.broken w.worked.verdict
  comes =
      subst (λ (b : Bool). Comes told first (counts w.ended.disk) past past' at (list_by (opened_of log)) read w.worked.named log.more log.failed b w.worked.verdict) (sym w.worked.becomes.broken_is)
      (subst (λ (h : History). Comes told first (counts w.ended.disk) past past' at (list_by (opened_of log)) read w.worked.named log.more h w.worked.broken w.worked.verdict) (sym w.worked.becomes.failed_is)
      (subst (λ (h : History). Comes told first (counts w.ended.disk) past past' at (list_by (opened_of log)) read w.worked.named h w.worked.failed w.worked.broken w.worked.verdict) (sym more_is)
      (subst (λ (list : Listing). Comes told first (counts w.ended.disk) past past' at list read w.worked.named w.worked.recorded w.worked.failed w.worked.broken w.worked.verdict) list_is
      (comes_since told first (counts w.opened.disk) (counts w.ended.disk) past past' at w.opened.items read w.worked.named w.worked.recorded w.worked.failed w.worked.broken w.worked.verdict
      (later_then first (counts start) (counts w.opened.disk) earlier w.later) w.worked.comes))))

  items_at_end : w.ended.items.items ≡ items_of (kept_of log)
  items_at_end =
      items_are ((found ++ w.opened.list) ++ w.worked.recorded) w.ended.items (w.worked.becomes.lawful (found ++ w.opened.list) w.is.items)
      ∙ ap items_of (append_assoc found w.opened.list w.worked.recorded ∙ ap (λ (h : History). found ++ (w.opened.list ++ h)) (sym more_is))

  module _ (net_faults : NetFault → ℕ) (closed : List Closed) where
    abbrev after : World
    after = world_of clock counts net_faults closed w.ended.disk

    abbrev before : World
    before = sooner_world (clock start) first (counts start) net_faults closed earlier after

    same : TaskWorks tells told (world_of clock counts net_faults closed start) after past past' any_task at log as_task.said
    same = left.works tells told clock counts far says origin any_task any_tells at start end past past' as_task.said task net_faults closed

    pub works : Works tells told name before after past past' at log said
    works = record {
      taken = same.taken;
      lawful = same.lawful;
      opened = same.opened;
      once = same.once;
      none_closed = same.none_closed;
      read = read;
      reads = reads_later tells (now (clock start)) (files_place name) first (counts start) (counts w.ended.disk) read (later_then (counts start) (counts w.opened.disk) (counts w.ended.disk) w.later w.goes.later) reads;
      named = w.worked.named;
      verdict = w.worked.verdict;
      comes = comes;
      says = subst (λ (items : List Item). SaysSo items w.worked.named w.worked.verdict said) items_at_end w.worked.says;
    }

    pub later : IsLater tells before after
    later =
        later_sooner (clock start) first (counts start) net_faults closed earlier after tells
        (left.later tells told clock counts far says origin any_task any_tells at start end past past' as_task.said task net_faults closed)

  pub leaves : tells → Leaves (clock start) (clock w.ended.disk) (far start) (far w.ended.disk) said.verdict (Opened log)
  leaves sees =
      let l = left.leaves tells told clock counts far says origin any_task any_tells at start end past past' as_task.said task sees in
      record {
        moments = l.moments;
        ends = l.ends;
        files = l.files;
        holds = l.holds;
        damage = says_shows (clock start) (clock w.ended.disk) w.ended.items.items w.worked.named w.worked.verdict said
            (comes_spared tells told (now (clock start)) (files_place name) first (counts start) (counts w.opened.disk) (counts w.ended.disk) past past' at w.opened.items read w.worked.named w.worked.recorded w.worked.failed w.worked.broken w.worked.verdict reads w.worked.comes)
            w.worked.says;
        near = l.near;
      }

  pub keeps : tells → (kept rest : History) → Kept true (says origin) (Through kept rest) (now (clock start)) → KeepsAll (says origin) (clock start) (clock w.ended.disk) kept rest (Opened log)
  keeps sees kept rest here = left.keeps tells told clock counts far says origin any_task any_tells at start end past past' as_task.said task sees kept rest here
