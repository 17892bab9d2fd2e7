-- A command of the list, put together with what a row says to it.
use Rattle.std.proofs.Common.{◌≡◌, ◌⊎◌, inl, inr, ℕ, Bool, true, false, if◌then◌else◌, List, [], ◌++◌, refl, sym, ◌∙◌, ap, subst, arith}
use Rattle.std.specs.Str.{bytes_eq}
use Rattle.dm_types.specs.Faults.{NoneFell}
use Rattle.dm_types.specs.Limits.{most_items}
use Rattle.dm_types.specs.declared.item.Limits.{Limits}
use Rattle.dm_types.specs.declared.item.Item.{Item}
use Rattle.dm_types.specs.declared.item.ItemId.{ItemId}
use Rattle.dm_types.specs.declared.item.Phase.TheVariants.{Cancelled}
use Rattle.dm_types.specs.declared.kinds.DiskKind.{DiskKind}
use Rattle.dm_disk_model.specs.Beside.{Besides}
use Rattle.dm_disk_model.specs.Disk.{History as Clock, now}
use Rattle.dm_disk_model.proofs.Beside.{besides_stay}
use Rattle.dm_disk_model.proofs.Reaching.{at_start}
use Rattle.dm_edge.specs.declared.fault.NetFault.{NetFault}
use Rattle.dm_edge.specs.Wire.{Closed}
use Rattle.dm_item.specs.Lawful.{History}
use Rattle.dm_kept.specs.Files.{Says}
use Rattle.dm_kept.specs.Kept.{Kept}
use Rattle.dm_kept.specs.Recovery.{Through}
use Rattle.dm_kept.proofs.Entered.{items_are}
use Rattle.dm_land.proofs.Steps.{recorded_none}
use Rattle.dm_store.specs.Keeps.{IsDesk}
use Rattle.dm_store.specs.View.{View}
use Rattle.dm_answers.specs.Opening.{IsOpened}
use Rattle.dm_answers.specs.Reads.{IsSettledName}
use Rattle.dm_open.specs.Refused.{RunsOn}
use Rattle.dm_report.specs.Said.{Said, only}
use Rattle.dm_report.specs.declared.verdict.Verdict.{Verdict}
use Rattle.dm_report.specs.declared.verdict.Verdict.TheVariants as verdicts
use Rattle.dm_hist.specs.declared.row.Row.{Row}
use Rattle.dm_hist.specs.Rows.{AreRows, is_there}
use Rattle.dm_archive.specs.Doing.{Doing, Given, adds_row, drops_row, gets_row}
use Rattle.dm_brings.specs.Bringing.{brings_of, program_limits}
use Rattle.dm_does.specs.declared.job.Job.{Job}
use Rattle.dm_does.specs.declared.job.Job.TheVariants as jobs
use Rattle.dm_does.specs.Answering.{Bringing}
use Rattle.dm_does.specs.Jobs.{HasJob, RefusesWords}
use Rattle.dm_does.specs.Leaving.{IsTouched, KeepsAll, KeepsOne, Leaves, ShowsDamage}
use Rattle.dm_does.specs.Log.{Run, Untouched, Unread, Unopened, Opened}
use Rattle.dm_does.specs.World.{World}
use Rattle.dm_list.specs.Completing.{Completes}
use Rattle.dm_list.specs.Running.{IsClosed, JobRefused, JobWorked, world_of}
use Rattle.dm_list.proofs.Left as list_left
use Rattle.dm_list.proofs.Runs.{words_refused}
use Rattle.dm_past.specs.Answering.{Answers}
use Rattle.dm_past.specs.ByRows.{IsAnswered, NoRow, RowDoes, RowSays, RowsRest, unanswered}
use Rattle.dm_past.specs.Listed.{ListRan, ListedRuns, RowRan, RunsEither, RunsListed, WorkedOrNot, refused, worked}
use Rattle.dm_past.specs.Past.{Past}
use Rattle.dm_past.specs.Running.{RunsTask}
use Rattle.dm_past.specs.Tasks.{DoingFor, NeverDrops}
use Rattle.dm_past.specs.Working.{TaskShows, TaskWorked, given_of}
use Rattle.dm_past.proofs.Closed.{closed_runs}
use Rattle.dm_past.proofs.Left.{TellsNoDamage}
use Rattle.dm_past.proofs.Turned.{page_goes, page_shows}
use Rattle.dm_past.proofs.Whole.{task_runs}

-- On a desk that was opened.

module _ {D O : Type 0} (tells told : Type 0) (clock : D → Clock) (counts : D → DiskKind → ℕ) (far : D → ℕ) (says : O → Says) (job : Job) (desk : View D O) (past past' : Past) (said : Said) (is_desk : IsDesk tells clock desk) (whole : desk.broken ≡ false)
    (a : IsAnswered told (RowDoes told job) (given_of desk past) past past' said) where
  answered_worked : TaskWorked told counts (RowDoes told job) desk desk past past' said
  answered_worked = record {
    doing = a.doing;
    is = a.is;
    recorded = [];
    failed = [];
    broken = false;
    becomes = recorded_none desk whole (is_desk.failed whole);
    plain = tt;
    came = a.came (counts desk.disk);
  }

  answered_shows : (told → AreRows past.rows) → NeverDrops (RowDoes told job) → TaskShows tells told clock says desk desk past past'
  answered_shows rising never = page_shows tells told clock counts far says desk past past' is_desk whole rising (a.same (never (given_of desk past) a.doing a.is))

module _ {D O : Type 0} (tells told : Type 0) (clock : D → Clock) (counts : D → DiskKind → ℕ) (far : D → ℕ) (says : O → Says) (net : Type 0) (origin : O) (job : Job) (at : ℕ) (start end : D) (was closed : List Closed) (before after : NetFault → ℕ) (past past' : Past) (said : Said)
    (opened ended : View D O) (end_is : end ≡ ended.disk) (origin_is : opened.origin ≡ origin) (limit : opened.items.limit ≡ most_items) (limits : opened.limits ≡ program_limits) (is : IsOpened tells clock far (says origin) start at opened)
    (beside : tells → Besides (IsSettledName clock start) (clock start) (clock opened.disk)) (on : tells → RunsOn (says origin) (clock start) (clock opened.disk) is.found opened.list) (later : NoneFell (counts start) (counts opened.disk))
    (is_desk : IsDesk tells clock opened) (rising : told → AreRows past.rows) where
  pub opened_runs : WorkedOrNot tells told clock counts far says net job at opened ended was closed before after past past' said
      → ListedRuns tells told clock counts far says net origin job at start end was closed before after past past' said
  opened_runs (inl (did, rest, none)) =
      inl (worked (record { opened = opened; ended = ended; end_is = end_is; origin_is = origin_is; limit = limit; limits = limits; is = is; beside = beside; on = on; later = later; worked = did }) none rest)
  opened_runs (inr (answered, same, closed_is, faults_are)) = inr (record {
    ran = record {
      opened = opened;
      ended = opened;
      end_is = end_is ∙ ap (λ (v : View D O). v.disk) same;
      origin_is = origin_is;
      limits = ap (λ (l : Limits). l.items) limits;
      is = is;
      beside = beside;
      on = on;
      later = later;
      worked = answered_worked tells told clock counts far says job opened past past' said is_desk is.whole answered;
      goes = page_goes tells told clock counts far says opened past past' is_desk is.whole answered.later;
      shows = answered_shows tells told clock counts far says job opened past past' said is_desk is.whole answered rising;
    };
    closed_is = closed_is;
    faults_are = faults_are;
  })

pub listed_at : {D O : Type 0} (tells told : Type 0) (clock : D → Clock) (counts : D → DiskKind → ℕ) (far : D → ℕ) (says : O → Says) (net : Type 0) (origin other : O) (job : Job) (at : ℕ) (start end : D) (was closed : List Closed) (before after : NetFault → ℕ) (past past' : Past) (said : Said)
    → origin ≡ other → ListedRuns tells told clock counts far says net origin job at start end was closed before after past past' said → ListedRuns tells told clock counts far says net other job at start end was closed before after past past' said
listed_at {O = O} tells told clock counts far says net origin other job at start end was closed before after past past' said same runs =
    subst (λ (o : O). ListedRuns tells told clock counts far says net o job at start end was closed before after past past' said) same runs

-- the history wasn't asked
pub rests : (told : Type 0) (past : Past) → RowsRest told past past
rests told past = record { same = λ knows. refl; later = λ kind. omega arith }

-- A run of words.

by_verdict : (start end : Clock) (doing other : Doing) → doing ≡ other → ShowsDamage start end other.verdict → ShowsDamage start end doing.verdict
by_verdict start end doing other same shows = subst (λ (d : Doing). ShowsDamage start end d.verdict) (sym same) shows

if_shows : (start end : Clock) (test : Bool) (one other : Verdict) → ShowsDamage start end one → ShowsDamage start end other → ShowsDamage start end (if test then one else other)
if_shows start end true one other first second = first
if_shows start end false one other first second = second

get_shows : (start end : Clock) (address : List ℕ) (row : Row) → ShowsDamage start end (gets_row address row).verdict
get_shows start end address row =
    if_shows start end (bytes_eq row.address address) (if row.complete then verdicts.Done else verdicts.WrongState Cancelled) (verdicts.OtherWord row.id) (if_shows start end row.complete verdicts.Done (verdicts.WrongState Cancelled) tt tt) tt

add_shows : (start end : Clock) (address : List ℕ) (row : Row) → ShowsDamage start end (adds_row address row).verdict
add_shows start end address row = if_shows start end (bytes_eq row.address address) verdicts.Done (verdicts.OtherWord row.id) tt tt

word_shows : (start end : Clock) (told : Type 0) (word : List ℕ) (by_row : Row → Doing) (given : Given) (doing : Doing) → ((row : Row) → ShowsDamage start end (by_row row).verdict) → RowSays told word by_row given doing ⊎ (doing ≡ unanswered)
    → ShowsDamage start end doing.verdict
word_shows start end told word by_row given doing each (inl says) = by_verdict start end doing (by_row says.row) says.doing_is (each says.row)
word_shows start end told word by_row given doing each (inr none) = by_verdict start end doing unanswered none tt

id_shows : (start end : Clock) (told : Type 0) (id : ItemId) (given : Given) (doing : Doing) → ((told → is_there id.0 given.rows ≡ true) × (doing ≡ drops_row id)) ⊎ (doing ≡ unanswered) → ShowsDamage start end doing.verdict
id_shows start end told id given doing (inl dropped) = by_verdict start end doing (drops_row id) dropped.1 tt
id_shows start end told id given doing (inr none) = by_verdict start end doing unanswered none tt

-- what a row says is no damage
row_tells : (told : Type 0) (job : Job) → TellsNoDamage (RowDoes told job)
row_tells told (jobs.Get order slices) given doing is start end = word_shows start end told order.word (gets_row order.address.text) given doing (get_shows start end order.address.text) is.does
row_tells told (jobs.Add order) given doing is start end = word_shows start end told order.word (adds_row order.address.text) given doing (add_shows start end order.address.text) is.does
row_tells told (jobs.Remove id) given doing is start end = id_shows start end told id given doing is.does
row_tells told job given doing is start end = absurd is

-- nothing is to be done
abbrev no_doing : DoingFor
no_doing given doing = ⊥

-- a run that opened no list brings no item
pub well_closed : {D O : Type 0} (tells : Type 0) (clock : D → Clock) (counts : D → DiskKind → ℕ) (far : D → ℕ) (says : O → Says) (net : Type 0) (origin : O) (words : List (List ℕ)) (at : ℕ) (start end : D) (was closed : List Closed) (before after : NetFault → ℕ) (said : Said) (run : Run) → IsClosed run
    → Completes tells clock says far counts net origin start end was closed before after words at said run
well_closed tells clock counts far says net origin words at start end was closed before after said Untouched is sees kept rest here none = tt
well_closed tells clock counts far says net origin words at start end was closed before after said Unread is sees kept rest here none = tt
well_closed tells clock counts far says net origin words at start end was closed before after said (Unopened found recorded failed others) is sees kept rest here none = tt
well_closed tells clock counts far says net origin words at start end was closed before after said (Opened log) is sees kept rest here none = absurd is

-- A list that couldn't be opened answers any words that are a job.
module _ (P : Run → Type 0) (well : (run : Run) → IsClosed run → P run) (brings : ℕ → Bringing) (tells told : Type 0) (says : Says) (words : List (List ℕ)) (job : Job) (has : HasJob words job) (at : ℕ) (before after : World) (past past' : Past) (far far' : ℕ) (said : Said) (ran : RunsTask tells told says no_doing at before after past past far far' said)
    (rest : RowsRest told past past') where
  abbrev Shut : Type 0
  Shut = RunsListed P brings tells told says words at before after past past' far far' said

  shut_at : (run : Run) → Answers tells told no_doing at before after past past said run → (tells → Leaves before.disk after.disk far far' said.verdict run)
      → (tells → (kept rest : History) → Kept true says (Through kept rest) (now before.disk) → KeepsAll says before.disk after.disk kept rest run) → Shut
  shut_at Untouched answers leaves keeps = absurd answers
  shut_at Unread answers leaves keeps = record {
    runs = record { run = Unread; answers = record { has = record { job = job; has = has }; none_closed = answers.none_closed; says = answers.says }; later = ran.later; leaves = leaves; keeps = keeps; besides = well Unread tt };
    rest = rest;
    none = λ knows. tt;
  }
  shut_at (Unopened found recorded failed others) answers leaves keeps = record {
    runs = record {
      run = Unopened found recorded failed others;
      answers = record {
        has = record { job = job; has = has };
        none_closed = answers.none_closed;
        says = answers.says;
        taken = answers.taken;
        lawful = answers.lawful;
        one = answers.one;
        left = answers.left;
        tried = answers.tried;
      };
      later = ran.later;
      leaves = leaves;
      keeps = keeps;
      besides = well (Unopened found recorded failed others) tt;
    };
    rest = rest;
    none = λ knows. tt;
  }
  shut_at (Opened log) answers leaves keeps = absurd answers.is

  pub shut : Shut
  shut = shut_at ran.run ran.answers ran.leaves ran.keeps

module _ {D O : Type 0} (tells told : Type 0) (clock : D → Clock) (counts : D → DiskKind → ℕ) (far : D → ℕ) (says : O → Says) (net : Type 0) (origin : O) (words : List (List ℕ)) (job : Job) (has : HasJob words job) (at : ℕ) (start : D) (was : List Closed) (before : NetFault → ℕ) (past past' : Past)
    (said : Said) where
  abbrev brings : ℕ → Bringing
  brings = brings_of tells clock says far counts net

  abbrev first : World
  first = world_of clock counts before was start

  abbrev Well : D → List Closed → (NetFault → ℕ) → Run → Type 0
  Well end closed after run = Completes tells clock says far counts net origin start end was closed before after words at said run

  abbrev Ran : D → List Closed → (NetFault → ℕ) → Type 0
  Ran end closed after = RunsEither (Well end closed after) brings tells told (says origin) words at first (world_of clock counts after closed end) past past' (far start) (far end) said

  listed : (end : D) (closed : List Closed) (after : NetFault → ℕ) (w : JobWorked tells clock counts far says net origin job at start end was closed before after said) → RowsRest told past past' → (told → NoRow job (given_of w.opened past)) → Ran w.ended.disk closed after
  listed end closed after w rest none = inl (record {
    runs = record {
      run = Opened (list_left.log tells clock counts far says net origin job at start end was closed before after said w);
      answers = record { job = job; has = has; works = list_left.works tells clock counts far says net origin job at start end was closed before after said w };
      later = list_left.later tells clock counts far says net origin job at start end was closed before after said w;
      leaves = list_left.leaves tells clock counts far says net origin job at start end was closed before after said w;
      keeps = list_left.keeps tells clock counts far says net origin job at start end was closed before after said w;
      besides = λ sees kept others here none_rose. record {
        job = job;
        has = has;
        brings = list_left.completes tells clock counts far says net origin job at start end was closed before after said w sees (record { earlier = kept; more = others; kept = here }) none_rose;
      };
    };
    rest = rest;
    none = λ knows. subst (λ (items : List Item). NoRow job (record { items = items; rows = past.rows })) (items_are (w.is.found ++ w.opened.list) w.opened.items w.is.items) (none knows);
  })

  shut_here : (end : D) → JobRefused tells clock counts far (says origin) at start end said → RowsRest told past past' → Ran end was before
  shut_here end r rest =
      inl (shut (Well end was before) (well_closed tells clock counts far says net origin words at start end was was before before said) brings tells told (says origin) words job has at first (world_of clock counts before was end) past past' (far start) (far end) said
      (closed_runs tells told clock counts far (says origin) no_doing at start past said before was end past r refl) rest)

  by_list : (end : D) (closed : List Closed) (after : NetFault → ℕ) → ListRan tells told clock counts far says net origin job at start end was closed before after past past' said → Ran end closed after
  by_list end closed after (worked w none rest) = subst (λ (d : D). Ran d closed after) (sym w.end_is) (listed end closed after w rest none)
  by_list end closed after (refused r none_closed same rest) =
      subst (λ (c : List Closed). Ran end c after) (sym none_closed) (subst (λ (counted : NetFault → ℕ). Ran end was counted) (sym same) (shut_here end r rest))

  by_row : (end : D) (closed : List Closed) (after : NetFault → ℕ) → RowRan tells told clock counts far says origin job at start end was closed before after past past' said → Ran end closed after
  by_row end closed after r =
      subst (λ (c : List Closed). Ran end c after) (sym r.closed_is)
      (subst (λ (counted : NetFault → ℕ). Ran end was counted) (sym r.faults_are)
      (inr (record {
        job = job;
        has = has;
        runs = task_runs tells told clock counts far says origin (RowDoes told job) (row_tells told job) at start past past' said before was end (inl r.ran);
      })))

  pub listed_runs : (end : D) (closed : List Closed) (after : NetFault → ℕ) → ListedRuns tells told clock counts far says net origin job at start end was closed before after past past' said → Ran end closed after
  listed_runs end closed after (inl l) = by_list end closed after l
  listed_runs end closed after (inr r) = by_row end closed after r

-- Words that are refused: the list isn't looked at, and the rows rest.
module _ {D : Type 0} (P : Run → Type 0) (well : (run : Run) → IsClosed run → P run) (brings : ℕ → Bringing) (tells told : Type 0) (clock : D → Clock) (counts : D → DiskKind → ℕ) (far : D → ℕ) (says : Says) (words : List (List ℕ)) (at : ℕ) (start : D) (past : Past) (said : Said) (net_faults : NetFault → ℕ) (closed : List Closed) where
  abbrev still : World
  still = world_of clock counts net_faults closed start

  untouched : RefusesWords words said.verdict → said ≡ only said.verdict → RunsListed P brings tells told says words at still still past past (far start) (far start) said
  untouched why nothing = record {
    runs = record {
      run = Untouched;
      answers = record { refused = why; nothing = nothing; same = refl };
      later = record { disk_later = λ kind. omega arith; net_later = λ kind. omega arith; moments_stay = λ sees. at_start (clock start) (λ disk. Unit {0}) tt };
      leaves = λ sees. record {
        moments = refl;
        ends = tt;
        files = besides_stay (IsTouched (clock start) Untouched) (clock start) (clock start) refl;
        holds = tt;
        damage = ((words_refused P well brings tells clock counts far says words at start said net_faults closed start said.verdict why refl nothing).leaves sees).damage;
        near = λ short. refl;
      };
      keeps = λ sees kept rest here. record {
        moments = at_start (clock start) (KeepsOne says kept rest Untouched) (inl here);
        after = here;
        settles = tt;
      };
      besides = well Untouched tt;
    };
    rest = rests told past;
    none = λ knows. tt;
  }

  pub words_kept : (verdict : Verdict) → RefusesWords words verdict → said ≡ only verdict → RunsEither P brings tells told says words at still still past past (far start) (far start) said
  words_kept verdict why is =
      let same : said.verdict ≡ verdict = ap (λ (s : Said). s.verdict) is in inl (untouched (subst (RefusesWords words) (sym same) why) (is ∙ ap only (sym same)))
