-- What a task leaves that was done on a list that was opened.
use Rattle.std.proofs.Common.{◌≡◌, ℕ, ◌+◌, Bool, true, List, [], ◌∷◌, ◌++◌, length, drop, refl, sym, ◌∙◌, ap, subst, append_assoc, arith}
use Rattle.std.proofs.lemmas.List.{append-nil}
use Rattle.std.proofs.Math.Seq.{drop-append_seam}
use Rattle.dm_types.specs.Faults.{NoneFell}
use Rattle.dm_types.specs.declared.item.Item.{Item}
use Rattle.dm_types.specs.declared.kinds.DiskKind.{DiskKind}
use Rattle.dm_disk_model.specs.Disk.{DiskState, History as Clock, now}
use Rattle.dm_disk_model.specs.Moments.{Throughout}
use Rattle.dm_disk_model.proofs.Reaching.{joined, weaker}
use Rattle.dm_edge.specs.declared.fault.NetFault.{NetFault}
use Rattle.dm_edge.specs.Wire.{Closed}
use Rattle.dm_item.specs.Lawful.{History, IsLawful, IsOf}
use Rattle.dm_item.specs.Listing.{Listing, applied}
use Rattle.dm_item.proofs.Histories.{keeps_step}
use Rattle.dm_kept.specs.Files.{Says}
use Rattle.dm_kept.specs.Kept.{Kept}
use Rattle.dm_kept.specs.Recovery.{Through}
use Rattle.dm_kept.specs.Room.{IsTaken}
use Rattle.dm_kept.proofs.Entered.{items_are}
use Rattle.dm_open.proofs.Opened.{front_more}
use Rattle.dm_report.specs.Said.{Said, only}
use Rattle.dm_report.specs.declared.verdict.Verdict.TheVariants as verdicts
use Rattle.dm_store.specs.Becomes.{MayTry}
use Rattle.dm_store.specs.Keeps.{Goes, HoldsOf, added}
use Rattle.dm_store.specs.View.{spelled}
use Rattle.dm_store.proofs.Composing.{spelled_then}
use Rattle.dm_store.proofs.Saved.{later_then, rose_last}
use Rattle.dm_answers.specs.Opening.{IsNear}
use Rattle.dm_archive.specs.Doing.{Doing, Given}
use Rattle.dm_archive.specs.Stops.{EachStop, ShowsEachOnce}
use Rattle.dm_does.specs.Leaving.{KeepsAll, Leaves, ShowsDamage}
use Rattle.dm_does.specs.Log.{ArePlain, Log, Opened, opened_of, tried_of}
use Rattle.dm_does.specs.Session.{IsSession, log_of}
use Rattle.dm_does.specs.World.{IsLater, World}
use Rattle.dm_does.proofs.Openings.{opening_done, tried_later}
use Rattle.dm_does.proofs.Sessions.{session_ends, session_holds, session_keeps, session_leaves}
use Rattle.dm_does.proofs.Touching.{opening_touches, then_still}
use Rattle.dm_list.specs.Running.{world_of}
use Rattle.dm_past.specs.Answering.{Works, given_by}
use Rattle.dm_past.specs.Coming.{Came, all, fell, lost, stopped}
use Rattle.dm_past.specs.Past.{Past}
use Rattle.dm_past.specs.Running.{TaskRan}
use Rattle.dm_past.specs.Saying.{said_by}
use Rattle.dm_past.specs.Showing.{ShowsOnce}
use Rattle.dm_past.specs.Tasks.{Does, DoingFor, NeverDrops}
use Rattle.dm_past.specs.declared.task.Task.{Task}
use Rattle.dm_past.specs.declared.task.Task.TheVariants as tasks

any_moment : (P : DiskState → Type 0) (start end : Clock) → Throughout start end P → Throughout start end (λ disk. Unit {0})
any_moment P start end through = weaker start end P (λ disk. Unit {0}) (λ disk is. tt) through

-- what a list takes is lawful behind what leaves it
lawful_behind : (history : History) (items : Listing) (failed : History) → IsOf history items → MayTry items failed → IsLawful (history ++ failed)
lawful_behind history items [] is may = subst IsLawful (sym (append-nil history)) is.lawful
lawful_behind history items (entry ∷ more) is may =
    subst IsLawful (append_assoc history (entry ∷ []) more)
    (lawful_behind (history ++ entry ∷ []) (applied entry items) more (keeps_step history entry items (applied entry items) is (record { room = may.0.room; meets = may.0.meets; value = refl })) may.1)

-- how far it came, with earlier faults of the disk counted too
came_since : (told : Type 0) (first counts counts' : DiskKind → ℕ) (past past' : Past) (doing : Doing) (recorded failed : History) (broken : Bool) (said : Said) → NoneFell first counts → Came told counts counts' past past' doing recorded failed broken said
    → Came told first counts' past past' doing recorded failed broken said
came_since told first counts counts' past past' doing recorded failed broken said earlier (all whole none is rows says) = all whole none is rows says
came_since told first counts counts' past past' doing recorded failed broken said earlier (fell kind entry is_broken is cut rose says) =
    fell kind entry is_broken is cut (rose_last (first kind) (counts kind) (counts' kind) (earlier kind) rose) says
came_since told first counts counts' past past' doing recorded failed broken said earlier (lost whole none cut rose says) = lost whole none cut rose says
came_since told first counts counts' past past' doing recorded failed broken said earlier (stopped whole none cut says) = stopped whole none cut says

-- what is said of a list that was opened is no damage
abbrev pub TellsNoDamage : DoingFor → Type 0
TellsNoDamage does = (given : Given) (doing : Doing) → does given doing → (start end : Clock) → ShowsDamage start end doing.verdict

done_shows : (start end : Clock) (doing : Doing) → doing.verdict ≡ verdicts.Done → ShowsDamage start end doing.verdict
done_shows start end doing is = subst (ShowsDamage start end) (sym is) tt

pub task_tells : (told : Type 0) (task : Task) → TellsNoDamage (Does told task)
task_tells told tasks.Archive given doing is start end = done_shows start end doing (ap (λ (d : Doing). d.verdict) is)
task_tells told (tasks.Page after limit) given doing is start end = done_shows start end doing (ap (λ (d : Doing). d.verdict) is.doing_is)

shows_as : (start end : Clock) (said other : Said) → said ≡ other → ShowsDamage start end other.verdict → ShowsDamage start end said.verdict
shows_as start end said other same shows = subst (λ (s : Said). ShowsDamage start end s.verdict) (sym same) shows

no_damage : (start end : Clock) (told : Type 0) (counts counts' : DiskKind → ℕ) (past past' : Past) (doing : Doing) (recorded failed : History) (broken : Bool) (said : Said) → ShowsDamage start end doing.verdict
    → Came told counts counts' past past' doing recorded failed broken said → ShowsDamage start end said.verdict
no_damage start end told counts counts' past past' doing recorded failed broken said done (all whole none is rows says) = shows_as start end said (said_by doing) says done
no_damage start end told counts counts' past past' doing recorded failed broken said done (fell kind entry is_broken is cut rose says) = shows_as start end said (only (verdicts.DiskFailed kind)) says tt
no_damage start end told counts counts' past past' doing recorded failed broken said done (lost whole none cut rose says) = shows_as start end said (only verdicts.HistoryFailed) says tt
no_damage start end told counts counts' past past' doing recorded failed broken said done (stopped whole none cut says) = shows_as start end said (only verdicts.NoMemory) says tt

module _ {D O : Type 0} (tells told : Type 0) (clock : D → Clock) (counts : D → DiskKind → ℕ) (far : D → ℕ) (says : O → Says) (origin : O) (does : DoingFor) (no_damages : TellsNoDamage does) (at : ℕ) (start end : D) (past past' : Past) (said : Said)
    (w : TaskRan tells told clock counts far says origin does at start end past past' said) where
  abbrev found : History
  found = w.is.found

  abbrev pub log : Log
  log = log_of found w.opened w.ended

  of_here : IsOf (found ++ w.opened.list) w.opened.items
  of_here = w.is.items

  more_is : log.more ≡ w.worked.recorded
  more_is = ap (drop (length w.opened.list)) w.worked.becomes.list_is ∙ drop-append_seam w.opened.list w.worked.recorded

  failed_is : log.failed ≡ w.worked.failed
  failed_is = w.worked.becomes.failed_is

  broken_is : log.broken ≡ w.worked.broken
  broken_is = w.worked.becomes.broken_is

  tried_here : log.more ++ log.failed ≡ w.worked.recorded ++ w.worked.failed
  tried_here = ap (λ (h : History). h ++ log.failed) more_is ∙ ap (λ (h : History). w.worked.recorded ++ h) failed_is

  moments : tells → Throughout (clock start) (clock w.ended.disk) (λ disk. Unit {0})
  moments sees = joined (clock start) (clock w.opened.disk) (clock w.ended.disk) (λ disk. Unit {0}) (opens sees) (behind sees)
    where
      opens : tells → Throughout (clock start) (clock w.opened.disk) (λ disk. Unit {0})
      opens sees = any_moment _ (clock start) (clock w.opened.disk) (w.beside sees)

      behind : tells → Throughout (clock w.opened.disk) (clock w.ended.disk) (λ disk. Unit {0})
      behind sees = any_moment _ (clock w.opened.disk) (clock w.ended.disk) (w.goes.files sees)

  session : tells → IsSession clock (says origin) (clock start) found w.opened w.ended
  session sees = record {
    whole = w.is.whole;
    opens = w.is.runs sees;
    holds = w.is.holds sees;
    on = w.on sees;
    done = λ was. opening_done found w.opened.list w.is.tried.settled at w.is.tried.tried_is (w.is.never_breaks sees was);
    goes = λ good before held.
        subst (λ (o : O). Goes good (says o) clock w.opened w.ended before (added w.opened w.ended)) w.origin_is
        (w.goes.keeps sees good before (subst (λ (o : O). HoldsOf good (says o) clock w.opened before) (sym w.origin_is) held));
  }

  near : tells → IsNear (found ++ tried_of log) (far start) (far w.ended.disk)
  near sees short =
      let whole = front_more found (tried_of log) in
      let opening = front_more found w.opened.list in
      let gate = w.is.gate_is in
      let both : spelled (tried_of log) ≡ spelled w.opened.list + spelled (added w.opened w.ended ++ w.ended.failed) = spelled_then w.opened.list (added w.opened w.ended ++ w.ended.failed) in
      w.goes.near (omega (arith, short, whole, gate, both)) ∙ w.is.near sees (omega (arith, short, whole, opening, both))

  lawful : IsLawful (found ++ tried_of log)
  lawful =
      subst IsLawful
      (append_assoc (found ++ w.opened.list) w.worked.recorded w.worked.failed
      ∙ append_assoc found w.opened.list (w.worked.recorded ++ w.worked.failed)
      ∙ ap (λ (h : History). found ++ (w.opened.list ++ h)) (sym tried_here))
      (lawful_behind ((found ++ w.opened.list) ++ w.worked.recorded) w.ended.items w.worked.failed (w.worked.becomes.lawful (found ++ w.opened.list) of_here) w.worked.becomes.may)

  given_is : (let given : Given = record { items = w.opened.items.items; rows = past.rows } in given) ≡ given_by (opened_of log) past.rows
  given_is = ap (λ (items : List Item). (let given : Given = record { items = items; rows = past.rows } in given)) (items_are (found ++ w.opened.list) w.opened.items of_here)

  came : Came told (counts start) (counts w.ended.disk) past past' w.worked.doing log.more log.failed log.broken said
  came =
      subst (λ (b : Bool). Came told (counts start) (counts w.ended.disk) past past' w.worked.doing log.more log.failed b said) (sym broken_is)
      (subst (λ (h : History). Came told (counts start) (counts w.ended.disk) past past' w.worked.doing log.more h w.worked.broken said) (sym failed_is)
      (subst (λ (h : History). Came told (counts start) (counts w.ended.disk) past past' w.worked.doing h w.worked.failed w.worked.broken said) (sym more_is)
      (came_since told (counts start) (counts w.opened.disk) (counts w.ended.disk) past past' w.worked.doing w.worked.recorded w.worked.failed w.worked.broken said w.later w.worked.came)))

  module _ (net_faults : NetFault → ℕ) (closed : List Closed) where
    abbrev before : World
    before = world_of clock counts net_faults closed start

    abbrev after : World
    after = world_of clock counts net_faults closed w.ended.disk

    pub works : Works tells told before after past past' does at log said
    works = record {
      taken = subst (λ (n : ℕ). IsTaken n found) w.limits w.is.taken;
      lawful = lawful;
      opened = tried_later (clock start) (clock w.opened.disk) (clock w.ended.disk) tells at found w.opened.list [] (λ sees. any_moment _ (clock w.opened.disk) (clock w.ended.disk) (w.goes.files sees)) w.is.tried;
      once = subst ArePlain (sym tried_here) w.worked.plain;
      none_closed = refl;
      doing = w.worked.doing;
      is = subst (λ (given : Given). does given w.worked.doing) given_is w.worked.is;
      came = came;
    }

    pub later : IsLater tells before after
    later = record { disk_later = later_then (counts start) (counts w.opened.disk) (counts w.ended.disk) w.later w.goes.later; net_later = λ kind. omega arith; moments_stay = moments }

  pub leaves : tells → Leaves (clock start) (clock w.ended.disk) (far start) (far w.ended.disk) said.verdict (Opened log)
  leaves sees = record {
    moments = session_leaves clock (says origin) (clock start) found w.opened w.ended (session sees);
    ends = session_ends clock (says origin) (clock start) found w.opened w.ended (session sees);
    files = then_still (clock start) (clock w.opened.disk) (clock w.ended.disk) (Opened log) (opening_touches clock start (clock w.opened.disk) (Opened log) (w.beside sees)) (w.goes.files sees);
    holds = session_holds clock (says origin) (clock start) found w.opened w.ended (session sees);
    damage = no_damage (clock start) (clock w.ended.disk) told (counts start) (counts w.ended.disk) past past' w.worked.doing log.more log.failed log.broken said (no_damages _ w.worked.doing w.worked.is (clock start) (clock w.ended.disk)) came;
    near = near sees;
  }

  pub keeps : tells → (kept rest : History) → Kept true (says origin) (Through kept rest) (now (clock start)) → KeepsAll (says origin) (clock start) (clock w.ended.disk) kept rest (Opened log)
  keeps sees kept rest here = session_keeps clock (says origin) (clock start) found w.opened w.ended (session sees) kept rest here

  pub shows : NeverDrops does → tells → told → ShowsOnce (says origin) (clock start) (clock w.ended.disk) past.rows past'.rows log
  shows never sees knows = record {
    opened = clock w.opened.disk;
    moments = any_moment _ (clock start) (clock w.opened.disk) (w.beside sees);
    each = λ good was.
        let held : HoldsOf good (says w.opened.origin) clock w.opened (found ++ w.opened.list) = subst (λ (o : O). HoldsOf good (says o) clock w.opened (found ++ w.opened.list)) (sym w.origin_is) (w.is.holds sees good was) in
        subst (λ (items : List Item). EachStop (ShowsEachOnce good (says origin) items past.rows) (clock w.opened.disk) past.rows (clock w.ended.disk) past'.rows) (items_are (found ++ w.opened.list) w.opened.items of_here)
        (subst (λ (o : O). EachStop (ShowsEachOnce good (says o) w.opened.items.items past.rows) (clock w.opened.disk) past.rows (clock w.ended.disk) past'.rows) w.origin_is
        (w.shows never sees knows good (found ++ w.opened.list) held));
  }
