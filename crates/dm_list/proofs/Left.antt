-- What a job leaves that was done on a list that was opened.
use Rattle.std.specs.Prelude.{Contains}
use Rattle.std.proofs.lemmas.Bool.{false≢true}
use Rattle.std.proofs.lemmas.List.Elements.{Contains-append_cases}
use Rattle.std.proofs.Common.{◌≡◌, ◌⊎◌, inl, inr, ℕ, ◌+◌, Bool, true, false, List, [], ◌∷◌, ◌++◌, Option, Some, None, refl, sym, ◌∙◌, ap, subst, append_assoc, arith}
use Rattle.dm_types.specs.Faults.{NoneFell, NoneRose}
use Rattle.dm_types.specs.Name.{IsPart}
use Rattle.dm_types.specs.declared.entry.Entry.TheVariants as entries
use Rattle.dm_types.specs.declared.item.Item.{Item}
use Rattle.dm_types.specs.declared.item.ItemId.{ItemId}
use Rattle.dm_types.specs.declared.item.Limits.{Limits}
use Rattle.dm_types.specs.declared.item.Phase.{Phase}
use Rattle.dm_types.specs.declared.item.Phase.TheVariants as phases
use Rattle.dm_types.specs.declared.kinds.DiskKind.{DiskKind}
use Rattle.dm_types.specs.declared.reason.Reason.{Reason}
use Rattle.dm_types.specs.declared.reason.Reason.TheVariants as reasons
use Rattle.dm_disk_model.specs.Beside.{Besides}
use Rattle.dm_disk_model.specs.Disk.{DiskState, History as Clock, now}
use Rattle.dm_disk_model.specs.Moments.{Throughout}
use Rattle.dm_disk_model.proofs.Beside.{besides_more, besides_then}
use Rattle.dm_disk_model.proofs.Reaching.{joined, weaker}
use Rattle.dm_edge.specs.declared.fault.NetFault.{NetFault}
use Rattle.dm_edge.specs.Wire.{Closed}
use Rattle.dm_item.specs.Kept.{IsNumbered}
use Rattle.dm_item.specs.Lawful.{History, items_of}
use Rattle.dm_item.specs.Listing.{item_in}
use Rattle.dm_item.proofs.Shorts.{numbered_of}
use Rattle.dm_kept.specs.Files.{Says}
use Rattle.dm_kept.specs.Kept.{Kept, WasKept}
use Rattle.dm_kept.specs.Recovery.{Through}
use Rattle.dm_kept.specs.Room.{IsTaken}
use Rattle.dm_open.proofs.Opened.{front_more}
use Rattle.dm_report.specs.Said.{Said, only}
use Rattle.dm_report.specs.Texts.{item_line_of}
use Rattle.dm_report.specs.declared.verdict.Verdict.TheVariants as verdicts
use Rattle.dm_store.specs.Keeps.{Goes, HoldsOf, added}
use Rattle.dm_store.specs.View.{View, spelled}
use Rattle.dm_store.proofs.Composing.{spelled_then}
use Rattle.dm_answers.specs.Frame.{Went}
use Rattle.dm_answers.specs.Opening.{IsNear}
use Rattle.dm_answers.specs.Reads.{IsSettledName}
use Rattle.dm_attempt.specs.Goes.{DeskGoes}
use Rattle.dm_attempt.proofs.Goes.{goes_then}
use Rattle.dm_brings.specs.Bringing.{brings_of}
use Rattle.dm_bring.specs.Bringing.{MayName, WasBrought}
use Rattle.dm_bring.proofs.Freed.{GiveNone, no_name, none_both}
use Rattle.dm_does.specs.declared.course.Course.{Course}
use Rattle.dm_does.specs.declared.course.Course.TheVariants.{Ends, Brings}
use Rattle.dm_does.specs.declared.job.Job.{Job}
use Rattle.dm_does.specs.Answering.{Bringing, Came, Works, all, broke, fell, given_by, stopped, unsaid}
use Rattle.dm_does.specs.Deciding.{Did}
use Rattle.dm_does.specs.Doing.{Doing, does}
use Rattle.dm_does.specs.Laws.{IsOfList}
use Rattle.dm_does.specs.Leaving.{IsFinished, IsLeftName, IsNamedBy, IsTouched, KeepsAll, Leaves, ShowsDamage}
use Rattle.dm_does.specs.Log.{Log, Opened, opened_of, tried_of}
use Rattle.dm_does.specs.Saying.{said_by, said_in, said_interrupted, said_of}
use Rattle.dm_does.specs.Session.{IsSession, log_of}
use Rattle.dm_does.specs.World.{IsLater, World}
use Rattle.dm_does.proofs.Fitting.{does_fit}
use Rattle.dm_does.proofs.Openings.{opening_done, tried_later}
use Rattle.dm_does.proofs.Sessions.{session_ends, session_holds, session_keeps, session_leaves}
use Rattle.dm_does.proofs.Touching.{free_before, opening_touches, settled_left}
use Rattle.dm_list.specs.Completing.{BringsWell}
use Rattle.dm_list.specs.Running.{JobWorked, world_of}
use Rattle.dm_list.specs.Working.{CallGoes, Worked}
use Rattle.dm_list.proofs.Coming as coming
use Rattle.dm_list.proofs.Coming.{carried, cut, over, wanting}
use Rattle.dm_list.proofs.Going.{goes_one, goes_swept}
use Rattle.dm_list.proofs.Unnamed.{entries_none, opening_none}

any_moment : (P : DiskState → Type 0) (start end : Clock) → Throughout start end P → Throughout start end (λ disk. Unit {0})
any_moment P start end through = weaker start end P (λ disk. Unit {0}) (λ disk is. tt) through

-- What is said of the list, or of an item that was brought, is no damage.

interrupted_whole : (start end : Clock) (reason : Reason) (line : List ℕ) → ShowsDamage start end (said_interrupted reason line).verdict
interrupted_whole start end reasons.NoMemory line = tt
interrupted_whole start end reason line = tt

phase_whole : (start end : Clock) (phase : Phase) (line : List ℕ) → ShowsDamage start end (said_in phase line).verdict
phase_whole start end phases.Complete line = tt
phase_whole start end (phases.Interrupted reason) line = interrupted_whole start end reason line
phase_whole start end phase line = tt

brought_whole : (start end : Clock) (found : Option Item) → ShowsDamage start end (said_of found).verdict
brought_whole start end None = tt
brought_whole start end (Some item) = phase_whole start end item.phase (item_line_of item)

said_whole : (start end : Clock) (items : List Item) (course : Course) → IsOfList course → ShowsDamage start end (said_by items course).verdict
said_whole start end items (Ends (verdicts.Damaged place) show) of_list = absurd of_list
said_whole start end items (Ends verdict show) of_list = tt
said_whole start end items (Brings id slices) of_list = brought_whole start end (item_in id.0 items)

shows_as : (start end : Clock) (said other : Said) → said ≡ other → ShowsDamage start end other.verdict → ShowsDamage start end said.verdict
shows_as start end said other same shows = subst (λ (s : Said). ShowsDamage start end s.verdict) (sym same) shows

never_damaged : (start end : Clock) (brings : Bringing) (tells : Type 0) (at : ℕ) (before after : World) (doing : Doing) (log : Log) (said : Said) → IsOfList doing.course → Came brings tells at before after doing log said → ShowsDamage start end said.verdict
never_damaged start end brings tells at before after doing log said of_list (all whole none_failed went is rests) = shows_as start end said _ is (said_whole start end _ doing.course of_list)
never_damaged start end brings tells at before after doing log said of_list (fell kind entry is_broken failed_is some failed is) = shows_as start end said (only (verdicts.DiskFailed kind)) is tt
never_damaged start end brings tells at before after doing log said of_list (broke kind is_broken went is) = shows_as start end said (only (verdicts.DiskFailed kind)) is tt
never_damaged start end brings tells at before after doing log said of_list (stopped whole none_failed some is) = shows_as start end said (only verdicts.NoMemory) is tt
never_damaged start end brings tells at before after doing log said of_list (unsaid whole none_failed went is) = shows_as start end said (only verdicts.NoMemory) is tt

-- entries of which the first give no name give those that the others give
named_later : (front more : History) (id : ItemId) (name : List ℕ) → GiveNone front → IsNamedBy (front ++ more) id name → IsNamedBy more id name
named_later front more id name none by = either (Contains-append_cases front more (entries.Described id by.key by.address by.total name by.modified) by.is)
  where
    either : Contains front (entries.Described id by.key by.address by.total name by.modified) ⊎ Contains more (entries.Described id by.key by.address by.total name by.modified) → IsNamedBy more id name
    either (inl here) = absurd (no_name front (entries.Described id by.key by.address by.total name by.modified) none here refl)
    either (inr later) = record { key = by.key; address = by.address; total = by.total; modified = by.modified; is = later }

-- an item that was finished behind a longer history, of which the first entries give no name
finished_behind : (start mid : Clock) (first broken : Bool) (found front tried : History) (name : List ℕ) → (broken ≡ false → first ≡ false) → GiveNone front → Besides (IsLeftName start) start mid → IsFinished IsPart mid (found ++ front) tried first name
    → IsFinished (IsLeftName start) start found (front ++ tried) broken name
finished_behind start mid first broken found front tried name whole none beside is = record {
  front = front ++ is.front;
  id = is.id;
  total = is.total;
  back = is.back;
  tried_is = ap (λ (h : History). front ++ h) is.tried_is ∙ sym (append_assoc front is.front (entries.Finishing is.id is.total ∷ is.back));
  item = is.item;
  there = subst (λ (h : History). item_in is.id.0 (items_of h) ≡ Some is.item) (append_assoc found front is.front) is.there;
  named = is.named;
  free = λ unbroken apart by.
      free_before (IsLeftName start) start mid name beside apart (is.free (whole unbroken) (λ (part : IsPart name). apart (inl part)) (named_later front is.front is.id name none by));
}

module _ {D O : Type 0} (tells : Type 0) (clock : D → Clock) (counts : D → DiskKind → ℕ) (far : D → ℕ) (says : O → Says) (net : Type 0) (origin : O) (job : Job) (at : ℕ) (start end : D) (was closed : List Closed) (before after : NetFault → ℕ) (said : Said)
    (w : JobWorked tells clock counts far says net origin job at start end was closed before after said) where
  abbrev found : History
  found = w.is.found

  abbrev pub log : Log
  log = log_of found w.opened w.ended

  abbrev worked : Worked tells clock counts far says net job at w.opened w.ended was closed before after said
  worked = w.worked

  abbrev Spared : List ℕ → Type 0
  Spared = IsTouched (clock start) (Opened log)

  spared_part : (name : List ℕ) → IsPart name → Spared name
  spared_part name part = inl part

  -- All calls behind the opening, one behind another.
  record Chain : Type 0 where
    recorded : History
    failed : History
    broken : Bool
    goes : DeskGoes tells clock says far counts Spared w.opened w.ended recorded failed broken

  chain_of : (recorded failed : History) (broken : Bool) → DeskGoes tells clock says far counts Spared w.opened worked.between recorded failed broken → Chain
  chain_of recorded failed broken goes = record {
    recorded = recorded;
    failed = failed;
    broken = broken;
    goes = goes_swept tells clock counts far says Spared spared_part w.opened worked.between w.ended recorded failed broken goes worked.unfailed worked.went worked.stays worked.behind;
  }

  one : (view : View D O) (recorded failed : History) (broken : Bool) → Went w.opened view recorded failed broken → CallGoes tells clock counts far says w.opened view → DeskGoes tells clock says far counts Spared w.opened view recorded failed broken
  one view recorded failed broken went goes = goes_one tells clock counts far says Spared spared_part w.opened view recorded failed broken went goes

  abbrev doing : Doing
  doing = coming.doing tells clock counts far says net origin job at start end was closed before after said w

  module _ (id : ItemId) (slices : ℕ) (is : doing.course ≡ Brings id slices) (there : Did doing w.opened worked.decided) (b : WasBrought tells clock counts far says net worked.decided worked.between was closed before after id slices at worked.onward) where
    abbrev fetched : History
    fetched = b.brought.fetched

    went_all : Went w.opened worked.between (doing.entries ++ fetched) worked.between.failed worked.between.broken
    went_all = coming.carried_went tells clock counts far says net origin job at start end was closed before after said w id slices there b

    -- all that was tried behind what was found
    tried_all : (w.opened.list ++ doing.entries) ++ (fetched ++ worked.between.failed) ≡ tried_of log
    tried_all =
        append_assoc w.opened.list doing.entries (fetched ++ worked.between.failed)
        ∙ ap (λ (h : History). w.opened.list ++ h)
        (sym (append_assoc doing.entries fetched worked.between.failed)
        ∙ ap (λ (h : History). h ++ worked.between.failed) (sym (coming.more_is tells clock counts far says net origin job at start end was closed before after said w (doing.entries ++ fetched) worked.between.failed worked.between.broken went_all))
        ∙ ap (λ (h : History). log.more ++ h) (sym (coming.failed_here tells clock counts far says net origin job at start end was closed before after said w (doing.entries ++ fetched) worked.between.failed worked.between.broken went_all)))

    -- where the list isn't broken at the end it wasn't behind what was brought
    whole_between : (broken : Bool) → worked.between.broken ≡ broken → log.broken ≡ false → worked.between.broken ≡ false
    whole_between false is unbroken = is
    whole_between true is unbroken = absurd (false≢true (sym unbroken ∙ ap (λ (v : View D O). v.broken) (worked.stays is) ∙ is))

    front_none : GiveNone (w.opened.list ++ doing.entries)
    front_none =
        none_both w.opened.list doing.entries (opening_none tells (clock start) (clock w.opened.disk) at found w.opened.list [] w.is.tried)
        (entries_none w.opened.items doing.entries doing.course (coming.fits tells clock counts far says net origin job at start end was closed before after said w).entries)

    -- up to where the item was brought
    up_to_brought : tells → Besides (IsLeftName (clock start)) (clock start) (clock worked.decided.disk)
    up_to_brought told =
        besides_then (IsLeftName (clock start)) (clock start) (clock w.opened.disk) (clock worked.decided.disk)
        (besides_more (IsSettledName clock start) (IsLeftName (clock start)) (clock start) (clock w.opened.disk) (settled_left clock start) (w.beside told))
        (besides_more IsPart (IsLeftName (clock start)) (clock w.opened.disk) (clock worked.decided.disk) (λ name part. inl part) (worked.own.beside told))

    -- the name of the item that was brought is one that the run touches
    named : tells → (name : List ℕ) → MayName (clock worked.decided.disk) ((found ++ w.opened.list) ++ doing.entries) (fetched ++ worked.between.failed) worked.between.broken name → Spared name
    named told name (inl part) = inl part
    named told name (inr finished) =
        inr (inr (subst (λ (h : History). IsFinished (IsLeftName (clock start)) (clock start) found h log.broken name) tried_all
        (finished_behind (clock start) (clock worked.decided.disk) worked.between.broken log.broken found (w.opened.list ++ doing.entries) (fetched ++ worked.between.failed) name (whole_between worked.between.broken refl) front_none (up_to_brought told)
        (subst (λ (h : History). IsFinished IsPart (clock worked.decided.disk) h (fetched ++ worked.between.failed) worked.between.broken name) (append_assoc found w.opened.list doing.entries) finished))))

    brought_chain : Chain
    brought_chain =
        let own = one worked.decided doing.entries [] false (coming.own_went tells clock counts far says net origin job at start end was closed before after said w worked.decided there) worked.own in
        chain_of (doing.entries ++ fetched) worked.between.failed worked.between.broken
        (goes_then tells clock says far counts Spared w.opened worked.decided worked.between doing.entries fetched worked.between.failed worked.between.broken own b.goes.went
        (record {
          keeps = b.goes.keeps;
          near = b.goes.near;
          later = b.goes.later;
          beside = λ told.
              besides_more (MayName (clock worked.decided.disk) ((found ++ w.opened.list) ++ doing.entries) (fetched ++ worked.between.failed) worked.between.broken) Spared (clock worked.decided.disk) (clock worked.between.disk) (named told)
              (b.goes.beside (coming.carried_waits tells clock counts far says net origin job at start end was closed before after said w id slices is there) told ((found ++ w.opened.list) ++ doing.entries)
              (coming.carried_of tells clock counts far says net origin job at start end was closed before after said w there));
        }))

  chain : Chain
  chain = by (coming.outcome tells clock counts far says net origin job at start end was closed before after said w)
    where
      by : coming.Outcome tells clock counts far says net origin job at start end was closed before after said w → Chain
      by (over verdict show is there on own idle) = chain_of doing.entries [] false (one worked.between doing.entries [] false (coming.over_went tells clock counts far says net origin job at start end was closed before after said w there) own)
      by (carried id slices is there b) = brought_chain id slices is there b
      by (cut kind failed rose on own idle) =
          chain_of failed.recorded (failed.entry ∷ []) true (one worked.between failed.recorded (failed.entry ∷ []) true (coming.cut_went tells clock counts far says net origin job at start end was closed before after said w failed) own)
      by (wanting same on own idle) = chain_of [] [] false (one worked.between [] [] false (coming.wanting_went tells clock counts far says net origin job at start end was closed before after said w same) own)

  disk_later : NoneFell (counts start) (counts w.ended.disk)
  disk_later kind = let a = w.later kind in let b = chain.goes.later kind in omega (arith, a, b)

  behind : tells → Throughout (clock w.opened.disk) (clock w.ended.disk) (λ disk. Unit {0})
  behind told = any_moment _ (clock w.opened.disk) (clock w.ended.disk) (chain.goes.beside told)

  moments : tells → Throughout (clock start) (clock w.ended.disk) (λ disk. Unit {0})
  moments told = joined (clock start) (clock w.opened.disk) (clock w.ended.disk) (λ disk. Unit {0}) (any_moment _ (clock start) (clock w.opened.disk) (w.beside told)) (behind told)

  session : tells → IsSession clock (says origin) (clock start) found w.opened w.ended
  session told = record {
    whole = w.is.whole;
    opens = w.is.runs told;
    holds = w.is.holds told;
    on = w.on told;
    done = λ was_kept. opening_done found w.opened.list w.is.tried.settled at w.is.tried.tried_is (w.is.never_breaks told was_kept);
    goes = λ good earlier held.
        subst (λ (o : O). Goes good (says o) clock w.opened w.ended earlier (added w.opened w.ended)) w.origin_is
        (chain.goes.keeps told good earlier (subst (λ (o : O). HoldsOf good (says o) clock w.opened earlier) (sym w.origin_is) held));
  }

  near : tells → IsNear (found ++ tried_of log) (far start) (far w.ended.disk)
  near told short =
      let whole = front_more found (tried_of log) in
      let opening = front_more found w.opened.list in
      let gate = w.is.gate_is in
      let both : spelled (tried_of log) ≡ spelled w.opened.list + spelled (added w.opened w.ended ++ w.ended.failed) = spelled_then w.opened.list (added w.opened w.ended ++ w.ended.failed) in
      chain.goes.near (omega (arith, short, whole, gate, both)) ∙ w.is.near told (omega (arith, short, whole, opening, both))

  files : tells → Besides (IsTouched (clock start) (Opened log)) (clock start) (clock w.ended.disk)
  files told =
      besides_then (IsTouched (clock start) (Opened log)) (clock start) (clock w.opened.disk) (clock w.ended.disk) (opening_touches clock start (clock w.opened.disk) (Opened log) (w.beside told)) (chain.goes.beside told)

  abbrev first : World
  first = world_of clock counts before was start

  abbrev last : World
  last = world_of clock counts after closed w.ended.disk

  came : Came (brings_of tells clock says far counts net at) tells at first last (does job (given_by (opened_of log) at)) log said
  came = coming.came tells clock counts far says net origin job at start end was closed before after said w

  pub works : Works (brings_of tells clock says far counts net) tells first last job at log said
  works = record {
    taken = subst (λ (n : ℕ). IsTaken n found) (ap (λ (l : Limits). l.items) w.limits) w.is.taken;
    lawful = coming.lawful tells clock counts far says net origin job at start end was closed before after said w;
    opened = tried_later (clock start) (clock w.opened.disk) (clock w.ended.disk) tells at found w.opened.list [] behind w.is.tried;
    once = coming.plain tells clock counts far says net origin job at start end was closed before after said w;
    came = came;
    swept = coming.swept_here tells clock counts far says net origin job at start end was closed before after said w;
  }

  pub later : IsLater tells first last
  later = record { disk_later = disk_later; net_later = worked.net_later; moments_stay = moments }

  pub leaves : tells → Leaves (clock start) (clock w.ended.disk) (far start) (far w.ended.disk) said.verdict (Opened log)
  leaves told = record {
    moments = session_leaves clock (says origin) (clock start) found w.opened w.ended (session told);
    ends = session_ends clock (says origin) (clock start) found w.opened w.ended (session told);
    files = files told;
    holds = session_holds clock (says origin) (clock start) found w.opened w.ended (session told);
    damage = never_damaged (clock start) (clock w.ended.disk) (brings_of tells clock says far counts net at) tells at first last (does job (given_by (opened_of log) at)) log said (does_fit job (given_by (opened_of log) at) numbered).course came;
    near = near told;
  }
    where
      numbered : IsNumbered 1 (given_by (opened_of log) at).list.items (given_by (opened_of log) at).list.next
      numbered = numbered_of (found ++ w.opened.list) (given_by (opened_of log) at).list (record { lawful = w.is.items.lawful; value = refl })

  pub keeps : tells → (kept rest : History) → Kept true (says origin) (Through kept rest) (now (clock start)) → KeepsAll (says origin) (clock start) (clock w.ended.disk) kept rest (Opened log)
  keeps told kept rest here = session_keeps clock (says origin) (clock start) found w.opened w.ended (session told) kept rest here

  pub completes : tells → WasKept true (says origin) (now (clock start)) → NoneRose (counts start) (counts w.ended.disk) → (id : ItemId) (slices : ℕ) → (does job (given_by (opened_of log) at)).course ≡ Brings id slices
      → BringsWell tells clock says far counts net (clock start) (clock w.ended.disk) was closed before after log (does job (given_by (opened_of log) at)).entries id at said ⊎ (said ≡ only verdicts.NoMemory)
  completes told was_kept none = coming.completes tells clock counts far says net origin job at start end was closed before after said w told was_kept none
