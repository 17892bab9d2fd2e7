-- What a session leaves whose list was opened.
use Rattle.std.proofs.Common.{◌≡◌, inl, ℕ, ◌+◌, Bool, true, false, [], ◌∷◌, ◌++◌, drop, length, Ok, Err, refl, sym, ◌∙◌, ap, subst, append_assoc, arith}
use Rattle.std.proofs.lemmas.Bool.{true≢false}
use Rattle.std.proofs.lemmas.List.{append-nil}
use Rattle.std.proofs.Math.Seq.{drop-append_seam}
use Rattle.dm_types.specs.Faults.{NoneFell}
use Rattle.dm_types.specs.Limits.{most_items}
use Rattle.dm_types.specs.Name.{IsPart}
use Rattle.dm_types.specs.declared.entry.Entry.{Entry}
use Rattle.dm_types.specs.declared.kinds.DiskKind.{DiskKind}
use Rattle.dm_disk_model.specs.Beside.{Besides}
use Rattle.dm_disk_model.specs.Disk.{DiskState, History as Clock}
use Rattle.dm_disk_model.specs.Moments.{Throughout}
use Rattle.dm_disk_model.proofs.Beside.{besides_more, besides_then}
use Rattle.dm_disk_model.proofs.Reaching.{joined, weaker}
use Rattle.dm_item.specs.Lawful.{History, IsLawful, IsOf}
use Rattle.dm_item.specs.Listing.{applied}
use Rattle.dm_item.proofs.Histories.{keeps_step}
use Rattle.dm_kept.specs.Files.{Says}
use Rattle.dm_kept.specs.Room.{IsTaken}
use Rattle.dm_open.specs.Refused.{RunsOn}
use Rattle.dm_open.proofs.Opened.{front_more}
use Rattle.dm_report.specs.Said.{Said}
use Rattle.dm_store.specs.Becomes.{Becomes, Recorded}
use Rattle.dm_store.specs.Keeps.{Goes, HoldsOf, Keeps, added}
use Rattle.dm_store.specs.View.{View, spelled}
use Rattle.dm_store.proofs.Composing.{spelled_then}
use Rattle.dm_answers.specs.Opening.{IsNear, IsOpened}
use Rattle.dm_answers.specs.Reads.{IsSettledName}
use Rattle.dm_answers.specs.Shut.{ShutAnswers}
use Rattle.dm_answers.specs.declared.fault.DeskFault.{DeskFault}
use Rattle.dm_answers.specs.declared.fault.DeskFault.TheVariants as faults
use Rattle.dm_does.specs.Leaving.{IsTouched, Leaves, ShowsDamage}
use Rattle.dm_does.specs.Log.{ArePlain, Log, Opened, tried_of}
use Rattle.dm_does.specs.Session.{IsSession, log_of}
use Rattle.dm_does.specs.World.{IsLater, World}
use Rattle.dm_does.proofs.Openings.{opening_done, tried_later}
use Rattle.dm_does.proofs.Sessions.{session_ends, session_holds, session_keeps, session_leaves}
use Rattle.dm_does.proofs.Touching.{opening_touches}
use Rattle.dm_past.specs.Past.{Past}
use Rattle.dm_works.specs.Moving.{Moved, Steps, fell, recorded, same}
use Rattle.dm_works.specs.Serving.{both}
use Rattle.dm_session.specs.Explaining.{ServeRuns, world_of}
use Rattle.dm_session.specs.Looping.{ClosesSo, ShutsSo}
use Rattle.dm_session.specs.Serving.{AnswersAt, Line, by_broken, said_at_end}
use Rattle.dm_session.specs.declared.turning.Closed.{Closed}
use Rattle.dm_session.specs.declared.turning.Closed.TheVariants as closes

none_fell : (first middle last : DiskKind → ℕ) → NoneFell first middle → NoneFell middle last → NoneFell first last
none_fell first middle last one two kind = let a = one kind in let b = two kind in omega (arith, a, b)

any_moment : (P : DiskState → Type 0) (start end : Clock) → Throughout start end P → Throughout start end (λ disk. Unit {0})
any_moment P start end through = weaker start end P (λ disk. Unit {0}) (λ disk is. tt) through

-- what is told at the end is no damage
no_damage : (start end : Clock) (broken : Bool) → ShowsDamage start end (by_broken broken).verdict
no_damage start end true = tt
no_damage start end false = tt

never_damaged : (start end : Clock) (closed : Closed) (broken : Bool) → ShowsDamage start end (said_at_end closed broken).verdict
never_damaged start end closes.AcceptFailed broken = tt
never_damaged start end closes.Full broken = no_damage start end broken
never_damaged start end closes.Stopped broken = no_damage start end broken

-- Behind the opening these entries were recorded, and this one failed, where one did.
record Made {D O : Type 0} (found : History) (opened ended : View D O) (made_of failed : History) : Type 0 where
  list : ended.list ≡ opened.list ++ made_of
  failed_is : ended.failed ≡ failed
  lawful : IsLawful (((found ++ opened.list) ++ made_of) ++ failed)
  plain : ArePlain (made_of ++ failed)

module _ {D O : Type 0} (found : History) (opened ended : View D O) (of : IsOf (found ++ opened.list) opened.items) (none_failed : opened.failed ≡ []) where
  abbrev log : Log
  log = log_of found opened ended

  module _ (made_of failed : History) (m : Made found opened ended made_of failed) where
    more_is : log.more ≡ made_of
    more_is = ap (drop (length opened.list)) m.list ∙ drop-append_seam opened.list made_of

    tried_is : found ++ tried_of log ≡ ((found ++ opened.list) ++ made_of) ++ failed
    tried_is =
        ap (λ (h : History). found ++ (opened.list ++ (h ++ log.failed))) more_is
        ∙ ap (λ (h : History). found ++ (opened.list ++ (made_of ++ h))) m.failed_is
        ∙ sym (append_assoc found opened.list (made_of ++ failed))
        ∙ sym (append_assoc (found ++ opened.list) made_of failed)

    lawful_by : IsLawful (found ++ tried_of log)
    lawful_by = subst IsLawful (sym tried_is) m.lawful

    plain_by : ArePlain (log.more ++ log.failed)
    plain_by = subst ArePlain (sym (ap (λ (h : History). h ++ log.failed) more_is ∙ ap (λ (h : History). made_of ++ h) m.failed_is)) m.plain

  made_none : ended ≡ opened → Made found opened ended [] []
  made_none is = record {
    list = ap (λ (v : View D O). v.list) is ∙ sym (append-nil opened.list);
    failed_is = ap (λ (v : View D O). v.failed) is ∙ none_failed;
    lawful = subst IsLawful (sym (append-nil ((found ++ opened.list) ++ []) ∙ append-nil (found ++ opened.list))) of.lawful;
    plain = tt;
  }

  made_all : (entries : History) → ArePlain entries → Recorded opened ended entries → Made found opened ended entries []
  made_all entries plain becomes = record {
    list = becomes.list_is;
    failed_is = becomes.failed_is;
    lawful = subst IsLawful (sym (append-nil ((found ++ opened.list) ++ entries))) (becomes.lawful (found ++ opened.list) of).lawful;
    plain = subst ArePlain (sym (append-nil entries)) plain;
  }

  made_fell : (entries : History) (entry : Entry) → ArePlain (entries ++ entry ∷ []) → Becomes opened ended entries (entry ∷ []) true → Made found opened ended entries (entry ∷ [])
  made_fell entries entry plain becomes = record {
    list = becomes.list_is;
    failed_is = becomes.failed_is;
    lawful = (keeps_step ((found ++ opened.list) ++ entries) entry ended.items (applied entry ended.items) (becomes.lawful (found ++ opened.list) of) (record { room = becomes.may.0.room; meets = becomes.may.0.meets; value = refl })).lawful;
    plain = plain;
  }

  pub all_lawful : Moved opened ended → IsLawful (found ++ tried_of log)
  all_lawful (same is) = lawful_by [] [] (made_none is)
  all_lawful (recorded entries plain becomes) = lawful_by entries [] (made_all entries plain becomes)
  all_lawful (fell entries entry plain becomes) = lawful_by entries (entry ∷ []) (made_fell entries entry plain becomes)

  pub all_plain : Moved opened ended → ArePlain (log.more ++ log.failed)
  all_plain (same is) = plain_by [] [] (made_none is)
  all_plain (recorded entries plain becomes) = plain_by entries [] (made_all entries plain becomes)
  all_plain (fell entries entry plain becomes) = plain_by entries (entry ∷ []) (made_fell entries entry plain becomes)

-- a list that broke behind its opening had an entry that failed
pub fell_by : {D O : Type 0} (opened ended : View D O) → opened.broken ≡ false → Moved opened ended → ended.broken ≡ true → (entry : Entry) × (ended.failed ≡ entry ∷ [])
fell_by opened ended whole (same is) broken = absurd (true≢false (sym broken ∙ ap (λ (v : View _ _). v.broken) is ∙ whole))
fell_by opened ended whole (recorded entries plain becomes) broken = absurd (true≢false (sym broken ∙ becomes.broken_is))
fell_by opened ended whole (fell entries entry plain becomes) broken = (entry, becomes.failed_is)

module _ {D O : Type 0} (tells : Type 0) (clock : D → Clock) (counts : D → DiskKind → ℕ) (far : D → ℕ) (says : O → Says) (origin : O) (at : ℕ) (start : D) (opened left ended : View D O) (origin_is : opened.origin ≡ origin) (limits : opened.limits.items ≡ most_items) (list_limit : opened.items.limit ≡ most_items)
    (is : IsOpened tells clock far (says origin) start at opened) (beside : tells → Besides (IsSettledName clock start) (clock start) (clock opened.disk)) (on : tells → RunsOn (says origin) (clock start) (clock opened.disk) is.found opened.list)
    (opening_later : NoneFell (counts start) (counts opened.disk)) (steps : Steps tells clock counts far says opened ended) (shut_keeps : Keeps tells clock says left ended) where
  abbrev found : History
  found = is.found

  abbrev here : Log
  here = log_of found opened ended

  abbrev before : World
  before = world_of clock counts start

  abbrev after : World
  after = world_of clock counts ended.disk

  behind : tells → Throughout (clock opened.disk) (clock ended.disk) (λ disk. Unit {0})
  behind told = any_moment _ (clock opened.disk) (clock ended.disk) (steps.beside told)

  session : tells → IsSession clock (says origin) (clock start) found opened ended
  session told = record {
    whole = is.whole;
    opens = is.runs told;
    holds = is.holds told;
    on = on told;
    done = λ was. opening_done found opened.list is.tried.settled at is.tried.tried_is (is.never_breaks told was);
    goes = λ good history held.
        subst (λ (o : O). Goes good (says o) clock opened ended history (added opened ended)) origin_is
        (steps.keeps told good history (subst (λ (o : O). HoldsOf good (says o) clock opened history) (sym origin_is) held));
  }

  near : tells → IsNear (found ++ tried_of here) (far start) (far ended.disk)
  near told short =
      let whole = front_more found (tried_of here) in
      let opening = front_more found opened.list in
      let gate = is.gate_is in
      let both : spelled (tried_of here) ≡ spelled opened.list + spelled (added opened ended ++ ended.failed) = spelled_then opened.list (added opened ended ++ ended.failed) in
      steps.near (omega (arith, short, whole, gate, both)) ∙ is.near told (omega (arith, short, whole, opening, both))

  files : tells → Besides (IsTouched (clock start) (Opened here)) (clock start) (clock ended.disk)
  files told =
      besides_then (IsTouched (clock start) (Opened here)) (clock start) (clock opened.disk) (clock ended.disk)
      (opening_touches clock start (clock opened.disk) (Opened here) (beside told))
      (besides_more IsPart (IsTouched (clock start) (Opened here)) (clock opened.disk) (clock ended.disk) (λ name part. inl part) (steps.beside told))

  later : IsLater tells before after
  later = record {
    disk_later = none_fell (counts start) (counts opened.disk) (counts ended.disk) opening_later steps.later;
    net_later = λ kind. omega arith;
    moments_stay = λ told. joined (clock start) (clock opened.disk) (clock ended.disk) (λ disk. Unit {0}) (any_moment _ (clock start) (clock opened.disk) (beside told)) (behind told);
  }

  leaves : (closed : Closed) → tells → Leaves (clock start) (clock ended.disk) (far start) (far ended.disk) (said_at_end closed ended.broken).verdict (Opened here)
  leaves closed told = record {
    moments = session_leaves clock (says origin) (clock start) found opened ended (session told);
    ends = session_ends clock (says origin) (clock start) found opened ended (session told);
    files = files told;
    holds = session_holds clock (says origin) (clock start) found opened ended (session told);
    damage = never_damaged (clock start) (clock ended.disk) closed ended.broken;
    near = near told;
  }

  pub opened_runs : (conns_tell knows : Type 0) (moment : ℕ → Type 0) (accepts accept_failed : Type 0) (past past' : Past) (line line' : Line) (requests : ℕ) (closed : Closed) → ClosesSo conns_tell (AnswersAt moment tells knows clock counts says) (both opened past) (both left past') line.over line'.over line.count line'.count accepts accept_failed requests closed → ShutsSo left ended
      → ServeRuns (record { disk = tells; conns = conns_tell; past = knows; moment = moment; accepts = accepts; accept_failed = accept_failed }) clock counts says origin at before after past past' (far start) (far ended.disk) line line' requests (said_at_end closed ended.broken)
  opened_runs conns_tell knows moment accepts accept_failed past past' line line' requests closed closes shuts = record {
    run = Opened here;
    serves = record {
      taken = subst (λ (n : ℕ). IsTaken n found) limits is.taken;
      lawful = all_lawful found opened ended is.items is.none_failed steps.moved;
      tried = tried_later (clock start) (clock opened.disk) (clock ended.disk) tells at found opened.list [] behind is.tried;
      once = all_plain found opened ended is.items is.none_failed steps.moved;
      opened = opened;
      left = left;
      ended = ended;
      origin_is = origin_is;
      opened_is = is.items;
      limit = list_limit;
      log_is = refl;
      fell = fell_by opened ended is.whole steps.moved;
      stood = λ told. any_moment _ (clock start) (clock opened.disk) (beside told);
      holds = is.holds;
      turns = closes.turns;
      served = closes.served;
      closed = closed;
      ends = closes.ends;
      shut = shuts.answer;
      shuts = shuts.answers;
      shut_keeps = shut_keeps;
      end_is = refl;
      said_is = refl;
    };
    later = later;
    leaves = leaves closed;
    keeps = λ told kept rest kept_here. session_keeps clock (says origin) (clock start) found opened ended (session told) kept rest kept_here;
  }

  -- with the disk that is handed back, and how it is told
  pub ends_so : (conns_tell knows : Type 0) (moment : ℕ → Type 0) (accepts accept_failed : Type 0) (past past' : Past) (line line' : Line) (requests : ℕ) (closed : Closed) → ClosesSo conns_tell (AnswersAt moment tells knows clock counts says) (both opened past) (both left past') line.over line'.over line.count line'.count accepts accept_failed requests closed → ShutsSo left ended
      → (end : D) → end ≡ ended.disk → (said : Said) → said ≡ said_at_end closed ended.broken
      → ServeRuns (record { disk = tells; conns = conns_tell; past = knows; moment = moment; accepts = accepts; accept_failed = accept_failed }) clock counts says origin at before (world_of clock counts end) past past' (far start) (far end) line line' requests said
  ends_so conns_tell knows moment accepts accept_failed past past' line line' requests closed closes shuts end end_is said said_is =
      subst (λ (d : D). ServeRuns (record { disk = tells; conns = conns_tell; past = knows; moment = moment; accepts = accepts; accept_failed = accept_failed }) clock counts says origin at before (world_of clock counts d) past past' (far start) (far d) line line' requests said) (sym end_is)
      (subst (λ (c : Said). ServeRuns (record { disk = tells; conns = conns_tell; past = knows; moment = moment; accepts = accepts; accept_failed = accept_failed }) clock counts says origin at before after past past' (far start) (far ended.disk) line line' requests c) (sym said_is)
      (opened_runs conns_tell knows moment accepts accept_failed past past' line line' requests closed closes shuts))

-- whether the list is broken behind the interruptions
pub shut_ok : {D O : Type 0} (old new : View D O) (done : Unit {0}) → ShutAnswers old new (Ok done) → new.broken ≡ false
shut_ok old new done answers = answers.broken_is

pub shut_err : {D O : Type 0} (old new : View D O) (fault : DeskFault) → ShutAnswers old new (Err fault) → new.broken ≡ true
shut_err old new faults.Broken answers = ap (λ (v : View _ _). v.broken) answers.same ∙ answers.broken
shut_err old new (faults.Journal kind) answers = answers.becomes.broken_is
shut_err old new fault answers = absurd answers
