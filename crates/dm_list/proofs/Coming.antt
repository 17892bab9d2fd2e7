-- A job that was done on a list that was opened is what a run of it says.
use Rattle.std.proofs.Common.{◌≡◌, ◌⊎◌, inl, inr, ℕ, Bool, true, false, List, [], ◌∷◌, ◌++◌, length, drop, reverse, refl, sym, ◌∙◌, ap, subst, append_assoc, Option, Some, None, arith}
use Rattle.std.proofs.lemmas.List.{append-nil}
use Rattle.std.proofs.Math.Seq.{drop-append_seam}
use Rattle.dm_types.specs.Faults.{NoneFell, NoneRose, Rose}
use Rattle.dm_types.specs.declared.kinds.By.TheVariants.{User}
use Rattle.dm_types.specs.Limits.{most_items}
use Rattle.dm_types.specs.declared.entry.Entry.{Entry}
use Rattle.dm_types.specs.declared.entry.Entry.TheVariants as entries
use Rattle.dm_types.specs.declared.item.Item.{Item}
use Rattle.dm_types.specs.declared.item.ItemId.{ItemId}
use Rattle.dm_types.specs.declared.kinds.DiskKind.{DiskKind}
use Rattle.dm_disk_model.specs.Disk.{DiskState, History as Clock, now}
use Rattle.dm_edge.specs.declared.fault.NetFault.{NetFault}
use Rattle.dm_edge.specs.Wire.{Closed}
use Rattle.dm_item.specs.Lawful.{History, IsOf, items_of, left_by, IsLawful}
use Rattle.dm_item.specs.Listing.{Listing, applied}
use Rattle.dm_item.proofs.Shorts.{numbered_of}
use Rattle.dm_kept.specs.Files.{Says}
use Rattle.dm_kept.specs.Kept.{WasKept}
use Rattle.dm_report.specs.Said.{Said, EndsAs, only}
use Rattle.dm_report.specs.declared.verdict.Verdict.{Verdict}
use Rattle.dm_report.specs.declared.verdict.Verdict.TheVariants as verdicts
use Rattle.dm_store.specs.Becomes.{Fell, run_of, MayTry}
use Rattle.dm_store.specs.Keeps.{HoldsOf, added}
use Rattle.dm_store.specs.View.{View}
use Rattle.dm_answers.specs.Frame.{Went}
use Rattle.dm_answers.proofs.Steps.{becomes_went, went_then}
use Rattle.dm_bring.specs.Bringing.{BringsOn, WasBrought}
use Rattle.dm_does.specs.declared.course.Course.{Course}
use Rattle.dm_does.specs.declared.course.Course.TheVariants.{Ends, Brings}
use Rattle.dm_does.specs.declared.course.Show.{Show}
use Rattle.dm_does.specs.declared.course.Show.TheVariants.{Nothing}
use Rattle.dm_does.specs.declared.job.Job.{Job}
use Rattle.dm_does.specs.Answering.{given_by, Bringing, Came, Follows, IsBrought, Rests, WentOn, all, broke, fell, stopped, unsaid}
use Rattle.dm_does.specs.Deciding.{Decides, Did, ShowsFault}
use Rattle.dm_does.specs.Deciding as deciding
use Rattle.dm_does.specs.Doing.{Doing, Given, does}
use Rattle.dm_does.specs.Laws.{Fits, NoneRuns, Waits, WaitsBy}
use Rattle.dm_does.specs.Log.{Log, kept_of, tried_of, ArePlain}
use Rattle.dm_does.specs.Session.{log_of}
use Rattle.dm_does.proofs.Decisions.{given_of}
use Rattle.dm_does.proofs.Fitting.{does_fit}
use Rattle.dm_does.proofs.Waiting.{does_wait}
use Rattle.dm_list.specs.Completing.{BringsWell, IsFavoured}
use Rattle.dm_list.specs.Running.{JobWorked, world_of}
use Rattle.dm_list.specs.Working.{CallGoes, Worked, SaysFailure}
use Rattle.dm_list.proofs.Going.{did_went, went_none}
use Rattle.dm_list.proofs.Quiet.{none_runs}
use Rattle.std.specs.Prelude.{IfSome, IsTrue, is_some}
use Rattle.dm_disk_model.specs.Moments.{Throughout}
use Rattle.dm_disk_model.proofs.Reaching.{joined, weaker}
use Rattle.dm_item.proofs.Histories.{keeps_step}
use Rattle.dm_store.proofs.Saved.{rose_first, rose_last}
use Rattle.dm_answers.specs.declared.fault.DeskFault.TheVariants as faults
use Rattle.dm_attempt.specs.Ending.{journal_kind_of}
use Rattle.dm_attempt.specs.declared.ended.Ended.{Ended}
use Rattle.dm_attempt.specs.declared.ended.Ended.TheVariants as ended_as
use Rattle.dm_brings.specs.Bringing.{brings_of, course_behind, program_limits}
use Rattle.dm_brings.specs.Completed.{EndsWell}
use Rattle.dm_brings.specs.Completed as completed
use Rattle.dm_fetch.specs.Completes.{IsSmooth}
use Rattle.dm_does.specs.Saying.{said_by}
use Rattle.dm_does.specs.Sweeping.{Sweeps, sweeps}
use Rattle.dm_does.specs.World.{Failed, IsLater, NoneClosed, World}
use Rattle.dm_does.proofs.Sweeping.{rose_wider, sweep_came}
use Rattle.dm_does.proofs.Plain.{plain_attempts, plain_both, plain_entries, plain_front}

-- an entry leaves the limit of items
applied_limit : (e : Entry) (v : Listing) → (applied e v).limit ≡ v.limit
applied_limit (entries.Added id word address wish digest at) v = refl
applied_limit (entries.Reopened next at) v = refl
applied_limit (entries.Restored item) v = refl
applied_limit e v = refl

run_limit : (more : History) (v : Listing) → (run_of more v).limit ≡ v.limit
run_limit [] v = refl
run_limit (e ∷ more) v = run_limit more (applied e v) ∙ applied_limit e v

added_is : {D O : Type 0} (old new : View D O) (more : History) → new.list ≡ old.list ++ more → added old new ≡ more
added_is old new more is = ap (drop (length old.list)) is ∙ drop-append_seam old.list more

-- the course brings an item, and which
abbrev IsBringing : Course → Type 0
IsBringing (Ends verdict show) = ⊥
IsBringing (Brings id slices) = Unit {0}

abbrev id_in : ItemId → Course → ItemId
id_in other (Ends verdict show) = other
id_in other (Brings id slices) = id

-- nothing of the desk changed but the disk
record IsStill {D O : Type 0} (old new : View D O) : Type 0 where
  list : new.list ≡ old.list
  failed : new.failed ≡ old.failed
  broken : new.broken ≡ old.broken

-- the net wasn't used
abbrev pub IsIdle : List Closed → List Closed → (NetFault → ℕ) → (NetFault → ℕ) → Type 0
IsIdle was closed before after = (closed ≡ was) × (after ≡ before)

-- what the list takes is lawful
lawful_tries : (failed h : History) (items : Listing) → IsOf h items → MayTry items failed → IsLawful (h ++ failed)
lawful_tries [] h items of may = subst IsLawful (sym (append-nil h)) of.lawful
lawful_tries (entry ∷ failed) h items of may =
    subst IsLawful (append_assoc h (entry ∷ []) failed)
    (lawful_tries failed (h ++ entry ∷ []) (applied entry items) (keeps_step h entry items (applied entry items) of (record { room = may.0.room; meets = may.0.meets; value = refl })) may.1)

-- what came before and behind
later_then : (tells : Type 0) (first middle last : World) → IsLater tells first middle → IsLater tells middle last → IsLater tells first last
later_then tells first middle last one two = record {
  disk_later = λ kind. let a = one.disk_later kind in let b = two.disk_later kind in omega (arith, a, b);
  net_later = λ kind. let a = one.net_later kind in let b = two.net_later kind in omega (arith, a, b);
  moments_stay = λ told. joined first.disk middle.disk last.disk (λ (disk : DiskState). Unit {0}) (one.moments_stay told) (two.moments_stay told);
}

brought_wider : (brings : Bringing) (tells : Type 0) (at : ℕ) (before from to after : World) (id : ItemId) (slices : ℕ) (history fetched failed : History) (kind : Option DiskKind) → IsLater tells before from → NoneClosed before from → IsLater tells to after
    → NoneClosed to after → IsBrought brings tells at from to id slices history fetched failed kind → IsBrought brings tells at before after id slices history fetched failed kind
brought_wider brings tells at before from to after id slices history fetched failed kind first none_first last none_last b = record {
  from = b.from;
  to = b.to;
  first = later_then tells before from b.from first b.first;
  last = later_then tells b.to to after b.last last;
  none_first = b.none_first ∙ none_first;
  none_last = none_last ∙ b.none_last;
  is = b.is;
  only = b.only;
  counted = b.counted;
}

module _ {D O : Type 0} (tells : Type 0) (clock : D → Clock) (counts : D → DiskKind → ℕ) (far : D → ℕ) (says : O → Says) (net : Type 0) (origin : O) (job : Job) (at : ℕ) (start end : D) (was closed : List Closed) (before after : NetFault → ℕ) (said : Said)
    (w : JobWorked tells clock counts far says net origin job at start end was closed before after said) where
  abbrev pub found : History
  found = w.is.found

  abbrev pub opened : View D O
  opened = w.opened

  abbrev pub ended : View D O
  ended = w.ended

  abbrev pub log : Log
  log = log_of found opened ended

  abbrev pub doing : Doing
  doing = does job (given_of opened at)

  abbrev worked : Worked tells clock counts far says net job at opened ended was closed before after said
  worked = w.worked

  abbrev pub decided : View D O
  decided = worked.decided

  abbrev pub between : View D O
  between = worked.between

  abbrev pub onward : Course
  onward = worked.onward

  abbrev pub of : IsOf (found ++ opened.list) opened.items
  of = w.is.items

  -- the list that was opened is the one that its history leaves
  pub given_is : given_of opened at ≡ given_by (found ++ opened.list) at
  given_is =
      ap (λ (v : Listing). (let given : Given = record { list = v; at = at } in given)) (of.value ∙ ap (λ (n : ℕ). left_by n (reverse (found ++ opened.list))) w.limit)

  pub fits : Fits opened.items doing
  fits = does_fit job (given_of opened at) (numbered_of (found ++ opened.list) opened.items of)

  none_run : NoneRuns opened.items.items
  none_run = none_runs tells (clock start) (clock opened.disk) at found opened.list [] opened.items w.is.tried of

  pub own_went : (view : View D O) → Did doing opened view → Went opened view doing.entries [] false
  own_went view there = did_went doing opened view w.is.whole w.is.none_failed there

  -- All of its own part was done, or then an item was brought; or one of its own entries failed; or memory was wanting.
  pub data Outcome : Type 0 where
    over : (verdict : Verdict) (show : Show) → doing.course ≡ Ends verdict show → Did doing opened between → onward ≡ doing.course → CallGoes tells clock counts far says opened between → IsIdle was closed before after → Outcome
    carried : (id : ItemId) (slices : ℕ) → doing.course ≡ Brings id slices → Did doing opened decided → WasBrought tells clock counts far says net decided between was closed before after id slices at onward → Outcome
    cut : (kind : DiskKind) → Fell opened between doing.entries → Rose (counts opened.disk kind) (counts between.disk kind) → onward ≡ Ends (verdicts.DiskFailed kind) Nothing → CallGoes tells clock counts far says opened between
        → IsIdle was closed before after → Outcome
    wanting : between ≡ opened → onward ≡ Ends verdicts.NoMemory Nothing → CallGoes tells clock counts far says opened between → IsIdle was closed before after → Outcome

  abbrev On : Course → Type 0
  On course = BringsOn tells clock counts far says net decided between was closed before after at course onward

  own_to : between ≡ decided → CallGoes tells clock counts far says opened between
  own_to same = subst (λ (v : View D O). CallGoes tells clock counts far says opened v) (sym same) worked.own

  by_course : (course : Course) → doing.course ≡ course → Did doing opened decided → On course → Outcome
  by_course (Ends verdict show) is there (none, on) = over verdict show is (subst (λ (v : View D O). Did doing opened v) (sym none.same) there) (on ∙ sym is) (own_to none.same) (none.closed, none.faults)
  by_course (Brings id slices) is there brought = carried id slices is there brought

  by_decision : (course : Course) → Decides doing opened decided course → ShowsFault (counts opened.disk) (counts decided.disk) course → On course → Outcome
  by_decision course (deciding.did there is) shows on = by_course doing.course refl there (subst On is on)
  by_decision course (deciding.fell kind failed is) shows on =
      let none = subst On is on in
      cut kind (subst (λ (v : View D O). Fell opened v doing.entries) (sym none.0.same) failed)
      (subst (λ (v : View D O). Rose (counts opened.disk kind) (counts v.disk kind)) (sym none.0.same) (subst (ShowsFault (counts opened.disk) (counts decided.disk)) is shows))
      none.1 (own_to none.0.same) (none.0.closed, none.0.faults)
  by_decision course (deciding.wanted same is) shows on =
      let none = subst On is on in
      wanting (none.0.same ∙ same) none.1 (own_to none.0.same) (none.0.closed, none.0.faults)

  pub outcome : Outcome
  outcome = by_decision worked.course worked.decides worked.shows worked.brings

  -- What was recorded of each.

  pub over_went : Did doing opened between → Went opened between doing.entries [] false
  over_went there = own_went between there

  pub carried_went : (id : ItemId) (slices : ℕ) → Did doing opened decided → (b : WasBrought tells clock counts far says net decided between was closed before after id slices at onward)
      → Went opened between (doing.entries ++ b.brought.fetched) between.failed between.broken
  carried_went id slices there b = went_then opened decided between doing.entries b.brought.fetched between.failed between.broken (own_went decided there) b.goes.went

  pub cut_went : (failed : Fell opened between doing.entries) → Went opened between failed.recorded (failed.entry ∷ []) true
  cut_went failed = becomes_went opened between failed.recorded (failed.entry ∷ []) true failed.becomes

  pub wanting_went : between ≡ opened → Went opened between [] [] false
  wanting_went same = subst (λ (v : View D O). Went opened v [] [] false) (sym same) (went_none opened opened.disk w.is.whole w.is.none_failed)

  -- the item waits that is brought
  pub carried_waits : (id : ItemId) (slices : ℕ) → doing.course ≡ Brings id slices → Did doing opened decided → Waits id decided.items.items
  carried_waits id slices is there =
      subst (λ (v : Listing). Waits id v.items) (sym (own_went decided there).items_are)
      (subst (WaitsBy opened.items doing.entries) is (does_wait job (given_of opened at) (numbered_of (found ++ opened.list) opened.items of) none_run))

  -- the history behind its own entries
  pub carried_of : Did doing opened decided → IsOf ((found ++ opened.list) ++ doing.entries) decided.items
  carried_of there = (own_went decided there).lawful (found ++ opened.list) of

  -- and the limits are the program's
  pub carried_limits : Did doing opened decided → decided.limits ≡ program_limits
  carried_limits there = (own_went decided there).limits ∙ w.limits

  -- What is removed behind them changes nothing.

  still_by : (broken : Bool) → between.broken ≡ broken → IsStill between ended
  still_by true is =
      let same = worked.stays is in
      record { list = ap (λ (v : View D O). v.list) same; failed = ap (λ (v : View D O). v.failed) same; broken = ap (λ (v : View D O). v.broken) same }
  still_by false is =
      let went = worked.went is in
      record { list = went.list_is ∙ append-nil between.list; failed = went.failed_is ∙ sym (worked.unfailed is); broken = went.broken_is ∙ sym is }

  still : IsStill between ended
  still = still_by between.broken refl

  module _ (recorded failed : History) (broken : Bool) (went : Went opened between recorded failed broken) where
    pub more_is : log.more ≡ recorded
    more_is = added_is opened ended recorded (still.list ∙ went.list_is)

    pub failed_here : log.failed ≡ failed
    failed_here = still.failed ∙ went.failed_is

    pub broken_here : log.broken ≡ broken
    broken_here = still.broken ∙ went.broken_is

    pub of_all : IsOf ((found ++ opened.list) ++ recorded) between.items
    of_all = went.lawful (found ++ opened.list) of

    pub kept_here : (found ++ opened.list) ++ recorded ≡ kept_of log
    kept_here = append_assoc found opened.list recorded ∙ ap (λ (h : History). found ++ (opened.list ++ h)) (sym more_is)

    pub items_here : between.items.items ≡ items_of (kept_of log)
    items_here = ap (λ (v : Listing). v.items) of_all.value ∙ ap items_of kept_here

    pub list_here : between.items ≡ left_by most_items (reverse (kept_of log))
    list_here =
        of_all.value
        ∙ ap (λ (n : ℕ). left_by n (reverse ((found ++ opened.list) ++ recorded))) (ap (λ (v : Listing). v.limit) went.items_are ∙ run_limit recorded opened.items ∙ w.limit)
        ∙ ap (λ (h : History). left_by most_items (reverse h)) kept_here

    -- with the entry that failed, where one did
    pub tried_is : found ++ tried_of log ≡ ((found ++ opened.list) ++ recorded) ++ failed
    tried_is =
        ap (λ (h : History). found ++ (opened.list ++ (h ++ log.failed))) more_is
        ∙ ap (λ (h : History). found ++ (opened.list ++ (recorded ++ h))) failed_here
        ∙ sym (append_assoc found opened.list (recorded ++ failed))
        ∙ sym (append_assoc (found ++ opened.list) recorded failed)

    -- all that was tried is lawful behind what was found
    lawful_here : IsLawful (found ++ tried_of log)
    lawful_here = subst IsLawful (sym tried_is) (lawful_tries failed ((found ++ opened.list) ++ recorded) between.items of_all went.may)

    plain_cut : (rest : History) → doing.entries ≡ recorded ++ (failed ++ rest) → ArePlain (log.more ++ log.failed)
    plain_cut rest is =
        subst ArePlain (sym (ap (λ (h : History). h ++ log.failed) more_is ∙ ap (λ (h : History). recorded ++ h) failed_here))
        (plain_front (recorded ++ failed) rest (subst ArePlain (is ∙ sym (append_assoc recorded failed rest)) (plain_entries opened.items doing.entries doing.course fits.entries)))

  pub lawful : IsLawful (found ++ tried_of log)
  lawful = by outcome
    where
      by : Outcome → IsLawful (found ++ tried_of log)
      by (over verdict show is there on own idle) = lawful_here doing.entries [] false (over_went there)
      by (carried id slices is there b) = lawful_here (doing.entries ++ b.brought.fetched) between.failed between.broken (carried_went id slices there b)
      by (cut kind failed rose on own idle) = lawful_here failed.recorded (failed.entry ∷ []) true (cut_went failed)
      by (wanting same on own idle) = lawful_here [] [] false (wanting_went same)

  -- and opens no list again
  plain_carried : (id : ItemId) (slices : ℕ) (there : Did doing opened decided) → (b : WasBrought tells clock counts far says net decided between was closed before after id slices at onward) → ArePlain (log.more ++ log.failed)
  plain_carried id slices there b =
      let went = carried_went id slices there b in
      let recorded : History = doing.entries ++ b.brought.fetched in
      let brought = b.brought.brought ((found ++ opened.list) ++ doing.entries) (carried_of there) (carried_limits there) in
      subst ArePlain
      (sym (ap (λ (h : History). h ++ log.failed) (more_is recorded between.failed between.broken went) ∙ ap (λ (h : History). recorded ++ h) (failed_here recorded between.failed between.broken went)
      ∙ append_assoc doing.entries b.brought.fetched between.failed))
      (plain_both doing.entries (b.brought.fetched ++ between.failed) (plain_entries opened.items doing.entries doing.course fits.entries)
      (plain_attempts brought.from brought.to id at (b.brought.fetched ++ between.failed) brought.only))

  pub plain : ArePlain (log.more ++ log.failed)
  plain = by outcome
    where
      by : Outcome → ArePlain (log.more ++ log.failed)
      by (over verdict show is there on own idle) = plain_cut doing.entries [] false (over_went there) [] (sym (append-nil doing.entries))
      by (carried id slices is there b) = plain_carried id slices there b
      by (cut kind failed rose on own idle) = plain_cut failed.recorded (failed.entry ∷ []) true (cut_went failed) failed.rest failed.tries_are
      by (wanting same on own idle) = plain_cut [] [] false (wanting_went same) doing.entries refl

  -- Between the worlds at both ends.

  abbrev pub first : World
  first = world_of clock counts before was start

  abbrev pub last : World
  last = world_of clock counts after closed ended.disk

  abbrev brings : Bringing
  brings = brings_of tells clock says far counts net at

  pub opened_moments : tells → Throughout (clock start) (clock opened.disk) (λ disk. Unit {0})
  opened_moments told = weaker (clock start) (clock opened.disk) _ (λ disk. Unit {0}) (λ disk is. tt) (w.beside told)

  -- from the start to where its own part was done
  to_decided : IsLater tells first (world_of clock counts before was decided.disk)
  to_decided = record {
    disk_later = λ kind. let a = w.later kind in let b = worked.own.later kind in omega (arith, a, b);
    net_later = λ kind. omega arith;
    moments_stay = λ told. joined (clock start) (clock opened.disk) (clock decided.disk) (λ (disk : DiskState). Unit {0}) (opened_moments told)
        (weaker (clock opened.disk) (clock decided.disk) _ (λ disk. Unit {0}) (λ disk is. tt) (worked.own.beside told));
  }

  -- and from where the item was brought to the end
  from_between : IsLater tells (world_of clock counts after closed between.disk) last
  from_between = record {
    disk_later = worked.behind.later;
    net_later = λ kind. omega arith;
    moments_stay = λ told. weaker (clock between.disk) (clock ended.disk) _ (λ disk. Unit {0}) (λ disk is. tt) (worked.behind.beside told);
  }

  abbrev CameHere : Type 0
  CameHere = Came brings tells at first last doing log said

  either : (said ≡ only verdicts.NoMemory) ⊎ (said ≡ only verdicts.NoMemory) → said ≡ only verdicts.NoMemory
  either (inl is) = is
  either (inr is) = is

  -- What is said of all that was done.
  said_all : (items : List Item) (course : Course) → items ≡ items_of (kept_of log) → course ≡ doing.course → WentOn brings tells at first last doing log None → log.broken ≡ false → log.failed ≡ [] → Rests items course → EndsAs (said_by items course) said → CameHere
  said_all items course items_are course_is went whole none rests (inl is) =
      all whole none went (is ∙ ap (λ (i : List Item). said_by i course) items_are ∙ ap (said_by (items_of (kept_of log))) course_is)
      (subst (Rests (items_of (kept_of log))) course_is (subst (λ (i : List Item). Rests i course) items_are rests))
  said_all items course items_are course_is went whole none rests (inr is) = unsaid whole none went is

  came_over : (verdict : Verdict) (show : Show) → doing.course ≡ Ends verdict show → Did doing opened between → onward ≡ doing.course → IsIdle was closed before after → CameHere
  came_over verdict show is there on idle =
      let went = over_went there in
      said_all between.items.items onward (items_here doing.entries [] false went) on
      (record {
        fetched = [];
        more_is = more_is doing.entries [] false went ∙ sym (append-nil doing.entries);
        follows = subst (λ (c : Course). Follows brings tells at first last c ((found ++ opened.list) ++ doing.entries) [] log.failed None) (sym is)
            (record { none = refl; none_failed = failed_here doing.entries [] false went; whole = refl; none_closed = idle.0 });
      }) (broken_here doing.entries [] false went) (failed_here doing.entries [] false went) (subst (Rests between.items.items) (sym (on ∙ is)) tt) worked.says_is

  module _ (id : ItemId) (slices : ℕ) (is : doing.course ≡ Brings id slices) (there : Did doing opened decided) (b : WasBrought tells clock counts far says net decided between was closed before after id slices at onward) where
    recorded_all : History
    recorded_all = doing.entries ++ b.brought.fetched

    went_all : Went opened between (doing.entries ++ b.brought.fetched) between.failed between.broken
    went_all = carried_went id slices there b

    failed_all : log.failed ≡ between.failed
    failed_all = failed_here (doing.entries ++ b.brought.fetched) between.failed between.broken went_all

    went_on : (kind : Option DiskKind) → journal_kind_of b.end ≡ kind → WentOn brings tells at first last doing log kind
    went_on kind kind_is = record {
      fetched = b.brought.fetched;
      more_is = more_is (doing.entries ++ b.brought.fetched) between.failed between.broken went_all;
      follows = subst (λ (c : Course). Follows brings tells at first last c ((found ++ opened.list) ++ doing.entries) b.brought.fetched log.failed kind) (sym is)
          (subst (λ (h : History). IsBrought brings tells at first last id slices ((found ++ opened.list) ++ doing.entries) b.brought.fetched h kind) (sym failed_all)
          (subst (λ (k : Option DiskKind). IsBrought brings tells at first last id slices ((found ++ opened.list) ++ doing.entries) b.brought.fetched between.failed k) kind_is
          (brought_wider brings tells at first (world_of clock counts before was decided.disk) (world_of clock counts after closed between.disk) last id slices ((found ++ opened.list) ++ doing.entries) b.brought.fetched between.failed (journal_kind_of b.end)
          to_decided refl from_between refl (b.brought.brought ((found ++ opened.list) ++ doing.entries) (carried_of there) (carried_limits there)))));
    }

    -- no failure is told, and the desk isn't broken
    unbroken : journal_kind_of b.end ≡ None → between.broken ≡ false
    unbroken none = b.brought.broken ∙ ap (λ (k : Option DiskKind). is_some k) none

    -- the course goes on as it was
    came_onward : journal_kind_of b.end ≡ None → onward ≡ Brings id slices → CameHere
    came_onward none on =
        said_all between.items.items onward (items_here (doing.entries ++ b.brought.fetched) between.failed between.broken went_all) (on ∙ sym is) (went_on None none)
        (broken_here (doing.entries ++ b.brought.fetched) between.failed between.broken went_all ∙ unbroken none) (failed_all ∙ worked.unfailed (unbroken none))
        (subst (Rests between.items.items) (sym b.course_is) (b.brought.rests (carried_waits id slices is there))) worked.says_is

    -- memory was wanting
    came_unsaid : journal_kind_of b.end ≡ None → onward ≡ Ends verdicts.NoMemory Nothing → CameHere
    came_unsaid none on =
        unsaid (broken_here (doing.entries ++ b.brought.fetched) between.failed between.broken went_all ∙ unbroken none) (failed_all ∙ worked.unfailed (unbroken none)) (went_on None none)
        (either (subst (λ (c : Course). EndsAs (said_by between.items.items c) said) on worked.says_is))

    -- the journal or a publication failed
    came_broke : (kind : DiskKind) → journal_kind_of b.end ≡ Some kind → onward ≡ Ends (verdicts.DiskFailed kind) Nothing → CameHere
    came_broke kind kind_is on =
        broke kind (broken_here (doing.entries ++ b.brought.fetched) between.failed between.broken went_all ∙ b.brought.broken ∙ ap (λ (k : Option DiskKind). is_some k) kind_is) (went_on (Some kind) kind_is)
        (subst (λ (c : Course). SaysFailure c said) on worked.fails)

    came_by : (end : Ended) → b.end ≡ end → CameHere
    came_by (ended_as.Fault (faults.Journal kind)) end_is = came_broke kind (ap journal_kind_of end_is) (b.course_is ∙ ap (λ (e : Ended). course_behind e (Brings id slices)) end_is)
    came_by (ended_as.Fault faults.NoMemory) end_is = came_unsaid (ap journal_kind_of end_is) (b.course_is ∙ ap (λ (e : Ended). course_behind e (Brings id slices)) end_is)
    came_by end end_is = came_onward (ap journal_kind_of end_is) (b.course_is ∙ ap (λ (e : Ended). course_behind e (Brings id slices)) end_is)

    came_carried : CameHere
    came_carried = came_by b.end refl

  came_cut : (kind : DiskKind) (failed : Fell opened between doing.entries) → Rose (counts opened.disk kind) (counts between.disk kind) → onward ≡ Ends (verdicts.DiskFailed kind) Nothing → IsIdle was closed before after → CameHere
  came_cut kind failed rose on idle =
      let went = cut_went failed in
      let more = more_is failed.recorded (failed.entry ∷ []) true went in
      let one = failed_here failed.recorded (failed.entry ∷ []) true went in
      fell kind failed.entry (broken_here failed.recorded (failed.entry ∷ []) true went) one
      (record {
        rest = failed.rest;
        entries_are = failed.tries_are ∙ ap (λ (h : History). h ++ failed.entry ∷ failed.rest) (sym more) ∙ ap (λ (h : History). log.more ++ (h ++ failed.rest)) (sym one);
        none_closed = idle.0;
      })
      (rose_last (counts start kind) (counts opened.disk kind) (counts ended.disk kind) (w.later kind) (rose_first (counts opened.disk kind) (counts between.disk kind) (counts ended.disk kind) rose (worked.behind.later kind)))
      (subst (λ (c : Course). SaysFailure c said) on worked.fails)

  came_wanting : between ≡ opened → onward ≡ Ends verdicts.NoMemory Nothing → IsIdle was closed before after → CameHere
  came_wanting same on idle =
      let went = wanting_went same in
      let more = more_is [] [] false went in
      let none = failed_here [] [] false went in
      stopped (broken_here [] [] false went) none
      (record {
        rest = doing.entries;
        entries_are = ap (λ (h : History). h ++ doing.entries) (sym more) ∙ ap (λ (h : History). log.more ++ (h ++ doing.entries)) (sym none);
        none_closed = idle.0;
      }) (either (subst (λ (c : Course). EndsAs (said_by between.items.items c) said) on worked.says_is))

  came_here : CameHere
  came_here = by outcome
    where
      by : Outcome → CameHere
      by (over verdict show is there on own idle) = came_over verdict show is there on idle
      by (carried id slices is there b) = came_carried id slices is there b
      by (cut kind failed rose on own idle) = came_cut kind failed rose on idle
      by (wanting same on own idle) = came_wanting same on idle

  pub came : Came brings tells at first last (does job (given_by (found ++ opened.list) at)) log said
  came = subst (λ (given : Given). Came brings tells at first last (does job given) log said) given_is came_here

  earlier : NoneFell (counts start) (counts between.disk)
  earlier = by outcome
    where
      by_own : CallGoes tells clock counts far says opened between → NoneFell (counts start) (counts between.disk)
      by_own own kind = let a = w.later kind in let b = own.later kind in omega (arith, a, b)

      by_brought : NoneFell (counts decided.disk) (counts between.disk) → NoneFell (counts start) (counts between.disk)
      by_brought brought kind = let a = w.later kind in let b = worked.own.later kind in let c = brought kind in omega (arith, a, b, c)

      by : Outcome → NoneFell (counts start) (counts between.disk)
      by (over verdict show is there on own idle) = by_own own
      by (carried id slices is there b) = by_brought b.goes.later
      by (cut kind failed rose on own idle) = by_own own
      by (wanting same on own idle) = by_own own

  -- parts that none needs were removed at the end
  pub swept_here : (is : IsTrue (sweeps job)) → log.broken ≡ false → Sweeps tells first last (left_by most_items (reverse (kept_of log)))
  swept_here is unbroken =
      let swept = worked.swept is in
      sweep_came tells clock counts between ended first last (left_by most_items (reverse (kept_of log))) swept.answer
      (record {
        whole = sym still.broken ∙ unbroken;
        items = by outcome;
        disk = refl;
        earlier = earlier;
        counts_are = refl;
      }) swept.answers swept.cause
    where
      by : Outcome → between.items ≡ left_by most_items (reverse (kept_of log))
      by (over verdict show is there on own idle) = list_here doing.entries [] false (over_went there)
      by (carried id slices is there b) = list_here (doing.entries ++ b.brought.fetched) between.failed between.broken (carried_went id slices there b)
      by (cut kind failed rose on own idle) = list_here failed.recorded (failed.entry ∷ []) true (cut_went failed)
      by (wanting same on own idle) = list_here [] [] false (wanting_went same)

  -- The item that is brought.

  narrower : (first last : DiskKind → ℕ) → NoneFell (counts start) first → NoneFell last (counts ended.disk) → NoneRose (counts start) (counts ended.disk) → NoneRose first last
  narrower from to earlier_fell later_fell none kind rose = none kind (rose_wider (counts start kind) (from kind) (to kind) (counts ended.disk kind) (earlier_fell kind) rose (later_fell kind))

  is_id : (id other : ItemId) (slices more : ℕ) → Brings id slices ≡ Brings other more → id ≡ other
  is_id id other slices more same = ap (λ (course : Course). id_in id course) same

  module _ (told : tells) (was_kept : WasKept true (says origin) (now (clock start))) (none : NoneRose (counts start) (counts ended.disk)) where
    module _ (id : ItemId) (slices : ℕ) (is : doing.course ≡ Brings id slices) (there : Did doing opened decided) (b : WasBrought tells clock counts far says net decided between was closed before after id slices at onward) where
      own_is : Went opened decided doing.entries [] false
      own_is = own_went decided there

      waits : Waits id decided.items.items
      waits = carried_waits id slices is there

      -- the desk holds the list with its files
      held : HoldsOf true (says decided.origin) clock decided ((found ++ opened.list) ++ doing.entries)
      held =
          let first_held = subst (λ (o : O). HoldsOf true (says o) clock opened (found ++ opened.list)) (sym w.origin_is) (w.is.holds told true was_kept) in
          subst (λ (o : O). HoldsOf true (says o) clock decided ((found ++ opened.list) ++ doing.entries)) (sym own_is.origin)
          (subst (λ (h : History). HoldsOf true (says opened.origin) clock decided ((found ++ opened.list) ++ h)) (added_is opened decided doing.entries own_is.list_is)
          (worked.own.keeps told true (found ++ opened.list) first_held).holds)

      smooth : IsFavoured clock says net decided between was closed before after waits.item at → IsSmooth tells clock says counts net decided between was closed before after id User at
      smooth favoured = record {
        disk_told = told;
        desk = worked.desk;
        whole = own_is.broken_is;
        history = (found ++ opened.list) ++ doing.entries;
        holds = held;
        item = waits.item;
        there = waits.there;
        may = favoured.may;
        disk = narrower (counts decided.disk) (counts between.disk) to_decided.disk_later worked.behind.later none;
        quiet = favoured.quiet;
        told = favoured.told;
        serves = favoured.serves;
        free = favoured.free;
        stated = favoured.stated;
      }

      counted : (kind : Option DiskKind) (first_world last_world : World) → IsLater tells (world_of clock counts before was decided.disk) first_world → IsLater tells last_world (world_of clock counts after closed between.disk) → IfSome kind (Failed first_world last_world)
          → IfSome kind (Failed (world_of clock counts before was decided.disk) (world_of clock counts after closed between.disk))
      counted None first_world last_world one two failed = tt
      counted (Some kind) first_world last_world one two failed = rose_wider (counts decided.disk kind) (first_world.disk_faults kind) (last_world.disk_faults kind) (counts between.disk kind) (one.disk_later kind) failed (two.disk_later kind)

      -- no call on the disk failed
      none_failed : (kind : DiskKind) → journal_kind_of b.end ≡ Some kind → ⊥
      none_failed kind kind_is =
          let brought = b.brought.brought ((found ++ opened.list) ++ doing.entries) (carried_of there) (carried_limits there) in
          let failed = counted (journal_kind_of b.end) brought.from brought.to brought.first brought.last brought.counted in
          narrower (counts decided.disk) (counts between.disk) to_decided.disk_later worked.behind.later none kind
          (subst (λ (k : Option DiskKind). IfSome k (Failed (world_of clock counts before was decided.disk) (world_of clock counts after closed between.disk))) kind_is failed)

      abbrev Well : Said → Type 0
      Well said_so = EndsWell decided between id said_so

      said_well : EndsAs (said_by between.items.items (Brings id slices)) said → Well (said_by between.items.items (Brings id slices)) → Well said
      said_well (inl same) well = subst Well (sym same) well
      said_well (inr same) well = completed.wanting same

      -- so the course goes on as it was, or memory was wanting
      well_by : (end : Ended) → b.end ≡ end → Well (said_by between.items.items (Brings id slices)) → Well said
      well_by (ended_as.Fault (faults.Journal kind)) end_is well = absurd (none_failed kind (ap journal_kind_of end_is))
      well_by (ended_as.Fault faults.NoMemory) end_is well =
          completed.wanting (either (subst (λ (c : Course). EndsAs (said_by between.items.items c) said) (b.course_is ∙ ap (λ (e : Ended). course_behind e (Brings id slices)) end_is) worked.says_is))
      well_by end end_is well = said_well (subst (λ (c : Course). EndsAs (said_by between.items.items c) said) (b.course_is ∙ ap (λ (e : Ended). course_behind e (Brings id slices)) end_is) worked.says_is) well

      brings_well : BringsWell tells clock says far counts net (clock start) (clock ended.disk) was closed before after log doing.entries id at said
      brings_well =
          let went = carried_went id slices there b in
          record {
            desk = decided;
            ended = between;
            items = (carried_of there).value ∙ ap (λ (n : ℕ). left_by n (reverse ((found ++ opened.list) ++ doing.entries))) (ap (λ (v : Listing). v.limit) own_is.items_are ∙ run_limit doing.entries opened.items ∙ w.limit);
            list = (own_went decided there).list_is;
            ended_items = list_here (doing.entries ++ b.brought.fetched) between.failed between.broken went;
            ended_list = went.list_is ∙ ap (λ (h : History). opened.list ++ h) (sym (more_is (doing.entries ++ b.brought.fetched) between.failed between.broken went));
            began = to_decided.moments_stay told;
            behind = from_between.moments_stay told;
            item = waits.item;
            there = waits.there;
            ends = λ favoured. well_by b.end refl (b.ends waits (smooth favoured));
          }

    completes_here : (id : ItemId) (slices : ℕ) → doing.course ≡ Brings id slices → BringsWell tells clock says far counts net (clock start) (clock ended.disk) was closed before after log doing.entries id at said ⊎ (said ≡ only verdicts.NoMemory)
    completes_here id slices is = by outcome
      where
        by : Outcome → BringsWell tells clock says far counts net (clock start) (clock ended.disk) was closed before after log doing.entries id at said ⊎ (said ≡ only verdicts.NoMemory)
        by (over verdict show ends there on own idle) = absurd (subst IsBringing (sym is ∙ ends) tt)
        by (carried other more other_is there b) =
            inl (subst (λ (i : ItemId). BringsWell tells clock says far counts net (clock start) (clock ended.disk) was closed before after log doing.entries i at said) (is_id other id more slices (sym other_is ∙ is)) (brings_well other more other_is there b))
        by (cut kind failed rose on own idle) = absurd (narrower (counts opened.disk) (counts between.disk) w.later worked.behind.later none kind rose)
        by (wanting same on own idle) = inr (either (subst (λ (c : Course). EndsAs (said_by between.items.items c) said) on worked.says_is))

    pub completes : (id : ItemId) (slices : ℕ) → (does job (given_by (found ++ opened.list) at)).course ≡ Brings id slices
        → BringsWell tells clock says far counts net (clock start) (clock ended.disk) was closed before after log (does job (given_by (found ++ opened.list) at)).entries id at said ⊎ (said ≡ only verdicts.NoMemory)
    completes =
        subst (λ (given : Given). (id : ItemId) (slices : ℕ) → (does job given).course ≡ Brings id slices
        → BringsWell tells clock says far counts net (clock start) (clock ended.disk) was closed before after log (does job given).entries id at said ⊎ (said ≡ only verdicts.NoMemory)) given_is completes_here
