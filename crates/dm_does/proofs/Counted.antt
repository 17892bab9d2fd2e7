-- An interruption by a kind of fault is told of a brought item only where one of this kind was counted meanwhile.
use Rattle.std.proofs.Common.{◌≡◌, ℕ, true, List, [], ◌∷◌, ◌++◌, reverse, Option, Some, None, refl, sym, ◌∙◌, ap, subst, append_assoc}
use Rattle.std.specs.List.{AllByRecursion}
use Rattle.std.specs.Prelude.{◌==◌, IsTrue}
use Rattle.std.proofs.lemmas.Bool.{false≢true}
use Rattle.std.proofs.lemmas.List.{append-nil}
use Rattle.dm_types.specs.Faults.{NoneFell, Rose}
use Rattle.dm_types.specs.Limits.{most_items}
use Rattle.dm_types.specs.declared.entry.Entry.{Entry}
use Rattle.dm_types.specs.declared.entry.Entry.TheVariants as entries
use Rattle.dm_types.specs.declared.item.Item.{Item}
use Rattle.dm_types.specs.declared.item.ItemId.{ItemId}
use Rattle.dm_types.specs.declared.item.Phase.{Phase}
use Rattle.dm_types.specs.declared.item.Phase.TheVariants as phases
use Rattle.dm_types.specs.declared.kinds.DiskKind.{DiskKind}
use Rattle.dm_types.specs.declared.kinds.DiskKind.TheVariants as kinds
use Rattle.dm_types.specs.declared.reason.Reason.{Reason}
use Rattle.dm_types.specs.declared.reason.Reason.TheVariants as reasons
use Rattle.dm_edge.specs.declared.fault.NetFault.{NetFault}
use Rattle.dm_edge.specs.declared.fault.NetFault.TheVariants as nets
use Rattle.dm_item.specs.Fields.{id_of, is_for}
use Rattle.dm_item.specs.Kept.{IsNumbered}
use Rattle.dm_item.specs.Lawful.{History, IsLawful, items_of, left_by}
use Rattle.dm_item.specs.Listing.{Listing, applied, item_in}
use Rattle.dm_item.proofs.Applied.{item_after, item_applied}
use Rattle.dm_item.proofs.Basics.{eq_true}
use Rattle.dm_item.proofs.Shorts.{numbered_of}
use Rattle.dm_kept.specs.Recovery.{Found}
use Rattle.dm_report.specs.Said.{Said}
use Rattle.dm_report.specs.Texts.{item_line_of}
use Rattle.dm_report.specs.declared.verdict.Verdict.{Verdict}
use Rattle.dm_report.specs.declared.verdict.Verdict.TheVariants as verdicts
use Rattle.dm_does.specs.declared.course.Course.{Course}
use Rattle.dm_does.specs.declared.course.Course.TheVariants.{Ends, Brings}
use Rattle.dm_does.specs.declared.course.Show.{Show}
use Rattle.dm_does.specs.declared.job.Job.{Job}
use Rattle.dm_does.specs.Answering.{Bringing, Came, Follows, IsBrought, IsCounted, IsOfAttempt, Works, given_by, all, broke, fell, stopped, unsaid}
use Rattle.dm_does.specs.Doing.{Doing, Given, does}
use Rattle.dm_does.specs.Laws.{Fits, FitsEntries, IsOfList, NoneRuns, Waits, WaitsBy, is_own}
use Rattle.dm_does.specs.Log.{Log, kept_of, opened_of, tried_of}
use Rattle.dm_does.specs.Saying.{said_by, said_in, said_interrupted, said_of}
use Rattle.dm_does.specs.World.{World}
use Rattle.dm_does.proofs.Behind.{FitsTo, applied_same, lawful_front, lawful_last, lawful_more, listed, meets_same, recovered_more}
use Rattle.dm_does.proofs.Fitting.{does_fit}
use Rattle.dm_does.proofs.Sweeping.{rose_wider}
use Rattle.dm_does.proofs.Waiting.{does_wait}

-- What was counted between two worlds was counted between wider ones.
module _ (before from to after : World) (disk_first : NoneFell before.disk_faults from.disk_faults) (net_first : NoneFell before.net_faults from.net_faults) (disk_last : NoneFell to.disk_faults after.disk_faults) (net_last : NoneFell to.net_faults after.net_faults) where
  disk_wider : (kind : DiskKind) → Rose (from.disk_faults kind) (to.disk_faults kind) → Rose (before.disk_faults kind) (after.disk_faults kind)
  disk_wider kind rose = rose_wider (before.disk_faults kind) (from.disk_faults kind) (to.disk_faults kind) (after.disk_faults kind) (disk_first kind) rose (disk_last kind)

  net_wider : (kind : NetFault) → Rose (from.net_faults kind) (to.net_faults kind) → Rose (before.net_faults kind) (after.net_faults kind)
  net_wider kind rose = rose_wider (before.net_faults kind) (from.net_faults kind) (to.net_faults kind) (after.net_faults kind) (net_first kind) rose (net_last kind)

  pub counted_wider : (reason : Reason) → IsCounted from to reason → IsCounted before after reason
  counted_wider reasons.FileAccessDenied is = disk_wider kinds.Denied is
  counted_wider reasons.FileNoSpace is = disk_wider kinds.NoSpace is
  counted_wider reasons.FileNameTooLong is = disk_wider kinds.NameTooLong is
  counted_wider reasons.NetworkTimeout is = net_wider nets.Timeout is
  counted_wider reasons.NetworkDisconnected is = net_wider nets.NoRoute is
  counted_wider reasons.NetworkServerDown is = net_wider nets.Refused is
  counted_wider reason is = is

  -- and so of each entry of an attempt
  pub attempt_wider : (id : ItemId) (at : ℕ) (e : Entry) → IsOfAttempt from to id at e → IsOfAttempt before after id at e
  attempt_wider id at (entries.Broke other reason) of = (of.0, counted_wider reason of.1)
  attempt_wider id at e of = of

module _ (from to : World) (id : ItemId) (at : ℕ) where
  -- an interruption was counted
  abbrev ShownIn : Phase → Type 0
  ShownIn (phases.Interrupted reason) = IsCounted from to reason
  ShownIn _ = Unit {0}

  abbrev Shown : Option Item → Type 0
  Shown None = Unit {0}
  Shown (Some item) = ShownIn item.phase

  -- so behind each entry of an attempt
  after_entry : (e : Entry) (found : Option Item) → IsOfAttempt from to id at e → Shown found → Shown (item_after e found)
  after_entry (entries.Restarted other epoch because) None of shown = tt
  after_entry (entries.Restarted other epoch because) (Some item) of shown = shown
  after_entry (entries.Began other attempt by moment) None of shown = tt
  after_entry (entries.Began other attempt by moment) (Some item) of shown = tt
  after_entry (entries.Described other key last_address total name modified) None of shown = tt
  after_entry (entries.Described other key last_address total name modified) (Some item) of shown = shown
  after_entry (entries.Progress other slices) None of shown = tt
  after_entry (entries.Progress other slices) (Some item) of shown = shown
  after_entry (entries.Broke other reason) None of shown = tt
  after_entry (entries.Broke other reason) (Some item) of shown = of.1
  after_entry (entries.Finishing other total) None of shown = tt
  after_entry (entries.Finishing other total) (Some item) of shown = tt
  after_entry (entries.Done other digest moment) None of shown = tt
  after_entry (entries.Done other digest moment) (Some item) of shown = tt
  after_entry e found of shown = absurd of

  same_id : (other : ItemId) → other ≡ id → (other.0 == id.0) ≡ true
  same_id other same = subst (λ (o : ItemId). (o.0 == id.0) ≡ true) (sym same) (eq_true id.0)

  speaks : (e : Entry) → IsOfAttempt from to id at e → is_for id.0 (id_of e) ≡ true
  speaks (entries.Restarted other epoch because) of = same_id other of
  speaks (entries.Began other attempt by moment) of = same_id other of.0
  speaks (entries.Described other key last_address total name modified) of = same_id other of
  speaks (entries.Progress other slices) of = same_id other of
  speaks (entries.Broke other reason) of = same_id other of.0
  speaks (entries.Finishing other total) of = same_id other of
  speaks (entries.Done other digest moment) of = same_id other of.0
  speaks e of = absurd of

  -- and behind all of them
  after_all : (h fetched : History) → IsLawful (h ++ fetched) → AllByRecursion (IsOfAttempt from to id at) fetched → Shown (item_in id.0 (items_of h)) → Shown (item_in id.0 (items_of (h ++ fetched)))
  after_all h [] lawful only shown = subst (λ (x : History). Shown (item_in id.0 (items_of x))) (sym (append-nil h)) shown
  after_all h (e ∷ fetched) lawful only shown =
      let longer : IsLawful ((h ++ e ∷ []) ++ fetched) = subst IsLawful (sym (append_assoc h (e ∷ []) fetched)) lawful in
      let last = lawful_last h e (lawful_front (h ++ e ∷ []) fetched longer) in
      let v : Listing = listed h in
      let found = item_applied e v id.0 (numbered_of h v (record { lawful = last.1; value = refl })) last.0 (speaks e only.0) in
      let here : Shown (item_in id.0 (items_of (h ++ e ∷ []))) =
      subst (λ (items : List Item). Shown (item_in id.0 items)) (sym (ap (λ (f : Found). f.items) (recovered_more h e last.1 last.0)))
      (subst Shown (sym found) (after_entry e (item_in id.0 v.items) only.0 shown)) in
      subst (λ (x : History). Shown (item_in id.0 (items_of x))) (append_assoc h (e ∷ []) fetched) (after_all (h ++ e ∷ []) fetched longer only.1 here)

  same_reason : (a b : Reason) → verdicts.Interrupted a ≡ verdicts.Interrupted b → a ≡ b
  same_reason a b same = cc

  by_reason : (met reason : Reason) (line : List ℕ) → IsCounted from to met → (said_interrupted met line).verdict ≡ verdicts.Interrupted reason → IsCounted from to reason
  by_reason reasons.NoMemory reason line is told = absurd cc
  by_reason met reason line is told = subst (IsCounted from to) (same_reason met reason told) is

  by_phase : (phase : Phase) (reason : Reason) (line : List ℕ) → ShownIn phase → (said_in phase line).verdict ≡ verdicts.Interrupted reason → IsCounted from to reason
  by_phase (phases.Interrupted met) reason line shown told = by_reason met reason line shown told
  by_phase phases.Complete reason line shown told = absurd cc
  by_phase phase reason line shown told = absurd cc

  by_item : (found : Option Item) (reason : Reason) → Shown found → (said_of found).verdict ≡ verdicts.Interrupted reason → IsCounted from to reason
  by_item None reason shown told = absurd cc
  by_item (Some item) reason shown told = by_phase item.phase reason (item_line_of item) shown told

  shown_waiting : (items : List Item) → Waits id items → Shown (item_in id.0 items)
  shown_waiting items waits = subst Shown (sym waits.there) (subst ShownIn (sym waits.waits) tt)

-- of a list behind which an item was brought
by_bringing : (brings : Bringing) (tells : Type 0) (at : ℕ) (before after : World) (id : ItemId) (slices : ℕ) (history fetched : History) (reason : Reason) → IsBrought brings tells at before after id slices history fetched [] None
    → IsLawful (history ++ fetched) → Waits id (items_of history) → (said_of (item_in id.0 (items_of (history ++ fetched)))).verdict ≡ verdicts.Interrupted reason → IsCounted before after reason
by_bringing brings tells at before after id slices history fetched reason brought lawful waits told =
    let only : AllByRecursion (IsOfAttempt brought.from brought.to id at) fetched = subst (AllByRecursion (IsOfAttempt brought.from brought.to id at)) (append-nil fetched) brought.only in
    let shown = after_all brought.from brought.to id at history fetched lawful only (shown_waiting brought.from brought.to id at (items_of history) waits) in
    counted_wider before brought.from brought.to after brought.first.disk_later brought.first.net_later brought.last.disk_later brought.last.net_later reason (by_item brought.from brought.to id at (item_in id.0 (items_of (history ++ fetched))) reason shown told)

told_of : (said : Said) (verdict : Verdict) (reason : Reason) → said.verdict ≡ verdict → said.verdict ≡ verdicts.Interrupted reason → verdict ≡ verdicts.Interrupted reason
told_of said verdict reason is told = sym is ∙ told

not_failed : (kind : DiskKind) (reason : Reason) → verdicts.DiskFailed kind ≡ verdicts.Interrupted reason → ⊥
not_failed kind reason same = cc

not_memory : (reason : Reason) → verdicts.NoMemory ≡ verdicts.Interrupted reason → ⊥
not_memory reason same = cc

-- The item waits behind the job's own entries (`does_wait`).
pub told_counted : (brings : Bringing) (tells : Type 0) (at : ℕ) (before after : World) (doing : Doing) (log : Log) (said : Said) (id : ItemId) (slices : ℕ) (reason : Reason) → doing.course ≡ Brings id slices → IsLawful (log.found ++ tried_of log)
    → Waits id (items_of (opened_of log ++ doing.entries)) → Came brings tells at before after doing log said → said.verdict ≡ verdicts.Interrupted reason → IsCounted before after reason
told_counted brings tells at before after doing log said id slices reason course lawful waits (all whole none_failed went is rests) told =
    let history = opened_of log ++ doing.entries in
    let kept : kept_of log ≡ history ++ went.fetched =
    ap (λ (h : History). log.found ++ (log.opening ++ h)) went.more_is ∙ ap (λ (h : History). log.found ++ h) (sym (append_assoc log.opening doing.entries went.fetched))
    ∙ sym (append_assoc log.found (log.opening ++ doing.entries) went.fetched) ∙ ap (λ (h : History). h ++ went.fetched) (sym (append_assoc log.found log.opening doing.entries)) in
    let tried : log.found ++ tried_of log ≡ history ++ went.fetched = ap (λ (h : History). log.found ++ (log.opening ++ (log.more ++ h))) none_failed ∙ ap (λ (h : History). log.found ++ (log.opening ++ h)) (append-nil log.more) ∙ kept in
    let brought : IsBrought brings tells at before after id slices history went.fetched [] None =
    subst (λ (failed : History). IsBrought brings tells at before after id slices history went.fetched failed None) none_failed
    (subst (λ (c : Course). Follows brings tells at before after c history went.fetched log.failed None) course went.follows) in
    let says : said ≡ said_of (item_in id.0 (items_of (history ++ went.fetched))) =
    is ∙ ap (said_by (items_of (kept_of log))) course ∙ ap (λ (h : History). said_of (item_in id.0 (items_of h))) kept in
    by_bringing brings tells at before after id slices history went.fetched reason brought (subst IsLawful tried lawful) waits (sym (ap (λ (s : Said). s.verdict) says) ∙ told)
told_counted brings tells at before after doing log said id slices reason course lawful waits (fell kind entry is_broken failed_is cut failed is) told =
    absurd (not_failed kind reason (told_of said (verdicts.DiskFailed kind) reason (ap (λ (s : Said). s.verdict) is) told))
told_counted brings tells at before after doing log said id slices reason course lawful waits (broke kind is_broken went is) told =
    absurd (not_failed kind reason (told_of said (verdicts.DiskFailed kind) reason (ap (λ (s : Said). s.verdict) is) told))
told_counted brings tells at before after doing log said id slices reason course lawful waits (stopped whole none_failed cut is) told =
    absurd (not_memory reason (told_of said verdicts.NoMemory reason (ap (λ (s : Said). s.verdict) is) told))
told_counted brings tells at before after doing log said id slices reason course lawful waits (unsaid whole none_failed went is) told =
    absurd (not_memory reason (told_of said verdicts.NoMemory reason (ap (λ (s : Said). s.verdict) is) told))

-- an own entry opens no list
own_fits : (e : Entry) (v : Listing) → IsTrue (is_own e) → FitsTo e v
own_fits (entries.Added id word address wish digest at) v own = tt
own_fits (entries.Asked id) v own = tt
own_fits (entries.Paused id) v own = tt
own_fits (entries.Cancelled id) v own = tt
own_fits (entries.Removed id) v own = tt
own_fits e v own = absurd (false≢true own)

-- the entries that a job records of its own are lawful behind the list's history
own_lawful : (list : Listing) (h own : History) (course : Course) → IsLawful h → list ≡ left_by most_items (reverse h) → FitsEntries list own course → IsLawful (h ++ own)
own_lawful list h [] course lawful is fits = subst IsLawful (sym (append-nil h)) lawful
own_lawful list h (e ∷ []) course lawful is fits =
    lawful_more h e (meets_same e list (listed h) (own_fits e list fits.0) (record { next = ap (λ (v : Listing). v.next) is; items = ap (λ (v : Listing). v.items) is }) fits.1.meets) lawful
own_lawful list h (e ∷ other ∷ more) course lawful is fits = absurd fits

-- what waits in the list as it is run waits behind the history
waits_behind : (h own : History) (course : Course) (id : ItemId) (slices : ℕ) → course ≡ Brings id slices → IsLawful (h ++ own) → FitsEntries (left_by most_items (reverse h)) own course → WaitsBy (left_by most_items (reverse h)) own course
    → Waits id (items_of (h ++ own))
waits_behind h [] course id slices is lawful fits waits =
    subst (λ (x : History). Waits id (items_of x)) (sym (append-nil h)) (subst (WaitsBy (left_by most_items (reverse h)) []) is waits)
waits_behind h (e ∷ []) course id slices is lawful fits waits =
    let last = lawful_last h e lawful in
    let here : Waits id (applied e (left_by most_items (reverse h))).items = subst (WaitsBy (left_by most_items (reverse h)) (e ∷ [])) is waits in
    let same = applied_same e (left_by most_items (reverse h)) (listed h) (own_fits e (left_by most_items (reverse h)) fits.0) (record { next = refl; items = refl }) in
    subst (Waits id) (same.items ∙ sym (ap (λ (f : Found). f.items) (recovered_more h e last.1 last.0))) here
waits_behind h (e ∷ other ∷ more) course id slices is lawful fits waits = absurd fits

-- a command that is over is never interrupted
ends_never : (verdict : Verdict) (show : Show) (reason : Reason) → IsOfList (Ends verdict show) → verdict ≡ verdicts.Interrupted reason → ⊥
ends_never (verdicts.Interrupted met) show reason of_list is = of_list
ends_never verdict show reason of_list is = cc

said_ends : (brings : Bringing) (tells : Type 0) (at : ℕ) (before after : World) (doing : Doing) (log : Log) (said : Said) (verdict : Verdict) (show : Show) (reason : Reason) → doing.course ≡ Ends verdict show → IsOfList doing.course
    → Came brings tells at before after doing log said → said.verdict ≡ verdicts.Interrupted reason → ⊥
said_ends brings tells at before after doing log said verdict show reason course of_list (all whole none_failed went is rests) told =
    ends_never verdict show reason (subst IsOfList course of_list) (sym (ap (λ (s : Said). s.verdict) (is ∙ ap (said_by (items_of (kept_of log))) course)) ∙ told)
said_ends brings tells at before after doing log said verdict show reason course of_list (fell kind entry is_broken failed_is cut failed is) told = not_failed kind reason (told_of said (verdicts.DiskFailed kind) reason (ap (λ (s : Said). s.verdict) is) told)
said_ends brings tells at before after doing log said verdict show reason course of_list (broke kind is_broken went is) told = not_failed kind reason (told_of said (verdicts.DiskFailed kind) reason (ap (λ (s : Said). s.verdict) is) told)
said_ends brings tells at before after doing log said verdict show reason course of_list (stopped whole none_failed cut is) told = not_memory reason (told_of said verdicts.NoMemory reason (ap (λ (s : Said). s.verdict) is) told)
said_ends brings tells at before after doing log said verdict show reason course of_list (unsaid whole none_failed went is) told = not_memory reason (told_of said verdicts.NoMemory reason (ap (λ (s : Said). s.verdict) is) told)

-- So of a job on a list that was opened: an interruption by a kind of fault is told only where a failure of that kind was counted in this run.
pub job_counted : (brings : ℕ → Bringing) (tells : Type 0) (before after : World) (job : Job) (at : ℕ) (log : Log) (said : Said) (reason : Reason) → NoneRuns (given_by (opened_of log) at).list.items → Works brings tells before after job at log said
    → said.verdict ≡ verdicts.Interrupted reason → IsCounted before after reason
job_counted brings tells before after job at log said reason none works told = by (does job given).course refl
  where
    given : Given
    given = given_by (opened_of log) at

    opened : IsLawful (opened_of log)
    opened = lawful_front (opened_of log) (log.more ++ log.failed) (subst IsLawful (sym (append_assoc log.found log.opening (log.more ++ log.failed))) works.lawful)

    numbered : IsNumbered 1 given.list.items given.list.next
    numbered = numbered_of (opened_of log) given.list (record { lawful = opened; value = refl })

    fits : Fits given.list (does job given)
    fits = does_fit job given numbered

    own : IsLawful (opened_of log ++ (does job given).entries)
    own = own_lawful given.list (opened_of log) (does job given).entries (does job given).course opened refl fits.entries

    by : (course : Course) → (does job given).course ≡ course → IsCounted before after reason
    by (Ends verdict show) is = absurd (said_ends (brings at) tells at before after (does job given) log said verdict show reason is fits.course works.came told)
    by (Brings id slices) is =
        told_counted (brings at) tells at before after (does job given) log said id slices reason is works.lawful
        (waits_behind (opened_of log) (does job given).entries (does job given).course id slices is own fits.entries (does_wait job given numbered none)) works.came told
