-- The statuses, both ways: what a status tells of a run, and when it comes.
use Rattle.std.proofs.Common.{◌≡◌, ◌≢◌, ◌⊎◌, inl, inr, ℕ, true, false, List, ◌++◌, Option, Some, None, sym, ◌∙◌, ap, arith}
use Rattle.std.proofs.lemmas.Bool.{false≢true}
use Rattle.dm_types.specs.declared.item.Item.{Item}
use Rattle.dm_types.specs.declared.item.Phase.{Phase}
use Rattle.dm_types.specs.declared.item.Phase.TheVariants as phases
use Rattle.dm_types.specs.declared.kinds.DiskKind.{DiskKind}
use Rattle.dm_types.specs.declared.reason.Reason.{Reason}
use Rattle.dm_types.specs.declared.reason.Reason.TheVariants as reasons
use Rattle.dm_item.specs.Lawful.{History, items_of}
use Rattle.dm_item.specs.Listing.{item_in}
use Rattle.dm_item.proofs.Basics.{none_some}
use Rattle.dm_report.specs.Said.{Said, only}
use Rattle.dm_report.specs.Texts.{item_line_of}
use Rattle.dm_report.specs.Verdict.{status_of}
use Rattle.dm_report.specs.declared.verdict.Verdict.{Verdict}
use Rattle.dm_report.specs.declared.verdict.Verdict.TheVariants as verdicts
use Rattle.dm_does.specs.declared.course.Course.{Course}
use Rattle.dm_does.specs.declared.course.Course.TheVariants.{Ends, Brings}
use Rattle.dm_does.specs.Answering.{Bringing, Came, Follows, Rests, WentOn, all, broke, fell, stopped, unsaid}
use Rattle.dm_does.specs.Doing.{Doing}
use Rattle.dm_does.specs.Laws.{IsOfList}
use Rattle.dm_does.specs.Log.{Log, kept_of, opened_of}
use Rattle.dm_does.specs.Printing.{Outputs, Prints, SameCounts, SomeRose}
use Rattle.dm_does.specs.Saying.{said_by, said_in, said_interrupted, said_of}
use Rattle.dm_does.specs.World.{Failed, World}
use Rattle.dm_does.proofs.Sweeping.{rose_wider}

-- so of the failure by which a desk broke while an item was brought
follows_failed : (brings : Bringing) (tells : Type 0) (at : ℕ) (before after : World) (course : Course) (history fetched failed : History) (kind : DiskKind) → Follows brings tells at before after course history fetched failed (Some kind)
    → Failed before after kind
follows_failed brings tells at before after (Ends verdict show) history fetched failed kind over = absurd (none_some (sym over.whole))
follows_failed brings tells at before after (Brings id slices) history fetched failed kind brought =
    rose_wider (before.disk_faults kind) (brought.from.disk_faults kind) (brought.to.disk_faults kind) (after.disk_faults kind) (brought.first.disk_later kind) brought.counted (brought.last.disk_later kind)

pub went_failed : (brings : Bringing) (tells : Type 0) (at : ℕ) (before after : World) (doing : Doing) (log : Log) (kind : DiskKind) → WentOn brings tells at before after doing log (Some kind) → Failed before after kind
went_failed brings tells at before after doing log kind went = follows_failed brings tells at before after doing.course (opened_of log ++ doing.entries) went.fetched log.failed kind went.follows

module _ (brings : Bringing) (tells : Type 0) (at : ℕ) (before after : World) (doing : Doing) (log : Log) (said : Said) where
  verdict_is : (verdict : Verdict) → said ≡ only verdict → said.verdict ≡ verdict
  verdict_is verdict is = ap (λ (s : Said). s.verdict) is

  -- Only where: what is said, but for a failure of the disk and for want of memory, is that of the list at the end.
  said_all : Came brings tells at before after doing log said → said.verdict ≢ verdicts.NoMemory → ((kind : DiskKind) → said.verdict ≢ verdicts.DiskFailed kind) → said ≡ said_by (items_of (kept_of log)) doing.course
  said_all (all whole none_failed went is rests) no_memory no_fault = is
  said_all (fell kind entry is_broken failed_is cut failed is) no_memory no_fault = absurd (no_fault kind (verdict_is (verdicts.DiskFailed kind) is))
  said_all (broke kind is_broken went is) no_memory no_fault = absurd (no_fault kind (verdict_is (verdicts.DiskFailed kind) is))
  said_all (stopped whole none_failed cut is) no_memory no_fault = absurd (no_memory (verdict_is verdicts.NoMemory is))
  said_all (unsaid whole none_failed went is) no_memory no_fault = absurd (no_memory (verdict_is verdicts.NoMemory is))

  -- Always where: on a desk that isn't broken, but for want of memory.
  said_whole : Came brings tells at before after doing log said → log.broken ≡ false → said.verdict ≢ verdicts.NoMemory → said ≡ said_by (items_of (kept_of log)) doing.course
  said_whole (all whole none_failed went is rests) here no_memory = is
  said_whole (fell kind entry is_broken failed_is cut failed is) here no_memory = absurd (false≢true (sym here ∙ is_broken))
  said_whole (broke kind is_broken went is) here no_memory = absurd (false≢true (sym here ∙ is_broken))
  said_whole (stopped whole none_failed cut is) here no_memory = absurd (no_memory (verdict_is verdicts.NoMemory is))
  said_whole (unsaid whole none_failed went is) here no_memory = absurd (no_memory (verdict_is verdicts.NoMemory is))

  -- An item of which something else is said than a failure of the disk or want of memory rests.
  said_rests : Came brings tells at before after doing log said → said.verdict ≢ verdicts.NoMemory → ((kind : DiskKind) → said.verdict ≢ verdicts.DiskFailed kind) → Rests (items_of (kept_of log)) doing.course
  said_rests (all whole none_failed went is rests) no_memory no_fault = rests
  said_rests (fell kind entry is_broken failed_is cut failed is) no_memory no_fault = absurd (no_fault kind (verdict_is (verdicts.DiskFailed kind) is))
  said_rests (broke kind is_broken went is) no_memory no_fault = absurd (no_fault kind (verdict_is (verdicts.DiskFailed kind) is))
  said_rests (stopped whole none_failed cut is) no_memory no_fault = absurd (no_memory (verdict_is verdicts.NoMemory is))
  said_rests (unsaid whole none_failed went is) no_memory no_fault = absurd (no_memory (verdict_is verdicts.NoMemory is))

  -- A broken desk is always told as a failure of the disk, of a kind that was counted.
  said_broken : Came brings tells at before after doing log said → log.broken ≡ true → (kind : DiskKind) × Failed before after kind × (said ≡ only (verdicts.DiskFailed kind))
  said_broken (all whole none_failed went is rests) here = absurd (false≢true (sym whole ∙ here))
  said_broken (fell kind entry is_broken failed_is cut failed is) here = (kind, failed, is)
  said_broken (broke kind is_broken went is) here = (kind, went_failed brings tells at before after doing log kind went, is)
  said_broken (stopped whole none_failed cut is) here = absurd (false≢true (sym whole ∙ here))
  said_broken (unsaid whole none_failed went is) here = absurd (false≢true (sym whole ∙ here))

-- what is said of the list is no failure of the disk
never_by_reason : (reason : Reason) (line : List ℕ) (kind : DiskKind) → (said_interrupted reason line).verdict ≢ verdicts.DiskFailed kind
never_by_reason reasons.NoMemory line kind is = cc
never_by_reason reason line kind is = cc

never_in_phase : (phase : Phase) (line : List ℕ) (kind : DiskKind) → (said_in phase line).verdict ≢ verdicts.DiskFailed kind
never_in_phase phases.Complete line kind is = cc
never_in_phase (phases.Interrupted reason) line kind is = never_by_reason reason line kind is
never_in_phase phase line kind is = cc

never_of : (found : Option Item) (kind : DiskKind) → (said_of found).verdict ≢ verdicts.DiskFailed kind
never_of None kind is = cc
never_of (Some item) kind is = never_in_phase item.phase (item_line_of item) kind is

pub never_said : (items : List Item) (course : Course) (kind : DiskKind) → IsOfList course → (said_by items course).verdict ≢ verdicts.DiskFailed kind
never_said items (Brings id slices) kind of_list is = never_of (item_in id.0 items) kind is
never_said items (Ends (verdicts.DiskFailed other) show) kind of_list is = absurd of_list
never_said items (Ends verdict show) kind of_list is = cc

-- So a failure of the disk is said only where a call failed.
pub said_failed : (brings : Bringing) (tells : Type 0) (at : ℕ) (before after : World) (doing : Doing) (log : Log) (said : Said) (kind : DiskKind) → IsOfList doing.course → Came brings tells at before after doing log said
    → said.verdict ≡ verdicts.DiskFailed kind → (log.broken ≡ true) × ((other : DiskKind) × Failed before after other × (said ≡ only (verdicts.DiskFailed other)))
said_failed brings tells at before after doing log said kind of_list (all whole none_failed went is rests) told =
    absurd (never_said (items_of (kept_of log)) doing.course kind of_list (sym (ap (λ (s : Said). s.verdict) is) ∙ told))
said_failed brings tells at before after doing log said kind of_list (fell other entry is_broken failed_is cut failed is) told = (is_broken, (other, failed, is))
said_failed brings tells at before after doing log said kind of_list (broke other is_broken went is) told = (is_broken, (other, went_failed brings tells at before after doing log other went, is))
said_failed brings tells at before after doing log said kind of_list (stopped whole none_failed cut is) told = absurd (memory_not (sym (ap (λ (s : Said). s.verdict) is) ∙ told))
  where
    memory_not : verdicts.NoMemory ≡ verdicts.DiskFailed kind → ⊥
    memory_not same = cc
said_failed brings tells at before after doing log said kind of_list (unsaid whole none_failed went is) told = absurd (memory_no (sym (ap (λ (s : Said). s.verdict) is) ∙ told))
  where
    memory_no : verdicts.NoMemory ≡ verdicts.DiskFailed kind → ⊥
    memory_no same = cc

-- The status 7 is no verdict's own.
never_seven : (verdict : Verdict) → status_of verdict ≢ 7
never_seven verdicts.Done is = omega (arith, is)
never_seven (verdicts.Interrupted reason) is = omega (arith, is)
never_seven verdicts.BadWords is = omega (arith, is)
never_seven verdicts.BadAddress is = omega (arith, is)
never_seven (verdicts.NoItem id) is = omega (arith, is)
never_seven (verdicts.WrongState phase) is = omega (arith, is)
never_seven (verdicts.Damaged place) is = omega (arith, is)
never_seven (verdicts.DiskFailed kind) is = omega (arith, is)
never_seven (verdicts.ItemsFull count) is = omega (arith, is)
never_seven verdicts.NoMemory is = omega (arith, is)
never_seven (verdicts.OtherWord id) is = omega (arith, is)
never_seven (verdicts.BadImport number) is = omega (arith, is)
never_seven verdicts.NotAccepted is = omega (arith, is)
never_seven verdicts.HistoryFailed is = omega (arith, is)

module _ (tells : Type 0) (before after : Outputs) (said : Said) (status : ℕ) where
  -- So 7 tells that a write failed, which was counted.
  pub seven_counted : Prints tells before after said status → status ≡ 7 → SomeRose before.out_faults after.out_faults ⊎ SomeRose before.errs_faults after.errs_faults
  seven_counted (inl printed) is = absurd (never_seven said.verdict (sym printed.status_is ∙ is))
  seven_counted (inr cut) is = cut.cause

  -- And any other status tells that none was counted.
  pub others_quiet : Prints tells before after said status → status ≢ 7 → SameCounts before.out_faults after.out_faults × SameCounts before.errs_faults after.errs_faults
  others_quiet (inl printed) other = (printed.out_quiet, printed.errs_quiet)
  others_quiet (inr cut) other = absurd (other cut.status_is)
