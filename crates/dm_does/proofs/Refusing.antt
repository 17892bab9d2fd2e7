-- Words are one job or none, and a run refuses them exactly where they are none.
use Rattle.std.proofs.Common.{◌≡◌, ℕ, List, Some, refl, sym, ◌∙◌, ap}
use Rattle.dm_item.proofs.Basics.{none_some, some_same}
use Rattle.dm_report.specs.Said.{Said}
use Rattle.dm_report.specs.declared.verdict.Verdict.{Verdict}
use Rattle.dm_report.specs.declared.verdict.Verdict.TheVariants as verdicts
use Rattle.dm_words.proofs.OneCommand.{one_asked}
use Rattle.dm_words.specs.Asked.{Asked, Gets, Adds, Resumes, Pauses, Cancels, Removes, Shows, Lists, Reports, Exports}
use Rattle.dm_does.specs.declared.job.Job.{Job}
use Rattle.dm_does.specs.Answering.{Answers, Bringing}
use Rattle.dm_does.specs.Jobs.{AskNothing, IsElsewhere, HasBadAddress, HasJob, HasSomeJob, RefusesWords, job_of}
use Rattle.dm_does.specs.Log.{Run, Untouched, Unread, Unopened, Opened}
use Rattle.dm_does.specs.World.{World}

-- words are one job
pub one_job : (words : List (List ℕ)) (a b : Job) → HasJob words a → HasJob words b → a ≡ b
one_job words a b first second = some_same (sym first.is ∙ ap job_of (sym (one_asked words first.asked second.asked first.asks second.asks)) ∙ second.is)

-- what another run does is no job here
no_job_elsewhere : (asked : Asked) (job : Job) → IsElsewhere asked → job_of asked ≡ Some job → ⊥
no_job_elsewhere (Gets wish slices) job elsewhere is = elsewhere
no_job_elsewhere (Adds wish) job elsewhere is = elsewhere
no_job_elsewhere (Resumes id slices) job elsewhere is = elsewhere
no_job_elsewhere (Pauses id) job elsewhere is = elsewhere
no_job_elsewhere (Cancels id) job elsewhere is = elsewhere
no_job_elsewhere (Removes id) job elsewhere is = elsewhere
no_job_elsewhere (Shows id) job elsewhere is = elsewhere
no_job_elsewhere Lists job elsewhere is = elsewhere
no_job_elsewhere Reports job elsewhere is = elsewhere
no_job_elsewhere Exports job elsewhere is = elsewhere
no_job_elsewhere asked job elsewhere is = none_some is

-- words that ask nothing are none, and so are words with a bad address
pub nothing_asked : (words : List (List ℕ)) → AskNothing words → HasSomeJob words → ⊥
nothing_asked words none some = no_job_elsewhere some.has.asked some.job (none some.has.asked some.has.asks) some.has.is

pub bad_address : (words : List (List ℕ)) → HasBadAddress words → HasSomeJob words → ⊥
bad_address words bad some = none_some (sym bad.none ∙ ap job_of (sym (one_asked words bad.asked some.has.asked bad.asks some.has.asks)) ∙ some.has.is)

-- what is known of a run of words that are no job: nothing was done, and they are refused for what they are, or memory was wanting to read them
pub record IsRefusal (words : List (List ℕ)) (before after : World) (said : Said) (run : Run) : Type 0 where
  pub run_is : run ≡ Untouched
  pub same : after ≡ before
  pub refused : RefusesWords words said.verdict

-- always where
pub no_job_refused : (brings : ℕ → Bringing) (tells : Type 0) (words : List (List ℕ)) (at : ℕ) (before after : World) (said : Said) (run : Run) → (HasSomeJob words → ⊥) → Answers brings tells words at before after said run
    → IsRefusal words before after said run
no_job_refused brings tells words at before after said Untouched none answers = record { run_is = refl; same = answers.same; refused = answers.refused }
no_job_refused brings tells words at before after said Unread none answers = absurd (none answers.has)
no_job_refused brings tells words at before after said (Unopened found recorded failed rest) none answers = absurd (none answers.has)
no_job_refused brings tells words at before after said (Opened log) none answers = absurd (none (record { job = answers.job; has = answers.has }))

-- only where: words that are a job are refused for want of memory alone
pub job_refused : (words : List (List ℕ)) (verdict : Verdict) → HasSomeJob words → RefusesWords words verdict → verdict ≡ verdicts.NoMemory
job_refused words verdicts.BadWords some refused = absurd (nothing_asked words refused some)
job_refused words verdicts.BadAddress some refused = absurd (bad_address words refused some)
job_refused words verdicts.NoMemory some refused = refl
job_refused words verdict some refused = absurd refused
