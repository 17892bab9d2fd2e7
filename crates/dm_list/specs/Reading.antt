-- What is known of words that are read as a job.
use Rattle.std.specs.Prelude.{◌≡◌, ◌≤◌, ℕ, None, IfSome}
use Rattle.dm_report.specs.declared.verdict.Verdict.{Verdict}
use Rattle.dm_report.specs.declared.verdict.Verdict.TheVariants.{BadWords, BadAddress, NoMemory}
use Rattle.dm_words.specs.Asked.{Asked, Gets, Adds, Resumes, Pauses, Cancels, Removes, Shows, Lists, Reports, Exports, Archives, Histories, Imports, Rehearses, Serves, WishOf}
use Rattle.dm_words.specs.Values.{IsName, IsWord}
use Rattle.dm_answers.specs.Add.{IsOrder}
use Rattle.dm_does.specs.declared.job.Job.{Job}
use Rattle.dm_does.specs.declared.job.Job.TheVariants as jobs
use Rattle.dm_does.specs.Jobs.{IsElsewhere, job_of, order_in, tells_address}

-- a word and a name, where they are told, keep their rules
pub record IsGoodWish (wish : WishOf) : Type 0 where
  pub is_word : IfSome wish.word IsWord
  pub is_name : IfSome wish.name IsName

-- in so many parts a content may be asked for at once
pub record AreSlices (slices : ℕ) : Type 0 where
  pub some : 1 ≤ slices
  pub few : slices ≤ 16

-- what is told with what is asked keeps its rules
abbrev pub KeepsRules : Asked → Type 0
KeepsRules (Gets wish slices) = IsGoodWish wish × AreSlices slices
KeepsRules (Adds wish) = IsGoodWish wish
KeepsRules (Resumes id slices) = AreSlices slices
KeepsRules (Pauses id) = Unit {0}
KeepsRules (Cancels id) = Unit {0}
KeepsRules (Removes id) = Unit {0}
KeepsRules (Shows id) = Unit {0}
KeepsRules Lists = Unit {0}
KeepsRules Reports = Unit {0}
KeepsRules Exports = Unit {0}
KeepsRules Archives = Unit {0}
KeepsRules (Histories after limit) = Unit {0}
KeepsRules (Imports name) = Unit {0}
KeepsRules (Rehearses number) = Unit {0}
KeepsRules (Serves port) = Unit {0}

-- no address is read of the wish, or memory was wanting to read it
abbrev pub RefusesWish : WishOf → Verdict → Type 0
RefusesWish wish BadAddress = order_in wish ≡ None
RefusesWish wish NoMemory = Unit {0}
RefusesWish wish _ = ⊥

-- the same of what is asked
abbrev pub RefusesAsked : Asked → Verdict → Type 0
RefusesAsked asked BadWords = IsElsewhere asked
RefusesAsked asked BadAddress = (job_of asked ≡ None) × tells_address asked
RefusesAsked asked NoMemory = tells_address asked
RefusesAsked asked _ = ⊥

-- what is told with a job keeps its limits
abbrev pub FitsJob : Job → Type 0
FitsJob (jobs.Get order slices) = IsOrder order × AreSlices slices
FitsJob (jobs.Add order) = IsOrder order
FitsJob (jobs.Resume id slices) = AreSlices slices
FitsJob (jobs.Pause id) = Unit {0}
FitsJob (jobs.Cancel id) = Unit {0}
FitsJob (jobs.Remove id) = Unit {0}
FitsJob (jobs.Show id) = Unit {0}
FitsJob jobs.List = Unit {0}
FitsJob jobs.Report = Unit {0}
FitsJob jobs.Export = Unit {0}
