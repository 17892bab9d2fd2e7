-- What a command comes to where nothing fails.
use Rattle.std.specs.Prelude.{◌≡◌, ℕ, false, List, [], ◌++◌}
use Rattle.dm_item.specs.Lawful.{History, items_of}
use Rattle.dm_report.specs.Said.{Said, only}
use Rattle.dm_report.specs.declared.verdict.Verdict.TheVariants.{NoMemory}
use Rattle.dm_does.specs.declared.job.Job.{Job}
use Rattle.dm_does.specs.Answering.{Rests, given_by}
use Rattle.dm_does.specs.Doing.{does}
use Rattle.dm_does.specs.Jobs.{HasJob, RefusesWords}
use Rattle.dm_does.specs.Log.{Log, Run, Untouched, Opened, kept_of, opened_of}
use Rattle.dm_does.specs.Saying.{said_by}

-- The words are a job, all of its own entries were recorded, an item that was brought rests, and it says what it says of the items at the end.
pub record GivesAll (words : List (List ℕ)) (at : ℕ) (log : Log) (said : Said) : Type 0 where
  pub job : Job
  pub has : HasJob words job
  pub whole : log.broken ≡ false
  pub none_failed : log.failed ≡ []
  pub fetched : History
  pub more_is : log.more ≡ (does job (given_by (opened_of log) at)).entries ++ fetched
  pub says : said ≡ said_by (items_of (kept_of log)) (does job (given_by (opened_of log) at)).course
  pub rests : Rests (items_of (kept_of log)) (does job (given_by (opened_of log) at)).course

-- So it is where no call on the disk failed, and nobody but this program wrote the disk: what a command does is all done, or its words are refused, or memory was wanting.
pub data Gives (words : List (List ℕ)) (at : ℕ) (said : Said) : Run → Type 0 where
  refused : RefusesWords words said.verdict → said ≡ only said.verdict → Gives words at said Untouched
  wanting : (run : Run) → said ≡ only NoMemory → Gives words at said run
  all : (log : Log) → GivesAll words at log said → Gives words at said (Opened log)
