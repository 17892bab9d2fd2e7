-- Which job words are, and when they are refused. A job is what words ask, with the address read.
use Rattle.std.specs.Prelude.{◌≡◌, ℕ, List, [], Option, Some, None, Result, Ok, Err}
use Rattle.std.specs.Option.{option_map}
use Rattle.dm_types.specs.declared.address.Address.{Address}
use Rattle.dm_types.specs.declared.item.ItemId.{ItemId}
use Rattle.dm_request.specs.Reading.{address_read}
use Rattle.dm_request.specs.declared.address.AddressFault.{AddressFault}
use Rattle.dm_words.specs.Asked.{Asked, Asks, Gets, Adds, Resumes, Pauses, Cancels, Removes, Shows, Lists, Reports, Exports, Archives, Histories, Imports, Rehearses, Serves, WishOf}
use Rattle.dm_report.specs.declared.verdict.Verdict.{Verdict}
use Rattle.dm_report.specs.declared.verdict.Verdict.TheVariants.{BadWords, BadAddress, NoMemory}
use Rattle.dm_answers.specs.declared.order.Order.{Order}
use Rattle.dm_does.specs.declared.job.Job.{Job}
use Rattle.dm_does.specs.declared.job.Job.TheVariants as jobs

-- the text, or the empty one
abbrev pub or_empty : Option (List ℕ) → List ℕ
or_empty None = []
or_empty (Some text) = text

-- what is to be added: the name is handed in as a wish
abbrev pub order_of : WishOf → Address → Order
order_of wish address = record { word = or_empty wish.word; address = address; wish = or_empty wish.name; digest = wish.digest }

-- the address, where one is read
abbrev pub address_in : Result Address AddressFault → Option Address
address_in (Ok address) = Some address
address_in (Err fault) = None

-- the order for the address that is read of the wish, where one is
abbrev pub order_in : WishOf → Option Order
order_in wish = option_map (order_of wish) (address_in (address_read None wish.address))

abbrev id_of : ℕ → ItemId
id_of id = record { 0 = id }

-- the job that is asked: none where the address is refused, or another run does it
abbrev pub job_of : Asked → Option Job
job_of (Gets wish slices) = option_map (λ order. jobs.Get order slices) (order_in wish)
job_of (Adds wish) = option_map jobs.Add (order_in wish)
job_of (Resumes id slices) = Some (jobs.Resume (id_of id) slices)
job_of (Pauses id) = Some (jobs.Pause (id_of id))
job_of (Cancels id) = Some (jobs.Cancel (id_of id))
job_of (Removes id) = Some (jobs.Remove (id_of id))
job_of (Shows id) = Some (jobs.Show (id_of id))
job_of Lists = Some jobs.List
job_of Reports = Some jobs.Report
job_of Exports = Some jobs.Export
job_of Archives = None
job_of (Histories after limit) = None
job_of (Imports name) = None
job_of (Rehearses number) = None
job_of (Serves port) = None

-- the words ask this job
pub record HasJob (words : List (List ℕ)) (job : Job) : Type 0 where
  pub asked : Asked
  pub asks : Asks words asked
  pub is : job_of asked ≡ Some job

pub record HasSomeJob (words : List (List ℕ)) : Type 0 where
  pub job : Job
  pub has : HasJob words job

-- another run does what is asked: its clause isn't this one
abbrev pub IsElsewhere : Asked → Type 0
IsElsewhere (Gets wish slices) = ⊥
IsElsewhere (Adds wish) = ⊥
IsElsewhere (Resumes id slices) = ⊥
IsElsewhere (Pauses id) = ⊥
IsElsewhere (Cancels id) = ⊥
IsElsewhere (Removes id) = ⊥
IsElsewhere (Shows id) = ⊥
IsElsewhere Lists = ⊥
IsElsewhere Reports = ⊥
IsElsewhere Exports = ⊥
IsElsewhere Archives = Unit {0}
IsElsewhere (Histories after limit) = Unit {0}
IsElsewhere (Imports name) = Unit {0}
IsElsewhere (Rehearses number) = Unit {0}
IsElsewhere (Serves port) = Unit {0}

-- the words ask nothing that is done here
abbrev pub AskNothing : List (List ℕ) → Type 0
AskNothing words = (asked : Asked) → Asks words asked → IsElsewhere asked

-- an address is told, which wants memory to be read
abbrev pub tells_address : Asked → Type 0
tells_address (Gets wish slices) = Unit {0}
tells_address (Adds wish) = Unit {0}
tells_address (Resumes id slices) = ⊥
tells_address (Pauses id) = ⊥
tells_address (Cancels id) = ⊥
tells_address (Removes id) = ⊥
tells_address (Shows id) = ⊥
tells_address Lists = ⊥
tells_address Reports = ⊥
tells_address Exports = ⊥
tells_address Archives = ⊥
tells_address (Histories after limit) = ⊥
tells_address (Imports name) = ⊥
tells_address (Rehearses number) = ⊥
tells_address (Serves port) = ⊥

-- the words ask for an address that is none
pub record HasBadAddress (words : List (List ℕ)) : Type 0 where
  pub asked : Asked
  pub asks : Asks words asked
  pub none : job_of asked ≡ None
  pub told : tells_address asked

pub record HasAddress (words : List (List ℕ)) : Type 0 where
  pub asked : Asked
  pub asks : Asks words asked
  pub told : tells_address asked

-- The words are refused so: they are no command, their address is none, or memory was wanting to read it.
abbrev pub RefusesWords : List (List ℕ) → Verdict → Type 0
RefusesWords words BadWords = AskNothing words
RefusesWords words BadAddress = HasBadAddress words
RefusesWords words NoMemory = HasAddress words
RefusesWords words _ = ⊥
