-- What words ask. A command is the whole list of words.
use Rattle.std.specs.Prelude.{◌≡◌, ℕ, List, codes, Option, Some, None, IfSome}
use Rattle.std.specs.Option.{option_copied, option_to_list}
use Rattle.dm_words.specs.Pieces.{Setting, value_of}
use Rattle.dm_words.specs.Table.{IsCommand}
use Rattle.dm_words.specs.Values.{IsAfter, IsDigestOf, IsFileName, IsLimit, IsName, IsNumber, IsPort, IsSlices, IsWord, IsWorkers}
use Rattle.dm_words.specs.declared.table.CommandName.{CommandName}
use Rattle.dm_words.specs.declared.table.CommandName.TheVariants as names
use Rattle.dm_words.specs.declared.command.Command.{Command}
use Rattle.dm_words.specs.declared.command.Command.TheVariants as commands
use Rattle.dm_words.specs.declared.command.Wish.{Wish}

-- an item that is wanted: its address and, where they are told, a word, a name for its file and the SHA-256 of its content
pub record WishOf : Type 0 where
  pub word : Option (List ℕ)
  pub name : Option (List ℕ)
  pub digest : Option (List ℕ)
  pub address : List ℕ

pub data Asked : Type 0 where
  Gets : (wish : WishOf) (slices : ℕ) → Asked
  Adds : (wish : WishOf) → Asked
  Resumes : (id slices : ℕ) → Asked
  Pauses : (id : ℕ) → Asked
  Cancels : (id : ℕ) → Asked
  Removes : (id : ℕ) → Asked
  Shows : (id : ℕ) → Asked
  Lists : Asked
  Reports : Asked
  Exports : Asked
  Archives : Asked
  Histories : (after limit : ℕ) → Asked
  Imports : (name : List ℕ) → Asked
  Rehearses : (number : ℕ) → Asked
  Serves : (port : ℕ) → Asked

abbrev pub command_of : Asked → CommandName
command_of (Gets wish slices) = names.Get
command_of (Adds wish) = names.Add
command_of (Resumes id slices) = names.Resume
command_of (Pauses id) = names.Pause
command_of (Cancels id) = names.Cancel
command_of (Removes id) = names.Remove
command_of (Shows id) = names.Show
command_of Lists = names.List
command_of Reports = names.Report
command_of Exports = names.Export
command_of Archives = names.Archive
command_of (Histories after limit) = names.History
command_of (Imports name) = names.Import
command_of (Rehearses number) = names.Rehearse
command_of (Serves port) = names.Serve

-- what is told with a command: the value of each option, and the operand, where they are there
pub record Told : Type 0 where
  pub word : Option (List ℕ)
  pub name : Option (List ℕ)
  pub sha256 : Option (List ℕ)
  pub slices : Option (List ℕ)
  pub after : Option (List ℕ)
  pub limit : Option (List ℕ)
  pub port : Option (List ℕ)
  pub workers : Option (List ℕ)
  pub operand : Option (List ℕ)

abbrev pub told_by : List Setting → Option (List ℕ) → Told
told_by settings operand =
    record {
      word = value_of (codes "--word") settings;
      name = value_of (codes "--name") settings;
      sha256 = value_of (codes "--sha256") settings;
      slices = value_of (codes "--slices") settings;
      after = value_of (codes "--after") settings;
      limit = value_of (codes "--limit") settings;
      port = value_of (codes "--port") settings;
      workers = value_of (codes "--workers") settings;
      operand = operand;
    }

-- the words are this command, with one operand or none, and tell this
pub record IsTold (name : CommandName) (words : List (List ℕ)) (told : Told) : Type 0 where
  pub settings : List Setting
  pub operand : Option (List ℕ)
  pub is : IsCommand name words settings (option_to_list operand)
  pub told_is : told ≡ told_by settings operand

-- the operand is the address, and each value keeps its rule
pub record IsWish (told : Told) (wish : WishOf) : Type 0 where
  pub word_is : told.word ≡ wish.word
  pub name_is : told.name ≡ wish.name
  pub address_is : told.operand ≡ Some wish.address
  pub is_word : IfSome wish.word IsWord
  pub is_name : IfSome wish.name IsName
  pub is_digest : IsDigestOf told.sha256 wish.digest

-- the operand is the digits of the id, or of another number
pub record IsIdOf (told : Told) (id : ℕ) : Type 0 where
  pub digits : List ℕ
  pub operand_is : told.operand ≡ Some digits
  pub is_id : IsNumber digits id

-- the operand is the name of a file
pub record IsFileOf (told : Told) (name : List ℕ) : Type 0 where
  pub operand_is : told.operand ≡ Some name
  pub is_name : IsFileName name

-- no operand, and which rows are shown
pub record IsPage (told : Told) (after limit : ℕ) : Type 0 where
  pub none : told.operand ≡ None
  pub after_is : IsAfter told.after after
  pub limit_is : IsLimit told.limit limit

-- no operand, and where the service listens
pub record IsService (told : Told) (port : ℕ) : Type 0 where
  pub none : told.operand ≡ None
  pub port_is : IsPort told.port port
  pub workers_are : IsWorkers told.workers

-- what is told is what this asks
abbrev pub Makes : Asked → Told → Type 0
Makes (Gets wish slices) told = IsWish told wish × IsSlices told.slices slices
Makes (Adds wish) told = IsWish told wish
Makes (Resumes id slices) told = IsIdOf told id × IsSlices told.slices slices
Makes (Pauses id) told = IsIdOf told id
Makes (Cancels id) told = IsIdOf told id
Makes (Removes id) told = IsIdOf told id
Makes (Shows id) told = IsIdOf told id
Makes Lists told = told.operand ≡ None
Makes Reports told = told.operand ≡ None
Makes Exports told = told.operand ≡ None
Makes Archives told = told.operand ≡ None
Makes (Histories after limit) told = IsPage told after limit
Makes (Imports name) told = IsFileOf told name
Makes (Rehearses number) told = IsIdOf told number
Makes (Serves port) told = IsService told port

-- the words ask this
pub record Asks (words : List (List ℕ)) (asked : Asked) : Type 0 where
  pub told : Told
  pub is : IsTold (command_of asked) words told
  pub makes : Makes asked told

-- what was read
abbrev pub wish_of : Wish → WishOf
wish_of wish = record { word = option_copied wish.word; name = option_copied wish.name; digest = wish.digest; address = wish.address.now }

abbrev pub asked : Command → Asked
asked (commands.Get wish slices) = Gets (wish_of wish) slices
asked (commands.Add wish) = Adds (wish_of wish)
asked (commands.Resume id slices) = Resumes id.0 slices
asked (commands.Pause id) = Pauses id.0
asked (commands.Cancel id) = Cancels id.0
asked (commands.Remove id) = Removes id.0
asked (commands.Show id) = Shows id.0
asked commands.List = Lists
asked commands.Report = Reports
asked commands.Export = Exports
asked commands.Archive = Archives
asked (commands.History after limit) = Histories after limit
asked (commands.Import name) = Imports name.now
asked (commands.Rehearse number) = Rehearses number
asked (commands.Serve port) = Serves port
