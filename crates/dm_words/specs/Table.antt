-- The commands, and the options of each.
use Rattle.std.specs.Prelude.{◌≡◌, ℕ, List, [], ◌∷◌, codes}
use Rattle.std.specs.List.{All, Contains}
use Rattle.dm_words.specs.Pieces.{ArePieces, AreOnce, Setting}
use Rattle.dm_words.specs.declared.table.CommandName.{CommandName}
use Rattle.dm_words.specs.declared.table.CommandName.TheVariants.{Get, Add, Resume, Pause, Cancel, Remove, Show, List as ListAll, Report, Export, Archive, History, Import, Rehearse, Serve}

-- the first word
abbrev pub name_of : CommandName → List ℕ
name_of Get = codes "get"
name_of Add = codes "add"
name_of Resume = codes "resume"
name_of Pause = codes "pause"
name_of Cancel = codes "cancel"
name_of Remove = codes "remove"
name_of Show = codes "show"
name_of ListAll = codes "list"
name_of Report = codes "report"
name_of Export = codes "export"
name_of Archive = codes "archive"
name_of History = codes "history"
name_of Import = codes "import"
name_of Rehearse = codes "rehearse"
name_of Serve = codes "serve"

-- the options that may be set
abbrev pub options_of : CommandName → List (List ℕ)
options_of Get = codes "--word" ∷ codes "--name" ∷ codes "--sha256" ∷ codes "--slices" ∷ []
options_of Add = codes "--word" ∷ codes "--name" ∷ codes "--sha256" ∷ []
options_of Resume = codes "--slices" ∷ []
options_of Pause = []
options_of Cancel = []
options_of Remove = []
options_of Show = []
options_of ListAll = []
options_of Report = []
options_of Export = []
options_of Archive = []
options_of History = codes "--after" ∷ codes "--limit" ∷ []
options_of Import = []
options_of Rehearse = []
options_of Serve = codes "--port" ∷ codes "--workers" ∷ []

-- The words are pieces. Their options are some of the command's, each at most once.
pub record AreFor (name : CommandName) (words : List (List ℕ)) (settings : List Setting) (operands : List (List ℕ)) : Type 0 where
  pub pieces : ArePieces words settings operands
  pub known : All (λ setting. Contains (options_of name) setting.option) settings
  pub once : AreOnce settings

-- the command's name, and then its options and the operands
pub record IsCommand (name : CommandName) (words : List (List ℕ)) (settings : List Setting) (operands : List (List ℕ)) : Type 0 where
  pub rest : List (List ℕ)
  pub is : words ≡ name_of name ∷ rest
  pub has : AreFor name rest settings operands
