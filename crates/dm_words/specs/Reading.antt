-- What each step of reading says to the next.
use Rattle.std.specs.Prelude.{◌≡◌, ℕ, if◌then◌else◌, List, [], ◌∷◌, ◌++◌, Option, None, slice_get}
use Rattle.std.specs.List.{Any, Contains}
use Rattle.std.specs.Option.{option_copied, option_to_list}
use Rattle.std.specs.Str.{bytes_eq}
use Rattle.dm_words.specs.Pieces.{IsOperand, Setting}
use Rattle.dm_words.specs.Table.{AreFor, options_of}
use Rattle.dm_words.specs.Asked.{Asked, Makes, Told, command_of}
use Rattle.dm_words.specs.declared.pieces.Pieces.{Pieces}
use Rattle.dm_words.specs.declared.table.CommandName.{CommandName}

-- what was read
abbrev pub told_of : Pieces → Told
told_of pieces = record { word = option_copied pieces.word; name = option_copied pieces.name; sha256 = option_copied pieces.sha256; slices = option_copied pieces.slices; after = option_copied pieces.after; limit = option_copied pieces.limit; port = option_copied pieces.port; workers = option_copied pieces.workers; operand = option_copied pieces.operand }

-- the word behind the first that is the option
abbrev pub word_after : List ℕ → List (List ℕ) → Option (List ℕ)
word_after option [] = None
word_after option (word ∷ rest) = if bytes_eq word option then slice_get rest 0 else word_after option rest

-- an option of the command with a value, which isn't set again in what follows
pub record IsSetting (name : CommandName) (option value : List ℕ) (rest : List (List ℕ)) : Type 0 where
  pub operand : IsOperand value
  pub known : Contains (options_of name) option
  pub fresh : Any (λ word. word ≡ option) rest → ⊥

-- behind an operand, where one was said, the words say the rest, and the operand is in all this one
pub record SaysRest (name : CommandName) (said : Option (List ℕ)) (words : List (List ℕ)) (operand : Option (List ℕ)) : Type 0 where
  pub settings : List Setting
  pub operands : List (List ℕ)
  pub has : AreFor name words settings operands
  pub operand_is : option_to_list said ++ operands ≡ option_to_list operand

-- a command of this name asks this, by what is told
pub record IsMade (name : CommandName) (told : Told) (asked : Asked) : Type 0 where
  pub named : command_of asked ≡ name
  pub makes : Makes asked told
