-- What stands after a command's name: options and operands, in any order.
use Rattle.std.specs.Prelude.{◌≡◌, ◌≢◌, ℕ, ◌<◌, List, [], ◌∷◌, ◌++◌, length, slice_index, codes, Option}
use Rattle.std.specs.List.{All, find}
use Rattle.std.specs.Option.{option_map}
use Rattle.std.specs.Str.{bytes_eq}

-- an operand or a value is not empty and begins with no hyphen
pub record IsOperand (word : List ℕ) : Type 0 where
  pub filled : 0 < length word
  pub begins_no_hyphen : slice_index word 0 ≢ 45

-- an option is a word of two hyphens and more
pub record IsOption (word : List ℕ) : Type 0 where
  pub letters : List ℕ
  pub is : word ≡ codes "--" ++ letters
  pub filled : 0 < length letters

-- an option with its value
pub record Setting : Type 0 where
  pub option : List ℕ
  pub value : List ℕ

-- The words are one piece after another: an operand is one word, an option with its value is two. Told are the options and the operands, each in their order.
pub data ArePieces : List (List ℕ) → List Setting → List (List ℕ) → Type 0 where
  nothing : ArePieces [] [] []
  with_operand : (word : List ℕ) (rest : List (List ℕ)) (settings : List Setting) (operands : List (List ℕ)) → IsOperand word → ArePieces rest settings operands → ArePieces (word ∷ rest) settings (word ∷ operands)
  with_option : (name value : List ℕ) (rest : List (List ℕ)) (settings : List Setting) (operands : List (List ℕ)) → IsOption name → IsOperand value → ArePieces rest settings operands
      → ArePieces (name ∷ value ∷ rest) (record { option = name; value = value } ∷ settings) operands

-- no option stands twice
abbrev pub AreOnce : List Setting → Type 0
AreOnce [] = Unit {0}
AreOnce (setting ∷ rest) = All (λ other. other.option ≢ setting.option) rest × AreOnce rest

-- what an option is given, where it is there
abbrev pub value_of : List ℕ → List Setting → Option (List ℕ)
value_of option settings = option_map (λ setting. setting.value) (find (λ setting. bytes_eq setting.option option) settings)
