-- What each step of reading keeps of what the words say.
use Rattle.std.proofs.Common.{◌≡◌, ◌≢◌, ℕ, Bool, true, false, cond, List, [], ◌∷◌, ◌++◌, Option, Some, None, inl, inr, refl, sym, ◌∙◌, ap, subst, arith, codes}
use Rattle.std.specs.Prelude.{slice_get}
use Rattle.std.specs.List.{All, Any, Contains, find}
use Rattle.std.specs.Option.{option_map, option_to_list}
use Rattle.std.specs.Str.{bytes_eq}
use Rattle.std.proofs.lemmas.Bool.{false_from_ne_true}
use Rattle.std.proofs.lemmas.List.{append-nil}
use Rattle.std.proofs.lemmas.List.Elements.{All-nil, All-cons, All-head, All-tail, All-contains}
use Rattle.std.proofs.lemmas.Slice.Eq.{bytes_eq-Decides}
use Rattle.dm_words.specs.Pieces.{ArePieces, AreOnce, IsOperand, IsOption, Setting, nothing, with_operand, with_option, value_of}
use Rattle.dm_words.specs.Table.{options_of}
use Rattle.dm_words.specs.Reading.{IsSetting, SaysRest, word_after}
use Rattle.dm_words.specs.declared.table.CommandName.{CommandName}
use Rattle.dm_words.specs.declared.table.CommandName.TheVariants.{Get, Add, Resume, Pause, Cancel, Remove, Show, List as ListAll, Report, Export, Archive, History, Import, Rehearse, Serve}
use Rattle.dm_words.proofs.OnePieces.{apart, begins, by_operand, by_option}
use Rattle.dm_words.proofs.Texts.{any_none, any_first, any_later, any_cases}

-- ---- each option of the table is one

dashed : (letters : List ℕ) (first : ℕ) → IsOption (codes "--" ++ first ∷ letters)
dashed letters first = record { letters = first ∷ letters; is = refl; filled = omega arith }

none_options : All IsOption []
none_options = All-nil IsOption

word_option : IsOption (codes "--word")
word_option = dashed (codes "ord") 119

name_option : IsOption (codes "--name")
name_option = dashed (codes "ame") 110

sha256_option : IsOption (codes "--sha256")
sha256_option = dashed (codes "ha256") 115

slices_option : IsOption (codes "--slices")
slices_option = dashed (codes "lices") 115

after_option : IsOption (codes "--after")
after_option = dashed (codes "fter") 97

limit_option : IsOption (codes "--limit")
limit_option = dashed (codes "imit") 108

port_option : IsOption (codes "--port")
port_option = dashed (codes "ort") 112

workers_option : IsOption (codes "--workers")
workers_option = dashed (codes "orkers") 119

with_wish : (rest : List (List ℕ)) → All IsOption rest → All IsOption (codes "--word" ∷ codes "--name" ∷ codes "--sha256" ∷ rest)
with_wish rest all =
    All-cons IsOption (codes "--word") (codes "--name" ∷ codes "--sha256" ∷ rest) word_option
    (All-cons IsOption (codes "--name") (codes "--sha256" ∷ rest) name_option (All-cons IsOption (codes "--sha256") rest sha256_option all))

slices_alone : All IsOption (codes "--slices" ∷ [])
slices_alone = All-cons IsOption (codes "--slices") [] slices_option none_options

two_options : (first second : List ℕ) → IsOption first → IsOption second → All IsOption (first ∷ second ∷ [])
two_options first second is other = All-cons IsOption first (second ∷ []) is (All-cons IsOption second [] other none_options)

all_options : (name : CommandName) → All IsOption (options_of name)
all_options Get = with_wish (codes "--slices" ∷ []) slices_alone
all_options Add = with_wish [] none_options
all_options Resume = slices_alone
all_options Pause = none_options
all_options Cancel = none_options
all_options Remove = none_options
all_options Show = none_options
all_options ListAll = none_options
all_options Report = none_options
all_options Export = none_options
all_options Archive = none_options
all_options History = two_options (codes "--after") (codes "--limit") after_option limit_option
all_options Import = none_options
all_options Rehearse = none_options
all_options Serve = two_options (codes "--port") (codes "--workers") port_option workers_option

is_option : (name : CommandName) (option : List ℕ) → Contains (options_of name) option → IsOption option
is_option name option known = All-contains IsOption (options_of name) option (all_options name) known

-- ---- options that are set again

-- where no word is the option, none of the settings is of it
unset : (option : List ℕ) (words : List (List ℕ)) (settings : List Setting) (operands : List (List ℕ)) → ArePieces words settings operands → (Any (λ word. word ≡ option) words → ⊥)
    → All (λ setting. setting.option ≢ option) settings
unset option _ _ _ nothing fresh = All-nil (λ setting. setting.option ≢ option)
unset option _ _ _ (with_operand word rest settings operands good pieces) fresh = unset option rest settings operands pieces (λ some. fresh (any_later (λ w. w ≡ option) word rest some))
unset option _ _ _ (with_option name value rest settings operands named good pieces) fresh =
    All-cons (λ setting. setting.option ≢ option) (record { option = name; value = value }) settings (λ same. fresh (any_first (λ w. w ≡ option) name (value ∷ rest) same))
    (unset option rest settings operands pieces (λ some. fresh (any_later (λ w. w ≡ option) name (value ∷ rest) (any_later (λ w. w ≡ option) value rest some))))

-- and the other way round
fresh_in : (option : List ℕ) → IsOption option → (words : List (List ℕ)) (settings : List Setting) (operands : List (List ℕ)) → ArePieces words settings operands
    → All (λ setting. setting.option ≢ option) settings → Any (λ word. word ≡ option) words → ⊥
fresh_in option is _ _ _ nothing others some = any_none (λ w. w ≡ option) some
fresh_in option is _ _ _ (with_operand word rest settings operands good pieces) others some = elim (any_cases (λ w. w ≡ option) word rest some) [
  | inl same ↦ absurd (apart word (subst IsOption (sym same) is) good)
  | inr later ↦ fresh_in option is rest settings operands pieces others later
]
fresh_in option is _ _ _ (with_option name value rest settings operands named good pieces) others some = elim (any_cases (λ w. w ≡ option) name (value ∷ rest) some) [
  | inl same ↦ All-head (λ setting. setting.option ≢ option) (record { option = name; value = value }) settings others same
  | inr later ↦ elim (any_cases (λ w. w ≡ option) value rest later) [
    | inl same ↦ absurd (apart value (subst IsOption (sym same) is) good)
    | inr more ↦ fresh_in option is rest settings operands pieces (All-tail (λ setting. setting.option ≢ option) (record { option = name; value = value }) settings others) more
  ]
]

-- ---- the word behind an option

seen : (t : Bool) (option name value : List ℕ) (rest : List (List ℕ)) (settings : List Setting) → bytes_eq value option ≡ false → word_after option rest ≡ value_of option settings
    → cond t (slice_get (value ∷ rest) 0) (word_after option (value ∷ rest))
    ≡ option_map (λ (s : Setting). s.value) (cond t (Some (record { option = name; value = value })) (find (λ (s : Setting). bytes_eq s.option option) settings))
seen true option name value rest settings other same = refl
seen false option name value rest settings other same = ap (λ (b : Bool). cond b (slice_get rest 0) (word_after option rest)) other ∙ same

no_option : (option word : List ℕ) → IsOption option → IsOperand word → bytes_eq word option ≡ false
no_option option word is good = false_from_ne_true (bytes_eq word option) (λ same. apart word (subst IsOption (sym ((bytes_eq-Decides word option).0 same)) is) good)

pub value_is : (option : List ℕ) → IsOption option → (words : List (List ℕ)) (settings : List Setting) (operands : List (List ℕ)) → ArePieces words settings operands → word_after option words ≡ value_of option settings
value_is option is _ _ _ nothing = refl
value_is option is _ _ _ (with_operand word rest settings operands good pieces) =
    ap (λ (b : Bool). cond b (slice_get rest 0) (word_after option rest)) (no_option option word is good) ∙ value_is option is rest settings operands pieces
value_is option is _ _ _ (with_option name value rest settings operands named good pieces) =
    seen (bytes_eq name option) option name value rest settings (no_option option value is good) (value_is option is rest settings operands pieces)

-- ---- steps

pub rest_done : (name : CommandName) (said : Option (List ℕ)) → SaysRest name said [] said
rest_done name said = record {
  settings = [];
  operands = [];
  has = record { pieces = nothing; known = All-nil (λ setting. Contains (options_of name) setting.option); once = tt };
  operand_is = append-nil (option_to_list said);
}

operand_then : (name : CommandName) (word : List ℕ) (rest : List (List ℕ)) (all : Option (List ℕ)) → IsOperand word → SaysRest name (Some word) rest all → SaysRest name None (word ∷ rest) all
operand_then name word rest all good says = record {
  settings = says.settings;
  operands = word ∷ says.operands;
  has = record { pieces = with_operand word rest says.settings says.operands good says.has.pieces; known = says.has.known; once = says.has.once };
  operand_is = says.operand_is;
}

operand_since : (name : CommandName) (word : List ℕ) (rest : List (List ℕ)) (all : Option (List ℕ)) → IsOperand word → SaysRest name None (word ∷ rest) all → SaysRest name (Some word) rest all
operand_since name word rest all good says = elim (begins (word ∷ rest) says.settings says.operands says.has.pieces word rest refl) [
  | by_operand more is operand pieces ↦ record { settings = says.settings; operands = more; has = record { pieces = pieces; known = says.has.known; once = says.has.once }; operand_is = sym is ∙ says.operand_is }
  | by_option value after more is set_is named filled pieces ↦ absurd (apart word named good)
]

two_operands : (first word : List ℕ) (more : List (List ℕ)) (all : Option (List ℕ)) → first ∷ word ∷ more ≡ option_to_list all → ⊥
two_operands first word more None same = absurd cc
two_operands first word more (Some w) same = absurd cc

pub operand_twice : (name : CommandName) (first word : List ℕ) (rest : List (List ℕ)) (all : Option (List ℕ)) → IsOperand word → SaysRest name (Some first) (word ∷ rest) all → ⊥
operand_twice name first word rest all good says = elim (begins (word ∷ rest) says.settings says.operands says.has.pieces word rest refl) [
  | by_operand more is operand pieces ↦ two_operands first word more all (ap (λ (l : List (List ℕ)). first ∷ l) (sym is) ∙ says.operand_is)
  | by_option value after more is set_is named filled pieces ↦ absurd (apart word named good)
]

option_then : (name : CommandName) (said : Option (List ℕ)) (option value : List ℕ) (rest : List (List ℕ)) (all : Option (List ℕ)) → IsSetting name option value rest → SaysRest name said rest all
    → SaysRest name said (option ∷ value ∷ rest) all
option_then name said option value rest all sets says =
    let set : Setting = record { option = option; value = value } in
    record {
      settings = set ∷ says.settings;
      operands = says.operands;
      has = record {
        pieces = with_option option value rest says.settings says.operands (is_option name option sets.known) sets.operand says.has.pieces;
        known = All-cons (λ setting. Contains (options_of name) setting.option) set says.settings sets.known says.has.known;
        once = (unset option rest says.settings says.operands says.has.pieces sets.fresh, says.has.once);
      };
      operand_is = says.operand_is;
    }

-- the words begin with an option
pub record SetsFirst (name : CommandName) (said : Option (List ℕ)) (option value : List ℕ) (rest : List (List ℕ)) (all : Option (List ℕ)) : Type 0 where
  pub sets : IsSetting name option value rest
  pub says : SaysRest name said rest all

sets_first : (name : CommandName) (said : Option (List ℕ)) (option value : List ℕ) (rest : List (List ℕ)) (more settings : List Setting) (operands : List (List ℕ)) (all : Option (List ℕ))
    → settings ≡ record { option = option; value = value } ∷ more → IsOption option → IsOperand value → ArePieces rest more operands → All (λ setting. Contains (options_of name) setting.option) settings → AreOnce settings
    → option_to_list said ++ operands ≡ option_to_list all → SetsFirst name said option value rest all
sets_first name said option value rest more settings operands all is named good pieces known once operand_is =
    let set : Setting = record { option = option; value = value } in
    let known_too : All (λ setting. Contains (options_of name) setting.option) (set ∷ more) = subst (All (λ setting. Contains (options_of name) setting.option)) is known in
    let once_too : AreOnce (set ∷ more) = subst AreOnce is once in
    record {
      sets = record { operand = good; known = All-head (λ setting. Contains (options_of name) setting.option) set more known_too; fresh = fresh_in option named rest more operands pieces once_too.0 };
      says = record {
        settings = more;
        operands = operands;
        has = record { pieces = pieces; known = All-tail (λ setting. Contains (options_of name) setting.option) set more known_too; once = once_too.1 };
        operand_is = operand_is;
      };
    }

option_since : (name : CommandName) (said : Option (List ℕ)) (option value : List ℕ) (rest : List (List ℕ)) (all : Option (List ℕ)) → (IsOperand option → ⊥) → SaysRest name said (option ∷ value ∷ rest) all
    → SetsFirst name said option value rest all
option_since name said option value rest all not says = elim (begins (option ∷ value ∷ rest) says.settings says.operands says.has.pieces option (value ∷ rest) refl) [
  | by_operand more is operand pieces ↦ absurd (not operand)
  | by_option found after more is set_is named filled pieces ↦
      let same_value : found ≡ value = cc in
      let same_rest : after ≡ rest = cc in
      sets_first name said option value rest more says.settings says.operands all (set_is ∙ ap (λ (v : List ℕ). record { option = option; value = v } ∷ more) same_value) named (subst IsOperand same_value filled)
      (subst (λ (l : List (List ℕ)). ArePieces l more says.operands) same_rest pieces) says.has.known says.has.once says.operand_is
]

pub option_alone : (name : CommandName) (said : Option (List ℕ)) (option : List ℕ) (all : Option (List ℕ)) → (IsOperand option → ⊥) → SaysRest name said (option ∷ []) all → ⊥
option_alone name said option all not says = elim (begins (option ∷ []) says.settings says.operands says.has.pieces option [] refl) [
  | by_operand more is operand pieces ↦ not operand
  | by_option found after more is set_is named filled pieces ↦ absurd cc
]

-- ---- the steps by what was looked at: the words' first, as a word and as its bytes

pub met_operand : (name : CommandName) (said : Option (List ℕ)) (words rest : List (List ℕ)) (first seen : List ℕ) (all : Option (List ℕ)) → said ≡ None → words ≡ first ∷ rest → seen ≡ first → IsOperand seen
    → SaysRest name (Some seen) rest all → SaysRest name said words all
met_operand name said words rest first seen all none are same good says =
    subst (λ (o : Option (List ℕ)). SaysRest name o words all) (sym none)
    (subst (λ (l : List (List ℕ)). SaysRest name None l all) (ap (λ (w : List ℕ). w ∷ rest) same ∙ sym are) (operand_then name seen rest all good says))

pub since_operand : (name : CommandName) (said : Option (List ℕ)) (words rest : List (List ℕ)) (first seen : List ℕ) (all : Option (List ℕ)) → said ≡ None → words ≡ first ∷ rest → seen ≡ first → IsOperand seen
    → SaysRest name said words all → SaysRest name (Some seen) rest all
since_operand name said words rest first seen all none are same good says =
    operand_since name seen rest all good
    (subst (λ (l : List (List ℕ)). SaysRest name None l all) (are ∙ ap (λ (w : List ℕ). w ∷ rest) (sym same)) (subst (λ (o : Option (List ℕ)). SaysRest name o words all) none says))

pub met_option : (name : CommandName) (said : Option (List ℕ)) (words rest after : List (List ℕ)) (option value : List ℕ) (all : Option (List ℕ)) → words ≡ option ∷ rest → rest ≡ value ∷ after
    → IsSetting name option value after → SaysRest name said after all → SaysRest name said words all
met_option name said words rest after option value all are next sets says =
    subst (λ (l : List (List ℕ)). SaysRest name said l all) (ap (λ (l : List (List ℕ)). option ∷ l) (sym next) ∙ sym are) (option_then name said option value after all sets says)

pub since_option : (name : CommandName) (said : Option (List ℕ)) (words rest after : List (List ℕ)) (option seen value : List ℕ) (all : Option (List ℕ)) → words ≡ option ∷ rest → rest ≡ value ∷ after → seen ≡ option
    → (IsOperand seen → ⊥) → SaysRest name said words all → SetsFirst name said option value after all
since_option name said words rest after option seen value all are next same not says =
    option_since name said option value after all (λ good. not (subst IsOperand (sym same) good))
    (subst (λ (l : List (List ℕ)). SaysRest name said l all) (are ∙ ap (λ (l : List (List ℕ)). option ∷ l) next) says)

-- ---- the word behind an option, step by step

pub after_found : (option : List ℕ) (words rest : List (List ℕ)) (word : List ℕ) → words ≡ word ∷ rest → word ≡ option → slice_get rest 0 ≡ word_after option words
after_found option words rest word are same =
    sym (ap (word_after option) are ∙ ap (λ (b : Bool). cond b (slice_get rest 0) (word_after option rest)) ((bytes_eq-Decides word option).1 same))

pub after_passed : (option : List ℕ) (words rest : List (List ℕ)) (word : List ℕ) → words ≡ word ∷ rest → (word ≡ option → ⊥) → word_after option rest ≡ word_after option words
after_passed option words rest word are other =
    sym (ap (word_after option) are ∙ ap (λ (b : Bool). cond b (slice_get rest 0) (word_after option rest)) (false_from_ne_true (bytes_eq word option) (λ same. other ((bytes_eq-Decides word option).0 same))))

-- the values of the options that there are
pub record HasValues (words : List (List ℕ)) (settings : List Setting) : Type 0 where
  pub word : word_after (codes "--word") words ≡ value_of (codes "--word") settings
  pub name : word_after (codes "--name") words ≡ value_of (codes "--name") settings
  pub sha256 : word_after (codes "--sha256") words ≡ value_of (codes "--sha256") settings
  pub slices : word_after (codes "--slices") words ≡ value_of (codes "--slices") settings
  pub after : word_after (codes "--after") words ≡ value_of (codes "--after") settings
  pub limit : word_after (codes "--limit") words ≡ value_of (codes "--limit") settings
  pub port : word_after (codes "--port") words ≡ value_of (codes "--port") settings
  pub workers : word_after (codes "--workers") words ≡ value_of (codes "--workers") settings

pub has_values : (words : List (List ℕ)) (settings : List Setting) (operands : List (List ℕ)) → ArePieces words settings operands → HasValues words settings
has_values words settings operands pieces = record {
  word = value_is (codes "--word") word_option words settings operands pieces;
  name = value_is (codes "--name") name_option words settings operands pieces;
  sha256 = value_is (codes "--sha256") sha256_option words settings operands pieces;
  slices = value_is (codes "--slices") slices_option words settings operands pieces;
  after = value_is (codes "--after") after_option words settings operands pieces;
  limit = value_is (codes "--limit") limit_option words settings operands pieces;
  port = value_is (codes "--port") port_option words settings operands pieces;
  workers = value_is (codes "--workers") workers_option words settings operands pieces;
}
