-- Words ask one thing.
use Rattle.std.proofs.Common.{◌≡◌, ◌≢◌, ℕ, ◌<◌, List, ◌∷◌, length, if◌then◌else◌, Option, Some, None, Result, refl, sym, ◌∙◌, ap, subst, arith, codes}
use Rattle.std.specs.Prelude.{IfOk, OnErr}
use Rattle.std.specs.Option.{option_to_list}
use Rattle.std.specs.Str.{bytes_eq}
use Rattle.std.proofs.lemmas.Result.{IfOk-weaker}
use Rattle.dm_words.specs.Pieces.{ArePieces, Setting}
use Rattle.dm_words.specs.Table.{AreFor, name_of}
use Rattle.dm_words.specs.Asked.{Adds, Archives, Asked, Asks, Cancels, Exports, Gets, Histories, Imports, IsFileOf, IsIdOf, IsPage, IsService, IsTold, IsWish, Lists, Makes, Pauses, Rehearses, Removes, Reports, Resumes, Serves, Shows, Told, WishOf, asked, command_of, told_by}
use Rattle.dm_words.specs.Values.{IsNumber, IsSlices}
use Rattle.dm_words.specs.Reading.{IsMade, SaysRest, word_after}
use Rattle.dm_words.specs.declared.command.Command.{Command}
use Rattle.dm_words.specs.declared.command.Command.TheVariants as commands
use Rattle.dm_words.specs.declared.command.BadWords.{BadWords}
use Rattle.dm_words.specs.declared.table.CommandName.{CommandName}
use Rattle.dm_words.specs.declared.table.CommandName.TheVariants.{Get, Add, Resume, Pause, Cancel, Remove, Show, List as ListAll, Report, Export, Archive, History, Import, Rehearse, Serve}
use Rattle.dm_words.proofs.MorePieces.{has_values}
use Rattle.dm_words.proofs.OnePieces.{one_pieces}
use Rattle.dm_words.proofs.Texts.{on_err, same_option}
use Rattle.dm_words.proofs.OneValue.{one_after, one_digest, one_limit, one_number, one_port, one_slices}

-- ---- a name is of one command

named : List ℕ → Option CommandName
named word =
    if bytes_eq word (codes "get") then Some Get
    else (if bytes_eq word (codes "add") then Some Add
    else (if bytes_eq word (codes "resume") then Some Resume
    else (if bytes_eq word (codes "pause") then Some Pause
    else (if bytes_eq word (codes "cancel") then Some Cancel
    else (if bytes_eq word (codes "remove") then Some Remove
    else (if bytes_eq word (codes "show") then Some Show
    else (if bytes_eq word (codes "list") then Some ListAll
    else (if bytes_eq word (codes "report") then Some Report
    else (if bytes_eq word (codes "export") then Some Export
    else (if bytes_eq word (codes "archive") then Some Archive
    else (if bytes_eq word (codes "history") then Some History
    else (if bytes_eq word (codes "import") then Some Import
    else (if bytes_eq word (codes "rehearse") then Some Rehearse
    else (if bytes_eq word (codes "serve") then Some Serve else None))))))))))))))

named_back : (name : CommandName) → named (name_of name) ≡ Some name
unfolding named
named_back Get = refl
named_back Add = refl
named_back Resume = refl
named_back Pause = refl
named_back Cancel = refl
named_back Remove = refl
named_back Show = refl
named_back ListAll = refl
named_back Report = refl
named_back Export = refl
named_back Archive = refl
named_back History = refl
named_back Import = refl
named_back Rehearse = refl
named_back Serve = refl

one_name : (a b : CommandName) → name_of a ≡ name_of b → a ≡ b
one_name a b same = let both : Some a ≡ Some b = sym (named_back a) ∙ ap named same ∙ named_back b in cc

pub record AreOne (a b : CommandName) (first second : Told) : Type 0 where
  pub names : a ≡ b
  pub told : first ≡ second

-- words tell one thing, with one command
pub one_told : (words : List (List ℕ)) (a b : CommandName) (first second : Told) → IsTold a words first → IsTold b words second → AreOne a b first second
one_told words a b first second is other =
    let names : name_of a ≡ name_of b = cc (is.is.is, other.is.is) in
    let rests : other.is.rest ≡ is.is.rest = cc (is.is.is, other.is.is) in
    let again : ArePieces is.is.rest other.settings (option_to_list other.operand) = subst (λ (l : List (List ℕ)). ArePieces l other.settings (option_to_list other.operand)) rests other.is.has.pieces in
    let same = one_pieces is.is.rest is.settings (option_to_list is.operand) is.is.has.pieces other.settings (option_to_list other.operand) again in
    record {
      names = one_name a b names;
      told = is.told_is ∙ ap (λ (s : List Setting). told_by s is.operand) same.settings_are ∙ ap (told_by other.settings) (same_option is.operand other.operand same.operands_are) ∙ sym other.told_is;
    }

-- ---- what is told asks one thing

one_wish : (told : Told) (first second : WishOf) → IsWish told first → IsWish told second → first ≡ second
one_wish told first second is other =
    let word : first.word ≡ second.word = sym is.word_is ∙ other.word_is in
    let name : first.name ≡ second.name = sym is.name_is ∙ other.name_is in
    let digest : first.digest ≡ second.digest = one_digest told.sha256 first.digest second.digest is.is_digest other.is_digest in
    let addresses : Some first.address ≡ Some second.address = sym is.address_is ∙ other.address_is in
    let address : first.address ≡ second.address = cc in
    ap (λ (o : Option (List ℕ)). record first { word = o }) word
    ∙ ap (λ (o : Option (List ℕ)). record first { word = second.word; name = o }) name
    ∙ ap (λ (o : Option (List ℕ)). record first { word = second.word; name = second.name; digest = o }) digest
    ∙ ap (λ (a : List ℕ). record second { address = a }) address

one_id : (told : Told) (first second : ℕ) → IsIdOf told first → IsIdOf told second → first ≡ second
one_id told first second is other =
    let both : Some is.digits ≡ Some other.digits = sym is.operand_is ∙ other.operand_is in
    let same : other.digits ≡ is.digits = cc in
    one_number is.digits first second is.is_id (subst (λ (d : List ℕ). IsNumber d second) same other.is_id)

one_file : (told : Told) (first second : List ℕ) → IsFileOf told first → IsFileOf told second → first ≡ second
one_file told first second is other = let both : Some first ≡ Some second = sym is.operand_is ∙ other.operand_is in cc

one_made : (told : Told) (a b : Asked) → command_of a ≡ command_of b → Makes a told → Makes b told → b ≡ a
one_made told (Gets wish slices) (Gets other many) same is again =
    ap (λ (w : WishOf). Gets w many) (one_wish told other wish again.0 is.0) ∙ ap (Gets wish) (one_slices told.slices many slices again.1 is.1)
one_made told (Gets wish slices) other same is again = absurd cc
one_made told (Adds wish) (Adds other) same is again = ap Adds (one_wish told other wish again is)
one_made told (Adds wish) other same is again = absurd cc
one_made told (Resumes id slices) (Resumes other many) same is again =
    ap (λ (i : ℕ). Resumes i many) (one_id told other id again.0 is.0) ∙ ap (Resumes id) (one_slices told.slices many slices again.1 is.1)
one_made told (Resumes id slices) other same is again = absurd cc
one_made told (Pauses id) (Pauses other) same is again = ap Pauses (one_id told other id again is)
one_made told (Pauses id) other same is again = absurd cc
one_made told (Cancels id) (Cancels other) same is again = ap Cancels (one_id told other id again is)
one_made told (Cancels id) other same is again = absurd cc
one_made told (Removes id) (Removes other) same is again = ap Removes (one_id told other id again is)
one_made told (Removes id) other same is again = absurd cc
one_made told (Shows id) (Shows other) same is again = ap Shows (one_id told other id again is)
one_made told (Shows id) other same is again = absurd cc
one_made told Lists Lists same is again = refl
one_made told Lists other same is again = absurd cc
one_made told Reports Reports same is again = refl
one_made told Reports other same is again = absurd cc
one_made told Exports Exports same is again = refl
one_made told Exports other same is again = absurd cc
one_made told Archives Archives same is again = refl
one_made told Archives other same is again = absurd cc
one_made told (Histories after limit) (Histories other many) same is again =
    ap (λ (a : ℕ). Histories a many) (one_after told.after other after again.after_is is.after_is) ∙ ap (Histories after) (one_limit told.limit many limit again.limit_is is.limit_is)
one_made told (Histories after limit) other same is again = absurd cc
one_made told (Imports name) (Imports other) same is again = ap Imports (one_file told other name again is)
one_made told (Imports name) other same is again = absurd cc
one_made told (Rehearses number) (Rehearses other) same is again = ap Rehearses (one_id told other number again is)
one_made told (Rehearses number) other same is again = absurd cc
one_made told (Serves port) (Serves other) same is again = ap Serves (one_port told.port other port again.port_is is.port_is)
one_made told (Serves port) other same is again = absurd cc

-- words ask one thing
pub one_asked : (words : List (List ℕ)) (a b : Asked) → Asks words a → Asks words b → b ≡ a
one_asked words a b first second =
    let same = one_told words (command_of a) (command_of b) first.told second.told first.is second.is in
    one_made first.told a b same.names first.makes (subst (Makes b) (sym same.told) second.makes)

pub alone : (result : Result Command BadWords) (words whole : List (List ℕ)) → words ≡ whole → IfOk result (λ command. Asks whole (asked command)) → IfOk result (λ command. (other : Asked) → Asks words other → other ≡ asked command)
alone result words whole same ok =
    IfOk-weaker result (λ command. Asks whole (asked command)) (λ command. (other : Asked) → Asks words other → other ≡ asked command)
    (λ command asks other again. one_asked whole (asked command) other asks (subst (λ (l : List (List ℕ)). Asks l other) same again)) ok

-- ---- what is told from what was read

same_told : (a b : Told) → a.word ≡ b.word → a.name ≡ b.name → a.sha256 ≡ b.sha256 → a.slices ≡ b.slices → a.after ≡ b.after → a.limit ≡ b.limit → a.port ≡ b.port → a.workers ≡ b.workers → a.operand ≡ b.operand → a ≡ b
same_told a b word name sha256 slices after limit port workers operand =
    ap (λ (o : Option (List ℕ)). record a { word = o }) word
    ∙ ap (λ (o : Option (List ℕ)). record a { word = b.word; name = o }) name
    ∙ ap (λ (o : Option (List ℕ)). record a { word = b.word; name = b.name; sha256 = o }) sha256
    ∙ ap (λ (o : Option (List ℕ)). record a { word = b.word; name = b.name; sha256 = b.sha256; slices = o }) slices
    ∙ ap (λ (o : Option (List ℕ)). record b { after = o; limit = a.limit; port = a.port; workers = a.workers; operand = a.operand }) after
    ∙ ap (λ (o : Option (List ℕ)). record b { limit = o; port = a.port; workers = a.workers; operand = a.operand }) limit
    ∙ ap (λ (o : Option (List ℕ)). record b { port = o; workers = a.workers; operand = a.operand }) port
    ∙ ap (λ (o : Option (List ℕ)). record b { workers = o; operand = a.operand }) workers
    ∙ ap (λ (o : Option (List ℕ)). record b { operand = o }) operand

pub told_from : (name : CommandName) (words : List (List ℕ)) (operand : Option (List ℕ)) (told : Told) → SaysRest name None words operand → told.word ≡ word_after (codes "--word") words
    → told.name ≡ word_after (codes "--name") words → told.sha256 ≡ word_after (codes "--sha256") words → told.slices ≡ word_after (codes "--slices") words
    → told.after ≡ word_after (codes "--after") words → told.limit ≡ word_after (codes "--limit") words → told.port ≡ word_after (codes "--port") words → told.workers ≡ word_after (codes "--workers") words
    → told.operand ≡ operand → IsTold name (name_of name ∷ words) told
told_from name words operand told says word wish sha256 slices after limit port workers last =
    let values = has_values words says.settings says.operands says.has.pieces in
    record {
      settings = says.settings;
      operand = operand;
      is = record { rest = words; is = refl; has = subst (AreFor name words says.settings) says.operand_is says.has };
      told_is = same_told told (told_by says.settings operand) (word ∙ values.word) (wish ∙ values.name) (sha256 ∙ values.sha256) (slices ∙ values.slices) (after ∙ values.after) (limit ∙ values.limit)
          (port ∙ values.port) (workers ∙ values.workers) last;
    }

pub told_says : (name : CommandName) (words : List (List ℕ)) (told : Told) → IsTold name (name_of name ∷ words) told → (operand : Option (List ℕ)) × SaysRest name None words operand
told_says name words told is =
    let rests : is.is.rest ≡ words = cc (is.is.is) in
    (is.operand, record { settings = is.settings; operands = option_to_list is.operand; has = subst (λ (l : List (List ℕ)). AreFor name l is.settings (option_to_list is.operand)) rests is.is.has; operand_is = refl })

-- ---- refusals

pub no_words : (words : List (List ℕ)) → length words < 1 → (other : Asked) → Asks words other → ⊥
no_words words none other asks = absurd (omega (arith, ap length asks.is.is.is, none))

pub no_name : (words rest : List (List ℕ)) (first : List ℕ) → words ≡ first ∷ rest → ((name : CommandName) → first ≢ name_of name) → (other : Asked) → Asks words other → ⊥
no_name words rest first are none other asks =
    let same : first ≡ name_of (command_of other) = cc (are, asks.is.is.is) in
    none (command_of other) same

-- words of one command ask what it makes of what they tell
pub made_of : (name : CommandName) (words : List (List ℕ)) (told : Told) → IsTold name words told → (other : Asked) → Asks words other → IsMade name told other
made_of name words told is other asks =
    let same = one_told words name (command_of other) told asks.told is asks.is in
    record { named = sym same.names; makes = subst (Makes other) (sym same.told) asks.makes }

pub asks_made : (name : CommandName) (words : List (List ℕ)) (told : Told) → IsTold name words told → (a : Asked) → IsMade name told a → Asks words a
asks_made name words told is a made = record { told = told; is = subst (λ (n : CommandName). IsTold n words told) (sym made.named) is; makes = made.makes }

pub untold : (name : CommandName) (rest : List (List ℕ)) → ((told : Told) → IsTold name (name_of name ∷ rest) told → ⊥) → (other : Asked) → Asks (name_of name ∷ rest) other → ⊥
untold name rest none other asks =
    let names : name_of (command_of other) ≡ name_of name = cc (asks.is.is.is) in
    none asks.told (subst (λ (n : CommandName). IsTold n (name_of name ∷ rest) asks.told) (one_name (command_of other) name names) asks.is)

-- ---- what each command makes

pub no_get : (told : Told) → ((wish : WishOf) (slices : ℕ) → IsWish told wish → IsSlices told.slices slices → ⊥) → (other : Asked) → IsMade Get told other → ⊥
no_get told none (Gets wish slices) made = none wish slices made.makes.0 made.makes.1
no_get told none other made = let named = made.named in absurd cc

pub no_add : (told : Told) → ((wish : WishOf) → IsWish told wish → ⊥) → (other : Asked) → IsMade Add told other → ⊥
no_add told none (Adds wish) made = none wish made.makes
no_add told none other made = let named = made.named in absurd cc

pub no_resume : (told : Told) → ((id slices : ℕ) → IsIdOf told id → IsSlices told.slices slices → ⊥) → (other : Asked) → IsMade Resume told other → ⊥
no_resume told none (Resumes id slices) made = none id slices made.makes.0 made.makes.1
no_resume told none other made = let named = made.named in absurd cc

pub no_history : (told : Told) → ((after limit : ℕ) → IsPage told after limit → ⊥) → (other : Asked) → IsMade History told other → ⊥
no_history told none (Histories after limit) made = none after limit made.makes
no_history told none other made = let named = made.named in absurd cc

pub no_import : (told : Told) → ((name : List ℕ) → IsFileOf told name → ⊥) → (other : Asked) → IsMade Import told other → ⊥
no_import told none (Imports name) made = none name made.makes
no_import told none other made = let named = made.named in absurd cc

pub no_serve : (told : Told) → ((port : ℕ) → IsService told port → ⊥) → (other : Asked) → IsMade Serve told other → ⊥
no_serve told none (Serves port) made = none port made.makes
no_serve told none other made = let named = made.named in absurd cc

-- commands that are told nothing
abbrev pub ByNothing : CommandName → Type 0
ByNothing ListAll = Unit {0}
ByNothing Report = Unit {0}
ByNothing Export = Unit {0}
ByNothing Archive = Unit {0}
ByNothing _ = ⊥

pub no_bare : (name : CommandName) (told : Told) → ByNothing name → told.operand ≢ None → (other : Asked) → IsMade name told other → ⊥
no_bare name told by some Lists made = some made.makes
no_bare name told by some Reports made = some made.makes
no_bare name told by some Exports made = some made.makes
no_bare name told by some Archives made = some made.makes
no_bare name told by some (Gets wish slices) made = subst ByNothing (sym made.named) by
no_bare name told by some (Adds wish) made = subst ByNothing (sym made.named) by
no_bare name told by some (Resumes id slices) made = subst ByNothing (sym made.named) by
no_bare name told by some (Pauses id) made = subst ByNothing (sym made.named) by
no_bare name told by some (Cancels id) made = subst ByNothing (sym made.named) by
no_bare name told by some (Removes id) made = subst ByNothing (sym made.named) by
no_bare name told by some (Shows id) made = subst ByNothing (sym made.named) by
no_bare name told by some (Histories after limit) made = subst ByNothing (sym made.named) by
no_bare name told by some (Imports file) made = subst ByNothing (sym made.named) by
no_bare name told by some (Rehearses number) made = subst ByNothing (sym made.named) by
no_bare name told by some (Serves port) made = subst ByNothing (sym made.named) by

-- commands that are told a number and nothing else
abbrev pub ById : CommandName → Type 0
ById Pause = Unit {0}
ById Cancel = Unit {0}
ById Remove = Unit {0}
ById Show = Unit {0}
ById Rehearse = Unit {0}
ById _ = ⊥

pub no_id : (name : CommandName) (told : Told) → ById name → ((id : ℕ) → IsIdOf told id → ⊥) → (other : Asked) → IsMade name told other → ⊥
no_id name told by none (Pauses id) made = none id made.makes
no_id name told by none (Cancels id) made = none id made.makes
no_id name told by none (Removes id) made = none id made.makes
no_id name told by none (Shows id) made = none id made.makes
no_id name told by none (Rehearses number) made = none number made.makes
no_id name told by none (Gets wish slices) made = subst ById (sym made.named) by
no_id name told by none (Adds wish) made = subst ById (sym made.named) by
no_id name told by none (Resumes id slices) made = subst ById (sym made.named) by
no_id name told by none Lists made = subst ById (sym made.named) by
no_id name told by none Reports made = subst ById (sym made.named) by
no_id name told by none Exports made = subst ById (sym made.named) by
no_id name told by none Archives made = subst ById (sym made.named) by
no_id name told by none (Histories after limit) made = subst ById (sym made.named) by
no_id name told by none (Imports file) made = subst ById (sym made.named) by
no_id name told by none (Serves port) made = subst ById (sym made.named) by

-- ---- the port of a service

module _ (words : List (List ℕ)) (whole : Asked) (asks : Asks words whole) (only : (other : Asked) → Asks words other → other ≡ whole) where
  pub ok_serve : (result : Result ℕ BadWords) → IfOk result (λ port. whole ≡ Serves port) → IfOk result (λ port. Asks words (Serves port))
  ok_serve result ok = IfOk-weaker result (λ port. whole ≡ Serves port) (λ port. Asks words (Serves port)) (λ port is. subst (Asks words) is asks) ok

  pub no_serve_asked : (result : Result ℕ BadWords) → OnErr result ((port : ℕ) → whole ≢ Serves port) → OnErr result ((port : ℕ) → Asks words (Serves port) → ⊥)
  no_serve_asked result err = on_err result _ _ err (λ none port serves. none port (sym (only (Serves port) serves)))
