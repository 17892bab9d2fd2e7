-- What words that were read are.
use Rattle.std.proofs.Common.{◌≡◌, ℕ, ◌≤◌, List, length, Option, Some, None, Result, Ok, Err, refl, sym, ◌∙◌, ap, subst, arith}
use Rattle.std.specs.Prelude.{IfSome, IfOk, IfErr}
use Rattle.std.specs.Option.{option_map}
use Rattle.dm_types.specs.declared.address.Address.{Address}
use Rattle.dm_record.specs.Limits.{AtMost}
use Rattle.dm_request.specs.Fault.{HasNone, IsNoAddress, IsRead}
use Rattle.dm_request.specs.Reading.{address_read}
use Rattle.dm_request.specs.declared.address.AddressFault.{AddressFault}
use Rattle.dm_report.specs.declared.verdict.Verdict.{Verdict}
use Rattle.dm_report.specs.declared.verdict.Verdict.TheVariants as verdicts
use Rattle.dm_words.specs.Asked.{Asked, Asks, Gets, Adds, Resumes, Pauses, Cancels, Removes, Shows, Lists, Reports, Exports, Archives, Histories, Imports, Rehearses, Serves, WishOf}
use Rattle.dm_words.specs.Values.{IsName, IsSlices, IsWord}
use Rattle.dm_words.proofs.OneCommand.{one_asked}
use Rattle.dm_answers.specs.Add.{IsOrder}
use Rattle.dm_answers.specs.declared.order.Order.{Order}
use Rattle.dm_does.specs.declared.job.Job.{Job}
use Rattle.dm_does.specs.Jobs.{HasJob, IsElsewhere, RefusesWords, address_in, job_of, or_empty, order_in, order_of}
use Rattle.dm_list.specs.Reading.{AreSlices, IsGoodWish, KeepsRules, RefusesAsked}

-- Words that ask something tell a good word, a good name, and 1 to 16 slices.

are_slices : (told : Option (List ℕ)) (slices : ℕ) → IsSlices told slices → AreSlices slices
are_slices None slices is = record { some = omega (arith, is); few = omega (arith, is) }
are_slices (Some digits) slices is = record { some = is.some; few = is.few }

pub keeps_rules : (words : List (List ℕ)) (asked : Asked) → Asks words asked → KeepsRules asked
keeps_rules words (Gets wish slices) asks = (record { is_word = asks.makes.0.is_word; is_name = asks.makes.0.is_name }, are_slices asks.told.slices slices asks.makes.1)
keeps_rules words (Adds wish) asks = record { is_word = asks.makes.is_word; is_name = asks.makes.is_name }
keeps_rules words (Resumes id slices) asks = are_slices asks.told.slices slices asks.makes.1
keeps_rules words (Pauses id) asks = tt
keeps_rules words (Cancels id) asks = tt
keeps_rules words (Removes id) asks = tt
keeps_rules words (Shows id) asks = tt
keeps_rules words Lists asks = tt
keeps_rules words Reports asks = tt
keeps_rules words Exports asks = tt
keeps_rules words Archives asks = tt
keeps_rules words (Histories after limit) asks = tt
keeps_rules words (Imports name) asks = tt
keeps_rules words (Rehearses number) asks = tt
keeps_rules words (Serves port) asks = tt

by_result : (words : List (List ℕ)) (asked : Asked) (result : Result Job Verdict) → Asks words asked → IfOk result (λ job. job_of asked ≡ Some job) → IfOk result (HasJob words)
by_result words asked (Ok job) asks is = record { asked = asked; asks = asks; is = is }
by_result words asked (Err verdict) asks is = tt

pub has_job : (words : List (List ℕ)) (asked : Asked) (result : Result Job Verdict) → Asks words asked → IfOk result (λ job. job_of asked ≡ Some job) → IfOk result (HasJob words)
has_job words asked result asks is = by_result words asked result asks is

refused_by : (words : List (List ℕ)) (asked : Asked) (verdict : Verdict) → Asks words asked → RefusesAsked asked verdict → RefusesWords words verdict
refused_by words asked verdicts.BadWords asks elsewhere = λ other also. subst IsElsewhere (one_asked words other asked also asks) elsewhere
refused_by words asked verdicts.BadAddress asks none = record { asked = asked; asks = asks; none = none.0; told = none.1 }
refused_by words asked verdicts.NoMemory asks told = record { asked = asked; asks = asks; told = told }
refused_by words asked verdict asks refused = absurd refused

pub words_refused : (words : List (List ℕ)) (asked : Asked) (result : Result Job Verdict) → Asks words asked → IfErr result (RefusesAsked asked) → IfErr result (RefusesWords words)
words_refused words asked (Ok job) asks refused = tt
words_refused words asked (Err verdict) asks refused = refused_by words asked verdict asks refused

-- The order for the address that was read.
pub order_read : (wish : WishOf) (address : Address) (order : Order) → IsRead wish.address address → order ≡ order_of wish address → order_in wish ≡ Some order
order_read wish address order reads is = ap (λ (r : Result Address AddressFault). option_map (order_of wish) (address_in r)) reads ∙ ap (λ (o : Order). Some o) (sym is)

none_in : (wish : WishOf) (read : Result Address AddressFault) → HasNone read → option_map (order_of wish) (address_in read) ≡ None
none_in wish (Ok address) none = absurd (none address refl)
none_in wish (Err fault) none = refl

pub no_order : (wish : WishOf) → IsNoAddress wish.address → order_in wish ≡ None
no_order wish none = none_in wish (address_read None wish.address) none

word_short : (word : Option (List ℕ)) → IfSome word IsWord → AtMost 64 (or_empty word)
word_short None good = omega arith
word_short (Some word) good = good.short

name_short : (name : Option (List ℕ)) → IfSome name IsName → AtMost 255 (or_empty name)
name_short None good = omega arith
name_short (Some name) good = good.short

pub order_fits : (wish : WishOf) (address : Address) (order : Order) → IsGoodWish wish → length address.text ≤ 4096 → order ≡ order_of wish address → IsOrder order
order_fits wish address order good short is =
    subst IsOrder (sym is) (record { word = word_short wish.word good.is_word; address = short; wish = name_short wish.name good.is_name })
