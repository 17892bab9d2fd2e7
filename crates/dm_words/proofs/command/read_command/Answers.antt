use Rattle.std.proofs.Common.{ℕ, List, subst}
use Rattle.dm_words.specs.Asked.{Asks}
use Rattle.dm_words.specs.Table.{name_of}
use Rattle.dm_words.proofs.OneCommand.{alone}
use Rattle.dm_words.proofs.Texts.{name_first, on_err}
use Rattle.dm_words.proofs.command.read_command.Goals as goal

pub returns-in-Some-clause-err : goal.returns-in-Some-clause-err
returns-in-Some-clause-err c =
    let are = name_first c.args.words.now c.first-item.result (name_of c.in-Some.name) c.in-len1-up.len_at_least c.first-item.is c.in-Some.ensures.some in
    on_err c.read_named.result _ _ c.read_named.ensures.err (λ none other asks. none other (subst (λ (l : List (List ℕ)). Asks l other) are asks))

pub returns-in-Some-clause-alone : goal.returns-in-Some-clause-alone
returns-in-Some-clause-alone c =
    let are = name_first c.args.words.now c.first-item.result (name_of c.in-Some.name) c.in-len1-up.len_at_least c.first-item.is c.in-Some.ensures.some in
    alone c.read_named.result c.args.words.now _ are c.read_named.ensures.ok
