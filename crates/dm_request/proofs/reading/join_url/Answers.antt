-- The text is readable, so what `url_of` gives is what the parser gives.
use Rattle.std.proofs.Common.{ℕ, List, Some, sym, subst}
use Rattle.std.specs.Prelude.{Result}
use Rattle.url.specs.Parts.{Parts}
use Rattle.url.specs.Parser.{Gives, parse_url}
use Rattle.dm_request.specs.declared.address.AddressFault.{AddressFault}
use Rattle.dm_request.specs.Fault.{Answers}
use Rattle.dm_request.proofs.ReadingLemmas.{parsed}
use Rattle.dm_request.proofs.reading.join_url.Goals as goal

pub returns-in-Ok-clause-answers : goal.returns-in-Ok-clause-answers
returns-in-Ok-clause-answers c =
    let read = c.in-Ok.ensures.ok in
    let gives = subst (λ (text : List ℕ). Gives c.join.result (parse_url (Some c.args.base.now) text)) read.0 c.join.ensures in
    subst (λ (expected : Result Parts AddressFault). Answers expected c.checked.result)
    (sym (parsed (Some c.args.base.now) c.args.text.now read.1 read.2))
    (c.checked.ensures.answers (parse_url (Some c.args.base.now) c.args.text.now) gives)
