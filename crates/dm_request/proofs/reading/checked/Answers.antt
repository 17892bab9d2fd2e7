use Rattle.std.proofs.Common.{subst}
use Rattle.url.specs.Parser.{Gives, Parsed}
use Rattle.url.specs.Parts.{Parts}
use Rattle.dm_request.proofs.reading.checked.Goals as goal

pub returns-in-Err-clause-answers : goal.returns-in-Err-clause-answers
returns-in-Err-clause-answers c = λ expected gives.
    c.fault_of.ensures expected (subst (λ (parsed : Parsed Parts). Gives parsed expected) c.in-Err.is gives)
