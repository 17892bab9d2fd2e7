use Rattle.dm_disposition.proofs.Telling.{tells_none}
use Rattle.dm_disposition.proofs.disposition_of.Goals as goal

pub returns-in-Err-Repeated : goal.returns-in-Err-Repeated
returns-in-Err-Repeated c =
    rw c.in-Some.is (tells_none c.in-Some.value.now c.in-Err-Repeated.field-0 (λ none. absurd (cc (c.in-Err-Repeated.field-0-is, none))) c.in-Err-Repeated.ensures.answers)
