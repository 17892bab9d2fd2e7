use Rattle.std.proofs.lemmas.Str.{IsUtf8-from_is_utf8, is_utf8-from_IsUtf8}
use Rattle.dm_request.proofs.ReadingLemmas.{too_long, not_utf8}
use Rattle.dm_request.proofs.reading.readable.Goals as goal

pub returns-then-text-gt-MOST-clause-err : goal.returns-then-text-gt-MOST-clause-err
returns-then-text-gt-MOST-clause-err c = λ base. too_long base c.args.text.now c.if-text-gt-MOST.true

pub returns-in-Ok-clause-ok : goal.returns-in-Ok-clause-ok
returns-in-Ok-clause-ok c = (c.in-Ok.ensures.cases.0, c.if-text-gt-MOST.false, is_utf8-from_IsUtf8 _ c.in-Ok.ensures.cases.1)

pub returns-in-Err-clause-err : goal.returns-in-Err-clause-err
returns-in-Err-clause-err c = λ base. not_utf8 base c.args.text.now c.if-text-gt-MOST.false (λ is. c.in-Err.ensures.cases.0 (IsUtf8-from_is_utf8 _ is))
