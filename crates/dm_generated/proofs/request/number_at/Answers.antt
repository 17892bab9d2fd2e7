use Rattle.std.proofs.Common.{◌≡◌, ◌∙◌, sym, Ok}
use Rattle.std.proofs.lemmas.Fmt.{parse-decimal}
use Rattle.dm_generated.proofs.Digits.{cut_number, number_utf8}
use Rattle.dm_generated.proofs.request.number_at.Goals as goal

pub returns-in_default : goal.returns-in_default
returns-in_default c n rest small stops is =
    let cut = cut_number c.args.bytes.now c.cut_digits.result.0.now c.cut_digits.result.1.now n rest c.cut_digits.ensures small stops is in
    c.in_default.ensures.cases.0 (number_utf8 c.cut_digits.result.0.now n small cut.0)

pub returns-in-Ok-parse : goal.returns-in-Ok-parse
returns-in-Ok-parse c n rest small stops is =
    let cut = cut_number c.args.bytes.now c.cut_digits.result.0.now c.cut_digits.result.1.now n rest c.cut_digits.ensures small stops is in
    let parsed = parse-decimal 64 n c.in-Ok.text.now c.parse.result small small (c.in-Ok.ensures.cases.0 ∙ cut.0) c.parse.ensures.value.0 in
    let ok = c.in-Ok-parse.is in
    (cc, cut.1)

pub returns-in-Err : goal.returns-in-Err
returns-in-Err c n rest small stops is =
    let cut = cut_number c.args.bytes.now c.cut_digits.result.0.now c.cut_digits.result.1.now n rest c.cut_digits.ensures small stops is in
    let parsed = parse-decimal 64 n c.in-Ok.text.now c.parse.result small small (c.in-Ok.ensures.cases.0 ∙ cut.0) c.parse.ensures.value.0 in
    let failed = c.in-Err.is in
    absurd cc
