use Rattle.std.proofs.Common.{ap, sym, Err, arith, false, refl, ◌∙◌}
use Rattle.std.proofs.lemmas.Bool.{ltb-true, ltb-false}
use Rattle.dm_head.specs.Lines.{lines_begun}
use Rattle.dm_hear.proofs.Heads.{many_bad, refused_bad, refused_open, whole_at}
use Rattle.dm_hear.proofs.ManyLines.{begun_if_many, many_if_begun}
use Rattle.dm_hear.proofs.judge.judge.Goals as goal

pub judge_whole-requires : goal.judge_whole-requires
judge_whole-requires c =
    let found = rw c.in-Ok-Complete.field-0-is at c.in-Ok-Complete.ensures.complete in
    let within = rw c.in-Ok-Complete.field-0-is at c.in-Ok-Complete.ensures.within in
    record { front = c.requires; whole = whole_at c.requires c.parse_request.auto.headers found.1 within }

pub returns-in-Ok-Partial : goal.returns-in-Ok-Partial
returns-in-Ok-Partial c =
    let open_head = rw c.in-Ok-Partial.field-0-is at c.in-Ok-Partial.ensures.unfinished in
    let begun = ltb-true 101 (lines_begun false c.args.front.now) (sym c.if-begins_too_many.ensures) in
    (refl, λ more. many_bad c.args.front.now c.requires (many_if_begun c.args.front.now open_head begun) more)

pub judge_open-requires : goal.judge_open-requires
judge_open-requires c =
    let none = rw c.in-Ok-Partial.field-0-is at c.in-Ok-Partial.ensures.partial in
    let open_head = rw c.in-Ok-Partial.field-0-is at c.in-Ok-Partial.ensures.unfinished in
    let few = ltb-false 101 (lines_begun false c.args.front.now) (sym c.if-begins_too_many.ensures) in
    record {
      front = c.requires;
      open_head = record { none = none; open_head = open_head; few = λ many_lines. let begun = begun_if_many c.args.front.now many_lines in omega arith };
    }

pub judge_open-requires-in-Err-clause-open_head : goal.judge_open-requires-in-Err-clause-open_head
judge_open-requires-in-Err-clause-open_head c =
    refused_open c.args.front.now c.in-Err.field-0 c.in-Err.ensures.invalid (λ is. c.in-Err.ensures.too_many (ap Err is)) (c.ends_in_target.ensures.yes c.if-ends_in_target.true)

pub returns-in-Err-2 : goal.returns-in-Err-2
returns-in-Err-2 c =
    (refl, refused_bad c.args.front.now c.requires c.in-Err.field-0 c.in-Err.ensures.invalid (λ is. c.in-Err.ensures.too_many (ap Err is)) (c.ends_in_target.ensures.no c.if-ends_in_target.false))
