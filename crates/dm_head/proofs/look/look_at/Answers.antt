use Rattle.std.proofs.Common.{ap, sym, Err, inl}
use Rattle.std.proofs.lemmas.Bool.{ltb-true, ltb-false}
use Rattle.dm_edge.specs.Head.{many}
use Rattle.dm_head.specs.Lines.{lines_begun}
use Rattle.dm_head.proofs.HeadLemmas.{whole_at, many_in_limit, full_bad, refused_bad}
use Rattle.dm_head.proofs.LineLemmas.{many_if_begun, begun_if_many}
use Rattle.std.proofs.Common.{arith, false}
use Rattle.dm_head.proofs.look.look_at.Goals as goal

pub look_at_whole-requires : goal.look_at_whole-requires
look_at_whole-requires c =
    let found = rw c.in-Ok-Complete.field-0-is at c.in-Ok-Complete.ensures.complete in
    let within = rw c.in-Ok-Complete.field-0-is at c.in-Ok-Complete.ensures.within in
    record { whole = whole_at c.requires c.parse_response.auto.headers found.1 within }

pub returns-in-Ok-Partial : goal.returns-in-Ok-Partial
returns-in-Ok-Partial c =
    let open_head = rw c.in-Ok-Partial.field-0-is at c.in-Ok-Partial.ensures.unfinished in
    let begun = ltb-true 101 (lines_begun false c.args.front.now) (sym c.if-begins_too_many.ensures) in
    λ more. inl (many (many_in_limit c.args.front.now c.requires (many_if_begun c.args.front.now open_head begun) more))

pub returns-in-Ok-Partial-2 : goal.returns-in-Ok-Partial-2
returns-in-Ok-Partial-2 c =
    let none = rw c.in-Ok-Partial.field-0-is at c.in-Ok-Partial.ensures.partial in
    full_bad c.args.wanted.now c.args.front.now none c.if-front-eq-MOST_HEAD.true

pub returns-in-Ok-Partial-3 : goal.returns-in-Ok-Partial-3
returns-in-Ok-Partial-3 c =
    let none = rw c.in-Ok-Partial.field-0-is at c.in-Ok-Partial.ensures.partial in
    let open_head = rw c.in-Ok-Partial.field-0-is at c.in-Ok-Partial.ensures.unfinished in
    let few = ltb-false 101 (lines_begun false c.args.front.now) (sym c.if-begins_too_many.ensures) in
    record {
      short = omega (arith, c.requires, c.if-front-eq-MOST_HEAD.false);
      none = none;
      open_head = open_head;
      few = λ many_lines. let begun = begun_if_many c.args.front.now many_lines in omega arith;
    }

pub returns-in-Err : goal.returns-in-Err
returns-in-Err c =
    refused_bad c.args.wanted.now c.args.front.now c.requires c.in-Err.field-0 c.in-Err.ensures.invalid (λ is. c.in-Err.ensures.too_many (ap Err is))
