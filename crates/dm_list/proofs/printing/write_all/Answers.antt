use Rattle.std.proofs.Common.{◌≡◌, ◌+◌, length, drop, ◌∙◌, ap, arith, length-drop}
use Rattle.std.proofs.lemmas.List.{drop-drop}
use Rattle.dm_list.proofs.Written.{wrote_more}
use Rattle.dm_list.proofs.printing.write_all.Goals as goal

pub loop-rest-preserved : goal.loop-rest-preserved
loop-rest-preserved g c =
    let S = g.S.Sink in
    let was = c.loop-rest.invariant in
    let left : length c.loop-rest.rest.now + was.done ≡ length c.args.text.now = omega (arith, was.within, ap length was.rest, length-drop was.done c.args.text.now) in
    record {
      done = was.done + c.in-Ok.count;
      within = omega (arith, left, c.in-Ok.ensures.within);
      rest = c.split_at.ensures.back ∙ ap (drop c.in-Ok.count) was.rest ∙ drop-drop c.in-Ok.count was.done c.args.text.now;
      written = λ tells. wrote_more (S.written c.args.sink.now) c.args.text.now (S.written c.loop-rest.sink) (S.written c.write.new.self) c.loop-rest.rest.now was.done c.in-Ok.count was.rest (was.written tells) (c.in-Ok.ensures.written tells);
      later = λ kind. omega (arith, was.later kind, c.write.ensures.cause.later kind);
      quiet = λ kind. c.in-Ok.ensures.quiet kind ∙ was.quiet kind;
    }

pub returns-in-Err-clause-written : goal.returns-in-Err-clause-written
returns-in-Err-clause-written g c tells =
    let S = g.S.Sink in
    let was = c.loop-rest.invariant in
    let some = c.in-Err.ensures.written tells in
    (was.done + some.0, wrote_more (S.written c.args.sink.now) c.args.text.now (S.written c.loop-rest.sink) (S.written c.write.new.self) c.loop-rest.rest.now was.done some.0 was.rest (was.written tells) some.1)
