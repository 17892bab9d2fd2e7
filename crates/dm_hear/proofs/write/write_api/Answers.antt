use Rattle.std.proofs.Common.{◌≡◌, ◌+◌, length, drop, ◌∙◌, ap, arith, length-drop}
use Rattle.std.proofs.lemmas.List.{drop-drop}
use Rattle.dm_hear.proofs.Hearing.{wrote_err, wrote_more}
use Rattle.dm_hear.proofs.write.write_api.Goals as goal

pub loop-rest-preserved : goal.loop-rest-preserved
loop-rest-preserved g c =
    let S = g.X.Source in
    let was = c.loop-rest.invariant in
    let left : length c.loop-rest.rest.now + was.done ≡ length c.args.bytes.now = omega (arith, was.within, ap length was.rest, length-drop was.done c.args.bytes.now) in
    record {
      done = was.done + c.in-Ok.count;
      within = omega (arith, left, c.in-Ok.ensures.within);
      rest = c.split_at.ensures.back ∙ ap (drop c.in-Ok.count) was.rest ∙ drop-drop c.in-Ok.count was.done c.args.bytes.now;
      wrote = λ tells. wrote_more (S.told c.args.conn.now) (S.told c.loop-rest.conn) (S.told c.write.new.self) c.args.bytes.now c.loop-rest.rest.now was.done c.in-Ok.count was.rest (was.wrote tells) (c.in-Ok.ensures.sent tells);
      later = λ kind. omega (arith, was.later kind, c.write.ensures.cause.later kind);
    }

pub returns-in-Err-clause-written : goal.returns-in-Err-clause-written
returns-in-Err-clause-written g c tells =
    let S = g.X.Source in
    let was = c.loop-rest.invariant in
    wrote_err (S.told c.args.conn.now) (S.told c.loop-rest.conn) (S.told c.write.new.self) c.args.bytes.now c.loop-rest.rest.now was.done c.in-Err.fault was.rest (was.wrote tells) (c.in-Err.ensures.sent tells)
