use Rattle.std.proofs.Common.{arith, subst}
use Rattle.csv.specs.Records.{fields_of}
use Rattle.dm_csv.specs.Reading.{RefusesRow}
use Rattle.dm_csv.proofs.Listed.{bad_behind, rows_more}
use Rattle.dm_csv.proofs.importing.read_under.Goals as goal

pub returns-in-Err-Bad-clause-refused : goal.returns-in-Err-Bad-clause-refused
returns-in-Err-Bad-clause-refused c =
    bad_behind c.args.under.now c.loop-found.found-index c.loop-found.number c.found-item.result c.loop-found.rows c.loop-found-test.true c.found-item.is c.loop-found.invariant.number c.loop-found.invariant.are
    (subst (RefusesRow (fields_of c.found-item.result)) c.in-Err-Bad.field-0-is c.in-Err-Bad.ensures.refused)

pub loop-found-preserved : goal.loop-found-preserved
loop-found-preserved c = record {
  are = rows_more c.args.under.now c.loop-found.found-index c.found-item.result c.loop-found.rows c.push.new.self c.in-Ok.row c.loop-found-test.true c.found-item.is c.loop-found.invariant.are c.in-Ok.ensures.ok c.in-Ok-push.ensures.ok;
  number = omega (arith, c.loop-found.invariant.number);
}
