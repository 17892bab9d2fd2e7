use Rattle.std.proofs.Common.{arith}
use Rattle.dm_record.proofs.Places as places
use Rattle.dm_record.proofs.reader.read_entry.Goals as goal

pub returns-clause-answers : goal.returns-clause-answers
returns-clause-answers c = places.answers c.args.bytes.now c.record_of.result (places.are_bytes c.args.bytes.now (λ i. omega (arith, c.type_inv.bytes i))) c.record_of.ensures

pub returns-clause-whole : goal.returns-clause-whole
returns-clause-whole c = places.whole c.args.bytes.now c.record_of.result c.record_of.ensures

pub returns-clause-cut : goal.returns-clause-cut
returns-clause-cut c = places.cut c.args.bytes.now c.record_of.result (places.are_bytes c.args.bytes.now (λ i. omega (arith, c.type_inv.bytes i))) c.record_of.ensures

pub returns-clause-bad : goal.returns-clause-bad
returns-clause-bad c = places.bad c.args.bytes.now c.record_of.result (places.are_bytes c.args.bytes.now (λ i. omega (arith, c.type_inv.bytes i))) c.record_of.ensures

pub returns-clause-within : goal.returns-clause-within
returns-clause-within c =
    places.within c.args.bytes.now c.record_of.result (places.answers c.args.bytes.now c.record_of.result (places.are_bytes c.args.bytes.now (λ i. omega (arith, c.type_inv.bytes i))) c.record_of.ensures)
