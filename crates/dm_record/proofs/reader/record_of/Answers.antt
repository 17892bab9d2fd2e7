use Rattle.std.proofs.Common.{arith}
use Rattle.dm_record.proofs.Places as places
use Rattle.dm_record.proofs.reader.record_of.Goals as goal

pub overflow_sub-result : goal.overflow_sub-result
overflow_sub-result c = places.rest_within c.args.bytes.now c.in-Ok.entry c.in-Ok.rest.now (places.are_bytes c.args.bytes.now (λ i. omega (arith, c.type_inv.bytes i))) c.in-Ok.ensures

pub overflow_sub-result-in-Err-Stray : goal.overflow_sub-result-in-Err-Stray
overflow_sub-result-in-Err-Stray c =
    places.left_within c.args.bytes.now c.in-Err-Stray.left (places.are_bytes c.args.bytes.now (λ i. omega (arith, c.type_inv.bytes i))) (rw c.in-Err-Stray.field-0-is at c.in-Err-Stray.ensures)
