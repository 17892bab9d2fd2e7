use Rattle.std.proofs.Common.{◌∙◌, sym}
use Rattle.dm_items_bench.proofs.Addresses.{read_said}
use Rattle.dm_items_bench.proofs.pieces.is_brought.Goals as goal

pub returns-in-Some-last_address : goal.returns-in-Some-last_address
returns-in-Some-last_address c ok at piece =
    read_said c.args.desk.now.items.items c.args.id at piece c.in-Some.item.now c.bytes.result.now c.read_address.result (sym c.in-Some.ensures) (cc (c.in-Some-last_address.is, c.bytes.ensures)) c.read_address.ensures.ok (sym c.is_ok.ensures.value ∙ ok)
