-- The pieces are written one after another.
use Rattle.std.specs.Prelude.{decimal}
use Rattle.dm_request.proofs.Texts.{range_pieces}
use Rattle.dm_request.proofs.request.push_range_lines.Goals as goal

pub returns : goal.returns
returns c =
    let ask = c.args.ask.now in
    range_pieces c.args.text.now (decimal ask.first) (decimal ask.last) ask.tag c.in_ok-written.ensures.ok c.as_bytes.ensures.value c.in_ok-push_bytes.ensures.ok c.bytes.ensures c.in_ok-push_bytes-2.ensures.ok c.in_ok-push_bytes-3.ensures.ok
