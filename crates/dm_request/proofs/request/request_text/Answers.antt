-- The pieces are written one after another.
use Rattle.std.proofs.Common.{codes, ◌∙◌, [], option_copied}
use Rattle.dm_request.specs.Address.{port_part}
use Rattle.dm_request.specs.Request.{line, range_lines}
use Rattle.dm_request.proofs.Texts.{pieces, regrouped, middle, fixed}
use Rattle.dm_request.proofs.request.request_text.Goals as goal

pub returns : goal.returns
returns c =
    let address = c.args.address.now in
    let range = range_lines (option_copied c.args.ask) in
    pieces (codes "GET ") address.target middle address.host (port_part address.port) fixed range (line []) c.in_ok-text.ensures c.bytes.ensures c.in_ok-push_bytes.ensures.ok c.in_ok-push_bytes-2.ensures.ok c.bytes-2.ensures c.in_ok-push_bytes-3.ensures.ok c.in_ok-push_port.ensures c.in_ok-push_bytes-4.ensures.ok c.in_ok-push_range.ensures c.in_ok-push_bytes-5.ensures.ok
    ∙ regrouped address.target address.host (port_part address.port) range
