use Rattle.std.proofs.Common.{◌≡◌, true, map, take}
use Rattle.httparse.specs.Spans.{header_bytes}
use Rattle.dm_edge.specs.Fields.{is_plain}
use Rattle.dm_head.proofs.fields.is_plain.Given as goal

abbrev pub invariant-loop-field : goal.invariant-loop-field
invariant-loop-field l = is_plain (map (header_bytes l.head) (take l.field-index l.fields)) ≡ true
