use Rattle.std.proofs.Common.{◌≡◌, [], map, take}
use Rattle.httparse.specs.Spans.{header_bytes}
use Rattle.dm_edge.specs.Fields.{values_of}
use Rattle.dm_hear.proofs.length.has_field.Given as goal

abbrev pub invariant-loop-field : goal.invariant-loop-field
invariant-loop-field l = values_of l.name (map (header_bytes l.head) (take l.field-index l.fields)) ≡ []
