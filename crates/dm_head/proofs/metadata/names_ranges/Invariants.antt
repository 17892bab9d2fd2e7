use Rattle.std.proofs.Common.{All, map, take}
use Rattle.httparse.specs.Spans.{header_bytes}
use Rattle.dm_edge.specs.Fields.{NameAndValue}
use Rattle.dm_edge.specs.Metadata.{NamesRanges}
use Rattle.dm_head.proofs.metadata.names_ranges.Given as goal

abbrev pub invariant-loop-field : goal.invariant-loop-field
invariant-loop-field l = All (λ (field : NameAndValue). NamesRanges field → ⊥) (map (header_bytes l.head) (take l.field-index l.fields))
