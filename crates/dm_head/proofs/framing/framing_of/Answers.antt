use Rattle.std.proofs.Common.{map}
use Rattle.httparse.specs.Spans.{header_bytes}
use Rattle.dm_head.proofs.FramingLemmas.{none_found}
use Rattle.dm_head.proofs.framing.framing_of.Goals as goal

pub returns-in-Absent-clause-none : goal.returns-in-Absent-clause-none
returns-in-Absent-clause-none c =
    none_found c.args.minor (map (header_bytes c.args.head.now) c.args.fields.now) c.length_of.result c.by_length.result
    c.by_length.ensures c.in-Absent.ensures c.length_of.ensures
