use Rattle.std.proofs.Common.{map}
use Rattle.httparse.specs.Spans.{header_bytes}
use Rattle.dm_hear.proofs.Lengths.{uncountable}
use Rattle.dm_hear.proofs.length.content_length.Goals as goal

pub returns-in-Unreadable-clause-none : goal.returns-in-Unreadable-clause-none
returns-in-Unreadable-clause-none c = uncountable (map (header_bytes c.args.head.now) c.args.fields.now) c.in-Unreadable.ensures
