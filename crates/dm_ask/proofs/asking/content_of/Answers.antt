use Rattle.std.proofs.Common.{sym, ap}
use Rattle.dm_reply.specs.declared.head.Kind.{Kind}
use Rattle.dm_ask.proofs.asking.content_of.Goals as goal

pub returns-in-Content-clause-content : goal.returns-in-Content-clause-content
returns-in-Content-clause-content c = (ap (λ (k : Kind). record c.args.head { kind = k }) (sym c.in-Content.is), c.in-Content.is)
