use Rattle.std.proofs.Common.{subst, sym}
use Rattle.dm_edge.specs.declared.wanted.Wanted.{Wanted}
use Rattle.dm_head.specs.Whole.{IsKind}
use Rattle.dm_head.proofs.whole.kind_of.Goals as goal

pub returns-in-Part : goal.returns-in-Part
returns-in-Part c =
    subst (λ (wanted : Wanted). IsKind wanted c.args.status c.kind_of_part.result) (sym c.in-Part.is)
    (c.kind_of_part.ensures c.in-Part.first c.in-Part.last c.in-Part.tag c.in-Part.total)
