use Rattle.dm_head.specs.declared.fields.Values.TheVariants as found
use Rattle.dm_head.proofs.HeadLemmas.{lost_more}
use Rattle.dm_head.proofs.whole.redirect_of.Goals as goal

pub returns-in-Absent : goal.returns-in-Absent
returns-in-Absent c =
    lost_more c.args.wanted.now c.requires.whole found.Absent c.requires.of_kind.0 c.requires.of_kind.1 (λ span e. absurd cc) c.in-Absent.ensures

pub returns-in-Several : goal.returns-in-Several
returns-in-Several c =
    lost_more c.args.wanted.now c.requires.whole found.Several c.requires.of_kind.0 c.requires.of_kind.1 (λ span e. absurd cc) c.in-Several.ensures
