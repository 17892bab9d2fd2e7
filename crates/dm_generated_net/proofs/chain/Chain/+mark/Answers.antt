use Rattle.std.proofs.Common.{List, IfSome, refl, sym, ◌∙◌, ap, subst}
use Rattle.dm_generated_net.specs.declared.chain.Connection.{Connection}
use Rattle.dm_generated_net.specs.Chain.{linked}
use Rattle.dm_generated_net.specs.Own.{AreMarked}
use Rattle.dm_generated_net.proofs.Marking.{marked_if}
use Rattle.dm_generated_net.proofs.chain.Chain.+mark.Goals as goal

pub returns-in-Some-clause-marked : goal.returns-in-Some-clause-marked
returns-in-Some-clause-marked t c =
    subst (λ (all : List Connection). IfSome c.checked_add.result (λ _. AreMarked c.args.number c.args.bound all c.mark_one.new.marks)) (sym (ap linked c.in-More.is) ∙ c.self.view_is)
    (marked_if c.args.number c.args.bound c.in-More.older.value c.in-More.newest c.mark.new.marks c.mark_one.new.marks c.checked_add.result
    (subst (λ (older : List Connection). AreMarked c.args.number c.args.bound older c.mark.new.marks) c.deref.ensures c.in-Some.ensures.marked) (c.if-mark_one.ensures.marked refl))
