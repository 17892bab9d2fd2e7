use Rattle.std.proofs.Common.{subst, ◌∙◌, below_more}
use Rattle.dm_name.specs.Forms.{form, IsTaken}
use Rattle.dm_name.proofs.forms.unique_name.Goals as goal

pub loop-number-preserved : goal.loop-number-preserved
loop-number-preserved c =
    below_more (λ k. IsTaken c.args.taken.now (form c.args.wish.now k)) c.loop-number.number c.loop-number.invariant
    (subst (IsTaken c.args.taken.now) (c.bytes.ensures ∙ c.in_ok-name.ensures) (c.is_taken.ensures.0 c.if-not-is_taken.false))
