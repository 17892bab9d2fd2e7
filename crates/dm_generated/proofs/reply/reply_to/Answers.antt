use Rattle.std.proofs.Common.{◌≡◌, ◌≤◌, ◌<◌, ap, sym, ◌∙◌, length, arith, ⊎_elim}
use Rattle.std.proofs.lemmas.Bool.{false≢true}
use Rattle.dm_generated.proofs.Requests.{nothing_by_none, nothing_by_other, range_by}
use Rattle.dm_generated.proofs.reply.reply_to.Goals as goal
use Rattle.dm_generated.proofs.reply.reply_to.Goals.{else-first-last-via-then-first-last+else-last-size_of, else-first-last-via-else-first-last}

pub returns-then-last-size_of-clause-answers : goal.returns-then-last-size_of-clause-answers
returns-then-last-size_of-clause-answers c =
    range_by c.args.number c.args.address.now c.args.sent.now c.len.result c.range_in.result (c.len.ensures ∙ ap length c.in_ok-whole.ensures) c.range_in.ensures
    (λ e. false≢true (sym c.if-is.false ∙ c.is.ensures.1 (c.in_ok-whole.ensures ∙ sym e)))
    c.in-Some.first c.in-Some.last c.reply_to_range.result c.if-first-last.true (omega (arith, c.if-last-size_of.true, c.size_of.ensures.is)) c.in-Some.is c.reply_to_range.ensures

pub returns-in-Some-clause-answers : goal.returns-in-Some-clause-answers
returns-in-Some-clause-answers c =
    nothing_by_other c.args.number c.args.address.now c.args.sent.now c.len.result c.range_in.result (c.len.ensures ∙ ap length c.in_ok-whole.ensures) c.range_in.ensures
    (λ e. false≢true (sym c.if-is.false ∙ c.is.ensures.1 (c.in_ok-whole.ensures ∙ sym e)))
    c.in-Some.first c.in-Some.last c.in-Some.is
    (λ order below. elim c.else-first-last.branch [
      | else-first-last-via-then-first-last+else-last-size_of w ↦ omega (arith, below, w.if-last-size_of.false, w.size_of.ensures.is)
      | else-first-last-via-else-first-last w ↦ omega (arith, order, w.if-first-last.false)
    ])

pub returns-clause-answers : goal.returns-clause-answers
returns-clause-answers c =
    nothing_by_none c.args.number c.args.address.now c.args.sent.now c.len.result c.range_in.result (c.len.ensures ∙ ap length c.in_ok-whole.ensures) c.range_in.ensures
    (λ e. false≢true (sym c.if-is.false ∙ c.is.ensures.1 (c.in_ok-whole.ensures ∙ sym e)))
    c.in-None.is
