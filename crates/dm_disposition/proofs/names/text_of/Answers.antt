use Rattle.std.proofs.Common.{ℕ, List, map, subst, sym, arith}
use Rattle.dm_disposition.specs.Views.{named}
use Rattle.dm_disposition.specs.Told.{HasText}
use Rattle.dm_disposition.proofs.NameLemmas.{text_is, no_text}
use Rattle.dm_disposition.proofs.names.text_of.Goals as goal

pub returns-then-is_named-clause-some : goal.returns-then-is_named-clause-some
returns-then-is_named-clause-some c =
    subst (λ (x : List ℕ). HasText (map named c.args.parameters.now) c.args.name.now x) (sym c.as_slice.ensures.value)
    (text_is c.args.parameters.now c.loop-parameter.parameter-index c.parameter-item.result c.args.name.now (omega arith) c.parameter-item.is (c.is_named.ensures.0 c.if-is_named.true))

pub returns-clause-none : goal.returns-clause-none
returns-clause-none c = λ text h.
    no_text c.args.parameters.now c.args.name.now text (λ k d lt. c.loop-parameter.invariant k d (omega arith)) h
