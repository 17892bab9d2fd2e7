use Rattle.std.proofs.Common.{ℕ, List, take, subst, sym, arith}
use Rattle.std.specs.List.{Any}
use Rattle.std.proofs.lemmas.Bool.{both_ways}
use Rattle.dm_disposition.proofs.NameLemmas.{Has, apart_more, repeat_is}
use Rattle.dm_disposition.proofs.names.first_repeat.Goals as goal

pub returns-then-stands_among-clause-some : goal.returns-then-stands_among-clause-some
returns-then-stands_among-clause-some c =
    let i = c.loop-index.index in
    let p = c.index-parameters-index.result in
    let any = c.stands_among.ensures.0 c.if-stands_among.true in
    repeat_is c.args.parameters.now i p (omega arith) c.index-parameters-index.is c.loop-index.invariant (subst (λ (n : List ℕ). Any (Has n) (take i c.args.parameters.now)) c.as_slice.ensures.value any)

pub loop-index-preserved : goal.loop-index-preserved
loop-index-preserved c =
    let i = c.loop-index.index in
    let p = c.index-parameters-index.result in
    apart_more c.args.parameters.now i p (omega arith) c.index-parameters-index.is c.loop-index.invariant
    (λ a. both_ways c.stands_among.result c.if-stands_among.false (c.stands_among.ensures.1 (subst (λ (n : List ℕ). Any (Has n) (take i c.args.parameters.now)) (sym c.as_slice.ensures.value) a)))
