use Rattle.std.proofs.Common.{◌≡◌, [], length, sym, ap, subst, arith}
use Rattle.std.proofs.lemmas.List.{nil_from_length}
use Rattle.std.proofs.lemmas.Bool.Decides.{nat_tests}
use Rattle.dm_tag.specs.Length.{IsTail}
use Rattle.dm_tag.proofs.ReadLemmas.{length_begins, length_tail, length_from, tail_begins, tail_cons, tail_rest, tail_nil, repeat_shorter}
use Rattle.dm_tag.proofs.length.read_length.Goals as goal

pub returns-in_err-number-clause-none : goal.returns-in_err-number-clause-none
returns-in_err-number-clause-none c = rw c.from_residual.ensures (λ n is.
    let b = length_begins c.args.value.now n is in
    c.in_err-number.ensures.none n b.0 b.1)

pub loop-rest-smaller : goal.loop-rest-smaller
loop-rest-smaller c = repeat_shorter c.in_ok-number.number c.loop-rest.rest.now c.in_ok-rest.rest.now c.in_ok-rest.ensures.found

pub loop-rest-preserved : goal.loop-rest-preserved
loop-rest-preserved c =
    let begins = c.in_ok-rest.ensures.found in
    record {
      back = λ t. c.loop-rest.invariant.back (tail_cons c.in_ok-number.number c.loop-rest.rest.now c.in_ok-rest.rest.now begins t);
      forth = λ t. tail_rest c.in_ok-number.number c.loop-rest.rest.now c.in_ok-rest.rest.now begins (c.loop-rest.invariant.forth t);
    }

pub returns-in_err-rest-clause-none : goal.returns-in_err-rest-clause-none
returns-in_err-rest-clause-none c = rw c.from_residual-in_err-rest.ensures (λ n is.
    let tail = c.loop-rest.invariant.forth (length_tail c.args.value.now c.in_ok-number.number n c.in_ok-number.rest.now c.in_ok-number.ensures.found is) in
    let some : c.loop-rest.rest.now ≡ [] → ⊥ = λ e. let empty = ap length e in grind (arith, nat_tests) in
    let parts = tail_begins c.in_ok-number.number c.loop-rest.rest.now tail some in
    c.in_err-rest.ensures.none parts.0 parts.1)

pub returns-clause-found : goal.returns-clause-found
returns-clause-found c =
    let none : length c.loop-rest.rest.now ≡ 0 = grind (arith, nat_tests) in
    let nil = nil_from_length c.loop-rest.rest.now none in
    length_from c.args.value.now c.in_ok-number.number c.in_ok-number.rest.now c.in_ok-number.ensures.found
    (c.loop-rest.invariant.back (subst (IsTail c.in_ok-number.number) (sym nil) (tail_nil c.in_ok-number.number)))
