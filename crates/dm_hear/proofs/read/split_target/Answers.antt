use Rattle.std.proofs.Common.{ℕ, ◌+◌, ◌==◌, length, take, drop, sym, ap, ◌∙◌, arith, rules, take_all}
use Rattle.std.proofs.lemmas.List.Sums.{position_or_len_is}
use Rattle.std.proofs.lemmas.List.{drop_all, take_rest}
use Rattle.dm_hear.proofs.read.split_target.Goals as goal

pub returns-in-Some-clause-path : goal.returns-in-Some-clause-path
returns-in-Some-clause-path c =
    let found = position_or_len_is (λ (b : ℕ). b == 63) c.args.target.now c.in-Some.at 0 (search rules) (search rules) (search rules) in
    ap (λ n. take n c.args.target.now) (sym found)

pub returns-in-Some-clause-query : goal.returns-in-Some-clause-query
returns-in-Some-clause-query c =
    let found = position_or_len_is (λ (b : ℕ). b == 63) c.args.target.now c.in-Some.at 0 (search rules) (search rules) (search rules) in
    take_rest c.args.target.now _ ∙ ap (λ n. drop (n + 1) c.args.target.now) (sym found)

pub returns-in-None-clause-path : goal.returns-in-None-clause-path
returns-in-None-clause-path c =
    let target = c.args.target.now in
    let none = position_or_len_is (λ (b : ℕ). b == 63) target (length target) 0 (omega arith) (search rules) (search rules) in
    sym (ap (λ n. take n target) none ∙ take_all (length target) target (omega arith))

pub returns-in-None-clause-query : goal.returns-in-None-clause-query
returns-in-None-clause-query c =
    let target = c.args.target.now in
    let none = position_or_len_is (λ (b : ℕ). b == 63) target (length target) 0 (omega arith) (search rules) (search rules) in
    sym (ap (λ n. drop (n + 1) target) none ∙ drop_all (length target + 1) target (omega arith))
