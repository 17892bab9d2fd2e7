use Rattle.std.proofs.Common.{rules}
use Rattle.std.proofs.lemmas.List.Sorted.{answers_always}
use Rattle.dm_hist.proofs.Placing.{searched}
use Rattle.dm_hist.specs.declared.row.Row.{Row}
use Rattle.dm_hist.proofs.rows.place_of.Goals as goal

pub returns-clause-found : goal.returns-clause-found
returns-clause-found c =
    let facts = c.binary_search_by_key.ensures in
    (searched c.args.rows.now c.requires c.args.id.0 _ facts.bound (facts.position (λ (row : Row). row.id.0) (answers_always _ _ _ (λ f a r g called. search rules)))).found

pub returns-clause-absent : goal.returns-clause-absent
returns-clause-absent c =
    let facts = c.binary_search_by_key.ensures in
    (searched c.args.rows.now c.requires c.args.id.0 _ facts.bound (facts.position (λ (row : Row). row.id.0) (answers_always _ _ _ (λ f a r g called. search rules)))).absent
