use Rattle.std.proofs.Common.{rules}
use Rattle.std.proofs.lemmas.Fn.{filter_same}
use Rattle.dm_hist.proofs.rows.forget.Goals as goal

pub returns : goal.returns
returns c = filter_same _ _ _ (λ row kept f g. search rules) _ _ c.retain.ensures.filtered
