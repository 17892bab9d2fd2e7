use Rattle.std.proofs.Common.{rules}
use Rattle.std.proofs.lemmas.Fn.{filter_same}
use Rattle.dm_disk.proofs.index.Index.forget.Goals as goal

pub returns-clause-entries : goal.returns-clause-entries
returns-clause-entries c = filter_same _ _ _ (λ one kept f g. search rules) _ _ c.retain.ensures.filtered
