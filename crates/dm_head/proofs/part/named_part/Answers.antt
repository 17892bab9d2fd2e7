use Rattle.std.proofs.Common.{sym, ap, ◌∙◌, List, ℕ, ◌∷◌, []}
use Rattle.dm_head.proofs.PartLemmas.{none_by, named_is}
use Rattle.dm_head.proofs.part.named_part.Goals as goal

pub returns-in-One-clause-none : goal.returns-in-One-clause-none
returns-in-One-clause-none c =
    none_by c.part_in.result
    (λ none first to total names.
    none first to total (named_is names c.of.result.now (c.in-One.ensures.0 ∙ ap (λ (v : List ℕ). v ∷ []) (sym c.of.ensures))))
    c.part_in.ensures.none
