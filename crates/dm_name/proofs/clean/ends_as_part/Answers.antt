use Rattle.std.proofs.Common.{ℕ, List, drop, ap, ◌∙◌}
use Rattle.std.specs.Str.{bytes_eq}
use Rattle.dm_types.specs.Name.{fold_case, part_ending}
use Rattle.dm_name.proofs.LawLemmas.{decided}
use Rattle.dm_name.proofs.clean.ends_as_part.Goals as goal

pub returns : goal.returns
returns c =
    decided c.eq_ignore_ascii_case.result (fold_case c.split_at.result.1.now) part_ending c.eq_ignore_ascii_case.ensures.test
    ∙ ap (λ (x : List ℕ). bytes_eq (fold_case x) part_ending) (c.split_at.ensures.back ∙ ap (λ (k : ℕ). drop k c.args.name.now) c.saturating_sub.ensures)
