use Rattle.std.proofs.Common.{◌≡◌, ℕ, List, ◌∙◌}
use Rattle.std.proofs.lemmas.Result.{IfOk-weaker}
use Rattle.dm_name.specs.Clean.{cleaned, shortened}
use Rattle.dm_name.proofs.LawLemmas.{cleaned_is}
use Rattle.dm_name.proofs.clean.cleaned.Goals as goal

pub returns : goal.returns
returns c =
    let whole = c.as_slice.ensures.value ∙ c.in_ok-whole.ensures in
    let part = c.in_ok-name.ensures.items ∙ c.trimmed.ensures in
    let done = cleaned_is c.args.raw.now _ _ _ _ _ whole part c.replace_dot.ensures c.in_ok-fill_empty.ensures (c.as_slice-2.ensures.value ∙ c.in_ok-guard.ensures) in
    IfOk-weaker c.shortened.result (λ (t : List ℕ). t ≡ shortened c.as_slice-2.result.now) (λ (t : List ℕ). t ≡ cleaned c.args.raw.now) (λ t e. e ∙ done) c.shortened.ensures
