-- The pieces are written one after another.
use Rattle.std.proofs.Common.{[], ◌∷◌, ◌++◌, ap, ◌∙◌, codes}
use Rattle.std.specs.Fmt.{decimal}
use Rattle.dm_types.specs.Reason.{code_of}
use Rattle.dm_report.specs.Texts.{line}
use Rattle.dm_types.proofs.Texts.{five_pieces}
use Rattle.dm_report.proofs.verdict.interrupted_line.Goals as goal

pub returns : goal.returns
returns c =
    c.from_vec.ensures ∙ ap (λ v. v.items) c.into_bytes.ensures.value ∙ c.in_ok-line.ensures.ok
    ∙ five_pieces (codes "interrupted ") (decimal c.code-code.result) (codes " ") c.name-name.result.now (10 ∷ [])
    ∙ ap (λ code. line (codes "interrupted " ++ decimal code ++ codes " " ++ c.name-name.result.now)) c.code-code.ensures
    ∙ ap (λ name. line (codes "interrupted " ++ decimal (code_of c.args.reason) ++ codes " " ++ name)) c.name-name.ensures
