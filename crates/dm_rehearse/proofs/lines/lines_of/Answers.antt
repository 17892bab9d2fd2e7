use Rattle.std.proofs.Common.{ℕ, List, ◌++◌, codes, ap, ◌∙◌}
use Rattle.std.specs.Fmt.{decimal}
use Rattle.std.specs.String.{string_bytes}
use Rattle.dm_generated.specs.Content.{size_of}
use Rattle.dm_rehearse.specs.Lines.{line}
use Rattle.dm_rehearse.proofs.Pieces.{four_lines}
use Rattle.dm_rehearse.proofs.lines.lines_of.Goals as goal

pub returns : goal.returns
returns c =
    let attempts = decimal c.args.counts.attempts in
    let broke = decimal c.args.counts.broke in
    c.from_vec.ensures ∙ ap (λ v. v.items) c.into_bytes.ensures.value ∙ c.in_ok-text.ensures.ok
    ∙ four_lines (decimal c.size_of-size.result) attempts broke (string_bytes c.in_ok-digits.digits)
    ∙ ap (λ (size : ℕ). line (codes "bytes") (decimal size) ++ line (codes "attempts") attempts ++ line (codes "broke") broke ++ line (codes "sha256") (string_bytes c.in_ok-digits.digits)) c.size_of-size.ensures.is
    ∙ ap (λ (digits : List ℕ). line (codes "bytes") (decimal (size_of c.args.number)) ++ line (codes "attempts") attempts ++ line (codes "broke") broke ++ line (codes "sha256") digits) c.in_ok-digits.ensures
