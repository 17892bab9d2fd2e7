use Rattle.std.proofs.Common.{ap, sym, ◌∙◌}
use Rattle.std.specs.Fmt.{decimal}
use Rattle.dm_generated.proofs.Printed.{whole_pieces, whole_printed}
use Rattle.dm_generated.proofs.head.whole_text.Goals as goal

pub returns : goal.returns
returns c =
    c.in_ok-text.ensures ∙ c.as_bytes.ensures.value ∙ c.in_ok-written.ensures.ok
    ∙ ap (λ s. whole_pieces (decimal c.args.number) (decimal s)) c.size_of-size.ensures.is ∙ sym (whole_printed c.args.number)
