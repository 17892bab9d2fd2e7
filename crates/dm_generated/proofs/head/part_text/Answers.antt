use Rattle.std.proofs.Common.{ap, sym, ◌∙◌, ◌+◌, ◌-◌}
use Rattle.std.specs.Fmt.{decimal}
use Rattle.dm_generated.proofs.Printed.{part_pieces, part_printed}
use Rattle.dm_generated.proofs.head.part_text.Goals as goal

pub returns : goal.returns
returns c =
    c.in_ok-text.ensures ∙ c.as_bytes.ensures.value ∙ c.in_ok-written.ensures.ok
    ∙ ap (λ s. part_pieces (decimal c.args.number) (decimal c.args.first) (decimal c.args.last) (decimal s) (decimal (c.args.last - c.args.first + 1))) c.size_of-size.ensures.is
    ∙ sym (part_printed c.args.number c.args.first c.args.last)
