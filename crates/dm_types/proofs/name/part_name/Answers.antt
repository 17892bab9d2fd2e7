-- The pieces are written one after another.
use Rattle.std.proofs.Common.{ap, ◌∙◌, codes}
use Rattle.std.specs.Fmt.{decimal}
use Rattle.dm_types.proofs.Texts.{five_pieces}
use Rattle.dm_types.proofs.name.part_name.Goals as goal

pub returns : goal.returns
returns c =
    c.from_vec.ensures ∙ ap (λ v. v.items) c.into_bytes.ensures.value ∙ c.in_ok-name.ensures.ok
    ∙ five_pieces (codes "Unconfirmed ") (decimal c.args.id.0) (codes "-") (decimal c.args.epoch.0) (codes ".crdownload")
