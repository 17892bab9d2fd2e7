use Rattle.dm_head.proofs.HeadLemmas.{encoded_more, unframed_more, goes_on_at}
use Rattle.dm_head.proofs.whole.content_of.Goals as goal

pub returns-in-Encoded : goal.returns-in-Encoded
returns-in-Encoded c =
    let w = c.requires.whole in
    encoded_more c.args.wanted.now w c.requires.of_kind.0 (goes_on_at c.args.wanted.now w c.requires.of_kind) c.in-Encoded.ensures

pub returns-in-Unframeable : goal.returns-in-Unframeable
returns-in-Unframeable c =
    let w = c.requires.whole in
    unframed_more c.args.wanted.now w c.requires.of_kind.0 (goes_on_at c.args.wanted.now w c.requires.of_kind)
    c.in-Unframeable.ensures.0 c.in-Unframeable.ensures.1
