use Rattle.dm_head.proofs.HeadLemmas.{encoded_more, unframed_more, leads_on_at}
use Rattle.dm_head.proofs.whole.redirect_to.Goals as goal

pub returns-in-Encoded : goal.returns-in-Encoded
returns-in-Encoded c =
    let w = c.requires.whole in
    encoded_more c.args.wanted.now w c.requires.of_kind.0 (leads_on_at c.args.wanted.now w c.args.location c.requires.of_kind c.requires.only) c.in-Encoded.ensures

pub returns-in-Unframeable : goal.returns-in-Unframeable
returns-in-Unframeable c =
    let w = c.requires.whole in
    unframed_more c.args.wanted.now w c.requires.of_kind.0 (leads_on_at c.args.wanted.now w c.args.location c.requires.of_kind c.requires.only)
    c.in-Unframeable.ensures.0 c.in-Unframeable.ensures.1
