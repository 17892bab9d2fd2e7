use Rattle.dm_disposition.proofs.TextLemmas.{plain_is}
use Rattle.dm_disposition.proofs.plain.plain_of.Goals as goal

pub returns : goal.returns
returns c = plain_is c.args.text.now c.in_ok-bytes.bytes.items c.characters.result c.in_ok-bytes.ensures c.characters.ensures
