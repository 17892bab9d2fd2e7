use Rattle.dm_rounds.proofs.Begins.{telling}
use Rattle.dm_rounds.proofs.beginning.told_by.Goals as goal

pub returns-in-Ok-clause-telling : goal.returns-in-Ok-clause-telling
returns-in-Ok-clause-telling g c =
    let reply = c.args.reply.now in
    telling c.args.pass.now c.args.wish.now reply.head reply.address reply.key c.in-Ok.told c.requires.plain c.requires.key c.requires.read c.in-Ok.ensures
