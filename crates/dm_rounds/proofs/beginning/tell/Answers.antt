use Rattle.dm_store.specs.Origin.{said_of}
use Rattle.dm_rounds.proofs.Begins.{not_told}
use Rattle.dm_rounds.proofs.beginning.tell.Goals as goal

pub returns-in-Ok-describe-clause-goes : goal.returns-in-Ok-describe-clause-goes
returns-in-Ok-describe-clause-goes g c scene led lost count live none =
    record { told = c.in-Ok.told; is = c.in-Ok.ensures.is; named = c.in-Ok-describe.ensures.goes scene led lost count c.args.reply.now.head c.args.reply.now.address live none c.in-Ok.ensures.is.address_is }

pub returns-in-Err-describe-clause-goes : goal.returns-in-Err-describe-clause-goes
returns-in-Err-describe-clause-goes g c scene led lost count live none =
    let D = g.S.D.Disk in
    let view = g.S.Desk.view in
    let reply = c.args.reply.now in
    not_told D.tells D.history (λ o. said_of (g.S.O.Origin.says o)) D.far D.faults scene c.args.pass.now (view c.args.desk.now) (view c.describe.new.desk) led lost count c.args.wish.now reply.head reply.address reply.key
    c.in-Ok.told c.in-Ok.ensures.is c.in-Err-describe.stop (c.in-Err-describe.ensures.goes scene led lost count reply.head reply.address live none c.in-Ok.ensures.is.address_is)
