use Rattle.dm_rounds.proofs.Causes.{ask_own}
use Rattle.dm_rounds.proofs.Asks.{ask_met}
use Rattle.dm_rounds.proofs.first.first_reply.Goals as goal

pub returns-in-Content-clause-reached : goal.returns-in-Content-clause-reached
returns-in-Content-clause-reached g c t =
    let reached = c.in-Content.ensures.reached t in
    (reached.led, record { closed = reached.closed; leads = reached.leads; few = reached.few })

pub returns-in-Broke-clause-counted : goal.returns-in-Broke-clause-counted
returns-in-Broke-clause-counted g c = (ask_own c.in-Broke.cause c.in-Broke.ensures.apart c.in-Broke.ensures.shown.own, c.in-Broke.ensures.shown.counted)

pub returns-in-Broke-clause-met : goal.returns-in-Broke-clause-met
returns-in-Broke-clause-met g c = ask_met c.in-Broke.cause c.in-Broke.ensures.shown.own
