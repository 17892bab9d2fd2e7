use Rattle.std.proofs.Common.{Err, ap, refl, ◌∙◌}
use Rattle.dm_types.specs.Faults.{Rose}
use Rattle.dm_types.specs.declared.item.Limits.{Limits}
use Rattle.dm_edge.specs.declared.fault.EdgeFault.TheVariants.{Failed}
use Rattle.dm_store.specs.Origin.{said_of}
use Rattle.dm_does.specs.Printing.{SameCounts}
use Rattle.dm_past.specs.Past.{past_of}
use Rattle.dm_works.proofs.Stepping.{steps_then}
use Rattle.dm_session.specs.Serving.{IsTold, said_at_end}
use Rattle.dm_session.proofs.Ended.{refused_runs}
use Rattle.dm_session.proofs.Opened.{ends_so}
use Rattle.dm_session.proofs.session.run_session.Goals as goal

pub returns-in-Ok-clause-runs : goal.returns-in-Ok-clause-runs
returns-in-Ok-clause-runs g c =
    let opened = c.in-Ok.desk in
    let left = c.serve_all-closed.new.desk in
    let ended = c.shut-broken.new.desk in
    let X = g.X.Conns in
    let K = g.K.Keeper in
    let ok = c.in-Ok.ensures in
    ends_so g.D.Disk.tells g.D.Disk.history g.D.Disk.faults g.D.Disk.far (λ o. said_of (g.O.Origin.says o)) c.args.origin c.args.at c.args.disk opened left ended
    ok.answers.0.origin_is (ap (λ (l : Limits). l.items) ok.answers.0.limits_are) ok.answers.0.limit ok.answers.1 ok.beside (λ told. ok.on told ok.answers.1.found (ok.answers.1.tried.reads told)) ok.cause.later
    (steps_then g.D.Disk.tells g.D.Disk.history g.D.Disk.faults g.D.Disk.far (λ o. said_of (g.O.Origin.says o)) opened left ended c.serve_all-closed.ensures.steps c.shut-broken.ensures.steps)
    c.shut-broken.ensures.steps.keeps
    X.tells K.tells (IsTold g.C.Clock.tells g.C.Clock.next) (SameCounts (X.faults c.args.conns.now) (X.faults c.serve_all-closed.new.conns)) (Rose (X.faults c.args.conns.now Failed) (X.faults c.serve_all-closed.new.conns Failed)) (past_of K.rows K.faults c.args.keeper.now) (past_of K.rows K.faults c.serve_all-closed.new.keeper)
    (record { over = X.over c.args.conns.now; count = X.served c.args.conns.now }) (record { over = X.over c.serve_all-closed.new.conns; count = X.served c.serve_all-closed.new.conns }) c.args.requests c.serve_all-closed.result
    c.serve_all-closed.ensures.closes c.shut-broken.ensures.shuts c.into_disk.result c.into_disk.ensures c.ending_of.result (c.ending_of.ensures ∙ ap (said_at_end c.serve_all-closed.result) c.shut-broken.ensures.broken)

pub returns-in-Err-clause-runs : goal.returns-in-Err-clause-runs
returns-in-Err-clause-runs g c =
    let X = g.X.Conns in
    let K = g.K.Keeper in
    refused_runs g.D.Disk.tells X.tells K.tells (IsTold g.C.Clock.tells g.C.Clock.next) (SameCounts (X.faults c.args.conns.now) (X.faults c.args.conns.now)) (Rose (X.faults c.args.conns.now Failed) (X.faults c.args.conns.now Failed)) g.D.Disk.history g.D.Disk.faults g.D.Disk.far (λ o. said_of (g.O.Origin.says o)) c.args.origin c.args.at c.args.disk c.refuse.result.ending (past_of K.rows K.faults c.args.keeper.now)
    (record { over = X.over c.args.conns.now; count = X.served c.args.conns.now }) c.args.requests (λ kind. refl)
    c.refuse.result.disk c.in-Err.fault (Err c.in-Err.fault) refl c.refuse.ensures.disk c.refuse.ensures.says c.in-Err.ensures.refused c.in-Err.ensures.beside c.in-Err.ensures.cause
