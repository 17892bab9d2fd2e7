use Rattle.std.proofs.Common.{inl, Err, refl, sym, ◌∙◌}
use Rattle.dm_store.specs.Origin.{said_of}
use Rattle.dm_list.proofs.Ended.{job_refused}
use Rattle.dm_list.proofs.Quiet.{no_life, none_runs}
use Rattle.dm_past.specs.Listed.{refused}
use Rattle.dm_past.specs.Past.{past_of}
use Rattle.dm_past.proofs.Chosen.{listed_at, opened_runs, rests}
use Rattle.dm_past.proofs.listed.run_opened_or_answer.Goals as goal

pub work_or_answer-ending-requires-clause-idle : goal.work_or_answer-ending-requires-clause-idle
work_or_answer-ending-requires-clause-idle g c =
    let opened = c.in-Ok.ensures.answers.1 in
    no_life g.D.Disk.tells g.D.Disk.history c.in-Ok.desk c.in-Ok.ensures.kept opened.whole
    (none_runs g.D.Disk.tells (g.D.Disk.history c.args.disk) (g.D.Disk.history c.in-Ok.desk.disk) c.args.at opened.found c.in-Ok.desk.list _ c.in-Ok.desk.items opened.tried opened.items)

pub work_or_answer-ending-requires-clause-origin : goal.work_or_answer-ending-requires-clause-origin
work_or_answer-ending-requires-clause-origin g c = sym (c.in-Ok.ensures.answers.0.origin_is ∙ c.origin.ensures)

pub returns-in-Ok : goal.returns-in-Ok
returns-in-Ok g c =
    let N = g.N.Net in
    let K = g.K.Keeper in
    listed_at g.D.Disk.tells K.tells g.D.Disk.history g.D.Disk.faults g.D.Disk.far (λ o. said_of (g.N.O.Origin.says o)) N.tells c.origin.result (N.origin_of c.args.net.now) c.args.job c.args.at c.args.disk c.into_disk.result (N.closed c.args.net.now)
    (N.closed c.work_or_answer-ending.new.net) (N.faults c.args.net.now) (N.faults c.work_or_answer-ending.new.net) (past_of K.rows K.faults c.args.keeper.now) (past_of K.rows K.faults c.work_or_answer-ending.new.keeper) c.work_or_answer-ending.result c.origin.ensures
    (opened_runs g.D.Disk.tells K.tells g.D.Disk.history g.D.Disk.faults g.D.Disk.far (λ o. said_of (g.N.O.Origin.says o)) N.tells c.origin.result c.args.job c.args.at c.args.disk c.into_disk.result (N.closed c.args.net.now)
    (N.closed c.work_or_answer-ending.new.net) (N.faults c.args.net.now) (N.faults c.work_or_answer-ending.new.net) (past_of K.rows K.faults c.args.keeper.now) (past_of K.rows K.faults c.work_or_answer-ending.new.keeper) c.work_or_answer-ending.result
    c.in-Ok.desk c.work_or_answer-ending.new.desk c.into_disk.ensures c.in-Ok.ensures.answers.0.origin_is c.in-Ok.ensures.answers.0.limit c.in-Ok.ensures.answers.0.limits_are c.in-Ok.ensures.answers.1
    c.in-Ok.ensures.beside (λ told. c.in-Ok.ensures.on told c.in-Ok.ensures.answers.1.found (c.in-Ok.ensures.answers.1.tried.reads told)) c.in-Ok.ensures.cause.later c.in-Ok.ensures.kept c.rows_rise.ensures.rising c.work_or_answer-ending.ensures)

pub returns-in-Err : goal.returns-in-Err
returns-in-Err g c =
    let N = g.N.Net in
    let K = g.K.Keeper in
    listed_at g.D.Disk.tells K.tells g.D.Disk.history g.D.Disk.faults g.D.Disk.far (λ o. said_of (g.N.O.Origin.says o)) N.tells c.origin.result (N.origin_of c.args.net.now) c.args.job c.args.at c.args.disk c.refuse.result.disk (N.closed c.args.net.now)
    (N.closed c.args.net.now) (N.faults c.args.net.now) (N.faults c.args.net.now) (past_of K.rows K.faults c.args.keeper.now) (past_of K.rows K.faults c.args.keeper.now) c.refuse.result.ending c.origin.ensures
    (inl (refused
    (job_refused g.D.Disk.tells g.D.Disk.history g.D.Disk.faults g.D.Disk.far (said_of (g.N.O.Origin.says c.origin.result)) c.args.at c.args.disk c.refuse.result.disk c.refuse.result.ending c.in-Err.fault (Err c.in-Err.fault) refl
    c.refuse.ensures.disk c.refuse.ensures.says c.in-Err.ensures.refused c.in-Err.ensures.beside c.in-Err.ensures.cause)
    refl refl (rests K.tells (past_of K.rows K.faults c.args.keeper.now))))
