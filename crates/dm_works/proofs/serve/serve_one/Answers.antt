use Rattle.std.proofs.Common.{refl, Ok, Err, Option, subst}
use Rattle.dm_api.specs.Serving.{SendsOut}
use Rattle.dm_response.specs.declared.reply.ApiReply.{ApiReply}
use Rattle.dm_api.proofs.Sending.{served_answer, served_refusal}
use Rattle.dm_store.specs.Origin.{said_of}
use Rattle.dm_works.specs.Requests.{AnswersOn}
use Rattle.dm_works.specs.Serving.{service_of}
use Rattle.dm_works.proofs.Stepping.{steps_same}
use Rattle.dm_works.proofs.serve.serve_one.Goals as goal

pub returns-in-Ok-clause-served : goal.returns-in-Ok-clause-served
returns-in-Ok-clause-served g c =
    let S = g.X.Source in
    let K = g.K.Keeper in
    let mid = c.read_api.new.source in
    served_answer (AnswersOn g.D.Disk.tells K.tells g.D.Disk.history g.D.Disk.faults (λ o. said_of (g.O.Origin.says o))) (service_of K.rows K.faults c.args.desk.now c.args.keeper.now) (service_of K.rows K.faults c.answer.new.desk c.answer.new.keeper) S.tells (S.told c.args.conn.now) (S.told mid) (S.told c.send_out.new.conn) (S.faults c.args.conn.now) (S.faults mid) (S.faults c.send_out.new.conn) c.args.now c.send_out.result
    (Ok c.in-Ok.request) c.in-Ok.request c.answer.result refl c.in-Ok.ensures.heard c.in-Ok.ensures.cause c.send_out.ensures.later c.answer.ensures.answers
    (subst (λ (reply : Option ApiReply). SendsOut S.tells (S.told mid) (S.told c.send_out.new.conn) (S.faults mid) (S.faults c.send_out.new.conn) reply c.send_out.result) c.outgoing_of-outgoing.ensures c.send_out.ensures.sent)

pub returns-in-Err-clause-served : goal.returns-in-Err-clause-served
returns-in-Err-clause-served g c =
    let S = g.X.Source in
    let K = g.K.Keeper in
    let mid = c.read_api.new.source in
    served_refusal (AnswersOn g.D.Disk.tells K.tells g.D.Disk.history g.D.Disk.faults (λ o. said_of (g.O.Origin.says o))) (service_of K.rows K.faults c.args.desk.now c.args.keeper.now) (service_of K.rows K.faults c.args.desk.now c.args.keeper.now) S.tells (S.told c.args.conn.now) (S.told mid) (S.told c.send_out-in-Err.new.conn) (S.faults c.args.conn.now) (S.faults mid) (S.faults c.send_out-in-Err.new.conn) c.args.now c.send_out-in-Err.result
    (Err c.in-Err.fault) c.in-Err.fault _ refl c.in-Err.ensures.heard c.in-Err.ensures.cause c.send_out-in-Err.ensures.later refl c.refusal-outgoing.ensures c.send_out-in-Err.ensures.sent

pub returns-in-Err-clause-steps : goal.returns-in-Err-clause-steps
returns-in-Err-clause-steps g c = steps_same g.D.Disk.tells g.D.Disk.history g.D.Disk.faults g.D.Disk.far (λ o. said_of (g.O.Origin.says o)) c.args.desk.now
