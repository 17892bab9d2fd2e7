use Rattle.std.proofs.Common.{◌≡◌, ◌∙◌, List, ℕ, Some, None, Ok, Err, ap, refl, subst}
use Rattle.std.specs.Prelude.{IfOk}
use Rattle.dm_store.specs.Origin.{said_of}
use Rattle.dm_archive.specs.Doing.{Given}
use Rattle.dm_response.specs.declared.reply.ApiReply.{ApiReply}
use Rattle.dm_service.specs.Replies.{row_by}
use Rattle.dm_works.specs.Serving.{service_of}
use Rattle.dm_works.proofs.Recalled.{add_list, add_row, add_silent, finds_fault, finds_item, finds_none, finds_row, finds_same}
use Rattle.dm_works.proofs.Stepping.{steps_same}
use Rattle.dm_works.proofs.recalling.add_free.Goals as goal

pub returns-in-Ok-Some-Row-clause-answers : goal.returns-in-Ok-Some-Row-clause-answers
returns-in-Ok-Some-Row-clause-answers g c =
    let K = g.K.Keeper in
    let rows = K.rows c.args.keeper.now in
    let given : Given = record { items = c.items.result.now.items; rows = rows } in
    add_row K.tells g.D.Disk.faults (service_of K.rows K.faults c.args.desk.now c.args.keeper.now) (service_of K.rows K.faults c.args.desk.now c.find_named.new.keeper) c.args.now c.row_reply.result c.args.order c.in-Ok-Some-Row.row
    (finds_same K.tells c.bytes.result.now c.args.order.word c.items.result.now c.args.desk.now.items rows (Ok (Some c.in-Ok-Some-Row.row)) c.bytes.ensures c.items.ensures.items
    (finds_row K.tells c.bytes.result.now given c.in-Ok-Some-Row.row c.in-Ok-Some-Row.field-0 (c.in-Ok-Some-Row.field-0-is ∙ ap Some c.in-Ok-Some-Row.field-0-0-is) c.in-Ok-Some-Row.ensures.without c.in-Ok-Some-Row.ensures.found))
    refl c.in-Ok-Some-Row.ensures.same c.in-Ok-Some-Row.ensures.cause.later
    (subst (λ (address : List ℕ). IfOk c.row_reply.result (λ (reply : ApiReply). reply ≡ row_by address c.in-Ok-Some-Row.row)) c.bytes-in-Ok-Some-Row.ensures c.row_reply.ensures)

pub returns-in-Ok-Some-Row-clause-steps : goal.returns-in-Ok-Some-Row-clause-steps
returns-in-Ok-Some-Row-clause-steps g c = steps_same g.D.Disk.tells g.D.Disk.history g.D.Disk.faults g.D.Disk.far (λ o. said_of (g.O.Origin.says o)) c.args.desk.now

pub returns-in-Ok-Some-Item-clause-answers : goal.returns-in-Ok-Some-Item-clause-answers
returns-in-Ok-Some-Item-clause-answers g c =
    let K = g.K.Keeper in
    let rows = K.rows c.args.keeper.now in
    let given : Given = record { items = c.items.result.now.items; rows = rows } in
    add_list K.tells g.D.Disk.faults (service_of K.rows K.faults c.args.desk.now c.args.keeper.now) (service_of K.rows K.faults c.do_job.new.desk c.find_named.new.keeper) c.args.now c.do_job.result c.args.order
    (finds_same K.tells c.bytes.result.now c.args.order.word c.items.result.now c.args.desk.now.items rows (Ok None) c.bytes.ensures c.items.ensures.items
    (finds_item K.tells c.bytes.result.now given c.in-Ok-Some-Item.field-0-0-0 c.in-Ok-Some-Item.field-0 (c.in-Ok-Some-Item.field-0-is ∙ ap Some c.in-Ok-Some-Item.field-0-0-is) c.in-Ok-Some-Item.ensures.found))
    c.in-Ok-Some-Item.ensures.same c.in-Ok-Some-Item.ensures.cause.later c.do_job.ensures.answers

pub returns-in-Ok-None-clause-answers : goal.returns-in-Ok-None-clause-answers
returns-in-Ok-None-clause-answers g c =
    let K = g.K.Keeper in
    let rows = K.rows c.args.keeper.now in
    let given : Given = record { items = c.items.result.now.items; rows = rows } in
    add_list K.tells g.D.Disk.faults (service_of K.rows K.faults c.args.desk.now c.args.keeper.now) (service_of K.rows K.faults c.do_job-in-Ok-None.new.desk c.find_named.new.keeper) c.args.now c.do_job-in-Ok-None.result c.args.order
    (finds_same K.tells c.bytes.result.now c.args.order.word c.items.result.now c.args.desk.now.items rows (Ok None) c.bytes.ensures c.items.ensures.items
    (finds_none K.tells c.bytes.result.now given c.in-Ok-None.field-0 c.in-Ok-None.field-0-is c.in-Ok-None.ensures.found))
    c.in-Ok-None.ensures.same c.in-Ok-None.ensures.cause.later c.do_job-in-Ok-None.ensures.answers

pub returns-in-Err-clause-answers : goal.returns-in-Err-clause-answers
returns-in-Err-clause-answers g c =
    let K = g.K.Keeper in
    let rows = K.rows c.args.keeper.now in
    let given : Given = record { items = c.items.result.now.items; rows = rows } in
    add_silent K.tells g.D.Disk.faults (service_of K.rows K.faults c.args.desk.now c.args.keeper.now) (service_of K.rows K.faults c.args.desk.now c.find_named.new.keeper) c.args.now c.silence.result c.args.order c.in-Err.fault
    (finds_same K.tells c.bytes.result.now c.args.order.word c.items.result.now c.args.desk.now.items rows (Err c.in-Err.fault) c.bytes.ensures c.items.ensures.items (finds_fault K.tells c.bytes.result.now given c.in-Err.fault c.in-Err.ensures.without))
    refl c.in-Err.ensures.same c.in-Err.ensures.cause c.silence.ensures

pub returns-in-Err-clause-steps : goal.returns-in-Err-clause-steps
returns-in-Err-clause-steps g c = steps_same g.D.Disk.tells g.D.Disk.history g.D.Disk.faults g.D.Disk.far (λ o. said_of (g.O.Origin.says o)) c.args.desk.now
