use Rattle.std.proofs.Common.{◌≡◌, false, List, refl, subst}
use Rattle.std.specs.Prelude.{IfOk}
use Rattle.std.specs.List.{All}
use Rattle.dm_item.specs.Listing.{Listing}
use Rattle.dm_hist.specs.declared.row.Row.{Row}
use Rattle.dm_hist.specs.Shown.{is_listed}
use Rattle.dm_shown.specs.Pages.{shown_page}
use Rattle.dm_response.specs.declared.reply.ApiReply.{ApiReply}
use Rattle.dm_service.specs.Replies.{rows_by}
use Rattle.dm_service.specs.declared.task.Task.TheVariants as tasks
use Rattle.dm_works.specs.Serving.{service_of}
use Rattle.dm_works.proofs.Recalled.{rows_shown, silent}
use Rattle.dm_works.proofs.recalling.show_rows.Goals as goal

pub returns-in-Ok-clause-answers : goal.returns-in-Ok-clause-answers
returns-in-Ok-clause-answers g c at =
    let K = g.K.Keeper in
    rows_shown K.tells g.D.Disk.faults (service_of K.rows K.faults c.args.desk.now c.args.keeper.now) (service_of K.rows K.faults c.args.desk.now c.shown_rows.new.keeper) at c.rows_reply.result c.args.window c.in-Ok.rows
    (λ told. subst (λ (v : Listing). c.in-Ok.rows ≡ shown_page v.items c.args.window.after c.args.window.limit (K.rows c.args.keeper.now)) c.items.ensures.items (c.in-Ok.ensures.page told))
    (subst (λ (v : Listing). All (λ (row : Row). is_listed row.id.0 v.items ≡ false) c.in-Ok.rows) c.items.ensures.items c.in-Ok.ensures.unlisted)
    refl c.in-Ok.ensures.same c.in-Ok.ensures.cause.later
    (subst (λ (rows : List Row). IfOk c.rows_reply.result (λ (reply : ApiReply). reply ≡ rows_by rows)) c.items-in-Ok.ensures c.rows_reply.ensures)

pub returns-in-Err-clause-answers : goal.returns-in-Err-clause-answers
returns-in-Err-clause-answers g c at =
    let K = g.K.Keeper in
    silent K.tells g.D.Disk.faults (service_of K.rows K.faults c.args.desk.now c.args.keeper.now) (service_of K.rows K.faults c.args.desk.now c.shown_rows.new.keeper) at c.silence.result (tasks.History c.args.window) c.in-Err.fault
    refl refl c.in-Err.ensures.same c.in-Err.ensures.cause c.silence.ensures
