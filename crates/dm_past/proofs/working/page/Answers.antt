use Rattle.std.proofs.Common.{◌≡◌, false, List, map, subst}
use Rattle.std.specs.Prelude.{IfOk}
use Rattle.std.specs.List.{All, concat}
use Rattle.dm_item.specs.Listing.{Listing}
use Rattle.dm_store.specs.Origin.{said_of}
use Rattle.dm_report.specs.declared.verdict.Verdict.TheVariants.{Done}
use Rattle.dm_hist.specs.declared.row.Row.{Row}
use Rattle.dm_hist.specs.Shown.{is_listed}
use Rattle.dm_shown.specs.Pages.{shown_page}
use Rattle.dm_past.specs.Past.{past_of}
use Rattle.dm_past.specs.Saying.{row_line_of}
use Rattle.dm_past.proofs.Turned.{page_goes, page_lost, page_shows, page_told}
use Rattle.dm_past.proofs.Written.{ends_text}
use Rattle.dm_past.proofs.working.page.Goals as goal

pub returns-in-Ok-clause-worked : goal.returns-in-Ok-clause-worked
returns-in-Ok-clause-worked g c =
    page_told g.D.Disk.tells g.K.Keeper.tells g.D.Disk.history g.D.Disk.faults g.D.Disk.far (λ o. said_of (g.O.Origin.says o)) c.args.desk.now (past_of g.K.Keeper.rows g.K.Keeper.faults c.args.keeper.now) (past_of g.K.Keeper.rows g.K.Keeper.faults c.shown_rows.new.keeper)
    c.items.ensures.kept c.requires.whole c.args.after c.args.limit c.in-Ok.rows c.with_text.result
    (λ told. subst (λ (v : Listing). c.in-Ok.rows ≡ shown_page v.items c.args.after c.args.limit (g.K.Keeper.rows c.args.keeper.now)) c.items.ensures.items (c.in-Ok.ensures.page told))
    (subst (λ (v : Listing). All (λ (row : Row). is_listed row.id.0 v.items ≡ false) c.in-Ok.rows) c.items.ensures.items c.in-Ok.ensures.unlisted)
    c.in-Ok.ensures.same
    (ends_text Done c.row_lines.result (concat (map row_line_of c.in-Ok.rows)) c.with_text.result c.with_text.ensures (subst (λ (rows : List Row). IfOk c.row_lines.result (λ t. t ≡ concat (map row_line_of rows))) c.items-in-Ok.ensures c.row_lines.ensures))

pub returns-in-Ok-clause-goes : goal.returns-in-Ok-clause-goes
returns-in-Ok-clause-goes g c =
    page_goes g.D.Disk.tells g.K.Keeper.tells g.D.Disk.history g.D.Disk.faults g.D.Disk.far (λ o. said_of (g.O.Origin.says o)) c.args.desk.now (past_of g.K.Keeper.rows g.K.Keeper.faults c.args.keeper.now) (past_of g.K.Keeper.rows g.K.Keeper.faults c.shown_rows.new.keeper)
    c.items.ensures.kept c.requires.whole c.in-Ok.ensures.cause.later

pub returns-in-Ok-clause-shows : goal.returns-in-Ok-clause-shows
returns-in-Ok-clause-shows g c =
    page_shows g.D.Disk.tells g.K.Keeper.tells g.D.Disk.history g.D.Disk.faults g.D.Disk.far (λ o. said_of (g.O.Origin.says o)) c.args.desk.now (past_of g.K.Keeper.rows g.K.Keeper.faults c.args.keeper.now) (past_of g.K.Keeper.rows g.K.Keeper.faults c.shown_rows.new.keeper)
    c.items.ensures.kept c.requires.whole c.rows_rise.ensures.rising c.in-Ok.ensures.same

pub returns-in-Err-clause-worked : goal.returns-in-Err-clause-worked
returns-in-Err-clause-worked g c =
    page_lost g.D.Disk.tells g.K.Keeper.tells g.D.Disk.history g.D.Disk.faults g.D.Disk.far (λ o. said_of (g.O.Origin.says o)) c.args.desk.now (past_of g.K.Keeper.rows g.K.Keeper.faults c.args.keeper.now) (past_of g.K.Keeper.rows g.K.Keeper.faults c.shown_rows.new.keeper)
    c.items.ensures.kept c.requires.whole c.args.after c.args.limit c.in-Err.fault c.say_keeper.result c.in-Err.ensures.same c.in-Err.ensures.cause c.say_keeper.ensures

pub returns-in-Err-clause-goes : goal.returns-in-Err-clause-goes
returns-in-Err-clause-goes g c =
    page_goes g.D.Disk.tells g.K.Keeper.tells g.D.Disk.history g.D.Disk.faults g.D.Disk.far (λ o. said_of (g.O.Origin.says o)) c.args.desk.now (past_of g.K.Keeper.rows g.K.Keeper.faults c.args.keeper.now) (past_of g.K.Keeper.rows g.K.Keeper.faults c.shown_rows.new.keeper)
    c.items.ensures.kept c.requires.whole c.in-Err.ensures.cause.later

pub returns-in-Err-clause-shows : goal.returns-in-Err-clause-shows
returns-in-Err-clause-shows g c =
    page_shows g.D.Disk.tells g.K.Keeper.tells g.D.Disk.history g.D.Disk.faults g.D.Disk.far (λ o. said_of (g.O.Origin.says o)) c.args.desk.now (past_of g.K.Keeper.rows g.K.Keeper.faults c.args.keeper.now) (past_of g.K.Keeper.rows g.K.Keeper.faults c.shown_rows.new.keeper)
    c.items.ensures.kept c.requires.whole c.rows_rise.ensures.rising c.in-Err.ensures.same
