use Rattle.std.proofs.Common.{◌≡◌, ℕ, List, Option, Some, None, Ok, subst}
use Rattle.dm_item.specs.Listing.{Listing}
use Rattle.dm_store.specs.Origin.{said_of}
use Rattle.dm_hist.specs.declared.row.Row.{Row}
use Rattle.dm_past.specs.ByRows.{FindsFree}
use Rattle.dm_past.specs.Past.{past_of}
use Rattle.dm_past.proofs.Turned.{page_goes}
use Rattle.dm_import.specs.Adding.{answer_by, given_by}
use Rattle.dm_import.proofs.Tried.{list_tried, row_tried}
use Rattle.dm_import.proofs.adding.add_order.Goals as goal

pub returns-in-Ok-Some-clause-tried : goal.returns-in-Ok-Some-clause-tried
returns-in-Ok-Some-clause-tried g c =
    let rows : List Row = g.K.Keeper.rows c.args.keeper.now in
    let row : Row = c.in-Ok-Some.row in
    row_tried g.K.Keeper.tells g.D.Disk.history g.D.Disk.tells g.D.Disk.faults c.args.at c.args.order c.args.desk.now (past_of g.K.Keeper.rows g.K.Keeper.faults c.args.keeper.now) (past_of g.K.Keeper.rows g.K.Keeper.faults c.find_free.new.keeper)
    c.requires.desk c.requires.whole row c.answer_by.result
    (subst (λ (word : List ℕ). FindsFree g.K.Keeper.tells word (given_by c.args.desk.now.items rows) (Ok (Some row))) c.bytes.ensures
    (subst (λ (v : Listing). FindsFree g.K.Keeper.tells c.bytes.result.now (given_by v rows) (Ok (Some row))) c.items.ensures.items
    (subst (λ (found : Option Row). FindsFree g.K.Keeper.tells c.bytes.result.now (given_by c.items.result.now rows) (Ok found)) c.in-Ok-Some.field-0-is c.in-Ok-Some.ensures.found)))
    (subst (λ (a : List ℕ). c.answer_by.result ≡ answer_by a row) c.bytes-in-Ok-Some.ensures c.answer_by.ensures)

pub returns-in-Ok-Some-clause-goes : goal.returns-in-Ok-Some-clause-goes
returns-in-Ok-Some-clause-goes g c =
    page_goes g.D.Disk.tells g.K.Keeper.tells g.D.Disk.history g.D.Disk.faults g.D.Disk.far (λ o. said_of (g.O.Origin.says o)) c.args.desk.now (past_of g.K.Keeper.rows g.K.Keeper.faults c.args.keeper.now) (past_of g.K.Keeper.rows g.K.Keeper.faults c.find_free.new.keeper)
    c.requires.desk c.requires.whole c.in-Ok-Some.ensures.cause.later

pub returns-in-Ok-None-clause-tried : goal.returns-in-Ok-None-clause-tried
returns-in-Ok-None-clause-tried g c =
    let rows : List Row = g.K.Keeper.rows c.args.keeper.now in
    let found : FindsFree g.K.Keeper.tells c.args.order.word (given_by c.args.desk.now.items rows) (Ok None) =
    subst (λ (word : List ℕ). FindsFree g.K.Keeper.tells word (given_by c.args.desk.now.items rows) (Ok None)) c.bytes.ensures
    (subst (λ (v : Listing). FindsFree g.K.Keeper.tells c.bytes.result.now (given_by v rows) (Ok None)) c.items.ensures.items
    (subst (λ (found : Option Row). FindsFree g.K.Keeper.tells c.bytes.result.now (given_by c.items.result.now rows) (Ok found)) c.in-Ok-None.field-0-is c.in-Ok-None.ensures.found)) in
    list_tried g.K.Keeper.tells g.D.Disk.history g.D.Disk.tells g.D.Disk.faults c.args.at c.args.order c.args.desk.now c.add.new.self (past_of g.K.Keeper.rows g.K.Keeper.faults c.args.keeper.now) (past_of g.K.Keeper.rows g.K.Keeper.faults c.find_free.new.keeper)
    c.requires.desk c.requires.whole found c.add.result c.added_as.result c.add.ensures.answers c.add.ensures.cause c.added_as.ensures

pub returns-in-Err-Failed-clause-goes : goal.returns-in-Err-Failed-clause-goes
returns-in-Err-Failed-clause-goes g c =
    page_goes g.D.Disk.tells g.K.Keeper.tells g.D.Disk.history g.D.Disk.faults g.D.Disk.far (λ o. said_of (g.O.Origin.says o)) c.args.desk.now (past_of g.K.Keeper.rows g.K.Keeper.faults c.args.keeper.now) (past_of g.K.Keeper.rows g.K.Keeper.faults c.find_free.new.keeper)
    c.requires.desk c.requires.whole c.in-Err-Failed.ensures.cause.later

pub returns-clause-goes : goal.returns-clause-goes
returns-clause-goes g c =
    page_goes g.D.Disk.tells g.K.Keeper.tells g.D.Disk.history g.D.Disk.faults g.D.Disk.far (λ o. said_of (g.O.Origin.says o)) c.args.desk.now (past_of g.K.Keeper.rows g.K.Keeper.faults c.args.keeper.now) (past_of g.K.Keeper.rows g.K.Keeper.faults c.find_free.new.keeper)
    c.requires.desk c.requires.whole c.in-Err-NoMemory.ensures.cause.later
