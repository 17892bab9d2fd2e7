use Rattle.std.proofs.Common.{ℕ, List, Option, Some, Ok, subst}
use Rattle.dm_report.specs.Said.{EndsAs}
use Rattle.dm_report.specs.declared.verdict.Verdict.{Verdict}
use Rattle.dm_hist.specs.declared.row.Row.{Row}
use Rattle.dm_shown.specs.Answering.{get_by_row}
use Rattle.dm_archive.specs.Doing.{Given, gets_row, line_of}
use Rattle.dm_past.specs.ByRows.{FindsFree, IsFree, WordDoes}
use Rattle.dm_past.specs.Past.{past_of}
use Rattle.dm_past.specs.Saying.{text_of}
use Rattle.dm_past.proofs.Answered.{fault_answered, row_answered, word_unanswered}
use Rattle.dm_past.proofs.answering.answer_get.Goals as goal

pub returns-in-Ok-Some : goal.returns-in-Ok-Some
returns-in-Ok-Some g c =
    let given : Given = record { items = c.args.items.now.items; rows = g.K.Keeper.rows c.args.keeper.now } in
    let row : Row = c.in-Ok-Some.row in
    let address : List ℕ = c.args.order.now.address.text in
    row_answered g.K.Keeper.tells given (past_of g.K.Keeper.rows g.K.Keeper.faults c.args.keeper.now) (past_of g.K.Keeper.rows g.K.Keeper.faults c.find_free.new.keeper) c.args.order.now.word (get_by_row address) (line_of address) row c.say_row.result
    (subst (λ (word : List ℕ). FindsFree g.K.Keeper.tells word given (Ok (Some row))) c.bytes.ensures
    (subst (λ (found : Option Row). FindsFree g.K.Keeper.tells c.bytes.result.now given (Ok found)) c.in-Ok-Some.field-0-is c.in-Ok-Some.ensures.found))
    c.in-Ok-Some.ensures.same c.in-Ok-Some.ensures.cause.later
    (subst (λ (a : List ℕ). EndsAs (record { verdict = get_by_row a row; out = text_of (line_of a row) }) c.say_row.result) c.bytes-address.ensures
    (subst (λ (v : Verdict). EndsAs (record { verdict = v; out = text_of (line_of c.bytes-address.result.now row) }) c.say_row.result) c.get_by_row-verdict.ensures c.say_row.ensures))

pub returns-in-Err : goal.returns-in-Err
returns-in-Err g c =
    let given : Given = record { items = c.args.items.now.items; rows = g.K.Keeper.rows c.args.keeper.now } in
    let address : List ℕ = c.args.order.now.address.text in
    let free : IsFree c.args.order.now.word given = subst (λ (word : List ℕ). IsFree word given) c.bytes.ensures c.in-Err.ensures.found in
    fault_answered g.K.Keeper.tells given (past_of g.K.Keeper.rows g.K.Keeper.faults c.args.keeper.now) (past_of g.K.Keeper.rows g.K.Keeper.faults c.find_free.new.keeper) (WordDoes g.K.Keeper.tells c.args.order.now.word (gets_row address))
    (word_unanswered g.K.Keeper.tells given (past_of g.K.Keeper.rows g.K.Keeper.faults c.args.keeper.now) (past_of g.K.Keeper.rows g.K.Keeper.faults c.find_free.new.keeper) c.args.order.now.word (get_by_row address) (line_of address) free) c.in-Err.fault c.say_keeper.result c.in-Err.ensures.same c.in-Err.ensures.cause c.say_keeper.ensures
