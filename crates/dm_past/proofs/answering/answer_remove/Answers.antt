use Rattle.std.proofs.Common.{sym, ◌∙◌}
use Rattle.dm_archive.specs.Doing.{Given}
use Rattle.dm_archive.proofs.Leaves.{none_dropped}
use Rattle.dm_past.specs.ByRows.{IdDoes}
use Rattle.dm_past.specs.Past.{past_of}
use Rattle.dm_past.proofs.Answered.{drop_answered, fault_answered, id_unanswered}
use Rattle.dm_past.proofs.answering.answer_remove.Goals as goal

pub returns-in-Ok-true : goal.returns-in-Ok-true
returns-in-Ok-true g c =
    let given : Given = record { items = c.args.items.now.items; rows = g.K.Keeper.rows c.args.keeper.now } in
    drop_answered g.K.Keeper.tells given (past_of g.K.Keeper.rows g.K.Keeper.faults c.args.keeper.now) (past_of g.K.Keeper.rows g.K.Keeper.faults c.drop_row.new.self) c.args.id c.fixed.result
    (c.is_listed.ensures.none c.if-is_listed.false) (λ knows. sym (c.in-Ok-true.ensures.was knows) ∙ c.in-Ok-true.field-0-test) c.in-Ok-true.ensures.dropped c.in-Ok-true.ensures.cause.later c.fixed.ensures

pub returns-in-Ok-false : goal.returns-in-Ok-false
returns-in-Ok-false g c = (
  record {
    same = λ knows. c.in-Ok-false.ensures.dropped knows ∙ none_dropped c.args.id.0 (g.K.Keeper.rows c.args.keeper.now) (sym (c.in-Ok-false.ensures.was knows) ∙ c.in-Ok-false.field-0-test);
    later = c.in-Ok-false.ensures.cause.later;
  },
  λ knows none. sym (c.in-Ok-false.ensures.was knows) ∙ c.in-Ok-false.field-0-test,
)

pub returns-in-Err : goal.returns-in-Err
returns-in-Err g c =
    let given : Given = record { items = c.args.items.now.items; rows = g.K.Keeper.rows c.args.keeper.now } in
    fault_answered g.K.Keeper.tells given (past_of g.K.Keeper.rows g.K.Keeper.faults c.args.keeper.now) (past_of g.K.Keeper.rows g.K.Keeper.faults c.drop_row.new.self) (IdDoes g.K.Keeper.tells c.args.id)
    (id_unanswered g.K.Keeper.tells given (past_of g.K.Keeper.rows g.K.Keeper.faults c.args.keeper.now) (past_of g.K.Keeper.rows g.K.Keeper.faults c.drop_row.new.self) c.args.id (c.is_listed.ensures.none c.if-is_listed.false)) c.in-Err.fault c.say_keeper.result c.in-Err.ensures.same c.in-Err.ensures.cause c.say_keeper.ensures
