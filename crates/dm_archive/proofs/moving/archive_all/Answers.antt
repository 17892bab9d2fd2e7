use Rattle.std.proofs.Common.{◌≡◌, ◌-◌, ℕ, Bool, length, ◌∙◌, ap, subst}
use Rattle.std.specs.Prelude.{Ok}
use Rattle.dm_item.specs.Listing.{Listing}
use Rattle.dm_journal.proofs.Calls.{keeps_then as files_then}
use Rattle.dm_store.specs.Origin.{said_of}
use Rattle.dm_archive.specs.Leaving.{MoveAnswers}
use Rattle.dm_archive.proofs.Moves.{done_answers, done_stops, fault_answers, fault_keeps, fault_near, fault_stops, moves_start, step_next, step_smaller}
use Rattle.dm_archive.proofs.moving.archive_all.Goals as goal

pub moves-init : goal.moves-init
moves-init g c = record {
  kept = c.items.ensures.kept;
  so_far = moves_start g.D.Disk.tells g.K.Keeper.tells g.D.Disk.history g.D.Disk.faults g.D.Disk.far (λ o. said_of (g.O.Origin.says o)) c.args.desk.now (g.K.Keeper.rows c.args.keeper.now) (g.K.Keeper.faults c.args.keeper.now) c.items.ensures.kept;
}

pub moves-smaller : goal.moves-smaller
moves-smaller g c =
    step_smaller g.D.Disk.tells g.K.Keeper.tells g.D.Disk.history g.D.Disk.faults g.D.Disk.far (λ o. said_of (g.O.Origin.says o)) c.args.desk.now c.moves.desk (g.K.Keeper.rows c.args.keeper.now) (g.K.Keeper.rows c.moves.keeper) (g.K.Keeper.faults c.args.keeper.now) (g.K.Keeper.faults c.moves.keeper)
    c.items.ensures.kept c.moves.invariant.kept c.moves.invariant.so_far
    c.move_next.new.desk (g.K.Keeper.rows c.move_next.new.keeper) (g.K.Keeper.faults c.move_next.new.keeper)
    (subst (λ (moved : Bool). MoveAnswers g.K.Keeper.tells c.moves.desk c.move_next.new.desk (g.K.Keeper.rows c.moves.keeper) (g.K.Keeper.rows c.move_next.new.keeper) (Ok moved)) c.in-Ok-true.field-0-test c.in-Ok-true.ensures.answers)
    c.in-Ok-true.ensures.rising

pub moves-preserved : goal.moves-preserved
moves-preserved g c = record {
  kept = c.move_next.ensures.kept;
  so_far = step_next g.D.Disk.tells g.K.Keeper.tells g.D.Disk.history g.D.Disk.faults g.D.Disk.far (λ o. said_of (g.O.Origin.says o)) c.args.desk.now c.moves.desk (g.K.Keeper.rows c.args.keeper.now) (g.K.Keeper.rows c.moves.keeper) (g.K.Keeper.faults c.args.keeper.now) (g.K.Keeper.faults c.moves.keeper)
      c.items.ensures.kept c.moves.invariant.kept c.moves.invariant.so_far
      c.move_next.new.desk (g.K.Keeper.rows c.move_next.new.keeper) (g.K.Keeper.faults c.move_next.new.keeper)
      (subst (λ (moved : Bool). MoveAnswers g.K.Keeper.tells c.moves.desk c.move_next.new.desk (g.K.Keeper.rows c.moves.keeper) (g.K.Keeper.rows c.move_next.new.keeper) (Ok moved)) c.in-Ok-true.field-0-test c.in-Ok-true.ensures.answers)
      c.in-Ok-true.ensures.rising c.move_next.ensures.keeps c.move_next.ensures.beside c.move_next.ensures.cause.later c.move_next.ensures.history.later c.move_next.ensures.far;
}

pub returns-in-Ok-false-clause-answers : goal.returns-in-Ok-false-clause-answers
returns-in-Ok-false-clause-answers g c =
    let left : c.count.result ≡ length c.move_next.new.desk.items.items = c.count.ensures ∙ ap (λ (v : Listing). length v.items) c.items-in-Ok-false.ensures.items in
    let all : c.count-before.result ≡ length c.args.desk.now.items.items = c.count-before.ensures ∙ ap (λ (v : Listing). length v.items) c.items.ensures.items in
    done_answers g.D.Disk.tells g.K.Keeper.tells g.D.Disk.history g.D.Disk.faults g.D.Disk.far (λ o. said_of (g.O.Origin.says o)) c.args.desk.now c.moves.desk (g.K.Keeper.rows c.args.keeper.now) (g.K.Keeper.rows c.moves.keeper) (g.K.Keeper.faults c.args.keeper.now) (g.K.Keeper.faults c.moves.keeper)
    c.items.ensures.kept c.moves.invariant.kept c.moves.invariant.so_far
    c.move_next.new.desk (g.K.Keeper.rows c.move_next.new.keeper)
    (subst (λ (moved : Bool). MoveAnswers g.K.Keeper.tells c.moves.desk c.move_next.new.desk (g.K.Keeper.rows c.moves.keeper) (g.K.Keeper.rows c.move_next.new.keeper) (Ok moved)) c.in-Ok-false.field-0-test c.in-Ok-false.ensures.answers)
    (c.count-before.result - c.count.result) (ap (λ (n : ℕ). n - c.count.result) all ∙ ap (λ (n : ℕ). length c.args.desk.now.items.items - n) left)

pub returns-in-Err-clause-answers : goal.returns-in-Err-clause-answers
returns-in-Err-clause-answers g c =
    fault_answers g.D.Disk.tells g.K.Keeper.tells g.D.Disk.history g.D.Disk.faults g.D.Disk.far (λ o. said_of (g.O.Origin.says o)) c.args.desk.now c.moves.desk (g.K.Keeper.rows c.args.keeper.now) (g.K.Keeper.rows c.moves.keeper) (g.K.Keeper.faults c.args.keeper.now) (g.K.Keeper.faults c.moves.keeper)
    c.items.ensures.kept c.moves.invariant.kept c.moves.invariant.so_far
    c.move_next.new.desk (g.K.Keeper.rows c.move_next.new.keeper) c.in-Err.fault c.in-Err.ensures.answers

pub returns-in-Ok-false-clause-stops : goal.returns-in-Ok-false-clause-stops
returns-in-Ok-false-clause-stops g c sees knows =
    done_stops g.D.Disk.tells g.K.Keeper.tells g.D.Disk.history g.D.Disk.faults g.D.Disk.far (λ o. said_of (g.O.Origin.says o)) c.args.desk.now c.moves.desk (g.K.Keeper.rows c.args.keeper.now) (g.K.Keeper.rows c.moves.keeper) (g.K.Keeper.faults c.args.keeper.now) (g.K.Keeper.faults c.moves.keeper)
    c.items.ensures.kept c.moves.invariant.kept c.moves.invariant.so_far
    c.move_next.new.desk (g.K.Keeper.rows c.move_next.new.keeper)
    (subst (λ (moved : Bool). MoveAnswers g.K.Keeper.tells c.moves.desk c.move_next.new.desk (g.K.Keeper.rows c.moves.keeper) (g.K.Keeper.rows c.move_next.new.keeper) (Ok moved)) c.in-Ok-false.field-0-test c.in-Ok-false.ensures.answers)
    sees knows (c.rows_rise.ensures.rising knows)

pub returns-in-Err-clause-stops : goal.returns-in-Err-clause-stops
returns-in-Err-clause-stops g c sees knows whole =
    fault_stops g.D.Disk.tells g.K.Keeper.tells g.D.Disk.history g.D.Disk.faults g.D.Disk.far (λ o. said_of (g.O.Origin.says o)) c.args.desk.now c.moves.desk (g.K.Keeper.rows c.args.keeper.now) (g.K.Keeper.rows c.moves.keeper) (g.K.Keeper.faults c.args.keeper.now) (g.K.Keeper.faults c.moves.keeper)
    c.items.ensures.kept c.moves.invariant.kept c.moves.invariant.so_far
    c.move_next.new.desk (g.K.Keeper.rows c.move_next.new.keeper) c.in-Err.fault c.in-Err.ensures.answers c.move_next.ensures.keeps c.move_next.ensures.rising sees knows (c.rows_rise.ensures.rising knows) whole

pub returns-in-Err-clause-keeps : goal.returns-in-Err-clause-keeps
returns-in-Err-clause-keeps g c =
    fault_keeps g.D.Disk.tells g.K.Keeper.tells g.D.Disk.history g.D.Disk.faults g.D.Disk.far (λ o. said_of (g.O.Origin.says o)) c.args.desk.now c.moves.desk (g.K.Keeper.rows c.args.keeper.now) (g.K.Keeper.rows c.moves.keeper) (g.K.Keeper.faults c.args.keeper.now) (g.K.Keeper.faults c.moves.keeper)
    c.items.ensures.kept c.moves.invariant.kept c.moves.invariant.so_far
    c.move_next.new.desk (g.K.Keeper.rows c.move_next.new.keeper) c.in-Err.fault c.in-Err.ensures.answers c.move_next.ensures.keeps

pub returns-in-Err-clause-beside : goal.returns-in-Err-clause-beside
returns-in-Err-clause-beside g c told =
    files_then (g.D.Disk.history c.args.desk.now.disk) (g.D.Disk.history c.moves.desk.disk) (g.D.Disk.history c.move_next.new.desk.disk) (c.moves.invariant.so_far.files told) (c.move_next.ensures.beside told)

pub returns-in-Err-clause-far : goal.returns-in-Err-clause-far
returns-in-Err-clause-far g c =
    fault_near g.D.Disk.tells g.K.Keeper.tells g.D.Disk.history g.D.Disk.faults g.D.Disk.far (λ o. said_of (g.O.Origin.says o)) c.args.desk.now c.moves.desk (g.K.Keeper.rows c.args.keeper.now) (g.K.Keeper.rows c.moves.keeper) (g.K.Keeper.faults c.args.keeper.now) (g.K.Keeper.faults c.moves.keeper)
    c.items.ensures.kept c.moves.invariant.kept c.moves.invariant.so_far
    c.move_next.new.desk (g.K.Keeper.rows c.move_next.new.keeper) c.in-Err.fault c.in-Err.ensures.answers c.move_next.ensures.far
