use Rattle.std.proofs.Common.{sym, ◌∙◌}
use Rattle.dm_store.specs.Origin.{said_of}
use Rattle.dm_list.proofs.Courses.{asked_decided, goes_same, shown_decided}
use Rattle.dm_list.proofs.deciding.go_on.Goals as goal

pub returns-then-is_complete-clause-decides : goal.returns-then-is_complete-clause-decides
returns-then-is_complete-clause-decides g c item there = shown_decided c.args.desk.now c.args.id c.args.slices item there (sym (c.is_complete.ensures item there) ∙ c.if-is_complete.true)

pub returns-then-is_complete-clause-goes : goal.returns-then-is_complete-clause-goes
returns-then-is_complete-clause-goes g c = goes_same g.D.Disk.tells g.D.Disk.history g.D.Disk.faults g.D.Disk.far (λ o. said_of (g.O.Origin.says o)) c.args.desk.now

pub returns-clause-decides : goal.returns-clause-decides
returns-clause-decides g c item there = asked_decided c.args.desk.now c.resume.new.desk c.args.id c.args.slices 0 item c.resume.result there (sym (c.is_complete.ensures item there) ∙ c.if-is_complete.false) (c.resume.ensures.decides 0)
