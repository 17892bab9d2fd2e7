use Rattle.std.proofs.Common.{[], refl}
use Rattle.dm_journal.proofs.Others.{two_same}
use Rattle.dm_journal.proofs.Starts.{same_moments, shown_moments, shown_fresh}
use Rattle.dm_journal.proofs.journal.Journal.start.Goals as goal

pub returns-in-Err-clause-any_moment : goal.returns-in-Err-clause-any_moment
returns-in-Err-clause-any_moment g c tells = same_moments [] (g.D.Disk.history c.args.disk.now)

pub returns-in-Ok-start_blank-clause-any_moment : goal.returns-in-Ok-start_blank-clause-any_moment
returns-in-Ok-start_blank-clause-any_moment g c tells =
    shown_moments [] (g.D.Disk.history c.args.disk.now) (g.D.Disk.history c.start_blank.new.disk) (c.in-Ok-start_blank.ensures.does tells).through

pub returns-in-Ok-start_blank-clause-fresh : goal.returns-in-Ok-start_blank-clause-fresh
returns-in-Ok-start_blank-clause-fresh g c tells never =
    shown_fresh (g.D.Disk.history c.args.disk.now) (g.D.Disk.history c.start_blank.new.disk) never (c.in-Ok-start_blank.ensures.does tells).through

pub returns-in-Err-start_blank-clause-any_moment : goal.returns-in-Err-start_blank-clause-any_moment
returns-in-Err-start_blank-clause-any_moment g c tells =
    shown_moments [] (g.D.Disk.history c.args.disk.now) (g.D.Disk.history c.start_blank.new.disk) (c.in-Err-start_blank.ensures.does tells)

pub returns-in-Err-start_blank-clause-fresh : goal.returns-in-Err-start_blank-clause-fresh
returns-in-Err-start_blank-clause-fresh g c tells never =
    shown_fresh (g.D.Disk.history c.args.disk.now) (g.D.Disk.history c.start_blank.new.disk) never (c.in-Err-start_blank.ensures.does tells)

pub returns-in-Err-clause-others : goal.returns-in-Err-clause-others
returns-in-Err-clause-others g c tells = two_same (g.D.Disk.history c.args.disk.now) (g.D.Disk.history c.args.disk.now) refl
