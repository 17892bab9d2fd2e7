use Rattle.std.proofs.Common.{length, []}
use Rattle.dm_journal.specs.Text.{header}
use Rattle.dm_journal.specs.AtRest.{AtRest}
use Rattle.dm_disk_model.specs.Disk.{now}
use Rattle.dm_journal.proofs.Others.{two_then}
use Rattle.dm_journal.proofs.Starts.{start_before, ends_failed}
use Rattle.dm_journal.proofs.starting.start_blank.Goals as goal

pub returns-in_err-clear_spare-clause-does : goal.returns-in_err-clear_spare-clause-does
returns-in_err-clear_spare-clause-does g c tells =
    let start = g.D.Disk.history c.args.disk.now in
    let sound = g.met.D.Disk.sound tells c.args.disk.now start.moment in
    ends_failed [] start (g.D.Disk.history c.clear_spare.new.disk) (λ disk. AtRest disk (length header) []) c.from_residual.result c.from_residual.ensures.0
    (c.in_err-clear_spare.ensures.does tells start sound (start_before [] start sound))

pub returns-in_err-make_spare-clause-does : goal.returns-in_err-make_spare-clause-does
returns-in_err-make_spare-clause-does g c tells =
    let start = g.D.Disk.history c.args.disk.now in
    let sound = g.met.D.Disk.sound tells c.args.disk.now start.moment in
    let cleared = c.in_ok-clear_spare.ensures.does tells start sound (start_before [] start sound) in
    ends_failed [] start (g.D.Disk.history c.make_spare.new.disk) (λ disk. AtRest disk (length header) []) c.from_residual-in_err-make_spare.result c.from_residual-in_err-make_spare.ensures.0
    (c.in_err-make_spare.ensures.does tells start sound cleared)

pub returns-clause-does : goal.returns-clause-does
returns-clause-does g c tells =
    let start = g.D.Disk.history c.args.disk.now in
    let sound = g.met.D.Disk.sound tells c.args.disk.now start.moment in
    let cleared = c.in_ok-clear_spare.ensures.does tells start sound (start_before [] start sound) in
    let made = c.in_ok-make_spare.ensures.does tells start sound cleared in
    c.give_name.ensures.does tells start sound made

pub returns-in_err-make_spare-clause-others : goal.returns-in_err-make_spare-clause-others
returns-in_err-make_spare-clause-others g c tells =
    let history = g.D.Disk.history in
    two_then (now (history c.args.disk.now)) (now (history c.clear_spare.new.disk)) (now (history c.make_spare.new.disk)) (c.clear_spare.ensures.others tells) (c.make_spare.ensures.others tells)

pub returns-clause-others : goal.returns-clause-others
returns-clause-others g c tells =
    let history = g.D.Disk.history in
    let middle = now (history c.make_spare.new.disk) in
    two_then (now (history c.args.disk.now)) middle (now (history c.give_name.new.disk))
    (two_then (now (history c.args.disk.now)) (now (history c.clear_spare.new.disk)) middle (c.clear_spare.ensures.others tells) (c.make_spare.ensures.others tells)) (c.give_name.ensures.others tells)
