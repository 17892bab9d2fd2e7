use Rattle.std.proofs.Common.{Some, Ok, Err}
use Rattle.dm_disk_model.specs.Disk.{now}
use Rattle.dm_journal.proofs.Telling.{found_told, text_faults, text_holds}
use Rattle.dm_journal.proofs.journal.Journal.find.Goals as goal

pub returns-in-Ok-Some-clause-found : goal.returns-in-Ok-Some-clause-found
returns-in-Ok-Some-clause-found g c tells =
    text_holds (now (g.D.Disk.history c.args.disk.now)) (now (g.D.Disk.history c.find_text.new.disk)) c.in-Ok-Some.found.gate c.in-Ok-Some.found.bodies
    (rw c.in-Ok-Some.field-0-is at (c.in-Ok-Some.ensures.found tells)) (rw c.in-Ok-Some.field-0-is at c.in-Ok-Some.ensures.at).0

pub returns-in-Ok-Some-clause-exact : goal.returns-in-Ok-Some-clause-exact
returns-in-Ok-Some-clause-exact g c tells =
    let old = now (g.D.Disk.history c.args.disk.now) in
    let new = now (g.D.Disk.history c.find_text.new.disk) in
    found_told old new (Ok (Some (c.in-Ok-Some.found.gate, c.in-Ok-Some.found.bodies)))
    (text_holds old new c.in-Ok-Some.found.gate c.in-Ok-Some.found.bodies (rw c.in-Ok-Some.field-0-is at (c.in-Ok-Some.ensures.found tells)) (rw c.in-Ok-Some.field-0-is at c.in-Ok-Some.ensures.at).0)

pub returns-in-Err-find_text-clause-exact : goal.returns-in-Err-find_text-clause-exact
returns-in-Err-find_text-clause-exact g c tells =
    let old = now (g.D.Disk.history c.args.disk.now) in
    let new = now (g.D.Disk.history c.find_text.new.disk) in
    found_told old new (Err c.in-Err-find_text.fault) (text_faults old new c.in-Err-find_text.fault (c.in-Err-find_text.ensures.found tells))
