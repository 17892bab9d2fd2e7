use Rattle.std.proofs.Common.{[], sym, subst}
use Rattle.dm_disk_model.specs.declared.place.Place.{Place}
use Rattle.dm_disk_model.specs.Moments.{Reached}
use Rattle.dm_disk_model.specs.Disk.{History, Next, RemoveStep, now}
use Rattle.dm_journal.specs.Starting.{blank, LeavesOldOr, IsAsBefore}
use Rattle.dm_disk_model.proofs.Places.{remove_others}
use Rattle.dm_journal.specs.Starting.{spare_place}
use Rattle.dm_journal.proofs.Others.{two_same, two_spare, two_then}
use Rattle.dm_journal.proofs.Beginning.{blank_text}
use Rattle.dm_journal.proofs.Starts.{removes, removed_stands_not}
use Rattle.dm_journal.proofs.starting.clear_spare.Goals as goal

pub returns-in-Ok-Some-clause-does : goal.returns-in-Ok-Some-clause-does
returns-in-Ok-Some-clause-does g c tells start sound so_far =
    let history = g.D.Disk.history in
    removes [] blank blank_text start sound c.remove.result (history c.length.new.self) (history c.remove.new.self)
    (subst (λ (h : History). Reached start h (LeavesOldOr [] (now start)) (IsAsBefore (now start))) (sym c.length.ensures.stays) so_far)
    (subst (λ (place : Place). Next (history c.length.new.self) (history c.remove.new.self) (RemoveStep place c.remove.result)) c.requires.place (c.remove.ensures.done tells))

pub returns-in-Ok-Some-clause-stands_not : goal.returns-in-Ok-Some-clause-stands_not
returns-in-Ok-Some-clause-stands_not g c tells =
    let history = g.D.Disk.history in
    removed_stands_not c.remove.result (now (history c.length.new.self)) (now (history c.remove.new.self))
    (subst (λ (place : Place). RemoveStep place c.remove.result (now (history c.length.new.self)) (now (history c.remove.new.self))) c.requires.place (c.remove.ensures.done tells).stepped)

pub returns-in-Ok-None-clause-others : goal.returns-in-Ok-None-clause-others
returns-in-Ok-None-clause-others g c tells = two_same (g.D.Disk.history c.args.disk.now) (g.D.Disk.history c.length.new.self) c.length.ensures.stays

pub returns-in-Ok-Some-clause-others : goal.returns-in-Ok-Some-clause-others
returns-in-Ok-Some-clause-others g c tells =
    let history = g.D.Disk.history in
    let middle = now (history c.length.new.self) in
    let new = now (history c.remove.new.self) in
    two_then (now (history c.args.disk.now)) middle new (two_same (history c.args.disk.now) (history c.length.new.self) c.length.ensures.stays)
    (two_spare middle new (remove_others spare_place c.remove.result middle new (subst (λ (place : Place). RemoveStep place c.remove.result middle new) c.requires.place (c.remove.ensures.done tells).stepped)))

pub returns-in-Err-clause-others : goal.returns-in-Err-clause-others
returns-in-Err-clause-others g c tells = two_same (g.D.Disk.history c.args.disk.now) (g.D.Disk.history c.length.new.self) c.length.ensures.stays
