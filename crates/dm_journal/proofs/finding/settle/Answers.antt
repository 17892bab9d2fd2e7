use Rattle.std.proofs.Common.{◌≡◌, Ok, Err, length, sym, ◌∙◌, subst}
use Rattle.std.specs.Option.{option_map}
use Rattle.dm_disk_model.specs.Disk.{bytes_at, History, now, SyncStep, StandsNot}
use Rattle.dm_disk_model.proofs.Standing.{stands_not_if_none}
use Rattle.dm_disk_model.specs.declared.place.Place.{Place}
use Rattle.dm_disk_model.specs.Names.{NeverStands}
use Rattle.dm_journal.specs.AtRest.{journal_place}
use Rattle.dm_journal.proofs.Settling.{settled_stands, settled_missing}
use Rattle.dm_journal.proofs.Calls.{sync_home}
use Rattle.dm_journal.proofs.Fewer.{names_only, sync_only, syncs_then, syncs_same}
use Rattle.dm_journal.proofs.finding.settle.Goals as goal

pub returns-in_err-length-clause-syncs : goal.returns-in_err-length-clause-syncs
returns-in_err-length-clause-syncs g c tells =
    let history = g.D.Disk.history in
    syncs_then (history c.args.disk.now) (history c.sync_names.new.self) (history c.length.new.self)
    (names_only (Ok tt) (history c.args.disk.now) (history c.sync_names.new.self) (c.in_ok-sync_names.ensures.done tells))
    (syncs_same (history c.sync_names.new.self) (history c.length.new.self) c.length.ensures.stays)

pub returns-in_err-sync-in-Some-clause-syncs : goal.returns-in_err-sync-in-Some-clause-syncs
returns-in_err-sync-in-Some-clause-syncs g c tells =
    let history = g.D.Disk.history in
    let names = syncs_then (history c.args.disk.now) (history c.sync_names.new.self) (history c.length.new.self)
    (names_only (Ok tt) (history c.args.disk.now) (history c.sync_names.new.self) (c.in_ok-sync_names.ensures.done tells))
    (syncs_same (history c.sync_names.new.self) (history c.length.new.self) c.length.ensures.stays) in
    syncs_then (history c.args.disk.now) (history c.length.new.self) (history c.sync.new.self) names
    (sync_only (Err c.in_err-sync-in-Some.field-0.0) (history c.length.new.self) (history c.sync.new.self) (g.met.D.Disk.sound tells c.length.new.self (history c.length.new.self).moment)
    (sync_home c.args.place.now (Err c.in_err-sync-in-Some.field-0.0) (history c.length.new.self) (history c.sync.new.self) c.requires.place (c.in_err-sync-in-Some.ensures.done tells)))

pub returns-in_ok-sync-in-Some-clause-syncs : goal.returns-in_ok-sync-in-Some-clause-syncs
returns-in_ok-sync-in-Some-clause-syncs g c tells =
    let history = g.D.Disk.history in
    let names = syncs_then (history c.args.disk.now) (history c.sync_names.new.self) (history c.length.new.self)
    (names_only (Ok tt) (history c.args.disk.now) (history c.sync_names.new.self) (c.in_ok-sync_names.ensures.done tells))
    (syncs_same (history c.sync_names.new.self) (history c.length.new.self) c.length.ensures.stays) in
    syncs_then (history c.args.disk.now) (history c.length.new.self) (history c.sync.new.self) names
    (sync_only (Ok tt) (history c.length.new.self) (history c.sync.new.self) (g.met.D.Disk.sound tells c.length.new.self (history c.length.new.self).moment)
    (sync_home c.args.place.now (Ok tt) (history c.length.new.self) (history c.sync.new.self) c.requires.place (c.in_ok-sync-in-Some.ensures.done tells)))

pub returns-in-None-clause-syncs : goal.returns-in-None-clause-syncs
returns-in-None-clause-syncs g c tells =
    let history = g.D.Disk.history in
    syncs_then (history c.args.disk.now) (history c.sync_names.new.self) (history c.length.new.self)
    (names_only (Ok tt) (history c.args.disk.now) (history c.sync_names.new.self) (c.in_ok-sync_names.ensures.done tells))
    (syncs_same (history c.sync_names.new.self) (history c.length.new.self) c.length.ensures.stays)

pub returns-in_ok-sync-in-Some-clause-settles : goal.returns-in_ok-sync-in-Some-clause-settles
returns-in_ok-sync-in-Some-clause-settles g c tells =
    let history = g.D.Disk.history in
    let names = c.in_ok-sync_names.ensures.done tells in
    let file = sync_home c.args.place.now (Ok tt) (history c.length.new.self) (history c.sync.new.self) c.requires.place (c.in_ok-sync-in-Some.ensures.done tells) in
    settled_stands (now (history c.args.disk.now)) (now (history c.sync_names.new.self)) (now (history c.sync.new.self)) names.stepped
    (subst (λ (h : History). SyncStep journal_place (Ok tt) (now h) (now (history c.sync.new.self))) c.length.ensures.stays file.stepped)

pub returns-in-None-clause-settles : goal.returns-in-None-clause-settles
returns-in-None-clause-settles g c tells =
    let history = g.D.Disk.history in
    let names = c.in_ok-sync_names.ensures.done tells in
    subst (λ (h : History). StandsNot (now (history c.args.disk.now)) journal_place × NeverStands journal_place (now h)) (sym c.length.ensures.stays)
    (settled_missing (now (history c.args.disk.now)) (now (history c.sync_names.new.self)) names.stepped
    (stands_not_if_none (now (history c.sync_names.new.self)) journal_place
    (sym c.in-None.is ∙ subst (λ (place : Place). c.in_ok-length.field-0 ≡ option_map length (bytes_at (now (history c.sync_names.new.self)) place)) c.requires.place (c.in_ok-length.ensures.length tells))))
