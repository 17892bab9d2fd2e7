use Rattle.std.proofs.Common.{Ok, Err, [], subst}
use Rattle.dm_disk_model.specs.declared.place.Place.{Place}
use Rattle.dm_disk_model.specs.Disk.{Next, CreateStep, WriteStep, SyncStep, now}
use Rattle.dm_disk_model.proofs.Places.{stands_from, create_reads}
use Rattle.dm_journal.specs.Starting.{HasSpare, IsTextFile, blank}
use Rattle.dm_disk_model.proofs.Places.{create_others, write_others, sync_others}
use Rattle.dm_journal.specs.Starting.{spare_place}
use Rattle.dm_journal.proofs.Others.{only_then, two_spare}
use Rattle.dm_journal.proofs.Beginning.{blank_text}
use Rattle.dm_journal.proofs.Starts.{creates, writes, syncs, ends_failed}
use Rattle.dm_journal.proofs.starting.make_spare.Goals as goal

pub write_at-requires : goal.write_at-requires
write_at-requires g c tells =
    let history = g.D.Disk.history in
    stands_from (now (history c.create.new.self)) c.args.spare.now []
    (create_reads c.args.spare.now (now (history c.args.disk.now)) (now (history c.create.new.self)) (c.in_ok-create.ensures.done tells).stepped)

pub returns-in_err-create-clause-does : goal.returns-in_err-create-clause-does
returns-in_err-create-clause-does g c tells start sound so_far =
    let history = g.D.Disk.history in
    let fault = c.in_err-create.field-0.0 in
    ends_failed [] start (history c.create.new.self) (HasSpare (now start) (IsTextFile blank)) c.from_residual.result c.from_residual.ensures.0
    (creates [] blank blank_text start sound (Err fault) (history c.args.disk.now) (history c.create.new.self) so_far
    (subst (λ (place : Place). Next (history c.args.disk.now) (history c.create.new.self) (CreateStep place (Err fault))) c.requires.place (c.in_err-create.ensures.done tells)))

pub returns-in_err-write_at-clause-does : goal.returns-in_err-write_at-clause-does
returns-in_err-write_at-clause-does g c tells start sound so_far =
    let history = g.D.Disk.history in
    let fault = c.in_err-write_at.field-0.0 in
    let made = creates [] blank blank_text start sound (Ok tt) (history c.args.disk.now) (history c.create.new.self) so_far
    (subst (λ (place : Place). Next (history c.args.disk.now) (history c.create.new.self) (CreateStep place (Ok tt))) c.requires.place (c.in_ok-create.ensures.done tells)) in
    ends_failed [] start (history c.write_at.new.self) (HasSpare (now start) (IsTextFile blank)) c.from_residual-in_err-write_at.result c.from_residual-in_err-write_at.ensures.0
    (writes [] blank blank_text start sound (Err fault) (history c.create.new.self) (history c.write_at.new.self) made
    (subst (λ (place : Place). Next (history c.create.new.self) (history c.write_at.new.self) (WriteStep place 0 blank (Err fault))) c.requires.place (c.in_err-write_at.ensures.done tells)))

pub returns-in_err-sync-clause-does : goal.returns-in_err-sync-clause-does
returns-in_err-sync-clause-does g c tells start sound so_far =
    let history = g.D.Disk.history in
    let fault = c.in_err-sync.field-0.0 in
    let made = creates [] blank blank_text start sound (Ok tt) (history c.args.disk.now) (history c.create.new.self) so_far
    (subst (λ (place : Place). Next (history c.args.disk.now) (history c.create.new.self) (CreateStep place (Ok tt))) c.requires.place (c.in_ok-create.ensures.done tells)) in
    let filled = writes [] blank blank_text start sound (Ok tt) (history c.create.new.self) (history c.write_at.new.self) made
    (subst (λ (place : Place). Next (history c.create.new.self) (history c.write_at.new.self) (WriteStep place 0 blank (Ok tt))) c.requires.place (c.in_ok-write_at.ensures.done tells)) in
    ends_failed [] start (history c.sync.new.self) (HasSpare (now start) (IsTextFile blank)) c.from_residual-in_err-sync.result c.from_residual-in_err-sync.ensures.0
    (syncs [] blank blank_text start sound (Err fault) (history c.write_at.new.self) (history c.sync.new.self) filled
    (subst (λ (place : Place). Next (history c.write_at.new.self) (history c.sync.new.self) (SyncStep place (Err fault))) c.requires.place (c.in_err-sync.ensures.done tells)))

pub returns-clause-does : goal.returns-clause-does
returns-clause-does g c tells start sound so_far =
    let history = g.D.Disk.history in
    let made = creates [] blank blank_text start sound (Ok tt) (history c.args.disk.now) (history c.create.new.self) so_far
    (subst (λ (place : Place). Next (history c.args.disk.now) (history c.create.new.self) (CreateStep place (Ok tt))) c.requires.place (c.in_ok-create.ensures.done tells)) in
    let filled = writes [] blank blank_text start sound (Ok tt) (history c.create.new.self) (history c.write_at.new.self) made
    (subst (λ (place : Place). Next (history c.create.new.self) (history c.write_at.new.self) (WriteStep place 0 blank (Ok tt))) c.requires.place (c.in_ok-write_at.ensures.done tells)) in
    syncs [] blank blank_text start sound (Ok tt) (history c.write_at.new.self) (history c.sync.new.self) filled
    (subst (λ (place : Place). Next (history c.write_at.new.self) (history c.sync.new.self) (SyncStep place (Ok tt))) c.requires.place (c.in_ok-sync.ensures.done tells))

pub returns-in_err-create-clause-others : goal.returns-in_err-create-clause-others
returns-in_err-create-clause-others g c tells =
    let history = g.D.Disk.history in
    let start = now (history c.args.disk.now) in
    let disk_create = now (history c.create.new.self) in
    let after_create = create_others spare_place (Err c.in_err-create.field-0.0) start disk_create (subst (λ (place : Place). CreateStep place (Err c.in_err-create.field-0.0) start disk_create) c.requires.place (c.in_err-create.ensures.done tells).stepped) in
    two_spare start disk_create after_create

pub returns-in_err-write_at-clause-others : goal.returns-in_err-write_at-clause-others
returns-in_err-write_at-clause-others g c tells =
    let history = g.D.Disk.history in
    let start = now (history c.args.disk.now) in
    let disk_create = now (history c.create.new.self) in
    let after_create = create_others spare_place (Ok tt) start disk_create (subst (λ (place : Place). CreateStep place (Ok tt) start disk_create) c.requires.place (c.in_ok-create.ensures.done tells).stepped) in
    let disk_write_at = now (history c.write_at.new.self) in
    let after_write_at = only_then spare_place start disk_create disk_write_at after_create (write_others spare_place disk_create disk_write_at (g.met.D.Disk.sound tells c.create.new.self (history c.create.new.self).moment) 0 blank (Err c.in_err-write_at.field-0.0) (subst (λ (place : Place). WriteStep place 0 blank (Err c.in_err-write_at.field-0.0) disk_create disk_write_at) c.requires.place (c.in_err-write_at.ensures.done tells).stepped)) in
    two_spare start disk_write_at after_write_at

pub returns-in_err-sync-clause-others : goal.returns-in_err-sync-clause-others
returns-in_err-sync-clause-others g c tells =
    let history = g.D.Disk.history in
    let start = now (history c.args.disk.now) in
    let disk_create = now (history c.create.new.self) in
    let after_create = create_others spare_place (Ok tt) start disk_create (subst (λ (place : Place). CreateStep place (Ok tt) start disk_create) c.requires.place (c.in_ok-create.ensures.done tells).stepped) in
    let disk_write_at = now (history c.write_at.new.self) in
    let after_write_at = only_then spare_place start disk_create disk_write_at after_create (write_others spare_place disk_create disk_write_at (g.met.D.Disk.sound tells c.create.new.self (history c.create.new.self).moment) 0 blank (Ok tt) (subst (λ (place : Place). WriteStep place 0 blank (Ok tt) disk_create disk_write_at) c.requires.place (c.in_ok-write_at.ensures.done tells).stepped)) in
    let disk_sync = now (history c.sync.new.self) in
    let after_sync = only_then spare_place start disk_write_at disk_sync after_write_at (sync_others spare_place disk_write_at disk_sync (g.met.D.Disk.sound tells c.write_at.new.self (history c.write_at.new.self).moment) (Err c.in_err-sync.field-0.0) (subst (λ (place : Place). SyncStep place (Err c.in_err-sync.field-0.0) disk_write_at disk_sync) c.requires.place (c.in_err-sync.ensures.done tells).stepped)) in
    two_spare start disk_sync after_sync

pub returns-clause-others : goal.returns-clause-others
returns-clause-others g c tells =
    let history = g.D.Disk.history in
    let start = now (history c.args.disk.now) in
    let disk_create = now (history c.create.new.self) in
    let after_create = create_others spare_place (Ok tt) start disk_create (subst (λ (place : Place). CreateStep place (Ok tt) start disk_create) c.requires.place (c.in_ok-create.ensures.done tells).stepped) in
    let disk_write_at = now (history c.write_at.new.self) in
    let after_write_at = only_then spare_place start disk_create disk_write_at after_create (write_others spare_place disk_create disk_write_at (g.met.D.Disk.sound tells c.create.new.self (history c.create.new.self).moment) 0 blank (Ok tt) (subst (λ (place : Place). WriteStep place 0 blank (Ok tt) disk_create disk_write_at) c.requires.place (c.in_ok-write_at.ensures.done tells).stepped)) in
    let disk_sync = now (history c.sync.new.self) in
    let after_sync = only_then spare_place start disk_write_at disk_sync after_write_at (sync_others spare_place disk_write_at disk_sync (g.met.D.Disk.sound tells c.write_at.new.self (history c.write_at.new.self).moment) (Ok tt) (subst (λ (place : Place). SyncStep place (Ok tt) disk_write_at disk_sync) c.requires.place (c.in_ok-sync.ensures.done tells).stepped)) in
    two_spare start disk_sync after_sync
