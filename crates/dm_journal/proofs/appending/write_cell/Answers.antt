use Rattle.std.proofs.Common.{◌+◌, ◌∷◌, [], Ok, Err, ◌∙◌, arith}
use Rattle.dm_disk_model.proofs.Places.{write_others, sync_others}
use Rattle.dm_journal.specs.AtRest.{MayLeaveJust, journal_place}
use Rattle.dm_journal.proofs.Others.{only_then}
use Rattle.dm_journal.proofs.Calls.{write_home, sync_home, fill_failed, fill_done, settle_failed, settle_done, open_failed, open_done, keep_failed, keep_done, appended_reads}
use Rattle.dm_disk_model.specs.Disk.{now}
use Rattle.dm_journal.proofs.Losing.{fill_lost, settle_lost, open_lost, keep_lost, where_failed}
use Rattle.dm_journal.proofs.appending.write_cell.Goals as goal

pub returns-in_err-write_at-clause-any_moment : goal.returns-in_err-write_at-clause-any_moment
returns-in_err-write_at-clause-any_moment g c tells bodies body fits is rest =
    let history = g.D.Disk.history in
    let start = history c.args.disk.now in
    let gate = c.args.gate in
    let home = c.requires.place in
    fill_failed bodies body start gate fits c.in_err-write_at.field-0.0 (history c.write_at.new.self) c.args.tail.now rest (write_home c.args.place.now (gate + 1) c.args.tail.now (Err c.in_err-write_at.field-0.0) start (history c.write_at.new.self) home (c.in_err-write_at.ensures.done tells))

pub returns-in_err-sync-clause-any_moment : goal.returns-in_err-sync-clause-any_moment
returns-in_err-sync-clause-any_moment g c tells bodies body fits is rest =
    let history = g.D.Disk.history in
    let start = history c.args.disk.now in
    let gate = c.args.gate in
    let home = c.requires.place in
    let filled = fill_done bodies body start gate fits (history c.write_at.new.self) c.args.tail.now is rest (write_home c.args.place.now (gate + 1) c.args.tail.now (Ok tt) start (history c.write_at.new.self) home (c.in_ok-write_at.ensures.done tells)) in
    settle_failed bodies body start gate fits c.in_err-sync.field-0.0 (history c.write_at.new.self) (history c.sync.new.self) filled (sync_home c.args.place.now (Err c.in_err-sync.field-0.0) (history c.write_at.new.self) (history c.sync.new.self) home (c.in_err-sync.ensures.done tells))

pub returns-in_err-write_at-2-clause-any_moment : goal.returns-in_err-write_at-2-clause-any_moment
returns-in_err-write_at-2-clause-any_moment g c tells bodies body fits is rest =
    let history = g.D.Disk.history in
    let start = history c.args.disk.now in
    let gate = c.args.gate in
    let home = c.requires.place in
    let filled = fill_done bodies body start gate fits (history c.write_at.new.self) c.args.tail.now is rest (write_home c.args.place.now (gate + 1) c.args.tail.now (Ok tt) start (history c.write_at.new.self) home (c.in_ok-write_at.ensures.done tells)) in
    let ready = settle_done bodies body start gate fits (history c.write_at.new.self) (history c.sync.new.self) filled (sync_home c.args.place.now (Ok tt) (history c.write_at.new.self) (history c.sync.new.self) home (c.in_ok-sync.ensures.done tells)) in
    open_failed bodies body start gate fits c.in_err-write_at-2.field-0.0 (history c.sync.new.self) (history c.write_at-2.new.self) rest.at ready (write_home c.args.place.now gate (1 ∷ []) (Err c.in_err-write_at-2.field-0.0) (history c.sync.new.self) (history c.write_at-2.new.self) home (c.in_err-write_at-2.ensures.done tells))

pub returns-in_err-sync-2-clause-any_moment : goal.returns-in_err-sync-2-clause-any_moment
returns-in_err-sync-2-clause-any_moment g c tells bodies body fits is rest =
    let history = g.D.Disk.history in
    let start = history c.args.disk.now in
    let gate = c.args.gate in
    let home = c.requires.place in
    let filled = fill_done bodies body start gate fits (history c.write_at.new.self) c.args.tail.now is rest (write_home c.args.place.now (gate + 1) c.args.tail.now (Ok tt) start (history c.write_at.new.self) home (c.in_ok-write_at.ensures.done tells)) in
    let ready = settle_done bodies body start gate fits (history c.write_at.new.self) (history c.sync.new.self) filled (sync_home c.args.place.now (Ok tt) (history c.write_at.new.self) (history c.sync.new.self) home (c.in_ok-sync.ensures.done tells)) in
    let opened = open_done bodies body start gate fits (history c.sync.new.self) (history c.write_at-2.new.self) rest.at ready (write_home c.args.place.now gate (1 ∷ []) (Ok tt) (history c.sync.new.self) (history c.write_at-2.new.self) home (c.in_ok-write_at-2.ensures.done tells)) in
    keep_failed bodies body start gate fits c.in_err-sync-2.field-0.0 (history c.write_at-2.new.self) (history c.sync-2.new.self) opened (sync_home c.args.place.now (Err c.in_err-sync-2.field-0.0) (history c.write_at-2.new.self) (history c.sync-2.new.self) home (c.in_err-sync-2.ensures.done tells))

pub returns-clause-any_moment : goal.returns-clause-any_moment
returns-clause-any_moment g c tells bodies body fits is rest =
    let history = g.D.Disk.history in
    let start = history c.args.disk.now in
    let gate = c.args.gate in
    let home = c.requires.place in
    let filled = fill_done bodies body start gate fits (history c.write_at.new.self) c.args.tail.now is rest (write_home c.args.place.now (gate + 1) c.args.tail.now (Ok tt) start (history c.write_at.new.self) home (c.in_ok-write_at.ensures.done tells)) in
    let ready = settle_done bodies body start gate fits (history c.write_at.new.self) (history c.sync.new.self) filled (sync_home c.args.place.now (Ok tt) (history c.write_at.new.self) (history c.sync.new.self) home (c.in_ok-sync.ensures.done tells)) in
    let opened = open_done bodies body start gate fits (history c.sync.new.self) (history c.write_at-2.new.self) rest.at ready (write_home c.args.place.now gate (1 ∷ []) (Ok tt) (history c.sync.new.self) (history c.write_at-2.new.self) home (c.in_ok-write_at-2.ensures.done tells)) in
    (keep_done bodies body start gate fits (history c.write_at-2.new.self) (history c.sync-2.new.self) rest.at opened (sync_home c.args.place.now (Ok tt) (history c.write_at-2.new.self) (history c.sync-2.new.self) home (c.in_ok-sync-2.ensures.done tells))).so_far

pub returns-clause-done : goal.returns-clause-done
returns-clause-done g c tells bodies body fits is rest =
    let history = g.D.Disk.history in
    let start = history c.args.disk.now in
    let gate = c.args.gate in
    let home = c.requires.place in
    let filled = fill_done bodies body start gate fits (history c.write_at.new.self) c.args.tail.now is rest (write_home c.args.place.now (gate + 1) c.args.tail.now (Ok tt) start (history c.write_at.new.self) home (c.in_ok-write_at.ensures.done tells)) in
    let ready = settle_done bodies body start gate fits (history c.write_at.new.self) (history c.sync.new.self) filled (sync_home c.args.place.now (Ok tt) (history c.write_at.new.self) (history c.sync.new.self) home (c.in_ok-sync.ensures.done tells)) in
    let opened = open_done bodies body start gate fits (history c.sync.new.self) (history c.write_at-2.new.self) rest.at ready (write_home c.args.place.now gate (1 ∷ []) (Ok tt) (history c.sync.new.self) (history c.write_at-2.new.self) home (c.in_ok-write_at-2.ensures.done tells)) in
    (keep_done bodies body start gate fits (history c.write_at-2.new.self) (history c.sync-2.new.self) rest.at opened (sync_home c.args.place.now (Ok tt) (history c.write_at-2.new.self) (history c.sync-2.new.self) home (c.in_ok-sync-2.ensures.done tells))).rest

pub returns-clause-read : goal.returns-clause-read
returns-clause-read g c tells bodies body fits is reads =
    let history = g.D.Disk.history in
    let start = history c.args.disk.now in
    let gate = c.args.gate in
    let home = c.requires.place in
    let filled = write_home c.args.place.now (gate + 1) c.args.tail.now (Ok tt) start (history c.write_at.new.self) home (c.in_ok-write_at.ensures.done tells) in
    let settled = sync_home c.args.place.now (Ok tt) (history c.write_at.new.self) (history c.sync.new.self) home (c.in_ok-sync.ensures.done tells) in
    let opened = write_home c.args.place.now gate (1 ∷ []) (Ok tt) (history c.sync.new.self) (history c.write_at-2.new.self) home (c.in_ok-write_at-2.ensures.done tells) in
    let kept = sync_home c.args.place.now (Ok tt) (history c.write_at-2.new.self) (history c.sync-2.new.self) home (c.in_ok-sync-2.ensures.done tells) in
    appended_reads bodies body gate fits (now start) (now (history c.write_at.new.self)) (now (history c.sync.new.self)) (now (history c.write_at-2.new.self)) (now (history c.sync-2.new.self))
    c.args.tail.now is reads filled.stepped settled.stepped opened.stepped kept.stepped

-- only a write behind the gate may end too far: the gate itself stands below
pub returns-in_err-write_at-clause-far : goal.returns-in_err-write_at-clause-far
returns-in_err-write_at-clause-far g c near = c.write_at.ensures.far.near (omega (arith, near))

pub returns-in_err-sync-clause-far : goal.returns-in_err-sync-clause-far
returns-in_err-sync-clause-far g c near = c.sync.ensures.far ∙ c.write_at.ensures.far.near (omega (arith, near))

pub returns-in_err-write_at-2-clause-far : goal.returns-in_err-write_at-2-clause-far
returns-in_err-write_at-2-clause-far g c near =
    c.write_at-2.ensures.far.near (omega (arith, near, c.requires.near)) ∙ c.sync.ensures.far ∙ c.write_at.ensures.far.near (omega (arith, near))

pub returns-in_err-sync-2-clause-far : goal.returns-in_err-sync-2-clause-far
returns-in_err-sync-2-clause-far g c near =
    c.sync-2.ensures.far ∙ c.write_at-2.ensures.far.near (omega (arith, near, c.requires.near)) ∙ c.sync.ensures.far ∙ c.write_at.ensures.far.near (omega (arith, near))

pub returns-clause-far : goal.returns-clause-far
returns-clause-far g c near =
    c.sync-2.ensures.far ∙ c.write_at-2.ensures.far.near (omega (arith, near, c.requires.near)) ∙ c.sync.ensures.far ∙ c.write_at.ensures.far.near (omega (arith, near))

pub returns-in_err-write_at-clause-others : goal.returns-in_err-write_at-clause-others
returns-in_err-write_at-clause-others g c tells =
    let history = g.D.Disk.history in
    let home = c.requires.place in
    let start = history c.args.disk.now in
    let past_write_at = history c.write_at.new.self in
    let others_write_at = write_others journal_place (now start) (now past_write_at) (g.met.D.Disk.sound tells c.args.disk.now start.moment) (c.args.gate + 1) c.args.tail.now (Err c.in_err-write_at.field-0.0) (write_home c.args.place.now (c.args.gate + 1) c.args.tail.now (Err c.in_err-write_at.field-0.0) start past_write_at home (c.in_err-write_at.ensures.done tells)).stepped in
    others_write_at

pub returns-in_err-sync-clause-others : goal.returns-in_err-sync-clause-others
returns-in_err-sync-clause-others g c tells =
    let history = g.D.Disk.history in
    let home = c.requires.place in
    let start = history c.args.disk.now in
    let past_write_at = history c.write_at.new.self in
    let others_write_at = write_others journal_place (now start) (now past_write_at) (g.met.D.Disk.sound tells c.args.disk.now start.moment) (c.args.gate + 1) c.args.tail.now (Ok tt) (write_home c.args.place.now (c.args.gate + 1) c.args.tail.now (Ok tt) start past_write_at home (c.in_ok-write_at.ensures.done tells)).stepped in
    let past_sync = history c.sync.new.self in
    let others_sync = only_then journal_place (now start) (now past_write_at) (now past_sync) others_write_at (sync_others journal_place (now past_write_at) (now past_sync) (g.met.D.Disk.sound tells c.write_at.new.self past_write_at.moment) (Err c.in_err-sync.field-0.0) (sync_home c.args.place.now (Err c.in_err-sync.field-0.0) past_write_at past_sync home (c.in_err-sync.ensures.done tells)).stepped) in
    others_sync

pub returns-in_err-write_at-2-clause-others : goal.returns-in_err-write_at-2-clause-others
returns-in_err-write_at-2-clause-others g c tells =
    let history = g.D.Disk.history in
    let home = c.requires.place in
    let start = history c.args.disk.now in
    let past_write_at = history c.write_at.new.self in
    let others_write_at = write_others journal_place (now start) (now past_write_at) (g.met.D.Disk.sound tells c.args.disk.now start.moment) (c.args.gate + 1) c.args.tail.now (Ok tt) (write_home c.args.place.now (c.args.gate + 1) c.args.tail.now (Ok tt) start past_write_at home (c.in_ok-write_at.ensures.done tells)).stepped in
    let past_sync = history c.sync.new.self in
    let others_sync = only_then journal_place (now start) (now past_write_at) (now past_sync) others_write_at (sync_others journal_place (now past_write_at) (now past_sync) (g.met.D.Disk.sound tells c.write_at.new.self past_write_at.moment) (Ok tt) (sync_home c.args.place.now (Ok tt) past_write_at past_sync home (c.in_ok-sync.ensures.done tells)).stepped) in
    let past_write_at_2 = history c.write_at-2.new.self in
    let others_write_at_2 = only_then journal_place (now start) (now past_sync) (now past_write_at_2) others_sync (write_others journal_place (now past_sync) (now past_write_at_2) (g.met.D.Disk.sound tells c.sync.new.self past_sync.moment) c.args.gate (1 ∷ []) (Err c.in_err-write_at-2.field-0.0) (write_home c.args.place.now c.args.gate (1 ∷ []) (Err c.in_err-write_at-2.field-0.0) past_sync past_write_at_2 home (c.in_err-write_at-2.ensures.done tells)).stepped) in
    others_write_at_2

pub returns-in_err-sync-2-clause-others : goal.returns-in_err-sync-2-clause-others
returns-in_err-sync-2-clause-others g c tells =
    let history = g.D.Disk.history in
    let home = c.requires.place in
    let start = history c.args.disk.now in
    let past_write_at = history c.write_at.new.self in
    let others_write_at = write_others journal_place (now start) (now past_write_at) (g.met.D.Disk.sound tells c.args.disk.now start.moment) (c.args.gate + 1) c.args.tail.now (Ok tt) (write_home c.args.place.now (c.args.gate + 1) c.args.tail.now (Ok tt) start past_write_at home (c.in_ok-write_at.ensures.done tells)).stepped in
    let past_sync = history c.sync.new.self in
    let others_sync = only_then journal_place (now start) (now past_write_at) (now past_sync) others_write_at (sync_others journal_place (now past_write_at) (now past_sync) (g.met.D.Disk.sound tells c.write_at.new.self past_write_at.moment) (Ok tt) (sync_home c.args.place.now (Ok tt) past_write_at past_sync home (c.in_ok-sync.ensures.done tells)).stepped) in
    let past_write_at_2 = history c.write_at-2.new.self in
    let others_write_at_2 = only_then journal_place (now start) (now past_sync) (now past_write_at_2) others_sync (write_others journal_place (now past_sync) (now past_write_at_2) (g.met.D.Disk.sound tells c.sync.new.self past_sync.moment) c.args.gate (1 ∷ []) (Ok tt) (write_home c.args.place.now c.args.gate (1 ∷ []) (Ok tt) past_sync past_write_at_2 home (c.in_ok-write_at-2.ensures.done tells)).stepped) in
    let past_sync_2 = history c.sync-2.new.self in
    let others_sync_2 = only_then journal_place (now start) (now past_write_at_2) (now past_sync_2) others_write_at_2 (sync_others journal_place (now past_write_at_2) (now past_sync_2) (g.met.D.Disk.sound tells c.write_at-2.new.self past_write_at_2.moment) (Err c.in_err-sync-2.field-0.0) (sync_home c.args.place.now (Err c.in_err-sync-2.field-0.0) past_write_at_2 past_sync_2 home (c.in_err-sync-2.ensures.done tells)).stepped) in
    others_sync_2

pub returns-clause-others : goal.returns-clause-others
returns-clause-others g c tells =
    let history = g.D.Disk.history in
    let home = c.requires.place in
    let start = history c.args.disk.now in
    let past_write_at = history c.write_at.new.self in
    let others_write_at = write_others journal_place (now start) (now past_write_at) (g.met.D.Disk.sound tells c.args.disk.now start.moment) (c.args.gate + 1) c.args.tail.now (Ok tt) (write_home c.args.place.now (c.args.gate + 1) c.args.tail.now (Ok tt) start past_write_at home (c.in_ok-write_at.ensures.done tells)).stepped in
    let past_sync = history c.sync.new.self in
    let others_sync = only_then journal_place (now start) (now past_write_at) (now past_sync) others_write_at (sync_others journal_place (now past_write_at) (now past_sync) (g.met.D.Disk.sound tells c.write_at.new.self past_write_at.moment) (Ok tt) (sync_home c.args.place.now (Ok tt) past_write_at past_sync home (c.in_ok-sync.ensures.done tells)).stepped) in
    let past_write_at_2 = history c.write_at-2.new.self in
    let others_write_at_2 = only_then journal_place (now start) (now past_sync) (now past_write_at_2) others_sync (write_others journal_place (now past_sync) (now past_write_at_2) (g.met.D.Disk.sound tells c.sync.new.self past_sync.moment) c.args.gate (1 ∷ []) (Ok tt) (write_home c.args.place.now c.args.gate (1 ∷ []) (Ok tt) past_sync past_write_at_2 home (c.in_ok-write_at-2.ensures.done tells)).stepped) in
    let past_sync_2 = history c.sync-2.new.self in
    let others_sync_2 = only_then journal_place (now start) (now past_write_at_2) (now past_sync_2) others_write_at_2 (sync_others journal_place (now past_write_at_2) (now past_sync_2) (g.met.D.Disk.sound tells c.write_at-2.new.self past_write_at_2.moment) (Ok tt) (sync_home c.args.place.now (Ok tt) past_write_at_2 past_sync_2 home (c.in_ok-sync-2.ensures.done tells)).stepped) in
    others_sync_2

-- Where a call fails, some crash leaves just the bodies before it.
pub returns-in_err-write_at-clause-lost : goal.returns-in_err-write_at-clause-lost
returns-in_err-write_at-clause-lost g c tells bodies body fits is rest =
    let history = g.D.Disk.history in
    let start = history c.args.disk.now in
    let past = history c.write_at.new.self in
    where_failed (MayLeaveJust bodies (now past).state) c.from_residual.result
    (fill_lost bodies body start c.args.gate fits c.in_err-write_at.field-0.0 past c.args.tail.now (g.met.D.Disk.sound tells c.write_at.new.self past.moment) rest (write_home c.args.place.now (c.args.gate + 1) c.args.tail.now (Err c.in_err-write_at.field-0.0) start past c.requires.place (c.in_err-write_at.ensures.done tells)))

pub returns-in_err-sync-clause-lost : goal.returns-in_err-sync-clause-lost
returns-in_err-sync-clause-lost g c tells bodies body fits is rest =
    let history = g.D.Disk.history in
    let start = history c.args.disk.now in
    let gate = c.args.gate in
    let home = c.requires.place in
    let past = history c.sync.new.self in
    let filled = fill_done bodies body start gate fits (history c.write_at.new.self) c.args.tail.now is rest (write_home c.args.place.now (gate + 1) c.args.tail.now (Ok tt) start (history c.write_at.new.self) home (c.in_ok-write_at.ensures.done tells)) in
    where_failed (MayLeaveJust bodies (now past).state) c.from_residual-in_err-sync.result
    (settle_lost bodies body start gate fits c.in_err-sync.field-0.0 (history c.write_at.new.self) past (g.met.D.Disk.sound tells c.sync.new.self past.moment) filled (sync_home c.args.place.now (Err c.in_err-sync.field-0.0) (history c.write_at.new.self) past home (c.in_err-sync.ensures.done tells)))

pub returns-in_err-write_at-2-clause-lost : goal.returns-in_err-write_at-2-clause-lost
returns-in_err-write_at-2-clause-lost g c tells bodies body fits is rest =
    let history = g.D.Disk.history in
    let start = history c.args.disk.now in
    let gate = c.args.gate in
    let home = c.requires.place in
    let past = history c.write_at-2.new.self in
    let filled = fill_done bodies body start gate fits (history c.write_at.new.self) c.args.tail.now is rest (write_home c.args.place.now (gate + 1) c.args.tail.now (Ok tt) start (history c.write_at.new.self) home (c.in_ok-write_at.ensures.done tells)) in
    let ready = settle_done bodies body start gate fits (history c.write_at.new.self) (history c.sync.new.self) filled (sync_home c.args.place.now (Ok tt) (history c.write_at.new.self) (history c.sync.new.self) home (c.in_ok-sync.ensures.done tells)) in
    where_failed (MayLeaveJust bodies (now past).state) c.from_residual-in_err-write_at-2.result
    (open_lost bodies body start gate fits c.in_err-write_at-2.field-0.0 (history c.sync.new.self) past rest.at (g.met.D.Disk.sound tells c.write_at-2.new.self past.moment) ready (write_home c.args.place.now gate (1 ∷ []) (Err c.in_err-write_at-2.field-0.0) (history c.sync.new.self) past home (c.in_err-write_at-2.ensures.done tells)))

pub returns-in_err-sync-2-clause-lost : goal.returns-in_err-sync-2-clause-lost
returns-in_err-sync-2-clause-lost g c tells bodies body fits is rest =
    let history = g.D.Disk.history in
    let start = history c.args.disk.now in
    let gate = c.args.gate in
    let home = c.requires.place in
    let past = history c.sync-2.new.self in
    let filled = fill_done bodies body start gate fits (history c.write_at.new.self) c.args.tail.now is rest (write_home c.args.place.now (gate + 1) c.args.tail.now (Ok tt) start (history c.write_at.new.self) home (c.in_ok-write_at.ensures.done tells)) in
    let ready = settle_done bodies body start gate fits (history c.write_at.new.self) (history c.sync.new.self) filled (sync_home c.args.place.now (Ok tt) (history c.write_at.new.self) (history c.sync.new.self) home (c.in_ok-sync.ensures.done tells)) in
    let opened = open_done bodies body start gate fits (history c.sync.new.self) (history c.write_at-2.new.self) rest.at ready (write_home c.args.place.now gate (1 ∷ []) (Ok tt) (history c.sync.new.self) (history c.write_at-2.new.self) home (c.in_ok-write_at-2.ensures.done tells)) in
    where_failed (MayLeaveJust bodies (now past).state) c.from_residual-in_err-sync-2.result
    (keep_lost bodies body start gate fits c.in_err-sync-2.field-0.0 (history c.write_at-2.new.self) past (g.met.D.Disk.sound tells c.sync-2.new.self past.moment) opened (sync_home c.args.place.now (Err c.in_err-sync-2.field-0.0) (history c.write_at-2.new.self) past home (c.in_err-sync-2.ensures.done tells)))
