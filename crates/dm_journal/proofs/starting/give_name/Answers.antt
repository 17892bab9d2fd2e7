use Rattle.std.proofs.Common.{refl, length, [], Ok, Err, subst}
use Rattle.dm_disk_model.specs.declared.place.Place.{Place}
use Rattle.dm_disk_model.specs.Disk.{Next, RenameStep}
use Rattle.dm_journal.specs.Text.{header}
use Rattle.dm_journal.specs.AtRest.{AtRest}
use Rattle.dm_journal.specs.Starting.{blank, spare_place}
use Rattle.dm_disk_model.specs.declared.place.Area.TheVariants.{State}
use Rattle.dm_disk_model.specs.Disk.{now}
use Rattle.dm_disk_model.proofs.Places.{rename_others, names_reads}
use Rattle.dm_journal.proofs.Others.{two_then, two_names, spare_gone}
use Rattle.dm_journal.specs.AtRest.{journal_place}
use Rattle.dm_journal.proofs.Beginning.{blank_text}
use Rattle.dm_journal.proofs.Starts.{renames, names, ends_failed}
use Rattle.dm_journal.proofs.starting.give_name.Goals as goal

pub returns-in_err-rename-clause-does : goal.returns-in_err-rename-clause-does
returns-in_err-rename-clause-does g c tells start sound so_far =
    let history = g.D.Disk.history in
    let fault = c.in_err-rename.field-0.0 in
    ends_failed [] start (history c.rename.new.self) (λ disk. AtRest disk (length header) []) c.from_residual.result c.from_residual.ensures.0
    (renames [] blank blank_text start sound (Err fault) (history c.args.disk.now) (history c.rename.new.self) so_far
    (subst (λ (to : Place). Next (history c.args.disk.now) (history c.rename.new.self) (RenameStep spare_place to (Err fault))) c.requires.place
    (subst (λ (from : Place). Next (history c.args.disk.now) (history c.rename.new.self) (RenameStep from c.args.place.now (Err fault))) c.requires.spare (c.in_err-rename.ensures.done tells))))

pub returns-in_err-sync_names-clause-does : goal.returns-in_err-sync_names-clause-does
returns-in_err-sync_names-clause-does g c tells start sound so_far =
    let history = g.D.Disk.history in
    let fault = c.in_err-sync_names.field-0.0 in
    let named = renames [] blank blank_text start sound (Ok tt) (history c.args.disk.now) (history c.rename.new.self) so_far
    (subst (λ (to : Place). Next (history c.args.disk.now) (history c.rename.new.self) (RenameStep spare_place to (Ok tt))) c.requires.place
    (subst (λ (from : Place). Next (history c.args.disk.now) (history c.rename.new.self) (RenameStep from c.args.place.now (Ok tt))) c.requires.spare (c.in_ok-rename.ensures.done tells))) in
    ends_failed [] start (history c.sync_names.new.self) (λ disk. AtRest disk (length header) []) c.from_residual-in_err-sync_names.result c.from_residual-in_err-sync_names.ensures.0
    (names [] blank blank_text start sound (Err fault) (history c.rename.new.self) (history c.sync_names.new.self) named (c.in_err-sync_names.ensures.done tells))

pub returns-clause-does : goal.returns-clause-does
returns-clause-does g c tells start sound so_far =
    let history = g.D.Disk.history in
    let named = renames [] blank blank_text start sound (Ok tt) (history c.args.disk.now) (history c.rename.new.self) so_far
    (subst (λ (to : Place). Next (history c.args.disk.now) (history c.rename.new.self) (RenameStep spare_place to (Ok tt))) c.requires.place
    (subst (λ (from : Place). Next (history c.args.disk.now) (history c.rename.new.self) (RenameStep from c.args.place.now (Ok tt))) c.requires.spare (c.in_ok-rename.ensures.done tells))) in
    names [] blank blank_text start sound (Ok tt) (history c.rename.new.self) (history c.sync_names.new.self) named (c.in_ok-sync_names.ensures.done tells)

pub returns-in_err-rename-clause-others : goal.returns-in_err-rename-clause-others
returns-in_err-rename-clause-others g c tells =
    let history = g.D.Disk.history in
    let start = now (history c.args.disk.now) in
    let there = now (history c.rename.new.self) in
    let moved = rename_others spare_place journal_place refl start there (Err c.in_err-rename.field-0.0) (subst (λ (to : Place). RenameStep spare_place to (Err c.in_err-rename.field-0.0) start there) c.requires.place (subst (λ (from : Place). RenameStep from c.args.place.now (Err c.in_err-rename.field-0.0) start there) c.requires.spare (c.in_err-rename.ensures.done tells).stepped)) in
    λ other not_home not_spare. moved other not_spare not_home

pub returns-in_err-sync_names-clause-others : goal.returns-in_err-sync_names-clause-others
returns-in_err-sync_names-clause-others g c tells =
    let history = g.D.Disk.history in
    let start = now (history c.args.disk.now) in
    let there = now (history c.rename.new.self) in
    let moved = rename_others spare_place journal_place refl start there (Ok tt) (subst (λ (to : Place). RenameStep spare_place to (Ok tt) start there) c.requires.place (subst (λ (from : Place). RenameStep from c.args.place.now (Ok tt) start there) c.requires.spare (c.in_ok-rename.ensures.done tells).stepped)) in
    let new = now (history c.sync_names.new.self) in
    two_then start there new (λ other not_home not_spare. moved other not_spare not_home) (two_names there new (names_reads State (Err c.in_err-sync_names.field-0.0) there new (c.in_err-sync_names.ensures.done tells).stepped))

pub returns-clause-others : goal.returns-clause-others
returns-clause-others g c tells =
    let history = g.D.Disk.history in
    let start = now (history c.args.disk.now) in
    let there = now (history c.rename.new.self) in
    let moved = rename_others spare_place journal_place refl start there (Ok tt) (subst (λ (to : Place). RenameStep spare_place to (Ok tt) start there) c.requires.place (subst (λ (from : Place). RenameStep from c.args.place.now (Ok tt) start there) c.requires.spare (c.in_ok-rename.ensures.done tells).stepped)) in
    let new = now (history c.sync_names.new.self) in
    two_then start there new (λ other not_home not_spare. moved other not_spare not_home) (two_names there new (names_reads State (Ok tt) there new (c.in_ok-sync_names.ensures.done tells).stepped))

pub returns-clause-gone : goal.returns-clause-gone
returns-clause-gone g c tells =
    let history = g.D.Disk.history in
    let start = now (history c.args.disk.now) in
    let there = now (history c.rename.new.self) in
    spare_gone (Ok tt) start there (now (history c.sync_names.new.self)) (subst (λ (to : Place). RenameStep spare_place to (Ok tt) start there) c.requires.place (subst (λ (from : Place). RenameStep from c.args.place.now (Ok tt) start there) c.requires.spare (c.in_ok-rename.ensures.done tells).stepped)) (c.in_ok-sync_names.ensures.done tells).stepped
