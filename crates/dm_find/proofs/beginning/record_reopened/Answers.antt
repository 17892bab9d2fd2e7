use Rattle.std.proofs.Common.{List, [], ◌∷◌, ◌++◌, ℕ, ◌∙◌, ap, subst, refl}
use Rattle.dm_types.specs.declared.entry.Entry.TheVariants.{Reopened}
use Rattle.dm_record.specs.Limits.{IsEntry}
use Rattle.dm_record.specs.Spelling.{spelling_of}
use Rattle.dm_disk_model.specs.Disk.{now}
use Rattle.dm_disk_model.specs.Moments.{LeavesOnly}
use Rattle.dm_journal.specs.AtRest.{AtRest, WithOrWithout}
use Rattle.dm_store.specs.Origin.{said_of}
use Rattle.dm_store.specs.Store.{view_of}
use Rattle.dm_find.specs.Reopening.{reopened_by}
use Rattle.dm_find.proofs.Begun.{reopen_done, reopen_failed, reopen_untried}
use Rattle.dm_find.specs.declared.hindered.Hindered.TheVariants as hindrances
use Rattle.dm_find.proofs.beginning.record_reopened.Goals as goal

pub returns-in-Err-clause-goes : goal.returns-in-Err-clause-goes
returns-in-Err-clause-goes g c =
    reopen_untried g.D.Disk.tells g.D.Disk.history (λ o. said_of (g.O.Origin.says o)) (view_of c.args.store.now) (view_of c.args.store.now) (reopened_by c.args.store.now.items c.args.at) hindrances.NoMemory refl

pub returns-in-Ok-append-clause-goes : goal.returns-in-Ok-append-clause-goes
returns-in-Ok-append-clause-goes g c =
    let start = g.D.Disk.history c.args.store.now.disk in
    let end = g.D.Disk.history c.append.new.disk in
    let entry_is = ap (λ (n : ℕ). Reopened n c.args.at) c.next.ensures in
    let is = c.bytes.ensures ∙ c.in-Ok.ensures.bytes ∙ ap spelling_of entry_is in
    reopen_done g.D.Disk.tells g.D.Disk.history (λ o. said_of (g.O.Origin.says o)) (view_of c.args.store.now) (record (view_of c.args.store.now) { disk = c.append.new.disk; gate = c.append.new.self }) c.args.at (subst IsEntry entry_is c.in-Ok.ensures.entry) c.requires.few c.append.ensures.beside
    (λ told bodies rest. subst (λ (body : List ℕ). LeavesOnly start end (WithOrWithout bodies body)) is (c.append.ensures.any_moment told bodies rest))
    (λ told bodies rest. subst (λ (body : List ℕ). AtRest (now end) c.append.new.self (bodies ++ body ∷ [])) is (c.in-Ok-append.ensures.acknowledged told bodies rest))

pub returns-clause-goes : goal.returns-clause-goes
returns-clause-goes g c =
    let start = g.D.Disk.history c.args.store.now.disk in
    let end = g.D.Disk.history c.append.new.disk in
    let entry_is = ap (λ (n : ℕ). Reopened n c.args.at) c.next.ensures in
    let is = c.bytes.ensures ∙ c.in-Ok.ensures.bytes ∙ ap spelling_of entry_is in
    reopen_failed g.D.Disk.tells g.D.Disk.history (λ o. said_of (g.O.Origin.says o)) (view_of c.args.store.now) (record (view_of c.args.store.now) { disk = c.append.new.disk; gate = c.append.new.self }) c.args.at (subst IsEntry entry_is c.in-Ok.ensures.entry) c.requires.few c.append.ensures.beside
    (λ told bodies rest. subst (λ (body : List ℕ). LeavesOnly start end (WithOrWithout bodies body)) is (c.append.ensures.any_moment told bodies rest)) (hindrances.Disk c.in-Err-append.fault.0)
