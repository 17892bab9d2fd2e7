use Rattle.std.proofs.Common.{ℕ, length, ◌∙◌, ap, sym, subst, arith}
use Rattle.dm_disk_model.specs.Disk.{now}
use Rattle.dm_journal.specs.AtRest.{AtRest, MayLeaveJust, ReadsJournal}
use Rattle.dm_journal.proofs.Losing.{where_failed}
use Rattle.dm_journal.proofs.Texts.{length-tail}
use Rattle.dm_journal.proofs.journal.Journal.append.Goals as goal

pub returns-in_err-write_cell-clause-any_moment : goal.returns-in_err-write_cell-clause-any_moment
returns-in_err-write_cell-clause-any_moment g c tells bodies rest =
    c.write_cell.ensures.any_moment tells bodies c.args.body.now c.requires.size (c.deref.ensures.value ∙ c.fill_tail.ensures.tail)
    (subst (λ (gate : ℕ). AtRest (now (g.D.Disk.history c.args.disk.now)) gate bodies) (sym c.self.view_is) rest)

pub returns-clause-any_moment : goal.returns-clause-any_moment
returns-clause-any_moment g c tells bodies rest =
    c.write_cell.ensures.any_moment tells bodies c.args.body.now c.requires.size (c.deref.ensures.value ∙ c.fill_tail.ensures.tail)
    (subst (λ (gate : ℕ). AtRest (now (g.D.Disk.history c.args.disk.now)) gate bodies) (sym c.self.view_is) rest)

pub returns-clause-acknowledged : goal.returns-clause-acknowledged
returns-clause-acknowledged g c tells bodies rest =
    c.in_ok-write_cell.ensures.done tells bodies c.args.body.now c.requires.size (c.deref.ensures.value ∙ c.fill_tail.ensures.tail)
    (subst (λ (gate : ℕ). AtRest (now (g.D.Disk.history c.args.disk.now)) gate bodies) (sym c.self.view_is) rest)

pub returns-clause-read : goal.returns-clause-read
returns-clause-read g c tells bodies reads =
    c.in_ok-write_cell.ensures.read tells bodies c.args.body.now c.requires.size (c.deref.ensures.value ∙ c.fill_tail.ensures.tail)
    (subst (λ (gate : ℕ). ReadsJournal (now (g.D.Disk.history c.args.disk.now)) gate bodies) (sym c.self.view_is) reads)

-- the count of writes that end too far
pub returns-in_err-write_cell-clause-far : goal.returns-in_err-write_cell-clause-far
returns-in_err-write_cell-clause-far g c near =
    let tail = ap length (c.deref.ensures.value ∙ c.fill_tail.ensures.tail) in
    let long = length-tail c.args.body.now in
    c.write_cell.ensures.far (omega (arith, near, tail, long, c.self.view_is))

pub returns-clause-far : goal.returns-clause-far
returns-clause-far g c near =
    let tail = ap length (c.deref.ensures.value ∙ c.fill_tail.ensures.tail) in
    let long = length-tail c.args.body.now in
    c.write_cell.ensures.far (omega (arith, near, tail, long, c.self.view_is))

-- where it fails, some crash leaves just the bodies before it
pub returns-in_err-write_cell-clause-lost : goal.returns-in_err-write_cell-clause-lost
returns-in_err-write_cell-clause-lost g c tells bodies rest =
    where_failed (MayLeaveJust bodies (now (g.D.Disk.history c.write_cell.new.disk)).state) c.from_residual.result
    (c.in_err-write_cell.ensures.lost tells bodies c.args.body.now c.requires.size (c.deref.ensures.value ∙ c.fill_tail.ensures.tail)
    (subst (λ (gate : ℕ). AtRest (now (g.D.Disk.history c.args.disk.now)) gate bodies) (sym c.self.view_is) rest))
