use Rattle.std.proofs.Common.{◌≡◌, ◌⊎◌, inl, inr, true, [], Ok, Err, refl, sym, ◌∙◌, ap, subst}
use Rattle.dm_types.specs.declared.item.Limits.{Limits}
use Rattle.dm_disk_model.specs.Beside.{Besides}
use Rattle.dm_disk_model.specs.Moments.{Throughout}
use Rattle.dm_store.specs.Origin.{said_of}
use Rattle.dm_store.specs.Store.{view_of}
use Rattle.dm_store.specs.View.{View}
use Rattle.dm_answers.specs.Opening.{IsRead, IsUntried, OpenKeeps, OpenLeaves}
use Rattle.dm_answers.specs.Reads.{IsSettledName}
use Rattle.dm_find.specs.Finding.{FindFails}
use Rattle.dm_find.specs.declared.hindered.Hindered.{Hindered}
use Rattle.dm_open.specs.Refused.{IsHindered, NoneRead}
use Rattle.dm_open.specs.Resuming.{EndsAs}
use Rattle.dm_open.proofs.Opened.{found_keeps, found_opens, is_opened, is_read, open_beside, open_keeps, open_moments, opened_on, read_and_tried}
use Rattle.dm_open.proofs.Unread.{disk_fails, memory_fails, none_read, stays_damaged, unmoved_files, unmoved_leaves}
use Rattle.dm_open.proofs.opening.open.Goals as goal

pub returns-in-Err-clause-keeps : goal.returns-in-Err-clause-keeps
returns-in-Err-clause-keeps g c told earlier more kept =
    let D = g.D.Disk in
    found_keeps D.tells (D.history c.args.disk) (D.history c.args.disk) (D.history c.args.disk) c.args.at (unmoved_leaves (D.history c.args.disk)) (unmoved_files (D.history c.args.disk)) (said_of (g.O.Origin.says c.args.origin)) earlier more kept

pub returns-in-Err-Disk-clause-answers : goal.returns-in-Err-Disk-clause-answers
returns-in-Err-Disk-clause-answers g c told =
    let D = g.D.Disk in
    disk_fails D.tells D.history D.far (said_of (g.O.Origin.says c.args.origin)) c.args.disk c.find_list.new.disk c.args.limits.items c.args.at c.find_list.ensures.far (c.find_list.ensures.moments told) (c.find_list.ensures.beside told) c.in-Err-Disk.kind (subst (FindFails (D.history c.args.disk) (D.history c.find_list.new.disk) c.args.limits.items) c.in-Err-Disk.field-0-is (c.in-Err-Disk.ensures.refused told))

pub returns-in-Err-Disk-clause-moments : goal.returns-in-Err-Disk-clause-moments
returns-in-Err-Disk-clause-moments g c told =
    let D = g.D.Disk in
    found_opens D.tells (D.history c.args.disk) (D.history c.find_list.new.disk) (D.history c.find_list.new.disk) c.args.at (c.find_list.ensures.moments told) (c.find_list.ensures.beside told)

pub returns-in-Err-Disk-clause-keeps : goal.returns-in-Err-Disk-clause-keeps
returns-in-Err-Disk-clause-keeps g c told earlier more kept =
    let D = g.D.Disk in
    found_keeps D.tells (D.history c.args.disk) (D.history c.find_list.new.disk) (D.history c.find_list.new.disk) c.args.at (c.find_list.ensures.moments told) (c.find_list.ensures.beside told) (said_of (g.O.Origin.says c.args.origin)) earlier more kept

pub returns-in-Err-Damaged-clause-moments : goal.returns-in-Err-Damaged-clause-moments
returns-in-Err-Damaged-clause-moments g c told =
    let D = g.D.Disk in
    found_opens D.tells (D.history c.args.disk) (D.history c.find_list.new.disk) (D.history c.find_list.new.disk) c.args.at (c.find_list.ensures.moments told) (c.find_list.ensures.beside told)

pub returns-in-Err-Damaged-clause-keeps : goal.returns-in-Err-Damaged-clause-keeps
returns-in-Err-Damaged-clause-keeps g c told earlier more kept =
    let D = g.D.Disk in
    found_keeps D.tells (D.history c.args.disk) (D.history c.find_list.new.disk) (D.history c.find_list.new.disk) c.args.at (c.find_list.ensures.moments told) (c.find_list.ensures.beside told) (said_of (g.O.Origin.says c.args.origin)) earlier more kept

pub returns-in-Err-NoMemory-clause-answers : goal.returns-in-Err-NoMemory-clause-answers
returns-in-Err-NoMemory-clause-answers g c told =
    let D = g.D.Disk in
    memory_fails D.tells D.history D.far (said_of (g.O.Origin.says c.args.origin)) c.args.disk c.find_list.new.disk c.args.limits.items c.args.at c.find_list.ensures.far (c.find_list.ensures.moments told) (c.find_list.ensures.beside told) (subst (FindFails (D.history c.args.disk) (D.history c.find_list.new.disk) c.args.limits.items) c.in-Err-NoMemory.field-0-is (c.in-Err-NoMemory.ensures.refused told))

pub returns-in-Err-NoMemory-clause-moments : goal.returns-in-Err-NoMemory-clause-moments
returns-in-Err-NoMemory-clause-moments g c told =
    let D = g.D.Disk in
    found_opens D.tells (D.history c.args.disk) (D.history c.find_list.new.disk) (D.history c.find_list.new.disk) c.args.at (c.find_list.ensures.moments told) (c.find_list.ensures.beside told)

pub returns-in-Err-NoMemory-clause-keeps : goal.returns-in-Err-NoMemory-clause-keeps
returns-in-Err-NoMemory-clause-keeps g c told earlier more kept =
    let D = g.D.Disk in
    found_keeps D.tells (D.history c.args.disk) (D.history c.find_list.new.disk) (D.history c.find_list.new.disk) c.args.at (c.find_list.ensures.moments told) (c.find_list.ensures.beside told) (said_of (g.O.Origin.says c.args.origin)) earlier more kept

pub returns-in-Ok-resume-clause-answers : goal.returns-in-Ok-resume-clause-answers
returns-in-Ok-resume-clause-answers g c =
    let D = g.D.Disk in
    let found = c.in-Ok-find_list.ensures.found in
    let old : View g.row.D.Denot g.row.O.Denot = (record { disk = c.find_list.new.disk; origin = c.args.origin; limits = c.args.limits; items = c.in-Ok-find_list.found.items; lives = c.new-lives.result.items; gate = c.in-Ok-find_list.found.journal; broken = true; list = c.reserve.new.self.items; failed = [] }) in
    let resumes = c.in-Ok-resume.ensures.makes found.found found.list in
    (record { origin_is = resumes.tries.origin; limits_are = resumes.tries.limits; limit = c.in-Ok-resume.ensures.store.desk.limit ∙ (ap (λ (l : Limits). l.items) resumes.tries.limits) }, is_opened D.tells D.history (λ o. said_of (g.O.Origin.says o)) c.args.disk c.args.at c.args.limits.items old (view_of c.resume.new.store) found c.find_list.ensures.beside c.requires.items.1 (λ told. g.met.D.Disk.sound told c.args.disk (D.history c.args.disk).moment) (Ok c.in-Ok-resume.field-0) resumes D.far (c.reserve.ensures.items ∙ c.new-list.ensures.items) c.find_list.ensures.far c.resume.ensures.far refl (ap (λ (l : Limits). l.items) resumes.tries.limits) c.find_list.ensures.moments)

pub returns-in-Ok-resume-clause-moments : goal.returns-in-Ok-resume-clause-moments
returns-in-Ok-resume-clause-moments g c told =
    let D = g.D.Disk in
    let found = c.in-Ok-find_list.ensures.found in
    let old : View g.row.D.Denot g.row.O.Denot = (record { disk = c.find_list.new.disk; origin = c.args.origin; limits = c.args.limits; items = c.in-Ok-find_list.found.items; lives = c.new-lives.result.items; gate = c.in-Ok-find_list.found.journal; broken = true; list = c.reserve.new.self.items; failed = [] }) in
    let resumes = c.in-Ok-resume.ensures.makes found.found found.list in
    open_moments D.tells D.history (λ o. said_of (g.O.Origin.says o)) c.args.disk c.args.at c.args.limits.items old (view_of c.resume.new.store) found c.find_list.ensures.beside c.requires.items.1 (λ told. g.met.D.Disk.sound told c.args.disk (D.history c.args.disk).moment) (Ok c.in-Ok-resume.field-0) resumes told (c.find_list.ensures.moments told)

pub returns-in-Ok-resume-clause-keeps : goal.returns-in-Ok-resume-clause-keeps
returns-in-Ok-resume-clause-keeps g c told =
    let D = g.D.Disk in
    let found = c.in-Ok-find_list.ensures.found in
    let old : View g.row.D.Denot g.row.O.Denot = (record { disk = c.find_list.new.disk; origin = c.args.origin; limits = c.args.limits; items = c.in-Ok-find_list.found.items; lives = c.new-lives.result.items; gate = c.in-Ok-find_list.found.journal; broken = true; list = c.reserve.new.self.items; failed = [] }) in
    let resumes = c.in-Ok-resume.ensures.makes found.found found.list in
    open_keeps D.tells D.history (λ o. said_of (g.O.Origin.says o)) c.args.disk c.args.at c.args.limits.items old (view_of c.resume.new.store) found c.find_list.ensures.beside c.requires.items.1 (λ told. g.met.D.Disk.sound told c.args.disk (D.history c.args.disk).moment) (Ok c.in-Ok-resume.field-0) resumes told (c.find_list.ensures.moments told)

pub returns-in-Ok-resume-clause-beside : goal.returns-in-Ok-resume-clause-beside
returns-in-Ok-resume-clause-beside g c told =
    let D = g.D.Disk in
    let found = c.in-Ok-find_list.ensures.found in
    let old : View g.row.D.Denot g.row.O.Denot = (record { disk = c.find_list.new.disk; origin = c.args.origin; limits = c.args.limits; items = c.in-Ok-find_list.found.items; lives = c.new-lives.result.items; gate = c.in-Ok-find_list.found.journal; broken = true; list = c.reserve.new.self.items; failed = [] }) in
    open_beside D.tells D.history c.args.disk c.args.limits.items old (view_of c.resume.new.store) found told (c.find_list.ensures.beside told) (c.resume.ensures.beside told)

pub returns-in-Err-Disk-resume-clause-answers : goal.returns-in-Err-Disk-resume-clause-answers
returns-in-Err-Disk-resume-clause-answers g c told =
    let D = g.D.Disk in
    let found = c.in-Ok-find_list.ensures.found in
    let old : View g.row.D.Denot g.row.O.Denot = (record { disk = c.find_list.new.disk; origin = c.args.origin; limits = c.args.limits; items = c.in-Ok-find_list.found.items; lives = c.new-lives.result.items; gate = c.in-Ok-find_list.found.journal; broken = true; list = c.reserve.new.self.items; failed = [] }) in
    let resumes = c.in-Err-Disk-resume.ensures.makes found.found found.list in
    subst (λ (d : g.row.D.Denot). IsUntried D.history D.far c.args.disk d ⊎ IsRead D.tells D.history D.far (said_of (g.O.Origin.says c.args.origin)) c.args.disk d c.args.at) (sym c.disk_from.ensures)
    (inr (is_read D.tells D.history (λ o. said_of (g.O.Origin.says o)) c.args.disk c.args.at c.args.limits.items old (view_of c.resume.new.store) found c.find_list.ensures.beside c.requires.items.1 (λ told. g.met.D.Disk.sound told c.args.disk (D.history c.args.disk).moment) (Err c.in-Err-Disk-resume.field-0) resumes D.far (c.reserve.ensures.items ∙ c.new-list.ensures.items) c.find_list.ensures.far c.resume.ensures.far told (c.find_list.ensures.moments told)))

pub returns-in-Err-Disk-resume-clause-moments : goal.returns-in-Err-Disk-resume-clause-moments
returns-in-Err-Disk-resume-clause-moments g c told =
    let D = g.D.Disk in
    let found = c.in-Ok-find_list.ensures.found in
    let old : View g.row.D.Denot g.row.O.Denot = (record { disk = c.find_list.new.disk; origin = c.args.origin; limits = c.args.limits; items = c.in-Ok-find_list.found.items; lives = c.new-lives.result.items; gate = c.in-Ok-find_list.found.journal; broken = true; list = c.reserve.new.self.items; failed = [] }) in
    let resumes = c.in-Err-Disk-resume.ensures.makes found.found found.list in
    subst (λ (d : g.row.D.Denot). Throughout (D.history c.args.disk) (D.history d) (OpenLeaves D.tells (D.history c.args.disk) (D.history d) c.args.at)) (sym c.disk_from.ensures)
    (open_moments D.tells D.history (λ o. said_of (g.O.Origin.says o)) c.args.disk c.args.at c.args.limits.items old (view_of c.resume.new.store) found c.find_list.ensures.beside c.requires.items.1 (λ told. g.met.D.Disk.sound told c.args.disk (D.history c.args.disk).moment) (Err c.in-Err-Disk-resume.field-0) resumes told (c.find_list.ensures.moments told))

pub returns-in-Err-Disk-resume-clause-keeps : goal.returns-in-Err-Disk-resume-clause-keeps
returns-in-Err-Disk-resume-clause-keeps g c told =
    let D = g.D.Disk in
    let found = c.in-Ok-find_list.ensures.found in
    let old : View g.row.D.Denot g.row.O.Denot = (record { disk = c.find_list.new.disk; origin = c.args.origin; limits = c.args.limits; items = c.in-Ok-find_list.found.items; lives = c.new-lives.result.items; gate = c.in-Ok-find_list.found.journal; broken = true; list = c.reserve.new.self.items; failed = [] }) in
    let resumes = c.in-Err-Disk-resume.ensures.makes found.found found.list in
    subst (λ (d : g.row.D.Denot). OpenKeeps D.tells (said_of (g.O.Origin.says c.args.origin)) (D.history c.args.disk) (D.history d) c.args.at) (sym c.disk_from.ensures)
    (open_keeps D.tells D.history (λ o. said_of (g.O.Origin.says o)) c.args.disk c.args.at c.args.limits.items old (view_of c.resume.new.store) found c.find_list.ensures.beside c.requires.items.1 (λ told. g.met.D.Disk.sound told c.args.disk (D.history c.args.disk).moment) (Err c.in-Err-Disk-resume.field-0) resumes told (c.find_list.ensures.moments told))

pub returns-in-Err-Disk-resume-clause-beside : goal.returns-in-Err-Disk-resume-clause-beside
returns-in-Err-Disk-resume-clause-beside g c told =
    let D = g.D.Disk in
    let found = c.in-Ok-find_list.ensures.found in
    let old : View g.row.D.Denot g.row.O.Denot = (record { disk = c.find_list.new.disk; origin = c.args.origin; limits = c.args.limits; items = c.in-Ok-find_list.found.items; lives = c.new-lives.result.items; gate = c.in-Ok-find_list.found.journal; broken = true; list = c.reserve.new.self.items; failed = [] }) in
    subst (λ (d : g.row.D.Denot). Besides (IsSettledName D.history c.args.disk) (D.history c.args.disk) (D.history d)) (sym c.disk_from.ensures)
    (open_beside D.tells D.history c.args.disk c.args.limits.items old (view_of c.resume.new.store) found told (c.find_list.ensures.beside told) (c.resume.ensures.beside told))

pub returns-in-Err-NoMemory-resume-clause-answers : goal.returns-in-Err-NoMemory-resume-clause-answers
returns-in-Err-NoMemory-resume-clause-answers g c told =
    let D = g.D.Disk in
    let found = c.in-Ok-find_list.ensures.found in
    let old : View g.row.D.Denot g.row.O.Denot = (record { disk = c.find_list.new.disk; origin = c.args.origin; limits = c.args.limits; items = c.in-Ok-find_list.found.items; lives = c.new-lives.result.items; gate = c.in-Ok-find_list.found.journal; broken = true; list = c.reserve.new.self.items; failed = [] }) in
    let resumes = c.in-Err-NoMemory-resume.ensures.makes found.found found.list in
    subst (λ (d : g.row.D.Denot). IsUntried D.history D.far c.args.disk d ⊎ IsRead D.tells D.history D.far (said_of (g.O.Origin.says c.args.origin)) c.args.disk d c.args.at) (sym c.disk_from-in-Err-NoMemory-resume.ensures)
    (inr (is_read D.tells D.history (λ o. said_of (g.O.Origin.says o)) c.args.disk c.args.at c.args.limits.items old (view_of c.resume.new.store) found c.find_list.ensures.beside c.requires.items.1 (λ told. g.met.D.Disk.sound told c.args.disk (D.history c.args.disk).moment) (Err c.in-Err-NoMemory-resume.field-0) resumes D.far (c.reserve.ensures.items ∙ c.new-list.ensures.items) c.find_list.ensures.far c.resume.ensures.far told (c.find_list.ensures.moments told)))

pub returns-in-Err-NoMemory-resume-clause-moments : goal.returns-in-Err-NoMemory-resume-clause-moments
returns-in-Err-NoMemory-resume-clause-moments g c told =
    let D = g.D.Disk in
    let found = c.in-Ok-find_list.ensures.found in
    let old : View g.row.D.Denot g.row.O.Denot = (record { disk = c.find_list.new.disk; origin = c.args.origin; limits = c.args.limits; items = c.in-Ok-find_list.found.items; lives = c.new-lives.result.items; gate = c.in-Ok-find_list.found.journal; broken = true; list = c.reserve.new.self.items; failed = [] }) in
    let resumes = c.in-Err-NoMemory-resume.ensures.makes found.found found.list in
    subst (λ (d : g.row.D.Denot). Throughout (D.history c.args.disk) (D.history d) (OpenLeaves D.tells (D.history c.args.disk) (D.history d) c.args.at)) (sym c.disk_from-in-Err-NoMemory-resume.ensures)
    (open_moments D.tells D.history (λ o. said_of (g.O.Origin.says o)) c.args.disk c.args.at c.args.limits.items old (view_of c.resume.new.store) found c.find_list.ensures.beside c.requires.items.1 (λ told. g.met.D.Disk.sound told c.args.disk (D.history c.args.disk).moment) (Err c.in-Err-NoMemory-resume.field-0) resumes told (c.find_list.ensures.moments told))

pub returns-in-Err-NoMemory-resume-clause-keeps : goal.returns-in-Err-NoMemory-resume-clause-keeps
returns-in-Err-NoMemory-resume-clause-keeps g c told =
    let D = g.D.Disk in
    let found = c.in-Ok-find_list.ensures.found in
    let old : View g.row.D.Denot g.row.O.Denot = (record { disk = c.find_list.new.disk; origin = c.args.origin; limits = c.args.limits; items = c.in-Ok-find_list.found.items; lives = c.new-lives.result.items; gate = c.in-Ok-find_list.found.journal; broken = true; list = c.reserve.new.self.items; failed = [] }) in
    let resumes = c.in-Err-NoMemory-resume.ensures.makes found.found found.list in
    subst (λ (d : g.row.D.Denot). OpenKeeps D.tells (said_of (g.O.Origin.says c.args.origin)) (D.history c.args.disk) (D.history d) c.args.at) (sym c.disk_from-in-Err-NoMemory-resume.ensures)
    (open_keeps D.tells D.history (λ o. said_of (g.O.Origin.says o)) c.args.disk c.args.at c.args.limits.items old (view_of c.resume.new.store) found c.find_list.ensures.beside c.requires.items.1 (λ told. g.met.D.Disk.sound told c.args.disk (D.history c.args.disk).moment) (Err c.in-Err-NoMemory-resume.field-0) resumes told (c.find_list.ensures.moments told))

pub returns-in-Err-NoMemory-resume-clause-beside : goal.returns-in-Err-NoMemory-resume-clause-beside
returns-in-Err-NoMemory-resume-clause-beside g c told =
    let D = g.D.Disk in
    let found = c.in-Ok-find_list.ensures.found in
    let old : View g.row.D.Denot g.row.O.Denot = (record { disk = c.find_list.new.disk; origin = c.args.origin; limits = c.args.limits; items = c.in-Ok-find_list.found.items; lives = c.new-lives.result.items; gate = c.in-Ok-find_list.found.journal; broken = true; list = c.reserve.new.self.items; failed = [] }) in
    subst (λ (d : g.row.D.Denot). Besides (IsSettledName D.history c.args.disk) (D.history c.args.disk) (D.history d)) (sym c.disk_from-in-Err-NoMemory-resume.ensures)
    (open_beside D.tells D.history c.args.disk c.args.limits.items old (view_of c.resume.new.store) found told (c.find_list.ensures.beside told) (c.resume.ensures.beside told))

pub returns-in-Err-clause-refused : goal.returns-in-Err-clause-refused
returns-in-Err-clause-refused g c =
    let D = g.D.Disk in
    inl (none_read D.tells D.history D.far c.args.disk c.args.disk refl (λ told. unmoved_leaves (D.history c.args.disk)) (said_of (g.O.Origin.says c.args.origin)) (λ told. unmoved_files (D.history c.args.disk)) (λ told. g.met.D.Disk.sound told c.args.disk (D.history c.args.disk).moment))

pub returns-in-Err-Disk-clause-refused : goal.returns-in-Err-Disk-clause-refused
returns-in-Err-Disk-clause-refused g c =
    let D = g.D.Disk in
    inl (none_read D.tells D.history D.far c.args.disk c.find_list.new.disk c.find_list.ensures.far c.find_list.ensures.moments (said_of (g.O.Origin.says c.args.origin)) c.find_list.ensures.beside (λ told. g.met.D.Disk.sound told c.args.disk (D.history c.args.disk).moment))

pub returns-in-Err-Damaged-clause-refused : goal.returns-in-Err-Damaged-clause-refused
returns-in-Err-Damaged-clause-refused g c =
    let D = g.D.Disk in (
      none_read D.tells D.history D.far c.args.disk c.find_list.new.disk c.find_list.ensures.far c.find_list.ensures.moments (said_of (g.O.Origin.says c.args.origin)) c.find_list.ensures.beside (λ told. g.met.D.Disk.sound told c.args.disk (D.history c.args.disk).moment),
      rw c.in-Err-Damaged.field-0-is (stays_damaged D.tells D.history D.far c.args.disk c.find_list.new.disk c.find_list.ensures.far c.find_list.ensures.moments c.args.limits.items c.in-Err-Damaged.place
          (λ told. subst (FindFails (D.history c.args.disk) (D.history c.find_list.new.disk) c.args.limits.items) c.in-Err-Damaged.field-0-is (c.in-Err-Damaged.ensures.refused told))),
    )

pub returns-in-Err-NoMemory-clause-refused : goal.returns-in-Err-NoMemory-clause-refused
returns-in-Err-NoMemory-clause-refused g c =
    let D = g.D.Disk in
    inl (none_read D.tells D.history D.far c.args.disk c.find_list.new.disk c.find_list.ensures.far c.find_list.ensures.moments (said_of (g.O.Origin.says c.args.origin)) c.find_list.ensures.beside (λ told. g.met.D.Disk.sound told c.args.disk (D.history c.args.disk).moment))

pub returns-in-Err-Disk-resume-clause-refused : goal.returns-in-Err-Disk-resume-clause-refused
returns-in-Err-Disk-resume-clause-refused g c =
    let D = g.D.Disk in
    let found = c.in-Ok-find_list.ensures.found in
    let old : View g.row.D.Denot g.row.O.Denot = (record { disk = c.find_list.new.disk; origin = c.args.origin; limits = c.args.limits; items = c.in-Ok-find_list.found.items; lives = c.new-lives.result.items; gate = c.in-Ok-find_list.found.journal; broken = true; list = c.reserve.new.self.items; failed = [] }) in
    let resumes = c.in-Err-Disk-resume.ensures.makes found.found found.list in
    subst (λ (d : g.row.D.Denot). NoneRead D.tells D.history D.far (said_of (g.O.Origin.says c.args.origin)) c.args.disk d ⊎ IsHindered D.tells D.history D.far (said_of (g.O.Origin.says c.args.origin)) c.args.disk d c.args.limits.items c.args.at) (sym c.disk_from.ensures)
    (inr (record { found = found.found; recorded = (view_of c.resume.new.store).list; failed = (view_of c.resume.new.store).failed; rest = resumes.rest; is = read_and_tried D.tells D.history (λ o. said_of (g.O.Origin.says o)) c.args.disk c.args.at c.args.limits.items old (view_of c.resume.new.store) found c.find_list.ensures.beside c.requires.items.1 (λ told. g.met.D.Disk.sound told c.args.disk (D.history c.args.disk).moment) (Err c.in-Err-Disk-resume.field-0) resumes D.far (c.reserve.ensures.items ∙ c.new-list.ensures.items) c.find_list.ensures.far c.resume.ensures.far c.find_list.ensures.moments }))

pub returns-in-Err-NoMemory-resume-clause-refused : goal.returns-in-Err-NoMemory-resume-clause-refused
returns-in-Err-NoMemory-resume-clause-refused g c =
    let D = g.D.Disk in
    let found = c.in-Ok-find_list.ensures.found in
    let old : View g.row.D.Denot g.row.O.Denot = (record { disk = c.find_list.new.disk; origin = c.args.origin; limits = c.args.limits; items = c.in-Ok-find_list.found.items; lives = c.new-lives.result.items; gate = c.in-Ok-find_list.found.journal; broken = true; list = c.reserve.new.self.items; failed = [] }) in
    let resumes = c.in-Err-NoMemory-resume.ensures.makes found.found found.list in
    subst (λ (d : g.row.D.Denot). NoneRead D.tells D.history D.far (said_of (g.O.Origin.says c.args.origin)) c.args.disk d ⊎ ((hindered : IsHindered D.tells D.history D.far (said_of (g.O.Origin.says c.args.origin)) c.args.disk d c.args.limits.items c.args.at) × (hindered.failed ≡ []))) (sym c.disk_from-in-Err-NoMemory-resume.ensures)
    (inr (
      record { found = found.found; recorded = (view_of c.resume.new.store).list; failed = (view_of c.resume.new.store).failed; rest = resumes.rest; is = read_and_tried D.tells D.history (λ o. said_of (g.O.Origin.says o)) c.args.disk c.args.at c.args.limits.items old (view_of c.resume.new.store) found c.find_list.ensures.beside c.requires.items.1 (λ told. g.met.D.Disk.sound told c.args.disk (D.history c.args.disk).moment) (Err c.in-Err-NoMemory-resume.field-0) resumes D.far (c.reserve.ensures.items ∙ c.new-list.ensures.items) c.find_list.ensures.far c.resume.ensures.far c.find_list.ensures.moments },
      (subst (λ (f : Hindered). EndsAs D.tells D.history (λ o. said_of (g.O.Origin.says o)) found.found old (view_of c.resume.new.store) resumes.settled resumes.rest resumes.left (Err f)) c.in-Err-NoMemory-resume.field-0-is resumes.ends).1,
    ))

pub returns-in-Ok-resume-clause-on : goal.returns-in-Ok-resume-clause-on
returns-in-Ok-resume-clause-on g c told read reads =
    let D = g.D.Disk in
    let found = c.in-Ok-find_list.ensures.found in
    let old : View g.row.D.Denot g.row.O.Denot = (record { disk = c.find_list.new.disk; origin = c.args.origin; limits = c.args.limits; items = c.in-Ok-find_list.found.items; lives = c.new-lives.result.items; gate = c.in-Ok-find_list.found.journal; broken = true; list = c.reserve.new.self.items; failed = [] }) in
    let resumes = c.in-Ok-resume.ensures.makes found.found found.list in
    opened_on D.tells D.history (λ o. said_of (g.O.Origin.says o)) c.args.disk c.args.at c.args.limits.items old (view_of c.resume.new.store) found c.find_list.ensures.beside c.requires.items.1 (λ told. g.met.D.Disk.sound told c.args.disk (D.history c.args.disk).moment) (Ok c.in-Ok-resume.field-0) resumes D.far (c.reserve.ensures.items ∙ c.new-list.ensures.items) c.find_list.ensures.far c.resume.ensures.far refl c.find_list.ensures.moments told read reads
