use Rattle.std.proofs.Common.{inl, inr, true, [], Ok, Err, refl, ◌∙◌, ap, subst}
use Rattle.dm_types.specs.declared.item.Limits.{Limits}
use Rattle.dm_store.specs.Origin.{said_of}
use Rattle.dm_store.specs.Store.{view_of}
use Rattle.dm_store.specs.View.{View}
use Rattle.dm_find.specs.Finding.{FindFails}
use Rattle.dm_find.specs.declared.hindered.Hindered.{Hindered}
use Rattle.dm_open.specs.Resuming.{EndsAs}
use Rattle.dm_open.proofs.Opened.{found_keeps, found_opens, is_opened, keeps_tried, open_beside, open_keeps, open_moments, stays_read}
use Rattle.dm_open.proofs.Resumed.{broken_of}
use Rattle.dm_open.proofs.Unread.{damaged_fails, desk_unread, keeps_unread, stays_damaged, stays_unread, unmoved_files, unmoved_leaves, unmoved_only}
use Rattle.dm_open.proofs.reopening.reopen.Goals as goal

pub returns-in-Err-clause-keeps : goal.returns-in-Err-clause-keeps
returns-in-Err-clause-keeps g c told earlier more kept =
    let D = g.D.Disk in
    found_keeps D.tells (D.history c.args.store.now.disk) (D.history c.args.store.now.disk) (D.history c.args.store.now.disk) c.args.at (unmoved_leaves (D.history c.args.store.now.disk)) (unmoved_files (D.history c.args.store.now.disk)) (said_of (g.O.Origin.says c.args.store.now.origin)) earlier more kept

pub returns-in-Err-clause-store : goal.returns-in-Err-clause-store
returns-in-Err-clause-store g c =
    let D = g.D.Disk in
    record { desk = desk_unread D.tells D.history D.far (view_of c.args.store.now) (record (view_of c.args.store.now) { disk = c.args.store.now.disk; broken = true }) refl (λ told. unmoved_leaves (D.history c.args.store.now.disk)) (λ told. unmoved_files (D.history c.args.store.now.disk)) (λ told. g.met.D.Disk.sound told c.args.store.now.disk (D.history c.args.store.now.disk).moment) c.requires.store.desk; room = c.requires.store.room }

pub returns-in-Err-clause-answers : goal.returns-in-Err-clause-answers
returns-in-Err-clause-answers g c =
    let D = g.D.Disk in
    inl (stays_unread D.tells D.history D.far (view_of c.args.store.now) (record (view_of c.args.store.now) { disk = c.args.store.now.disk; broken = true }) refl (λ told. unmoved_leaves (D.history c.args.store.now.disk)) (λ told. unmoved_files (D.history c.args.store.now.disk)) (λ told. g.met.D.Disk.sound told c.args.store.now.disk (D.history c.args.store.now.disk).moment) (said_of (g.O.Origin.says c.args.store.now.origin)) (λ told. inl (unmoved_only (D.history c.args.store.now.disk))) refl)

pub returns-in-Err-Disk-clause-store : goal.returns-in-Err-Disk-clause-store
returns-in-Err-Disk-clause-store g c =
    let D = g.D.Disk in
    record { desk = desk_unread D.tells D.history D.far (view_of c.args.store.now) (record (view_of c.args.store.now) { disk = c.find_list.new.disk; broken = true }) refl c.find_list.ensures.moments c.find_list.ensures.beside (λ told. g.met.D.Disk.sound told c.args.store.now.disk (D.history c.args.store.now.disk).moment) c.requires.store.desk; room = c.requires.store.room }

pub returns-in-Err-Disk-clause-answers : goal.returns-in-Err-Disk-clause-answers
returns-in-Err-Disk-clause-answers g c =
    let D = g.D.Disk in
    inl (stays_unread D.tells D.history D.far (view_of c.args.store.now) (record (view_of c.args.store.now) { disk = c.find_list.new.disk; broken = true }) refl c.find_list.ensures.moments c.find_list.ensures.beside (λ told. g.met.D.Disk.sound told c.args.store.now.disk (D.history c.args.store.now.disk).moment) (said_of (g.O.Origin.says c.args.store.now.origin)) (λ told. (subst (FindFails (D.history c.args.store.now.disk) (D.history c.find_list.new.disk) c.args.store.now.limits.items) c.in-Err-Disk.field-0-is (c.in-Err-Disk.ensures.refused told))) c.find_list.ensures.far)

pub returns-in-Err-Disk-clause-moments : goal.returns-in-Err-Disk-clause-moments
returns-in-Err-Disk-clause-moments g c told =
    let D = g.D.Disk in
    found_opens D.tells (D.history c.args.store.now.disk) (D.history c.find_list.new.disk) (D.history c.find_list.new.disk) c.args.at (c.find_list.ensures.moments told) (c.find_list.ensures.beside told)

pub returns-in-Err-Disk-clause-keeps : goal.returns-in-Err-Disk-clause-keeps
returns-in-Err-Disk-clause-keeps g c told earlier more kept =
    let D = g.D.Disk in
    found_keeps D.tells (D.history c.args.store.now.disk) (D.history c.find_list.new.disk) (D.history c.find_list.new.disk) c.args.at (c.find_list.ensures.moments told) (c.find_list.ensures.beside told) (said_of (g.O.Origin.says c.args.store.now.origin)) earlier more kept

pub returns-in-Err-Damaged-clause-store : goal.returns-in-Err-Damaged-clause-store
returns-in-Err-Damaged-clause-store g c =
    let D = g.D.Disk in
    record { desk = desk_unread D.tells D.history D.far (view_of c.args.store.now) (record (view_of c.args.store.now) { disk = c.find_list.new.disk; broken = true }) refl c.find_list.ensures.moments c.find_list.ensures.beside (λ told. g.met.D.Disk.sound told c.args.store.now.disk (D.history c.args.store.now.disk).moment) c.requires.store.desk; room = c.requires.store.room }

pub returns-in-Err-Damaged-clause-answers : goal.returns-in-Err-Damaged-clause-answers
returns-in-Err-Damaged-clause-answers g c =
    let D = g.D.Disk in
    (refl, λ told. damaged_fails D.tells D.history D.far (said_of (g.O.Origin.says c.args.store.now.origin)) c.args.store.now.disk c.find_list.new.disk c.args.store.now.limits.items c.args.at c.find_list.ensures.far (c.find_list.ensures.moments told) (c.find_list.ensures.beside told) c.in-Err-Damaged.place (subst (FindFails (D.history c.args.store.now.disk) (D.history c.find_list.new.disk) c.args.store.now.limits.items) c.in-Err-Damaged.field-0-is (c.in-Err-Damaged.ensures.refused told)))

pub returns-in-Err-Damaged-clause-moments : goal.returns-in-Err-Damaged-clause-moments
returns-in-Err-Damaged-clause-moments g c told =
    let D = g.D.Disk in
    found_opens D.tells (D.history c.args.store.now.disk) (D.history c.find_list.new.disk) (D.history c.find_list.new.disk) c.args.at (c.find_list.ensures.moments told) (c.find_list.ensures.beside told)

pub returns-in-Err-Damaged-clause-keeps : goal.returns-in-Err-Damaged-clause-keeps
returns-in-Err-Damaged-clause-keeps g c told earlier more kept =
    let D = g.D.Disk in
    found_keeps D.tells (D.history c.args.store.now.disk) (D.history c.find_list.new.disk) (D.history c.find_list.new.disk) c.args.at (c.find_list.ensures.moments told) (c.find_list.ensures.beside told) (said_of (g.O.Origin.says c.args.store.now.origin)) earlier more kept

pub returns-in-Err-NoMemory-clause-store : goal.returns-in-Err-NoMemory-clause-store
returns-in-Err-NoMemory-clause-store g c =
    let D = g.D.Disk in
    record { desk = desk_unread D.tells D.history D.far (view_of c.args.store.now) (record (view_of c.args.store.now) { disk = c.find_list.new.disk; broken = true }) refl c.find_list.ensures.moments c.find_list.ensures.beside (λ told. g.met.D.Disk.sound told c.args.store.now.disk (D.history c.args.store.now.disk).moment) c.requires.store.desk; room = c.requires.store.room }

pub returns-in-Err-NoMemory-clause-answers : goal.returns-in-Err-NoMemory-clause-answers
returns-in-Err-NoMemory-clause-answers g c =
    let D = g.D.Disk in
    inl (stays_unread D.tells D.history D.far (view_of c.args.store.now) (record (view_of c.args.store.now) { disk = c.find_list.new.disk; broken = true }) refl c.find_list.ensures.moments c.find_list.ensures.beside (λ told. g.met.D.Disk.sound told c.args.store.now.disk (D.history c.args.store.now.disk).moment) (said_of (g.O.Origin.says c.args.store.now.origin)) (λ told. (subst (FindFails (D.history c.args.store.now.disk) (D.history c.find_list.new.disk) c.args.store.now.limits.items) c.in-Err-NoMemory.field-0-is (c.in-Err-NoMemory.ensures.refused told))) c.find_list.ensures.far)

pub returns-in-Err-NoMemory-clause-moments : goal.returns-in-Err-NoMemory-clause-moments
returns-in-Err-NoMemory-clause-moments g c told =
    let D = g.D.Disk in
    found_opens D.tells (D.history c.args.store.now.disk) (D.history c.find_list.new.disk) (D.history c.find_list.new.disk) c.args.at (c.find_list.ensures.moments told) (c.find_list.ensures.beside told)

pub returns-in-Err-NoMemory-clause-keeps : goal.returns-in-Err-NoMemory-clause-keeps
returns-in-Err-NoMemory-clause-keeps g c told earlier more kept =
    let D = g.D.Disk in
    found_keeps D.tells (D.history c.args.store.now.disk) (D.history c.find_list.new.disk) (D.history c.find_list.new.disk) c.args.at (c.find_list.ensures.moments told) (c.find_list.ensures.beside told) (said_of (g.O.Origin.says c.args.store.now.origin)) earlier more kept

pub returns-in-Ok-resume-clause-answers : goal.returns-in-Ok-resume-clause-answers
returns-in-Ok-resume-clause-answers g c =
    let D = g.D.Disk in
    let found = c.in-Ok-find_list.ensures.found in
    let old : View g.row.D.Denot g.row.O.Denot = (record { disk = c.find_list.new.disk; origin = c.args.store.now.origin; limits = c.args.store.now.limits; items = c.in-Ok-find_list.found.items; lives = c.new-lives.result.items; gate = c.in-Ok-find_list.found.journal; broken = true; list = c.reserve.new.self.items; failed = [] }) in
    let resumes = c.in-Ok-resume.ensures.makes found.found found.list in
    record { opened = is_opened D.tells D.history (λ o. said_of (g.O.Origin.says o)) c.args.store.now.disk c.args.at c.args.store.now.limits.items old (view_of c.resume.new.store) found c.find_list.ensures.beside c.requires.store.desk.limits_are.items.1 (λ told. g.met.D.Disk.sound told c.args.store.now.disk (D.history c.args.store.now.disk).moment) (Ok c.in-Ok-resume.field-0) resumes D.far (c.reserve.ensures.items ∙ c.new-list.ensures.items) c.find_list.ensures.far c.resume.ensures.far refl (ap (λ (l : Limits). l.items) resumes.tries.limits) c.find_list.ensures.moments; origin = resumes.tries.origin; limits = resumes.tries.limits }

pub returns-in-Ok-resume-clause-moments : goal.returns-in-Ok-resume-clause-moments
returns-in-Ok-resume-clause-moments g c told =
    let D = g.D.Disk in
    let found = c.in-Ok-find_list.ensures.found in
    let old : View g.row.D.Denot g.row.O.Denot = (record { disk = c.find_list.new.disk; origin = c.args.store.now.origin; limits = c.args.store.now.limits; items = c.in-Ok-find_list.found.items; lives = c.new-lives.result.items; gate = c.in-Ok-find_list.found.journal; broken = true; list = c.reserve.new.self.items; failed = [] }) in
    let resumes = c.in-Ok-resume.ensures.makes found.found found.list in
    open_moments D.tells D.history (λ o. said_of (g.O.Origin.says o)) c.args.store.now.disk c.args.at c.args.store.now.limits.items old (view_of c.resume.new.store) found c.find_list.ensures.beside c.requires.store.desk.limits_are.items.1 (λ told. g.met.D.Disk.sound told c.args.store.now.disk (D.history c.args.store.now.disk).moment) (Ok c.in-Ok-resume.field-0) resumes told (c.find_list.ensures.moments told)

pub returns-in-Ok-resume-clause-keeps : goal.returns-in-Ok-resume-clause-keeps
returns-in-Ok-resume-clause-keeps g c told =
    let D = g.D.Disk in
    let found = c.in-Ok-find_list.ensures.found in
    let old : View g.row.D.Denot g.row.O.Denot = (record { disk = c.find_list.new.disk; origin = c.args.store.now.origin; limits = c.args.store.now.limits; items = c.in-Ok-find_list.found.items; lives = c.new-lives.result.items; gate = c.in-Ok-find_list.found.journal; broken = true; list = c.reserve.new.self.items; failed = [] }) in
    let resumes = c.in-Ok-resume.ensures.makes found.found found.list in
    open_keeps D.tells D.history (λ o. said_of (g.O.Origin.says o)) c.args.store.now.disk c.args.at c.args.store.now.limits.items old (view_of c.resume.new.store) found c.find_list.ensures.beside c.requires.store.desk.limits_are.items.1 (λ told. g.met.D.Disk.sound told c.args.store.now.disk (D.history c.args.store.now.disk).moment) (Ok c.in-Ok-resume.field-0) resumes told (c.find_list.ensures.moments told)

pub returns-in-Ok-resume-clause-beside : goal.returns-in-Ok-resume-clause-beside
returns-in-Ok-resume-clause-beside g c told =
    let D = g.D.Disk in
    let found = c.in-Ok-find_list.ensures.found in
    let old : View g.row.D.Denot g.row.O.Denot = (record { disk = c.find_list.new.disk; origin = c.args.store.now.origin; limits = c.args.store.now.limits; items = c.in-Ok-find_list.found.items; lives = c.new-lives.result.items; gate = c.in-Ok-find_list.found.journal; broken = true; list = c.reserve.new.self.items; failed = [] }) in
    open_beside D.tells D.history c.args.store.now.disk c.args.store.now.limits.items old (view_of c.resume.new.store) found told (c.find_list.ensures.beside told) (c.resume.ensures.beside told)

pub returns-in-Err-Disk-resume-clause-answers : goal.returns-in-Err-Disk-resume-clause-answers
returns-in-Err-Disk-resume-clause-answers g c =
    let D = g.D.Disk in
    let found = c.in-Ok-find_list.ensures.found in
    let old : View g.row.D.Denot g.row.O.Denot = (record { disk = c.find_list.new.disk; origin = c.args.store.now.origin; limits = c.args.store.now.limits; items = c.in-Ok-find_list.found.items; lives = c.new-lives.result.items; gate = c.in-Ok-find_list.found.journal; broken = true; list = c.reserve.new.self.items; failed = [] }) in
    let resumes = c.in-Err-Disk-resume.ensures.makes found.found found.list in
    inr (stays_read D.tells D.history (λ o. said_of (g.O.Origin.says o)) c.args.at (view_of c.args.store.now) old (view_of c.resume.new.store) found c.find_list.ensures.beside c.requires.store.desk.limits_are.items.1 (λ told. g.met.D.Disk.sound told c.args.store.now.disk (D.history c.args.store.now.disk).moment) refl refl D.far (c.reserve.ensures.items ∙ c.new-list.ensures.items) c.find_list.ensures.far c.resume.ensures.far c.in-Err-Disk-resume.field-0 resumes c.find_list.ensures.moments (broken_of D.tells D.history (λ o. said_of (g.O.Origin.says o)) found.found old (view_of c.resume.new.store) resumes.settled resumes.rest resumes.left c.in-Err-Disk-resume.field-0 resumes.ends))

pub returns-in-Err-Disk-resume-clause-moments : goal.returns-in-Err-Disk-resume-clause-moments
returns-in-Err-Disk-resume-clause-moments g c told =
    let D = g.D.Disk in
    let found = c.in-Ok-find_list.ensures.found in
    let old : View g.row.D.Denot g.row.O.Denot = (record { disk = c.find_list.new.disk; origin = c.args.store.now.origin; limits = c.args.store.now.limits; items = c.in-Ok-find_list.found.items; lives = c.new-lives.result.items; gate = c.in-Ok-find_list.found.journal; broken = true; list = c.reserve.new.self.items; failed = [] }) in
    let resumes = c.in-Err-Disk-resume.ensures.makes found.found found.list in
    open_moments D.tells D.history (λ o. said_of (g.O.Origin.says o)) c.args.store.now.disk c.args.at c.args.store.now.limits.items old (view_of c.resume.new.store) found c.find_list.ensures.beside c.requires.store.desk.limits_are.items.1 (λ told. g.met.D.Disk.sound told c.args.store.now.disk (D.history c.args.store.now.disk).moment) (Err c.in-Err-Disk-resume.field-0) resumes told (c.find_list.ensures.moments told)

pub returns-in-Err-Disk-resume-clause-keeps : goal.returns-in-Err-Disk-resume-clause-keeps
returns-in-Err-Disk-resume-clause-keeps g c told =
    let D = g.D.Disk in
    let found = c.in-Ok-find_list.ensures.found in
    let old : View g.row.D.Denot g.row.O.Denot = (record { disk = c.find_list.new.disk; origin = c.args.store.now.origin; limits = c.args.store.now.limits; items = c.in-Ok-find_list.found.items; lives = c.new-lives.result.items; gate = c.in-Ok-find_list.found.journal; broken = true; list = c.reserve.new.self.items; failed = [] }) in
    let resumes = c.in-Err-Disk-resume.ensures.makes found.found found.list in
    open_keeps D.tells D.history (λ o. said_of (g.O.Origin.says o)) c.args.store.now.disk c.args.at c.args.store.now.limits.items old (view_of c.resume.new.store) found c.find_list.ensures.beside c.requires.store.desk.limits_are.items.1 (λ told. g.met.D.Disk.sound told c.args.store.now.disk (D.history c.args.store.now.disk).moment) (Err c.in-Err-Disk-resume.field-0) resumes told (c.find_list.ensures.moments told)

pub returns-in-Err-Disk-resume-clause-beside : goal.returns-in-Err-Disk-resume-clause-beside
returns-in-Err-Disk-resume-clause-beside g c told =
    let D = g.D.Disk in
    let found = c.in-Ok-find_list.ensures.found in
    let old : View g.row.D.Denot g.row.O.Denot = (record { disk = c.find_list.new.disk; origin = c.args.store.now.origin; limits = c.args.store.now.limits; items = c.in-Ok-find_list.found.items; lives = c.new-lives.result.items; gate = c.in-Ok-find_list.found.journal; broken = true; list = c.reserve.new.self.items; failed = [] }) in
    open_beside D.tells D.history c.args.store.now.disk c.args.store.now.limits.items old (view_of c.resume.new.store) found told (c.find_list.ensures.beside told) (c.resume.ensures.beside told)

pub returns-in-Err-NoMemory-resume-clause-answers : goal.returns-in-Err-NoMemory-resume-clause-answers
returns-in-Err-NoMemory-resume-clause-answers g c =
    let D = g.D.Disk in
    let found = c.in-Ok-find_list.ensures.found in
    let old : View g.row.D.Denot g.row.O.Denot = (record { disk = c.find_list.new.disk; origin = c.args.store.now.origin; limits = c.args.store.now.limits; items = c.in-Ok-find_list.found.items; lives = c.new-lives.result.items; gate = c.in-Ok-find_list.found.journal; broken = true; list = c.reserve.new.self.items; failed = [] }) in
    let resumes = c.in-Err-NoMemory-resume.ensures.makes found.found found.list in
    inr (
      stays_read D.tells D.history (λ o. said_of (g.O.Origin.says o)) c.args.at (view_of c.args.store.now) old (view_of c.resume.new.store) found c.find_list.ensures.beside c.requires.store.desk.limits_are.items.1 (λ told. g.met.D.Disk.sound told c.args.store.now.disk (D.history c.args.store.now.disk).moment) refl refl D.far (c.reserve.ensures.items ∙ c.new-list.ensures.items) c.find_list.ensures.far c.resume.ensures.far c.in-Err-NoMemory-resume.field-0 resumes c.find_list.ensures.moments (broken_of D.tells D.history (λ o. said_of (g.O.Origin.says o)) found.found old (view_of c.resume.new.store) resumes.settled resumes.rest resumes.left c.in-Err-NoMemory-resume.field-0 resumes.ends),
      (subst (λ (f : Hindered). EndsAs D.tells D.history (λ o. said_of (g.O.Origin.says o)) found.found old (view_of c.resume.new.store) resumes.settled resumes.rest resumes.left (Err f)) c.in-Err-NoMemory-resume.field-0-is resumes.ends).1,
    )

pub returns-in-Err-NoMemory-resume-clause-moments : goal.returns-in-Err-NoMemory-resume-clause-moments
returns-in-Err-NoMemory-resume-clause-moments g c told =
    let D = g.D.Disk in
    let found = c.in-Ok-find_list.ensures.found in
    let old : View g.row.D.Denot g.row.O.Denot = (record { disk = c.find_list.new.disk; origin = c.args.store.now.origin; limits = c.args.store.now.limits; items = c.in-Ok-find_list.found.items; lives = c.new-lives.result.items; gate = c.in-Ok-find_list.found.journal; broken = true; list = c.reserve.new.self.items; failed = [] }) in
    let resumes = c.in-Err-NoMemory-resume.ensures.makes found.found found.list in
    open_moments D.tells D.history (λ o. said_of (g.O.Origin.says o)) c.args.store.now.disk c.args.at c.args.store.now.limits.items old (view_of c.resume.new.store) found c.find_list.ensures.beside c.requires.store.desk.limits_are.items.1 (λ told. g.met.D.Disk.sound told c.args.store.now.disk (D.history c.args.store.now.disk).moment) (Err c.in-Err-NoMemory-resume.field-0) resumes told (c.find_list.ensures.moments told)

pub returns-in-Err-NoMemory-resume-clause-keeps : goal.returns-in-Err-NoMemory-resume-clause-keeps
returns-in-Err-NoMemory-resume-clause-keeps g c told =
    let D = g.D.Disk in
    let found = c.in-Ok-find_list.ensures.found in
    let old : View g.row.D.Denot g.row.O.Denot = (record { disk = c.find_list.new.disk; origin = c.args.store.now.origin; limits = c.args.store.now.limits; items = c.in-Ok-find_list.found.items; lives = c.new-lives.result.items; gate = c.in-Ok-find_list.found.journal; broken = true; list = c.reserve.new.self.items; failed = [] }) in
    let resumes = c.in-Err-NoMemory-resume.ensures.makes found.found found.list in
    open_keeps D.tells D.history (λ o. said_of (g.O.Origin.says o)) c.args.store.now.disk c.args.at c.args.store.now.limits.items old (view_of c.resume.new.store) found c.find_list.ensures.beside c.requires.store.desk.limits_are.items.1 (λ told. g.met.D.Disk.sound told c.args.store.now.disk (D.history c.args.store.now.disk).moment) (Err c.in-Err-NoMemory-resume.field-0) resumes told (c.find_list.ensures.moments told)

pub returns-in-Err-NoMemory-resume-clause-beside : goal.returns-in-Err-NoMemory-resume-clause-beside
returns-in-Err-NoMemory-resume-clause-beside g c told =
    let D = g.D.Disk in
    let found = c.in-Ok-find_list.ensures.found in
    let old : View g.row.D.Denot g.row.O.Denot = (record { disk = c.find_list.new.disk; origin = c.args.store.now.origin; limits = c.args.store.now.limits; items = c.in-Ok-find_list.found.items; lives = c.new-lives.result.items; gate = c.in-Ok-find_list.found.journal; broken = true; list = c.reserve.new.self.items; failed = [] }) in
    open_beside D.tells D.history c.args.store.now.disk c.args.store.now.limits.items old (view_of c.resume.new.store) found told (c.find_list.ensures.beside told) (c.resume.ensures.beside told)

pub returns-in-Err-clause-refused : goal.returns-in-Err-clause-refused
returns-in-Err-clause-refused g c =
    let D = g.D.Disk in
    inl (keeps_unread D.tells D.history D.far (view_of c.args.store.now) (record (view_of c.args.store.now) { disk = c.args.store.now.disk; broken = true }) refl (λ told. unmoved_leaves (D.history c.args.store.now.disk)) (λ told. unmoved_files (D.history c.args.store.now.disk)) (λ told. g.met.D.Disk.sound told c.args.store.now.disk (D.history c.args.store.now.disk).moment) (said_of (g.O.Origin.says c.args.store.now.origin)) refl)

pub returns-in-Err-Disk-clause-refused : goal.returns-in-Err-Disk-clause-refused
returns-in-Err-Disk-clause-refused g c =
    let D = g.D.Disk in
    inl (keeps_unread D.tells D.history D.far (view_of c.args.store.now) (record (view_of c.args.store.now) { disk = c.find_list.new.disk; broken = true }) refl c.find_list.ensures.moments c.find_list.ensures.beside (λ told. g.met.D.Disk.sound told c.args.store.now.disk (D.history c.args.store.now.disk).moment) (said_of (g.O.Origin.says c.args.store.now.origin)) c.find_list.ensures.far)

pub returns-in-Err-Damaged-clause-refused : goal.returns-in-Err-Damaged-clause-refused
returns-in-Err-Damaged-clause-refused g c =
    let D = g.D.Disk in (
      keeps_unread D.tells D.history D.far (view_of c.args.store.now) (record (view_of c.args.store.now) { disk = c.find_list.new.disk; broken = true }) refl c.find_list.ensures.moments c.find_list.ensures.beside (λ told. g.met.D.Disk.sound told c.args.store.now.disk (D.history c.args.store.now.disk).moment) (said_of (g.O.Origin.says c.args.store.now.origin)) c.find_list.ensures.far,
      stays_damaged D.tells D.history D.far c.args.store.now.disk c.find_list.new.disk c.find_list.ensures.far c.find_list.ensures.moments c.args.store.now.limits.items c.in-Err-Damaged.place
          (λ told. subst (FindFails (D.history c.args.store.now.disk) (D.history c.find_list.new.disk) c.args.store.now.limits.items) c.in-Err-Damaged.field-0-is (c.in-Err-Damaged.ensures.refused told)),
    )

pub returns-in-Err-NoMemory-clause-refused : goal.returns-in-Err-NoMemory-clause-refused
returns-in-Err-NoMemory-clause-refused g c =
    let D = g.D.Disk in
    inl (keeps_unread D.tells D.history D.far (view_of c.args.store.now) (record (view_of c.args.store.now) { disk = c.find_list.new.disk; broken = true }) refl c.find_list.ensures.moments c.find_list.ensures.beside (λ told. g.met.D.Disk.sound told c.args.store.now.disk (D.history c.args.store.now.disk).moment) (said_of (g.O.Origin.says c.args.store.now.origin)) c.find_list.ensures.far)

pub returns-in-Err-Disk-resume-clause-refused : goal.returns-in-Err-Disk-resume-clause-refused
returns-in-Err-Disk-resume-clause-refused g c =
    let D = g.D.Disk in
    let found = c.in-Ok-find_list.ensures.found in
    let old : View g.row.D.Denot g.row.O.Denot = (record { disk = c.find_list.new.disk; origin = c.args.store.now.origin; limits = c.args.store.now.limits; items = c.in-Ok-find_list.found.items; lives = c.new-lives.result.items; gate = c.in-Ok-find_list.found.journal; broken = true; list = c.reserve.new.self.items; failed = [] }) in
    let resumes = c.in-Err-Disk-resume.ensures.makes found.found found.list in
    inr (keeps_tried D.tells D.history (λ o. said_of (g.O.Origin.says o)) c.args.at (view_of c.args.store.now) old (view_of c.resume.new.store) found c.find_list.ensures.beside c.requires.store.desk.limits_are.items.1 (λ told. g.met.D.Disk.sound told c.args.store.now.disk (D.history c.args.store.now.disk).moment) refl refl D.far (c.reserve.ensures.items ∙ c.new-list.ensures.items) c.find_list.ensures.far c.resume.ensures.far c.in-Err-Disk-resume.field-0 resumes c.find_list.ensures.moments)

pub returns-in-Err-NoMemory-resume-clause-refused : goal.returns-in-Err-NoMemory-resume-clause-refused
returns-in-Err-NoMemory-resume-clause-refused g c =
    let D = g.D.Disk in
    let found = c.in-Ok-find_list.ensures.found in
    let old : View g.row.D.Denot g.row.O.Denot = (record { disk = c.find_list.new.disk; origin = c.args.store.now.origin; limits = c.args.store.now.limits; items = c.in-Ok-find_list.found.items; lives = c.new-lives.result.items; gate = c.in-Ok-find_list.found.journal; broken = true; list = c.reserve.new.self.items; failed = [] }) in
    let resumes = c.in-Err-NoMemory-resume.ensures.makes found.found found.list in
    inr (
      keeps_tried D.tells D.history (λ o. said_of (g.O.Origin.says o)) c.args.at (view_of c.args.store.now) old (view_of c.resume.new.store) found c.find_list.ensures.beside c.requires.store.desk.limits_are.items.1 (λ told. g.met.D.Disk.sound told c.args.store.now.disk (D.history c.args.store.now.disk).moment) refl refl D.far (c.reserve.ensures.items ∙ c.new-list.ensures.items) c.find_list.ensures.far c.resume.ensures.far c.in-Err-NoMemory-resume.field-0 resumes c.find_list.ensures.moments,
      (subst (λ (f : Hindered). EndsAs D.tells D.history (λ o. said_of (g.O.Origin.says o)) found.found old (view_of c.resume.new.store) resumes.settled resumes.rest resumes.left (Err f)) c.in-Err-NoMemory-resume.field-0-is resumes.ends).1,
    )
