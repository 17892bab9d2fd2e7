use Rattle.std.proofs.Common.{◌≡◌, true, [], ◌∷◌, Some, sym, subst}
use Rattle.dm_disk_model.specs.Moments.{KeepsFiles}
use Rattle.dm_item.specs.Listing.{item_in}
use Rattle.dm_journal.proofs.Calls.{keeps_then as files_then}
use Rattle.dm_store.specs.Becomes.{Becomes, Recorded}
use Rattle.dm_store.specs.Keeps.{Keeps, StaysNear}
use Rattle.dm_store.specs.Origin.{said_of}
use Rattle.dm_store.specs.Store.{view_of}
use Rattle.dm_store.specs.View.{View}
use Rattle.dm_store.proofs.Composing.{near_then}
use Rattle.dm_store.proofs.Keeping.{keeps_same, keeps_then}
use Rattle.dm_begin.specs.Start.{began_by, restart_by}
use Rattle.dm_begin.proofs.Starts.{restart_taken}
use Rattle.dm_begin.proofs.Begins.{anew_answers, anew_journal, restart_journal}
use Rattle.dm_begin.proofs.Firsts.{anew_life, anew_stands, anew_taken}
use Rattle.dm_begin.proofs.beginning.begin_anew.Goals as goal

pub returns-in_default-clause-keeps : goal.returns-in_default-clause-keeps
returns-in_default-clause-keeps g c =
    keeps_same g.D.Disk.tells g.D.Disk.history (λ o. said_of (g.O.Origin.says o)) (view_of c.args.store.now) (view_of c.ready_anew.new.store) c.ready_anew.ensures.same

pub record_restart-requires-clause-taken : goal.record_restart-requires-clause-taken
record_restart-requires-clause-taken g c =
    restart_taken c.args.by c.args.pass c.args.because c.requires.start.item c.args.id c.ready_anew.new.store.items (subst (λ (v : View g.row.D.Denot g.row.O.Denot). item_in c.args.id.0 v.items.items ≡ Some c.requires.start.item) (sym c.ready_anew.ensures.same) c.requires.start.there) c.requires.start.is.may c.requires.start.is.is

pub returns-in-Err-clause-answers : goal.returns-in-Err-clause-answers
returns-in-Err-clause-answers g c =
    restart_journal g.D.Disk.tells g.D.Disk.history g.D.Disk.faults c.args.id c.args.by c.args.at (view_of c.args.store.now) (view_of c.record_restart.new.store) c.args.pass c.args.because c.requires.start c.in-Err.kind (subst (λ (v : View g.row.D.Denot g.row.O.Denot). Becomes v (view_of c.record_restart.new.store) [] (restart_by c.args.pass c.args.because ∷ []) true) c.ready_anew.ensures.same c.in-Err.ensures.makes)

pub record_began-requires-clause-taken : goal.record_began-requires-clause-taken
record_began-requires-clause-taken g c =
    anew_taken g.D.Disk.tells g.D.Disk.history (λ o. said_of (g.O.Origin.says o)) (view_of c.args.store.now) (view_of c.record_restart.new.store) c.record_restart.ensures.store.desk c.in-Ok-record_restart.ensures.makes.broken_is c.args.id c.args.pass c.args.because c.args.by c.args.at c.requires.start (subst (λ (v : View g.row.D.Denot g.row.O.Denot). Recorded v (view_of c.record_restart.new.store) (restart_by c.args.pass c.args.because ∷ [])) c.ready_anew.ensures.same c.in-Ok-record_restart.ensures.makes).items_are

pub record_began-requires-clause-life : goal.record_began-requires-clause-life
record_began-requires-clause-life g c =
    anew_life g.D.Disk.tells g.D.Disk.history (λ o. said_of (g.O.Origin.says o)) (view_of c.args.store.now) (view_of c.record_restart.new.store) c.record_restart.ensures.store.desk c.in-Ok-record_restart.ensures.makes.broken_is c.args.id c.args.pass c.args.because c.args.by c.args.at c.requires.start (subst (λ (v : View g.row.D.Denot g.row.O.Denot). Recorded v (view_of c.record_restart.new.store) (restart_by c.args.pass c.args.because ∷ [])) c.ready_anew.ensures.same c.in-Ok-record_restart.ensures.makes).items_are c.in-Ok.beginning.life c.in-Ok.ensures.life

pub record_began-requires-clause-stand : goal.record_began-requires-clause-stand
record_began-requires-clause-stand g c =
    anew_stands g.D.Disk.tells g.D.Disk.history (λ o. said_of (g.O.Origin.says o)) (view_of c.args.store.now) (view_of c.record_restart.new.store) c.record_restart.ensures.store.desk c.in-Ok-record_restart.ensures.makes.broken_is c.args.id c.args.pass c.args.because c.args.by c.args.at c.requires.start (subst (λ (v : View g.row.D.Denot g.row.O.Denot). Recorded v (view_of c.record_restart.new.store) (restart_by c.args.pass c.args.because ∷ [])) c.ready_anew.ensures.same c.in-Ok-record_restart.ensures.makes).items_are

pub record_began-requires-clause-room : goal.record_began-requires-clause-room
record_began-requires-clause-room g c =
    c.in-Ok-record_restart.ensures.room 4 c.in-Ok.ensures.room

pub returns-in-Ok-record_began-clause-answers : goal.returns-in-Ok-record_began-clause-answers
returns-in-Ok-record_began-clause-answers g c =
    anew_answers g.D.Disk.tells g.D.Disk.history g.D.Disk.faults c.args.id c.args.by c.args.at (view_of c.args.store.now) (view_of c.record_began.new.store) c.args.pass c.args.because c.requires.start (view_of c.record_restart.new.store) (subst (λ (v : View g.row.D.Denot g.row.O.Denot). Recorded v (view_of c.record_restart.new.store) (restart_by c.args.pass c.args.because ∷ [])) c.ready_anew.ensures.same c.in-Ok-record_restart.ensures.makes) c.in-Ok-record_began.ensures.makes

pub returns-in-Ok-record_began-clause-keeps : goal.returns-in-Ok-record_began-clause-keeps
returns-in-Ok-record_began-clause-keeps g c =
    keeps_then g.D.Disk.tells g.D.Disk.history (λ o. said_of (g.O.Origin.says o)) (view_of c.args.store.now) (view_of c.record_restart.new.store) (view_of c.record_began.new.store) (subst (λ (v : View g.row.D.Denot g.row.O.Denot). Keeps g.D.Disk.tells g.D.Disk.history (λ o. said_of (g.O.Origin.says o)) v (view_of c.record_restart.new.store)) c.ready_anew.ensures.same c.record_restart.ensures.keeps) (subst (λ (v : View g.row.D.Denot g.row.O.Denot). Recorded v (view_of c.record_restart.new.store) (restart_by c.args.pass c.args.because ∷ [])) c.ready_anew.ensures.same c.in-Ok-record_restart.ensures.makes).origin (subst (λ (v : View g.row.D.Denot g.row.O.Denot). Recorded v (view_of c.record_restart.new.store) (restart_by c.args.pass c.args.because ∷ [])) c.ready_anew.ensures.same c.in-Ok-record_restart.ensures.makes).failed_is c.record_began.ensures.keeps

pub returns-in-Ok-record_began-clause-beside : goal.returns-in-Ok-record_began-clause-beside
returns-in-Ok-record_began-clause-beside g c told =
    files_then (g.D.Disk.history c.args.store.now.disk) (g.D.Disk.history c.record_restart.new.store.disk) (g.D.Disk.history c.record_began.new.store.disk) (subst (λ (v : View g.row.D.Denot g.row.O.Denot). KeepsFiles (g.D.Disk.history v.disk) (g.D.Disk.history c.record_restart.new.store.disk)) c.ready_anew.ensures.same (c.record_restart.ensures.beside told)) (c.record_began.ensures.beside told)

pub returns-in-Ok-record_began-clause-far : goal.returns-in-Ok-record_began-clause-far
returns-in-Ok-record_began-clause-far g c =
    near_then (view_of c.args.store.now) (view_of c.record_restart.new.store) (view_of c.record_began.new.store) (restart_by c.args.pass c.args.because ∷ []) (subst (λ (v : View g.row.D.Denot g.row.O.Denot). Recorded v (view_of c.record_restart.new.store) (restart_by c.args.pass c.args.because ∷ [])) c.ready_anew.ensures.same c.in-Ok-record_restart.ensures.makes) (began_by c.args.pass c.args.by c.args.at ∷ []) (g.D.Disk.far c.args.store.now.disk) (g.D.Disk.far c.record_restart.new.store.disk) (g.D.Disk.far c.record_began.new.store.disk) c.in-Ok-record_began.ensures.makes.list_is
    (subst (λ (v : View g.row.D.Denot g.row.O.Denot). StaysNear (g.D.Disk.far v.disk) (g.D.Disk.far c.record_restart.new.store.disk) v (view_of c.record_restart.new.store)) c.ready_anew.ensures.same c.record_restart.ensures.far) c.record_began.ensures.far

pub returns-in-Err-record_began-clause-answers : goal.returns-in-Err-record_began-clause-answers
returns-in-Err-record_began-clause-answers g c =
    anew_journal g.D.Disk.tells g.D.Disk.history g.D.Disk.faults c.args.id c.args.by c.args.at (view_of c.args.store.now) (view_of c.record_began.new.store) c.args.pass c.args.because c.requires.start c.in-Err-record_began.kind (view_of c.record_restart.new.store) (subst (λ (v : View g.row.D.Denot g.row.O.Denot). Recorded v (view_of c.record_restart.new.store) (restart_by c.args.pass c.args.because ∷ [])) c.ready_anew.ensures.same c.in-Ok-record_restart.ensures.makes) c.in-Err-record_began.ensures.makes

pub returns-in-Err-record_began-clause-keeps : goal.returns-in-Err-record_began-clause-keeps
returns-in-Err-record_began-clause-keeps g c =
    keeps_then g.D.Disk.tells g.D.Disk.history (λ o. said_of (g.O.Origin.says o)) (view_of c.args.store.now) (view_of c.record_restart.new.store) (view_of c.record_began.new.store) (subst (λ (v : View g.row.D.Denot g.row.O.Denot). Keeps g.D.Disk.tells g.D.Disk.history (λ o. said_of (g.O.Origin.says o)) v (view_of c.record_restart.new.store)) c.ready_anew.ensures.same c.record_restart.ensures.keeps) (subst (λ (v : View g.row.D.Denot g.row.O.Denot). Recorded v (view_of c.record_restart.new.store) (restart_by c.args.pass c.args.because ∷ [])) c.ready_anew.ensures.same c.in-Ok-record_restart.ensures.makes).origin (subst (λ (v : View g.row.D.Denot g.row.O.Denot). Recorded v (view_of c.record_restart.new.store) (restart_by c.args.pass c.args.because ∷ [])) c.ready_anew.ensures.same c.in-Ok-record_restart.ensures.makes).failed_is c.record_began.ensures.keeps

pub returns-in-Err-record_began-clause-beside : goal.returns-in-Err-record_began-clause-beside
returns-in-Err-record_began-clause-beside g c told =
    files_then (g.D.Disk.history c.args.store.now.disk) (g.D.Disk.history c.record_restart.new.store.disk) (g.D.Disk.history c.record_began.new.store.disk) (subst (λ (v : View g.row.D.Denot g.row.O.Denot). KeepsFiles (g.D.Disk.history v.disk) (g.D.Disk.history c.record_restart.new.store.disk)) c.ready_anew.ensures.same (c.record_restart.ensures.beside told)) (c.record_began.ensures.beside told)

pub returns-in-Err-record_began-clause-far : goal.returns-in-Err-record_began-clause-far
returns-in-Err-record_began-clause-far g c =
    near_then (view_of c.args.store.now) (view_of c.record_restart.new.store) (view_of c.record_began.new.store) (restart_by c.args.pass c.args.because ∷ []) (subst (λ (v : View g.row.D.Denot g.row.O.Denot). Recorded v (view_of c.record_restart.new.store) (restart_by c.args.pass c.args.because ∷ [])) c.ready_anew.ensures.same c.in-Ok-record_restart.ensures.makes) [] (g.D.Disk.far c.args.store.now.disk) (g.D.Disk.far c.record_restart.new.store.disk) (g.D.Disk.far c.record_began.new.store.disk) c.in-Err-record_began.ensures.makes.list_is
    (subst (λ (v : View g.row.D.Denot g.row.O.Denot). StaysNear (g.D.Disk.far v.disk) (g.D.Disk.far c.record_restart.new.store.disk) v (view_of c.record_restart.new.store)) c.ready_anew.ensures.same c.record_restart.ensures.far) c.record_began.ensures.far
